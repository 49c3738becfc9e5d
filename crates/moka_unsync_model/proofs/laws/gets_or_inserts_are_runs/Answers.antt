use Rattle.moka_common.specs.Keys.{keys_by}
use Rattle.moka_unsync_model.proofs.GetOrInsertLemmas.{gets_or_inserts}
use Rattle.moka_unsync_model.proofs.laws.gets_or_inserts_are_runs.Goals as goal

pub returns : goal.returns
returns g c =
    gets_or_inserts (keys_by (record { eq = g.K.PartialEq.eq; hash_input = g.K.Hash.hash_input }) g.S.BuildHasher g.S.Hasher.Hasher)
    g.W.Weigh.weighs
