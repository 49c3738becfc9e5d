use Rattle.moka_common.specs.Keys.{keys_by}
use Rattle.moka_unsync_model.proofs.OwnLemmas.{entries_are_own}
use Rattle.moka_unsync_model.proofs.laws.entries_are_own.Goals as goal

pub returns : goal.returns
returns g c =
    entries_are_own (keys_by (record { eq = g.K.PartialEq.eq; hash_input = g.K.Hash.hash_input }) g.S.BuildHasher g.S.Hasher.Hasher)
    g.W.Weigh.weighs
