use Rattle.moka_common.specs.Keys.{keys_by}
use Rattle.moka_unsync_model.proofs.BoundLemmas.{small-turns}
use Rattle.moka_unsync_model.proofs.laws.turns_are_small.Goals as goal

pub returns : goal.returns
returns g c =
    small-turns (keys_by (record { eq = g.K.PartialEq.eq; hash_input = g.K.Hash.hash_input }) g.S.BuildHasher g.S.Hasher.Hasher)
    g.W.Weigh.weighs
