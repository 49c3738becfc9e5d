use Rattle.moka_common.specs.Keys.{keys_by}
use Rattle.moka_unsync_model.proofs.RemainLemmas.{removals_of_expired}
use Rattle.moka_unsync_model.proofs.laws.removals_of_expired_are_invalidations.Goals as goal

pub returns : goal.returns
returns g c =
    removals_of_expired (keys_by (record { eq = g.K.PartialEq.eq; hash_input = g.K.Hash.hash_input }) g.S.BuildHasher g.S.Hasher.Hasher)
    g.W.Weigh.weighs g.met.K.Eq.laws
