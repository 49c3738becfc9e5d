use Rattle.moka_common.specs.Keys.{keys_by}
use Rattle.moka_unsync_model.proofs.ExcludedLemmas.{expired}
use Rattle.moka_unsync_model.proofs.history.expired_values_are_not_current.Goals as goal

pub returns : goal.returns
returns g c =
    expired (keys_by (record { eq = g.K.PartialEq.eq; hash_input = g.K.Hash.hash_input }) g.S.BuildHasher g.S.Hasher.Hasher)
    g.met.K.Eq.laws _
