use Rattle.moka_common.specs.Keys.{keys_by}
use Rattle.moka_unsync_model.proofs.ExcludedLemmas.{without_cause}
use Rattle.moka_unsync_model.proofs.history.entries_without_cause_stay.Goals as goal

pub returns : goal.returns
returns g c =
    without_cause (keys_by (record { eq = g.K.PartialEq.eq; hash_input = g.K.Hash.hash_input }) g.S.BuildHasher g.S.Hasher.Hasher) _ _
