use Rattle.moka_common.specs.Keys.{keys_by}
use Rattle.moka_sync_model.proofs.CauseLemmas.{leaves_for_cause}
use Rattle.moka_sync_model.proofs.laws.entries_leave_for_causes.Goals as goal

pub returns : goal.returns
returns g c =
    leaves_for_cause (keys_by (record { eq = g.K.PartialEq.eq; hash_input = g.K.Hash.hash_input }) g.S.BuildHasher g.S.Hasher.Hasher)
