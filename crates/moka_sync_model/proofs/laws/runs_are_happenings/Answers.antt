use Rattle.moka_common.specs.Keys.{keys_by}
use Rattle.moka_sync_model.proofs.ReplayLemmas.{runs_are_happenings}
use Rattle.moka_sync_model.proofs.laws.runs_are_happenings.Goals as goal

pub returns : goal.returns
returns g c weigher =
    runs_are_happenings (keys_by (record { eq = g.K.PartialEq.eq; hash_input = g.K.Hash.hash_input }) g.S.BuildHasher g.S.Hasher.Hasher)
    (g.W.WeighShared.weighs weigher)
