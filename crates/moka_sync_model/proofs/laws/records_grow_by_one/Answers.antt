use Rattle.moka_common.specs.Keys.{keys_by}
use Rattle.moka_sync_model.proofs.ReplayLemmas.{replays_one_more}
use Rattle.moka_sync_model.proofs.laws.records_grow_by_one.Goals as goal

pub returns : goal.returns
returns g c weigher =
    replays_one_more (keys_by (record { eq = g.K.PartialEq.eq; hash_input = g.K.Hash.hash_input }) g.S.BuildHasher g.S.Hasher.Hasher)
    (g.W.WeighShared.weighs weigher)
