use Rattle.moka_common.specs.Keys.{keys_by}
use Rattle.moka_sync_model.proofs.ReplayLemmas.{iterations_copy}
use Rattle.moka_sync_model.proofs.laws.iterations_copy_all_shards.Goals as goal

pub returns : goal.returns
returns g c weigher =
    iterations_copy (keys_by (record { eq = g.K.PartialEq.eq; hash_input = g.K.Hash.hash_input }) g.S.BuildHasher g.S.Hasher.Hasher)
    (g.W.WeighShared.weighs weigher)
