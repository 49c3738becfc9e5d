use Rattle.moka_common.specs.Keys.{keys_by}
use Rattle.moka_sync_model.proofs.ReplayLemmas.{lists_rest}
use Rattle.moka_sync_model.proofs.laws.lists_of_calls_rest.Goals as goal

pub returns : goal.returns
returns g c weigher =
    lists_rest (keys_by (record { eq = g.K.PartialEq.eq; hash_input = g.K.Hash.hash_input }) g.S.BuildHasher g.S.Hasher.Hasher)
    (g.W.WeighShared.weighs weigher) g.met.K.Eq.laws
