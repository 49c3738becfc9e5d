use Rattle.moka_common.specs.Keys.{keys_by}
use Rattle.moka_sync_model.proofs.WeightLemmas.{keeps_weighed}
use Rattle.moka_sync_model.proofs.laws.stored_weights_are_answers.Goals as goal

pub returns : goal.returns
returns g c weigher =
    keeps_weighed (keys_by (record { eq = g.K.PartialEq.eq; hash_input = g.K.Hash.hash_input }) g.S.BuildHasher g.S.Hasher.Hasher)
    (g.W.WeighShared.weighs weigher) g.met.K.Eq.laws
