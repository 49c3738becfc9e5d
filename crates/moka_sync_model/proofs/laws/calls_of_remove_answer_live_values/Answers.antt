use Rattle.moka_common.specs.Keys.{keys_by}
use Rattle.moka_sync_model.proofs.CalledLemmas.{calls_remove_live}
use Rattle.moka_sync_model.proofs.laws.calls_of_remove_answer_live_values.Goals as goal

pub returns : goal.returns
returns g c weigher =
    calls_remove_live (keys_by (record { eq = g.K.PartialEq.eq; hash_input = g.K.Hash.hash_input }) g.S.BuildHasher g.S.Hasher.Hasher)
    (g.W.WeighShared.weighs weigher) g.met.K.Eq.laws
