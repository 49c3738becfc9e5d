use Rattle.moka_common.specs.Keys.{keys_by}
use Rattle.moka_core.proofs.CallerLemmas.{are_calls}
use Rattle.moka_core.proofs.step_laws.calls_by_steps_are_calls.Goals as goal

pub returns : goal.returns
returns g c =
    are_calls (keys_by (record { eq = g.K.PartialEq.eq; hash_input = g.K.Hash.hash_input }) g.S.BuildHasher g.S.Hasher.Hasher)
    g.W.WeighShared.weighs
