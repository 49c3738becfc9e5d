use Rattle.std.proofs.Common.{◌∙◌, ap, sym, subst}
use Rattle.moka_common.specs.Keys.{keys_by}
use Rattle.moka_sync_model.specs.declared.call.Call.TheVariants as call
use Rattle.moka_sync_model.specs.CoreCall.{IsCall}
use Rattle.moka_core.proofs.machine.Machine.call.Goals as goal

pub returns-in-Get-clause-step : goal.returns-in-Get-clause-step
returns-in-Get-clause-step g c =
    subst (λ made. IsCall
    (keys_by (record { eq = g.K.PartialEq.eq; hash_input = g.K.Hash.hash_input }) g.S.BuildHasher g.S.Hasher.Hasher)
    (g.W.WeighShared.weighs c.args.self.now.weigher) c.args.self.now.state made c.call_get.result c.call_get.new.self.state)
    (ap (λ key. call.Get key c.in-Get.now) c.get.ensures ∙ sym c.in-Get.is) c.call_get.ensures.step

pub returns-in-Remove-clause-step : goal.returns-in-Remove-clause-step
returns-in-Remove-clause-step g c =
    subst (λ made. IsCall
    (keys_by (record { eq = g.K.PartialEq.eq; hash_input = g.K.Hash.hash_input }) g.S.BuildHasher g.S.Hasher.Hasher)
    (g.W.WeighShared.weighs c.args.self.now.weigher) c.args.self.now.state made c.call_remove.result c.call_remove.new.self.state)
    (ap (λ key. call.Remove key c.in-Remove.now) c.get-in-Remove.ensures ∙ sym c.in-Remove.is) c.call_remove.ensures.step
