use Rattle.std.proofs.Common.{◌≡◌, ◌∙◌, None, sym}
use Rattle.moka_sync_model.specs.CoreState.{pending_of}
use Rattle.moka_core.proofs.StepLemmas.{none_found}
use Rattle.moka_core.proofs.machine.Machine.invalidate.Goals as goal

pub returns-clause-step : goal.returns-clause-step
returns-clause-step g c =
    let none : pending_of c.args.caller c.args.self.now.state ≡ None =
    rw (← c.self.view_is) (sym c.of.ensures ∙ none_found c.of.result c.if-is_some.ensures) in
    let step = c.in-Some.ensures.taken c.args.caller c.args.now none in
    rw (c.put.ensures.operations) (rw (← c.self-2.view_is) at step)
