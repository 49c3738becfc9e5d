use Rattle.moka_sync_model.specs.WholeCall.{Pushed, WasFull}
use Rattle.moka_sync_model.proofs.steps.push_write.Goals as goal

pub returns-in-Pushed-clause-call : goal.returns-in-Pushed-clause-call
returns-in-Pushed-clause-call g c =
    c.loop.invariant.tried c.push_write.new.self
    (Pushed c.loop.steps c.maintain_if_due.new.steps c.push_write.new.self c.maintain_if_due.ensures.call c.in-Pushed.ensures.step)

pub loop-preserved : goal.loop-preserved
loop-preserved g c = record {
  goes = c.loop.invariant.goes;
  pending = c.in_default.ensures.caller;
  tried = λ end later.
      c.loop.invariant.tried end
      (WasFull c.loop.steps c.maintain_if_due.new.steps c.push_write.new.self end c.maintain_if_due.ensures.call
      c.in_default.ensures.step later);
}
