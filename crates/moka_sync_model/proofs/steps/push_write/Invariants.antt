use Rattle.std.proofs.Common.{◌≡◌}
use Rattle.moka_sync_model.specs.declared.constants.TheConstants.{CALLER}
use Rattle.moka_sync_model.specs.WholeCall.{PushesWrite}
use Rattle.moka_sync_model.specs.Steps.{AWrite, pends, pends_by}
use Rattle.moka_sync_model.proofs.steps.push_write.Given as goal

-- the write is still pending, and what pushes it from here on follows what was tried
abbrev pub invariant-loop : goal.invariant-loop
invariant-loop g l = record {
  goes : (goal.iterator-loop g).can_next l.iterator' × (goal.iterator-loop g).is_finite l.iterator';
  pending : g.T.Steps.caller l.steps ≡ pends AWrite;
  tried : (end : _) → PushesWrite g.T.Steps.allowed g.T.Steps.decides (pends_by g.T.Steps.caller) CALLER l.fn.now l.steps end
      → PushesWrite g.T.Steps.allowed g.T.Steps.decides (pends_by g.T.Steps.caller) CALLER l.fn.now l.fn.steps end;
}
