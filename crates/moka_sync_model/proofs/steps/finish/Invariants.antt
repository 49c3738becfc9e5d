use Rattle.std.proofs.Common.{◌≡◌, true, false}
use Rattle.moka_sync_model.specs.declared.constants.TheConstants.{CALLER}
use Rattle.moka_sync_model.specs.WholeCall.{Turns}
use Rattle.moka_sync_model.specs.Steps.{maintaining, pends_by}
use Rattle.moka_sync_model.proofs.steps.finish.Given as goal

-- the caller's maintenance goes on, and the turns that it takes from here on follow those that it has taken
abbrev pub invariant-loop : goal.invariant-loop
invariant-loop g l = record {
  goes : (goal.iterator-loop g).can_next l.iterator' × (goal.iterator-loop g).is_finite l.iterator';
  busy : (g.T.Steps.caller l.steps).is_maintaining ≡ true;
  kept : maintaining false (g.T.Steps.caller l.steps) ≡ maintaining false (g.T.Steps.caller l.fn.steps);
  took : (end : _) → Turns g.T.Steps.allowed g.T.Steps.decides (pends_by g.T.Steps.caller) CALLER l.steps end
      → Turns g.T.Steps.allowed g.T.Steps.decides (pends_by g.T.Steps.caller) CALLER l.fn.steps end;
}
