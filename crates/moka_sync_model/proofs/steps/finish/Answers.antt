use Rattle.std.proofs.Common.{◌∙◌, ap, false}
use Rattle.moka_sync_model.specs.declared.constants.TheConstants.{CALLER}
use Rattle.moka_sync_model.specs.Steps.{maintaining, pends_by}
use Rattle.moka_sync_model.proofs.StepsLemmas.{goes_on_elsewhere, turns_end, turns_follow}
use Rattle.moka_sync_model.proofs.steps.finish.Goals as goal

pub returns-in-Idle-clause-turns : goal.returns-in-Idle-clause-turns
returns-in-Idle-clause-turns g c =
    c.loop.invariant.took c.turn.new.self
    (turns_end g.T.Steps.allowed g.T.Steps.decides (pends_by g.T.Steps.caller) CALLER c.loop.steps c.turn.new.self c.in-Idle.ensures.turns)

pub loop-preserved : goal.loop-preserved
loop-preserved g c = record {
  goes = c.loop.invariant.goes;
  busy = ap (λ k. k.is_maintaining) c.turn.ensures.caller ∙ goes_on_elsewhere c.turn.result c.in_default.not-Idle;
  kept = ap (maintaining false) c.turn.ensures.caller ∙ c.loop.invariant.kept;
  took = λ end later.
      c.loop.invariant.took end
      (turns_follow g.T.Steps.allowed g.T.Steps.decides (pends_by g.T.Steps.caller) CALLER c.turn.result c.in_default.not-Idle c.loop.steps
      c.turn.new.self end c.turn.ensures.turns later);
}
