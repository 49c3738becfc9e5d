use Rattle.moka_unsync_model.proofs.ToldLemmas.{also_for, then_left, untold}
use Rattle.moka_unsync.proofs.TurnLemmas.{continued, unmoved}
use Rattle.moka_unsync.proofs.removal.clear.Goals as goal

pub loop-id-init : goal.loop-id-init
loop-id-init g c = record { kept = unmoved; told = untold }

pub loop-id-preserved : goal.loop-id-preserved
loop-id-preserved g c =
    record {
      kept = continued c.loop-id.invariant.kept c.leave.ensures.step.kept;
      told = then_left c.loop-id.invariant.told (also_for (λ e there. tt) c.leave.ensures.told);
    }
