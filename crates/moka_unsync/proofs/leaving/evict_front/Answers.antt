use Rattle.moka_unsync_model.proofs.ToldLemmas.{also_for, untold}
use Rattle.moka_unsync.proofs.TurnLemmas.{window_left}
use Rattle.moka_unsync.proofs.leaving.evict_front.Goals as goal

pub returns-clause-told : goal.returns-clause-told
returns-clause-told g c = also_for (λ e there. tt) c.leave.ensures.told

pub returns-in_default-clause-told : goal.returns-in_default-clause-told
returns-in_default-clause-told g c = untold

pub returns-clause-stands : goal.returns-clause-stands
returns-clause-stands g c = let (f, main) = (c.in-Some.ensures {u = tt}).found in window_left f main c.leave.ensures.step

pub returns-in_default-clause-stands : goal.returns-in_default-clause-stands
returns-in_default-clause-stands g c = record { each = λ i e stood waits. stood }
