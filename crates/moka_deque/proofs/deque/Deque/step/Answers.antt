use Rattle.moka_deque.proofs.DequeLemmas.{CursorIsIn-advanced}
use Rattle.moka_deque.proofs.deque.Deque.step.Goals as goal

pub invariant_of-self : goal.invariant_of-self
invariant_of-self g c = rw c.advanced-self-inside.ensures (CursorIsIn-advanced c.self.inside.list.items c.entered-here.result)
