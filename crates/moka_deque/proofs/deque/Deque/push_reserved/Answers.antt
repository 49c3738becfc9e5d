use Rattle.moka_deque.proofs.DequeLemmas.{CursorIsIn-push}
use Rattle.moka_deque.proofs.deque.Deque.push_reserved.Goals as goal

pub invariant_of-self : goal.invariant_of-self
invariant_of-self g c =
    rw c.push_reserved-number.ensures.step.items
    (CursorIsIn-push c.push_reserved-number.result c.args.element c.self.inside.list.items c.self.inside.cursor c.self.invariant)
