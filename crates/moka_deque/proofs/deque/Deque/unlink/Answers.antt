use Rattle.moka_deque.proofs.DequeLemmas.{CursorIsIn-passed}
use Rattle.moka_deque.proofs.deque.Deque.unlink.Goals as goal

pub invariant_of-self : goal.invariant_of-self
invariant_of-self g c =
    rw (c.unlink.ensures.step.items, c.pass.ensures)
    (CursorIsIn-passed c.number-number.result c.self.inside.list.items c.self.inside.cursor c.unlink.ensures.step.apart c.self.invariant)
