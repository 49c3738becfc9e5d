use Rattle.moka_deque.proofs.DequeLemmas.{CursorIsIn-set}
use Rattle.moka_deque.proofs.deque.Deque.get_mut.Goals as goal

pub invariant_of-self-lent : goal.invariant_of-self-lent
invariant_of-self-lent g c = λ w. CursorIsIn-set c.number.result w c.self.inside.list.items c.self.inside.cursor c.self.invariant
