use Rattle.std.proofs.Common.{◌≡◌, is_some, false, not, ap, sym, ◌∙◌}
use Rattle.moka_list.specs.Nodes.{next_id}
use Rattle.moka_deque.proofs.DequeLemmas.{CursorIsIn-moved, after_move_to_back-last}
use Rattle.moka_deque.proofs.deque.Deque.move_to_back.Goals as goal

pub returns-then-is_none : goal.returns-then-is_none
returns-then-is_none g c =
    let last : is_some (next_id c.number-number.result c.self.inside.list.items) ≡ false =
    ap is_some (sym c.next.ensures) ∙ c.is_none.ensures ∙ ap not c.if-is_none.true in
    rw (← c.self.view_is, ← c.number-number.ensures) (after_move_to_back-last _ c.number-number.result last)

pub invariant_of-self : goal.invariant_of-self
invariant_of-self g c =
    let found = rw (← c.self.view_is, ← c.number-number.ensures) at c.requires in
    rw (c.move_to_back.ensures.items, c.pass.ensures)
    (CursorIsIn-moved c.number-number.result c.self.inside.list.items c.self.inside.cursor c.move_to_back.ensures.apart c.self.invariant found)
