-- What nodes end as, once a `&mut` to an element has ended. No public clause cites this module.
use Rattle.std.specs.Prelude.{ℕ, nat_eq, Option, None, Some}
use Rattle.std.specs.Borrow.{Lends, Fml, RattleType, MutBor}
use Rattle.std.specs.declared.alloc.Allocator.{Ghosts}
use Rattle.std.specs.Map.{set_value}
use Rattle.slab.specs.Slab.{get}
use denote.RawPtr.{Ptr}
use Rattle.moka_deque.specs.declared.deque.nodes.Slot.{Slot}
use Rattle.moka_deque.specs.declared.deque.nodes.Ends.{Ends}
use Rattle.moka_deque.specs.declared.deque.nodes.Nodes.{Nodes}
use Rattle.moka_deque.specs.contracts.deque.nodes.Ends.{the_row as ends_row}
use Rattle.moka_deque.specs.contracts.deque.nodes.Nodes.{the_row}
use Rattle.moka_deque.specs.contracts.deque.linked.Linked.{the_row as linked_row}
use Rattle.moka_deque.specs.Linked.{Linked}
use Rattle.moka_deque.specs.RawLends.{with_element_at}

module _ {T A : Type 0} where
  -- the list with another element in the node at p
  abbrev pub with_value : Ends T A → Ptr → T → Ends T A
  with_value e p w = record { head = e.head; tail = e.tail; list = with_element_at e.list p w }

  -- the nodes with another element in the one of this slot, if there is one
  abbrev pub with_slot : Nodes T A → T → Option (Slot T A) → Nodes T A
  with_slot ns w None = ns
  with_slot ns w (Some s) = record ns { ends = with_value ns.ends s.node.ptr w }

  -- the nodes with another element in this one
  abbrev pub with_element : Nodes T A → ℕ → T → Nodes T A
  with_element ns id w = with_slot ns w (get ns.slots id)

module _ (T A : RattleType) (alloc : Ghosts A.Denot) where
  -- once the borrow r ends, the node at p has the last element written through r
  abbrev pub lends_value : MutBor (Ends T.Denot A.Denot) → Ptr → MutBor T.Denot → Fml
  lends_value e p r = Lends (ends_row T A alloc) T e r (with_value e.now p)

  -- the same of the node of an id
  abbrev pub lends_element : MutBor (Nodes T.Denot A.Denot) → ℕ → MutBor T.Denot → Fml
  lends_element s id r = Lends (the_row T A alloc) T s r (with_element s.now id)

  -- the same of a list of nodes
  abbrev pub lends_linked : MutBor (Linked T.Denot) → ℕ → MutBor T.Denot → Fml
  lends_linked s id r = Lends (linked_row T A alloc) T s r
      (λ element. record s.now { items = set_value (nat_eq id) s.now.items element })
