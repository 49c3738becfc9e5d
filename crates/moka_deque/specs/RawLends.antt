-- What a list ends as, once a `&mut` to a value has ended.
use Rattle.std.specs.Borrow.{Fml, RattleType, MutBor, Lends}
use Rattle.std.specs.declared.alloc.Allocator.{Ghosts}
use mathlib.Core.Path.{sym, subst}
use mathlib.Core.List.{[], ◌∷◌, ◌++◌}
use denote.RawPtr.{Ptr}
use Rattle.lru.specs.Linked.{IsApart}
use Rattle.moka_deque.specs.RawNodes.{set_element, places-set_element}
use Rattle.moka_deque.specs.declared.raw.list.List.{List}
use Rattle.moka_deque.specs.contracts.raw.list.List.{the_row}

-- the same list with w as the value of the node at p
abbrev pub with_element_at : {K V A : Type 0} → List K V A → Ptr → V → List K V A
with_element_at l p w = record {
  mark = l.mark;
  head = l.head;
  tail = l.tail;
  nodes = set_element p w l.nodes;
  alloc = l.alloc;
  apart = subst (λ ps. IsApart (l.head ∷ (ps ++ l.tail ∷ []))) (sym (places-set_element p w l.nodes)) l.apart;
}

abbrev pub lends_element_at : (K V A : RattleType) → Ghosts A.Denot → MutBor (List K.Denot V.Denot A.Denot) → Ptr → MutBor V.Denot → Fml
lends_element_at K V A g l p r = Lends (the_row K V A g) V l r (with_element_at l.now p)
