-- What a `Deque` ends as, once a reference into it has ended.
use Rattle.std.specs.Prelude.{◌≡◌, ℕ, nat_eq, ⊤}
use Rattle.std.specs.Borrow.{Lends, follows_so, Fml, RattleType, MutBor}
use Rattle.std.specs.Map.{set_value}
use Rattle.std.specs.declared.alloc.Allocator.{Ghosts}
use mathlib.Core.Option.{none}
use Rattle.moka_deque.specs.Deque.{Deque}
use Rattle.moka_deque.specs.contracts.deque.Deque.{the_row}

module _ (T A : RattleType) (alloc : Ghosts A.Denot) (d : MutBor (Deque T.Denot)) where
  -- it is this list
  abbrev pub ends_as : Deque T.Denot → Fml
  ends_as end = follows_so
      (the_row T A alloc) (the_row T A alloc) d.ghost_name none (λ _ _. ⊤) (λ n. n ≡ end)

  -- the node has the last element written through r
  abbrev pub lends_element : ℕ → MutBor T.Denot → Fml
  lends_element id r = Lends (the_row T A alloc) T d r
      (λ element. record d.now { items = set_value (nat_eq id) d.now.items element })
