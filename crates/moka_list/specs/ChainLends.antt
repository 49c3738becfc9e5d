-- What a `Chain` ends as, once a reference into it has ended.
use Rattle.std.specs.Prelude.{ℕ, nat_eq}
use Rattle.std.specs.Borrow.{Lends, Fml, RattleType, MutBor}
use Rattle.std.specs.Map.{set_value}
use Rattle.std.specs.declared.alloc.Allocator.{Ghosts}
use Rattle.moka_list.specs.Chain.{Chain}
use Rattle.moka_list.specs.contracts.chain.Chain.{the_row}

module _ (T A : RattleType) (alloc : Ghosts A.Denot) (c : MutBor (Chain T.Denot)) where
  -- the node has the last element written through r
  abbrev pub lends_element : ℕ → MutBor T.Denot → Fml
  lends_element id r = Lends (the_row T A alloc) T c r
      (λ element. record c.now { items = set_value (nat_eq id) c.now.items element })
