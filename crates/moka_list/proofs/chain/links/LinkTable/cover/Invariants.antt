use Rattle.std.proofs.Common.{◌≡◌, ℕ, ◌+◌, ◌≤◌, ◌-◌, length}
use Rattle.moka_list.specs.Links.{next_at, prev_at, reserved}
use Rattle.moka_list.specs.declared.chain.links.TheConstants.{NONE}
use Rattle.moka_list.proofs.chain.links.LinkTable.cover.Given as goal

abbrev pub invariant-loop-self : goal.invariant-loop-self
invariant-loop-self g l =
    (length l.fn.self.links.items ≤ length l.self.links.items) × (length l.self.links.items ≤ NONE) × (reserved l.self ≡ reserved l.fn.self)
    × ((id : ℕ) → next_at l.self id ≡ next_at l.fn.self id) × ((id : ℕ) → prev_at l.self id ≡ prev_at l.fn.self id)

abbrev pub decreases-loop-self : goal.decreases-loop-self
decreases-loop-self g l = l.id + 1 - length l.self.links.items
