use Rattle.std.proofs.Common.{◌≡◌, ℕ, ◌-◌, ◌<◌, length}
use Rattle.moka_list.specs.HashIndex.{group_at, slots_with}
use Rattle.moka_list.proofs.StandsLemmas.{walk}
use Rattle.moka_list.proofs.table.first_free.Given as goal

abbrev pub invariant-loop-home : goal.invariant-loop-home
invariant-loop-home l =
    (l.at ≡ walk (length l.groups) l.home l.distance) × (l.distance < length l.groups)
    × ((t : ℕ) → t < l.distance → slots_with (group_at l.groups (walk (length l.groups) l.home t)) 0 ≡ 0)

abbrev pub decreases-loop-home : goal.decreases-loop-home
decreases-loop-home l = length l.groups - l.distance
