use Rattle.std.proofs.Common.{◌≡◌, ℕ, Option, filter, length, nat_le, true}
use Rattle.moka_list.specs.HashIndex.{FindsFirst, candidates}
use Rattle.moka_list.specs.IdList.{is_listed}
use Rattle.moka_list.proofs.growing_index.find_from.Given as goal

-- what is left may be tested, and what is found in it is found in all
abbrev pub invariant-loop-id : goal.invariant-loop-id
invariant-loop-id g l =
    ((id : ℕ) → is_listed (filter (nat_le l.next) l.left) id ≡ true → goal.F-pre g l.eq id)
    × ((found : Option ℕ) → FindsFirst (goal.F-post g l.eq) (filter (nat_le l.next) l.left) found
    → FindsFirst (goal.F-post g l.fn.eq) (filter (nat_le l.fn.next) (candidates l.fn.table l.fn.hash)) found)

abbrev pub decreases-loop-id : goal.decreases-loop-id
decreases-loop-id g l = length l.left
