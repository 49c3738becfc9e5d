use Rattle.std.proofs.Common.{◌≡◌, ◌++◌, ℕ, Option, filter, length, nat_le, true}
use Rattle.moka_list.specs.HashIndex.{FindsFirst, candidates}
use Rattle.moka_list.specs.IdList.{is_listed}
use Rattle.moka_list.proofs.growing_index.Candidates.find.Given as goal

-- what is left of the first table may be tested, and what is found in it and in the smaller one is found in all
abbrev pub invariant-loop-id : goal.invariant-loop-id
invariant-loop-id g l =
    ((id : ℕ) → is_listed (l.first ++ filter (nat_le l.next) (candidates l.smaller l.hash)) id ≡ true → goal.F-pre g l.eq id)
    × ((found : Option ℕ) → FindsFirst (goal.F-post g l.eq) (l.first ++ filter (nat_le l.next) (candidates l.smaller l.hash)) found
    → FindsFirst (goal.F-post g l.fn.eq) l.fn.self found)

abbrev pub decreases-loop-id : goal.decreases-loop-id
decreases-loop-id g l = length l.first
