use Rattle.std.proofs.Common.{◌≡◌, ℕ, Option, length, true}
use Rattle.moka_list.specs.HashIndex.{FindsFirst}
use Rattle.moka_list.specs.IdList.{is_listed}
use Rattle.moka_list.proofs.hash_index.Candidates.find.Given as goal

-- what is left may be tested, and what is found in it is found in all
abbrev pub invariant-loop-id : goal.invariant-loop-id
invariant-loop-id g l =
    ((id : ℕ) → is_listed l.self id ≡ true → goal.F-pre g l.eq id)
    × ((found : Option ℕ) → FindsFirst (goal.F-post g l.eq) l.self found → FindsFirst (goal.F-post g l.initial.eq) l.initial.self found)

abbrev pub decreases-loop-id : goal.decreases-loop-id
decreases-loop-id g l = length l.self
