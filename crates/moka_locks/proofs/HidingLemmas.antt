-- What a step hides by, and what a shard's seat at the moments has seen.
use Rattle.std.proofs.Common.{◌≤◌, ℕ, List, [], ◌∷◌, ◌++◌, Option, Some, None, IfSome, arith, subst, sym}
use Rattle.moka_history.specs.Steps.{Step}
use Rattle.moka_locks.specs.History.{Every, HidesUpTo, moment_of, steps}
use Rattle.moka_locks.specs.Moments.{GoesOn, latest}

-- what follows of each
pub every_follows : {X : Type 0} {P Q : X → Type 0} (xs : List X) → ((x : X) → P x → Q x) → Every P xs → Every Q xs
every_follows [] follows all = tt
every_follows (x ∷ xs) follows all = (follows x all.0, every_follows xs follows all.1)

-- of each at the end of a list
every_end : {X : Type 0} (P : X → Type 0) (xs ys : List X) → Every P (xs ++ ys) → Every P ys
every_end P [] ys all = all
every_end P (x ∷ xs) ys all = every_end P xs ys all.1

-- of a step that stands in the history of a shard
pub every_visit : {C : Type 0} (P : C → Type 0) (since before : List (ℕ × List C)) (by : ℕ) (step : C)
    → Every P (steps (since ++ (by, step ∷ []) ∷ before)) → P step
every_visit P [] before by step all = all.0
every_visit P (visit ∷ since) before by step all =
    every_visit P since before by step (every_end P visit.1 (steps (since ++ (by, step ∷ []) ∷ before)) all)

-- the latest of a list that goes on from another is no earlier
later_of : (seen since : List ℕ) → latest seen ≤ latest (since ++ seen)
later_of seen [] = omega arith
later_of seen (moment ∷ since) = let more = later_of seen since in omega (arith, more)

pub latest_since : {seen log : List ℕ} → GoesOn seen log → latest seen ≤ latest log
latest_since {seen = seen} on = subst (λ (log : List ℕ). latest seen ≤ latest log) (sym on.1) (later_of seen on.0)

-- a bound of a moment, if there is one
below : (o : Option ℕ) (lower upper : ℕ) → lower ≤ upper → IfSome o (λ m. m ≤ lower) → IfSome o (λ m. m ≤ upper)
below None lower upper more is = tt
below (Some m) lower upper more is = omega (arith, more, is)

module _ {K V S : Type 0} where
  -- a bound that is no earlier
  pub up_to : (step : Step K V S) (lower upper : ℕ) → lower ≤ upper → HidesUpTo lower step → HidesUpTo upper step
  up_to step lower upper more hides = below (moment_of step.act) lower upper more hides

  -- what hides by no earlier moment than a bound hides no less than what hides up to that
  pub no_less : (o : Option ℕ) (lower upper : ℕ) (past : List (Step K V S)) → IfSome o (λ m. (lower ≤ m) × (m ≤ upper)) → Every (HidesUpTo lower) past
      → IfSome o (λ m. Every (HidesUpTo m) past)
  no_less None lower upper past within all = tt
  no_less (Some m) lower upper past within all = every_follows past (λ step. up_to step lower m within.0) all

-- the upper bound
pub no_more : (o : Option ℕ) (lower upper : ℕ) → IfSome o (λ m. (lower ≤ m) × (m ≤ upper)) → IfSome o (λ m. m ≤ upper)
no_more None lower upper within = tt
no_more (Some m) lower upper within = within.1
