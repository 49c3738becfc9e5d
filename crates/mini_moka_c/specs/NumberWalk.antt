-- What a contract sees of a walk through a cache of numbers.
use Rattle.std.specs.Prelude.{ℕ, List, [], ◌∷◌, Option, Some, None}
use Rattle.moka_unsync.specs.Iterate.{pair_behind, pairs_at}
use Rattle.mini_moka_c.specs.declared.steps.NumberStep.{NumberStep}
use Rattle.mini_moka_c.specs.declared.steps.NumberStep.TheVariants as step
use Rattle.mini_moka_c.specs.declared.steps.Walk.{Walk}
use Rattle.mini_moka_c.specs.declared.steps.Walk.TheVariants.{AtStart, Behind, Ended}
use Rattle.mini_moka_c.specs.NumberKeys.{NumberCacheState, number_keys}

-- a key and its value
abbrev pub NumberPair : Type 0
NumberPair = ℕ × ℕ

-- the first of some pairs
abbrev pub first_pair : List NumberPair → Option NumberPair
first_pair [] = None
first_pair (pair ∷ pairs) = Some pair

-- the pair that a walk comes to, which met this key last: the first of an iterator, or the one behind the key
abbrev pub next_pair : Walk → NumberCacheState → ℕ → ℕ → Option NumberPair
next_pair Ended cache walk_key now = None
next_pair AtStart cache walk_key now = first_pair (pairs_at cache now)
next_pair Behind cache walk_key now = pair_behind number_keys cache walk_key now

-- what a step gives of that
abbrev pub step_of : Walk → Option NumberPair → NumberStep
step_of Ended pair = step.Ended
step_of AtStart None = step.Done
step_of AtStart (Some pair) = step.Pair pair.0 pair.1
step_of Behind None = step.Done
step_of Behind (Some pair) = step.Pair pair.0 pair.1

-- where the walk stands once it gave a pair, or gave none
abbrev pub walk_after : Walk → Option NumberPair → Walk
walk_after walk None = walk
walk_after walk (Some pair) = Behind

-- and the key that it met last
abbrev pub met_after : ℕ → Option NumberPair → ℕ
met_after walk_key None = walk_key
met_after walk_key (Some pair) = pair.0
