-- What a contract sees of a walk.
use Rattle.std.specs.Prelude.{ℕ, ◌<◌, ◌&&◌, List, [], ◌∷◌, length, nat_le, Option, Some, None, if◌then◌else◌}
use Rattle.moka_unsync.specs.Iterate.{pair_behind, pairs_at}
use Rattle.mini_moka_c.specs.declared.key.TheConstants.{SHORT_KEY}
use Rattle.mini_moka_c.specs.declared.steps.Step.{Step}
use Rattle.mini_moka_c.specs.declared.steps.Step.TheVariants as step
use Rattle.mini_moka_c.specs.declared.steps.Walk.{Walk}
use Rattle.mini_moka_c.specs.declared.steps.Walk.TheVariants.{AtStart, Behind, Ended}
use Rattle.mini_moka_c.specs.ByteKeys.{ByteCacheState, byte_keys}

-- a key and its value
abbrev pub BytePair : Type 0
BytePair = List ℕ × List ℕ

-- the first of some pairs
abbrev pub first_pair : List BytePair → Option BytePair
first_pair [] = None
first_pair (pair ∷ pairs) = Some pair

-- the pair that a walk comes to, which met this key last: the first of an iterator, or the one behind the key
abbrev pub next_pair : Walk → ByteCacheState → List ℕ → ℕ → Option BytePair
next_pair Ended cache walk_key now = None
next_pair AtStart cache walk_key now = first_pair (pairs_at cache now)
next_pair Behind cache walk_key now = pair_behind byte_keys cache walk_key now

-- what a step gives of that
abbrev pub step_of : Walk → Option BytePair → Step
step_of Ended pair = step.Ended
step_of AtStart None = step.Done
step_of AtStart (Some pair) = step.Pair (length pair.0) (length pair.1)
step_of Behind None = step.Done
step_of Behind (Some pair) = step.Pair (length pair.0) (length pair.1)

-- the pair, if both buffers are long enough for it
abbrev pub fitting : Option BytePair → List ℕ → List ℕ → Option BytePair
fitting None keys values = None
fitting (Some pair) keys values =
    if nat_le (length pair.0) (length keys) && nat_le (length pair.1) (length values) then Some pair else None

-- where the walk stands once it gave a pair, or gave none
abbrev pub walk_after : Walk → Option BytePair → Walk
walk_after walk None = walk
walk_after walk (Some pair) = Behind

-- and the key that it met last
abbrev pub met_after : List ℕ → Option BytePair → List ℕ
met_after walk_key None = walk_key
met_after walk_key (Some pair) = pair.0

-- there is one, and its key is a long one
abbrev pub IsLong : Option BytePair → Type 0
IsLong None = ⊥
IsLong (Some pair) = SHORT_KEY < length pair.0
