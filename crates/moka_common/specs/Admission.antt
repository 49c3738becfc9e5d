-- Which entries give way to a new one: the size-aware TinyLFU of Caffeine, over the entries in order of use.
use Rattle.std.specs.Prelude.{ℕ, ◌+◌, Bool, true, List, [], sum_by, nat_le, nat_lt, Option, Some, None, if◌then◌else◌}
use Rattle.moka_common.specs.Prefix.{shortest_prefix}

-- whether a weight is within the limit, where there is one
abbrev pub is_within : Option ℕ → ℕ → Bool
is_within None weight = true
is_within (Some limit) weight = nat_le weight limit

module _ {X : Type 0} (weight estimate : X → ℕ) where
  -- the victims, if the candidate's estimate is above the sum of theirs
  abbrev pub outvoted : ℕ → Option (List X) → Option (List X)
  outvoted candidate None = None
  outvoted candidate (Some victims) = if nat_lt (sum_by estimate victims) candidate then Some victims else None

  -- the entries that give way to a candidate of this weight and estimate, or nothing where it is rejected: none where there is room for it,
  -- else the least recently used ones that weigh as much, if it is used more than all of them together
  abbrev pub victims : Option ℕ → List X → ℕ → ℕ → Option (List X)
  victims limit entries candidate_weight candidate_estimate =
      if is_within limit (sum_by weight entries + candidate_weight) then Some []
      else if is_within limit candidate_weight then outvoted candidate_estimate (shortest_prefix weight candidate_weight entries)
      else None
