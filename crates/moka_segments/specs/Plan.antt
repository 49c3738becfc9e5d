-- How a cache is cut into segments.
use Rattle.std.specs.Prelude.{◌≡◌, ℕ, ◌+◌, ◌*◌, ◌/◌, ◌%◌, ◌^◌, ◌<◌, ◌≤◌, zero, suc, nat_lt, option_map, if◌then◌else◌}
use Rattle.atomic_table.specs.Seated.{TableId}
use Rattle.moka_common.specs.Keys.{Keys}
use Rattle.moka_common.specs.Policy.{Policy}
use Rattle.moka_common.specs.Settings.{Settings}
use Rattle.moka_segments.specs.declared.plan.Plan.{Plan}

-- the part of a limit that a segment has: the first ones have one more where it isn't a multiple
abbrev pub share : ℕ → ℕ → ℕ → ℕ
share limit count i = limit / count + (if nat_lt i (limit % count) then 1 else 0)

-- the sum of the first numbers
abbrev pub total : (ℕ → ℕ) → ℕ → ℕ
total f zero = 0
total f (suc n) = total f n + f n

-- the segment of a hash, by its high bits
abbrev pub segment_of : ℕ → ℕ → ℕ
segment_of hash count = hash / 4294967296 * count / 4294967296

module _ {S : Type 0} (plan : Plan S) where
  -- the policy of a segment
  abbrev pub policy_of : ℕ → Policy
  policy_of i = record {
    max_capacity = option_map (λ limit. share limit plan.count i) plan.policy.max_capacity;
    time_to_live = plan.policy.time_to_live;
    time_to_idle = plan.policy.time_to_idle;
  }

  abbrev pub settings_of : ℕ → Settings S
  settings_of i = record { hash_state = plan.hash_state; policy = policy_of i; is_weighed = plan.is_weighed }

  -- the segment of a key
  abbrev pub place_of : {K : Type 0} → Keys K S → K → ℕ
  place_of keys key = segment_of (keys.hash_of plan.hash_state key) plan.count

-- a table has the segments of a plan
abbrev pub IsSized : {S : Type 0} → Plan S → TableId → Type 0
IsSized plan table = (0 < plan.count) × (plan.count ≤ 2 ^ 32) × (table.slots ≡ plan.count) × (table.words ≡ plan.count * 16)
