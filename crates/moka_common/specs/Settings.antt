-- What a contract sees of a cache's settings, which of them are legal, and why others are refused.
use Rattle.std.specs.Prelude.{ℕ, ◌*◌, Bool, false, nat_lt, is_some, Option, Some, None, option_map, if◌then◌else◌}
use Rattle.std.specs.Duration.{as_nanos}
use Rattle.moka_common.specs.declared.constants.TheConstants.{LONGEST_DURATION_SECS}
use Rattle.moka_common.specs.declared.error.BuildError.{BuildError}
use Rattle.moka_common.specs.declared.error.BuildError.TheVariants.{TimeToLiveTooLong, TimeToIdleTooLong}
use Rattle.moka_common.specs.Policy.{Policy}

-- the hash state, the limits, and whether a weigher was given
pub record Settings (S : Type 0) : Type 0 where
  pub hash_state : S
  pub policy : Policy
  pub is_weighed : Bool

-- the time to live in nanoseconds, where there is one
abbrev pub live_nanos : Policy → Option ℕ
live_nanos policy = option_map as_nanos policy.time_to_live

-- the time to idle in nanoseconds, where there is one
abbrev pub idle_nanos : Policy → Option ℕ
idle_nanos policy = option_map as_nanos policy.time_to_idle

-- whether a cache keeps its writes in their order: it does with a time to live
abbrev pub keeps_writes : Policy → Bool
keeps_writes policy = is_some policy.time_to_live

-- whether a duration of nanoseconds is longer than 1000 years
abbrev pub is_too_long : Option ℕ → Bool
is_too_long None = false
is_too_long (Some nanos) = nat_lt (LONGEST_DURATION_SECS * 1_000_000_000) nanos

-- the first fault of the durations, if there is one: the time to live is tested first
abbrev pub duration_fault : Option ℕ → Option ℕ → Option BuildError
duration_fault time_to_live time_to_idle =
    if is_too_long time_to_live then Some TimeToLiveTooLong
    else if is_too_long time_to_idle then Some TimeToIdleTooLong
    else None
