-- When an entry is expired. Moments and durations are numbers of nanoseconds; sums are of whole numbers, which neither wrap nor stop.
use Rattle.std.specs.Prelude.{ℕ, ◌+◌, ◌-◌, ◌^◌, min, Bool, false, nat_le, Option, Some, None}

-- whether an entry that was accessed at a moment has been idle too long: from the end of its time to idle on
abbrev pub idle_expired : Option ℕ → ℕ → ℕ → Bool
idle_expired None accessed now = false
idle_expired (Some time_to_idle) accessed now = nat_le (accessed + time_to_idle) now

-- whether an entry that was written at a moment has lived too long: from the end of its time to live on
abbrev pub live_expired : Option ℕ → ℕ → ℕ → Bool
live_expired None modified now = false
live_expired (Some time_to_live) modified now = nat_le (modified + time_to_live) now

-- the deadline of an entry that is written at a moment in a cache with this time to live: after that, or after its own where it has one that is shorter, and
-- at the last moment at the latest
abbrev pub deadline_of : Option ℕ → Option ℕ → ℕ → ℕ
deadline_of None own written = written
deadline_of (Some time_to_live) None written = min (written + time_to_live) (2 ^ 64 - 1)
deadline_of (Some time_to_live) (Some own) written = min (written + min time_to_live own) (2 ^ 64 - 1)

-- whether a deadline has come, in a cache with this time to live: without one it never does
abbrev pub is_past : Option ℕ → ℕ → ℕ → Bool
is_past None deadline now = false
is_past (Some time_to_live) deadline now = nat_le deadline now
