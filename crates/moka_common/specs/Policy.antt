-- What a contract sees of a cache's policy.
use Rattle.std.specs.Prelude.{ℕ, Option}
use Rattle.std.specs.declared.time.Duration.{Duration}

-- the limits of a cache, where they are set: the most weight, and two durations
pub record Policy : Type 0 where
  pub max_capacity : Option ℕ
  pub time_to_live : Option Duration
  pub time_to_idle : Option Duration
