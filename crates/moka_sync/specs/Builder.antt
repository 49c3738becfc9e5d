-- What a contract sees of a builder: what was set.
use Rattle.std.specs.Prelude.{◌≡◌, ℕ, ◌+◌, ◌^◌, Bool, false, nat_le, Option, None, Some, unwrap_or, if◌then◌else◌}
use Rattle.moka_common.specs.declared.error.BuildError.{BuildError}
use Rattle.moka_common.specs.declared.error.BuildError.TheVariants.{CapacityTooLarge, OutOfMemory}
use Rattle.moka_common.specs.Policy.{Policy}
use Rattle.moka_common.specs.Settings.{duration_fault, idle_nanos, live_nanos}
use Rattle.moka_sync_model.specs.declared.constants.TheConstants.{WRITE_LOG_SIZE}
use Rattle.moka_sync_model.specs.CoreState.{new_core}
use Rattle.moka_sync_model.specs.declared.settings.CoreParts.{CoreParts}
use Rattle.moka_core.specs.Core.{Core}

-- the limits, for how many entries there is room from the start, and the weigher, if one was given
pub record Builder (W : Type 0) : Type 0 where
  pub policy : Policy
  pub initial_capacity : ℕ
  pub is_weighed : Bool
  pub weigher : W

-- a builder as it begins, with this limit or none
abbrev pub new_builder : {W : Type 0} → Option ℕ → W → Builder W
new_builder limit weigher =
    record {
      policy = record { max_capacity = limit; time_to_live = None; time_to_idle = None };
      initial_capacity = 0;
      is_weighed = false;
      weigher = weigher;
    }

-- the fault of a capacity, if it is one: with the room of a log it passes what is counted in 64 bits
abbrev pub capacity_fault : ℕ → Option BuildError
capacity_fault initial_capacity = if nat_le (2 ^ 64) (initial_capacity + WRITE_LOG_SIZE) then Some CapacityTooLarge else None

-- what was set is legal
pub record IsLegal {W : Type 0} (builder : Builder W) : Type 0 where
  pub durations : duration_fault (live_nanos builder.policy) (idle_nanos builder.policy) ≡ None
  pub capacity : capacity_fault builder.initial_capacity ≡ None

-- the first fault of what was set, its durations before its capacity; where there is none, only memory can be refused
abbrev pub refusal_of : {W : Type 0} → Builder W → BuildError
refusal_of builder =
    unwrap_or (duration_fault (live_nanos builder.policy) (idle_nanos builder.policy))
    (unwrap_or (capacity_fault builder.initial_capacity) OutOfMemory)

-- the parts of a cache that a builder has set, with this hash state
pub record ArePartsOf {S W : Type 0} (builder : Builder W) (hash_state : S) (parts : CoreParts S W) : Type 0 where
  pub hashes : parts.hash_state ≡ hash_state
  pub policy : parts.policy ≡ builder.policy
  pub is_weighed : parts.is_weighed ≡ builder.is_weighed
  pub weigher : parts.weigher ≡ builder.weigher

-- what was set is legal, and it is a new core of that with the builder's weigher
pub record IsBuilt {K V S W : Type 0} (builder : Builder W) (hash_state : S) (core : Core K V S W) : Type 0 where
  pub legal : IsLegal builder
  pub state : core.state ≡ new_core (record { hash_state = hash_state; policy = builder.policy; is_weighed = builder.is_weighed }) 0
  pub weigher : core.weigher ≡ builder.weigher
