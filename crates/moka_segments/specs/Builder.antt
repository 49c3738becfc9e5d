-- What a contract sees of a builder of segmented caches: what was set, the plan that it makes, and why it is refused.
use Rattle.std.specs.Prelude.{◌/◌, ℕ, Bool, false, max, min, nat_lt, if◌then◌else◌, Option, Some, None, option_map, unwrap_or}
use Rattle.moka_common.specs.declared.error.BuildError.TheVariants as base
use Rattle.moka_common.specs.Policy.{Policy}
use Rattle.moka_common.specs.Settings.{duration_fault, idle_nanos, live_nanos}
use Rattle.moka_unsync_model.specs.declared.shares.Shares.{Shares}
use Rattle.moka_unsync_model.specs.Shares.{default_shares}
use Rattle.moka_unsync.specs.Builder.{share_fault}
use Rattle.moka_segments.specs.declared.constants.TheConstants.{ENTRIES_OF_A_SEGMENT, MOST_SEGMENTS, USUAL_SEGMENTS}
use Rattle.moka_segments.specs.declared.error.BuildError.{BuildError}
use Rattle.moka_segments.specs.declared.error.BuildError.TheVariants.{Cache, NumSegments}
use Rattle.moka_segments.specs.declared.plan.Plan.{Plan}

-- the limits, for how many entries there is room from the start, the shares of window and protected, the number of segments, if it was set, and the weigher, if
-- one was given
pub record Builder (W : Type 0) : Type 0 where
  pub policy : Policy
  pub initial_capacity : ℕ
  pub shares : Shares
  pub num_segments : Option ℕ
  pub is_weighed : Bool
  pub weigher : W

-- a builder as it begins, with this limit or none
abbrev pub new_builder : {W : Type 0} → Option ℕ → W → Builder W
new_builder limit weigher =
    record {
      policy = record { max_capacity = limit; time_to_live = None; time_to_idle = None };
      initial_capacity = 0;
      shares = default_shares;
      num_segments = None;
      is_weighed = false;
      weigher = weigher;
    }

-- the number of segments where none is set: each has at least so many entries of the limit, as far as that leaves one
abbrev pub usual_count : Option ℕ → ℕ
usual_count None = USUAL_SEGMENTS
usual_count (Some limit) = min USUAL_SEGMENTS (max 1 (limit / ENTRIES_OF_A_SEGMENT))

-- the number of segments
abbrev pub count_of : {W : Type 0} → Builder W → ℕ
count_of builder = unwrap_or builder.num_segments (usual_count builder.policy.max_capacity)

-- how the cache is cut
abbrev pub plan_of : {W S : Type 0} → Builder W → S → Plan S
plan_of builder hash_state =
    record {
      hash_state = hash_state;
      count = count_of builder;
      policy = builder.policy;
      shares = builder.shares;
      initial_capacity = builder.initial_capacity;
      is_weighed = builder.is_weighed;
    }

-- a number of segments is none that a cache can have
abbrev pub count_fault : ℕ → Option BuildError
count_fault count =
    if nat_lt 0 count then (if nat_lt MOST_SEGMENTS count then Some NumSegments else None)
    else Some NumSegments

-- the first of two, if it is there
abbrev pub option_or : {A : Type 0} → Option A → Option A → Option A
option_or None other = other
option_or (Some x) other = Some x

-- the first fault of what was set: durations before shares, the number of segments last
abbrev pub fault_of : {W : Type 0} → Builder W → Option BuildError
fault_of builder =
    option_or (option_map Cache (duration_fault (live_nanos builder.policy) (idle_nanos builder.policy)))
    (option_or (option_map Cache (share_fault builder.shares)) (count_fault (count_of builder)))

-- why it is refused: the first fault, and where there is none, only memory can be
abbrev pub refusal_of : {W : Type 0} → Builder W → BuildError
refusal_of builder = unwrap_or (fault_of builder) (Cache base.OutOfMemory)
