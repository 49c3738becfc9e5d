-- What a contract sees of a builder: what was set.
use Rattle.std.specs.Prelude.{◌≡◌, ◌≤◌, ◌==◌, ◌+◌, ℕ, Bool, false, nat_lt, if◌then◌else◌, Option, Some, None, unwrap_or}
use Rattle.moka_common.specs.declared.error.BuildError.{BuildError}
use Rattle.moka_common.specs.declared.error.BuildError.TheVariants.{OutOfMemory, ProtectedShareTooLarge, WindowShareTooLarge}
use Rattle.moka_common.specs.Policy.{Policy}
use Rattle.moka_common.specs.Settings.{duration_fault, idle_nanos, live_nanos}
use Rattle.moka_unsync_model.specs.declared.shares.Shares.{Shares}
use Rattle.moka_unsync_model.specs.CacheState.{CacheState, new_cache}
use Rattle.moka_unsync_model.specs.Shares.{default_shares}

-- the limits, for how many entries there is room from the start, the shares of window and protected, and the weigher, if one was given
pub record Builder (W : Type 0) : Type 0 where
  pub policy : Policy
  pub initial_capacity : ℕ
  pub shares : Shares
  pub is_weighed : Bool
  pub weigher : W

-- a builder as it begins, with this limit or none
abbrev pub new_builder : {W : Type 0} → Option ℕ → W → Builder W
new_builder limit weigher =
    record {
      policy = record { max_capacity = limit; time_to_live = None; time_to_idle = None };
      initial_capacity = 0;
      shares = default_shares;
      is_weighed = false;
      weigher = weigher;
    }

-- what is wrong with the shares, the window's first: one of more than all
abbrev pub share_fault : Shares → Option BuildError
share_fault shares =
    if nat_lt 100 shares.window then Some WindowShareTooLarge
    else if nat_lt 100 shares.protected then Some ProtectedShareTooLarge
    else None

-- the first fault of what was set, durations before shares; where there is none, only memory can be refused
abbrev pub refusal_of : {W : Type 0} → Builder W → BuildError
refusal_of builder =
    unwrap_or (duration_fault (live_nanos builder.policy) (idle_nanos builder.policy)) (unwrap_or (share_fault builder.shares) OutOfMemory)

-- the entries for which memory is reserved: one more than the initial capacity, if there is one
abbrev pub reserved : ℕ → ℕ
reserved initial_capacity = if initial_capacity == 0 then 0 else initial_capacity + 1

-- what was set is legal, and it is a new cache of that, with at least the capacity that is reserved
pub record IsBuilt {K V S W : Type 0} (builder : Builder W) (hash_state : S) (cache : CacheState K V S W) : Type 0 where
  pub legal : duration_fault (live_nanos builder.policy) (idle_nanos builder.policy) ≡ None
  pub shared : share_fault builder.shares ≡ None
  pub built : cache ≡ new_cache (record { hash_state = hash_state; policy = builder.policy; is_weighed = builder.is_weighed })
      builder.shares builder.weigher cache.capacity
  pub room : reserved builder.initial_capacity ≤ cache.capacity
