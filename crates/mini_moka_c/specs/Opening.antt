-- What opens a handle: settings, and a new cache of them.
use Rattle.std.specs.Prelude.{◌≡◌, ◌≤◌, ◌==◌, ℕ, Bool, true, false, ◌||◌, Option, Some, None, if◌then◌else◌, nat_lt, unwrap_or}
use Rattle.moka_common.specs.Policy.{Policy}
use Rattle.moka_common.specs.Settings.{live_nanos, idle_nanos}
use Rattle.moka_unsync.specs.Builder.{reserved}
use Rattle.moka_unsync.specs.CacheState.{new_cache}
use Rattle.moka_unsync.specs.declared.shares.Shares.{Shares}
use Rattle.mini_moka_c.specs.declared.cache.ByteCache.{ByteCache}
use Rattle.mini_moka_c.specs.declared.steps.Walk.TheVariants.{Ended}
use Rattle.mini_moka_c.specs.declared.weight.ByteWeight.TheVariants as weight
use Rattle.mini_moka_c.specs.declared.weight.NumberWeight.TheVariants as number_weight
use Rattle.mini_moka_c.specs.Removed.{empty_queue}
use Rattle.mini_moka_c.specs.Statistics.{no_statistics}
use Rattle.mini_moka_c.specs.declared.constants.TheConstants.{ALREADY_OPEN, DONE, OUT_OF_MEMORY, SHARE_TOO_LARGE, UNLIMITED, ZERO_DURATION}
use Rattle.mini_moka_c.specs.declared.handle.AnyCache.{AnyCache}
use Rattle.mini_moka_c.specs.declared.handle.AnyCache.TheVariants.{Bytes, Numbers}
use Rattle.mini_moka_c.specs.declared.settings.ByteSettings.{ByteSettings}
use Rattle.mini_moka_c.specs.declared.settings.NumberSettings.{NumberSettings}
use Rattle.mini_moka_c.specs.declared.number_cache.NumberCache.{NumberCache}

-- a capacity or a duration, where it is set
abbrev pub limit_of : ℕ → Option ℕ
limit_of number = if number == UNLIMITED then None else Some number

-- the policy has these limits
pub record HasLimits (policy : Policy) (capacity live idle : ℕ) : Type 0 where
  pub max_capacity : policy.max_capacity ≡ limit_of capacity
  pub time_to_live : live_nanos policy ≡ limit_of live
  pub time_to_idle : idle_nanos policy ≡ limit_of idle

-- the shares that are set, in percent
abbrev pub shares_of : ℕ → ℕ → Bool → Shares
shares_of window protected adapts = record { window = window; protected = protected; adapts = adapts; extra = 0 }

-- why settings are refused, however much memory there is: a duration is 0, so that each entry would be expired at once, or a share is above the whole
abbrev pub settings_fault : ℕ → ℕ → ℕ → ℕ → Option ℕ
settings_fault live idle window protected =
    if live == 0 || idle == 0 then Some ZERO_DURATION
    else (if nat_lt 100 window || nat_lt 100 protected then Some SHARE_TOO_LARGE else None)

-- the cache is a new one of the settings, with no entry and the weigher that is set, and at least the capacity that is reserved; nothing was counted or
-- removed, and no walk was begun
pub record IsNumbersNew (settings : NumberSettings) (numbers : NumberCache) : Type 0 where
  pub limits : HasLimits numbers.cache.settings.policy settings.capacity settings.time_to_live settings.time_to_idle
  pub new : numbers.cache ≡ new_cache (record {
    hash_state = numbers.cache.settings.hash_state;
    policy = numbers.cache.settings.policy;
    is_weighed = settings.is_weighed;
  }) (shares_of settings.window_share settings.protected_share settings.is_adaptive)
      (if settings.is_weighed then number_weight.Value else number_weight.Entry) numbers.cache.capacity
  pub room : reserved settings.initial_capacity ≤ numbers.cache.capacity
  pub counts : numbers.leaving.statistics ≡ no_statistics
  pub removed : numbers.leaving.removed ≡ empty_queue settings.removed_room
  pub walk : numbers.walk ≡ Ended

-- and of bytes, with the key of the hash and the weigher that are set; nothing was counted or removed, and no walk was begun
pub record IsBytesNew (settings : ByteSettings) (bytes : ByteCache) : Type 0 where
  pub limits : HasLimits bytes.cache.settings.policy settings.capacity settings.time_to_live settings.time_to_idle
  pub new : bytes.cache ≡ new_cache (record {
    hash_state = record { low = settings.seed_low; high = settings.seed_high };
    policy = bytes.cache.settings.policy;
    is_weighed = settings.is_weighed;
  }) (shares_of settings.window_share settings.protected_share settings.is_adaptive)
      (if settings.is_weighed then weight.Bytes else weight.Entry) bytes.cache.capacity
  pub room : reserved settings.initial_capacity ≤ bytes.cache.capacity
  pub counts : bytes.leaving.statistics ≡ no_statistics
  pub removed : bytes.leaving.removed ≡ empty_queue settings.removed_room
  pub walk : bytes.walk ≡ Ended

-- what is kept is such a cache
abbrev pub IsNumbersKept : NumberSettings → AnyCache → Type 0
IsNumbersKept settings (Numbers numbers) = IsNumbersNew settings numbers
IsNumbersKept settings (Bytes bytes) = ⊥

abbrev pub IsBytesKept : ByteSettings → AnyCache → Type 0
IsBytesKept settings (Numbers numbers) = ⊥
IsBytesKept settings (Bytes bytes) = IsBytesNew settings bytes

-- a closed handle keeps such a cache then, unless the settings are at fault or memory was refused; an open one keeps what it kept
abbrev pub IsOpening : Option ℕ → (AnyCache → Type 0) → Option AnyCache → ℕ → Option AnyCache → Type 0
IsOpening fault IsNew (Some kept) status new = (status ≡ ALREADY_OPEN) × (new ≡ Some kept)
IsOpening (Some fault) IsNew None status new = (status ≡ fault) × (new ≡ None)
IsOpening None IsNew None status (Some kept) = (status ≡ DONE) × IsNew kept
IsOpening None IsNew None status None = status ≡ OUT_OF_MEMORY

-- no cache was made, and this status says why
abbrev pub refusal_of : Option ℕ → ℕ
refusal_of fault = unwrap_or fault OUT_OF_MEMORY
