-- How a call on a handle tells what the call of its cache answers.
use Rattle.std.specs.Prelude.{◌≡◌, ⊤, ℕ, Bool, true, false, [], length, nat_le, Option, Some, None, IsSome, if◌then◌else◌}
use Rattle.moka_common.specs.Policy.{Policy}
use Rattle.moka_unsync.specs.Contents.{weighted_size}
use Rattle.moka_unsync.specs.CacheState.{window_limit}
use Rattle.moka_unsync.specs.Cleanup.{is_expired}
use Rattle.moka_unsync.specs.Invalidate.{after_invalidate_all, after_remove_expired}
use Rattle.moka_unsync.specs.declared.error.TimedInsertError.{TimedInsertError}
use Rattle.moka_unsync.specs.declared.error.TimedInsertError.TheVariants as timed
use Rattle.moka_unsync_model.specs.Told.{TellsWhatLeft}
use Rattle.moka_unsync_model.specs.declared.listener.Cause.TheVariants.{Expired, Explicit}
use Rattle.mini_moka_c.specs.ByteKeys.{byte_keys}
use Rattle.mini_moka_c.specs.NumberKeys.{number_keys}
use Rattle.mini_moka_c.specs.declared.cache.ByteCache.{ByteCache}
use Rattle.mini_moka_c.specs.declared.steps.Walk.TheVariants.{AtStart, Ended}
use Rattle.mini_moka_c.specs.declared.constants.TheConstants.{ABSENT, CLOSED, DONE, OTHER_KIND, TOO_SHORT}
use Rattle.mini_moka_c.specs.declared.handle.AnyCache.{AnyCache}
use Rattle.mini_moka_c.specs.declared.handle.AnyCache.TheVariants.{Bytes, Numbers}
use Rattle.mini_moka_c.specs.declared.number_cache.NumberCache.{NumberCache}
use Rattle.mini_moka_c.specs.Removed.{queues}
use Rattle.mini_moka_c.specs.Statistics.{with_clearing, with_expiry}
use Rattle.mini_moka_c.specs.declared.statistics.Report.{Report}

-- why an insert with its own time to live was refused, and what it left
abbrev pub IsTimedRefusal : {C : Type 0} → (C → C → Type 0) → TimedInsertError → Policy → C → C → Type 0
IsTimedRefusal refuses timed.NoTimeToLive policy old new = (policy.time_to_live ≡ None) × (new ≡ old)
IsTimedRefusal refuses timed.OutOfMemory policy old new = IsSome policy.time_to_live × refuses old new

-- a closed handle answers that it is closed, and stays so; an open one stays open, and what it keeps becomes this of that
abbrev pub OnOpen : Option AnyCache → ℕ → Option AnyCache → (AnyCache → AnyCache → Type 0) → Type 0
OnOpen None status new makes = (status ≡ CLOSED) × (new ≡ None)
OnOpen (Some old) status None makes = ⊥
OnOpen (Some old) status (Some new) makes = makes old new

-- a cache of numbers becomes this of that; one of bytes answers that it is of the other kind, and stays as it is
abbrev pub OnNumbers : ℕ → (NumberCache → NumberCache → Type 0) → AnyCache → AnyCache → Type 0
OnNumbers status makes (Numbers old) (Numbers new) = makes old new
OnNumbers status makes (Numbers old) (Bytes new) = ⊥
OnNumbers status makes (Bytes old) new = (status ≡ OTHER_KIND) × (new ≡ Bytes old)

-- and the other way round
abbrev pub OnBytes : ℕ → (ByteCache → ByteCache → Type 0) → AnyCache → AnyCache → Type 0
OnBytes status makes (Bytes old) (Bytes new) = makes old new
OnBytes status makes (Bytes old) (Numbers new) = ⊥
OnBytes status makes (Numbers old) new = (status ≡ OTHER_KIND) × (new ≡ Numbers old)

-- ---- either kind

-- how many entries there are
abbrev pub count_of : AnyCache → ℕ
count_of (Numbers numbers) = length numbers.cache.contents.entries
count_of (Bytes bytes) = length bytes.cache.contents.entries

-- what they weigh
abbrev pub weight_of : AnyCache → ℕ
weight_of (Numbers numbers) = weighted_size numbers.cache.contents.entries
weight_of (Bytes bytes) = weighted_size bytes.cache.contents.entries

-- the weight that the window may have
abbrev pub window_of : AnyCache → ℕ
window_of (Numbers numbers) = window_limit numbers.cache
window_of (Bytes bytes) = window_limit bytes.cache

-- all entries have left, are counted and queued, which ends a walk
pub record IsNumbersEmptied (old new : NumberCache) : Type 0 where
  pub step : new ≡ record old { cache = after_invalidate_all old.cache; leaving = new.leaving; walk = Ended }
  pub counts : new.leaving.statistics ≡ with_clearing old.cache old.leaving.statistics
  pub removed : TellsWhatLeft queues Explicit (λ e. ⊤) old.cache.contents.entries [] old.leaving.removed new.leaving.removed

-- and of bytes
pub record IsBytesEmptied (old new : ByteCache) : Type 0 where
  pub step : new ≡ record old { cache = after_invalidate_all old.cache; leaving = new.leaving; walk = Ended }
  pub counts : new.leaving.statistics ≡ with_clearing old.cache old.leaving.statistics
  pub removed : TellsWhatLeft queues Explicit (λ e. ⊤) old.cache.contents.entries [] old.leaving.removed new.leaving.removed

abbrev pub IsEmptied : AnyCache → AnyCache → Type 0
IsEmptied (Numbers old) (Numbers new) = IsNumbersEmptied old new
IsEmptied (Numbers old) (Bytes new) = ⊥
IsEmptied (Bytes old) (Numbers new) = ⊥
IsEmptied (Bytes old) (Bytes new) = IsBytesEmptied old new

-- all expired entries have left, are counted and queued, which ends a walk
pub record IsNumbersSwept (now : ℕ) (old new : NumberCache) : Type 0 where
  pub step : new ≡ record old { cache = after_remove_expired number_keys old.cache now; leaving = new.leaving; walk = Ended }
  pub counts : new.leaving.statistics ≡ with_expiry number_keys old.cache now old.leaving.statistics
  pub removed : TellsWhatLeft queues Expired (λ e. is_expired old.cache.settings.policy now e ≡ true) old.cache.contents.entries
      new.cache.contents.entries old.leaving.removed new.leaving.removed

-- and of bytes
pub record IsBytesSwept (now : ℕ) (old new : ByteCache) : Type 0 where
  pub step : new ≡ record old { cache = after_remove_expired byte_keys old.cache now; leaving = new.leaving; walk = Ended }
  pub counts : new.leaving.statistics ≡ with_expiry byte_keys old.cache now old.leaving.statistics
  pub removed : TellsWhatLeft queues Expired (λ e. is_expired old.cache.settings.policy now e ≡ true) old.cache.contents.entries
      new.cache.contents.entries old.leaving.removed new.leaving.removed

abbrev pub IsSwept : ℕ → AnyCache → AnyCache → Type 0
IsSwept now (Numbers old) (Numbers new) = IsNumbersSwept now old new
IsSwept now (Numbers old) (Bytes new) = ⊥
IsSwept now (Bytes old) (Numbers new) = ⊥
IsSwept now (Bytes old) (Bytes new) = IsBytesSwept now old new

-- what is kept once a walk was begun
abbrev pub walking : AnyCache → AnyCache
walking (Numbers numbers) = Numbers (record numbers { walk = AtStart })
walking (Bytes bytes) = Bytes (record bytes { walk = AtStart })

-- what the calls have met, and how many entries the queue has lost
abbrev pub statistics_of : AnyCache → Report
statistics_of (Numbers numbers) = record { statistics = numbers.leaving.statistics; lost = numbers.leaving.removed.lost }
statistics_of (Bytes bytes) = record { statistics = bytes.leaving.statistics; lost = bytes.leaving.removed.lost }

-- ---- answers

-- yes or no
abbrev pub TellsTruth : Bool → ℕ → Type 0
TellsTruth true status = status ≡ DONE
TellsTruth false status = status ≡ ABSENT

-- the length of what was found is written, and whether a buffer of this length has it is told; or nothing was found
abbrev pub TellsLength : Option ℕ → ℕ → ℕ → ℕ → Type 0
TellsLength (Some found) room status written = (status ≡ (if nat_le found room then DONE else TOO_SHORT)) × (written ≡ found)
TellsLength None room status written = status ≡ ABSENT
