-- How a call on a handle of numbers tells what the call of its cache answers.
use Rattle.std.specs.Prelude.{◌≡◌, ◌⊎◌, ℕ, is_some, Option, Some, None, IsSome}
use Rattle.moka_unsync.specs.Contents.{entry_at}
use Rattle.moka_unsync.specs.Insert.{IsInserted, IsRefused}
use Rattle.moka_unsync.specs.Invalidate.{after_invalidate}
use Rattle.moka_unsync.specs.Lookup.{after_get, after_look, found_by_get, found_by_peek, is_contained}
use Rattle.moka_unsync_model.specs.ToldCalls as told
use Rattle.mini_moka_c.specs.declared.number_cache.NumberCache.{NumberCache}
use Rattle.mini_moka_c.specs.declared.steps.NumberStep.{NumberStep}
use Rattle.mini_moka_c.specs.declared.steps.NumberStep.TheVariants as step
use Rattle.mini_moka_c.specs.declared.steps.Walk.TheVariants.{Ended}
use Rattle.mini_moka_c.specs.declared.constants.TheConstants.{ABSENT, CHANGED, DONE, NO_TIME_TO_LIVE, OUT_OF_MEMORY}
use Rattle.mini_moka_c.specs.Calls.{TellsTruth}
use Rattle.mini_moka_c.specs.Inserted.{inserted_of, status_of}
use Rattle.mini_moka_c.specs.NumberKeys.{number_keys, number_weighs}
use Rattle.mini_moka_c.specs.NumberWalk.{met_after, next_pair, step_of, walk_after}
use Rattle.mini_moka_c.specs.Removed.{queues}
use Rattle.mini_moka_c.specs.Statistics.{with_get, with_insertion, with_remove, with_cleanup}

-- the pair goes into the cache at a moment, and is counted, and what leaves is queued
pub record IsNumberInsert (key value : ℕ) (own : Option ℕ) (now : ℕ) (old new : NumberCache) : Type 0 where
  pub step : IsInserted number_keys number_weighs old.cache key value own now new.cache
  pub counts : new.leaving.statistics ≡ with_insertion number_keys old.cache now key new.cache old.leaving.statistics
  pub removed : told.TellsInsert queues number_keys old.cache now key value new.cache old.leaving.removed new.leaving.removed
  pub walk : new.walk ≡ Ended

-- there was no room for one more entry: all are as they were, nothing is counted or queued, and a walk stands where it stood
pub record IsNumberRefusal (old new : NumberCache) : Type 0 where
  pub refused : IsRefused old.cache new.cache
  pub same : new ≡ record old { cache = new.cache }

-- a get finds this value, or none, and is counted, and what cleanup removes is queued
pub record IsNumberGet (key now : ℕ) (found : Option ℕ) (old new : NumberCache) : Type 0 where
  pub value : found ≡ found_by_get number_keys old.cache key now
  pub step : new.cache ≡ after_get number_keys old.cache key now
  pub counts : new.leaving.statistics ≡ with_get (is_some found) (with_cleanup number_keys old.cache now old.leaving.statistics)
  pub removed : told.TellsLook queues number_keys old.cache now old.leaving.removed new.leaving.removed
  pub walk : new.walk ≡ Ended

-- the entry of the key left, is counted and queued
pub record IsNumberInvalidation (key now : ℕ) (old new : NumberCache) : Type 0 where
  pub step : new ≡ record old { cache = after_invalidate number_keys old.cache key now; leaving = new.leaving; walk = Ended }
  pub counts : new.leaving.statistics ≡ with_remove number_keys old.cache now key old.leaving.statistics
  pub removed : told.TellsInvalidate queues number_keys old.cache now key old.leaving.removed new.leaving.removed

-- the entry of the key was taken, and is counted; it is queued only if it is expired
pub record IsNumberRemove (key now : ℕ) (old new : NumberCache) : Type 0 where
  pub step : new ≡ record old { cache = after_invalidate number_keys old.cache key now; leaving = new.leaving; walk = Ended }
  pub counts : new.leaving.statistics ≡ with_remove number_keys old.cache now key old.leaving.statistics
  pub removed : told.TellsRemove queues number_keys old.cache now key old.leaving.removed new.leaving.removed

-- a value was found and is written, or none was
abbrev pub TellsFound : Option ℕ → ℕ → ℕ → Type 0
TellsFound (Some value) status written = (status ≡ DONE) × (written ≡ value)
TellsFound None status written = status ≡ ABSENT

-- the pair was put, and the status says if the key has an entry now; or memory was refused
abbrev pub TellsInsert : ℕ → ℕ → Option ℕ → ℕ → ℕ → NumberCache → NumberCache → Type 0
TellsInsert key value own now status old new =
    ((status ≡ status_of (inserted_of (is_some (entry_at number_keys.eq key new.cache.contents.entries)))) × IsNumberInsert key value own now old new)
    ⊎ ((status ≡ OUT_OF_MEMORY) × IsNumberRefusal old new)

-- the same with its own time to live; or the cache has none, and nothing was done
abbrev pub TellsInsertFor : ℕ → ℕ → ℕ → ℕ → ℕ → NumberCache → NumberCache → Type 0
TellsInsertFor key value own now status old new =
    (IsSome old.cache.settings.policy.time_to_live × TellsInsert key value (Some own) now status old new)
    ⊎ ((old.cache.settings.policy.time_to_live ≡ None) × (status ≡ NO_TIME_TO_LIVE) × (new ≡ old))

-- what a get finds
abbrev pub TellsGet : ℕ → ℕ → ℕ → ℕ → NumberCache → NumberCache → Type 0
TellsGet key now status written old new =
    TellsFound (found_by_get number_keys old.cache key now) status written × IsNumberGet key now (found_by_get number_keys old.cache key now) old new

-- what a peek finds
abbrev pub TellsPeek : ℕ → ℕ → ℕ → ℕ → NumberCache → NumberCache → Type 0
TellsPeek key now status written old new = TellsFound (found_by_peek number_keys old.cache key now) status written × (new ≡ old)

-- yes or no
abbrev pub TellsLook : ℕ → ℕ → ℕ → NumberCache → NumberCache → Type 0
TellsLook key now status old new =
    TellsTruth (is_contained number_keys old.cache key now) status × (new.cache ≡ after_look number_keys old.cache now)
    × (new.leaving.statistics ≡ with_cleanup number_keys old.cache now old.leaving.statistics)
    × told.TellsLook queues number_keys old.cache now old.leaving.removed new.leaving.removed × (new.walk ≡ Ended)

-- what a removal finds
abbrev pub TellsRemove : ℕ → ℕ → ℕ → ℕ → NumberCache → NumberCache → Type 0
TellsRemove key now status written old new =
    TellsFound (found_by_get number_keys old.cache key now) status written × IsNumberRemove key now old new

-- a get found the value that is written; or it found none, and this one was inserted behind it, or was refused memory
abbrev pub TellsGotOrInserted : ℕ → ℕ → ℕ → ℕ → ℕ → NumberCache → NumberCache → Type 0
TellsGotOrInserted key otherwise now status written old new =
    ((status ≡ DONE) × IsNumberGet key now (Some written) old new)
    ⊎ ((missed : NumberCache) × IsNumberGet key now None old missed
    × (((status ≡ DONE) × (written ≡ otherwise) × IsNumberInsert key otherwise None now missed new)
    ⊎ ((status ≡ OUT_OF_MEMORY) × IsNumberRefusal missed new)))

-- a walk has ended, each entry was met, or the next one is written
abbrev pub TellsStep : NumberStep → ℕ → ℕ → ℕ → Type 0
TellsStep step.Ended status key value = status ≡ CHANGED
TellsStep step.Done status key value = status ≡ ABSENT
TellsStep (step.Pair k v) status key value = (status ≡ DONE) × (key ≡ k) × (value ≡ v)

-- a step of a walk at a moment
abbrev pub TellsNumberWalk : ℕ → ℕ → ℕ → ℕ → NumberCache → NumberCache → Type 0
TellsNumberWalk now status key value old new =
    TellsStep (step_of old.walk (next_pair old.walk old.cache old.walk_key now)) status key value
    × (new ≡ record old {
      walk = walk_after old.walk (next_pair old.walk old.cache old.walk_key now);
      walk_key = met_after old.walk_key (next_pair old.walk old.cache old.walk_key now);
    })
