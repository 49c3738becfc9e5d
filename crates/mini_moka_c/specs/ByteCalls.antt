-- How a call on a handle of bytes tells what the call of its cache answers.
use Rattle.std.specs.Prelude.{◌≡◌, ◌⊎◌, ◌&&◌, ℕ, true, List, is_some, length, nat_le, Option, Some, None, IsSome, option_map, if◌then◌else◌}
use Rattle.moka_unsync.specs.Contents.{entry_at}
use Rattle.moka_unsync.specs.Insert.{IsInserted}
use Rattle.moka_unsync.specs.Invalidate.{after_invalidate}
use Rattle.moka_unsync.specs.Lookup.{after_get, after_look, found_by_get, found_by_peek, is_contained}
use Rattle.moka_unsync_model.specs.ToldCalls as told
use Rattle.mini_moka_c.specs.declared.cache.ByteCache.{ByteCache}
use Rattle.mini_moka_c.specs.Buffer.{IsTaken, copied_to, is_longer}
use Rattle.mini_moka_c.specs.ByteKeys.{byte_keys, byte_weighs}
use Rattle.mini_moka_c.specs.Inserted.{inserted_of, status_of}
use Rattle.mini_moka_c.specs.declared.steps.Step.{Step}
use Rattle.mini_moka_c.specs.declared.steps.Walk.TheVariants.{Ended}
use Rattle.mini_moka_c.specs.declared.steps.Step.TheVariants as step
use Rattle.mini_moka_c.specs.Walk.{BytePair, IsLong, fitting, met_after, next_pair, step_of, walk_after}
use Rattle.mini_moka_c.specs.Removed.{QueuesTaken, queues}
use Rattle.mini_moka_c.specs.Statistics.{with_get, with_insertion, with_remove, with_taken, with_cleanup}
use Rattle.mini_moka_c.specs.declared.constants.TheConstants.{ABSENT, CHANGED, DONE, NO_TIME_TO_LIVE, OUT_OF_MEMORY, TOO_SHORT}
use Rattle.mini_moka_c.specs.Calls.{TellsLength, TellsTruth}

-- memory was refused: all entries are as they were, nothing is counted or queued, and a walk stands where it stood
abbrev pub IsBytesRefusal : ByteCache → ByteCache → Type 0
IsBytesRefusal old new = new ≡ record old { cache = record old.cache { capacity = new.cache.capacity } }

-- a status tells of that
abbrev pub TellsRefusal : ℕ → ByteCache → ByteCache → Type 0
TellsRefusal status old new = (status ≡ OUT_OF_MEMORY) × IsBytesRefusal old new

-- the pair was put, with its own time to live if it has one, and is counted, and what leaves is queued
pub record IsBytesInsert (key value : List ℕ) (own : Option ℕ) (now : ℕ) (old new : ByteCache) : Type 0 where
  pub step : IsInserted byte_keys byte_weighs old.cache key value own now new.cache
  pub counts : new.leaving.statistics ≡ with_insertion byte_keys old.cache now key new.cache old.leaving.statistics
  pub removed : told.TellsInsert queues byte_keys old.cache now key value new.cache old.leaving.removed new.leaving.removed
  pub walk : new.walk ≡ Ended

-- the pair was put, and the status says if the key has an entry now; or memory was refused
abbrev pub TellsBytesInsert : List ℕ → List ℕ → Option ℕ → ℕ → ℕ → ByteCache → ByteCache → Type 0
TellsBytesInsert key value own now status old new =
    ((status ≡ status_of (inserted_of (is_some (entry_at byte_keys.eq key new.cache.contents.entries)))) × IsBytesInsert key value own now old new)
    ⊎ TellsRefusal status old new

-- the same with its own time to live; or the cache has none, and nothing was done
abbrev pub TellsBytesInsertFor : List ℕ → List ℕ → ℕ → ℕ → ℕ → ByteCache → ByteCache → Type 0
TellsBytesInsertFor key value own now status old new =
    (IsSome old.cache.settings.policy.time_to_live × TellsBytesInsert key value (Some own) now status old new)
    ⊎ ((old.cache.settings.policy.time_to_live ≡ None) × (status ≡ NO_TIME_TO_LIVE) × (new ≡ old))

-- what was found is told by its length, and copied where the buffer is long enough
abbrev pub TellsBytesFound : Option (List ℕ) → List ℕ → ℕ → List ℕ → ℕ → Type 0
TellsBytesFound found buffer status filled written =
    TellsLength (option_map length found) (length buffer) status written × (filled ≡ copied_to buffer found)

-- the key was looked up and is counted, and what cleanup removes is queued
pub record IsBytesGet (key : List ℕ) (now : ℕ) (old new : ByteCache) : Type 0 where
  pub step : new.cache ≡ after_get byte_keys old.cache key now
  pub counts : new.leaving.statistics
      ≡ with_get (is_some (found_by_get byte_keys old.cache key now)) (with_cleanup byte_keys old.cache now old.leaving.statistics)
  pub removed : told.TellsLook queues byte_keys old.cache now old.leaving.removed new.leaving.removed
  pub walk : new.walk ≡ Ended

-- what a get finds
abbrev pub TellsBytesGet : List ℕ → ℕ → List ℕ → ℕ → List ℕ → ℕ → ByteCache → ByteCache → Type 0
TellsBytesGet key now buffer status filled written old new =
    TellsBytesFound (found_by_get byte_keys old.cache key now) buffer status filled written × IsBytesGet key now old new

-- a get finds a value; or it finds none, and this one is inserted after it and told, or refused memory
abbrev pub TellsBytesGotOrInserted : List ℕ → List ℕ → ℕ → List ℕ → ℕ → List ℕ → ℕ → ByteCache → ByteCache → Type 0
TellsBytesGotOrInserted key otherwise now buffer status filled written old new =
    ((is_some (found_by_get byte_keys old.cache key now) ≡ true)
    × TellsBytesFound (found_by_get byte_keys old.cache key now) buffer status filled written × IsBytesGet key now old new)
    ⊎ ((missed : ByteCache) × (found_by_get byte_keys old.cache key now ≡ None) × IsBytesGet key now old missed
    × ((TellsBytesFound (Some otherwise) buffer status filled written × IsBytesInsert key otherwise None now missed new) ⊎ TellsRefusal status missed new))

-- what a peek finds
abbrev pub TellsBytesPeek : List ℕ → ℕ → List ℕ → ℕ → List ℕ → ℕ → ByteCache → ByteCache → Type 0
TellsBytesPeek key now buffer status filled written old new =
    TellsBytesFound (found_by_peek byte_keys old.cache key now) buffer status filled written × (new ≡ old)

-- yes or no
abbrev pub TellsBytesLook : List ℕ → ℕ → ℕ → ByteCache → ByteCache → Type 0
TellsBytesLook key now status old new =
    TellsTruth (is_contained byte_keys old.cache key now) status × (new.cache ≡ after_look byte_keys old.cache now)
    × (new.leaving.statistics ≡ with_cleanup byte_keys old.cache now old.leaving.statistics)
    × told.TellsLook queues byte_keys old.cache now old.leaving.removed new.leaving.removed × (new.walk ≡ Ended)

-- what a removal finds, unless it is longer than the buffer and stays
abbrev pub TellsBytesRemove : List ℕ → ℕ → List ℕ → ℕ → List ℕ → ℕ → ByteCache → ByteCache → Type 0
TellsBytesRemove key now buffer status filled written old new =
    (told : Option ℕ) × TellsLength told (length buffer) status written × IsTaken old.cache key now buffer new.cache filled told
    × (new.leaving.statistics
    ≡ with_taken byte_keys old.cache now (is_longer (found_by_peek byte_keys old.cache key now) buffer) key old.leaving.statistics)
    × QueuesTaken byte_keys old.cache now (is_longer (found_by_peek byte_keys old.cache key now) buffer) key old.leaving.removed new.leaving.removed
    × (new.walk ≡ Ended)

-- the entry of the key left
abbrev pub TellsInvalidate : List ℕ → ℕ → ℕ → ByteCache → ByteCache → Type 0
TellsInvalidate key now status old new =
    (status ≡ DONE) × (new.cache ≡ after_invalidate byte_keys old.cache key now)
    × (new.leaving.statistics ≡ with_remove byte_keys old.cache now key old.leaving.statistics)
    × told.TellsInvalidate queues byte_keys old.cache now key old.leaving.removed new.leaving.removed × (new.walk ≡ Ended)

-- a walk has ended, each entry was met, or the lengths of the next one are written, and whether buffers of these lengths have it is told
abbrev pub TellsStep : Step → ℕ → ℕ → ℕ → ℕ → ℕ → Type 0
TellsStep step.Ended keys values status key value = status ≡ CHANGED
TellsStep step.Done keys values status key value = status ≡ ABSENT
TellsStep (step.Pair k v) keys values status key value =
    (status ≡ (if nat_le k keys && nat_le v values then DONE else TOO_SHORT)) × (key ≡ k) × (value ≡ v)

-- a step of a walk at a moment, which came to this pair or to none
pub record IsWalked (keys values filled_keys filled_values : List ℕ) (status key value : ℕ) (old new : ByteCache) (next : Option BytePair)
    : Type 0 where
  pub told : TellsStep (step_of old.walk next) (length keys) (length values) status key value
  pub key_shown : filled_keys ≡ copied_to keys (option_map (λ p. p.0) (fitting next keys values))
  pub value_shown : filled_values ≡ copied_to values (option_map (λ p. p.1) (fitting next keys values))
  pub walk : new.walk ≡ walk_after old.walk (fitting next keys values)
  pub walk_key : new.walk_key ≡ met_after old.walk_key (fitting next keys values)
  pub cache : new.cache ≡ old.cache
  pub leaving : new.leaving ≡ old.leaving

abbrev pub TellsWalk : ℕ → List ℕ → List ℕ → ℕ → List ℕ → List ℕ → ℕ → ℕ → ByteCache → ByteCache → Type 0
TellsWalk now keys values status filled_keys filled_values key value old new =
    IsWalked keys values filled_keys filled_values status key value old new (next_pair old.walk old.cache old.walk_key now)
    ⊎ (IsLong (next_pair old.walk old.cache old.walk_key now) × TellsRefusal status old new)
