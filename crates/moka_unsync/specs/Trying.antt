-- What a get or insert leaves whose value may fail to be made.
use Rattle.std.specs.Prelude.{◌≡◌, ◌⊎◌, ℕ, Result, Err, None}
use Rattle.moka_common.specs.Keys.{Keys}
use Rattle.moka_unsync_model.specs.CacheState.{CacheState}
use Rattle.moka_unsync_model.specs.GetOrInsert.{IsRefusedBehind}
use Rattle.moka_unsync_model.specs.Lookup.{after_get, found_by_get}
use Rattle.moka_unsync.specs.declared.error.TryInsertError.{TryInsertError}
use Rattle.moka_unsync.specs.declared.error.TryInsertError.TheVariants.{Make, OutOfMemory}

-- Only the get was made. Either it found nothing, and this is the error with which making the value failed; or memory was refused, for a clone or for room.
abbrev pub IsOnlyAGet : {E K V S W : Type 0} → (Result V E → Type 0) → (V → Type 0) → Keys K S → CacheState K V S W → K → ℕ → TryInsertError E
    → CacheState K V S W → Type 0
IsOnlyAGet makes infallible keys old key now (Make error) new =
    (found_by_get keys old key now ≡ None) × makes (Err error) × (new ≡ after_get keys old key now)
IsOnlyAGet {V = V} makes infallible keys old key now OutOfMemory new =
    ((value : V) × (¬ (infallible value)) × (new ≡ after_get keys old key now)) ⊎ IsRefusedBehind keys old key now new
