-- What a get or insert leaves: a get, and where that finds nothing an insert of a value that is made then, at the same moment.
use Rattle.std.specs.Prelude.{◌≡◌, ◌⊎◌, ℕ, Some, None}
use Rattle.moka_common.specs.Keys.{Keys}
use Rattle.moka_unsync_model.specs.CacheState.{CacheState}
use Rattle.moka_unsync_model.specs.Lookup.{after_get, found_by_get}
use Rattle.moka_unsync_model.specs.Insert.{IsInserted, IsRefused}

module _ {K V S W : Type 0} (keys : Keys K S) (old : CacheState K V S W) (key : K) (now : ℕ) where
  -- a get found this value, and no more was done
  pub record IsGot (value : V) (new : CacheState K V S W) : Type 0 where
    pub found : found_by_get keys old key now ≡ Some value
    pub step : new ≡ after_get keys old key now

  -- a get found nothing, and this value was inserted behind it
  pub record IsPutBehind (weighs : W → K → V → ℕ → W → Type 0) (value : V) (new : CacheState K V S W) : Type 0 where
    pub missed : found_by_get keys old key now ≡ None
    pub step : IsInserted keys weighs (after_get keys old key now) key value None now new

  -- a get found nothing, and there was no room for an insert behind it
  pub record IsRefusedBehind (new : CacheState K V S W) : Type 0 where
    pub missed : found_by_get keys old key now ≡ None
    pub step : IsRefused (after_get keys old key now) new

  -- this value was found, or it was made and inserted
  abbrev pub IsGotOrInserted : (W → K → V → ℕ → W → Type 0) → (V → Type 0) → V → CacheState K V S W → Type 0
  IsGotOrInserted weighs makes value new = IsGot value new ⊎ (makes value × IsPutBehind weighs value new)
