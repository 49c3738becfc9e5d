-- Rules of a cache: which pairs it may have, and which visitors may write a key.
use Rattle.std.specs.Prelude.{◌≡◌, ℕ, Bool, true}
use Rattle.moka_unsync_model.specs.Step.{Request, Insert, Invalidate, InvalidateAll, InvalidateEntriesIf, Remove}

-- which pairs may be inserted, and which visitors may insert, invalidate or remove a key, by their numbers
pub record Rules (K V : Type 0) : Type 1 where
  pub holds : K → V → Type 0
  pub owns : ℕ → K → Type 0

-- rules hold of equal keys alike
pub record Agree {K V : Type 0} (eq : K → K → Bool) (rules : Rules K V) : Type 0 where
  pub holds : (key other : K) (value : V) → eq key other ≡ true → rules.holds key value → rules.holds other value
  pub owns : (by : ℕ) (key other : K) → eq key other ≡ true → rules.owns by key → rules.owns by other

module _ {K V : Type 0} (rules : Rules K V) where
  -- a visitor may make this call
  abbrev pub IsPermitted : ℕ → Request K V → Type 0
  IsPermitted by (Insert key value own now) = rules.holds key value × rules.owns by key
  IsPermitted by (Invalidate key now) = rules.owns by key
  IsPermitted by (Remove key now) = rules.owns by key
  IsPermitted by InvalidateAll = (key : K) → rules.owns by key
  IsPermitted by (InvalidateEntriesIf answers) = (key : K) → rules.owns by key
  IsPermitted by request = Unit {0}

  -- a visitor is the only one that may write a key
  abbrev pub IsOwner : ℕ → K → Type 0
  IsOwner by key = (other : ℕ) → rules.owns other key → other ≡ by
