-- What a get or insert does with a cache for one thread, as the proofs note it.
use Rattle.std.specs.Prelude.{◌≡◌, ◌⊎◌, ℕ, Bool, true, false, [], ◌∷◌, Option, Some, None, Result, Ok, Err}
use Rattle.moka_common.specs.declared.error.InsertError.{InsertError}
use Rattle.moka_common.specs.declared.error.InsertError.TheVariants as refused
use Rattle.moka_common.specs.Keys.{Keys}
use Rattle.moka_unsync_model.specs.CacheState.{CacheState}
use Rattle.moka_unsync_model.specs.Step.{Answer, Get, Insert, IsStep, Done, Found, OutOfMemory}
use Rattle.moka_unsync.specs.declared.error.TryInsertError.{TryInsertError}
use Rattle.moka_unsync.specs.declared.error.TryInsertError.TheVariants as failed
use Rattle.moka_segments.specs.History.{Visit}

-- what an insert answers, by whether it had its room
abbrev pub put_answer : {K V : Type 0} → Bool → Answer K V
put_answer true = Done
put_answer false = OutOfMemory

-- the calls: a get, and where something was put, an insert behind it
abbrev pub visit_of : {K V S W : Type 0} → CacheState K V S W → K → ℕ → Option V → CacheState K V S W → Option (V × Bool) → CacheState K V S W → Visit K V S W
visit_of before key now found between None after = record { before = before; request = Get key now; answer = Found found; after = after } ∷ []
visit_of before key now found between (Some put) after =
    record { before = between; request = Insert key put.0 None now; answer = put_answer put.1; after = after }
    ∷ record { before = before; request = Get key now; answer = Found found; after = between }
    ∷ []

-- what was put, where a value was made: nothing if memory was refused for a clone of it
abbrev pub TellsPut : {V : Type 0} → (V → V → Type 0) → V → Option (V × Bool) → Result V InsertError → Type 0
TellsPut is_clone value put (Ok copy) = is_clone value copy × (put ≡ Some (value, true))
TellsPut is_clone value put (Err error) = (put ≡ None) ⊎ (put ≡ Some (value, false))

-- what is answered, by what was found and what was put
abbrev pub TellsGot : {V : Type 0} → (V → V → Type 0) → (V → Type 0) → Option V → Option (V × Bool) → Result V InsertError → Type 0
TellsGot {V = V} is_clone makes found put (Ok copy) =
    (value : V) × is_clone value copy × (((found ≡ Some value) × (put ≡ None)) ⊎ (makes value × (found ≡ None) × (put ≡ Some (value, true))))
TellsGot {V = V} is_clone makes found put (Err error) =
    (value : V) × (((found ≡ Some value) × (put ≡ None)) ⊎ (makes value × (found ≡ None) × ((put ≡ None) ⊎ (put ≡ Some (value, false)))))

-- what is answered where making the value may fail: then nothing was found, and nothing is put
abbrev pub TellsTried : {V E : Type 0} → (V → V → Type 0) → (Result V E → Type 0) → Option V → Option (V × Bool) → Result V (TryInsertError E) → Type 0
TellsTried is_clone makes found put (Ok copy) = TellsGot is_clone (λ value. makes (Ok value)) found put (Ok copy)
TellsTried is_clone makes found put (Err (failed.Make error)) = makes (Err error) × (found ≡ None) × (put ≡ None)
TellsTried is_clone makes found put (Err failed.OutOfMemory) = TellsGot is_clone (λ value. makes (Ok value)) found put (Err refused.OutOfMemory)

module _ {K V S W : Type 0} (keys : Keys K S) (weighs : W → K → V → ℕ → W → Type 0) where
  -- the insert's step, where there was one
  abbrev pub IsPut : CacheState K V S W → K → ℕ → Option (V × Bool) → CacheState K V S W → Type 0
  IsPut before key now None after = after ≡ before
  IsPut before key now (Some put) after = IsStep keys weighs before (Insert key put.0 None now) (put_answer put.1) after
