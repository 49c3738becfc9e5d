-- What the cache of a script stores, and how it is weighed.
use Rattle.std.specs.Prelude.{◌≡◌, ℕ, List, Option, unwrap_or}
use Rattle.moka_common.specs.declared.constants.TheConstants.{UNIT_WEIGHT}
use Rattle.moka_script.specs.declared.stored.Stored.{Stored}

-- what an insert stores: its text, and the weight that its line says, or the unit weight where it says none
abbrev pub stored_text : {T : Type 0} → T → Option ℕ → Stored T
stored_text text weight = record { text = text; weight = unwrap_or weight UNIT_WEIGHT }

-- a weigher answers the weight that is stored, and stays as it is
abbrev pub stored_weighs : {W : Type 0} → W → ℕ → Stored (List ℕ) → ℕ → W → Type 0
stored_weighs old key value weight new = (weight ≡ value.weight) × (new ≡ old)
