-- What a contract sees of weights where there is no weigher.
use Rattle.std.specs.Prelude.{◌≡◌, ℕ}
use Rattle.moka_common.specs.declared.constants.TheConstants.{UNIT_WEIGHT}

-- each entry weighs the same
abbrev pub unit_weighs : {K V : Type 0} → K → V → ℕ → Type 0
unit_weighs key value weight = weight ≡ UNIT_WEIGHT
