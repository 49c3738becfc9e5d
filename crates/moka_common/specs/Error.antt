-- What a contract sees of the texts of errors.
use Rattle.std.specs.Prelude.{ℕ, List, codes}
use Rattle.moka_common.specs.declared.error.BuildError.{BuildError}
use Rattle.moka_common.specs.declared.error.BuildError.TheVariants.{TimeToLiveTooLong, TimeToIdleTooLong, WindowShareTooLarge, ProtectedShareTooLarge}
use Rattle.moka_common.specs.declared.error.BuildError.TheVariants.{CapacityTooLarge, OutOfMemory}

-- why a cache is not built, in words
abbrev pub build_error_text : BuildError → List ℕ
build_error_text TimeToLiveTooLong = codes "time_to_live is longer than 1000 years"
build_error_text TimeToIdleTooLong = codes "time_to_idle is longer than 1000 years"
build_error_text WindowShareTooLarge = codes "window_share is above 100"
build_error_text ProtectedShareTooLarge = codes "protected_share is above 100"
build_error_text CapacityTooLarge = codes "initial_capacity is too large"
build_error_text OutOfMemory = codes "out of memory"
