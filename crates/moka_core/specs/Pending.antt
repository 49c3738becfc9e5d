-- What a contract sees of what is pending.
use Rattle.std.specs.Prelude.{◌≢◌, ◌<◌, ℕ, List}
use Rattle.moka_sync_model.specs.declared.constants.TheConstants.{CALLER}
use Rattle.moka_sync_model.specs.declared.operation.Operation.{Operation}

-- the operations by caller, and for how many more there is room
pub record Pending : Type 0 where
  pub operations : List (ℕ × Operation)
  pub room : ℕ

-- there is room for an operation of the caller: that of the caller of whole calls is always kept
abbrev pub HasRoomFor : ℕ → ℕ → Type 0
HasRoomFor caller room = caller ≢ CALLER → 1 < room
