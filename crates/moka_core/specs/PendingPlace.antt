-- Where a caller's operation stands. No public clause cites this module.
use Rattle.std.specs.Prelude.{◌≡◌, ℕ, ◌<◌, nat_eq, List, length, slice_index_or, Some}
use Rattle.std.specs.List.{remove}
use Rattle.std.specs.Map.{lookup, remove_entry}
use Rattle.moka_sync_model.specs.declared.operation.Operation.{Operation}

-- the operation at this index is the caller's
pub record IsPendingAt (caller : ℕ) (operations : List (ℕ × Operation)) (index : ℕ) : Type 0 where
  pub pending : ℕ × Operation
  pub below : index < length operations
  pub there : pending ≡ slice_index_or operations index pending
  pub value : lookup (nat_eq caller) operations ≡ Some pending.1
  pub rest : remove operations index ≡ remove_entry (nat_eq caller) operations
