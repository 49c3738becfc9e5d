-- The writes on their way from callers to the maintenance. No public clause cites this module.
use Rattle.std.specs.Prelude.{◌+◌, ℕ, List, length}
use Rattle.moka_sync_model.specs.declared.operation.Write.{Write}

-- those in the log, the first one first; and how many have left it together, and may not be applied yet
pub record WriteQueue : Type 0 where
  pub log : List Write
  pub taken : ℕ

-- how many that are
abbrev pub on_their_way : WriteQueue → ℕ
on_their_way queue = length queue.log + queue.taken
