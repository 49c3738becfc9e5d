-- How often an operation that callers leave for the maintenance is outstanding.
use Rattle.std.specs.Prelude.{ℕ, Bool, false, cond, List, sum_by, count_by}
use Rattle.std.specs.Map.{values_of}
use Rattle.moka_sync_model.specs.declared.operation.Operation.{Operation}
use Rattle.moka_sync_model.specs.declared.operation.Operation.TheVariants.{Reading, Writing}
use Rattle.moka_sync_model.specs.declared.operation.Write.{Write}
use Rattle.moka_sync_model.specs.declared.operation.Write.TheVariants.{Upsert, Remove}
use Rattle.moka_sync_model.specs.Ticket.{same_ticket}

-- whether two writes are of one kind and of one ticket
abbrev pub same_write : Write → Write → Bool
same_write (Upsert t) (Upsert u) = same_ticket t u
same_write (Upsert t) (Remove u) = false
same_write (Remove t) (Upsert u) = false
same_write (Remove t) (Remove u) = same_ticket t u

-- how often a write is in a list
abbrev pub count_of : Write → List Write → ℕ
count_of write writes = count_by (same_write write) writes

-- how often it is in an operation
abbrev pub count_in : Write → Operation → ℕ
count_in write (Reading read) = 0
count_in write (Writing other) = cond (same_write write other) 1 0

-- how often it is pending
abbrev pub count_pending : Write → List (ℕ × Operation) → ℕ
count_pending write pending = sum_by (count_in write) (values_of pending)
