-- What is charged where nothing is in flight, and how much more the map can have meanwhile.
use Rattle.std.specs.Prelude.{◌≡◌, ℕ, ◌+◌, Bool, true, false, [], length, sum_by, count_by, option_map}
use Rattle.std.specs.Map.{values_of}
use Rattle.moka_sync_model.specs.declared.ticket.Ticket.{Ticket}
use Rattle.moka_sync_model.specs.Entry.{entry_of}
use Rattle.moka_sync_model.specs.declared.operation.Write.{Write}
use Rattle.moka_sync_model.specs.declared.operation.Write.TheVariants.{Upsert, Remove}
use Rattle.moka_sync_model.specs.declared.operation.Operation.{Operation}
use Rattle.moka_sync_model.specs.declared.operation.Operation.TheVariants.{Reading, Writing}
use Rattle.moka_sync_model.specs.Orders.{charge_of, charged_weight}
use Rattle.moka_sync_model.specs.Phase.{Idle, held}
use Rattle.moka_sync_model.specs.CoreState.{CoreState}
use Rattle.moka_sync_model.specs.Consistent.{outstanding}

-- whether a write is an upsert
abbrev pub is_upsert : Write → Bool
is_upsert (Upsert t) = true
is_upsert (Remove t) = false

-- whether a pending operation is one
abbrev pub is_pending_upsert : Operation → Bool
is_pending_upsert (Reading read) = false
is_pending_upsert (Writing write) = is_upsert write

module _ {K V S : Type 0} where
  -- no upsert and no removal is outstanding
  abbrev pub IsSettled : CoreState K V S → Type 0
  IsSettled core = (write : Write) → outstanding core write ≡ 0

  -- nothing is in flight
  pub record IsQuiescent (core : CoreState K V S) : Type 0 where
    pub read_log : core.read_log ≡ []
    pub write_log : core.write_log ≡ []
    pub pending : core.pending ≡ []
    pub phase : core.maintenance.phase ≡ Idle

  -- the charges are the weights of the map's entries
  pub record IsPaired (core : CoreState K V S) : Type 0 where
    pub each : (t : Ticket) → charge_of t core.maintenance.orders ≡ option_map (λ e. e.weight) (entry_of t core.entries)
    pub count : length core.maintenance.orders.access ≡ length core.entries
    pub weight : charged_weight core.maintenance.orders ≡ sum_by (λ e. e.weight) core.entries

  -- how many upserts are outstanding in all
  abbrev pub upserts_outstanding : CoreState K V S → ℕ
  upserts_outstanding core =
      count_by is_pending_upsert (values_of core.pending) + count_by is_upsert core.write_log
      + count_by is_upsert (held core.maintenance.phase)
