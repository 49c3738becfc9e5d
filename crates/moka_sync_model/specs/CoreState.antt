-- What a contract sees of the core: its settings, the map, the logs, what callers have pending, and the maintenance.
use Rattle.std.specs.Prelude.{◌≡◌, ℕ, ◌||◌, Bool, nat_lt, nat_eq, List, [], ◌∷◌, ◌++◌, replicate, Option, None}
use Rattle.std.specs.Map.{lookup, remove_entry}
use Rattle.moka_common.specs.Moment.{idle_expired, live_expired}
use Rattle.moka_common.specs.Settings.{Settings, idle_nanos, live_nanos}
use Rattle.moka_common.specs.Sketch.{Table}
use Rattle.moka_sync_model.specs.declared.constants.TheConstants.{SHARDS}
use Rattle.moka_sync_model.specs.declared.operation.Operation.{Operation}
use Rattle.moka_sync_model.specs.declared.operation.Read.{Read}
use Rattle.moka_sync_model.specs.declared.operation.Write.{Write}
use Rattle.moka_sync_model.specs.Entry.{Entry}
use Rattle.moka_sync_model.specs.Orders.{Orders}
use Rattle.moka_sync_model.specs.Phase.{Phase, Idle}
use Rattle.moka_sync_model.specs.Published.{opening}
use Rattle.moka_sync_model.specs.declared.published.Published.{Published}

-- what lies behind the lock of the maintenance; the moment is that of the last begin, the counts those published last
pub record Maintenance : Type 0 where
  pub orders : Orders
  pub sketch : Option Table
  pub phase : Phase
  pub moment : ℕ
  pub published : Published

-- the entries in no particular order, the number of each shard's next ticket, the moment before which entries are hidden, what is
-- pending by caller, and the moment from which on a maintenance is due by time
pub record CoreState (K V S : Type 0) : Type 0 where
  pub settings : Settings S
  pub entries : List (Entry K V)
  pub next_numbers : List ℕ
  pub valid_after : ℕ
  pub read_log : List Read
  pub write_log : List Write
  pub pending : List (ℕ × Operation)
  pub maintenance : Maintenance
  pub sync_after : Option ℕ

-- a maintenance as it is built
abbrev pub new_maintenance : Maintenance
new_maintenance = record {
  orders = record { access = []; write = [] };
  sketch = None;
  phase = Idle;
  moment = 0;
  published = opening;
}

-- a core as it is built, with this first ticket number in each shard
abbrev pub new_core : {K V S : Type 0} → Settings S → ℕ → CoreState K V S
new_core settings first = record {
  settings = settings;
  entries = [];
  next_numbers = replicate SHARDS first;
  valid_after = 0;
  read_log = [];
  write_log = [];
  pending = [];
  maintenance = new_maintenance;
  sync_after = None;
}

-- nothing has been done with a core
abbrev pub IsNew : {K V S : Type 0} → CoreState K V S → Type 0
IsNew core = (first : ℕ) × (core ≡ new_core core.settings first)

-- whether an entry is hidden: it is from before the last invalidation of all
abbrev pub is_hidden : {K V : Type 0} → ℕ → Entry K V → Bool
is_hidden valid_after e = nat_lt e.accessed valid_after || nat_lt e.modified valid_after

-- whether an entry counts no more at a moment: it was idle too long, has lived too long, or is hidden
abbrev pub is_expired : {K V S : Type 0} → Settings S → ℕ → ℕ → Entry K V → Bool
is_expired settings valid_after now e =
    idle_expired (idle_nanos settings.policy) e.accessed now || live_expired (live_nanos settings.policy) e.modified now
    || is_hidden valid_after e

module _ {K V S : Type 0} where
  -- the operation that a caller has not pushed yet
  abbrev pub pending_of : ℕ → CoreState K V S → Option Operation
  pending_of caller core = lookup (nat_eq caller) core.pending

  -- what is pending once a caller has an operation
  abbrev pub with_pending : ℕ → Operation → CoreState K V S → List (ℕ × Operation)
  with_pending caller operation core = core.pending ++ (caller, operation) ∷ []

  -- what is pending once a caller has none
  abbrev pub without_pending : ℕ → CoreState K V S → List (ℕ × Operation)
  without_pending caller core = remove_entry (nat_eq caller) core.pending
