-- A cache behind locks as one caller has it, and what is known of each step of that caller.
use Rattle.std.specs.Prelude.{◌≡◌, ◌⊎◌, ℕ, Bool, List, Option, None, Some, IfSome, Result, Ok, Err, is_some, if◌then◌else◌}
use Rattle.moka_common.specs.Keys.{Keys}
use Rattle.moka_common.specs.declared.error.InsertError.{InsertError}
use Rattle.moka_common.specs.declared.error.InsertError.TheVariants as refused
use Rattle.moka_history.specs.Steps.{Act, Gets, Invalidates, Looks, Takes}
use Rattle.moka_row.specs.Visits.{guest, newcomer}
use Rattle.moka_sync_model.specs.declared.event.Event.{Event}
use Rattle.moka_sync_model.specs.declared.event.Event.TheVariants.{Insert, Get, Contains, Invalidate, Take, InvalidateAll, Push, Forget, Begin, Turn}
use Rattle.moka_sync_model.specs.declared.event.Reply.TheVariants.{Done, Found, Bool as Truth, Discarded, At}
use Rattle.moka_sync_model.specs.declared.event.Reply.TheVariants.{NotPossible, OutOfMemory, TicketsUsedUp}
use Rattle.moka_sync_model.specs.declared.operation.Operation.{Operation}
use Rattle.moka_sync_model.specs.declared.operation.Operation.TheVariants.{Reading, Writing}
use Rattle.moka_sync_model.specs.declared.operation.Read.{Read}
use Rattle.moka_sync_model.specs.declared.operation.Read.TheVariants.{Hit, Miss}
use Rattle.moka_sync_model.specs.declared.operation.Write.{Write}
use Rattle.moka_sync_model.specs.declared.operation.Write.TheVariants.{Upsert, Remove}
use Rattle.moka_sync_model.specs.declared.ticket.Ticket.{Ticket}
use Rattle.moka_sync_model.specs.CoreState.{Maintenance}
use Rattle.moka_sync_model.specs.Phase.{Idle, ReadCount, name_of, is_idle}
use Rattle.moka_sync_model.specs.Reply.{Reply}
use Rattle.moka_sync_model.specs.WholeCall.{Log}
use Rattle.moka_sync_model.specs.Steps.{Caller, kind_of}
use Rattle.moka_locks.specs.declared.locked.Pending.{Pending}
use Rattle.moka_locks.specs.declared.locked.Pending.TheVariants as pending
use Rattle.moka_locks.specs.Cache.{Cache, plan_of}
use Rattle.moka_locks.specs.History.{Knows, Makes, Puts, place_of}
use Rattle.moka_locks.specs.Moments.{Appends, GoesOn, latest}
use Rattle.moka_locks.specs.MaintenanceTurn.{IsWorkingTurn, Working, empty_handed}

-- the operation that is pending
abbrev pub operation_of : Pending → Option Operation
operation_of pending.Nothing = None
operation_of (pending.Read logged) = Some (Reading logged.read)
operation_of (pending.Write write) = Some (Writing write)

-- the cache, what the caller knows of its shards, the moments of invalidations of all that it has seen, the operation that it has not pushed yet, and the
-- maintenance that it runs, with the writes at hand
pub record Locked (K V S W : Type 0) : Type 0 where
  pub cache : Cache S W
  pub knows : Knows K V S
  pub moments : List ℕ
  pub pending : Option Operation
  pub working : Option Working

module _ {K V S W : Type 0} where
  -- what the caller has under way
  abbrev pub locked_caller : Locked K V S W → Caller
  locked_caller locked = record { pending = kind_of locked.pending; is_maintaining = is_some locked.working }

  -- it has nothing under way
  abbrev pub resting_at : Cache S W → Knows K V S → List ℕ → Locked K V S W
  resting_at cache knows moments = record { cache = cache; knows = knows; moments = moments; pending = None; working = None }

  -- a call of the cache itself is one of a guest that has made no other
  abbrev pub CallsByGuest : Cache S W → (Locked K V S W → Locked K V S W → Type 0) → Type 0
  CallsByGuest cache calls =
      (seat : ℕ) × (moments : List ℕ) × (new : Locked K V S W) × calls (resting_at cache (newcomer (plan_of cache) (guest seat)) moments) new

  -- it has left this
  abbrev pub leaving : Option Operation → Locked K V S W → Locked K V S W
  leaving operation locked = record locked { pending = operation }

  -- it has left the removal of this ticket, or nothing more
  abbrev pub removing : Option Ticket → Locked K V S W → Locked K V S W
  removing None locked = locked
  removing (Some t) locked = leaving (Some (Writing (Remove t))) locked

  -- it runs this maintenance
  abbrev pub running : Option Working → Locked K V S W → Locked K V S W
  running working locked = record locked { working = working }

  -- it knows this
  abbrev pub knowing : Knows K V S → Locked K V S W → Locked K V S W
  knowing knows locked = record locked { knows = knows }

  -- and has seen these moments
  abbrev pub having_seen : List ℕ → Locked K V S W → Locked K V S W
  having_seen moments locked = record locked { moments = moments }

  -- it knows what another does, and has seen the moments that the other has seen
  abbrev pub informed_as : Locked K V S W → Locked K V S W → Locked K V S W
  informed_as new locked = having_seen new.moments (knowing new.knows locked)

  -- a look at a log and at the time may decide anything, and changes nothing that the caller has under way
  abbrev pub locked_decides : Locked K V S W → Log → ℕ → Bool → Locked K V S W → Type 0
  locked_decides old log now runs new = new ≡ old

-- a maintenance that has ended is given back
abbrev pub kept_running : Working → Option Working
kept_running w = if is_idle w.maintenance.phase then None else Some w

module _ {K V S W : Type 0} (keys : Keys K S) (holds : K → V → Type 0) (weighs : W → K → V → ℕ → Type 0) where
  -- this was done in the shard of a key
  abbrev pub Does : Locked K V S W → K → Act K V → Locked K V S W → Type 0
  Does old key act new = Makes keys old.cache.settings old.knows (place_of keys old.cache.settings key) act new.knows

  -- this was done there, by the latest moment of an invalidation of all: one that the caller had seen, or a later one
  abbrev pub DoesSeeing : Locked K V S W → K → (ℕ → Act K V) → Locked K V S W → Type 0
  DoesSeeing old key act new = Does old key (act (latest new.moments)) new × GoesOn old.moments new.moments

  -- an insert with this answer
  abbrev pub DoesPut : Locked K V S W → K → V → ℕ → Result Ticket InsertError → Locked K V S W → Type 0
  DoesPut old key value now answer new = Puts keys old.cache.settings (weighs old.cache.weigher) old.knows key value now answer new.knows

  -- What a step may reply and leave, whatever other callers do meanwhile. What the caller has under way is exact. A step on a shard is noted in the history of
  -- the shard, which leads from a new shard to this step and on. An invalidation of all leaves its moment. And the maintenance takes the turns of the
  -- definitions.
  abbrev pub locked_allows : Locked K V S W → Event K V → Reply K V → Locked K V S W → Type 0
  locked_allows old (Insert caller key value now) Done new =
      (t : Ticket) × DoesPut old key value now (Ok t) new × (new ≡ leaving (Some (Writing (Upsert t))) (knowing new.knows old))
  locked_allows old (Insert caller key value now) OutOfMemory new =
      (new ≡ old) ⊎ (DoesPut old key value now (Err refused.OutOfMemory) new × (new ≡ knowing new.knows old))
  locked_allows old (Insert caller key value now) TicketsUsedUp new =
      DoesPut old key value now (Err refused.TicketsUsedUp) new × (new ≡ knowing new.knows old)
  locked_allows old (Get caller key now) (Found None) new =
      DoesSeeing old key (λ valid_after. Gets key now valid_after None) new
      × (new ≡ leaving (Some (Reading (Miss (keys.hash_of old.cache.settings.hash_state key)))) (informed_as new old))
  locked_allows old (Get caller key now) (Found (Some value)) new =
      holds key value
      × ((t : Ticket) × DoesSeeing old key (λ valid_after. Gets key now valid_after (Some (value, t))) new
      × (new ≡ leaving (Some (Reading (Hit t now))) (informed_as new old)))
  locked_allows old (Get caller key now) OutOfMemory new =
      ((found : V × Ticket) × DoesSeeing old key (λ valid_after. Gets key now valid_after (Some found)) new) × (new ≡ informed_as new old)
  locked_allows old (Contains key now) (Truth is_there) new =
      DoesSeeing old key (λ valid_after. Looks key now valid_after is_there) new × (new ≡ informed_as new old)
  locked_allows old (Invalidate caller key now) Done new =
      (left : Option Ticket) × Does old key (Invalidates key left) new × (new ≡ removing left (knowing new.knows old))
  locked_allows old (Take caller key now) (Found found) new =
      IfSome found (λ value. holds key value)
      × ((left : Option Ticket) × DoesSeeing old key (λ valid_after. Takes key now valid_after found left) new
      × (new ≡ removing left (informed_as new old)))
  locked_allows old (Take caller key now) OutOfMemory new =
      ((found : V × Ticket) × DoesSeeing old key (λ valid_after. Gets key now valid_after (Some found)) new) × (new ≡ informed_as new old)
  locked_allows old (InvalidateAll now) Done new = Appends old.moments now new.moments × (new ≡ having_seen new.moments old)
  locked_allows old (Push caller) Done new = new ≡ leaving None old
  locked_allows old (Push caller) Discarded new = ((read : Read) × (old.pending ≡ Some (Reading read))) × (new ≡ leaving None old)
  locked_allows old (Push caller) NotPossible new = ((write : Write) × (old.pending ≡ Some (Writing write))) × (new ≡ old)
  locked_allows old (Forget caller) Done new = new ≡ leaving None old
  locked_allows old (Begin now) Done new =
      (m : Maintenance) × (m.phase ≡ Idle) × (new ≡ running (Some (empty_handed (record m { phase = ReadCount 1; moment = now }))) old)
  locked_allows old Turn (At phase) new =
      (w : Working) × (next : Working) × (old.working ≡ Some w) × IsWorkingTurn K V old.cache.settings w next
      × (phase ≡ name_of next.maintenance.phase) × (new ≡ running (kept_running next) old)
  locked_allows old event reply new = ⊥
