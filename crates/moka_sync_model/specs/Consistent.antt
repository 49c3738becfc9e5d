-- What holds of the core before and after each step.
use Rattle.std.specs.Prelude.{◌≡◌, ◌≢◌, ◌⊎◌, ◌<◌, ◌≤◌, ℕ, ◌+◌, ◌&&◌, Bool, true, false, List, [], ◌++◌, map, length, Option, None, Some}
use Rattle.std.specs.Prelude.{is_some, IsSome}
use Rattle.std.specs.List.{All, IsDistinct}
use Rattle.moka_common.specs.Keys.{Keys}
use Rattle.moka_sync_model.specs.declared.constants.TheConstants.{SHARDS, SYNC_BATCH_SIZE}
use Rattle.moka_sync_model.specs.declared.ticket.Ticket.{Ticket}
use Rattle.moka_sync_model.specs.Ticket.{AreApart, IsToCome, shard_of}
use Rattle.moka_sync_model.specs.Entry.{Entry, entry_of}
use Rattle.moka_sync_model.specs.declared.operation.Write.{Write}
use Rattle.moka_sync_model.specs.declared.operation.Write.TheVariants.{Upsert, Remove}
use Rattle.moka_sync_model.specs.Operation.{count_of, count_pending}
use Rattle.moka_sync_model.specs.Orders.{Orders, charge_of, is_written, charged_weight}
use Rattle.moka_sync_model.specs.Phase as phase
use Rattle.moka_sync_model.specs.declared.progress.Work.{Work}
use Rattle.moka_sync_model.specs.declared.progress.Candidate.{Candidate}
use Rattle.moka_sync_model.specs.Phase.{Phase, held}
use Rattle.moka_sync_model.specs.CoreState.{CoreState}
use Rattle.moka_common.specs.Settings.{keeps_writes}
use Rattle.moka_sync_model.specs.Queues.{AreQueuesConsistent}
use Rattle.moka_sync_model.specs.Turn.Admission.{tickets_of, is_admitted}

-- how often a write is outstanding: pending, in the log, or held by the phase
abbrev pub outstanding : {K V S : Type 0} → CoreState K V S → Write → ℕ
outstanding core write = count_pending write core.pending + count_of write core.write_log + count_of write (held core.maintenance.phase)

-- what the core has of one ticket: its entry, what is charged, whether it is in the order of writing, and how many upserts and removals
-- are outstanding
pub record Stay (K V : Type 0) : Type 0 where
  pub entry : Option (Entry K V)
  pub charge : Option ℕ
  pub written : Bool
  pub upserts : ℕ
  pub removals : ℕ

-- what it has of this one
abbrev pub stay_of : {K V S : Type 0} → Ticket → CoreState K V S → Stay K V
stay_of t core = record {
  entry = entry_of t core.entries;
  charge = charge_of t core.maintenance.orders;
  written = is_written t core.maintenance.orders;
  upserts = outstanding core (Upsert t);
  removals = outstanding core (Remove t);
}

-- nothing of a ticket
abbrev pub no_stay : {K V : Type 0} → Stay K V
no_stay = record { entry = None; charge = None; written = false; upserts = 0; removals = 0 }

-- an entry counts its upserts, and is charged with its weight or awaits an upsert; a node without its entry awaits a removal
abbrev pub IsTied : {K V : Type 0} → Option (Entry K V) → Option ℕ → ℕ → ℕ → Type 0
IsTied None None upserts removals = Unit {0}
IsTied None (Some charge) upserts removals = 0 < removals
IsTied (Some e) None upserts removals = (e.outstanding ≡ upserts) × (0 < upserts) × (removals ≡ 0)
IsTied (Some e) (Some charge) upserts removals = (e.outstanding ≡ upserts) × ((charge ≡ e.weight) ⊎ (0 < upserts)) × (removals ≡ 0)

-- what holds of one ticket, where writes are kept in order or not
pub record IsConsistentStay {K V : Type 0} (keeps : Bool) (stay : Stay K V) : Type 0 where
  pub tied : IsTied stay.entry stay.charge stay.upserts stay.removals
  pub written : stay.written ≡ (keeps && is_some stay.charge)

-- the order of use begins with these tickets
pub record Begins (orders : Orders) (front : List Ticket) : Type 0 where
  pub rest : List Ticket
  pub is : map (λ n. n.ticket) orders.access ≡ front ++ rest

-- a candidate has no node while it is decided on, there is a limit, and the nodes that were seen are the first
pub record IsAdmission (limit : Option ℕ) (orders : Orders) (writes : ℕ) (work : Work) (c : Candidate) (front : List Ticket) : Type 0 where
  pub limited : IsSome limit
  pub left : work.left ≤ writes
  pub outside : charge_of c.ticket orders ≡ None
  pub begins : Begins orders front

-- the weight is within the limit, or there is none, or all turns were used
abbrev pub IsTrimmed : Option ℕ → Orders → ℕ → Type 0
IsTrimmed None orders turns = Unit {0}
IsTrimmed (Some limit) orders turns = (charged_weight orders ≤ limit) ⊎ (turns ≡ SYNC_BATCH_SIZE)

-- the phase fits the limit, the orders and the lengths of the logs
abbrev pub Fits : Option ℕ → Orders → ℕ → ℕ → Phase → Type 0
Fits limit orders reads writes (phase.Reads work) = (0 < work.left) × (work.left ≤ reads)
Fits limit orders reads writes (phase.ReadApply work read) = work.left ≤ reads
Fits limit orders reads writes (phase.Writes work) = (0 < work.left) × (work.left ≤ writes)
Fits limit orders reads writes (phase.Apply work write) = work.left ≤ writes
Fits limit orders reads writes (phase.Scan work c tally seen) = IsAdmission limit orders writes work c (tickets_of seen)
Fits limit orders reads writes (phase.Removing work c tally skipped left) =
    IsAdmission limit orders writes work c (skipped ++ tickets_of left) × (left ≢ []) × (is_admitted c tally ≡ true)
Fits limit orders reads writes (phase.Enter work c skipped) = IsAdmission limit orders writes work c skipped
Fits limit orders reads writes (phase.Evict turns) = turns ≤ SYNC_BATCH_SIZE
Fits limit orders reads writes (phase.Publish turns) = IsTrimmed limit orders turns
Fits limit orders reads writes other = Unit {0}

module _ {K V S : Type 0} (keys : Keys K S) where
  -- what holds of entries, nodes and outstanding writes
  pub record AreEntriesConsistent (core : CoreState K V S) : Type 0 where
    -- of each ticket
    pub stays : (t : Ticket) → IsConsistentStay (keeps_writes core.settings.policy) (stay_of t core)
    pub to_come : (t : Ticket) → IsToCome core.next_numbers t → stay_of t core ≡ no_stay
    pub given_once : (t u : Ticket) → shard_of t.hash ≡ shard_of u.hash → t.number ≡ u.number → (stay_of t core ≢ no_stay)
        → (stay_of u core ≢ no_stay) → t ≡ u
    -- of the lists: a key, a ticket, a node and a write come once
    pub keys_apart : IsDistinct keys.eq (map (λ e. e.key) core.entries)
    pub entries_apart : AreApart (λ e. e.ticket) core.entries
    pub nodes_apart : AreApart (λ n. n.ticket) core.maintenance.orders.access
    pub writes_apart : AreApart (λ t. t) core.maintenance.orders.write
    pub hashed : All (λ e. e.ticket.hash ≡ keys.hash_of core.settings.hash_state e.key) core.entries
    pub numbered : length core.next_numbers ≡ SHARDS
    -- of the phase
    pub fits : Fits core.settings.policy.max_capacity core.maintenance.orders (length core.read_log) (length core.write_log)
        core.maintenance.phase

  -- what holds of the core before and after each step
  pub record IsConsistent (core : CoreState K V S) : Type 0 where
    pub entries : AreEntriesConsistent core
    pub queues : AreQueuesConsistent core
