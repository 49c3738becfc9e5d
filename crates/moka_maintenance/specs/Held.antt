-- How a maintenance keeps its phase: in numbers and in the marks of the nodes. No public clause cites this module.
use Rattle.std.specs.Prelude.{◌≡◌, ◌<◌, ◌≤◌, ◌+◌, ℕ, ◌==◌, Bool, true, false, if◌then◌else◌}
use Rattle.std.specs.Prelude.{◌^◌, List, [], Option, None, map, take, drop, length, nat_eq}
use Rattle.std.specs.List.{IsDistinct}
use Rattle.std.specs.Map.{keys_of}
use Rattle.moka_list.specs.Nodes.{first_id}
use Rattle.moka_common.specs.Sketch.{Table, estimate}
use Rattle.moka_sync_model.specs.declared.constants.TheConstants.{MAX_ROUNDS}
use Rattle.moka_sync_model.specs.declared.entry.EntryChange.{EntryChange}
use Rattle.moka_sync_model.specs.declared.ticket.Ticket.{Ticket}
use Rattle.moka_sync_model.specs.EntryChange.{change_of}
use Rattle.moka_sync_model.specs.Orders.{charge_of}
use Rattle.moka_sync_model.specs.Phase as phase
use Rattle.moka_sync_model.specs.Phase.{Phase, Seen}
use Rattle.moka_sync_model.specs.CoreState.{Maintenance}
use Rattle.moka_sync_model.specs.declared.published.Published.{Published}
use Rattle.moka_sync_model.specs.Entry.{Entry}
use Rattle.moka_sync_model.specs.Turn.Plan.{AtEntry, Outcome, Plan}
use Rattle.moka_sync_model.specs.Turn.Admission.{after_removing, after_scan, next_seen}
use Rattle.moka_sync_model.specs.Turn.Apply.{no_tally}
use Rattle.moka_queues.specs.declared.orders.Node.{Node}
use Rattle.moka_queues.specs.OrdersState.{OrdersState, orders_of}
use Rattle.moka_sync_model.specs.declared.progress.Work.{Work}
use Rattle.moka_sync_model.specs.declared.progress.Candidate.{Candidate}
use Rattle.moka_maintenance.specs.declared.maintenance.phase.Scan.{Scan}
use Rattle.moka_maintenance.specs.declared.maintenance.phase.Removal.{Removal}
use Rattle.moka_maintenance.specs.declared.maintenance.phase.PhaseState.{PhaseState}
use Rattle.moka_maintenance.specs.declared.maintenance.phase.PhaseState.TheVariants as state

-- the orders, the sketch, the state, the moment of the last begin, and what was published last
pub record Held : Type 0 where
  pub orders : OrdersState
  pub sketch : Option Table
  pub phase : PhaseState
  pub moment : ℕ
  pub published : Published

-- what the steps see of a node that a scan has looked at
abbrev pub seen_node : ℕ × Node → Seen
seen_node p = record { ticket = p.1.ticket; is_present = p.1.is_present }

-- the first nodes as a scan has seen them
abbrev pub first_seen : ℕ → List (ℕ × Node) → List Seen
first_seen count nodes = map seen_node (take count nodes)

-- the tickets of the first nodes
abbrev pub first_tickets : ℕ → List (ℕ × Node) → List Ticket
first_tickets count nodes = map (λ p. p.1.ticket) (take count nodes)

-- the phase that a state is, where these are the nodes
abbrev pub phase_of : List (ℕ × Node) → PhaseState → Phase
phase_of nodes state.Idle = phase.Idle
phase_of nodes (state.ReadCount round) = phase.ReadCount round
phase_of nodes (state.Reads work) = phase.Reads work
phase_of nodes (state.ReadApply work read) = phase.ReadApply work read
phase_of nodes (state.WriteCount round) = phase.WriteCount round
phase_of nodes (state.Writes work) = phase.Writes work
phase_of nodes (state.Apply work write) = phase.Apply work write
phase_of nodes (state.Scanning work scan) =
    phase.Scan work scan.candidate scan.tally (first_seen scan.seen nodes)
phase_of nodes (state.Removing work removal) =
    phase.Removing work removal.candidate removal.tally (first_tickets removal.skipped nodes)
    (first_seen removal.left (drop removal.skipped nodes))
phase_of nodes (state.Enter work candidate skipped) = phase.Enter work candidate (first_tickets skipped nodes)
phase_of nodes (state.Sketch round) = phase.Sketch round
phase_of nodes (state.MoreReads round) = phase.MoreReads round
phase_of nodes (state.MoreWrites round) = phase.MoreWrites round
phase_of nodes (state.ExpireWrite turns) = phase.ExpireWrite turns
phase_of nodes (state.ExpireAccess turns) = phase.ExpireAccess turns
phase_of nodes (state.Evict turns) = phase.Evict turns
phase_of nodes (state.Publish turns) = phase.Publish turns

-- what the steps see of it all
abbrev pub maintenance_of : Held → Maintenance
maintenance_of held = record {
  orders = orders_of held.orders;
  sketch = held.sketch;
  phase = phase_of held.orders.nodes held.phase;
  moment = held.moment;
  published = held.published;
}

-- the change of this name, and what the steps see then
abbrev pub outcome_of : {K V : Type 0} → EntryChange → Held → Outcome K V
outcome_of change held = record { change = change_of change; maintenance = maintenance_of held }

-- a scan that has looked at nothing
abbrev pub scan_begun : Work → Ticket → ℕ → Option Table → Phase
scan_begun work t weight sketch =
    phase.Scan work (record { ticket = t; weight = weight; estimate = estimate sketch t.hash }) no_tally []

-- the next node, where a scan goes on
abbrev pub next_id_if : Bool → Option ℕ → Option ℕ
next_id_if true next = None
next_id_if false next = next

-- the state where victims are left, or none
abbrev pub state_of_removal : Work → Removal → PhaseState
state_of_removal work removal =
    if removal.left == 0 then state.Enter work removal.candidate removal.skipped else state.Removing work removal

-- there is room for a candidate, and no node of it
pub record IsAwaited (orders : OrdersState) (candidate : Candidate) : Type 0 where
  pub room : 0 < orders.room
  pub absent : charge_of candidate.ticket (orders_of orders) ≡ None

-- no id stands twice, and 64 bits count the nodes
pub record AreCounted (orders : OrdersState) : Type 0 where
  pub distinct : IsDistinct nat_eq (keys_of orders.nodes)
  pub few : length orders.nodes < 2 ^ 64

-- as many nodes were looked at as there are at least, and the next one is the one behind them
pub record IsScanning (orders : OrdersState) (scan : Scan) : Type 0 where
  pub counted : AreCounted orders
  pub awaited : IsAwaited orders scan.candidate
  pub within : scan.seen ≤ length orders.nodes
  pub next : scan.next ≡ first_id (drop scan.seen orders.nodes)

-- the same of those that are skipped, and those that are left behind them
pub record IsRemoving (orders : OrdersState) (removal : Removal) : Type 0 where
  pub counted : AreCounted orders
  pub awaited : IsAwaited orders removal.candidate
  pub within : removal.skipped + removal.left ≤ length orders.nodes
  pub next : removal.next ≡ first_id (drop removal.skipped orders.nodes)

-- the same of those that are skipped, where a candidate enters
pub record IsEntering (orders : OrdersState) (candidate : Candidate) (skipped : ℕ) : Type 0 where
  pub awaited : IsAwaited orders candidate
  pub within : skipped ≤ length orders.nodes

-- what holds of the orders and of the numbers at a state
abbrev pub HoldsIn : OrdersState → PhaseState → Type 0
HoldsIn orders (state.ReadCount round) = round ≤ MAX_ROUNDS
HoldsIn orders (state.Reads work) = work.round ≤ MAX_ROUNDS
HoldsIn orders (state.ReadApply work read) = work.round ≤ MAX_ROUNDS
HoldsIn orders (state.WriteCount round) = round ≤ MAX_ROUNDS
HoldsIn orders (state.Writes work) = work.round ≤ MAX_ROUNDS
HoldsIn orders (state.Apply work write) = work.round ≤ MAX_ROUNDS
HoldsIn orders (state.Scanning work scan) = (work.round ≤ MAX_ROUNDS) × IsScanning orders scan
HoldsIn orders (state.Removing work removal) = (work.round ≤ MAX_ROUNDS) × (0 < removal.left) × IsRemoving orders removal
HoldsIn orders (state.Enter work candidate skipped) = (work.round ≤ MAX_ROUNDS) × IsEntering orders candidate skipped
HoldsIn orders (state.Sketch round) = round ≤ MAX_ROUNDS
HoldsIn orders (state.MoreReads round) = round ≤ MAX_ROUNDS
HoldsIn orders (state.MoreWrites round) = round < MAX_ROUNDS
HoldsIn orders other = Unit {0}

-- the state is this phase whatever the nodes are
pub record IsPlain (state : PhaseState) (phase : Phase) : Type 0 where
  pub is : (nodes : List (ℕ × Node)) → phase_of nodes state ≡ phase
  pub holds : (orders : OrdersState) → HoldsIn orders state

module _ {K V : Type 0} where
  -- what a scan plans to do
  abbrev pub scan_plan : Work → Scan → Held → Plan K V
  scan_plan work scan held =
      let seen = first_seen scan.seen held.orders.nodes in
      after_scan work scan.candidate scan.tally seen
      (next_seen scan.candidate scan.tally seen (orders_of held.orders)) (maintenance_of held)

  -- what the removals plan to do
  abbrev pub removal_plan : Work → Removal → Held → Plan K V
  removal_plan work removal held =
      after_removing work removal.candidate removal.tally
      (first_tickets removal.skipped held.orders.nodes)
      (first_seen removal.left (drop removal.skipped held.orders.nodes)) (maintenance_of held)

  -- by the plan a ticket's entry is looked at, and this is made of it
  pub record LooksAt (plan : Plan K V) (found : Option (Entry K V)) (change : EntryChange) (new : Held) : Type 0 where
    pub ticket : Ticket
    pub looks : Option (Entry K V) → Outcome K V
    pub is : plan ≡ AtEntry ticket looks
    pub ends : looks found ≡ outcome_of change new
