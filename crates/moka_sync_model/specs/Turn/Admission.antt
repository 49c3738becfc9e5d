-- The turns that decide whether an entry enters: the scan, the removals and the entering.
use Rattle.std.specs.Prelude.{◌+◌, ◌&&◌, ◌||◌, not, Bool, true, false, nat_le, nat_lt, List, [], ◌∷◌, ◌++◌, map, filter, length, drop}
use Rattle.std.specs.Prelude.{Option, None, Some, is_some, if◌then◌else◌}
use Rattle.moka_common.specs.Sketch.{Table, estimate}
use Rattle.moka_sync_model.specs.declared.constants.TheConstants.{MAX_ABSENT}
use Rattle.moka_sync_model.specs.declared.ticket.Ticket.{Ticket}
use Rattle.moka_sync_model.specs.Entry.{Entry, with_upsert_done}
use Rattle.moka_sync_model.specs.Orders.{Node, Orders, without_node, with_node, all_used}
use Rattle.moka_sync_model.specs.declared.progress.Work.{Work}
use Rattle.moka_sync_model.specs.declared.progress.Candidate.{Candidate}
use Rattle.moka_sync_model.specs.declared.progress.Tally.{Tally}
use Rattle.moka_sync_model.specs.Phase.{Phase, Seen, Scan, Removing, Enter}
use Rattle.moka_sync_model.specs.CoreState.{Maintenance}
use Rattle.moka_sync_model.specs.Turn.Plan.{Stays, Becomes, Leaves, Outcome, outcome, writes_or_on, Plan, Alone, AtEntry, gone_to}

-- the tickets of all nodes seen, and of the absent ones
abbrev pub tickets_of : List Seen → List Ticket
tickets_of seen = map (λ s. s.ticket) seen

-- the tickets of those that were absent
abbrev pub absent_of : List Seen → List Ticket
absent_of seen = tickets_of (filter (λ s. not s.is_present) seen)

-- whether what was found decides: the present ones weigh enough, or are used more, or too many in a row were absent
abbrev pub is_decided : Candidate → Tally → Bool
is_decided c tally = nat_le c.weight tally.weight || nat_lt c.estimate tally.estimate || nat_le MAX_ABSENT tally.absent

-- whether the candidate is admitted: the present ones weigh enough, and the candidate is used more than all of them together
abbrev pub is_admitted : Candidate → Tally → Bool
is_admitted c tally = nat_le c.weight tally.weight && nat_lt tally.estimate c.estimate

-- the node that the scan looks at next: none where it has ended
abbrev pub next_if : Bool → List Node → Option Node
next_if true nodes = None
next_if false [] = None
next_if false (n ∷ nodes) = Some n

-- the same, by what was found and seen so far
abbrev pub next_seen : Candidate → Tally → List Seen → Orders → Option Node
next_seen c tally seen orders = next_if (is_decided c tally) (drop (length seen) orders.access)

-- the phase where victims are left, or none
abbrev pub removing_or_enter : Work → Candidate → Tally → List Ticket → List Seen → Phase
removing_or_enter work c tally skipped [] = Enter work c skipped
removing_or_enter work c tally skipped (s ∷ left) = Removing work c tally skipped (s ∷ left)

module _ {K V : Type 0} where
  -- what is found once one more was looked at
  abbrev pub after_finding : Option Table → Ticket → Tally → Option (Entry K V) → Tally
  after_finding sketch t tally None = record tally { absent = tally.absent + 1 }
  after_finding sketch t tally (Some e) =
      record { weight = tally.weight + e.weight; estimate = tally.estimate + estimate sketch t.hash; absent = 0 }

  -- one node more is seen
  abbrev pub after_seeing : Work → Candidate → Tally → List Seen → Ticket → Maintenance → Option (Entry K V) → Outcome K V
  after_seeing work c tally seen t m found =
      outcome Stays m m.orders
      (Scan work c (after_finding m.sketch t tally found) (seen ++ record { ticket = t; is_present = is_some found } ∷ []))

  -- the candidate is rejected: its entry leaves, and the skipped nodes go to the back
  abbrev pub after_rejection : Work → List Seen → Maintenance → Option (Entry K V) → Outcome K V
  after_rejection work seen m found = outcome Leaves m (all_used (absent_of seen) m.orders) (writes_or_on work)

  -- a victim's turn: where it still stands, entry and node leave
  abbrev pub after_victim : Work → Candidate → Tally → List Ticket → Seen → List Seen → Maintenance → Option (Entry K V) → Outcome K V
  after_victim work c tally skipped s left m None =
      outcome Stays m m.orders (removing_or_enter work c tally (skipped ++ s.ticket ∷ []) left)
  after_victim work c tally skipped s left m (Some e) =
      outcome Leaves m (without_node s.ticket m.orders) (removing_or_enter work c tally skipped left)

  -- the candidate enters with its weight now, if it still stands, and the skipped nodes go to the back
  abbrev pub after_entering : Bool → Work → Candidate → List Ticket → Maintenance → Option (Entry K V) → Outcome K V
  after_entering keeps work c skipped m None = outcome Stays m (all_used skipped m.orders) (writes_or_on work)
  after_entering keeps work c skipped m (Some e) =
      outcome (Becomes with_upsert_done) m (all_used skipped (with_node keeps c.ticket e.weight m.orders)) (writes_or_on work)

  -- the scan has ended with this verdict
  abbrev pub after_verdict : Work → Candidate → Tally → List Seen → Bool → Maintenance → Plan K V
  after_verdict work c tally seen true m = Alone (gone_to (removing_or_enter work c tally [] seen) m)
  after_verdict work c tally seen false m = AtEntry c.ticket (after_rejection work seen m)

  -- the scan goes on with this node, or has ended
  abbrev pub after_scan : Work → Candidate → Tally → List Seen → Option Node → Maintenance → Plan K V
  after_scan work c tally seen None m = after_verdict work c tally seen (is_admitted c tally) m
  after_scan work c tally seen (Some n) m = AtEntry n.ticket (after_seeing work c tally seen n.ticket m)

  -- the first of those to be removed has its turn: one that was absent stays so
  abbrev pub after_removing : Work → Candidate → Tally → List Ticket → List Seen → Maintenance → Plan K V
  after_removing work c tally skipped [] m = Alone (gone_to (Enter work c skipped) m)
  after_removing work c tally skipped (s ∷ left) m =
      if s.is_present then AtEntry s.ticket (after_victim work c tally skipped s left m)
      else Alone (gone_to (removing_or_enter work c tally (skipped ++ s.ticket ∷ []) left) m)
