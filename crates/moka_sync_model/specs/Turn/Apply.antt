-- The turns that apply an operation.
use Rattle.std.specs.Prelude.{ℕ, ◌+◌, Bool, [], Option, None, Some, if◌then◌else◌}
use Rattle.moka_common.specs.Admission.{is_within}
use Rattle.moka_common.specs.Sketch.{estimate, after_increment}
use Rattle.moka_sync_model.specs.declared.ticket.Ticket.{Ticket}
use Rattle.moka_sync_model.specs.Entry.{Entry, touched, with_upsert_done}
use Rattle.moka_sync_model.specs.Orders.{charge_of, charged_weight, without_node, with_node, used, renewed, recharged}
use Rattle.moka_sync_model.specs.declared.progress.Work.{Work}
use Rattle.moka_sync_model.specs.declared.progress.Tally.{Tally}
use Rattle.moka_sync_model.specs.Phase.{Scan}
use Rattle.moka_common.specs.Settings.{Settings, keeps_writes}
use Rattle.moka_sync_model.specs.CoreState.{Maintenance}
use Rattle.moka_sync_model.specs.Turn.Plan.{Stays, Becomes, Leaves, Outcome, outcome, reads_or_on, writes_or_on}

-- a miss: its hash is counted
abbrev pub after_miss : Work → ℕ → Maintenance → Maintenance
after_miss work hash m = record m { sketch = after_increment m.sketch hash; phase = reads_or_on work }

-- a removal: the ticket's node leaves
abbrev pub after_removal : Work → Ticket → Maintenance → Maintenance
after_removal work t m = record m { orders = without_node t m.orders; phase = writes_or_on work }

-- nothing found yet
abbrev pub no_tally : Tally
no_tally = record { weight = 0; estimate = 0; absent = 0 }

module _ {K V : Type 0} where
  -- a hit: its hash is counted, an entry that stands was accessed at that moment or later, and the node is the most recent
  abbrev pub after_hit : Work → Ticket → ℕ → Maintenance → Option (Entry K V) → Outcome K V
  after_hit work t moment m found = outcome (Becomes (touched moment)) (after_miss work t.hash m) (used t m.orders) (reads_or_on work)

  module _ {S : Type 0} (settings : Settings S) where
    -- the entry of an upsert becomes charged with its weight
    abbrev pub after_entry : Work → Ticket → Entry K V → Maintenance → Outcome K V
    after_entry work t e m =
        outcome (Becomes with_upsert_done) m (with_node (keeps_writes settings.policy) t e.weight m.orders) (writes_or_on work)

    -- the entry of an upsert leaves
    abbrev pub after_refusal : Work → Maintenance → Outcome K V
    after_refusal work m = outcome Leaves m m.orders (writes_or_on work)

    -- an upsert whose entry stands without a node, and whether memory refuses one
    abbrev pub after_first_upsert : Bool → Work → Ticket → Entry K V → Maintenance → Outcome K V
    after_first_upsert refused work t e m =
        if refused then after_refusal work m
        else if is_within settings.policy.max_capacity (charged_weight m.orders + e.weight) then after_entry work t e m
        else if is_within settings.policy.max_capacity e.weight
        then outcome Stays m m.orders
        (Scan work (record { ticket = t; weight = e.weight; estimate = estimate m.sketch t.hash }) no_tally [])
        else after_refusal work m

    -- an upsert whose entry stands, with what is charged for it
    abbrev pub after_present_upsert : Bool → Work → Ticket → Entry K V → Option ℕ → Maintenance → Outcome K V
    after_present_upsert refused work t e None m = after_first_upsert refused work t e m
    after_present_upsert refused work t e (Some charge) m =
        outcome (Becomes with_upsert_done) m (renewed t (recharged t e.weight m.orders)) (writes_or_on work)

    -- an upsert: dropped where its entry has left
    abbrev pub after_upsert : Bool → Work → Ticket → Maintenance → Option (Entry K V) → Outcome K V
    after_upsert refused work t m None = outcome Stays m m.orders (writes_or_on work)
    after_upsert refused work t m (Some e) = after_present_upsert refused work t e (charge_of t m.orders) m
