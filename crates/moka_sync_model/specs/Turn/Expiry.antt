-- The turns at the front of an order: expiry by writing, expiry by use, and eviction.
use Rattle.std.specs.Prelude.{ℕ, ◌+◌, ◌&&◌, ◌||◌, not, Bool, true, false, nat_lt, List, [], ◌∷◌, map, Option, None, Some, is_some}
use Rattle.std.specs.Prelude.{if◌then◌else◌}
use Rattle.moka_common.specs.Admission.{is_within}
use Rattle.moka_common.specs.Moment.{idle_expired, live_expired}
use Rattle.moka_sync_model.specs.declared.constants.TheConstants.{SYNC_BATCH_SIZE}
use Rattle.moka_sync_model.specs.declared.ticket.Ticket.{Ticket}
use Rattle.moka_sync_model.specs.Entry.{Entry}
use Rattle.moka_sync_model.specs.Orders.{Orders, charged_weight, without_node, used, renewed}
use Rattle.moka_sync_model.specs.Phase.{Phase, Evict}
use Rattle.moka_common.specs.Settings.{Settings, idle_nanos, live_nanos, keeps_writes}
use Rattle.moka_sync_model.specs.CoreState.{Maintenance}
use Rattle.moka_sync_model.specs.Turn.Plan.{Stays, Leaves, Outcome, outcome, Plan, Alone, AtEntry, gone_to}

-- the first ticket, where there is a turn to be used
abbrev pub first_if : Bool → List Ticket → Option Ticket
first_if false ts = None
first_if true [] = None
first_if true (t ∷ ts) = Some t

module _ {K V S : Type 0} (settings : Settings S) (valid_after : ℕ) where
  -- an entry whose write is too long ago
  abbrev pub is_past_ttl_or_hidden : ℕ → Entry K V → Bool
  is_past_ttl_or_hidden now e = live_expired (live_nanos settings.policy) e.modified now || nat_lt e.modified valid_after

  -- an entry whose use is too long ago
  abbrev pub is_past_tti_or_hidden : ℕ → Entry K V → Bool
  is_past_tti_or_hidden now e = idle_expired (idle_nanos settings.policy) e.accessed now || nat_lt e.accessed valid_after

module _ {K V : Type 0} where
  -- a turn at the front of an order: an absent entry's node is sent to the back, an entry that is over leaves, and at a fresh one the
  -- pass ends
  abbrev pub after_front : (Entry K V → Bool) → (Ticket → Orders → Orders) → Phase → Phase → Ticket → Maintenance → Option (Entry K V)
      → Outcome K V
  after_front is_over sends more done t m None = outcome Stays m (sends t m.orders) more
  after_front is_over sends more done t m (Some e) =
      if is_over e then outcome Leaves m (without_node t m.orders) more else outcome Stays m m.orders done

  -- an eviction's turn: an entry with an upsert outstanding is sent to the back
  abbrev pub after_eviction : ℕ → Ticket → Maintenance → Option (Entry K V) → Outcome K V
  after_eviction turns t m None = outcome Stays m (used t m.orders) (Evict (turns + 1))
  after_eviction turns t m (Some e) =
      if nat_lt 0 e.outstanding then outcome Stays m (renewed t m.orders) (Evict (turns + 1))
      else outcome Leaves m (without_node t m.orders) (Evict (turns + 1))

module _ {S : Type 0} (settings : Settings S) where
  -- the front at which there is a turn
  abbrev pub write_front : ℕ → Orders → Option Ticket
  write_front turns orders = first_if (keeps_writes settings.policy && nat_lt turns SYNC_BATCH_SIZE) orders.write

  -- the same in the order of use
  abbrev pub access_front : ℕ → ℕ → Orders → Option Ticket
  access_front valid_after turns orders =
      first_if ((is_some settings.policy.time_to_idle || nat_lt 0 valid_after) && nat_lt turns SYNC_BATCH_SIZE)
      (map (λ n. n.ticket) orders.access)

  -- the same, where more is charged than the limit
  abbrev pub eviction_front : ℕ → Orders → Option Ticket
  eviction_front turns orders =
      first_if (not (is_within settings.policy.max_capacity (charged_weight orders)) && nat_lt turns SYNC_BATCH_SIZE)
      (map (λ n. n.ticket) orders.access)

module _ {K V : Type 0} where
  -- there is a turn at a front, or none, which ends the pass
  abbrev pub after_pass : Option Ticket → Phase → (Ticket → Maintenance → Option (Entry K V) → Outcome K V) → Maintenance → Plan K V
  after_pass None done looks m = Alone (gone_to done m)
  after_pass (Some t) done looks m = AtEntry t (looks t m)
