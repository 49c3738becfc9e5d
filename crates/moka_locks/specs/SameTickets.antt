-- Where a time to live is set, the order of use and the order of writing have the same tickets.
use Rattle.std.specs.Prelude.{◌≡◌, ℕ, Bool, true, is_some}
use Rattle.moka_common.specs.Settings.{Settings, keeps_writes}
use Rattle.moka_sync_model.specs.declared.ticket.Ticket.{Ticket}
use Rattle.moka_sync_model.specs.Orders.{Orders, charge_of, is_written}
use Rattle.moka_sync_model.specs.Phase.{ReadCount}
use Rattle.moka_locks.specs.MaintenanceTurn.{AreTurns, Working, empty_handed}

-- each ticket that is charged is in the order of writing, and each that is there is charged
pub record HasSameTickets (orders : Orders) : Type 0 where
  pub each : (t : Ticket) → is_written t orders ≡ is_some (charge_of t orders)

-- where an order of writing is kept, it has the same tickets as the order of use
abbrev pub HasBothOrders : Bool → Orders → Type 0
HasBothOrders keeps orders = keeps ≡ true → HasSameTickets orders

-- a maintenance with the writes that it has at hand, and whether an order of writing is kept: where a time to live is set
pub record AtWork : Type 0 where
  pub keeps_writes : Bool
  pub working : Working

-- one that has just begun
abbrev pub just_begun : ℕ → AtWork → AtWork
just_begun now w = record w { working = empty_handed (record w.working.maintenance { phase = ReadCount 1; moment = now }) }

-- it has the same tickets in both orders, where both are kept
abbrev pub IsOrdered : AtWork → Type 0
IsOrdered w = HasBothOrders w.keeps_writes w.working.maintenance.orders

-- turns by settings with a time to live keep that, whatever logs and entries they find
abbrev pub KeepSameTickets : (K V S : Type 0) → Type 0
KeepSameTickets K V S = (settings : Settings S) (old new : Working) → keeps_writes settings.policy ≡ true → AreTurns K V settings old new
    → HasSameTickets old.maintenance.orders → HasSameTickets new.maintenance.orders
