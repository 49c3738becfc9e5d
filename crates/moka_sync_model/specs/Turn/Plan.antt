-- What a turn needs to see besides the maintenance, and what it makes of that.
use Rattle.std.specs.Prelude.{◌==◌, List, Option, if◌then◌else◌}
use Rattle.moka_sync_model.specs.declared.ticket.Ticket.{Ticket}
use Rattle.moka_sync_model.specs.Ticket.{without, changed}
use Rattle.moka_sync_model.specs.Entry.{Entry, entry_of}
use Rattle.moka_sync_model.specs.declared.operation.Read.{Read}
use Rattle.moka_sync_model.specs.declared.operation.Write.{Write}
use Rattle.moka_sync_model.specs.Orders.{Orders}
use Rattle.moka_sync_model.specs.declared.progress.Work.{Work}
use Rattle.moka_sync_model.specs.Phase.{Phase, Reads, WriteCount, Writes, Sketch}
use Rattle.moka_sync_model.specs.CoreState.{CoreState, Maintenance}

-- what becomes of the entry that the turn looked at
pub data Change (K V : Type 0) : Type 0 where
  Stays : Change K V
  Becomes : (Entry K V → Entry K V) → Change K V
  Leaves : Change K V

-- the entry's change, and the maintenance after the turn
pub record Outcome (K V : Type 0) : Type 0 where
  pub change : Change K V
  pub maintenance : Maintenance

-- the maintenance at another phase, with other orders
abbrev pub moved_on : Maintenance → Orders → Phase → Maintenance
moved_on m orders phase = record m { orders = orders; phase = phase }

module _ {K V : Type 0} where
  -- the entries once that has become of the ticket's
  abbrev pub after_change : Ticket → Change K V → List (Entry K V) → List (Entry K V)
  after_change t Stays entries = entries
  after_change t (Becomes change) entries = changed (λ e. e.ticket) t change entries
  after_change t Leaves entries = without (λ e. e.ticket) t entries

  -- this change, and the maintenance with other orders at another phase
  abbrev pub outcome : Change K V → Maintenance → Orders → Phase → Outcome K V
  outcome change m orders phase = record { change = change; maintenance = moved_on m orders phase }

-- what a turn looks at besides the maintenance itself, and what it makes of what it sees: nothing, the read log, the write log, or the
-- entry of a ticket
pub data Plan (K V : Type 0) : Type 0 where
  Alone : Maintenance → Plan K V
  AtReads : (List Read → Maintenance × List Read) → Plan K V
  AtWrites : (List Write → Maintenance × List Write) → Plan K V
  AtEntry : Ticket → (Option (Entry K V) → Outcome K V) → Plan K V

module _ {K V S : Type 0} where
  -- the core once the ticket's entry was looked at
  abbrev pub after_plan_at : Ticket → (Option (Entry K V) → Outcome K V) → CoreState K V S → CoreState K V S
  after_plan_at t looks core =
      let end = looks (entry_of t core.entries) in
      record core { entries = after_change t end.change core.entries; maintenance = end.maintenance }

  -- the core once a turn is done by its plan
  abbrev pub after_plan : Plan K V → CoreState K V S → CoreState K V S
  after_plan (Alone m) core = record core { maintenance = m }
  after_plan (AtReads looks) core = let end = looks core.read_log in record core { read_log = end.1; maintenance = end.0 }
  after_plan (AtWrites looks) core = let end = looks core.write_log in record core { write_log = end.1; maintenance = end.0 }
  after_plan (AtEntry t looks) core = after_plan_at t looks core

-- the maintenance at another phase
abbrev pub gone_to : Phase → Maintenance → Maintenance
gone_to phase m = record m { phase = phase }

-- the phase after an operation, where so many are left
abbrev pub reads_or_on : Work → Phase
reads_or_on work = if work.left == 0 then WriteCount work.round else Reads work

-- the same of writes
abbrev pub writes_or_on : Work → Phase
writes_or_on work = if work.left == 0 then Sketch work.round else Writes work
