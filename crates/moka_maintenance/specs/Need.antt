-- What a turn needs besides the maintenance, by the name that the code has for it.
use Rattle.std.specs.Prelude.{Option, Some, None}
use Rattle.moka_sync_model.specs.declared.operation.Read.{Read}
use Rattle.moka_sync_model.specs.declared.operation.Read.TheVariants.{Hit, Miss}
use Rattle.moka_sync_model.specs.declared.operation.Write.{Write}
use Rattle.moka_sync_model.specs.declared.operation.Write.TheVariants.{Upsert, Remove}
use Rattle.moka_sync_model.specs.declared.ticket.Ticket.{Ticket}
use Rattle.moka_sync_model.specs.Parts.{Need as TurnNeed, NeedsNothing, NeedsReads, NeedsWrites, NeedsShard}
use Rattle.moka_maintenance.specs.declared.maintenance.Need.{Need}
use Rattle.moka_maintenance.specs.declared.maintenance.Need.TheVariants as name

-- the need of this name
abbrev pub need_named : Need → TurnNeed
need_named name.Nothing = NeedsNothing
need_named name.Reads = NeedsReads
need_named name.Writes = NeedsWrites
need_named (name.Entry ticket) = NeedsShard ticket

-- what it takes to apply a read
abbrev pub need_to_read : Read → Need
need_to_read (Hit t moment) = name.Entry t
need_to_read (Miss hash) = name.Nothing

-- the same of a write
abbrev pub need_to_write : Write → Need
need_to_write (Upsert t) = name.Entry t
need_to_write (Remove t) = name.Nothing

-- what a turn takes at a front, if there is one
abbrev pub need_at_front : Option Ticket → Need
need_at_front None = name.Nothing
need_at_front (Some t) = name.Entry t
