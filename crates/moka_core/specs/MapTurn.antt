-- A turn that needs an entry, on the map, and what a hit does to its entry. No public clause cites this module.
use Rattle.std.specs.Prelude.{◌≡◌, ℕ, Bool, List, Option}
use Rattle.moka_sync_model.specs.declared.operation.Read.{Read}
use Rattle.moka_sync_model.specs.declared.operation.Read.TheVariants.{Hit, Miss}
use Rattle.moka_sync_model.specs.declared.ticket.Ticket.{Ticket}
use Rattle.moka_sync_model.specs.CoreState.{Maintenance}
use Rattle.moka_sync_model.specs.Entry.{Entry, entry_of, touched}
use Rattle.moka_sync_model.specs.Turn.Plan.{Outcome, AtEntry, Becomes, after_change}
use Rattle.moka_sync_model.specs.Turn.Turn.{turn_at}
use Rattle.moka_core.specs.MapState.{MapState}

-- the entries once that of a hit was used
abbrev pub touched_by : {K V : Type 0} → List (Entry K V) → Read → List (Entry K V)
touched_by entries (Hit t moment) = after_change t (Becomes (touched moment)) entries
touched_by entries (Miss hash) = entries

module _ {K V S : Type 0} where
  -- the turn looks at a ticket's entry on the map, and leaves the map and the maintenance so
  pub record TurnsOnMap (old_map new_map : MapState K V S) (valid_after : ℕ) (refused : Bool) (old new : Maintenance) : Type 0 where
    pub ticket : Ticket
    pub looks : Option (Entry K V) → Outcome K V
    pub is : turn_at old_map.settings valid_after refused old.phase old ≡ AtEntry ticket looks
    pub maintenance : new ≡ (looks (entry_of ticket old_map.entries)).maintenance
    pub map : new_map
        ≡ record old_map { entries = after_change ticket (looks (entry_of ticket old_map.entries)).change old_map.entries }
