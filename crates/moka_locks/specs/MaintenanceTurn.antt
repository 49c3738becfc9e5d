-- What turns of the maintenance do behind its lock, with the writes that it has taken.
use Rattle.std.specs.Prelude.{◌≡◌, ◌≤◌, false, List, [], ◌∷◌, length}
use Rattle.moka_common.specs.Settings.{Settings}
use Rattle.moka_sync_model.specs.declared.operation.Write.{Write}
use Rattle.moka_sync_model.specs.CoreState.{Maintenance}
use Rattle.moka_sync_model.specs.Phase.{is_idle}
use Rattle.moka_shard.specs.PlannedTurn.{IsTurn}
use Rattle.moka_maintenance.specs.Taken.{TakesWrite, having_taken_write, writes_left}

-- a maintenance, and the writes taken from their log that are not applied yet, the next one first
pub record Working : Type 0 where
  pub maintenance : Maintenance
  pub taken : List Write

-- no write is taken
abbrev pub empty_handed : Maintenance → Working
empty_handed m = record { maintenance = m; taken = [] }

-- a turn that takes a write takes the first of those taken from the log, and leaves the others; where there is none, some may leave the log
abbrev pub TakesFirst : List Write → Maintenance → Working → Type 0
TakesFirst [] old new = Unit {0}
TakesFirst (write ∷ others) old new = (new.maintenance ≡ having_taken_write write old) × (new.taken ≡ others)

-- one turn with the writes at hand, of which any but one that takes a write leaves all. There are never more of them than its round is
-- still to take, so none where it ends
pub record IsWorkingTurn (K V : Type 0) {S : Type 0} (settings : Settings S) (old new : Working) : Type 0 where
  pub turn : IsTurn K V settings old.maintenance new.maintenance
  pub takes : TakesWrite old.maintenance → TakesFirst old.taken old.maintenance new
  pub keeps : (TakesWrite old.maintenance → ⊥) → new.taken ≡ old.taken
  pub within : length new.taken ≤ writes_left new.maintenance.phase

-- one such turn, or several, of which only the last may end the maintenance
pub data AreTurns (K V : Type 0) {S : Type 0} (settings : Settings S) : Working → Working → Type 0 where
  OneTurn : (old new : Working) → IsWorkingTurn K V settings old new → AreTurns K V settings old new
  MoreTurns : (old between new : Working) → is_idle between.maintenance.phase ≡ false → IsWorkingTurn K V settings old between
      → AreTurns K V settings between new → AreTurns K V settings old new
