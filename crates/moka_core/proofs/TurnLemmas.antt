-- A turn on the part that it needs is the turn of the core.
use Rattle.std.proofs.Common.{◌≡◌, ◌∙◌, Bool, List, ◌∷◌, false, refl, subst, sym, ap}
use Rattle.moka_sync_model.specs.declared.operation.Read.{Read}
use Rattle.moka_sync_model.specs.declared.operation.Write.{Write}
use Rattle.moka_sync_model.specs.CoreState.{CoreState, Maintenance}
use Rattle.moka_sync_model.specs.Entry.{entry_of}
use Rattle.moka_sync_model.specs.Parts.{TurnsAlone, TurnsWithReads, TurnsWithWrites}
use Rattle.moka_sync_model.specs.Turn.Plan.{after_change, after_plan, gone_to}
use Rattle.moka_sync_model.specs.Turn.Turn.{after_turn, turn_at}
use Rattle.moka_maintenance.specs.Taken.{TakesWrite, having_taken_write, phase_with_write}
use Rattle.moka_core.specs.MapState.{MapState, map_of, with_map}
use Rattle.moka_core.specs.MapTurn.{TurnsOnMap}

module _ {K V S : Type 0} (core : CoreState K V S) (refused : Bool) (new : Maintenance) where
  -- a turn at an entry
  pub turn_on_map : (map : MapState K V S) → TurnsOnMap (map_of core) map core.valid_after refused core.maintenance new
      → with_map map (record core { maintenance = new }) ≡ after_turn refused core
  turn_on_map map turns =
      let found = entry_of turns.ticket core.entries in
      ap (λ m. with_map m (record core { maintenance = new })) turns.map
      ∙ ap (λ m. record core { entries = after_change turns.ticket (turns.looks found).change core.entries; maintenance = m })
      turns.maintenance
      ∙ sym (ap (λ plan. after_plan plan core) turns.is)

  -- one that needs nothing
  pub turn_alone : TurnsAlone K V core.settings core.valid_after refused core.maintenance new
      → record core { maintenance = new } ≡ after_turn refused core
  turn_alone turns = sym (ap (λ plan. after_plan plan core) turns)

  -- one that needs the read log
  pub turn_with_reads : (log : List Read) → TurnsWithReads K V core.settings core.valid_after refused core.maintenance new core.read_log log
      → record core { read_log = log; maintenance = new } ≡ after_turn refused core
  turn_with_reads log turns =
      ap (λ (end : Maintenance × List Read). record core { read_log = end.1; maintenance = end.0 }) turns.ends
      ∙ sym (ap (λ plan. after_plan plan core) turns.is)

  -- one that needs the write log
  pub turn_with_writes : (log : List Write) → TurnsWithWrites K V core.settings core.valid_after refused core.maintenance new
      core.write_log log
      → record core { write_log = log; maintenance = new } ≡ after_turn refused core
  turn_with_writes log turns =
      ap (λ (end : Maintenance × List Write). record core { write_log = end.1; maintenance = end.0 }) turns.ends
      ∙ sym (ap (λ plan. after_plan plan core) turns.is)

-- a write that was taken has left its log by a turn
pub write_taken : {K V S : Type 0} (core : CoreState K V S) (write : Write) (rest : List Write) → TakesWrite core.maintenance
    → core.write_log ≡ write ∷ rest
    → record core { write_log = rest; maintenance = having_taken_write write core.maintenance } ≡ after_turn false core
write_taken {K} {V} core write rest takes log =
    subst (λ l. record core { write_log = rest; maintenance = having_taken_write write core.maintenance }
    ≡ after_plan (turn_at {K = K} {V = V} core.settings core.valid_after false core.maintenance.phase core.maintenance)
    (record core { write_log = l })) (sym log)
    (subst (λ p. record core { write_log = rest; maintenance = gone_to (phase_with_write write p) core.maintenance }
    ≡ after_plan (turn_at {K = K} {V = V} core.settings core.valid_after false p core.maintenance)
    (record core { write_log = write ∷ rest })) (sym takes.1) refl)
