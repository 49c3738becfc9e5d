use Rattle.std.proofs.Common.{◌∙◌, Some, ap, subst}
use Rattle.moka_sync_model.specs.CoreState.{CoreState}
use Rattle.moka_sync_model.specs.Turn.Turn.{after_turn}
use Rattle.moka_sync_model.specs.declared.operation.Write.TheVariants.{Upsert}
use Rattle.moka_maintenance.specs.Taken.{IsTaken, TakesWrite, having_taken_write}
use Rattle.moka_core.proofs.TurnLemmas.{turn_on_map, write_taken}
use Rattle.moka_core.proofs.machine.Machine.apply_next_write.Goals as goal

pub returns-in-Upsert-clause-turns : goal.returns-in-Upsert-clause-turns
returns-in-Upsert-clause-turns g c =
    let inside = c.self.inside in
    let write = Upsert c.in-Upsert.ticket in
    let rest = c.take_write.new.log in
    let core : CoreState g.row.K.Denot g.row.V.Denot g.row.S.Denot = record {
      settings = inside.map.settings;
      entries = inside.map.entries;
      next_numbers = inside.map.next_numbers;
      valid_after = inside.valid_after;
      read_log = inside.read_log;
      write_log = inside.write_log;
      pending = inside.pending.operations;
      maintenance = inside.maintenance;
      sync_after = inside.sync_after;
    } in
    let taken = subst (λ operation. IsTaken (TakesWrite inside.maintenance) operation inside.write_log rest)
    (c.in-Some.is ∙ ap Some c.in-Upsert.is) c.take_write.ensures in
    let (refused, turn) = c.turn_with_upsert.ensures in
    rw (← c.self.view_is) (
      taken.0,
      refused,
      turn_on_map (record core { write_log = rest; maintenance = having_taken_write write inside.maintenance }) refused
          c.turn_with_upsert.new.maintenance c.turn_with_upsert.new.self (turn core.valid_after)
          ∙ ap (after_turn refused) (write_taken core write rest taken.0 taken.1),
    )
