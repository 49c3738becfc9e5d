use Rattle.std.proofs.Common.{false}
use Rattle.moka_sync_model.specs.CoreState.{CoreState}
use Rattle.moka_core.proofs.TurnLemmas.{turn_with_reads, turn_with_writes}
use Rattle.moka_core.proofs.machine.Machine.take_turn.Goals as goal

pub returns-in-Reads-clause-turn : goal.returns-in-Reads-clause-turn
returns-in-Reads-clause-turn g c =
    let core : CoreState g.row.K.Denot g.row.V.Denot g.row.S.Denot = record {
      settings = c.self.inside.map.settings;
      entries = c.self.inside.map.entries;
      next_numbers = c.self.inside.map.next_numbers;
      valid_after = c.self.inside.valid_after;
      read_log = c.self.inside.read_log;
      write_log = c.self.inside.write_log;
      pending = c.self.inside.pending.operations;
      maintenance = c.self.inside.maintenance;
      sync_after = c.self.inside.sync_after;
    } in
    rw (← c.self.view_is) (
      false,
      turn_with_reads core false c.turn_with_reads.new.self c.turn_with_reads.new.log
          (c.turn_with_reads.ensures core.settings core.valid_after),
    )

pub returns-in-Writes-clause-turn : goal.returns-in-Writes-clause-turn
returns-in-Writes-clause-turn g c =
    let core : CoreState g.row.K.Denot g.row.V.Denot g.row.S.Denot = record {
      settings = c.self.inside.map.settings;
      entries = c.self.inside.map.entries;
      next_numbers = c.self.inside.map.next_numbers;
      valid_after = c.self.inside.valid_after;
      read_log = c.self.inside.read_log;
      write_log = c.self.inside.write_log;
      pending = c.self.inside.pending.operations;
      maintenance = c.self.inside.maintenance;
      sync_after = c.self.inside.sync_after;
    } in
    rw (← c.self.view_is) (
      false,
      turn_with_writes core false c.turn_with_writes.new.self c.turn_with_writes.new.log
          (c.turn_with_writes.ensures core.settings core.valid_after),
    )
