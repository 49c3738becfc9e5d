use Rattle.std.proofs.Common.{◌∙◌, ap, false, sym}
use Rattle.moka_maintenance.specs.Need.{need_named}
use Rattle.moka_locks.proofs.TurnLemmas.{alone, with_reads, with_writes}
use Rattle.moka_locks.proofs.inner.Inner.turn_by_need.Goals as goal

pub returns-in-Nothing : goal.returns-in-Nothing
returns-in-Nothing g c =
    let turn = c.turn_alone.ensures c.valid_after-valid_after.result (sym (c.need.ensures) ∙ ap need_named c.in-Nothing.is) in
    rw (← c.self.view_is)
    (alone g.row.K.Denot g.row.V.Denot c.self.inside.shards.settings _ turn.0 c.args.maintenance.now c.turn_alone.new.self turn.1)

pub returns-in-Reads : goal.returns-in-Reads
returns-in-Reads g c =
    rw (← c.self.view_is)
    (with_reads c.self.inside.shards.settings 0 false c.args.maintenance.now c.turn_with_reads.new.self _ _
    (c.turn_with_reads.ensures c.self.inside.shards.settings 0))

pub returns-in-Writes : goal.returns-in-Writes
returns-in-Writes g c =
    rw (← c.self.view_is)
    (with_writes c.self.inside.shards.settings 0 false c.args.maintenance.now c.turn_with_writes.new.maintenance _ _
    (c.turn_with_writes.ensures.turn c.self.inside.shards.settings 0))

pub returns-in-Entry : goal.returns-in-Entry
returns-in-Entry g c = rw (← c.self.view_is) c.turn.ensures
