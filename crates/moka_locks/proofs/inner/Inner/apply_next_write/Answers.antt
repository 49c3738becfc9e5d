use Rattle.std.proofs.Common.{◌≡◌, ◌∙◌, ◌≤◌, ◌+◌, [], Some, is_some, ap, false, arith}
use Rattle.moka_sync_model.specs.declared.operation.Write.TheVariants.{Remove, Upsert}
use Rattle.moka_maintenance.specs.Taken.{having_taken_write, writes_left}
use Rattle.moka_locks.proofs.TurnLemmas.{alone, none_first, removed, takes_no_write, written}
use Rattle.moka_locks.proofs.WritesLeftLemmas.{takes_one}
use Rattle.moka_locks.proofs.inner.Inner.apply_next_write.Goals as goal

pub returns-in_default-clause-turns : goal.returns-in_default-clause-turns
returns-in_default-clause-turns g c =
    let none : c.args.taken.now ≡ [] =
    none_first c.args.taken.now c.next_write.new.taken c.next_write.result c.next_write.ensures.first c.in_default.is in
    rw (none, c.next_write.ensures.none (ap is_some c.in_default.is))
    (takes_no_write g.row.K.Denot g.row.V.Denot c.args.self.now.settings c.args.maintenance.now c.requires.takes)

pub returns-in-Upsert-clause-turns : goal.returns-in-Upsert-clause-turns
returns-in-Upsert-clause-turns g c =
    rw (← c.self.view_is) (
    written g.row.K.Denot g.row.V.Denot c.self.inside.shards.settings c.args.maintenance.now c.requires.takes c.args.taken.now
    c.next_write.new.taken c.next_write.result (Upsert c.in-Upsert.ticket) c.apply_upsert.new.maintenance
    c.next_write.ensures.first (c.in-Some.is ∙ ap Some c.in-Upsert.is) c.in-Some.ensures.some c.apply_upsert.ensures
    )

pub returns-in-Upsert-clause-left : goal.returns-in-Upsert-clause-left
returns-in-Upsert-clause-left g c =
    let new = c.apply_upsert.new.maintenance in
    let kept : writes_left c.args.maintenance.now.phase ≤ writes_left new.phase + 1 =
    takes_one g.row.K.Denot g.row.V.Denot c.self.inside.shards.settings (Upsert c.in-Upsert.ticket) c.args.maintenance.now new c.requires.takes
    c.apply_upsert.ensures in
    omega (arith, c.in-Some.ensures.some, kept)

pub returns-in-Remove-clause-turns : goal.returns-in-Remove-clause-turns
returns-in-Remove-clause-turns g c =
    rw (← c.self.view_is) (
    removed g.row.K.Denot g.row.V.Denot c.self.inside.shards.settings c.args.maintenance.now c.requires.takes c.args.taken.now
    c.next_write.new.taken c.next_write.result _ c.in-Remove.ticket c.turn_with_removal.new.self c.next_write.ensures.first
    (c.in-Some.is ∙ ap Some c.in-Remove.is) c.in-Some.ensures.some
    (c.turn_with_removal.ensures c.self.inside.shards.settings 0)
    )

pub returns-in-Remove-clause-left : goal.returns-in-Remove-clause-left
returns-in-Remove-clause-left g c =
    let old = c.args.maintenance.now in
    let new = c.turn_with_removal.new.self in
    let turn = alone g.row.K.Denot g.row.V.Denot c.self.inside.shards.settings 0 false (having_taken_write (Remove c.in-Remove.ticket) old) new
    (c.turn_with_removal.ensures c.self.inside.shards.settings 0) in
    let kept : writes_left old.phase ≤ writes_left new.phase + 1 =
    takes_one g.row.K.Denot g.row.V.Denot c.self.inside.shards.settings (Remove c.in-Remove.ticket) old new c.requires.takes turn in
    omega (arith, c.in-Some.ensures.some, kept)
