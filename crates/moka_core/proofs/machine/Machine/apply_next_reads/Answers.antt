use Rattle.std.proofs.Common.{◌≡◌, ◌∙◌, ◌≤◌, ap, sym, subst, take, drop, length, arith}
use Rattle.std.specs.List.{fold}
use Rattle.std.proofs.lemmas.List.{length-take-le, take-append-drop}
use Rattle.moka_sync_model.specs.CoreState.{CoreState}
use Rattle.moka_maintenance.specs.Taken.{AppliesReads, reads_left}
use Rattle.moka_core.specs.MapTurn.{touched_by}
use Rattle.moka_core.specs.MapState.{with_map}
use Rattle.moka_core.proofs.machine.Machine.apply_next_reads.Goals as goal

pub returns-clause-turns : goal.returns-clause-turns
returns-clause-turns g c =
    let inside = c.self.inside in
    let map = inside.map in
    let log = inside.read_log in
    let count = c.take_first-count.result in
    let copied = c.take_first-count.ensures in
    let within : count ≤ length log = omega (arith, copied.count) in
    let left : count ≤ reads_left inside.maintenance.phase = omega (arith, copied.count, c.reads_left-left.ensures) in
    let taken : length (take count log) ≡ count = length-take-le count log within in
    let core : CoreState g.row.K.Denot g.row.V.Denot g.row.S.Denot = record {
      settings = map.settings;
      entries = map.entries;
      next_numbers = map.next_numbers;
      valid_after = inside.valid_after;
      read_log = drop count log;
      write_log = inside.write_log;
      pending = inside.pending.operations;
      maintenance = c.apply_reads.new.self;
      sync_after = inside.sync_after;
    } in
    let touched : c.touch_all.new.self ≡ record map { entries = fold touched_by map.entries (take count log) } =
    c.touch_all.ensures.entries ∙ ap (λ reads. record map { entries = fold touched_by map.entries reads }) copied.reads in
    rw (← c.self.view_is, c.take_first-count.ensures.rest) (
      take count log,
      record {
        rest = drop count log;
        log = sym (take-append-drop count log);
        some = omega (arith, taken, c.if-count-eq0.false);
        left = omega (arith, taken, left);
        maintenance = c.apply_reads.new.self;
        applies =
            subst (λ reads. AppliesReads reads inside.maintenance c.apply_reads.new.self) (c.touch_all.ensures.reads ∙ copied.reads)
            c.apply_reads.ensures;
        is = ap (λ m. with_map m core) touched;
      },
    )
