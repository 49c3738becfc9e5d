use Rattle.std.proofs.Common.{◌≡◌, ◌∙◌, ◌≤◌, length, subst, take, arith}
use Rattle.std.proofs.lemmas.List.{length-map, length-take-le}
use Rattle.moka_queues.specs.declared.logs.LoggedRead.{LoggedRead}
use Rattle.moka_queues.specs.LoggedReads.{reads_of}
use Rattle.moka_maintenance.specs.Taken.{reads_left}
use Rattle.moka_locks.proofs.TurnLemmas.{reads_turn, takes_nothing}
use Rattle.moka_locks.proofs.inner.Inner.apply_next_reads.Goals as goal

pub returns-then-count-eq0 : goal.returns-then-count-eq0
returns-then-count-eq0 g c =
    takes_nothing g.row.K.Denot g.row.V.Denot c.args.self.now.settings c.args.maintenance.now c.requires

pub returns : goal.returns
returns g c =
    let old = c.args.maintenance.now in
    let count = c.take_reads-count.result in
    let copied = c.take_reads-count.new.reads in
    let reads = reads_of c.touch_all.new.reads in
    let work = c.apply_reads.ensures.0 in
    let at = c.apply_reads.ensures.1 in
    let held : length (take count copied) ≡ count =
    length-take-le count copied (omega (arith, c.take_reads-count.ensures.held, c.take_reads-count.ensures.same)) in
    let same : length reads ≡ count = length-map c.touch_all.new.reads (λ (l : LoggedRead). l.read) ∙ c.touch_all.ensures ∙ held in
    let left : count ≤ reads_left old.phase = omega (arith, c.take_reads-count.ensures.wanted, c.reads_left.ensures) in
    let within : length reads ≤ work.left = omega (arith, same, subst (λ p. count ≤ reads_left p) at left) in
    rw (← c.self.view_is, c.apply_reads.ensures.2)
    (reads_turn g.row.K.Denot g.row.V.Denot c.self.inside.shards.settings reads work old at (omega (arith, same, c.if-count-eq0.false)) within)
