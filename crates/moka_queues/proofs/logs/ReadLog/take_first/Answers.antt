use Rattle.std.proofs.Common.{◌∙◌, ◌≤◌, ap, sym, length, take, drop, arith}
use Rattle.std.proofs.lemmas.List.{drop-map, take-map}
use Rattle.moka_sync_model.specs.declared.operation.Read.{Read}
use Rattle.moka_queues.specs.declared.logs.LoggedRead.{LoggedRead}
use Rattle.moka_queues.specs.LoggedReads.{reads_of}
use Rattle.moka_queues.proofs.LogLemmas.{copied}
use Rattle.moka_queues.proofs.logs.ReadLog.take_first.Goals as goal

-- the read of what is logged
abbrev read_of : LoggedRead → Read
read_of logged = logged.read

pub returns-clause-reads : goal.returns-clause-reads
returns-clause-reads g c =
    let items = c.self.inside.reads.items in
    let taken = c.read_into.ensures in
    let n = c.read_into.result in
    let old = take c.min-wanted.result c.args.reads.now in
    let rest = drop c.min-wanted.result c.args.reads.now in
    let within : n ≤ length items = omega (arith, taken.count) in
    rw (← c.self.view_is)
    (ap reads_of (copied items (drop n old) rest _ n within taken.read) ∙ sym (take-map read_of n items))

pub returns-clause-rest : goal.returns-clause-rest
returns-clause-rest g c =
    let items = c.self.inside.reads.items in
    rw (← c.self.view_is) (ap (λ b. reads_of b.items) c.read_into.ensures.items ∙ sym (drop-map read_of c.read_into.result items))
