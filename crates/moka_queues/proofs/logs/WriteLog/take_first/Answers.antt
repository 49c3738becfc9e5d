use Rattle.std.proofs.Common.{◌≤◌, length, take, drop, arith}
use Rattle.moka_queues.proofs.LogLemmas.{copied}
use Rattle.moka_queues.proofs.logs.WriteLog.take_first.Goals as goal

pub returns-clause-writes : goal.returns-clause-writes
returns-clause-writes g c =
    let items = c.self.inside.writes.items in
    let taken = c.read_into.ensures in
    let n = c.read_into.result in
    let old = take c.min-wanted.result c.args.writes.now in
    let rest = drop c.min-wanted.result c.args.writes.now in
    let within : n ≤ length items = omega (arith, taken.count) in
    rw (← c.self.view_is) (copied items (drop n old) rest _ n within taken.read)
