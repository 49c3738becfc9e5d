use Rattle.std.proofs.Common.{◌≡◌, length}
use Rattle.bench_trace.proofs.index.map_of.Given as goal

abbrev pub invariant-loop-id : goal.invariant-loop-id
invariant-loop-id l = l.id-end ≡ length l.hashes
