use Rattle.std.proofs.Common.{◌≤◌}
use Rattle.bench_trace.proofs.player.play.Given as goal

abbrev pub invariant-loop-operation : goal.invariant-loop-operation
invariant-loop-operation g l = record {
  ready : g.C.Traced.ready l.cache;
  hits : l.found.hits ≤ l.operation-index;
}
