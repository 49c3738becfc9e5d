use Rattle.std.proofs.Common.{◌≤◌}
use Rattle.bench_load.proofs.play.thread.play_calls.Given as goal

abbrev pub invariant-loop-call : goal.invariant-loop-call
invariant-loop-call g l = l.found.hits ≤ l.call-index
