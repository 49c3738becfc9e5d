use Rattle.std.proofs.Common.{◌≡◌, ◌+◌, length}
use Rattle.moka_deque.proofs.deque.nodes.free_spares.Given as goal

abbrev pub invariant-loop : goal.invariant-loop
invariant-loop g l = (l.spare.alloc ≡ l.fn.spare.alloc) × (length l.spare.rest + l.counter ≡ l.count)
