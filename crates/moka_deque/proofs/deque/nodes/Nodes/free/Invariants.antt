use Rattle.std.proofs.Common.{length}
use Rattle.moka_deque.specs.Slots.{IsTied, items_of}
use Rattle.moka_deque.proofs.deque.nodes.Nodes.free.Given as goal

abbrev pub invariant-loop-id : goal.invariant-loop-id
invariant-loop-id g l = IsTied l.self

abbrev pub decreases-loop-id : goal.decreases-loop-id
decreases-loop-id g l = length (items_of l.self)
