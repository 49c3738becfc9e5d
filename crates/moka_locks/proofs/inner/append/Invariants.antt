use Rattle.std.proofs.Common.{◌≡◌, ◌++◌}
use Rattle.std.specs.Vec.Iter.{into_iter_items}
use Rattle.moka_locks.proofs.inner.append.Given as goal

abbrev pub invariant-loop-key : goal.invariant-loop-key
invariant-loop-key g l = l.pairs.items ++ into_iter_items l.key-iterator ≡ l.fn.pairs.items ++ l.fn.copied.items
