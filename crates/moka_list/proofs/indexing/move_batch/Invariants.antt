use Rattle.std.proofs.Common.{◌≡◌}
use Rattle.moka_list.specs.Indexed.{IsIndexed}
use Rattle.moka_list.proofs.indexing.move_batch.Given as goal

abbrev pub invariant-loop-moved : goal.invariant-loop-moved
invariant-loop-moved g l = IsIndexed g.T.Hashed.hash_of l.list.items l.index × (l.index.ids ≡ l.fn.index.ids)

abbrev pub decreases-loop-moved : goal.decreases-loop-moved
decreases-loop-moved g l = l.index.left
