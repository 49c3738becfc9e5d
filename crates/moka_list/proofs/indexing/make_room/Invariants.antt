use Rattle.std.proofs.Common.{◌≡◌}
use Rattle.moka_list.specs.Indexed.{IsIndexed}
use Rattle.moka_list.proofs.indexing.make_room.Given as goal

abbrev pub invariant-loop-index : goal.invariant-loop-index
invariant-loop-index g l = IsIndexed g.T.Hashed.hash_of l.list.items l.index × (l.index.ids ≡ l.fn.index.ids)

abbrev pub decreases-loop-index : goal.decreases-loop-index
decreases-loop-index g l = l.index.left
