use Rattle.std.proofs.Common.{◌≡◌, length, IfSome}
use Rattle.std.specs.Map.{values_of}
use Rattle.moka_list.specs.Nodes.{IsIn}
use Rattle.moka_list.proofs.WalkLemmas.{from_node}
use Rattle.moka_unsync_model.specs.Iterate.{entries_behind, first_unexpired}
use Rattle.moka_store.specs.Store.{entries_of}
use Rattle.moka_unsync.proofs.walk.next_unexpired.Given as goal

-- no unexpired entry was passed
abbrev pub invariant-loop-here : goal.invariant-loop-here
invariant-loop-here g l =
    IfSome l.here (λ id. IsIn l.fn.store.nodes id)
    × (first_unexpired l.fn.bounds l.fn.now (entries_behind g.K.PartialEq.eq l.fn.key (entries_of l.fn.store))
    ≡ first_unexpired l.fn.bounds l.fn.now (values_of (from_node l.here l.fn.store.nodes)))

abbrev pub decreases-loop-here : goal.decreases-loop-here
decreases-loop-here g l = length (from_node l.here l.fn.store.nodes)
