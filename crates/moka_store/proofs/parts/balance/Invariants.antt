use Rattle.std.proofs.Common.{◌≡◌, length}
use Rattle.std.specs.Map.{keys_of, values_of}
use Rattle.moka_unsync_model.specs.Contents.{balanced, protected_of}
use Rattle.moka_store.specs.Nodes.{IsParted, SameBy, bare}
use Rattle.moka_store.proofs.parts.balance.Given as goal

abbrev pub invariant-loop-weights : goal.invariant-loop-weights
invariant-loop-weights g l =
    IsParted l.entries.items l.marks l.weights × (balanced l.limit (values_of l.entries.items) ≡ balanced l.limit (values_of l.fn.entries.items))
    × SameBy bare l.fn.entries.items l.entries.items × (keys_of l.entries.items ≡ keys_of l.fn.entries.items)
    × (l.entries ≡ record l.fn.entries { items = l.entries.items })

abbrev pub decreases-loop-weights : goal.decreases-loop-weights
decreases-loop-weights g l = length (protected_of (values_of l.entries.items))
