use Rattle.std.proofs.Common.{◌≡◌, length}
use Rattle.moka_unsync_model.specs.Iterate.{unexpired_pairs}
use Rattle.moka_unsync.proofs.cache.iter.IterIterator.next.Given as goal

-- what is left to give is the same
abbrev pub invariant-loop-entry : goal.invariant-loop-entry
invariant-loop-entry g l =
    unexpired_pairs l.self-inside.bounds.now l.self-inside.now l.self-inside.entries
    ≡ unexpired_pairs l.initial.self-inside.bounds.now l.initial.self-inside.now l.initial.self-inside.entries

abbrev pub decreases-loop-entry : goal.decreases-loop-entry
decreases-loop-entry g l = length l.self-inside.entries
