use Rattle.std.proofs.Common.{◌≡◌}
use Rattle.moka_shard.specs.Shard.{state_of}
use Rattle.moka_shard.specs.ShardStep.{pairs_at}
use Rattle.moka_shard.proofs.PairLemmas.{of_numbered, shown}
use Rattle.moka_shard.proofs.shard.Shard.has_pairs.Given as goal

abbrev pub invariant-loop-entry : goal.invariant-loop-entry
invariant-loop-entry g l =
    (goal.iterator-loop-entry g).can_next l.entry-iterator × (goal.iterator-loop-entry g).is_finite l.entry-iterator
    × (shown l.settings l.valid_after l.now (of_numbered l.entry-iterator) ≡ pairs_at l.settings l.valid_after l.now (state_of l.self))
