use Rattle.std.proofs.Common.{◌≡◌}
use Rattle.moka_shard.specs.Slots.{IsIndexedBelow}
use Rattle.moka_shard.proofs.shard.changes.add_all.Given as goal

abbrev pub invariant-loop-slot : goal.invariant-loop-slot
invariant-loop-slot g l = IsIndexedBelow l.slot l.slots.slots l.index × (l.index.ids ≡ l.initial.index.ids)
