use Rattle.std.proofs.Common.{◌≡◌}
use Rattle.moka_common.specs.Cells.{counters_of, slot_count}
use Rattle.moka_common.proofs.SketchLemmas.{incremented_to, grows_to}
use Rattle.moka_common.proofs.frequency_sketch.cells.increment.Given as goal

-- the depths so far have grown, each from what stood there at first
abbrev pub invariant-loop-depth : goal.invariant-loop-depth
invariant-loop-depth l =
    (counters_of l.groups ≡ incremented_to (slot_count l.initial.groups) (counters_of l.initial.groups) l.hash l.depth)
    × (l.grew ≡ grows_to (slot_count l.initial.groups) (counters_of l.initial.groups) l.hash l.depth)
