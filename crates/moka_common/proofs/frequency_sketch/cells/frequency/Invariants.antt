use Rattle.std.proofs.Common.{◌≡◌}
use Rattle.moka_common.specs.Cells.{counters_of, slot_count}
use Rattle.moka_common.proofs.SketchLemmas.{estimate_to}
use Rattle.moka_common.proofs.frequency_sketch.cells.frequency.Given as goal

abbrev pub invariant-loop-depth : goal.invariant-loop-depth
invariant-loop-depth l = l.least ≡ estimate_to (slot_count l.groups) (counters_of l.groups) l.hash l.depth
