use Rattle.std.proofs.Common.{◌≡◌, ◌*◌, take}
use Rattle.moka_common.specs.Cells.{counters_of}
use Rattle.moka_common.specs.Sketch.{odd_count}
use Rattle.moka_common.proofs.LaneLemmas.{aged_to}
use Rattle.moka_common.proofs.frequency_sketch.aging.age.Given as goal

abbrev pub invariant-loop-block : goal.invariant-loop-block
invariant-loop-block l =
    (l.groups ≡ aged_to (384 * l.block) l.initial.groups) × (l.odd ≡ odd_count (counters_of (take (384 * l.block) l.initial.groups)))
