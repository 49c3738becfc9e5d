use Rattle.std.proofs.Common.{◌≡◌, ◌*◌, take, sum}
use Rattle.moka_common.specs.Cells.{counters_of}
use Rattle.moka_common.specs.Sketch.{odd_count}
use Rattle.moka_common.proofs.LaneLemmas.{aged_to, AreSmall}
use Rattle.moka_common.proofs.frequency_sketch.aging.age_block.Given as goal

abbrev pub invariant-loop-chunk : goal.invariant-loop-chunk
invariant-loop-chunk l =
    (l.groups ≡ aged_to (32 * l.chunk) l.initial.groups)
    × (sum (counters_of l.odd) ≡ odd_count (counters_of (take (32 * l.chunk) l.initial.groups)))
    × AreSmall l.chunk l.odd
