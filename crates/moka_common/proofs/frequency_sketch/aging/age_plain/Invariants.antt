use Rattle.std.proofs.Common.{◌≡◌, ◌++◌, map, take, drop}
use Rattle.moka_common.specs.Cells.{counters_of, halved_group}
use Rattle.moka_common.specs.Sketch.{odd_count}
use Rattle.moka_common.proofs.frequency_sketch.aging.age_plain.Given as goal

abbrev pub invariant-loop-group : goal.invariant-loop-group
invariant-loop-group l =
    (l.odd ≡ odd_count (counters_of (take l.group-index l.initial.groups)))
    × (l.groups ≡ map halved_group (take l.group-index l.initial.groups) ++ drop l.group-index l.initial.groups)
