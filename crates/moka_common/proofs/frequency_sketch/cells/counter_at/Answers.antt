use Rattle.std.proofs.Common.{◌≡◌, ◌∙◌, ◌+◌, ◌*◌, ◌%◌, ◌<◌, ℕ, List, get_or, length, ap, sym, arith}
use Rattle.moka_common.specs.Cells.{counters_of, slot_count}
use Rattle.moka_common.specs.Sketch.{cell, position_of}
use Rattle.moka_common.proofs.CellLemmas.{counter_read, get_or-counters_of}
use Rattle.moka_common.proofs.SketchLemmas.{cell_at}
use Rattle.moka_common.proofs.frequency_sketch.cells.counter_at.Goals as goal

pub returns : goal.returns
returns c =
    let groups : List ℕ = c.args.groups.now in let hash : ℕ = c.args.hash in let depth : ℕ = c.args.depth in
    let index : ℕ = 4 * c.index_of-word.result + hash % 4 in
    let within : index < length groups = omega (arith, c.index_of-word.ensures.within) in
    let at : 4 * index + depth ≡ position_of (cell (slot_count groups) hash depth) =
    cell_at (slot_count groups) hash depth index (ap (λ word. 4 * word + hash % 4) c.index_of-word.ensures.value) in
    counter_read (get_or groups index 0) depth c.requires.depth
    ∙ sym (get_or-counters_of groups index depth within c.requires.depth)
    ∙ ap (λ k. get_or (counters_of groups) k 0) at
