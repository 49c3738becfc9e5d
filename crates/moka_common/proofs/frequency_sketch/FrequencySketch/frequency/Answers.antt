use Rattle.std.proofs.Common.{◌≡◌, ◌∙◌, ◌<◌, ℕ, List, ap, sym, arith, length, vec_len}
use Rattle.moka_common.specs.Sketch.{estimate}
use Rattle.moka_common.specs.Cells.{unpacked}
use Rattle.moka_common.proofs.UnpackedLemmas.{estimate_read, not_empty}
use Rattle.moka_common.proofs.frequency_sketch.FrequencySketch.frequency.Goals as goal

pub returns-clause-value : goal.returns-clause-value
returns-clause-value g c =
    let groups : List ℕ = c.self.inside.table.items in
    let hash : ℕ = c.args.hash in
    let some : 0 < vec_len c.self.inside.table =
    not_empty c.is_empty.result (vec_len c.self.inside.table) c.is_empty.ensures c.if-is_empty.false in
    let len : length groups ≡ vec_len c.self.inside.table = ap length (sym c.deref.ensures.value) ∙ c.deref.ensures.len in
    let read : c.frequency.result ≡ estimate (unpacked groups c.self.inside.sample_size c.self.inside.size) hash =
    estimate_read groups c.deref.result.now c.self.inside.sample_size c.self.inside.size hash c.frequency.result (omega arith)
    c.deref.ensures.value c.frequency.ensures in
    read ∙ ap (λ s. estimate s hash) c.self.view_is
