use Rattle.std.proofs.Common.{◌≡◌, ◌∙◌, ◌*◌, ◌<◌, ℕ, replicate, ap, arith}
use Rattle.moka_common.specs.SketchCapacity.{table_len, table_len_for}
use Rattle.moka_common.specs.Cells.{unpacked}
use Rattle.moka_common.proofs.UnpackedLemmas.{new_groups, new_unpacked}
use Rattle.moka_common.proofs.frequency_sketch.FrequencySketch.ensure_capacity.Goals as goal

pub returns-clause-ok : goal.returns-clause-ok
returns-clause-ok g c =
    let items : c.in_ok-self-inside.field-0.items ≡ new_groups c.args.cap =
    c.in_ok-self-inside.ensures ∙ ap (λ n. replicate (4 * n) 0) c.wanted_len-len.ensures.value in
    let test : c.table_len.result < c.wanted_len-len.result = c.if-len-table_len.false in
    let now : c.table_len.result ≡ table_len c.args.self.now = c.table_len.ensures.value in
    let wanted : c.wanted_len-len.result ≡ table_len_for c.args.cap = c.wanted_len-len.ensures.value in
    let shorter : table_len c.args.self.now < table_len_for c.args.cap = omega arith in
    ap (λ gs. unpacked gs c.wanted_sample_size-self-inside.result 0) items
    ∙ ap (λ sample. unpacked (new_groups c.args.cap) sample 0) c.wanted_sample_size-self-inside.ensures
    ∙ new_unpacked c.args.self.now c.args.cap shorter
