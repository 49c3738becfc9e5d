use Rattle.std.proofs.Common.{◌≡◌, ◌∙◌, ℕ, List, min, ap, sym, arith, rules}
use Rattle.moka_common.specs.Cells.{counters_of, slot_count}
use Rattle.moka_common.specs.Sketch.{estimate_in}
use Rattle.moka_common.proofs.LawLemmas.{estimate_in_within}
use Rattle.moka_common.proofs.SketchLemmas.{estimate_to, estimate_to_none, estimate_to_all, estimate_to_more}
use Rattle.moka_common.proofs.frequency_sketch.cells.frequency.Goals as goal

pub loop-depth-init : goal.loop-depth-init
loop-depth-init c = sym (estimate_to_none _ _ _)

pub loop-depth-preserved : goal.loop-depth-preserved
loop-depth-preserved c =
    c.min-least.ensures
    ∙ ap (λ least. min least c.counter_at.result) c.loop-depth.invariant
    ∙ ap (min (estimate_to (slot_count c.args.groups.now) (counters_of c.args.groups.now) c.args.hash c.loop-depth.depth)) c.counter_at.ensures
    ∙ sym (estimate_to_more (slot_count c.args.groups.now) (counters_of c.args.groups.now) c.args.hash c.loop-depth.depth c.loop-depth-test.true)

-- the least is an estimate, so it fits a byte
pub overflow_cast-result : goal.overflow_cast-result
overflow_cast-result c =
    let groups : List ℕ = c.args.groups.now in
    let is : c.loop-depth.least ≡ estimate_in (slot_count groups) (counters_of groups) c.args.hash =
    c.loop-depth.invariant ∙ estimate_to_all _ _ _ c.loop-depth.depth (omega arith) in
    let most = estimate_in_within (slot_count groups) (counters_of groups) c.args.hash in
    search (rules, arith, is, most)

pub returns : goal.returns
returns c = c.loop-depth.invariant ∙ estimate_to_all _ _ _ c.loop-depth.depth (omega arith)
