use Rattle.std.proofs.Common.{◌≡◌, ◌∙◌, ℕ, ◌/◌, ◌<◌, ◌||◌, List, get_or, nat_lt, ap, sym, arith}
use Rattle.moka_common.specs.Cells.{counters_of, slot_count}
use Rattle.moka_common.specs.Sketch.{cell, grown_at, position_of}
use Rattle.moka_common.proofs.SketchLemmas.{incremented_to, incremented_to_none, incremented_to_all, incremented_to_more, grows_to}
use Rattle.moka_common.proofs.SketchLemmas.{grows_to_none, grows_to_all, grows_to_more}
use Rattle.moka_common.proofs.frequency_sketch.cells.increment.Goals as goal

pub loop-depth-init : goal.loop-depth-init
loop-depth-init c = (sym (incremented_to_none _ _ _), sym (grows_to_none _ _ _))

pub loop-depth-preserved : goal.loop-depth-preserved
loop-depth-preserved c =
    let groups : List ℕ = c.args.groups.now in
    let hash : ℕ = c.args.hash in
    let depth : ℕ = c.loop-depth.depth in
    let here : depth < 4 = c.loop-depth-test.true in
    let at : ℕ = position_of (cell (slot_count groups) hash depth) in
    let place : position_of (cell (slot_count c.loop-depth.groups) hash depth) ≡ at =
    ap (λ n. position_of (cell (n / 4) hash depth)) c.loop-depth.auto.groups in
    let so_far : counters_of c.loop-depth.groups ≡ incremented_to (slot_count groups) (counters_of groups) hash depth =
    c.loop-depth.invariant.0 in (
      c.grow-grew.ensures.counters
          ∙ ap (grown_at (counters_of c.loop-depth.groups)) place
          ∙ ap (λ cs. grown_at cs at) so_far
          ∙ sym (incremented_to_more (slot_count groups) (counters_of groups) hash depth here),
      ap (λ grew. grew || c.grow-grew.result) c.loop-depth.invariant.1
          ∙ ap (λ grew. grows_to (slot_count groups) (counters_of groups) hash depth || grew)
          (c.grow-grew.ensures.grew
          ∙ ap (λ k. nat_lt (get_or (counters_of c.loop-depth.groups) k 0) 15) place
          ∙ ap (λ cs. nat_lt (get_or cs at 0) 15) so_far)
          ∙ sym (grows_to_more (slot_count groups) (counters_of groups) hash depth here),
    )

pub returns : goal.returns
returns c = record {
  counters = c.loop-depth.invariant.0 ∙ incremented_to_all _ _ _ c.loop-depth.depth (omega arith);
  grew = c.loop-depth.invariant.1 ∙ grows_to_all _ _ _ c.loop-depth.depth (omega arith);
}
