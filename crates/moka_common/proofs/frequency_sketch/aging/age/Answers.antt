use Rattle.std.proofs.Common.{rules, arith, refl, ap, ◌∙◌, ◌≡◌, ◌-◌, ◌/◌, ◌≤◌, length, ℕ, ◌+◌, ◌*◌, ◌<◌, List, take}
use Rattle.moka_common.specs.Sketch.{odd_count}
use Rattle.moka_common.specs.Cells.{counters_of}
use Rattle.moka_common.proofs.CellLemmas.{counters_of-halved, odd_count_within}
use Rattle.moka_common.proofs.LaneLemmas.{aged_to, part_aged, rest_aged, part_counted, rest_counted, odd_count_le}
use Rattle.moka_common.proofs.frequency_sketch.aging.age.Goals as goal

pub loop-block-init : goal.loop-block-init
unfolding counters_of
loop-block-init c = (refl, refl)

pub loop-block-preserved : goal.loop-block-preserved
loop-block-preserved c =
    let old : List ℕ = c.args.groups.now in
    let done : ℕ = 384 * c.loop-block.block in
    let here : c.loop-block.block < length old / 384 = c.loop-block-test.true in
    let next : done + (done + 384 - done) ≡ 384 * (c.loop-block.block + 1) = omega arith in
    let room : done + (done + 384 - done) ≤ length old = omega arith in (
      part_aged done (done + 384 - done) old c.loop-block.groups c.age_block-odd.new.groups room c.loop-block.invariant.0 c.age_block-odd.ensures.halved
          ∙ ap (λ n. aged_to n old) next,
      part_counted done (done + 384 - done) c.loop-block.odd c.age_block-odd.result old c.loop-block.groups room c.loop-block.invariant.0
          c.loop-block.invariant.1 c.age_block-odd.ensures.odd ∙ ap (λ n. odd_count (counters_of (take n old))) next,
    )

pub overflow_add-odd : goal.overflow_add-odd
overflow_add-odd c =
    search (rules, arith, (loop-block-preserved c).1, odd_count_within c.args.groups.now (384 * (c.loop-block.block + 1)), c.requires)

-- every whole block is aged
all_blocks : (len blocks : ℕ) → blocks ≤ len / 384 → len / 384 ≤ blocks → 384 * blocks ≡ 384 * (len / 384)
all_blocks len blocks below above = omega arith

pub returns-clause-halved : goal.returns-clause-halved
returns-clause-halved c =
    let old : List ℕ = c.args.groups.now in
    let whole : ℕ = 384 * (length old / 384) in
    let at = all_blocks (length old) c.loop-block.block c.loop-block.auto.block-end c.loop-block-test.false in
    ap counters_of
    (rest_aged whole (length c.loop-block.groups - whole) old c.loop-block.groups c.age_block.new.groups (omega (arith, c.loop-block.auto.groups))
    (c.loop-block.invariant.0 ∙ ap (λ n. aged_to n old) at) c.age_block.ensures.halved)
    ∙ counters_of-halved old

pub returns-clause-odd : goal.returns-clause-odd
returns-clause-odd c =
    let old : List ℕ = c.args.groups.now in
    let whole : ℕ = 384 * (length old / 384) in
    let at = all_blocks (length old) c.loop-block.block c.loop-block.auto.block-end c.loop-block-test.false in
    rest_counted whole (length c.loop-block.groups - whole) c.loop-block.odd c.age_block.result old c.loop-block.groups
    (omega (arith, c.loop-block.auto.groups)) (c.loop-block.invariant.0 ∙ ap (λ n. aged_to n old) at)
    (c.loop-block.invariant.1 ∙ ap (λ n. odd_count (counters_of (take n old))) at) c.age_block.ensures.odd

pub overflow_add-result : goal.overflow_add-result
overflow_add-result c = search (rules, arith, returns-clause-odd c, odd_count_le c.args.groups.now)
