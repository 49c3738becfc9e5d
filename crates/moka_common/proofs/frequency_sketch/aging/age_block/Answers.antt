use Rattle.std.proofs.Common.{rules, arith, refl, sym, ap, ◌∙◌, ◌≡◌, ◌-◌, ◌/◌, ◌≤◌, length, map, sum, ℕ, ◌+◌, ◌*◌, ◌<◌, List, [], bit_and, take, drop}
use Rattle.std.proofs.Common.{replicate, get_or}
use lib.Lanes.{zip2, put_chunk}
use Rattle.std.proofs.lemmas.List.{length-take-le, length-drop}
use Rattle.moka_common.specs.Sketch.{odd_count}
use Rattle.moka_common.specs.Cells.{counters_of, halved_group}
use Rattle.moka_common.proofs.LaneLemmas.{aged_to, AreSmall-zero, AreSmall-more, sum-counters_of_added, halved_lanes, low_lanes, low_group, added}
use Rattle.moka_common.proofs.LaneLemmas.{get_or-first_chunks, drop-aged_to, aged_by_chunk, rest_aged, rest_counted, odd_count_add, odd_count_le}
use Rattle.moka_common.proofs.LaneLemmas.{sum-counters_of_zero}
use Rattle.moka_common.proofs.frequency_sketch.aging.age_block.Goals as goal

pub loop-chunk-init : goal.loop-chunk-init
unfolding counters_of
loop-chunk-init c = (refl, sum-counters_of_zero, AreSmall-zero 32)

pub loop-chunk-preserved : goal.loop-chunk-preserved
loop-chunk-preserved c =
    let i : ℕ = c.loop-chunk.chunk in
    let old : List ℕ = c.args.groups.now in
    let here : i < length old / 32 = c.loop-chunk-test.true in
    let groups : c.loop-chunk.groups ≡ aged_to (32 * i) old = c.loop-chunk.invariant.0 in
    let same : length c.loop-chunk.groups ≡ length old = c.loop-chunk.auto.groups in
    let lanes : List ℕ = get_or c.as_chunks.result.0.now i [] in
    let is : lanes ≡ take 32 (drop (32 * i) old) =
    ap (λ l. get_or l i []) c.as_chunks.ensures.front
    ∙ get_or-first_chunks 32 (length c.loop-chunk.groups / 32) i c.loop-chunk.groups (omega arith)
    ∙ ap (λ ws. take 32 (drop (32 * i) ws)) groups ∙ ap (take 32) (drop-aged_to (32 * i) old (omega arith)) in
    let len : length lanes ≡ 32 =
    ap length is ∙ length-take-le 32 (drop (32 * i) old) (omega (arith, length-drop (32 * i) old)) in
    let next : 32 * i + 32 ≡ 32 * (i + 1) = omega arith in
    let short : i < 15 = omega (arith, c.requires) in
    let lengths : length c.loop-chunk.odd ≡ length lanes = c.loop-chunk.auto.odd.0 ∙ sym len in
    let counted : zip2 added c.loop-chunk.odd (zip2 bit_and lanes (replicate 32 0x1111)) ≡ zip2 added c.loop-chunk.odd (map low_group lanes) =
    ap (zip2 added c.loop-chunk.odd) (low_lanes lanes len) in (
      ap (put_chunk (32 * i) c.loop-chunk.groups) (halved_lanes lanes len ∙ ap (map halved_group) is)
          ∙ ap (λ ws. put_chunk (32 * i) ws (map halved_group (take 32 (drop (32 * i) old)))) groups
          ∙ aged_by_chunk (32 * i) old (omega arith) ∙ ap (λ at. aged_to at old) next,
      ap (λ ls. sum (counters_of ls)) counted
          ∙ sum-counters_of_added i c.loop-chunk.odd lanes short lengths c.loop-chunk.invariant.2
          ∙ ap (λ ls. sum (counters_of c.loop-chunk.odd) + odd_count (counters_of ls)) is
          ∙ ap (λ n. n + odd_count (counters_of (take 32 (drop (32 * i) old)))) c.loop-chunk.invariant.1
          ∙ sym (odd_count_add (32 * i) 32 old) ∙ ap (λ at. odd_count (counters_of (take at old))) next,
      rw counted (AreSmall-more i c.loop-chunk.odd lanes short lengths c.loop-chunk.invariant.2),
    )

-- every chunk is aged
all_chunks : (len chunks : ℕ) → chunks ≤ len / 32 → len / 32 ≤ chunks → 32 * chunks ≡ 32 * (len / 32)
all_chunks len chunks below above = omega arith

pub returns-clause-halved : goal.returns-clause-halved
returns-clause-halved c =
    let old : List ℕ = c.args.groups.now in
    let whole : ℕ = 32 * (length old / 32) in
    let at = all_chunks (length old) c.loop-chunk.chunk c.loop-chunk.auto.chunk-end c.loop-chunk-test.false in
    rest_aged whole (length c.loop-chunk.groups - whole) old c.loop-chunk.groups c.age_plain.new.groups (omega (arith, c.loop-chunk.auto.groups))
    (c.loop-chunk.invariant.0 ∙ ap (λ n. aged_to n old) at) c.age_plain.ensures.groups

pub returns-clause-odd : goal.returns-clause-odd
returns-clause-odd c =
    let old : List ℕ = c.args.groups.now in
    let whole : ℕ = 32 * (length old / 32) in
    let at = all_chunks (length old) c.loop-chunk.chunk c.loop-chunk.auto.chunk-end c.loop-chunk-test.false in
    rest_counted whole (length c.loop-chunk.groups - whole) c.sum_of_counters.result c.age_plain.result old c.loop-chunk.groups
    (omega (arith, c.loop-chunk.auto.groups)) (c.loop-chunk.invariant.0 ∙ ap (λ n. aged_to n old) at)
    (c.sum_of_counters.ensures ∙ c.loop-chunk.invariant.1 ∙ ap (λ n. odd_count (counters_of (take n old))) at) c.age_plain.ensures.odd

pub overflow_add-result : goal.overflow_add-result
overflow_add-result c = search (rules, arith, returns-clause-odd c, odd_count_le c.args.groups.now)
