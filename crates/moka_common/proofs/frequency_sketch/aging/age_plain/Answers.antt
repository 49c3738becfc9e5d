use Rattle.std.proofs.Common.{◌≡◌, [], ◌++◌, ◌≤◌, ◌+◌, ◌*◌, ◌<◌, ◌∙◌, ap, refl, arith, rules, map, take, drop, length, get_or, ℕ, bit_and}
use Rattle.std.proofs.Common.{count_ones}
use Rattle.std.proofs.lemmas.List.{take_all, drop_all, append-nil, get_or_default}
use Rattle.std.proofs.lemmas.List.Edits.{map_over_more}
use Rattle.moka_common.specs.Cells.{counters_of, halved_group}
use Rattle.moka_common.specs.Sketch.{odd_count}
use Rattle.moka_common.proofs.CellLemmas.{counters_of-halved, odd_count_more, odd_count_within, group_ahead}
use Rattle.moka_common.proofs.frequency_sketch.aging.age_plain.Goals as goal

pub loop-group-init : goal.loop-group-init
unfolding counters_of
loop-group-init c = (refl, refl)

pub overflow_add-odd : goal.overflow_add-odd
overflow_add-odd c =
    let bound : odd_count (counters_of (take c.loop-group.group-index c.args.groups.now)) ≤ 4 * length c.args.groups.now =
    odd_count_within c.args.groups.now c.loop-group.group-index in
    search (rules, arith, bound)

pub loop-group-preserved : goal.loop-group-preserved
loop-group-preserved c =
    let i : ℕ = c.loop-group.group-index in
    let here : i < length c.args.groups.now = c.loop-group-test.true in
    let within : i < length c.loop-group.groups = omega arith in
    let groups : c.loop-group.groups ≡ map halved_group (take i c.args.groups.now) ++ drop i c.args.groups.now = c.loop-group.invariant.1 in
    let group : get_or c.loop-group.groups i 0 ≡ get_or c.args.groups.now i 0 =
    ap (λ ws. get_or ws i 0) groups ∙ group_ahead c.args.groups.now i here in
    let more : odd_count (counters_of (take (i + 1) c.args.groups.now)) ≡ odd_count (counters_of (take i c.args.groups.now)) + count_ones
    (bit_and (get_or c.args.groups.now i 0) 0x1111) =
    odd_count_more c.args.groups.now i here in
    let ones : c.from-odd.result ≡ count_ones (bit_and (get_or c.args.groups.now i 0) 0x1111) =
    c.from-odd.ensures ∙ ap (λ w. count_ones (bit_and w 0x1111)) group in
    let odd : c.loop-group.odd ≡ odd_count (counters_of (take i c.args.groups.now)) = c.loop-group.invariant.0 in (
      omega arith,
      map_over_more halved_group c.args.groups.now c.loop-group.groups i (get_or c.loop-group.groups i 0) here groups
          (get_or_default c.loop-group.groups i 0 (get_or c.loop-group.groups i 0) within),
    )

pub returns : goal.returns
returns c =
    let i : ℕ = c.loop-group.group-index in
    let over : length c.args.groups.now ≤ i = c.loop-group-test.false in
    let front : take i c.args.groups.now ≡ c.args.groups.now = take_all i c.args.groups.now over in
    let rest : drop i c.args.groups.now ≡ [] = drop_all i c.args.groups.now over in
    let groups : c.loop-group.groups ≡ map halved_group c.args.groups.now =
    c.loop-group.invariant.1 ∙ ap (λ xs. map halved_group (take i c.args.groups.now) ++ xs) rest ∙ append-nil _ ∙ ap (map halved_group) front in
    record {
      groups = groups;
      halved = ap counters_of groups ∙ counters_of-halved c.args.groups.now;
      odd = c.loop-group.invariant.0 ∙ ap (λ xs. odd_count (counters_of xs)) front;
    }
