use Rattle.std.proofs.Common.{◌≡◌, ◌∙◌, ℕ, ◌+◌, ◌-◌, ◌*◌, ◌/◌, ◌<◌, false, true, arith, length, ap, subst, sym, inl, inr}
use Rattle.std.specs.Int.{bit_at}
use Rattle.std.specs.Prelude.{min}
use Rattle.std.proofs.lemmas.Bool.{cases_eq, cases_lt, false≢true}
use Rattle.moka_list.specs.declared.constants.TheConstants.{FAR}
use Rattle.moka_list.specs.HashIndex.{after, group_at, home_group, slots_of, tag_of}
use Rattle.moka_list.specs.Probed.{IsUnder, id_at, is_among, steps}
use Rattle.moka_list.proofs.CountLemmas.{walk_last}
use Rattle.moka_list.proofs.RestLemmas.{home_below}
use Rattle.moka_list.proofs.StandsLemmas.{cell_below, found_under, id_found, steps_below, steps_walk, under_among, walk, walk_below, walk_steps}
use Rattle.moka_list.proofs.table.slot_of.Goals as goal

pub bounds-groups-at : goal.bounds-groups-at
bounds-groups-at c =
    let n = length c.args.groups.now in
    subst (λ a. a < n) (sym c.loop-slot.invariant.way)
    (walk_below n (home_group n c.args.hash) c.loop-slot.distance (home_below n c.args.hash (omega (arith, c.loop-slot.invariant.near)))
    c.loop-slot.invariant.near)

pub offset_bounds-groups-at : goal.offset_bounds-groups-at
offset_bounds-groups-at c =
    let n = length c.args.groups.now in
    let below : c.loop-slot.at < n =
    subst (λ a. a < n) (sym c.loop-slot.invariant.way)
    (walk_below n (home_group n c.args.hash) c.loop-slot.distance (home_below n c.args.hash (omega (arith, c.loop-slot.invariant.near)))
    c.loop-slot.invariant.near) in
    omega (arith, below, c.requires.small)

pub after-at-requires : goal.after-at-requires
after-at-requires c =
    let n = length c.args.groups.now in
    subst (λ a. a < n) (sym c.loop-slot.invariant.way)
    (walk_below n (home_group n c.args.hash) c.loop-slot.distance (home_below n c.args.hash (omega (arith, c.loop-slot.invariant.near)))
    c.loop-slot.invariant.near)

pub returns-in-Some-clause-inside : goal.returns-in-Some-clause-inside
returns-in-Some-clause-inside c =
    let n = length c.args.groups.now in (
      subst (λ a. a < n) (sym c.loop-slot.invariant.way)
          (walk_below n (home_group n c.args.hash) c.loop-slot.distance (home_below n c.args.hash (omega (arith, c.loop-slot.invariant.near)))
          c.loop-slot.invariant.near),
      c.in-Some.ensures.some.within,
    )

pub returns-in-Some-clause-distance : goal.returns-in-Some-clause-distance
returns-in-Some-clause-distance c =
    let n = length c.args.groups.now in let home = home_group n c.args.hash in let s = c.loop-slot.distance in
    let led : steps n home (walk n home s) ≡ s - 0 =
    steps_walk n home 0 s (home_below n c.args.hash (omega (arith, c.loop-slot.invariant.near))) c.loop-slot.invariant.near (omega arith) in
    let there : steps n home c.loop-slot.at ≡ s - 0 = ap (steps n home) c.loop-slot.invariant.way ∙ led in
    let same : steps n c.probe_of-home.result.0 c.loop-slot.at ≡ steps n home c.loop-slot.at =
    ap (λ h. steps n h c.loop-slot.at) c.probe_of-home.ensures.home in omega (arith, same, there)

pub returns-in-Some-clause-under : goal.returns-in-Some-clause-under
returns-in-Some-clause-under c =
    let groups = c.args.groups.now in let n = length groups in let hash = c.args.hash in let s = c.loop-slot.distance in
    let slot = c.in-Some.slot in
    subst (λ a. IsUnder groups hash (a * 10 + slot)) (sym c.loop-slot.invariant.way)
    (found_under groups hash s slot c.requires.shaped c.loop-slot.invariant.near c.in-Some.ensures.some.within
    (subst (λ a. bit_at (slots_of (group_at groups a) (tag_of n hash) (min s FAR)) slot ≡ 1) c.loop-slot.invariant.way
    (subst (λ t. bit_at (slots_of (group_at groups c.loop-slot.at) t (min s FAR)) slot ≡ 1) c.probe_of-home.ensures.tag c.in-Some.ensures.some.set)))

pub returns-in-Some-clause-is : goal.returns-in-Some-clause-is
returns-in-Some-clause-is c =
    id_found c.args.groups.now c.loop-slot.at c.in-Some.slot c.in-Some.ensures.some.within ∙ c.in-Some.ensures.some.is

pub loop-slot-preserved : goal.loop-slot-preserved
loop-slot-preserved c =
    let groups = c.args.groups.now in let n = length groups in let hash = c.args.hash in let id = c.args.id in let distance = c.loop-slot.distance in
    let home = home_group n hash in let tag = c.probe_of-home.result.1 in
    let positive : 0 < n = omega (arith, c.loop-slot.invariant.near) in
    let inside : home < n = home_below n hash positive in
    let here : is_among id (slots_of (group_at groups (walk n home distance)) tag (min distance FAR)) (group_at groups (walk n home distance)).ids ≡ false =
    subst (λ a. is_among id (slots_of (group_at groups a) tag (min distance FAR)) (group_at groups a).ids ≡ false) c.loop-slot.invariant.way
    c.in_default.ensures.none in
    let all : (s : ℕ) → s < distance + 1
    → is_among id (slots_of (group_at groups (walk n home s)) tag (min s FAR)) (group_at groups (walk n home s)).ids ≡ false =
    λ s low. elim (cases_eq s distance) [
      | inl same ↦
          subst (λ t. is_among id (slots_of (group_at groups (walk n home t)) tag (min t FAR)) (group_at groups (walk n home t)).ids ≡ false)
          (sym same) here
      | inr other ↦ c.loop-slot.invariant.missed s (omega (arith, other, low))
    ] in
    let stands = c.requires.stands in let cell = stands.0 in let q = cell / 10 in let s = steps n home q in
    let below : q < n = cell_below cell n stands.1.inside in
    let led : walk n home s ≡ q = walk_steps n home q inside below in
    let found : is_among id (slots_of (group_at groups q) tag (min s FAR)) (group_at groups q).ids ≡ true =
    subst (λ i. is_among i (slots_of (group_at groups q) tag (min s FAR)) (group_at groups q).ids ≡ true) stands.2
    (subst (λ t. is_among (id_at groups cell) (slots_of (group_at groups q) t (min s FAR)) (group_at groups q).ids ≡ true)
    (sym c.probe_of-home.ensures.tag) (under_among groups hash cell c.requires.shaped stands.1)) in
    let short : s < n = steps_below n home q inside below in
    let farther : distance + 1 < n =
    elim (cases_lt s (distance + 1)) [
      | inl passed ↦
          absurd (false≢true (sym (subst
          (λ a. is_among id (slots_of (group_at groups a) tag (min s FAR)) (group_at groups a).ids ≡ false) led (all s passed)) ∙ found))
      | inr ahead ↦ omega arith
    ] in
    record {
      way = c.after-at.ensures.is ∙ ap (after n) c.loop-slot.invariant.way ∙ sym (walk_last n home distance);
      near = farther;
      missed = all;
    }
