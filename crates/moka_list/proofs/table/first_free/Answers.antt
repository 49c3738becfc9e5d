use Rattle.std.proofs.Common.{◌≡◌, ◌∙◌, ℕ, ◌+◌, ◌-◌, ◌<◌, arith, length, ap, subst, sym, inl, inr}
use Rattle.std.specs.Int.{bit_at}
use Rattle.std.specs.Int.Count.{count_trailing_zeros}
use Rattle.std.proofs.lemmas.Bool.{cases_eq, cases_lt}
use Rattle.moka_list.specs.HashIndex.{after, group_at, slots_with}
use Rattle.moka_list.specs.Probed.{steps}
use Rattle.moka_list.proofs.ChosenLemmas.{lowest}
use Rattle.moka_list.proofs.PutLemmas.{first_free as free_at}
use Rattle.moka_list.proofs.StandsLemmas.{steps_below, steps_walk, walk, walk_below, walk_steps}
use Rattle.moka_list.proofs.CountLemmas.{walk_last}
use Rattle.moka_list.proofs.table.first_free.Goals as goal

pub loop-home-preserved : goal.loop-home-preserved
loop-home-preserved c =
    let groups = c.args.groups.now in let n = length groups in let distance = c.loop-home.distance in
    let now : slots_with (group_at groups (walk n c.args.home distance)) 0 ≡ 0 =
    ap (λ a. slots_with (group_at groups a) 0) (sym c.loop-home.invariant.0) ∙ sym c.free_slots-free.ensures.slots ∙ c.if-free-ne0.false in
    let all : (t : ℕ) → t < distance + 1 → slots_with (group_at groups (walk n c.args.home t)) 0 ≡ 0 =
    λ t low. elim (cases_eq t distance) [
      | inl same ↦ ap (λ s. slots_with (group_at groups (walk n c.args.home s)) 0) same ∙ now
      | inr other ↦ c.loop-home.invariant.2 t (omega (arith, other, low))
    ] in
    let room = c.requires.room in
    let short : distance + 1 < n =
    elim (cases_lt (distance + 1) n) [
      | inl low ↦ low
      | inr past ↦
          let there : steps n c.args.home room.0 < n = steps_below n c.args.home room.0 c.requires.inside room.1 in
          absurd (room.2 (ap (λ a. slots_with (group_at groups a) 0) (sym (walk_steps n c.args.home room.0 c.requires.inside room.1))
          ∙ all (steps n c.args.home room.0) (omega (arith, there, past))))
    ] in (
      c.after-at.ensures.is ∙ ap (after n) c.loop-home.invariant.0 ∙ sym (walk_last n c.args.home distance),
      short,
      all,
    )

pub bounds-groups-at : goal.bounds-groups-at
bounds-groups-at c =
    subst (λ a. a < length c.args.groups.now) (sym c.loop-home.invariant.0)
    (walk_below (length c.args.groups.now) c.args.home c.loop-home.distance c.requires.inside c.loop-home.invariant.1)

pub after-at-requires : goal.after-at-requires
after-at-requires c =
    subst (λ a. a < length c.args.groups.now) (sym c.loop-home.invariant.0)
    (walk_below (length c.args.groups.now) c.args.home c.loop-home.distance c.requires.inside c.loop-home.invariant.1)

pub returns-then-free-ne0-clause-inside : goal.returns-then-free-ne0-clause-inside
returns-then-free-ne0-clause-inside c = (
  subst (λ a. a < length c.args.groups.now) (sym c.loop-home.invariant.0)
      (walk_below (length c.args.groups.now) c.args.home c.loop-home.distance c.requires.inside c.loop-home.invariant.1),
  (lowest c.free_slots-free.result (omega (arith, c.if-free-ne0.true)) c.free_slots-free.ensures.bound).within,
)

pub returns-then-free-ne0-clause-free : goal.returns-then-free-ne0-clause-free
returns-then-free-ne0-clause-free c =
    let groups = c.args.groups.now in let free = c.free_slots-free.result in let slot = count_trailing_zeros 64 free in
    let first = lowest free (omega (arith, c.if-free-ne0.true)) c.free_slots-free.ensures.bound in
    let below : c.loop-home.at < length groups =
    subst (λ a. a < length groups) (sym c.loop-home.invariant.0)
    (walk_below (length groups) c.args.home c.loop-home.distance c.requires.inside c.loop-home.invariant.1) in
    free_at groups c.loop-home.at slot below c.requires.shaped first.within
    (subst (λ bits. bit_at bits slot ≡ 1) c.free_slots-free.ensures.slots first.set)

pub returns-then-free-ne0-clause-distance : goal.returns-then-free-ne0-clause-distance
returns-then-free-ne0-clause-distance c =
    let n = length c.args.groups.now in let home = c.args.home in let s = c.loop-home.distance in
    let led : steps n home (walk n home s) ≡ s - 0 = steps_walk n home 0 s c.requires.inside c.loop-home.invariant.1 (omega arith) in
    let there : steps n home c.loop-home.at ≡ s - 0 = ap (steps n home) c.loop-home.invariant.0 ∙ led in omega arith

pub offset_bounds-groups-at : goal.offset_bounds-groups-at
offset_bounds-groups-at c =
    let below : c.loop-home.at < length c.args.groups.now =
    subst (λ a. a < length c.args.groups.now) (sym c.loop-home.invariant.0)
    (walk_below (length c.args.groups.now) c.args.home c.loop-home.distance c.requires.inside c.loop-home.invariant.1) in
    omega (arith, below, c.requires.small)
