use Rattle.std.proofs.Common.{[], ◌≡◌, ◌∙◌, ◌^◌, ◌<◌, ◌≤◌, ◌-◌, ◌+◌, length, ap, arith, not, rules, subst, sym, inl, inr}
use Rattle.std.specs.Int.Count.{count_trailing_zeros}
use Rattle.std.specs.Prelude.{min}
use Rattle.std.proofs.lemmas.Bool.{cond-false, cond-true}
use Rattle.moka_list.specs.declared.constants.TheConstants.{FAR}
use Rattle.moka_list.specs.HashIndex.{after, ends_at, group_at, slots_of, rest_of}
use Rattle.moka_list.proofs.ChosenLemmas.{bit_small, lowest}
use Rattle.moka_list.proofs.RestLemmas.{next_of, none_of, yields}
use Rattle.moka_list.proofs.hash_index.Candidates.next.Goals as goal
use Rattle.moka_list.proofs.hash_index.Candidates.next.Goals.{then-not-self, else-not-self, then-self-eq0-via-then-self-eq0}
use Rattle.moka_list.proofs.hash_index.Candidates.next.Goals.{then-self-eq0-via-else-self-eq0+then-group-eq0}

pub bounds-group-slot : goal.bounds-group-slot
bounds-group-slot c =
    (lowest c.loop-group.self-inside.found (omega (arith, c.if-self-ne0.true)) c.loop-group.invariant.2).within

pub overflow_sub-self : goal.overflow_sub-self
overflow_sub-self c =
    let found = c.loop-group.self-inside.found in
    let least = (lowest found (omega (arith, c.if-self-ne0.true)) c.loop-group.invariant.2).least in
    let few : found < 2 ^ 64 = omega (arith, c.loop-group.invariant.2) in
    subst (λ p. p ≤ found) (sym (bit_small (2 ^ count_trailing_zeros 64 found) found least few)) least

pub returns-then-self-ne0 : goal.returns-then-self-ne0
returns-then-self-ne0 c =
    let it = c.loop-group.self-inside in
    let len : length c.in-Some.group.now.ids ≡ 10 = search rules in
    sym c.self.view_is ∙ sym c.loop-group.invariant.4
    ∙ yields it.groups.now it.tag it.far it.left it.distance it.at it.found c.in-Some.group.now c.in-Some.ensures.lookup.3.1
    len (omega (arith, c.if-self-ne0.true)) c.loop-group.invariant.2

pub returns-then-self-eq0 : goal.returns-then-self-eq0
returns-then-self-eq0 c =
    let it = c.loop-group.self-inside in
    let is : c.in-Some.group.now ≡ group_at it.groups.now it.at = c.in-Some.ensures.lookup.3.1 _ in
    let none : rest_of it.groups.now it.tag it.far it.left it.distance it.at it.found ≡ [] =
    ap (rest_of it.groups.now it.tag it.far it.left it.distance it.at) c.if-self-ne0.false
    ∙ none_of it.groups.now it.tag it.far it.left it.distance it.at
    (elim c.then-self-eq0.branch [
      | then-self-eq0-via-then-self-eq0 w ↦ inr w.if-self-eq0.true
      | then-self-eq0-via-else-self-eq0+then-group-eq0 w ↦
          let ends : w.if-not-self.value ≡ ends_at c.in-Some.group.now it.far =
          elim w.if-not-self.branch [
            | then-not-self w' ↦ w'.value-is ∙ sym (cond-false it.far _ _ w'.if-not-self.true)
            | else-not-self w' ↦ w'.value-is ∙ ap not w'.if-not-self.false ∙ sym (cond-true it.far _ _ w'.if-not-self.false)
          ] in inl (ap (λ g. ends_at g it.far) (sym is) ∙ sym ends ∙ w.if-group-eq0.true)
    ]) in
    (sym c.self.view_is ∙ sym c.loop-group.invariant.4 ∙ none, none)

pub loop-group-preserved : goal.loop-group-preserved
loop-group-preserved c =
    let it = c.loop-group.self-inside in let groups = it.groups.now in
    let is : c.in-Some.group.now ≡ group_at groups it.at = c.in-Some.ensures.lookup.3.1 _ in
    let at : c.after-self-inside.result ≡ after (length groups) it.at = c.after-self-inside.ensures.is in
    let inside : c.after-self-inside.result < length groups = c.after-self-inside.ensures.inside in
    let some = c.if-self-eq0.false in
    let ends : c.if-not-self.value ≡ ends_at c.in-Some.group.now it.far =
    elim c.if-not-self.branch [
      | then-not-self w ↦ w.value-is ∙ sym (cond-false it.far _ _ w.if-not-self.true)
      | else-not-self w ↦ w.value-is ∙ ap not w.if-not-self.false ∙ sym (cond-true it.far _ _ w.if-not-self.false)
    ] in
    let sum = c.loop-group.invariant.6 in (
      c.loop-group.invariant.0,
      c.loop-group.invariant.1,
      c.slots_of-self-inside.ensures.bound,
      λ past. absurd (omega arith),
      ap (rest_of groups it.tag it.far (it.left - 1) (it.distance + 1) c.after-self-inside.result) c.slots_of-self-inside.ensures.slots
          ∙ ap (λ a. rest_of groups it.tag it.far (it.left - 1) (it.distance + 1) a
          (slots_of (group_at groups a) it.tag (min (it.distance + 1) FAR))) at
          ∙ next_of groups it.tag it.far it.left it.distance it.at
          (ap (λ g. ends_at g it.far) (sym is) ∙ sym ends ∙ c.if-group-eq0.false) some
          ∙ sym (ap (rest_of groups it.tag it.far it.left it.distance it.at) c.if-self-ne0.false) ∙ c.loop-group.invariant.4,
      c.loop-group.invariant.5,
      omega (arith, some, sum),
    )
