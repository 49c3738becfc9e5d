use Rattle.std.proofs.Common.{◌≡◌, ◌∙◌, ℕ, ◌-◌, ◌*◌, ◌%◌, ◌^◌, ◌<◌, ◌≤◌, nat_eq, length, ap, arith, rules, subst, sym}
use Rattle.std.specs.Int.Count.{count_trailing_zeros}
use Rattle.std.specs.Int.{bit_at}
use Rattle.std.specs.List.{list_any}
use Rattle.std.specs.Prelude.{min}
use Rattle.moka_list.specs.declared.constants.TheConstants.{FAR}
use Rattle.moka_list.specs.HashIndex.{slots_of}
use Rattle.moka_list.specs.Probed.{is_among}
use Rattle.moka_list.proofs.ChosenLemmas.{bit_small, chosen_none, takes_first}
use Rattle.moka_list.proofs.group.Group.slot_of.Goals as goal

pub bounds-self-slot : goal.bounds-self-slot
bounds-self-slot c =
    let len : length c.args.self.now.ids ≡ 10 = search rules in
    (takes_first c.loop-found.found c.args.self.now.ids len (omega (arith, c.loop-found-test.true)) c.loop-found.invariant.few).within

pub returns-then-self-slot-clause-some : goal.returns-then-self-slot-clause-some
returns-then-self-slot-clause-some c =
    let len : length c.args.self.now.ids ≡ 10 = search rules in
    let first = takes_first c.loop-found.found c.args.self.now.ids len (omega (arith, c.loop-found-test.true)) c.loop-found.invariant.few in
    record {
      within = first.within;
      set = c.loop-found.invariant.left (count_trailing_zeros 64 c.loop-found.found) first.set;
      is = search rules;
    }

pub overflow_sub-found : goal.overflow_sub-found
overflow_sub-found c =
    let len : length c.args.self.now.ids ≡ 10 = search rules in
    let first = takes_first c.loop-found.found c.args.self.now.ids len (omega (arith, c.loop-found-test.true)) c.loop-found.invariant.few in
    let few : c.loop-found.found < 2 ^ 64 = omega (arith, c.loop-found.invariant.few) in
    subst (λ p. p ≤ c.loop-found.found)
    (sym (bit_small (2 ^ count_trailing_zeros 64 c.loop-found.found) c.loop-found.found first.least few)) first.least

pub returns-clause-none : goal.returns-clause-none
returns-clause-none c =
    let id = c.args.id in let ids = c.args.self.now.ids in
    sym c.loop-found.invariant.same ∙ ap (λ bits. is_among id bits ids) c.loop-found-test.false
    ∙ ap (list_any (nat_eq id)) (chosen_none ids)

pub loop-found-preserved : goal.loop-found-preserved
loop-found-preserved c =
    let found = c.loop-found.found in let id = c.args.id in let ids = c.args.self.now.ids in
    let len : length ids ≡ 10 = search rules in
    let first = takes_first found ids len (omega (arith, c.loop-found-test.true)) c.loop-found.invariant.few in
    let few : found < 2 ^ 64 = omega (arith, c.loop-found.invariant.few) in
    let bit = 2 ^ count_trailing_zeros 64 found in
    let small : 1 * bit % 2 ^ 64 ≡ bit = bit_small bit found first.least few in
    let is = first.is in let other = c.if-self-slot.false in
    let passed : is_among id found ids ≡ is_among id (found - bit) ids = search rules in
    record {
      few = omega (arith, c.loop-found.invariant.few);
      left = subst (λ p. (k : ℕ) → bit_at (found - p) k ≡ 1 → bit_at (slots_of c.args.self.now c.args.tag (min c.args.distance FAR)) k ≡ 1)
          (sym small) (λ k set. c.loop-found.invariant.left k (first.rest k set));
      same = ap (λ p. is_among id (found - p) ids) small ∙ sym passed ∙ c.loop-found.invariant.same;
    }
