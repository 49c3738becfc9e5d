use Rattle.std.proofs.Common.{◌≡◌, ◌∙◌, ℕ, ◌*◌, ◌+◌, ◌<◌, true, arith, length, ap, subst, sym}
use Rattle.std.specs.Prelude.{slice_set}
use Rattle.std.proofs.lemmas.List.{get_or_read}
use Rattle.moka_list.specs.HashIndex.{Removes, group_at, home_group, is_candidate}
use Rattle.moka_list.specs.Probed.{IsUnder, id_at, steps, without}
use Rattle.moka_list.proofs.RestLemmas.{home_below}
use Rattle.moka_list.proofs.StandsLemmas.{candidate_under, shown}
use Rattle.moka_list.proofs.WayLemmas.{IsTaken, is_taken}
use Rattle.moka_list.proofs.hash_index.HashIndex.remove.Given.{Over}
use Rattle.moka_list.proofs.hash_index.HashIndex.remove.Goals.{After-deref, After-clear}
use Rattle.moka_list.proofs.hash_index.HashIndex.remove.Goals as goal

-- the id stands under its hash
stands : (g : Over) (c : After-deref g)
    → (cell : ℕ) × IsUnder c.self.inside.groups.items c.args.hash cell × (id_at c.self.inside.groups.items cell ≡ c.args.id)
stands g c =
    candidate_under c.self.inside.groups.items c.self.inside.ids c.self.inside.far c.args.hash c.args.id c.self.invariant.shaped
    (subst (λ v. is_candidate v c.args.hash c.args.id ≡ true) (sym c.self.view_is) c.requires)

pub overflow_cast-id : goal.overflow_cast-id
overflow_cast-id g c =
    let there = stands g c in
    let low : c.args.id < c.self.inside.ids =
    subst (λ i. i < c.self.inside.ids) there.2 (c.self.invariant.below there.0 there.1.taken) in
    let room = c.self.invariant.room in let most = c.self.invariant.most in omega (arith, low, room, most)

pub slot_of-home-requires-clause-stands : goal.slot_of-home-requires-clause-stands
slot_of-home-requires-clause-stands g c =
    subst (λ xs. (cell : ℕ) × IsUnder xs c.args.hash cell × (id_at xs cell ≡ c.args.id)) (sym c.deref.ensures.value) (stands g c)

-- a home is in the table
home_inside : (g : Over) (c : After-clear g) → c.slot_of-home.result.0 < length c.self.inside.groups.items
home_inside g c =
    let n = length c.self.inside.groups.items in
    let inside : c.slot_of-home.result.1 < n = subst (λ xs. c.slot_of-home.result.1 < length xs) c.deref.ensures.value c.slot_of-home.ensures.inside.0 in
    subst (λ h. h < n)
    (sym (subst (λ xs. c.slot_of-home.result.0 ≡ home_group (length xs) c.args.hash) c.deref.ensures.value c.slot_of-home.ensures.home))
    (home_below n c.args.hash (omega (arith, inside)))

-- what the table is after the slot is freed
taken : (g : Over) (c : After-clear g)
    → IsTaken c.self.inside.groups.items c.self.inside.ids c.self.inside.far c.args.id c.slot_of-home.result.0 c.slot_of-home.result.2
    (slice_set c.self.inside.groups.items c.slot_of-home.result.1 c.clear.new.self)
taken g c =
    let groups = c.self.inside.groups.items in let n = length groups in let hash = c.args.hash in let home = c.slot_of-home.result.0 in
    let at = c.slot_of-home.result.1 in let slot = c.slot_of-home.result.3 in
    let same = c.deref.ensures.value in
    let is_home : home ≡ home_group n hash = subst (λ xs. home ≡ home_group (length xs) hash) same c.slot_of-home.ensures.home in
    let inside : at < n = subst (λ xs. at < length xs) same c.slot_of-home.ensures.inside.0 in
    let group : c.index_mut.result.now ≡ group_at groups at = get_or_read groups at c.index_mut.result.now inside c.index_mut.ensures.value _ in
    is_taken groups (slice_set groups at c.clear.new.self) c.self.inside.ids c.self.inside.far c.args.id hash home at c.slot_of-home.result.2 slot
    (record {
      is_home = is_home;
      inside = inside;
      is_distance = subst (λ xs. c.slot_of-home.result.2 ≡ steps (length xs) home at) same c.slot_of-home.ensures.distance;
    })
    c.self.invariant c.slot_of-home.ensures.inside.1 (subst (λ xs. IsUnder xs hash (at * 10 + slot)) same c.slot_of-home.ensures.under)
    (subst (λ xs. id_at xs (at * 10 + slot) ≡ c.args.id) same c.slot_of-home.ensures.is)
    (ap (slice_set groups at) (c.clear.ensures ∙ ap (λ h. without h slot) group))

pub take_back-requires-clause-inside : goal.take_back-requires-clause-inside
take_back-requires-clause-inside g c =
    subst (λ m. c.slot_of-home.result.0 < m) (sym (taken g (goal.at.take_back-requires-clause-inside g c).After-clear).len)
    (home_inside g (goal.at.take_back-requires-clause-inside g c).After-clear)

pub take_back-requires-clause-counted : goal.take_back-requires-clause-counted
take_back-requires-clause-counted g c =
    (taken g (goal.at.take_back-requires-clause-counted g c).After-clear).counted c.if-distance-lt-FAR.true

pub invariant_of-self : goal.invariant_of-self
invariant_of-self g c =
    ((taken g (goal.at.invariant_of-self g c).After-clear).if_near c.take_back.new.groups.items c.if-distance-lt-FAR.true c.take_back.ensures).lies

pub invariant_of-self-else-distance-lt-FAR : goal.invariant_of-self-else-distance-lt-FAR
invariant_of-self-else-distance-lt-FAR g c =
    ((taken g (goal.at.invariant_of-self-else-distance-lt-FAR g c).After-clear).if_far c.if-distance-lt-FAR.false).lies

pub returns-then-distance-lt-FAR : goal.returns-then-distance-lt-FAR
returns-then-distance-lt-FAR g c =
    let new = c.take_back.new.groups.items in
    let gone = (taken g (goal.at.returns-then-distance-lt-FAR g c).After-clear).if_near new c.if-distance-lt-FAR.true c.take_back.ensures in
    record { step = subst (λ v. Removes v c.args.id (shown new c.self.inside.ids c.self.inside.far)) c.self.view_is gone.step }

pub returns-else-distance-lt-FAR : goal.returns-else-distance-lt-FAR
returns-else-distance-lt-FAR g c =
    let new = slice_set c.self.inside.groups.items c.slot_of-home.result.1 c.clear.new.self in
    let gone = (taken g (goal.at.returns-else-distance-lt-FAR g c).After-clear).if_far c.if-distance-lt-FAR.false in
    record { step = subst (λ v. Removes v c.args.id (shown new c.self.inside.ids c.self.inside.far)) c.self.view_is gone.step }
