use Rattle.std.proofs.Common.{◌≡◌, ◌≢◌, ◌∙◌, ℕ, ◌+◌, ◌*◌, ◌<◌, ◌≤◌, true, false, arith, length, ap, rules, subst, sym}
use Rattle.std.specs.Prelude.{min, slice_set}
use Rattle.std.proofs.lemmas.List.{get_or_read}
use Rattle.moka_list.specs.declared.constants.TheConstants.{FAR}
use Rattle.moka_list.specs.HashIndex.{Adds, group_at, home_group, is_candidate, slots_with, tag_of}
use Rattle.moka_list.specs.Probed.{is_free, steps, with_id}
use Rattle.moka_list.proofs.FreeLemmas.{free_some}
use Rattle.moka_list.proofs.RestLemmas.{home_below}
use Rattle.moka_list.proofs.StandsLemmas.{shown}
use Rattle.moka_list.proofs.WayLemmas.{IsPut, is_put}
use Rattle.moka_list.proofs.hash_index.HashIndex.add.Given.{Over}
use Rattle.moka_list.proofs.hash_index.HashIndex.add.Goals.{After-deref, After-put}
use Rattle.moka_list.proofs.hash_index.HashIndex.add.Goals as goal

home_within : (n ids id hash : ℕ) → ids ≤ 5 * n → id < ids → home_group n hash < n
home_within n ids id hash share room = home_below n hash (omega arith)

-- a home is in the table
home_inside : (g : Over) (c : After-deref g) → c.probe_of-home.result.0 < length c.self.inside.groups.items
home_inside g c =
    let n = length c.self.inside.groups.items in
    let len : c.len.result ≡ n = search rules in
    let room : c.args.id < c.self.inside.ids = search rules in
    subst (λ h. h < n) (sym (c.probe_of-home.ensures.home ∙ ap (λ m. home_group m c.args.hash) len))
    (home_within n c.self.inside.ids c.args.id c.args.hash c.self.invariant.room room)

pub first_free-at-requires-clause-inside : goal.first_free-at-requires-clause-inside
first_free-at-requires-clause-inside g c =
    subst (λ xs. c.probe_of-home.result.0 < length xs) (sym c.deref.ensures.value) (home_inside g c)

pub first_free-at-requires-clause-room : goal.first_free-at-requires-clause-room
first_free-at-requires-clause-room g c =
    let room : c.args.id < c.self.inside.ids = search rules in
    subst (λ xs. (at : ℕ) × (at < length xs) × (slots_with (group_at xs at) 0 ≢ 0)) (sym c.deref.ensures.value)
    (free_some c.self.inside.groups.items c.self.inside.ids c.args.id c.self.inside.far c.self.invariant room
    (subst (λ v. (other : ℕ) → is_candidate v other c.args.id ≡ false) (sym c.self.view_is) c.requires.absent))

-- what the table is after the id is put
put_there : (g : Over) (c : After-put g)
    → IsPut c.self.inside.groups.items c.self.inside.ids c.self.inside.far c.args.id c.args.hash c.probe_of-home.result.0 c.first_free-at.result.1
    (slice_set c.self.inside.groups.items c.first_free-at.result.0 c.put.new.self)
put_there g c =
    let groups = c.self.inside.groups.items in let n = length groups in let hash = c.args.hash in let home = c.probe_of-home.result.0 in
    let tag = c.probe_of-home.result.1 in let at = c.first_free-at.result.0 in let distance = c.first_free-at.result.1 in
    let slot = c.first_free-at.result.2 in
    let len : c.len.result ≡ n = search rules in
    let room : c.args.id < c.self.inside.ids = search rules in
    let same = c.deref.ensures.value in
    let inside : at < n = subst (λ xs. at < length xs) same c.first_free-at.ensures.inside.0 in
    let group : c.index_mut.result.now ≡ group_at groups at = get_or_read groups at c.index_mut.result.now inside c.index_mut.ensures.value _ in
    is_put groups (slice_set groups at c.put.new.self) c.self.inside.ids c.self.inside.far c.args.id hash home at distance tag
    (record {
      is_home = c.probe_of-home.ensures.home ∙ ap (λ m. home_group m hash) len;
      inside = inside;
      is_distance = subst (λ xs. distance ≡ steps (length xs) home at) same c.first_free-at.ensures.distance;
    })
    c.self.invariant room (subst (λ v. (other : ℕ) → is_candidate v other c.args.id ≡ false) (sym c.self.view_is) c.requires.absent)
    (c.probe_of-home.ensures.tag ∙ ap (λ m. tag_of m hash) len)
    (record {
      slot = slot;
      within = c.first_free-at.ensures.inside.1;
      free = subst (λ xs. is_free xs (at * 10 + slot) ≡ true) same c.first_free-at.ensures.free;
      is = ap (slice_set groups at) (c.put.ensures ∙ ap (λ h. with_id h slot tag (min distance FAR) c.args.id) group);
    })

pub count-requires-clause-inside : goal.count-requires-clause-inside
count-requires-clause-inside g c =
    subst (λ m. c.probe_of-home.result.0 < m) (sym (put_there g (goal.at.count-requires-clause-inside g c).After-put).len)
    (home_inside g (goal.at.count-requires-clause-inside g c).After-deref)

pub count-requires-clause-fits : goal.count-requires-clause-fits
count-requires-clause-fits g c = (put_there g (goal.at.count-requires-clause-fits g c).After-put).fits

pub invariant_of-self : goal.invariant_of-self
invariant_of-self g c =
    ((put_there g (goal.at.invariant_of-self g c).After-put).if_near c.count.new.groups.items c.if-distance-lt-FAR.true c.count.ensures).lies

pub invariant_of-self-else-distance-lt-FAR : goal.invariant_of-self-else-distance-lt-FAR
invariant_of-self-else-distance-lt-FAR g c =
    ((put_there g (goal.at.invariant_of-self-else-distance-lt-FAR g c).After-put).if_far c.if-distance-lt-FAR.false).lies

pub returns-then-distance-lt-FAR : goal.returns-then-distance-lt-FAR
returns-then-distance-lt-FAR g c =
    let new = c.count.new.groups.items in
    let added = (put_there g (goal.at.returns-then-distance-lt-FAR g c).After-put).if_near new c.if-distance-lt-FAR.true c.count.ensures in
    record { step = subst (λ v. Adds v c.args.id c.args.hash (shown new c.self.inside.ids c.self.inside.far)) c.self.view_is added.step }

pub returns-else-distance-lt-FAR : goal.returns-else-distance-lt-FAR
returns-else-distance-lt-FAR g c =
    let new = slice_set c.self.inside.groups.items c.first_free-at.result.0 c.put.new.self in
    let added = (put_there g (goal.at.returns-else-distance-lt-FAR g c).After-put).if_far c.if-distance-lt-FAR.false in
    record { step = subst (λ v. Adds v c.args.id c.args.hash (shown new c.self.inside.ids true)) c.self.view_is added.step }
