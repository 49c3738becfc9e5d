use Rattle.std.proofs.Common.{◌≡◌, ◌∙◌, ℕ, List, ap, is_some, nat_eq, None, Some, refl, subst, sym}
use Rattle.std.specs.Map.{lookup, remove_entry, set_value}
use Rattle.moka_list.specs.GrowingIndex.{Adds, Removes as Unlists}
use Rattle.moka_unsync_model.specs.Contents.{entry_at}
use Rattle.moka_unsync_model.specs.declared.entry.Entry.{Entry}
use Rattle.moka_store.specs.Nodes.{IsStored, latest_node, written_under}
use Rattle.moka_store.specs.Store.{entries_of}
use Rattle.moka_store.proofs.ChangeLemmas.{fits, heavier, loose, parts_lighter, settled, writes_replaced}
use Rattle.moka_store.proofs.StepLemmas.{replaces_is}
use Rattle.moka_store.proofs.StoreLemmas.{length-moved, room-same, stored-reindexed, stored-replaced}
use Rattle.moka_store.proofs.WeightLemmas.{share_all, share_protected, share_window}
use Rattle.moka_store.proofs.WriteLemmas.{is_written}
use Rattle.moka_store.proofs.store.Store.replace.Goals.{After-add-2}
use Rattle.moka_store.proofs.store.Store.replace.Goals as goal

-- where a node stands, by what was written to it
its_place : {K V : Type 0} (id : ℕ) (nodes : List (ℕ × Entry K V)) (written e : Entry K V) → written ≡ e → (end : List (ℕ × Entry K V))
    → ((y : Entry K V) → lookup (nat_eq id) (set_value (nat_eq id) nodes written) ≡ Some y
    → end ≡ latest_node (id, y) (remove_entry (nat_eq id) (set_value (nat_eq id) nodes written)))
    → (y : Entry K V) → lookup (nat_eq id) (set_value (nat_eq id) nodes e) ≡ Some y
    → end ≡ latest_node (id, y) (remove_entry (nat_eq id) (set_value (nat_eq id) nodes e))
its_place id nodes written e is end place =
    subst (λ d. (y : _) → lookup (nat_eq id) (set_value (nat_eq id) nodes d) ≡ Some y
    → end ≡ latest_node (id, y) (remove_entry (nat_eq id) (set_value (nat_eq id) nodes d))) is place

pub take-requires-clause-all : goal.take-requires-clause-all
take-requires-clause-all g c =
    share_all c.self.inside.weights c.args.id c.get_mut-gone.result.now c.self.inside.entries.items c.self.invariant.0.weighed c.get_mut-gone.ensures.value

pub take-requires-clause-protected : goal.take-requires-clause-protected
take-requires-clause-protected g c =
    share_protected c.self.inside.weights c.args.id c.get_mut-gone.result.now c.self.inside.entries.items c.self.invariant.0.weighed
    c.get_mut-gone.ensures.value

pub take-requires-clause-window : goal.take-requires-clause-window
take-requires-clause-window g c =
    share_window c.self.inside.weights c.args.id c.get_mut-gone.result.now c.self.inside.entries.items c.self.invariant.0.weighed
    c.get_mut-gone.ensures.value

pub add-requires-clause-protected : goal.add-requires-clause-protected
add-requires-clause-protected g c =
    (parts_lighter c.self.invariant.0 c.args.id c.get_mut-gone.result.now c.get_mut-gone.result.now c.get_mut-gone.ensures.value c.take.new.self
    c.take.ensures).0

pub add-requires-clause-window : goal.add-requires-clause-window
add-requires-clause-window g c =
    (parts_lighter c.self.invariant.0 c.args.id c.get_mut-gone.result.now c.get_mut-gone.result.now c.get_mut-gone.ensures.value c.take.new.self
    c.take.ensures).1

pub add-requires-clause-fits : goal.add-requires-clause-fits
add-requires-clause-fits g c small =
    fits c.self.invariant.0 c.args.id c.get_mut-gone.result.now c.get_mut-gone.result.now c.get_mut-gone.ensures.value c.take.new.self c.take.ensures
    c.args.entry.weight small

pub attach-requires : goal.attach-requires
attach-requires g c =
    loose c.self.invariant.0 c.args.id c.get_mut-gone.result.now c.replace-gone.new.dest c.get_mut-gone.ensures.value c.args.entry.part
    (ap (λ z. z.part) c.replace-gone.ensures.after) c.pass.new.self c.pass.ensures

pub write_again-requires : goal.write_again-requires
write_again-requires g c kept = is_written c.self.invariant.0.written c.args.id (ap is_some c.get_mut-gone.ensures.value) kept

pub add-requires-2-clause-room : goal.add-requires-2-clause-room
add-requires-2-clause-room g c =
    rw (c.number-2.ensures, c.remove.ensures.step.ids) (c.self.invariant.0.indexed.below c.args.id (ap is_some c.get_mut-gone.ensures.value))

-- the nodes with the new entry in the old one's node
placed : (g : _) (c : After-add-2 g)
    → c.attach.new.entries.items ≡ latest_node (c.args.id, c.args.entry) (remove_entry (nat_eq c.args.id) c.self.inside.entries.items)
placed g c =
    settled c.self.invariant.0 c.args.id c.get_mut-gone.result.now c.args.entry c.get_mut-gone.ensures.value c.attach.new.entries.items
    (its_place c.args.id c.self.inside.entries.items c.replace-gone.new.dest c.args.entry c.replace-gone.ensures.after c.attach.new.entries.items
    c.attach.ensures.items)

-- what the store holds then, before ids of its index move
replaced : (g : _) (c : After-add-2 g)
    → IsStored g.K.PartialEq.eq c.self.inside.keeps_writes c.attach.new.entries.items c.attach.new.marks c.write_again.new.writes.ids c.add.new.self
    c.add-2.new.self
replaced g c =
    let s = c.self.invariant.0 in
    let x = c.get_mut-gone.result.now in
    let e = c.args.entry in
    let stood = c.get_mut-gone.ensures.value in
    let weighed =
    heavier s c.args.id x e stood c.take.new.self c.take.ensures e.part e.weight refl refl c.add.new.self c.add.ensures.value in
    let absent = subst (λ v. entry_at g.K.PartialEq.eq e.key (entries_of v) ≡ None) (sym c.self.view_is) c.requires.absent in
    let left = subst (λ i. Unlists c.self.inside.index i c.remove.new.self) c.number.ensures c.remove.ensures.step in
    let added = subst (λ i. Adds c.remove.new.self i e.hash c.add-2.new.self) c.number-2.ensures c.add-2.ensures.step in
    stored-replaced g.met.K.Eq.laws s c.args.id x e stood c.add.ensures.small c.attach.new.entries.items c.attach.new.marks c.add.new.self (placed g c)
    c.attach.ensures.marks weighed absent c.write_again.new.writes.ids c.write_again.ensures.ids c.remove.new.self c.add-2.new.self left added

pub move_some-requires : goal.move_some-requires
move_some-requires g c = record { indexed = (replaced g (goal.at.move_some-requires g c).After-add-2).indexed }

pub invariant_of-self : goal.invariant_of-self
invariant_of-self g c =
    let b = (goal.at.invariant_of-self g c).After-add-2 in (
      stored-reindexed g.met.K.Eq.laws (replaced g b) c.move_some.new.index c.move_some.ensures.indexed,
      room-same c.self.invariant.1 c.attach.new.entries c.write_again.new.writes c.move_some.new.index
          (ap (λ v. v.capacity) c.attach.ensures.unchanged) c.write_again.ensures.capacity
          (c.move_some.ensures.ids ∙ c.add-2.ensures.step.ids ∙ c.remove.ensures.step.ids) (ap (λ v. v.room) c.attach.ensures.unchanged)
          (length-moved c.args.id c.args.entry c.self.inside.entries.items c.attach.new.entries.items (placed g b)
          (ap is_some c.get_mut-gone.ensures.value)),
    )

pub returns-clause-step : goal.returns-clause-step
returns-clause-step g c =
    let s = c.self.invariant.0 in
    let x = c.get_mut-gone.result.now in
    let e = c.args.entry in
    let stood = c.get_mut-gone.ensures.value in
    let moved = placed g (goal.at.returns-clause-step g c).After-add-2 in
    rw (← c.self.view_is)
    (replaces_is g.met.K.Eq.laws _ _ s.keyed c.args.id x stood (record { keeps = refl; limit = refl; capacity = refl }) e moved
    ((λ i. written_under c.attach.new.entries.items (c.write_again.ensures.ids i))
    ∙ writes_replaced g.met.K.Eq.laws s c.args.id x e stood c.attach.new.entries.items moved))
