use Rattle.std.proofs.Common.{◌≡◌, ◌∙◌, ap, length, nat_eq, None, refl, subst, sym, arith}
use Rattle.std.specs.Map.{lookup, remove_entry}
use Rattle.moka_list.proofs.IdLemmas.{IsDistinct-pushed}
use Rattle.moka_list.specs.GrowingIndex.{Adds}
use Rattle.moka_unsync_model.specs.Contents.{entry_at}
use Rattle.moka_store.specs.Nodes.{AreMarks, IsStored, latest_node, written_under}
use Rattle.moka_store.specs.Store.{entries_of}
use Rattle.moka_store.proofs.LatestLemmas.{length-latest, pushed-at, removed-pushed}
use Rattle.moka_store.proofs.StepLemmas.{enters_is}
use Rattle.moka_store.proofs.StoreLemmas.{pushed_below, room-kept, stored-latest, stored-reindexed}
use Rattle.moka_store.proofs.WeightLemmas.{parts_less, weight-small, weights-latest}
use Rattle.moka_store.proofs.WriteLemmas.{not_written, under-latest}
use Rattle.moka_store.proofs.store.Store.push.Goals.{After-add-2}
use Rattle.moka_store.proofs.store.Store.push.Goals as goal

pub add-requires-clause-fits : goal.add-requires-clause-fits
add-requires-clause-fits g c small =
    omega (
      arith,
      ap (λ w. w.all) c.self.invariant.0.weighed,
      weight-small c.self.inside.entries.items c.self.invariant.0.few c.self.invariant.0.small,
      small,
    )

pub add-requires-clause-protected : goal.add-requires-clause-protected
add-requires-clause-protected g c = (parts_less c.self.inside.weights c.self.inside.entries.items c.self.invariant.0.weighed).0

pub add-requires-clause-window : goal.add-requires-clause-window
add-requires-clause-window g c = (parts_less c.self.inside.weights c.self.inside.entries.items c.self.invariant.0.weighed).1

pub push_reserved-id-requires : goal.push_reserved-id-requires
push_reserved-id-requires g c =
    let room = rw (← c.self.view_is) at c.requires.room in
    let left = c.self.invariant.1.room (omega (arith, room)) in
    omega (arith, room, left, c.self.invariant.1.fits)

pub attach-requires : goal.attach-requires
attach-requires g c =
    let id = c.push_reserved-id.result in
    let e = c.args.entry in
    let nodes = c.self.inside.entries.items in
    let fresh = c.push_reserved-id.ensures.new_id in
    rw c.push_reserved-id.ensures.items
    (record {
      once = IsDistinct-pushed id e nodes c.self.invariant.0.keyed.once fresh;
      here = (e, pushed-at id e nodes fresh, refl);
      marked = subst (λ l. AreMarks l c.self.inside.marks) (sym (removed-pushed id e nodes fresh)) c.self.invariant.0.marked;
    })

pub add_write-requires-clause-room : goal.add_write-requires-clause-room
add_write-requires-clause-room g c kept =
    let room = rw (← c.self.view_is) at c.requires.room in
    (pushed_below c.self.invariant.1 room c.push_reserved-id.new.self c.push_reserved-id.result c.args.entry c.push_reserved-id.ensures.items
    c.push_reserved-id.ensures.room c.push_reserved-id.ensures.below).1 kept

pub add_write-requires-clause-absent : goal.add_write-requires-clause-absent
add_write-requires-clause-absent g c = not_written c.self.invariant.0.written c.push_reserved-id.result c.push_reserved-id.ensures.new_id

pub add-requires-2-clause-room : goal.add-requires-2-clause-room
add-requires-2-clause-room g c =
    let room = rw (← c.self.view_is) at c.requires.room in
    rw c.number.ensures
    ((pushed_below c.self.invariant.1 room c.push_reserved-id.new.self c.push_reserved-id.result c.args.entry c.push_reserved-id.ensures.items
    c.push_reserved-id.ensures.room c.push_reserved-id.ensures.below).0)

-- the new node comes as the latest of its part
placed : (g : _) (c : After-add-2 g)
    → c.attach.new.entries.items ≡ latest_node (c.push_reserved-id.result, c.args.entry) c.self.inside.entries.items
placed g c =
    let id = c.push_reserved-id.result in
    let e = c.args.entry in
    let nodes = c.self.inside.entries.items in
    let fresh = c.push_reserved-id.ensures.new_id in
    let pushed = c.push_reserved-id.ensures.items in
    c.attach.ensures.items e (ap (lookup (nat_eq id)) pushed ∙ pushed-at id e nodes fresh)
    ∙ ap (latest_node (id, e)) (ap (remove_entry (nat_eq id)) pushed ∙ removed-pushed id e nodes fresh)

-- what the store holds once the node has come, before ids of its index move
pushed : (g : _) (c : After-add-2 g)
    → IsStored g.K.PartialEq.eq c.self.inside.keeps_writes c.attach.new.entries.items c.attach.new.marks c.add_write.new.writes.ids c.add.new.self
    c.add-2.new.self
pushed g c =
    let s = c.self.invariant.0 in
    let id = c.push_reserved-id.result in
    let e = c.args.entry in
    let nodes = c.self.inside.entries.items in
    let room = rw (← c.self.view_is) at c.requires.room in
    let absent = subst (λ v. entry_at g.K.PartialEq.eq e.key (entries_of v) ≡ None) (sym c.self.view_is) c.requires.absent in
    let below =
    pushed_below c.self.invariant.1 room c.push_reserved-id.new.self id e c.push_reserved-id.ensures.items c.push_reserved-id.ensures.room
    c.push_reserved-id.ensures.below in
    let added = subst (λ i. Adds c.self.inside.index i e.hash c.add-2.new.self) c.number.ensures c.add-2.ensures.step in
    stored-latest g.met.K.Eq.laws s id e c.push_reserved-id.ensures.new_id absent c.add.ensures.small (omega (arith, room, c.self.invariant.0.few))
    c.attach.new.entries.items c.attach.new.marks c.add_write.new.writes.ids c.add.new.self c.add-2.new.self (placed g c) c.attach.ensures.marks
    c.add_write.ensures.ids (weights-latest c.self.inside.weights (id, e) nodes s.weighed c.add.new.self c.add.ensures.value) below.0 added

pub move_some-requires : goal.move_some-requires
move_some-requires g c = record { indexed = (pushed g (goal.at.move_some-requires g c).After-add-2).indexed }

pub invariant_of-self : goal.invariant_of-self
invariant_of-self g c =
    let b = (goal.at.invariant_of-self g c).After-add-2 in
    let room = rw (← c.self.view_is) at c.requires.room in
    let left = c.self.invariant.1.room (omega (arith, room)) in (
      stored-reindexed g.met.K.Eq.laws (pushed g b) c.move_some.new.index c.move_some.ensures.indexed,
      room-kept c.self.invariant.1 c.attach.new.entries c.add_write.new.writes c.move_some.new.index
          (ap (λ v. v.capacity) c.attach.ensures.unchanged ∙ ap (λ v. v.capacity) c.push_reserved-id.ensures.unchanged)
          c.add_write.ensures.capacity (c.move_some.ensures.ids ∙ c.add-2.ensures.step.ids)
          (λ _. omega (
            arith,
            left,
            c.push_reserved-id.ensures.room,
            ap (λ v. v.room) c.attach.ensures.unchanged,
            ap (λ v. v.capacity) c.attach.ensures.unchanged,
            ap (λ v. v.capacity) c.push_reserved-id.ensures.unchanged,
            ap length (placed g b),
            length-latest (c.push_reserved-id.result, c.args.entry) c.self.inside.entries.items,
          )),
    )

pub returns : goal.returns
returns g c =
    let s = c.self.invariant.0 in
    let id = c.push_reserved-id.result in
    let e = c.args.entry in
    let fresh = c.push_reserved-id.ensures.new_id in
    let is = placed g (goal.at.returns g c).After-add-2 in
    rw (← c.self.view_is)
    (enters_is _ _ id e fresh is
    ((λ i. written_under (is i) (c.add_write.ensures.ids i)) ∙ under-latest s.written id e fresh) (record { keeps = refl; limit = refl; capacity = refl }))
