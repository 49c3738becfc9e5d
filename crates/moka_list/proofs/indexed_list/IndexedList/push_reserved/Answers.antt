use Rattle.std.proofs.Common.{◌<◌, ap, arith, length, subst}
use Rattle.std.proofs.lemmas.List.{length_push}
use Rattle.moka_list.specs.GrowingIndex.{Adds}
use Rattle.moka_list.specs.Indexed.{room_beside}
use Rattle.moka_list.proofs.IndexedListLemmas.{IsSound, room_indexed, sound-pushed}
use Rattle.moka_list.proofs.indexed_list.IndexedList.push_reserved.Goals.{After-add}
use Rattle.moka_list.proofs.indexed_list.IndexedList.push_reserved.Goals as goal

-- the index has room for the new id
is_below : (g : _) (c : After-add g) → c.push_reserved-id.result < c.self.inside.index.ids
is_below g c =
    let old = c.self.inside in
    let some : 0 < room_beside (length old.list.items) old.list.room old.index.ids = rw (← c.self.view_is) at c.requires in
    let fits = room_indexed (length old.list.items) old.list.room old.index.ids some in
    omega (arith, fits, ap length c.push_reserved-id.ensures.items, length_push old.list.items (c.push_reserved-id.result, c.args.element))

-- the list with the new node and its index
pushed : (g : _) (c : After-add g) → IsSound g.T.Hashed.hash_of c.push_reserved-id.new.self.items c.add.new.self
pushed g c =
    let old = c.self.inside in
    let id = c.push_reserved-id.result in
    let e = c.args.element in
    let under = subst (λ i. Adds old.index i c.hash-hash.result c.add.new.self) c.number.ensures c.add.ensures.step in
    let added = subst (λ hash. Adds old.index id hash c.add.new.self) c.hash-hash.ensures under in
    rw c.push_reserved-id.ensures.items
    (sound-pushed g.T.Hashed.hash_of c.self.invariant id e c.add.new.self c.push_reserved-id.ensures.new_id (is_below g c) added)

pub move_some-requires : goal.move_some-requires
move_some-requires g c = record { indexed = (pushed g (goal.at.move_some-requires g c).After-add).1 }

pub invariant_of-self : goal.invariant_of-self
invariant_of-self g c = ((pushed g (goal.at.invariant_of-self g c).After-add).0, c.move_some.ensures.indexed)

pub returns-clause-below : goal.returns-clause-below
returns-clause-below g c = rw (← c.self.view_is) (is_below g (goal.at.returns-clause-below g c).After-add)
