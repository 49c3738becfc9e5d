use Rattle.std.proofs.Common.{ap, is_some, length, subst}
use Rattle.moka_list.specs.GrowingIndex.{Removes}
use Rattle.moka_list.proofs.IndexedListLemmas.{room_removed, sound-removed}
use Rattle.moka_list.proofs.ItemLemmas.{length-remove}
use Rattle.moka_list.proofs.indexed_list.IndexedList.remove.Goals as goal

pub invariant_of-self : goal.invariant_of-self
invariant_of-self g c =
    rw c.unlink-element.ensures.items
    (sound-removed g.T.Hashed.hash_of c.self.invariant c.args.id c.remove.new.self
    (subst (λ i. Removes c.self.inside.index i c.remove.new.self) c.number.ensures c.remove.ensures.step))

pub returns-clause-room : goal.returns-clause-room
returns-clause-room g c =
    let old = c.self.inside in
    rw (← c.self.view_is, c.unlink-element.ensures.items)
    (room_removed (length old.list.items) _ old.list.room c.unlink-element.new.self.room old.index.ids c.remove.new.self.ids
    (length-remove c.args.id old.list.items (ap is_some c.unlink-element.ensures.value)) c.unlink-element.ensures.room
    c.unlink-element.ensures.room_after c.remove.ensures.step.ids)
