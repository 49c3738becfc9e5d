use Rattle.std.proofs.Common.{ap, subst, sym}
use Rattle.moka_list.specs.Nodes.{IsIn, moved_to_back}
use Rattle.moka_list.specs.Indexed.{room_beside}
use Rattle.moka_list.proofs.IdLemmas.{node_at}
use Rattle.moka_list.proofs.IndexedListLemmas.{length-moved, sound-moved}
use Rattle.moka_list.proofs.indexed_list.IndexedList.move_to_back.Goals as goal

pub invariant_of-self : goal.invariant_of-self
invariant_of-self g c =
    let items = c.self.inside.list.items in
    let here = node_at c.args.id items (subst (λ v. IsIn v.items c.args.id) (sym c.self.view_is) c.requires) in
    rw c.move_to_back.ensures.items (sound-moved g.T.Hashed.hash_of c.self.invariant c.args.id here.0 here.1)

pub returns : goal.returns
returns g c =
    let old = c.self.inside in
    let items = old.list.items in
    let here = node_at c.args.id items (subst (λ v. IsIn v.items c.args.id) (sym c.self.view_is) c.requires) in
    rw (← c.self.view_is, c.move_to_back.ensures.items, c.move_to_back.ensures.room)
    (ap (λ n. record { items = moved_to_back c.args.id items; room = room_beside n old.list.room old.index.ids; ids = old.index.ids })
    (length-moved c.args.id here.0 items here.1))
