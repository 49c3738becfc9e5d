use Rattle.std.proofs.Common.{◌++◌, ◌∷◌, [], arith, ap, ◌∙◌}
use Rattle.moka_list.proofs.ChainLemmas.{room_linked, shows-pushed}
use Rattle.moka_list.proofs.chain.Chain.push_reserved.Goals as goal

pub cover-requires-clause-room : goal.cover-requires-clause-room
cover-requires-clause-room g c =
    let some = rw (← c.self.view_is) at c.requires in let made = c.insert_reserved-id.ensures in
    let room = room_linked c.self.inside.slots c.self.inside.links some in
    omega (arith, made.key_in_range, made.capacity, room.0)

pub invariant_of-self : goal.invariant_of-self
invariant_of-self g c =
    let some = rw (← c.self.view_is) at c.requires in let made = c.insert_reserved-id.ensures in let covered = c.cover.ensures in
    (shows-pushed c.self.invariant c.insert_reserved-id.result c.args.element some made.was_vacant made.updates made.len made.key_in_range
    made.capacity covered.step covered.here covered.reserved c.link_back.ensures.step c.link_back.ensures.len c.link_back.ensures.reserved).0.0

pub returns-clause-items : goal.returns-clause-items
returns-clause-items g c =
    let some = rw (← c.self.view_is) at c.requires in let made = c.insert_reserved-id.ensures in let covered = c.cover.ensures in
    (shows-pushed c.self.invariant c.insert_reserved-id.result c.args.element some made.was_vacant made.updates made.len made.key_in_range
    made.capacity covered.step covered.here covered.reserved c.link_back.ensures.step c.link_back.ensures.len c.link_back.ensures.reserved).0.1
    ∙ ap (λ v. v.items ++ (c.insert_reserved-id.result, c.args.element) ∷ []) c.self.view_is

pub returns-clause-below : goal.returns-clause-below
returns-clause-below g c =
    let some = rw (← c.self.view_is) at c.requires in let made = c.insert_reserved-id.ensures in let covered = c.cover.ensures in
    (shows-pushed c.self.invariant c.insert_reserved-id.result c.args.element some made.was_vacant made.updates made.len made.key_in_range
    made.capacity covered.step covered.here covered.reserved c.link_back.ensures.step c.link_back.ensures.len c.link_back.ensures.reserved).1
