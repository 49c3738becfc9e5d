use Rattle.std.proofs.Common.{arith, ◌++◌, ◌∷◌, [], ◌∙◌}
use Rattle.moka_list.proofs.ListingLemmas.{few_listed, length-walk, lists-pushed}
use Rattle.moka_list.proofs.chain.ids.IdList.push_back.Goals as goal

pub cover-requires-clause-room : goal.cover-requires-clause-room
cover-requires-clause-room g c = rw (← c.self.view_is, ← c.id.view_is) at c.requires.room

pub overflow_add-self : goal.overflow_add-self
overflow_add-self g c =
    omega (arith, few_listed c.self.invariant, length-walk c.self.inside.links c.self.inside.len c.self.inside.links.first)

pub invariant_of-self : goal.invariant_of-self
invariant_of-self g c =
    let absent = rw (← c.self.view_is, ← c.id.view_is) at c.requires.absent in
    (lists-pushed c.self.inside.len c.self.invariant c.id.inside.number absent c.cover.ensures.step c.cover.ensures.here c.link_back.ensures.step
    c.link_back.ensures.len).0

pub returns-clause-ids : goal.returns-clause-ids
returns-clause-ids g c =
    let absent = rw (← c.self.view_is, ← c.id.view_is) at c.requires.absent in
    (lists-pushed c.self.inside.len c.self.invariant c.id.inside.number absent c.cover.ensures.step c.cover.ensures.here c.link_back.ensures.step
    c.link_back.ensures.len).1
    ∙ (λ i. (c.self.view_is i).ids ++ c.id.view_is i ∷ [])
