use Rattle.std.proofs.Common.{arith, ◌++◌, ◌∷◌, [], ◌∙◌}
use Rattle.moka_list.specs.IdList.{ids_without}
use Rattle.moka_list.proofs.ListingLemmas.{has_links, lists-moved}
use Rattle.moka_list.proofs.chain.ids.IdList.move_to_back.Goals as goal

pub unlink-requires-clause-here : goal.unlink-requires-clause-here
unlink-requires-clause-here g c =
    let found = rw (← c.self.view_is, ← c.id.view_is) at c.requires in
    has_links c.self.inside.len c.self.invariant c.id.inside.number found

pub link_back-requires-clause-here : goal.link_back-requires-clause-here
link_back-requires-clause-here g c =
    let found = rw (← c.self.view_is, ← c.id.view_is) at c.requires in
    omega (arith, has_links c.self.inside.len c.self.invariant c.id.inside.number found, c.unlink.ensures.len)

pub invariant_of-self : goal.invariant_of-self
invariant_of-self g c =
    let found = rw (← c.self.view_is, ← c.id.view_is) at c.requires in
    (lists-moved c.self.inside.len c.self.invariant c.id.inside.number found c.unlink.ensures.step c.unlink.ensures.len
    c.link_back.ensures.step c.link_back.ensures.len).0

pub returns-clause-ids : goal.returns-clause-ids
returns-clause-ids g c =
    let found = rw (← c.self.view_is, ← c.id.view_is) at c.requires in
    (lists-moved c.self.inside.len c.self.invariant c.id.inside.number found c.unlink.ensures.step c.unlink.ensures.len
    c.link_back.ensures.step c.link_back.ensures.len).1
    ∙ (λ i. ids_without (c.id.view_is i) (c.self.view_is i).ids ++ c.id.view_is i ∷ [])
