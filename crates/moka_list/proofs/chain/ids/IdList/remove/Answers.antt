use Rattle.std.proofs.Common.{◌∙◌}
use Rattle.moka_list.specs.IdList.{ids_without}
use Rattle.moka_list.proofs.ListingLemmas.{has_links, lists-removed}
use Rattle.moka_list.proofs.chain.ids.IdList.remove.Goals as goal

pub unlink-requires-clause-here : goal.unlink-requires-clause-here
unlink-requires-clause-here g c =
    let found = rw (← c.self.view_is, ← c.id.view_is) at c.requires in
    has_links c.self.inside.len c.self.invariant c.id.inside.number found

pub invariant_of-self : goal.invariant_of-self
invariant_of-self g c =
    let found = rw (← c.self.view_is, ← c.id.view_is) at c.requires in
    (lists-removed c.self.inside.len c.self.invariant c.id.inside.number found c.unlink.ensures.step c.unlink.ensures.len).0

pub returns-clause-ids : goal.returns-clause-ids
returns-clause-ids g c =
    let found = rw (← c.self.view_is, ← c.id.view_is) at c.requires in
    (lists-removed c.self.inside.len c.self.invariant c.id.inside.number found c.unlink.ensures.step c.unlink.ensures.len).1
    ∙ (λ i. ids_without (c.id.view_is i) (c.self.view_is i).ids)
