use Rattle.std.proofs.Common.{◌∙◌}
use Rattle.moka_list.specs.Nodes.{moved_to_back}
use Rattle.moka_list.proofs.ChainLemmas.{shows-moved}
use Rattle.moka_list.proofs.chain.Chain.move_to_back.Goals as goal

pub invariant_of-self : goal.invariant_of-self
invariant_of-self g c =
    let found = rw (← c.self.view_is, ← c.id.view_is) at c.requires in
    (shows-moved c.id.inside.number c.self.invariant found c.unlink.ensures.step c.unlink.ensures.len c.link_back.ensures.step
    c.link_back.ensures.len).0

pub returns-clause-items : goal.returns-clause-items
returns-clause-items g c =
    let found = rw (← c.self.view_is, ← c.id.view_is) at c.requires in
    (shows-moved c.id.inside.number c.self.invariant found c.unlink.ensures.step c.unlink.ensures.len c.link_back.ensures.step
    c.link_back.ensures.len).1
    ∙ (λ i. moved_to_back (c.id.view_is i) (c.self.view_is i).items)
