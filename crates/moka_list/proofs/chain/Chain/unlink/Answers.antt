use Rattle.std.proofs.Common.{nat_eq, ◌-◌, ◌∙◌}
use Rattle.moka_list.specs.Chained.{capacity_of}
use Rattle.std.specs.Map.{remove_entry}
use Rattle.moka_list.proofs.ChainLemmas.{shows-unlinked}
use Rattle.moka_list.proofs.chain.Chain.unlink.Goals as goal

pub invariant_of-self : goal.invariant_of-self
invariant_of-self g c =
    let out = c.remove-element.ensures in
    (shows-unlinked c.self.invariant c.id.inside.number c.remove-element.result out.value out.updates out.len out.capacity
    c.unlink.ensures.step c.unlink.ensures.len).0

pub returns-clause-items : goal.returns-clause-items
returns-clause-items g c =
    let out = c.remove-element.ensures in
    (shows-unlinked c.self.invariant c.id.inside.number c.remove-element.result out.value out.updates out.len out.capacity
    c.unlink.ensures.step c.unlink.ensures.len).1
    ∙ (λ i. remove_entry (nat_eq (c.id.view_is i)) (c.self.view_is i).items)

pub returns-clause-room_left : goal.returns-clause-room_left
returns-clause-room_left g c =
    (λ i. capacity_of c.remove-element.new.self c.unlink.new.self - (invariant_of-self g c).len i)
