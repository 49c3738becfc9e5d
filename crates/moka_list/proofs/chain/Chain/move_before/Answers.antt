use Rattle.std.proofs.Common.{◌≡◌, ◌∙◌, ap, false, nat_eq, sym, None, Some}
use Rattle.std.proofs.lemmas.Bool.{cond-false, ne_eqb}
use Rattle.moka_list.specs.Chain.{moved_before}
use Rattle.moka_list.specs.Chained.{items_of}
use Rattle.moka_list.specs.Nodes.{next_id}
use Rattle.moka_list.specs.declared.chain.links.Links.{Links}
use Rattle.moka_list.specs.declared.chain.links.TheConstants.{NONE}
use Rattle.moka_list.proofs.ChainLemmas.{Shows, leads_next, shows-moved_before}
use Rattle.moka_list.proofs.ItemLemmas.{differs, ne_comm}
use Rattle.moka_list.proofs.InsertedLemmas.{moved_before-behind}
use Rattle.moka_list.proofs.chain.Chain.move_before.Given.{Over}
use Rattle.moka_list.proofs.chain.Chain.move_before.Goals as goal

-- what the chain holds after both changes
shown : (g : Over) (c : goal.After-link_before g)
    → Shows c.self.inside.slots c.link_before.new.self
    (moved_before c.id.inside.number c.next.inside.number (items_of c.self.inside.slots c.self.inside.links))
shown g c =
    let found = rw (← c.self.view_is, ← c.id.view_is) at c.requires.here in
    let next_found = rw (← c.self.view_is, ← c.next.view_is) at c.requires.next in
    let other = rw (← c.id.view_is, ← c.next.view_is) at c.requires.apart in
    shows-moved_before c.id.inside.number c.next.inside.number c.self.invariant found next_found (ne_eqb _ _ other) c.unlink.ensures.step
    c.unlink.ensures.len c.link_before.ensures.step c.link_before.ensures.len

pub invariant_of-self : goal.invariant_of-self
invariant_of-self g c = (shown g c).0

pub returns-clause-items : goal.returns-clause-items
returns-clause-items g c =
    (shown g c).1 ∙ (λ i. moved_before (c.id.view_is i) (c.next.view_is i) (c.self.view_is i).items)

-- a node that stands there already stays
pub returns-then-index-next-clause-items : goal.returns-then-index-next-clause-items
returns-then-index-next-clause-items g c =
    let items = items_of c.self.inside.slots c.self.inside.links in
    let found = rw (← c.self.view_is, ← c.id.view_is) at c.requires.here in
    let next_found = rw (← c.self.view_is, ← c.next.view_is) at c.requires.next in
    let link : Links = c.index.result.now in
    let at : link.next ≡ c.next.inside.number = c.if-index-next.true in
    let some : nat_eq link.next NONE ≡ false =
    ap (λ n. nat_eq n NONE) at
    ∙ ne_comm NONE c.next.inside.number (differs NONE c.next.inside.number items c.self.invariant.threaded.end next_found) in
    let follows : next_id c.id.inside.number items ≡ Some c.next.inside.number =
    sym (leads_next c.self.invariant c.id.inside.number found link c.index.ensures) ∙ cond-false (nat_eq link.next NONE) None (Some link.next) some
    ∙ ap Some at in
    ap (λ v. v.items) (sym c.self.view_is)
    ∙ sym (moved_before-behind c.id.inside.number c.next.inside.number items c.self.invariant.threaded.apart follows)
    ∙ (λ i. moved_before (c.id.view_is i) (c.next.view_is i) (c.self.view_is i).items)
