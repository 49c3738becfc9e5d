use Rattle.std.proofs.Common.{None, sym, ◌∙◌, eq-eqb}
use Rattle.std.proofs.lemmas.Bool.{cond-false, cond-true, ne_eqb}
use Rattle.moka_list.specs.Nodes.{next_id}
use Rattle.moka_list.proofs.ChainLemmas.{leads_next}
use Rattle.moka_list.proofs.chain.Chain.next.Goals as goal

pub returns-then-next : goal.returns-then-next
returns-then-next g c =
    let found = rw (← c.self.view_is, ← c.id.view_is) at c.requires in
    sym (cond-true _ None _ (eq-eqb _ _ c.if-next.true)) ∙ leads_next c.self.invariant c.id.inside.number found c.index.result.now c.index.ensures
    ∙ (λ i. next_id (c.id.view_is i) (c.self.view_is i).items)

pub returns : goal.returns
returns g c =
    let found = rw (← c.self.view_is, ← c.id.view_is) at c.requires in
    sym (cond-false _ None _ (ne_eqb _ _ c.if-next.false)) ∙ leads_next c.self.invariant c.id.inside.number found c.index.result.now c.index.ensures
    ∙ (λ i. next_id (c.id.view_is i) (c.self.view_is i).items)
