use Rattle.std.proofs.Common.{◌∙◌, ap, rules}
use Rattle.moka_guards.proofs.LogLemmas.{publishes}
use Rattle.moka_guards.proofs.counts.Publisher.publish.Goals as goal

pub swap_as-requires : goal.swap_as-requires
swap_as-requires g c = (search rules, (search rules, (search rules, publishes _ _ c.self.invariant.1 _ (rw (← c.self.view_is) at c.requires))))

pub invariant_of-self : goal.invariant_of-self
invariant_of-self g c =
    let known = c.swap_as.ensures.rule in (c.swap_as.ensures.cell.0 ∙ c.self.invariant.0, ap (λ k. k.publishes) known)
