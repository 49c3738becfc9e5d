use Rattle.std.proofs.Common.{◌∙◌, [], arith, sym}
use Rattle.moka_queues.proofs.KeptLemmas.{charged_weight-is, total_bound}
use Rattle.moka_queues.proofs.orders.Orders.charged_weight.Goals as goal

pub returns-clause-small : goal.returns-clause-small
returns-clause-small g c = grind (arith, total_bound c.self.invariant.0, c.len.ensures.len, c.len.type_inv)

pub returns-clause-value : goal.returns-clause-value
returns-clause-value g c =
    rw (← c.self.view_is) (c.self.invariant.0.sum
    ∙ sym (charged_weight-is c.self.inside.access.items []))
