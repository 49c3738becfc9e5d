use Rattle.std.proofs.Common.{[]}
use Rattle.moka_queues.proofs.ChangeLemmas.{oldest_charged}
use Rattle.moka_queues.proofs.orders.Orders.oldest_write.Goals as goal

pub returns-clause-stands : goal.returns-clause-stands
returns-clause-stands g c =
    rw (← c.self.view_is) (oldest_charged c.self.invariant.0 c.in_ok-id.id c.get.result.now c.get.ensures [])
