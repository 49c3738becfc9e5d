use Rattle.std.proofs.Common.{◌∙◌}
use Rattle.moka_queues.specs.Kept.{room_with}
use Rattle.moka_queues.proofs.ChangeLemmas.{rewritten_orders, unwritten_orders}
use Rattle.moka_queues.proofs.KeptLemmas.{IsKept-rewritten}
use Rattle.moka_queues.proofs.orders.Orders.requeue_write.Goals as goal

pub invariant_of-self : goal.invariant_of-self
invariant_of-self g c =
    rw c.move_to_back.ensures.ids (
      IsKept-rewritten c.self.invariant.0 c.args.id
          (c.self.invariant.0.flagged c.args.id c.get.result.now c.get.ensures ∙ c.if-get.true),
      c.self.invariant.1,
    )

pub returns-then-get-clause-orders : goal.returns-then-get-clause-orders
returns-then-get-clause-orders g c =
    let old = c.self.inside in
    rw (← c.self.view_is, c.move_to_back.ensures.ids)
    (λ n stood.
    rewritten_orders c.self.invariant.0 (room_with old.access.ids old.writes.capacity old.access.room) c.args.id n stood
    (c.self.invariant.0.flagged c.args.id c.get.result.now c.get.ensures ∙ c.if-get.true))

pub returns-else-get-clause-orders : goal.returns-else-get-clause-orders
returns-else-get-clause-orders g c =
    let old = c.self.inside in
    rw (← c.self.view_is)
    (λ n stood.
    unwritten_orders c.self.invariant.0 (room_with old.access.ids old.writes.capacity old.access.room) c.args.id n stood
    (c.self.invariant.0.flagged c.args.id c.get.result.now c.get.ensures ∙ c.if-get.false))
