use Rattle.std.proofs.Common.{◌∙◌, sym}
use Rattle.moka_list.proofs.IdListLemmas.{first-listed}
use Rattle.moka_queues.specs.Kept.{room_with}
use Rattle.moka_queues.proofs.ChangeLemmas.{oldest_orders}
use Rattle.moka_queues.proofs.KeptLemmas.{IsKept-rewritten}
use Rattle.moka_queues.proofs.orders.Orders.requeue_oldest_write.Goals as goal

pub invariant_of-self : goal.invariant_of-self
invariant_of-self g c =
    let old = c.self.inside in
    let id = c.in-Some.oldest in
    rw c.move_to_back.ensures.ids (
      IsKept-rewritten c.self.invariant.0 id (first-listed id old.writes.ids (sym c.front.ensures ∙ c.in-Some.is)),
      c.self.invariant.1,
    )

pub returns-in-Some-clause-orders : goal.returns-in-Some-clause-orders
returns-in-Some-clause-orders g c =
    let old = c.self.inside in
    rw (← c.self.view_is, c.move_to_back.ensures.ids)
    (oldest_orders c.self.invariant.0 (room_with old.access.ids old.writes.capacity old.access.room) c.in-Some.oldest
    (sym c.front.ensures ∙ c.in-Some.is))
