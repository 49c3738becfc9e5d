use Rattle.std.proofs.Common.{◌≡◌, ◌+◌, ◌-◌, ◌∙◌, suc, ap, arith, sym}
use Rattle.moka_sync_model.specs.Orders.{all_used}
use Rattle.moka_queues.specs.OrdersState.{orders_of}
use Rattle.moka_maintenance.specs.Held.{first_tickets}
use Rattle.moka_maintenance.proofs.SendLemmas.{sent}
use Rattle.moka_maintenance.proofs.maintenance.fronts.requeue_front.Goals as goal

pub send-preserved : goal.send-preserved
send-preserved g c =
    let o = c.send.orders in
    let k = c.args.count - (c.send.counter + 1) in
    let same : suc k ≡ c.args.count - c.send.counter = omega (arith, c.send-test.true) in
    let step = c.send_front.ensures in
    let left = sent o c.send_front.new.orders k step.id step.first (omega (arith, c.send.invariant.1, same)) step.moved step.orders in
    (left.0 ∙ (ap (λ j. all_used (first_tickets j o.nodes) (orders_of o)) same ∙ c.send.invariant.0), left.1)

pub returns : goal.returns
returns g c =
    let o = c.send.orders in
    let none : c.args.count - c.send.counter ≡ 0 = omega (arith, c.send-test.false) in
    sym (ap (λ j. all_used (first_tickets j o.nodes) (orders_of o)) none) ∙ c.send.invariant.0
