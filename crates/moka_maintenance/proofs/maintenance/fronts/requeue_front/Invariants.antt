use Rattle.std.proofs.Common.{◌≡◌, ◌-◌, ◌≤◌, length}
use Rattle.moka_sync_model.specs.Orders.{all_used}
use Rattle.moka_queues.specs.OrdersState.{orders_of}
use Rattle.moka_maintenance.specs.Held.{first_tickets}
use Rattle.moka_maintenance.proofs.maintenance.fronts.requeue_front.Given as goal

abbrev pub invariant-send : goal.invariant-send
invariant-send g l =
    (all_used (first_tickets (l.count - l.counter) l.orders.nodes) (orders_of l.orders)
    ≡ all_used (first_tickets l.count l.initial.orders.nodes) (orders_of l.initial.orders))
    × (l.count - l.counter ≤ length l.orders.nodes)
