use Rattle.std.proofs.Common.{◌-◌}
use Rattle.moka_sync_model.specs.Orders.{all_used}
use Rattle.moka_sync_model.specs.Turn.Admission.{absent_of}
use Rattle.moka_queues.specs.OrdersState.{orders_of}
use Rattle.moka_maintenance.specs.Held.{first_seen}
use Rattle.moka_maintenance.proofs.WalkLemmas.{IsWalked}
use Rattle.moka_maintenance.proofs.maintenance.fronts.requeue_missing.Given as goal

abbrev pub invariant-send : goal.invariant-send
invariant-send g l =
    IsWalked (all_used (absent_of (first_seen l.count l.initial.orders.nodes)) (orders_of l.initial.orders))
    (l.count - l.counter) l.here l.orders
