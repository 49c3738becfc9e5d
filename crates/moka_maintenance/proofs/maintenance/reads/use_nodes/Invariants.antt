use Rattle.std.proofs.Common.{◌≡◌, take}
use Rattle.std.specs.List.{fold}
use Rattle.moka_queues.specs.OrdersState.{orders_of}
use Rattle.moka_queues.specs.LoggedReads.{reads_of}
use Rattle.moka_maintenance.specs.Taken.{used_by}
use Rattle.moka_maintenance.proofs.maintenance.reads.use_nodes.Given as goal

-- the reads before this one have been applied to the orders
abbrev pub invariant-loop-logged : goal.invariant-loop-logged
invariant-loop-logged g l = orders_of l.orders ≡ fold used_by (orders_of l.fn.orders) (reads_of (take l.logged-index l.reads))
