use Rattle.std.proofs.Common.{refl, sym}
use Rattle.moka_queues.specs.OrdersState.{orders_of}
use Rattle.moka_maintenance.proofs.AbsentLemmas.{used_absent}
use Rattle.moka_maintenance.proofs.maintenance.fronts.touch_ticket.Goals as goal

pub returns-in_default : goal.returns-in_default
returns-in_default g c = sym (used_absent c.args.ticket (orders_of c.args.orders.now) (c.in_default.ensures.absent refl))
