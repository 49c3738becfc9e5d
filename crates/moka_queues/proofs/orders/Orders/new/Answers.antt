use Rattle.std.proofs.Common.{ap}
use Rattle.moka_queues.proofs.HighWaterLemmas.{AreCovered-none}
use Rattle.moka_queues.proofs.KeptLemmas.{IsKept-new}
use Rattle.moka_queues.proofs.orders.Orders.new.Goals as goal

pub invariant_of-result : goal.invariant_of-result
invariant_of-result g c =
    rw (ap (λ l. l.items) c.new.ensures, c.new-2.ensures.ids) (IsKept-new, AreCovered-none c.new-3.result)
