use Rattle.std.proofs.Common.{subst, sym}
use Rattle.moka_list.proofs.IdLemmas.{node_at}
use Rattle.moka_list.specs.Nodes.{IsIn}
use Rattle.moka_queues.specs.Kept.{room_with}
use Rattle.moka_queues.proofs.ChangeLemmas.{moved_orders, moved_seen}
use Rattle.moka_queues.proofs.HighWaterLemmas.{AreCovered-moved}
use Rattle.moka_queues.proofs.KeptLemmas.{IsKept-moved}
use Rattle.moka_queues.proofs.orders.Orders.touch.Goals as goal

pub invariant_of-self : goal.invariant_of-self
invariant_of-self g c =
    let old = c.self.inside in
    let here = node_at c.args.id old.access.items (subst (λ v. IsIn v.nodes c.args.id) (sym c.self.view_is) c.requires) in
    rw c.move_to_back.ensures (
      IsKept-moved c.self.invariant.0 c.args.id here.0 here.1,
      AreCovered-moved old.access.items old.high_water c.self.invariant.1 c.args.id here.0 here.1 c.self.invariant.0.once,
    )

pub returns-clause-step : goal.returns-clause-step
returns-clause-step g c =
    let old = c.self.inside in
    let here = node_at c.args.id old.access.items (subst (λ v. IsIn v.nodes c.args.id) (sym c.self.view_is) c.requires) in
    rw (← c.self.view_is, c.move_to_back.ensures)
    (moved_seen c.self.invariant.0 (room_with old.access.ids old.writes.capacity old.access.room) c.args.id here.0 here.1)

pub returns-clause-orders : goal.returns-clause-orders
returns-clause-orders g c =
    let old = c.self.inside in
    rw (← c.self.view_is, c.move_to_back.ensures)
    (moved_orders c.self.invariant.0 (room_with old.access.ids old.writes.capacity old.access.room) c.args.id)
