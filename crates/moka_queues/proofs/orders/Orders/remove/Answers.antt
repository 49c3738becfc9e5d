use Rattle.std.proofs.Common.{◌≡◌, ◌∙◌, ◌-◌, ap, nat_eq, subst, sym}
use Rattle.std.specs.Map.{remove_entry}
use Rattle.moka_list.specs.IdList.{ids_without}
use Rattle.moka_list.proofs.IdListLemmas.{without-unlisted}
use Rattle.moka_list.proofs.IdLemmas.{some_parts}
use Rattle.moka_sync_model.specs.Orders.{without_node}
use Rattle.moka_queues.specs.Kept.{IsKept, room_with}
use Rattle.moka_queues.specs.OrdersState.{orders_of}
use Rattle.moka_queues.proofs.ChangeLemmas.{seen, removed_orders}
use Rattle.moka_queues.proofs.KeptLemmas.{IsKept-remove, charge_in_total}
use Rattle.moka_queues.proofs.HighWaterLemmas.{AreCovered-remove}
use Rattle.moka_queues.proofs.orders.Orders.remove.Goals.{Else-node}
use Rattle.moka_queues.proofs.orders.Orders.remove.Goals as goal

-- a node that isn't written is not listed
unlisted : (g : _) (c : Else-node g) → ids_without c.args.id c.self.inside.writes.ids ≡ c.self.inside.writes.ids
unlisted g c =
    without-unlisted c.args.id c.self.inside.writes.ids
    (c.self.invariant.0.flagged c.args.id c.remove-node.result c.remove-node.ensures.value ∙ c.if-node.false)

pub overflow_sub-self : goal.overflow_sub-self
overflow_sub-self g c = rw c.from.ensures (charge_in_total c.self.invariant.0 c.args.id c.remove-node.result c.remove-node.ensures.value)

pub invariant_of-self : goal.invariant_of-self
invariant_of-self g c =
    let n = c.remove-node.result in
    rw (c.remove-node.ensures.items, c.remove.ensures.ids, c.from.ensures) (
      IsKept-remove c.self.invariant.0 c.args.id n c.remove-node.ensures.value,
      AreCovered-remove c.self.inside.access.items c.self.inside.high_water c.self.invariant.1 c.args.id c.self.invariant.0.once,
    )

pub invariant_of-self-else-node : goal.invariant_of-self-else-node
invariant_of-self-else-node g c =
    let old = c.self.inside in
    let n = c.remove-node.result in
    rw (c.remove-node.ensures.items, c.from.ensures) (
      subst (λ ids. IsKept (remove_entry (nat_eq c.args.id) old.access.items) ids (old.total - n.charge)) (unlisted g c)
          (IsKept-remove c.self.invariant.0 c.args.id n c.remove-node.ensures.value),
      AreCovered-remove old.access.items old.high_water c.self.invariant.1 c.args.id c.self.invariant.0.once,
    )

pub returns-then-node-clause-orders : goal.returns-then-node-clause-orders
returns-then-node-clause-orders g c =
    let old = c.self.inside in
    let first = c.remove-node.result in
    let room = room_with old.access.ids old.writes.capacity old.access.room in
    rw (← c.self.view_is, c.remove-node.ensures.items, c.remove.ensures.ids)
    (λ n stood.
    removed_orders c.self.invariant.0 room c.args.id first c.remove-node.ensures.value 0
    ∙ ap (λ m. without_node m.ticket (orders_of (seen old.access.items old.writes.ids room)))
    (some_parts first n (sym c.remove-node.ensures.value ∙ stood)))

pub returns-else-node-clause-orders : goal.returns-else-node-clause-orders
returns-else-node-clause-orders g c =
    let old = c.self.inside in
    let first = c.remove-node.result in
    let room = room_with old.access.ids old.writes.capacity old.access.room in
    rw (← c.self.view_is, c.remove-node.ensures.items)
    (λ n stood.
    ap (λ ids. orders_of (seen (remove_entry (nat_eq c.args.id) old.access.items) ids 0)) (sym (unlisted g c))
    ∙ (removed_orders c.self.invariant.0 room c.args.id first c.remove-node.ensures.value 0
    ∙ ap (λ m. without_node m.ticket (orders_of (seen old.access.items old.writes.ids room)))
    (some_parts first n (sym c.remove-node.ensures.value ∙ stood))))
