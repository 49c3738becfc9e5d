use Rattle.std.proofs.Common.{◌≡◌, ◌∙◌, ◌-◌, ◌+◌, ap, nat_eq, refl, rules, sym}
use Rattle.std.specs.Map.{set_value}
use Rattle.moka_sync_model.specs.Orders.{recharged}
use Rattle.moka_queues.specs.declared.orders.Node.{Node}
use Rattle.moka_queues.specs.Kept.{room_with}
use Rattle.moka_queues.specs.OrdersState.{orders_of}
use Rattle.moka_list.proofs.IdLemmas.{some_parts}
use Rattle.moka_queues.proofs.ChangeLemmas.{recharged_orders, seen, set_seen}
use Rattle.moka_queues.proofs.HighWaterLemmas.{AreCovered-set}
use Rattle.moka_queues.proofs.KeptLemmas.{IsKept-set, charge_in_total, rest_bound}
use Rattle.moka_queues.proofs.orders.Orders.recharge.Goals as goal

pub overflow_sub-self-inside : goal.overflow_sub-self-inside
overflow_sub-self-inside g c = rw c.from.ensures (charge_in_total c.self.invariant.0 c.args.id c.get.result.now c.get.ensures)

pub with_charge-self-inside-requires : goal.with_charge-self-inside-requires
with_charge-self-inside-requires g c = rest_bound c.self.invariant.0 c.from.result

pub invariant_of-self : goal.invariant_of-self
invariant_of-self g c =
    let n = c.update.ensures.0 in
    let stood = c.update.ensures.2 in
    let call = c.update.ensures.3 in
    let is : c.update.ensures.1 ≡ record n { charge = c.args.weight } = search rules in
    let m : Node = record n { charge = c.args.weight } in
    let same : c.get.result.now ≡ n = some_parts c.get.result.now n (sym c.get.ensures ∙ stood) in
    rw (c.update.ensures.4, is) (
      IsKept-set c.self.invariant.0 c.args.id n stood m refl refl c.with_charge-self-inside.ensures.small
          c.with_charge-self-inside.result
          (c.with_charge-self-inside.ensures.value
          ∙ ap (λ w. c.self.inside.total - w + c.args.weight) (c.from.ensures ∙ ap (λ k. k.charge) same)),
      AreCovered-set c.self.inside.access.items c.self.inside.high_water c.self.invariant.1 c.args.id n m stood refl,
    )

pub returns-clause-step : goal.returns-clause-step
returns-clause-step g c =
    let old = c.self.inside in
    let first = c.update.ensures.0 in
    let call = c.update.ensures.3 in
    let is : c.update.ensures.1 ≡ record first { charge = c.args.weight } = search rules in
    let room = room_with old.access.ids old.writes.capacity old.access.room in
    rw (← c.self.view_is, c.update.ensures.4, is)
    (λ n stood.
    set_seen c.self.invariant.0 room c.args.id first c.update.ensures.2 (record first { charge = c.args.weight }) refl
    ∙ ap (λ m. record (seen old.access.items old.writes.ids room) {
      nodes = set_value (nat_eq c.args.id) old.access.items (record m { charge = c.args.weight });
    }) (some_parts first n (sym c.update.ensures.2 ∙ stood)))

pub returns-clause-orders : goal.returns-clause-orders
returns-clause-orders g c =
    let old = c.self.inside in
    let first = c.update.ensures.0 in
    let call = c.update.ensures.3 in
    let is : c.update.ensures.1 ≡ record first { charge = c.args.weight } = search rules in
    let room = room_with old.access.ids old.writes.capacity old.access.room in
    rw (← c.self.view_is, c.update.ensures.4, is)
    (λ n stood.
    recharged_orders c.self.invariant.0 room c.args.id first c.update.ensures.2 c.args.weight
    ∙ ap (λ m. recharged m.ticket c.args.weight (orders_of (seen old.access.items old.writes.ids room)))
    (some_parts first n (sym c.update.ensures.2 ∙ stood)))
