use Rattle.std.proofs.Common.{◌≡◌, ◌∙◌, ap, arith, nat_eq, refl, rules, sym}
use Rattle.std.specs.Map.{set_value}
use Rattle.moka_list.proofs.IdLemmas.{some_parts}
use Rattle.moka_queues.specs.Kept.{room_with}
use Rattle.moka_queues.specs.declared.orders.Node.{Node}
use Rattle.moka_queues.proofs.ChangeLemmas.{marked_orders, seen, set_seen}
use Rattle.moka_queues.proofs.HighWaterLemmas.{AreCovered-set}
use Rattle.moka_queues.proofs.KeptLemmas.{IsKept-set, charge_in_total}
use Rattle.moka_queues.proofs.orders.Orders.set_present.Goals as goal

pub invariant_of-self : goal.invariant_of-self
invariant_of-self g c =
    let n = c.update.ensures.0 in
    let stood = c.update.ensures.2 in
    let call = c.update.ensures.3 in
    let is : c.update.ensures.1 ≡ record n { is_present = c.args.is_present } = search rules in
    let m : Node = record n { is_present = c.args.is_present } in
    rw (c.update.ensures.4, is) (
      IsKept-set c.self.invariant.0 c.args.id n stood m refl refl (c.self.invariant.0.small c.args.id n stood) c.self.inside.total
          (omega (arith, charge_in_total c.self.invariant.0 c.args.id n stood)),
      AreCovered-set c.self.inside.access.items c.self.inside.high_water c.self.invariant.1 c.args.id n m stood refl,
    )

pub returns-clause-step : goal.returns-clause-step
returns-clause-step g c =
    let old = c.self.inside in
    let first = c.update.ensures.0 in
    let call = c.update.ensures.3 in
    let is : c.update.ensures.1 ≡ record first { is_present = c.args.is_present } = search rules in
    let room = room_with old.access.ids old.writes.capacity old.access.room in
    rw (← c.self.view_is, c.update.ensures.4, is)
    (λ n stood.
    set_seen c.self.invariant.0 room c.args.id first c.update.ensures.2 (record first { is_present = c.args.is_present }) refl
    ∙ ap (λ m. record (seen old.access.items old.writes.ids room) {
      nodes = set_value (nat_eq c.args.id) old.access.items (record m { is_present = c.args.is_present });
    }) (some_parts first n (sym c.update.ensures.2 ∙ stood)))

pub returns-clause-orders : goal.returns-clause-orders
returns-clause-orders g c =
    let old = c.self.inside in
    let n = c.update.ensures.0 in
    let call = c.update.ensures.3 in
    let is : c.update.ensures.1 ≡ record n { is_present = c.args.is_present } = search rules in
    let room = room_with old.access.ids old.writes.capacity old.access.room in
    rw (← c.self.view_is, c.update.ensures.4, is)
    (marked_orders c.self.invariant.0 room c.args.id n c.update.ensures.2 c.args.is_present)
