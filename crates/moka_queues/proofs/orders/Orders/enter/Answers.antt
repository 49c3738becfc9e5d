use Rattle.std.proofs.Common.{◌≡◌, ◌∙◌, ap, false, refl, sym, true}
use Rattle.moka_common.specs.Settings.{keeps_writes}
use Rattle.moka_sync_model.specs.Orders.{with_node}
use Rattle.moka_queues.specs.declared.orders.Node.{Node}
use Rattle.moka_queues.specs.Kept.{room_with}
use Rattle.moka_queues.specs.OrdersState.{orders_of}
use Rattle.moka_queues.proofs.ChangeLemmas.{none_in, seen, unwritten_entered, written_entered}
use Rattle.moka_queues.proofs.HighWaterLemmas.{AreCovered-enter}
use Rattle.moka_queues.proofs.KeptLemmas.{IsKept-unwritten, IsKept-written, total_bound}
use Rattle.moka_queues.proofs.orders.Orders.enter.Goals as goal

pub with_charge-self-inside-requires : goal.with_charge-self-inside-requires
with_charge-self-inside-requires g c = total_bound c.self.invariant.0

pub invariant_of-self : goal.invariant_of-self
invariant_of-self g c =
    let old = c.self.inside in
    let id = c.push_reserved-id.result in
    let fresh = c.push_reserved-id.ensures.new_id in
    let m : Node =
    record { ticket = c.args.ticket; charge = c.args.charge; is_present = false; is_written = c.has_time_to_live-is_written.result } in
    rw (c.push_reserved-id.ensures.items, c.with_charge-self-inside.ensures.value) (
      IsKept-unwritten c.self.invariant.0 id m fresh
          (none_in c.self.invariant.0 _ c.args.self.now c.self.view_is c.args.ticket c.requires.absent)
          c.with_charge-self-inside.ensures.small c.if-not-is_written.true,
      AreCovered-enter old.access.items old.high_water c.self.invariant.1 id m c.rise_to.new.self fresh c.rise_to.ensures.covers
          c.rise_to.ensures.kept,
    )

pub invariant_of-self-2 : goal.invariant_of-self-2
invariant_of-self-2 g c =
    let old = c.self.inside in
    let id = c.push_reserved-id.result in
    let fresh = c.push_reserved-id.ensures.new_id in
    let m : Node =
    record { ticket = c.args.ticket; charge = c.args.charge; is_present = false; is_written = c.has_time_to_live-is_written.result } in
    rw (c.push_reserved-id.ensures.items, c.push_back.ensures.ids, c.with_charge-self-inside.ensures.value) (
      IsKept-written c.self.invariant.0 id m fresh
          (none_in c.self.invariant.0 _ c.args.self.now c.self.view_is c.args.ticket c.requires.absent)
          c.with_charge-self-inside.ensures.small c.if-not-is_written.false,
      AreCovered-enter old.access.items old.high_water c.self.invariant.1 id m c.rise_to.new.self fresh c.rise_to.ensures.covers
          c.rise_to.ensures.kept,
    )

pub returns-then-not-is_written-clause-step : goal.returns-then-not-is_written-clause-step
returns-then-not-is_written-clause-step g c =
    rw (← c.self.view_is) (record {
      id = c.push_reserved-id.result;
      node = _;
      nodes = c.push_reserved-id.ensures.items;
      of_ticket = refl;
      charges = refl;
      new_id = c.push_reserved-id.ensures.new_id;
    })

pub returns-then-not-is_written-clause-orders : goal.returns-then-not-is_written-clause-orders
returns-then-not-is_written-clause-orders g c =
    let old = c.self.inside in
    let room = room_with old.access.ids old.writes.capacity old.access.room in
    let unkept : false ≡ keeps_writes c.args.limits.now = sym c.if-not-is_written.true ∙ c.has_time_to_live-is_written.ensures in
    rw (← c.self.view_is, c.push_reserved-id.ensures.items)
    (unwritten_entered c.self.invariant.0 room 0 c.push_reserved-id.result _ c.push_reserved-id.ensures.new_id
    ∙ ap (λ b. with_node b c.args.ticket c.args.charge (orders_of (seen old.access.items old.writes.ids room))) unkept)

pub returns-clause-orders : goal.returns-clause-orders
returns-clause-orders g c =
    let old = c.self.inside in
    let room = room_with old.access.ids old.writes.capacity old.access.room in
    let kept : true ≡ keeps_writes c.args.limits.now = sym c.if-not-is_written.false ∙ c.has_time_to_live-is_written.ensures in
    rw (← c.self.view_is, c.push_reserved-id.ensures.items, c.push_back.ensures.ids)
    (written_entered c.self.invariant.0 room 0 c.push_reserved-id.result _ c.push_reserved-id.ensures.new_id
    ∙ ap (λ b. with_node b c.args.ticket c.args.charge (orders_of (seen old.access.items old.writes.ids room))) kept)
