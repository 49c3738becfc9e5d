use Rattle.std.proofs.Common.{◌∙◌, [], sym}
use Rattle.moka_sync_model.proofs.TicketLemmas.{same_is}
use Rattle.moka_queues.specs.Kept.{room_with}
use Rattle.moka_queues.proofs.ChangeLemmas.{node_of}
use Rattle.moka_queues.proofs.HighWaterLemmas.{none_above}
use Rattle.moka_queues.proofs.WrittenLemmas.{ticket_unwritten}
use Rattle.moka_queues.proofs.orders.Orders.find_at.Goals as goal

pub returns-then-eq-clause-found : goal.returns-then-eq-clause-found
returns-then-eq-clause-found g c =
    let old = c.self.inside in
    let node = c.get.result.now in
    let room = room_with old.access.ids old.writes.capacity old.access.room in
    rw (← c.self.view_is)
    (node_of c.self.invariant.0 room c.from_number-id.result node c.get.ensures c.args.ticket
    (same_is node.ticket c.args.ticket (sym c.eq.ensures ∙ c.if-eq.true)))

pub returns-then-is_below-clause-absent : goal.returns-then-is_below-clause-absent
returns-then-is_below-clause-absent g c =
    let old = c.self.inside in
    rw (← c.self.view_is)
    (λ _. none_above old.access.items old.high_water c.self.invariant.1 c.args.ticket (c.is_below.ensures c.if-is_below.true)
    c.self.invariant.0.once [])

pub returns-then-is_below-clause-unwritten : goal.returns-then-is_below-clause-unwritten
returns-then-is_below-clause-unwritten g c =
    let old = c.self.inside in
    rw (← c.self.view_is)
    (λ _. ticket_unwritten c.self.invariant.0 c.args.ticket []
    (none_above old.access.items old.high_water c.self.invariant.1 c.args.ticket (c.is_below.ensures c.if-is_below.true)
    c.self.invariant.0.once []))
