use Rattle.std.proofs.Common.{◌≡◌, ℕ, [], false, true, nat_eq, IsNone, None, Some, rules, sym}
use Rattle.std.proofs.lemmas.Option.{IfSome_then}
use Rattle.std.specs.Map.{lookup}
use Rattle.moka_sync_model.proofs.TicketLemmas.{same_is}
use Rattle.moka_sync_model.specs.Orders.{charge_of}
use Rattle.moka_sync_model.specs.Ticket.{same_ticket}
use Rattle.moka_queues.specs.OrdersState.{access_of}
use Rattle.moka_queues.specs.declared.orders.Node.{Node}
use Rattle.moka_queues.specs.Kept.{room_with}
use Rattle.moka_queues.proofs.ChangeLemmas.{node_of}
use Rattle.moka_queues.proofs.FindLemmas.{none_of_ticket, other_ticket, IsSought}
use Rattle.moka_queues.proofs.WrittenLemmas.{ticket_unwritten}
use Rattle.moka_queues.proofs.orders.Orders.find.Goals.{After-find}
use Rattle.moka_queues.proofs.orders.Orders.find.Goals as goal

-- where none is found, no node has the ticket
none : (g : _) (c : After-find g) → IsNone c.find.result → (id : ℕ) (n : Node)
    → lookup (nat_eq id) c.self.inside.access.items ≡ Some n → same_ticket c.args.ticket n.ticket ≡ false
none g c absent id n stands =
    other_ticket c.args.ticket n
    (λ own.
    let call = c.find.ensures.absent absent id n stands own in
    let failed : IsSought c.args.ticket n false = search rules in failed)

-- so nothing is charged for it
uncharged : (g : _) (c : After-find g) → IsNone c.find.result
    → charge_of c.args.ticket (record { access = access_of c.self.inside.access.items; write = [] }) ≡ None
uncharged g c absent =
    none_of_ticket c.args.ticket c.self.inside.access.items c.self.invariant.0.once (none g c absent) []

pub returns-clause-found : goal.returns-clause-found
returns-clause-found g c =
    let old = c.self.inside in
    IfSome_then c.find.result c.find.ensures.found
    (λ id p.
    let call = p.passed in
    let passed : IsSought c.args.ticket p.element true = search rules in
    let room = room_with old.access.ids old.writes.capacity old.access.room in
    rw (← c.self.view_is)
    (node_of c.self.invariant.0 room id p.element p.stands c.args.ticket
    (same_is p.element.ticket c.args.ticket (sym {b = same_ticket p.element.ticket c.args.ticket} passed))))

pub returns-clause-absent : goal.returns-clause-absent
returns-clause-absent g c =
    rw (← c.self.view_is)
    (λ absent. uncharged g c absent)

pub returns-clause-unwritten : goal.returns-clause-unwritten
returns-clause-unwritten g c =
    rw (← c.self.view_is)
    (λ absent. ticket_unwritten c.self.invariant.0 c.args.ticket []
    (uncharged g c absent))
