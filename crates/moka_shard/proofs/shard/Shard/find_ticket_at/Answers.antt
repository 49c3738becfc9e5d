use Rattle.std.proofs.Common.{◌≡◌, ◌∙◌, Some, ap, sym}
use Rattle.moka_sync_model.specs.declared.ticket.Ticket.{Ticket}
use Rattle.moka_sync_model.specs.Entry.{entry_of}
use Rattle.moka_sync_model.proofs.TicketLemmas.{same_is}
use Rattle.moka_shard.specs.Shard.{entries_in, entry_in}
use Rattle.moka_shard.proofs.SlotLemmas.{entry_of-is, valid}
use Rattle.moka_shard.proofs.shard.Shard.find_ticket_at.Goals as goal

pub returns-then-eq-clause-value : goal.returns-then-eq-clause-value
returns-then-eq-clause-value g c =
    let entry = c.in-Some.entry.now in
    let same : entry.ticket ≡ c.args.ticket =
    sym c.ticket.ensures ∙ same_is c.ticket.result c.args.ticket (sym (c.if-eq.ensures {u = tt})) in
    let slots = c.self.inside.slots.slots in
    let there : entry_in slots c.args.slot ≡ Some entry = sym (c.in-Some.ensures {u = tt}) in
    let is = entry_of-is _ c.self.invariant.0 c.args.slot entry there in
    rw (← c.self.view_is) (there ∙ sym is ∙ ap (λ (t : Ticket). entry_of t (entries_in slots)) same)

pub returns-then-eq-clause-valid : goal.returns-then-eq-clause-valid
returns-then-eq-clause-valid g c =
    rw (← c.self.view_is) (valid _ c.self.invariant.0)
