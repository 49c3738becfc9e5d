use Rattle.moka_list.specs.HashIndex.{is_candidate}
use Rattle.std.proofs.Common.{◌≡◌, subst, sym, true}
use Rattle.moka_sync_model.specs.declared.ticket.Ticket.{Ticket}
use Rattle.moka_shard.proofs.SlotLemmas.{invalidation_at, removed, valid}
use Rattle.moka_shard.proofs.shard.Shard.remove.Goals as goal

pub remove-requires : goal.remove-requires
remove-requires g c =
    subst (λ (t : Ticket). is_candidate c.self.inside.index t.hash c.args.slot ≡ true) (sym c.ticket-ticket.ensures)
    (c.self.invariant.1.listed c.args.slot c.remove-entry.result c.remove-entry.ensures.value)

pub invariant_of-self : goal.invariant_of-self
invariant_of-self g c =
    rw c.remove-entry.ensures.slots
    (removed _ g.P.PairRule.holds c.self.invariant c.args.slot c.remove-entry.result c.remove-entry.ensures.value c.remove.new.self c.remove.ensures.step)

pub returns-clause-step : goal.returns-clause-step
returns-clause-step g c =
    rw (← c.self.view_is)
    (invalidation_at _ _ c.self.invariant.0 c.args.slot c.remove-entry.result c.remove-entry.ensures.value c.ticket-ticket.result
    c.remove-entry.new.self.slots c.ticket-ticket.ensures c.remove-entry.ensures.slots)

pub returns-clause-valid : goal.returns-clause-valid
returns-clause-valid g c =
    rw c.remove-entry.ensures.slots
    (valid _ (removed _ g.P.PairRule.holds c.self.invariant c.args.slot c.remove-entry.result c.remove-entry.ensures.value c.remove.new.self
    c.remove.ensures.step).0)
