use Rattle.std.proofs.Common.{◌≡◌, ◌∙◌, Ok, Some, ap}
use Rattle.std.specs.Option.{option_map}
use Rattle.moka_shard.specs.Shard.{entry_found}
use Rattle.moka_shard.proofs.FindLemmas.{found_is, shown}
use Rattle.moka_shard.proofs.RuleLemmas.{found_in_slot_meets}
use Rattle.moka_shard.proofs.shard.Shard.get.Given.{Over}
use Rattle.moka_shard.proofs.shard.Shard.get.Goals.{After-ticket}
use Rattle.moka_shard.proofs.shard.Shard.get.Goals as goal

-- the value and the ticket are those of the entry in the slot
of_entry : (g : Over) (c : After-ticket g) → Some (c.in_ok-value.value, c.ticket.result)
    ≡ shown c.args.settings.now c.args.valid_after c.args.now g.K.PartialEq.eq c.args.key.now c.args.self.now.slots
    (entry_found c.args.self.now.slots c.find-slot.result)
of_entry g c =
    ap (λ v. Some (v, c.ticket.result)) (c.in_ok-value.ensures {u = tt} ∙ c.value.ensures)
    ∙ ap (λ t. Some (c.in-Some.entry.now.value, t)) c.ticket.ensures
    ∙ ap (option_map (λ e. (e.value, e.ticket))) (c.in-Some.ensures {u = tt})

pub returns-clause-ruled : goal.returns-clause-ruled
returns-clause-ruled g c =
    found_in_slot_meets g.P.PairRule.holds g.K.PartialEq.eq g.met.K.Eq.laws g.met.P.PairRule.agrees c.args.settings.now
    c.args.valid_after c.args.now c.args.key.now c.args.self.now.slots c.find-slot.result c.find-slot.ensures.same
    c.find-slot.ensures.permitted.ruled (Ok (Some (c.in_ok-value.value, c.ticket.result))) (of_entry g c)

pub returns-clause-value : goal.returns-clause-value
returns-clause-value g c =
    λ its.
    of_entry g c
    ∙ ap (shown c.args.settings.now c.args.valid_after c.args.now g.K.PartialEq.eq c.args.key.now c.args.self.now.slots)
    (c.find-slot.ensures.value its)

pub returns-clause-found : goal.returns-clause-found
returns-clause-found g c =
    found_is c.args.settings.now c.args.valid_after c.args.now g.K.PartialEq.eq c.args.key.now
    c.args.self.now.slots c.find-slot.result c.find-slot.ensures.same _ (of_entry g c)
