use Rattle.moka_record.proofs.RecordLemmas.{new_rests, Replays-new}
use Rattle.moka_record.proofs.record.Record.new.Goals as goal

pub invariant_of-result : goal.invariant_of-result
invariant_of-result g c = new_rests _ c.requires.new

pub returns-clause-replays : goal.returns-clause-replays
returns-clause-replays g c =
    Replays-new _ _ _ _ _ c.requires.new c.first_ticket-first_ticket.ensures c.new.ensures.items
