use Rattle.std.proofs.Common.{ap}
use Rattle.moka_shard.specs.Shard.{entries_in}
use Rattle.moka_shard.proofs.SlotLemmas.{no_slots, valid}
use Rattle.moka_shard.proofs.shard.Shard.new.Goals as goal

pub returns-clause-valid : goal.returns-clause-valid
returns-clause-valid g c =
    valid _ (no_slots _ c.args.hash_state c.args.number c.args.next_number c.in_ok-slots.slots.slots
    (ap entries_in (c.in_ok-slots.ensures {u = tt}).empty))
