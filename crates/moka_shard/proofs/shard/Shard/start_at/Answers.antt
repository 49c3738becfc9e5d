use Rattle.moka_shard.proofs.SlotLemmas.{empty_slots}
use Rattle.moka_shard.proofs.shard.Shard.start_at.Goals as goal

pub invariant_of-self : goal.invariant_of-self
invariant_of-self g c =
    (empty_slots _ c.self.invariant.0 (rw (← c.self.view_is) at c.requires) c.args.next_number, c.self.invariant.1, c.self.invariant.2)
