use Rattle.std.proofs.Common.{◌∙◌}
use Rattle.slab.proofs.DrainLemmas.{length-values}
use Rattle.moka_shard.proofs.SlotLemmas.{valid}
use Rattle.moka_shard.proofs.shard.Shard.len.Goals as goal

pub returns-clause-len : goal.returns-clause-len
returns-clause-len g c = rw (← c.self.view_is) (c.len.ensures ∙ length-values c.self.inside.slots.slots)

pub returns-clause-valid : goal.returns-clause-valid
returns-clause-valid g c = rw (← c.self.view_is) (valid _ c.self.invariant.0)
