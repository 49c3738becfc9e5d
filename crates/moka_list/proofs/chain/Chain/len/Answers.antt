use Rattle.moka_list.proofs.ItemLemmas.{distinct_from_apart}
use Rattle.moka_list.proofs.chain.Chain.len.Goals as goal

pub returns-clause-distinct : goal.returns-clause-distinct
returns-clause-distinct g c = rw (← c.self.view_is) (distinct_from_apart _ c.self.invariant.threaded.apart)
