use Rattle.moka_list.proofs.ListingLemmas.{lists-grown}
use Rattle.moka_list.proofs.chain.ids.IdList.reserve.Goals as goal

pub invariant_of-self : goal.invariant_of-self
invariant_of-self g c = (lists-grown c.self.inside.len c.self.invariant c.reserve.ensures.step).0

pub returns-clause-ids : goal.returns-clause-ids
returns-clause-ids g c = rw (← c.self.view_is) (lists-grown c.self.inside.len c.self.invariant c.reserve.ensures.step).1
