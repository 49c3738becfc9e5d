use Rattle.moka_store.proofs.NodeLemmas.{keys_once}
use Rattle.moka_store.proofs.store.Store.next.Goals as goal

pub returns-clause-once : goal.returns-clause-once
returns-clause-once g c = rw (← c.self.view_is) (keys_once c.self.invariant.0.keyed)
