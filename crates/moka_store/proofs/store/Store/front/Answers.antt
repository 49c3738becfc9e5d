use Rattle.moka_store.proofs.FrontLemmas.{front_absent, front_is}
use Rattle.moka_store.proofs.store.Store.front.Goals as goal

pub returns-clause-found : goal.returns-clause-found
returns-clause-found g c =
    rw (← c.self.view_is) (front_is g.met.K.Eq.laws _ c.self.invariant.0.keyed c.front.result c.front.ensures)

pub returns-clause-absent : goal.returns-clause-absent
returns-clause-absent g c =
    rw (← c.self.view_is) (λ none. front_absent c.self.inside.entries.items c.self.inside.writes.ids c.front.result c.front.ensures none)

pub returns-clause-order : goal.returns-clause-order
returns-clause-order g c = rw (← c.self.view_is) c.self.invariant.0.order
