use Rattle.std.proofs.Common.{refl}
use Rattle.moka_store.proofs.FrontLemmas.{oldest_is, oldest_none}
use Rattle.moka_store.proofs.store.Store.oldest_write.Goals as goal

pub returns-clause-found : goal.returns-clause-found
returns-clause-found g c =
    rw (← c.self.view_is)
    (oldest_is g.met.K.Eq.laws _ c.self.inside.writes.ids c.self.invariant.0.keyed c.self.invariant.0.written refl c.front.result c.front.ensures)

pub returns-clause-absent : goal.returns-clause-absent
returns-clause-absent g c =
    rw (← c.self.view_is) (λ none. oldest_none c.self.inside.entries.items c.self.inside.writes.ids c.front.result c.front.ensures none)
