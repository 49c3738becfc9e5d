use Rattle.std.proofs.Common.{subst, sym}
use Rattle.moka_store.specs.Store.{AreCandidates}
use Rattle.moka_store.proofs.FindLemmas.{are_candidates}
use Rattle.moka_store.proofs.store.Store.candidates.Goals as goal

pub returns : goal.returns
returns g c =
    subst (AreCandidates c.args.self.now c.args.hash) (sym c.candidates.ensures)
    (rw (← c.self.view_is) (are_candidates _ c.self.inside.index c.args.hash c.self.invariant.0.indexed))
