use Rattle.std.proofs.Common.{◌≡◌, subst, sym, true}
use Rattle.moka_list.specs.HashIndex.{is_candidate}
use Rattle.moka_list.proofs.StandsLemmas.{candidate_below}
use Rattle.moka_list.proofs.hash_index.HashIndex.ids.Goals as goal

pub returns-clause-below : goal.returns-clause-below
returns-clause-below g c =
    λ hash id found.
    candidate_below c.self.inside.groups.items c.self.inside.ids c.self.inside.far hash id c.self.invariant
    (subst (λ v. is_candidate v hash id ≡ true) (sym c.self.view_is) found)
