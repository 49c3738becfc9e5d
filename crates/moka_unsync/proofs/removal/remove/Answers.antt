use Rattle.std.proofs.Common.{◌∙◌, ◌∷◌, refl, subst, sym}
use Rattle.std.specs.List.Sorted.{IsPermutation}
use Rattle.std.specs.Map.{values_of}
use Rattle.std.proofs.lemmas.List.Sorted.{IsPermutation-refl}
use Rattle.moka_unsync_model.proofs.ToldLemmas.{node_among}
use Rattle.moka_store.specs.Store.{entries_of}
use Rattle.moka_unsync.proofs.RemovalLemmas.{except-absent, except-found}
use Rattle.moka_unsync.proofs.removal.remove.Goals as goal

pub returns-in_err-id-clause-step : goal.returns-in_err-id-clause-step
returns-in_err-id-clause-step g c =
    except-absent (g.Q.Lookup.stands_for c.args.probe) c.args.store.now ((c.in_err-id.ensures {u = tt}).absent refl)
    ((c.in_err-id.ensures {u = tt}).unwritten refl)

pub returns-clause-value : goal.returns-clause-value
returns-clause-value g c =
    let found = (c.in_ok-id.ensures {u = tt}).found in sym c.take.ensures.value ∙ (found.1 ∙ sym found.2)

pub returns-clause-step : goal.returns-clause-step
returns-clause-step g c =
    except-found g.K.PartialEq.eq (g.Q.Lookup.stands_for c.args.probe) (g.met.Q.Lookup.stands_for_equals c.args.probe) c.args.store.now c.take.new.self
    c.in_ok-id.id
    (c.in_ok-id.ensures {u = tt}).found c.take.ensures.step

pub returns-in_err-id-clause-left : goal.returns-in_err-id-clause-left
returns-in_err-id-clause-left g c = rw c.from_residual.ensures (IsPermutation-refl (entries_of c.args.store.now))

pub returns-clause-left : goal.returns-clause-left
returns-clause-left g c =
    subst (λ nodes. IsPermutation (entries_of c.args.store.now) (c.take.result ∷ values_of nodes)) (sym c.take.ensures.step.nodes)
    (node_among c.in_ok-id.id c.take.result c.args.store.now.nodes c.take.ensures.value)
