use Rattle.std.proofs.Common.{◌<◌, ◌^◌, ◌∙◌, ap, length, subst, sym}
use Rattle.std.proofs.lemmas.Map.Entries.{length-values_of}
use Rattle.moka_store.proofs.store.Store.iter.Goals as goal

pub returns-clause-few : goal.returns-clause-few
returns-clause-few g c =
    subst (λ n. n < 2 ^ 32) (sym (ap length c.iter.ensures ∙ length-values_of c.self.inside.entries.items)) c.self.invariant.0.few

pub returns-clause-order : goal.returns-clause-order
returns-clause-order g c = rw (← c.self.view_is) c.self.invariant.0.order
