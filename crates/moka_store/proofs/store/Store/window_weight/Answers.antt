use Rattle.std.proofs.Common.{◌∙◌, ap, subst, sym, ◌≤◌}
use Rattle.std.specs.Map.{values_of}
use Rattle.moka_unsync_model.specs.Contents.{is_window, total_weight, window_of}
use Rattle.moka_store.specs.Store.{entries_of}
use Rattle.moka_store.proofs.WeightLemmas.{weight-part, weight-values}
use Rattle.moka_store.proofs.store.Store.window_weight.Goals as goal

pub returns-clause-value : goal.returns-clause-value
returns-clause-value g c =
    ap (λ w. w.window) c.self.invariant.0.weighed
    ∙ (weight-values is_window c.self.inside.entries.items ∙ ap (λ v. total_weight (window_of (entries_of v))) c.self.view_is)

pub returns-clause-part : goal.returns-clause-part
returns-clause-part g c =
    subst (λ v. c.self.inside.weights.window ≤ total_weight (entries_of v)) c.self.view_is
    (subst (λ t. t ≤ total_weight (values_of c.self.inside.entries.items)) (sym (ap (λ w. w.window) c.self.invariant.0.weighed))
    (weight-part is_window c.self.inside.entries.items))
