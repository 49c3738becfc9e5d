use Rattle.std.proofs.Common.{◌∙◌, ap, sym, subst, ◌<◌, ◌+◌, ◌-◌, ◌^◌}
use Rattle.std.specs.List.{IsDistinct}
use Rattle.moka_unsync_model.specs.Contents.{entry_keys, total_weight}
use Rattle.moka_store.specs.Store.{entries_of}
use Rattle.moka_store.proofs.NodeLemmas.{keys_once}
use Rattle.moka_store.proofs.WeightLemmas.{weight-all, weight-small}
use Rattle.moka_store.proofs.store.Store.weight.Goals as goal

pub returns-clause-value : goal.returns-clause-value
returns-clause-value g c =
    ap (λ w. w.all) c.self.invariant.0.weighed
    ∙ (weight-all c.self.inside.entries.items ∙ ap (λ v. total_weight (entries_of v)) c.self.view_is)

pub returns-clause-small : goal.returns-clause-small
returns-clause-small g c =
    subst (λ t. t + (2 ^ 32 - 1) < 2 ^ 64) (sym (ap (λ w. w.all) c.self.invariant.0.weighed))
    (weight-small c.self.inside.entries.items c.self.invariant.0.few c.self.invariant.0.small)

pub returns-clause-once : goal.returns-clause-once
returns-clause-once g c =
    subst (λ s. IsDistinct g.K.PartialEq.eq (entry_keys (entries_of s))) c.self.view_is (keys_once c.self.invariant.0.keyed)
