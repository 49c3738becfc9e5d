use Rattle.std.proofs.Common.{◌∙◌, ◌+◌, ◌-◌, ap, max, sym}
use Rattle.moka_unsync_model.specs.Contents.{is_window}
use Rattle.moka_store.specs.Store.{entries_of}
use Rattle.moka_unsync.proofs.WindowLemmas.{excess-push}
use Rattle.moka_unsync.proofs.admission.excess.Goals as goal

pub returns : goal.returns
returns g c new waits weight =
    c.max.ensures
    ∙ ((λ i. max
    ((c.saturating_sub-above_share.ensures
    ∙ (λ j. c.window_weight.ensures.value j + (c.from-2.ensures ∙ sym weight) j - c.args.limits.now.window)) i)
    ((c.saturating_sub.ensures ∙ (λ j. c.weight.ensures.value j + (c.from.ensures ∙ sym weight) j - c.args.limits.now.all)) i))
    ∙ sym (excess-push c.args.limits.now new (entries_of c.args.store.now) (ap is_window waits)))
