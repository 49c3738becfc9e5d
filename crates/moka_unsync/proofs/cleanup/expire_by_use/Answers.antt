use Rattle.moka_unsync_model.proofs.ToldLemmas.{then_left}
use Rattle.std.proofs.Common.{◌∙◌, refl}
use Rattle.moka_unsync_model.specs.Contents.{protected_of}
use Rattle.moka_unsync_model.specs.declared.entry.Part.TheVariants.{Probation, Protected}
use Rattle.moka_unsync_model.specs.Cleanup.{after_idle}
use Rattle.moka_unsync_model.specs.declared.constants.TheConstants.{EVICTION_BATCH_SIZE}
use Rattle.moka_store.specs.Store.{entries_of}
use Rattle.moka_unsync.proofs.cleanup.expire_by_use.Goals as goal

pub returns-clause-step : goal.returns-clause-step
returns-clause-step g c =
    let eq = g.K.PartialEq.eq in
    let policy = c.args.limits.now in
    let now = c.args.now in
    let start = c.args.store.now in
    let window = c.expire_part in
    let probation = c.expire_part-2 in
    let protected = c.expire_part-3 in
    protected.ensures.step
    ∙ ((λ i. after_idle eq policy now EVICTION_BATCH_SIZE
    ((probation.ensures.others Protected refl ∙ window.ensures.others Protected refl) i) (probation.ensures.step i))
    ∙ (λ i. after_idle eq policy now EVICTION_BATCH_SIZE (protected_of (entries_of start))
    (after_idle eq policy now EVICTION_BATCH_SIZE (window.ensures.others Probation refl i) (window.ensures.step i))))

pub returns-clause-told : goal.returns-clause-told
returns-clause-told g c = then_left (then_left c.expire_part.ensures.told c.expire_part-2.ensures.told) c.expire_part-3.ensures.told
