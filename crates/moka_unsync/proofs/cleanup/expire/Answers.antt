use Rattle.std.proofs.Common.{◌≡◌, true}
use Rattle.moka_unsync_model.specs.Told.{TellsWhatLeft}
use Rattle.moka_unsync_model.specs.Cleanup.{is_expired}
use Rattle.moka_unsync_model.specs.declared.listener.Cause.TheVariants.{Expired}
use Rattle.moka_unsync_model.proofs.ToldLemmas.{then_left, untold}
use Rattle.moka_store.specs.Store.{entries_of}
use Rattle.moka_unsync.proofs.cleanup.expire.Goals.{then-has_time_to_live, else-has_time_to_live}
use Rattle.moka_unsync.proofs.cleanup.expire.Goals as goal

pub returns-then-has_time_to_idle-clause-told : goal.returns-then-has_time_to_idle-clause-told
returns-then-has_time_to_idle-clause-told g c =
    let by_write : TellsWhatLeft g.L.Listener.hears Expired (λ e. is_expired c.args.limits.now c.args.now e ≡ true) (entries_of c.args.store.now)
    (entries_of c.if-has_time_to_live.store) c.args.listener.now c.if-has_time_to_live.listener =
    elim c.if-has_time_to_live.branch [
      | then-has_time_to_live w ↦ rw (w.store-is, w.listener-is) w.expire_by_write.ensures.told
      | else-has_time_to_live w ↦ rw (w.store-is, w.listener-is) untold
    ] in
    then_left by_write c.expire_by_use.ensures.told

pub returns-else-has_time_to_idle-clause-told : goal.returns-else-has_time_to_idle-clause-told
returns-else-has_time_to_idle-clause-told g c =
    elim c.if-has_time_to_live.branch [
      | then-has_time_to_live w ↦ rw (w.store-is, w.listener-is) w.expire_by_write.ensures.told
      | else-has_time_to_live w ↦ rw (w.store-is, w.listener-is) untold
    ]
