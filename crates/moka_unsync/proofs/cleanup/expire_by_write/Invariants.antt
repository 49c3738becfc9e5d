use Rattle.std.proofs.Common.{◌≡◌, true}
use Rattle.moka_unsync_model.specs.Cleanup.{after_live_expiry, is_expired}
use Rattle.moka_unsync_model.specs.declared.constants.TheConstants.{EVICTION_BATCH_SIZE}
use Rattle.moka_unsync_model.specs.Told.{TellsWhatLeft}
use Rattle.moka_unsync_model.specs.declared.listener.Cause.TheVariants.{Expired}
use Rattle.moka_store.specs.Store.{Continues, contents_of, entries_of}
use Rattle.moka_unsync.proofs.cleanup.expire_by_write.Given as goal

abbrev pub invariant-loop-left : goal.invariant-loop-left
invariant-loop-left g l =
    (after_live_expiry g.K.PartialEq.eq l.limits l.now l.left (contents_of l.store) ≡ after_live_expiry g.K.PartialEq.eq l.limits l.now
    EVICTION_BATCH_SIZE (contents_of l.fn.store)) × Continues l.fn.store l.store
    × TellsWhatLeft g.L.Listener.hears Expired (λ e. is_expired l.limits l.now e ≡ true) (entries_of l.fn.store) (entries_of l.store) l.fn.listener l.listener

abbrev pub decreases-loop-left : goal.decreases-loop-left
decreases-loop-left g l = l.left
