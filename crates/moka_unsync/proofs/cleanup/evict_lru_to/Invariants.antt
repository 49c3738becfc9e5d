use Rattle.std.proofs.Common.{◌≡◌}
use Rattle.std.specs.Prelude.{⊤}
use Rattle.moka_unsync_model.specs.Cleanup.{after_eviction}
use Rattle.moka_unsync_model.specs.declared.constants.TheConstants.{EVICTION_BATCH_SIZE}
use Rattle.moka_unsync_model.specs.Told.{TellsWhatLeft}
use Rattle.moka_unsync_model.specs.declared.listener.Cause.TheVariants.{Size}
use Rattle.moka_store.specs.Store.{Continues, contents_of, entries_of}
use Rattle.moka_unsync.proofs.cleanup.evict_lru_to.Given as goal

abbrev pub invariant-loop-left : goal.invariant-loop-left
invariant-loop-left g l =
    (after_eviction g.K.PartialEq.eq l.limit l.left (contents_of l.store) ≡ after_eviction g.K.PartialEq.eq l.limit EVICTION_BATCH_SIZE
    (contents_of l.fn.store)) × Continues l.fn.store l.store
    × TellsWhatLeft g.L.Listener.hears Size (λ e. ⊤) (entries_of l.fn.store) (entries_of l.store) l.fn.listener l.listener

abbrev pub decreases-loop-left : goal.decreases-loop-left
decreases-loop-left g l = l.left
