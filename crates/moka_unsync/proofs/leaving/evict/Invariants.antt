use Rattle.std.proofs.Common.{◌≡◌, ◌<◌, ◌≤◌, ◌+◌, ℕ}
use Rattle.moka_unsync_model.specs.Told.{TellsWhatLeft}
use Rattle.moka_unsync_model.specs.declared.listener.Cause.TheVariants.{Size}
use Rattle.moka_store.specs.Store.{Continues, contents_of, entries_of}
use Rattle.moka_unsync.specs.Turns.{WindowStands, after_eviction_of}
use Rattle.moka_unsync.proofs.leaving.evict.Given as goal

abbrev pub invariant-loop-left : goal.invariant-loop-left
invariant-loop-left g l =
    ((more : ℕ) → after_eviction_of g.K.PartialEq.eq (l.fn.count + more) (contents_of l.fn.store)
    ≡ after_eviction_of g.K.PartialEq.eq (l.left + more) (contents_of l.store)) × Continues l.fn.store l.store × (l.left ≤ l.fn.count)
    × TellsWhatLeft g.L.Listener.hears Size (λ e. 0 < l.fn.count) (entries_of l.fn.store) (entries_of l.store) l.fn.listener l.listener
    × WindowStands l.fn.store l.store

abbrev pub decreases-loop-left : goal.decreases-loop-left
decreases-loop-left g l = l.left
