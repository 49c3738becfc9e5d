use Rattle.std.proofs.Common.{◌≡◌, ◌<◌, ◌≤◌, length}
use Rattle.moka_unsync_model.specs.Cleanup.{least_recent}
use Rattle.moka_unsync_model.specs.Contents.{after_leaving, entry_keys, main_of}
use Rattle.moka_unsync_model.specs.Told.{TellsWhatLeft}
use Rattle.moka_unsync_model.specs.Window.{after_displacing}
use Rattle.moka_unsync_model.specs.declared.listener.Cause.TheVariants.{Size}
use Rattle.moka_store.specs.Store.{Continues, contents_of, entries_of}
use Rattle.moka_unsync.proofs.leaving.give_up.Given as goal

abbrev pub invariant-loop-shortfall : goal.invariant-loop-shortfall
invariant-loop-shortfall g l =
    (after_leaving g.K.PartialEq.eq (entry_keys (least_recent l.shortfall (main_of (entries_of l.store)))) (contents_of l.store)
    ≡ after_leaving g.K.PartialEq.eq (entry_keys (least_recent l.fn.enough (main_of (entries_of l.fn.store)))) (contents_of l.fn.store))
    × (after_displacing l.memory (least_recent l.shortfall (main_of (entries_of l.store)))
    ≡ after_displacing l.fn.memory (least_recent l.fn.enough (main_of (entries_of l.fn.store)))) × Continues l.fn.store l.store
    × (l.shortfall ≤ l.fn.enough)
    × TellsWhatLeft g.L.Listener.hears Size (λ e. 0 < l.fn.enough) (entries_of l.fn.store) (entries_of l.store) l.fn.listener l.listener

abbrev pub decreases-loop-shortfall : goal.decreases-loop-shortfall
decreases-loop-shortfall g l = length (main_of (entries_of l.store))
