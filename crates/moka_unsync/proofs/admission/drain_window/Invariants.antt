use Rattle.std.proofs.Common.{◌≡◌, ◌-◌, Some, length, option_map}
use Rattle.moka_unsync_model.specs.Contents.{total_weight, window_of}
use Rattle.moka_unsync_model.specs.Shares.{main_limit}
use Rattle.moka_unsync_model.specs.Told.{IsAbove, TellsWhatLeft}
use Rattle.moka_unsync_model.specs.declared.listener.Cause.TheVariants.{Size}
use Rattle.moka_unsync_model.specs.Cleanup.{least_recent}
use Rattle.moka_unsync_model.specs.Window.{after_candidates, after_judgements}
use Rattle.moka_store.specs.Store.{Continues, contents_of, entries_of}
use Rattle.moka_unsync.proofs.admission.drain_window.Given as goal

abbrev pub invariant-loop-shortfall : goal.invariant-loop-shortfall
invariant-loop-shortfall g l =
    (after_candidates g.K.PartialEq.eq l.limits l.sketch (least_recent l.shortfall (window_of (entries_of l.store))) (contents_of l.store)
    ≡ after_candidates g.K.PartialEq.eq l.limits l.sketch (least_recent l.fn.enough (window_of (entries_of l.fn.store))) (contents_of l.fn.store))
    × (l.shortfall - total_weight (least_recent l.shortfall (window_of (entries_of l.store)))
    ≡ l.fn.enough - total_weight (least_recent l.fn.enough (window_of (entries_of l.fn.store)))) × Continues l.fn.store l.store
    × TellsWhatLeft g.L.Listener.hears Size (λ e. IsAbove (Some (main_limit l.limits)) (total_weight (entries_of l.fn.store))) (entries_of l.fn.store)
    (entries_of l.store) l.fn.listener l.listener
    × (option_map (after_judgements g.K.PartialEq.eq l.limits l.sketch (least_recent l.shortfall (window_of (entries_of l.store)))
    (contents_of l.store)) l.memory
    ≡ option_map (after_judgements g.K.PartialEq.eq l.limits l.sketch (least_recent l.fn.enough (window_of (entries_of l.fn.store))) (contents_of l.fn.store))
    l.fn.memory)

abbrev pub decreases-loop-shortfall : goal.decreases-loop-shortfall
decreases-loop-shortfall g l = length (window_of (entries_of l.store))
