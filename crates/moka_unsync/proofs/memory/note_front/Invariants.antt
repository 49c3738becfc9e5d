use Rattle.std.proofs.Common.{◌≡◌, ◌++◌, fold, map, take}
use Rattle.moka_unsync_model.specs.Contents.{main_of, window_of}
use Rattle.moka_unsync_model.specs.Memory.{after_note}
use Rattle.moka_store.specs.Store.{entries_of}
use Rattle.moka_unsync.proofs.memory.note_front.Given as goal

abbrev pub invariant-loop-left : goal.invariant-loop-left
invariant-loop-left g l =
    (l.entries ≡ main_of l.entries ++ window_of l.entries)
    × (fold after_note l.tags (map (λ e. e.hash) (take l.left (main_of l.entries)))
    ≡ fold after_note l.fn.tags (map (λ e. e.hash) (take l.fn.count (main_of (entries_of l.fn.store)))))

abbrev pub decreases-loop-left : goal.decreases-loop-left
decreases-loop-left g l = l.left
