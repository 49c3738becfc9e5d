use Rattle.std.proofs.Common.{◌≡◌, take}
use Rattle.std.specs.List.{fold}
use Rattle.moka_queues.specs.LoggedReads.{reads_of}
use Rattle.moka_core.specs.MapTurn.{touched_by}
use Rattle.moka_core.proofs.map.Map.touch_all.Given as goal

-- the entries of the reads before this one were used, and the reads are the same
abbrev pub invariant-loop-logged : goal.invariant-loop-logged
invariant-loop-logged g l =
    (l.self ≡ record l.fn.self { entries = fold touched_by l.fn.self.entries (take l.logged-index (reads_of l.fn.reads)) })
    × (reads_of l.reads ≡ reads_of l.fn.reads)
