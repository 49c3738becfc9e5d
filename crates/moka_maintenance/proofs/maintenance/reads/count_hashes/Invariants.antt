use Rattle.std.proofs.Common.{◌≡◌, take}
use Rattle.std.specs.List.{fold}
use Rattle.moka_queues.specs.LoggedReads.{reads_of}
use Rattle.moka_maintenance.specs.Taken.{counted}
use Rattle.moka_maintenance.proofs.maintenance.reads.count_hashes.Given as goal

-- the hashes of the reads before this one are counted
abbrev pub invariant-loop-logged : goal.invariant-loop-logged
invariant-loop-logged g l = l.sketch ≡ fold counted l.fn.sketch (reads_of (take l.logged-index l.reads))
