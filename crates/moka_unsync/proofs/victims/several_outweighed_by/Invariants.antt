use Rattle.std.proofs.Common.{length}
use Rattle.moka_common.specs.Sketch.{estimate}
use Rattle.moka_store.specs.Store.{entries_of}
use Rattle.moka_unsync.proofs.AdmissionLemmas.{IsMainWalk}
use Rattle.moka_unsync.proofs.victims.several_outweighed_by.Given as goal

abbrev pub invariant-loop-victims_frequency : goal.invariant-loop-victims_frequency
invariant-loop-victims_frequency g l =
    IsMainWalk (λ e. estimate l.fn.sketch e.hash) l.fn.new.weight (entries_of l.fn.store) l.entries l.count l.shortfall l.victims_frequency

abbrev pub decreases-loop-victims_frequency : goal.decreases-loop-victims_frequency
decreases-loop-victims_frequency g l = length l.entries
