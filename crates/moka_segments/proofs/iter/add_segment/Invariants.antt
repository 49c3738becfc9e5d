use Rattle.std.proofs.Common.{[], ◌∷◌, Some}
use Rattle.moka_unsync_model.specs.Iterate.{pairs_at}
use Rattle.moka_unsync_model.specs.Step.{Iterate, Pairs}
use Rattle.moka_segments.proofs.CallLemmas.{call_of}
use Rattle.moka_segments.proofs.iter.add_segment.Given as goal

abbrev pub ghosts-leave : goal.ghosts-leave
ghosts-leave g a = record {
  entry = Some (call_of a._about.0.value (Iterate a._about.2) (Pairs (pairs_at a._about.0.value a._about.2)) a._about.1.value ∷ []);
}
