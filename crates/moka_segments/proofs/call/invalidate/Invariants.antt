use Rattle.std.proofs.Common.{[], ◌∷◌, Some}
use Rattle.moka_unsync_model.specs.Step.{Done, Invalidate}
use Rattle.moka_segments.proofs.CallLemmas.{call_of}
use Rattle.moka_segments.proofs.call.invalidate.Given as goal

abbrev pub ghosts-leave : goal.ghosts-leave
ghosts-leave g a = record {
  entry = Some (call_of a._about.0.value (Invalidate a._about.2.now a._about.3) Done a._about.1.value ∷ []);
}
