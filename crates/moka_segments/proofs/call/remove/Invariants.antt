use Rattle.std.proofs.Common.{[], ◌∷◌, Some}
use Rattle.moka_unsync_model.specs.Step.{Found, Remove}
use Rattle.moka_segments.proofs.CallLemmas.{call_of}
use Rattle.moka_segments.proofs.call.remove.Given as goal

abbrev pub ghosts-leave : goal.ghosts-leave
ghosts-leave g a = record {
  entry = Some (call_of a._about.0.value (Remove a._about.2.now a._about.3) (Found a._about.4.value) a._about.1.value ∷ []);
}
