use Rattle.std.specs.Prelude.{option_map}
use Rattle.std.proofs.Common.{[], ◌∷◌, Some}
use Rattle.moka_unsync_model.specs.Step.{Found, Peek}
use Rattle.moka_segments.proofs.CallLemmas.{call_of}
use Rattle.moka_segments.proofs.call.peek.Given as goal

abbrev pub ghosts-leave : goal.ghosts-leave
ghosts-leave g a = record {
  entry = Some (call_of a._about.0.value (Peek a._about.2.now a._about.3) (Found (option_map (λ s. s.value) a._about.4)) a._about.1.value ∷ []);
}
