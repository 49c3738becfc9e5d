use Rattle.std.proofs.Common.{[], ◌∷◌, Some, option_map}
use Rattle.std.specs.Duration.{as_nanos}
use Rattle.moka_unsync_model.specs.Step.{Insert}
use Rattle.moka_segments.specs.Tells.{answer_of}
use Rattle.moka_segments.proofs.CallLemmas.{call_of}
use Rattle.moka_segments.proofs.call.insert.Given as goal

abbrev pub ghosts-leave : goal.ghosts-leave
ghosts-leave g a = record {
  entry =
      Some (call_of a._about.0.value (Insert a._about.2.value a._about.3.value (option_map as_nanos a._about.4) a._about.5) (answer_of a._about.6)
      a._about.1.value ∷ []);
}
