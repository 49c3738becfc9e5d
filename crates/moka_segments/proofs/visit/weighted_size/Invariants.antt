use Rattle.std.proofs.Common.{[], ◌∷◌, Some}
use Rattle.moka_unsync_model.specs.Step.{Number, WeightedSize}
use Rattle.moka_segments.proofs.CallLemmas.{call_of}
use Rattle.moka_segments.proofs.visit.weighted_size.Given as goal

abbrev pub ghosts-leave : goal.ghosts-leave
ghosts-leave g a = record {
  entry = Some (call_of a._about.0.value WeightedSize (Number a._about.2) a._about.1.value ∷ []);
}
