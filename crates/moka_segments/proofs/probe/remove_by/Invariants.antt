use Rattle.std.proofs.Common.{[], ◌∷◌, Some, None}
use Rattle.moka_common.specs.Keys.{keys_by}
use Rattle.moka_unsync_model.specs.Step.{Remove, Found}
use Rattle.moka_segments.proofs.CallLemmas.{call_of}
use Rattle.moka_segments.proofs.ProbeLemmas.{answered_at, asked_of, entry_there}
use Rattle.moka_segments.proofs.probe.remove_by.Given as goal

abbrev pub ghosts-leave : goal.ghosts-leave
ghosts-leave g a =
    let keys = keys_by (record { eq = g.K.PartialEq.eq; hash_input = g.K.Hash.hash_input }) g.S.BuildHasher g.S.Hasher.Hasher in
    record {
      entry = Some (call_of a._about.0.value (asked_of (λ key. Remove key a._about.3) None a._about.3 (entry_there keys a._about.0.value
          (g.Q.Lookup.stands_for a._about.2) a._about.3)) (answered_at (Found a._about.4.value) (entry_there keys a._about.0.value
          (g.Q.Lookup.stands_for a._about.2) a._about.3)) a._about.1.value ∷ []);
    }
