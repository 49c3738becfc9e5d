use Rattle.std.specs.Prelude.{option_map}
use Rattle.std.proofs.Common.{[], ◌∷◌, Some}
use Rattle.moka_common.specs.Keys.{keys_by}
use Rattle.moka_unsync_model.specs.Step.{Get, Found}
use Rattle.moka_segments.proofs.CallLemmas.{call_of}
use Rattle.moka_segments.proofs.ProbeLemmas.{answered_at, asked_of, entry_found}
use Rattle.moka_segments.proofs.probe.get_by.Given as goal

abbrev pub ghosts-leave : goal.ghosts-leave
ghosts-leave g a =
    let keys = keys_by (record { eq = g.K.PartialEq.eq; hash_input = g.K.Hash.hash_input }) g.S.BuildHasher g.S.Hasher.Hasher in
    record {
      entry = Some (call_of a._about.0.value (asked_of (λ key. Get key a._about.4) (Some a._about.3) a._about.4 (entry_found keys a._about.0.value
          (g.Q.Lookup.stands_for a._about.2) a._about.4)) (answered_at (Found (option_map (λ s. s.value) a._about.5)) (entry_found keys a._about.0.value
          (g.Q.Lookup.stands_for a._about.2) a._about.4)) a._about.1.value ∷ []);
    }
