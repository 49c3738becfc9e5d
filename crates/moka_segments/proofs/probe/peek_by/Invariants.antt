use Rattle.std.specs.Prelude.{option_map}
use Rattle.std.proofs.Common.{Some}
use Rattle.moka_common.specs.Keys.{keys_by}
use Rattle.moka_segments.proofs.ProbeLemmas.{entry_peeked, peek_visit}
use Rattle.moka_segments.proofs.probe.peek_by.Given as goal

abbrev pub ghosts-leave : goal.ghosts-leave
ghosts-leave g a =
    let keys = keys_by (record { eq = g.K.PartialEq.eq; hash_input = g.K.Hash.hash_input }) g.S.BuildHasher g.S.Hasher.Hasher in
    record {
      entry = Some (peek_visit a._about.0.value a._about.3 (option_map (λ s. s.value) a._about.4) a._about.1.value (entry_peeked keys a._about.0.value
          (g.Q.Lookup.stands_for a._about.2) a._about.3));
    }
