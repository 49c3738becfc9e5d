use Rattle.std.specs.Prelude.{option_map}
use Rattle.std.proofs.Common.{Some}
use Rattle.moka_segments.specs.Put.{visit_of}
use Rattle.moka_segments.proofs.make.try_get_or_insert_with.Given as goal

abbrev pub ghosts-leave : goal.ghosts-leave
ghosts-leave g a = record {
  entry = Some (visit_of a._about.0.value a._about.2.value a._about.3 (option_map (λ s. s.value) a._about.4.0) a._about.4.1.value
      (option_map (λ p. (p.0.value, p.1)) a._about.4.2) a._about.1.value);
}
