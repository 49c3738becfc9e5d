-- The hash was counted as often as the loop was run.
use Rattle.std.proofs.Common.{◌≡◌}
use Rattle.std.specs.Fn.{iterate}
use Rattle.moka_common.specs.Sketch.{after_increment}
use Rattle.moka_script.proofs.sketch.count.Given as goal

abbrev pub invariant-loop : goal.invariant-loop
invariant-loop g l = l.sketch ≡ iterate (λ s. after_increment s l.hash) l.counter l.initial.sketch
