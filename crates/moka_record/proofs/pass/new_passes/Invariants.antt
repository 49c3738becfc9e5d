use Rattle.std.proofs.Common.{◌≡◌}
use Rattle.moka_record.specs.Passes.{new_passes}
use Rattle.moka_record.proofs.pass.new_passes.Given as goal

abbrev pub invariant-loop-place : goal.invariant-loop-place
invariant-loop-place g l = l.passes.items ≡ new_passes l.place
