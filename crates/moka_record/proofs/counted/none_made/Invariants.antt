use Rattle.std.proofs.Common.{◌≡◌}
use Rattle.std.specs.List.{sum_by}
use Rattle.moka_record.proofs.counted.none_made.Given as goal

abbrev pub invariant-loop : goal.invariant-loop
invariant-loop g l = sum_by (λ m. m) l.made.items ≡ 0
