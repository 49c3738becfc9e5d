use Rattle.std.proofs.Common.{◌≡◌, ◌++◌}
use Rattle.moka_examples.proofs.shared.pairs_in.Given as goal

abbrev pub invariant-loop-entry : goal.invariant-loop-entry
invariant-loop-entry g l = l.pairs.items ++ l.entry-iterator ≡ l.initial.entry-iterator
