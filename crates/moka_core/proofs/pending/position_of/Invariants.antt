use Rattle.std.proofs.Common.{◌≡◌, None, nat_eq, take}
use Rattle.std.specs.Map.{lookup}
use Rattle.moka_core.proofs.pending.position_of.Given as goal

abbrev pub invariant-loop-i : goal.invariant-loop-i
invariant-loop-i l = lookup (nat_eq l.caller) (take l.i l.operations) ≡ None
