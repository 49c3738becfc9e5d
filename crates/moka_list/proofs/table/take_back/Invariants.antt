use Rattle.std.proofs.Common.{◌≡◌, ◌-◌, ◌≤◌, length}
use Rattle.moka_list.specs.Probed.{CountsWay}
use Rattle.moka_list.proofs.StandsLemmas.{walk}
use Rattle.moka_list.proofs.table.take_back.Given as goal

abbrev pub invariant-loop-step : goal.invariant-loop-step
invariant-loop-step g l =
    (l.at ≡ walk (length l.fn.groups.items) l.home l.step) × (l.step ≤ l.distance) × CountsWay l.groups.items l.home l.step l.fn.groups.items

abbrev pub decreases-loop-step : goal.decreases-loop-step
decreases-loop-step g l = l.distance - l.step
