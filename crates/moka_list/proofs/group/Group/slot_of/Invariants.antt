use Rattle.std.proofs.Common.{◌≡◌, ◌<◌, ℕ}
use Rattle.std.specs.Int.{bit_at}
use Rattle.std.specs.Prelude.{min}
use Rattle.moka_list.specs.declared.constants.TheConstants.{FAR}
use Rattle.moka_list.specs.HashIndex.{slots_of}
use Rattle.moka_list.specs.Probed.{is_among}
use Rattle.moka_list.proofs.group.Group.slot_of.Given as goal

abbrev pub invariant-loop-found : goal.invariant-loop-found
invariant-loop-found l =
    record {
      few : l.found < 1024;
      left : (k : ℕ) → bit_at l.found k ≡ 1 → bit_at (slots_of l.self l.tag (min l.distance FAR)) k ≡ 1;
      same : is_among l.id l.found l.self.ids ≡ is_among l.id (slots_of l.self l.tag (min l.distance FAR)) l.self.ids;
    }

abbrev pub decreases-loop-found : goal.decreases-loop-found
decreases-loop-found l = l.found
