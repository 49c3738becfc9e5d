use Rattle.std.proofs.Common.{◌≡◌, ℕ, ◌-◌, ◌<◌, false, length}
use Rattle.std.specs.Prelude.{min}
use Rattle.moka_list.specs.declared.constants.TheConstants.{FAR}
use Rattle.moka_list.specs.HashIndex.{group_at, home_group, slots_of}
use Rattle.moka_list.specs.Probed.{is_among}
use Rattle.moka_list.proofs.StandsLemmas.{walk}
use Rattle.moka_list.proofs.table.slot_of.Given as goal

abbrev pub invariant-loop-slot : goal.invariant-loop-slot
invariant-loop-slot l =
    record {
      way : l.at ≡ walk (length l.groups) (home_group (length l.groups) l.hash) l.distance;
      near : l.distance < length l.groups;
      missed : (s : ℕ) → s < l.distance
          → is_among l.id (slots_of (group_at l.groups (walk (length l.groups) (home_group (length l.groups) l.hash) s)) l.tag (min s FAR))
          (group_at l.groups (walk (length l.groups) (home_group (length l.groups) l.hash) s)).ids ≡ false;
    }

abbrev pub decreases-loop-slot : goal.decreases-loop-slot
decreases-loop-slot l = length l.groups - l.distance
