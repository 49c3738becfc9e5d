use Rattle.std.proofs.Common.{◌≡◌, ◌+◌, ◌^◌, ◌<◌, ◌≤◌, length}
use Rattle.moka_list.specs.HashIndex.{rest_of}
use Rattle.moka_list.proofs.hash_index.Candidates.next.Given as goal

abbrev pub invariant-loop-group : goal.invariant-loop-group
invariant-loop-group l =
    (l.self-inside.groups ≡ l.initial.self-inside.groups) × (l.self-inside.tag ≡ l.initial.self-inside.tag)
    × (l.self-inside.found < 1024) × (length l.self-inside.groups.now ≤ l.self-inside.at → (l.self-inside.found ≡ 0) × (l.self-inside.left ≡ 0))
    × (rest_of l.self-inside.groups.now l.self-inside.tag l.self-inside.far l.self-inside.left l.self-inside.distance l.self-inside.at l.self-inside.found
    ≡ rest_of l.initial.self-inside.groups.now l.initial.self-inside.tag l.initial.self-inside.far l.initial.self-inside.left
    l.initial.self-inside.distance l.initial.self-inside.at l.initial.self-inside.found)
    × (l.self-inside.far ≡ l.initial.self-inside.far) × (l.self-inside.distance + l.self-inside.left < 2 ^ 64)

abbrev pub decreases-loop-group : goal.decreases-loop-group
decreases-loop-group l = l.self-inside.left
