use Rattle.std.proofs.Common.{◌≡◌, ◌+◌}
use Rattle.slab.specs.Slab.{slab_len}
use Rattle.moka_deque.specs.Slots.{IsTied, items_of, room_of}
use Rattle.moka_deque.proofs.deque.nodes.Nodes.make_spares.Given as goal

abbrev pub invariant-loop : goal.invariant-loop
invariant-loop g l =
    IsTied l.self × (items_of l.self ≡ items_of l.fn.self) × (room_of l.self ≡ room_of l.fn.self + l.counter)
    × (slab_len l.self.slots ≡ slab_len l.fn.self.slots + l.counter) × (l.self.slots.capacity ≡ l.fn.self.slots.capacity)
