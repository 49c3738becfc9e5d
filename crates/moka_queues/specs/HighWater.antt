-- Up to which number the tickets of each shard were charged. No public clause cites this module.
use Rattle.std.specs.Prelude.{◌≡◌, ◌≤◌, ℕ, nat_eq, List, Some, slice_index}
use Rattle.std.specs.Map.{lookup}
use Rattle.moka_sync_model.specs.declared.ticket.Ticket.{Ticket}
use Rattle.moka_sync_model.specs.Ticket.{shard_of}
use Rattle.moka_queues.specs.declared.high_water.HighWater.{HighWater}
use Rattle.moka_queues.specs.declared.orders.Node.{Node}

-- the ticket is not above the mark of its shard
abbrev pub IsCovered : HighWater → Ticket → Type 0
IsCovered water t = t.number ≤ slice_index water.marks (shard_of t.hash)

-- no node's ticket is
abbrev pub AreCovered : List (ℕ × Node) → HighWater → Type 0
AreCovered nodes water = (id : ℕ) (n : Node) → lookup (nat_eq id) nodes ≡ Some n → IsCovered water n.ticket
