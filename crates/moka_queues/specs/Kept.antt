-- How the orders lie in a list of nodes and a list of their ids. No public clause cites this module.
use Rattle.std.specs.Prelude.{◌≡◌, ◌<◌, ℕ, ◌^◌, nat_eq, nat_le, if◌then◌else◌, true, List, Option, Some, IsSome, option_map}
use Rattle.std.specs.Prelude.{sum_by}
use Rattle.std.specs.List.{IsDistinct, filter_map}
use Rattle.std.specs.Map.{lookup, keys_of, values_of}
use Rattle.moka_list.specs.IdList.{is_listed}
use Rattle.moka_sync_model.specs.declared.ticket.Ticket.{Ticket}
use Rattle.moka_queues.specs.declared.orders.Node.{Node}

-- the weight that all nodes charge
abbrev pub total_charge : List (ℕ × Node) → ℕ
total_charge items = sum_by (λ n. n.charge) (values_of items)

-- how many more nodes fit, if there are links for all ids in the order of writing
abbrev pub room_with : ℕ → ℕ → ℕ → ℕ
room_with ids linked room = if nat_le ids linked then room else 0

-- the ticket of a node
abbrev pub ticket_under : List (ℕ × Node) → ℕ → Option Ticket
ticket_under items id = option_map (λ n. n.ticket) (lookup (nat_eq id) items)

-- the tickets of these nodes
abbrev pub written_under : List (ℕ × Node) → List ℕ → List Ticket
written_under items ids = filter_map (ticket_under items) ids

-- no ticket comes twice, the order of writing has the nodes that say so, each once, and the sum is that of all charges
pub record IsKept (items : List (ℕ × Node)) (ids : List ℕ) (total : ℕ) : Type 0 where
  pub apart : (i j : ℕ) (m n : Node) → lookup (nat_eq i) items ≡ Some m → lookup (nat_eq j) items ≡ Some n → m.ticket ≡ n.ticket → i ≡ j
  pub flagged : (i : ℕ) (n : Node) → lookup (nat_eq i) items ≡ Some n → is_listed ids i ≡ n.is_written
  pub standing : (i : ℕ) → is_listed ids i ≡ true → IsSome (lookup (nat_eq i) items)
  pub once : IsDistinct nat_eq (keys_of items)
  pub written_once : IsDistinct nat_eq ids
  pub small : (i : ℕ) (n : Node) → lookup (nat_eq i) items ≡ Some n → n.charge < 2 ^ 32
  pub sum : total ≡ total_charge items
