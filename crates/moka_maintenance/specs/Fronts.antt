-- The fronts of the orders. No public clause cites this module.
use Rattle.std.specs.Prelude.{◌≡◌, ℕ, Option, Some, map, slice_get}
use Rattle.moka_list.specs.Nodes.{first_id, moved_to_back}
use Rattle.moka_sync_model.specs.declared.ticket.Ticket.{Ticket}
use Rattle.moka_sync_model.specs.Orders.{used}
use Rattle.moka_queues.specs.OrdersState.{OrdersState, AtNode, access_of, orders_of}

-- the ticket of the least recently used node
abbrev pub front_of : OrdersState → Option Ticket
front_of orders = slice_get (map (λ c. c.ticket) (access_of orders.nodes)) 0

-- the least recently used node is at the back
pub record IsSent (old new : OrdersState) : Type 0 where
  pub id : ℕ
  pub first : first_id old.nodes ≡ Some id
  pub moved : new.nodes ≡ moved_to_back id old.nodes
  pub orders : AtNode old id (λ n. orders_of new ≡ used n.ticket (orders_of old))
