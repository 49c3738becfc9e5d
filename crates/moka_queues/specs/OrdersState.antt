-- What a contract sees of the orders: which nodes there are under which ids, and what their owner reads of them.
use Rattle.std.specs.Prelude.{◌≡◌, ℕ, nat_eq, List, ◌++◌, [], ◌∷◌, None, Some, map}
use Rattle.std.specs.Map.{lookup, values_of}
use Rattle.moka_sync_model.specs.declared.ticket.Ticket.{Ticket}
use Rattle.moka_sync_model.specs.Orders.{Node as Charged, Orders, charge_of}
use Rattle.moka_queues.specs.declared.orders.Node.{Node}

-- the nodes in order of use under their ids, the tickets in order of writing, and how many more nodes surely fit with no allocation
pub record OrdersState : Type 0 where
  pub nodes : List (ℕ × Node)
  pub written : List Ticket
  pub room : ℕ

-- what a node charges for which ticket
abbrev pub charged : Node → Charged
charged n = record { ticket = n.ticket; charge = n.charge }

-- what is charged, in order of use
abbrev pub access_of : List (ℕ × Node) → List Charged
access_of nodes = map charged (values_of nodes)

-- both orders, as the steps of the maintenance see them
abbrev pub orders_of : OrdersState → Orders
orders_of orders = record { access = access_of orders.nodes; write = orders.written }

-- whatever node has the id is such a one
abbrev pub AtNode : OrdersState → ℕ → (Node → Type 0) → Type 0
AtNode orders id P = (n : Node) → lookup (nat_eq id) orders.nodes ≡ Some n → P n

-- it is the ticket's node
pub record IsNodeOf (orders : OrdersState) (ticket : Ticket) (id : ℕ) : Type 0 where
  pub node : Node
  pub stands : lookup (nat_eq id) orders.nodes ≡ Some node
  pub of_ticket : node.ticket ≡ ticket
  pub charge : charge_of ticket (orders_of orders) ≡ Some node.charge

-- there is one node more, at the back
pub record AddsNode (old new : OrdersState) (ticket : Ticket) (charge : ℕ) : Type 0 where
  pub id : ℕ
  pub node : Node
  pub nodes : new.nodes ≡ old.nodes ++ (id, node) ∷ []
  pub of_ticket : node.ticket ≡ ticket
  pub charges : node.charge ≡ charge
  pub new_id : lookup (nat_eq id) old.nodes ≡ None
