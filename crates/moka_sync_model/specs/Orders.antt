-- The queues of the maintenance: the entries that are charged in order of use, and with a time to live in order of writing.
use Rattle.std.specs.Prelude.{ℕ, Bool, true, false, List, [], ◌∷◌, ◌++◌, sum_by, Option, option_map, is_some}
use Rattle.moka_sync_model.specs.declared.ticket.Ticket.{Ticket}
use Rattle.moka_sync_model.specs.Ticket.{of_ticket, without, moved_to_back, changed}

-- what is charged for the entry of a ticket
pub record Node : Type 0 where
  pub ticket : Ticket
  pub charge : ℕ

-- both queues, least recent first
pub record Orders : Type 0 where
  pub access : List Node
  pub write : List Ticket

-- what is charged for a ticket
abbrev pub charge_of : Ticket → Orders → Option ℕ
charge_of t orders = option_map (λ n. n.charge) (of_ticket (λ n. n.ticket) t orders.access)

-- whether a ticket is in the order of writing
abbrev pub is_written : Ticket → Orders → Bool
is_written t orders = is_some (of_ticket (λ u. u) t orders.write)

-- the weight that is charged in all
abbrev pub charged_weight : Orders → ℕ
charged_weight orders = sum_by (λ n. n.charge) orders.access

-- the orders once the ticket's node has left
abbrev pub without_node : Ticket → Orders → Orders
without_node t orders = record { access = without (λ n. n.ticket) t orders.access; write = without (λ u. u) t orders.write }

-- the order of writing with one more, where it is kept
abbrev pub with_write : Bool → Ticket → List Ticket → List Ticket
with_write true t write = write ++ t ∷ []
with_write false t write = write

-- the orders with a node at the back
abbrev pub with_node : Bool → Ticket → ℕ → Orders → Orders
with_node keeps t charge orders =
    record { access = orders.access ++ record { ticket = t; charge = charge } ∷ []; write = with_write keeps t orders.write }

-- the orders with the ticket's node at the back of the order of use
abbrev pub used : Ticket → Orders → Orders
used t orders = record orders { access = moved_to_back (λ n. n.ticket) t orders.access }

-- the same in the order of writing
abbrev pub rewritten : Ticket → Orders → Orders
rewritten t orders = record orders { write = moved_to_back (λ u. u) t orders.write }

-- the same in both
abbrev pub renewed : Ticket → Orders → Orders
renewed t orders = used t (rewritten t orders)

-- the orders with another charge for the ticket
abbrev pub recharged : Ticket → ℕ → Orders → Orders
recharged t charge orders = record orders { access = changed (λ n. n.ticket) t (λ n. record n { charge = charge }) orders.access }

-- the tickets' nodes at the back, one after another
abbrev pub all_used : List Ticket → Orders → Orders
all_used [] orders = orders
all_used (t ∷ ts) orders = all_used ts (used t orders)
