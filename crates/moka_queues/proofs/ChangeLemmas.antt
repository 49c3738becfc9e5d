-- What each change of the nodes and of the ids that are written is to a contract of the orders.
use Rattle.std.proofs.Common.{◌≡◌, ◌++◌, ◌∷◌, ℕ, Bool, false, true, nat_eq, List, [], Some, None, is_some, refl, sym, ap, subst}
use Rattle.std.specs.Prelude.{IfSome, IsSome, slice_get}
use Rattle.std.specs.Map.{lookup, remove_entry, set_value}
use Rattle.moka_list.specs.IdList.{first_of, ids_without, is_listed}
use Rattle.moka_list.specs.Nodes.{moved_to_back}
use Rattle.moka_list.proofs.IdLemmas.{node_at}
use Rattle.moka_list.proofs.IdListLemmas.{first-listed}
use Rattle.moka_sync_model.specs.declared.ticket.Ticket.{Ticket}
use Rattle.moka_sync_model.specs.Orders.{charge_of, used, rewritten, recharged, with_node, without_node}
use Rattle.moka_queues.specs.declared.orders.Node.{Node}
use Rattle.moka_queues.specs.Kept.{IsKept, written_under}
use Rattle.moka_queues.specs.OrdersState.{OrdersState, IsNodeOf, access_of, charged, orders_of}
use Rattle.moka_queues.proofs.KeptLemmas.{access-moved, access-set, access-same, access-removed, charge_found, ticket_absent}
use Rattle.moka_queues.proofs.TicketsLemmas.{seen-push}
use Rattle.moka_queues.proofs.WrittenLemmas.{first_written, written-beside, written-last, written-moved, written-pushed, written-removed}
use Rattle.moka_queues.proofs.WrittenLemmas.{written-same, written-set}

-- what a contract sees of the parts
abbrev pub seen : List (ℕ × Node) → List ℕ → ℕ → OrdersState
seen items ids room = record { nodes = items; written = written_under items ids; room = room }

module _ {items : List (ℕ × Node)} {ids : List ℕ} {total : ℕ} (s : IsKept items ids total) where
  module _ (room : ℕ) (id : ℕ) (n : Node) (stood : lookup (nat_eq id) items ≡ Some n) where
    -- it is the node of its ticket
    pub node_of : (t : Ticket) → n.ticket ≡ t → IsNodeOf (seen items ids room) t id
    node_of t is =
        record {
          node = n;
          stands = stood;
          of_ticket = is;
          charge =
              subst (λ u. charge_of u (orders_of (seen items ids room)) ≡ Some n.charge) is
              (charge_found s id n stood (written_under items ids));
        }

    -- ---- a node goes to the back

    pub moved_seen : seen (moved_to_back id items) ids room ≡ record (seen items ids room) { nodes = moved_to_back id items }
    moved_seen = ap (λ l. record { nodes = moved_to_back id items; written = l; room = room }) (written-moved s id n stood)

    pub moved_orders : orders_of (seen (moved_to_back id items) ids room) ≡ used n.ticket (orders_of (seen items ids room))
    moved_orders = λ i. record { access = access-moved s id n stood i; write = written-moved s id n stood i }

    -- ---- a node is changed in its place

    pub set_seen : (m : Node) → m.ticket ≡ n.ticket
        → seen (set_value (nat_eq id) items m) ids room ≡ record (seen items ids room) { nodes = set_value (nat_eq id) items m }
    set_seen m ticket =
        ap (λ l. record { nodes = set_value (nat_eq id) items m; written = l; room = room }) (written-set s id n stood m ticket)

    pub recharged_orders : (w : ℕ) → orders_of (seen (set_value (nat_eq id) items (record n { charge = w })) ids room)
        ≡ recharged n.ticket w (orders_of (seen items ids room))
    recharged_orders w = λ i. record {
      access = access-set s id n stood (record n { charge = w }) w refl refl i;
      write = written-set s id n stood (record n { charge = w }) refl i;
    }

    pub marked_orders : (b : Bool) → orders_of (seen (set_value (nat_eq id) items (record n { is_present = b })) ids room)
        ≡ orders_of (seen items ids room)
    marked_orders b = λ i. record {
      access = access-same s id n stood (record n { is_present = b }) refl refl i;
      write = written-set s id n stood (record n { is_present = b }) refl i;
    }

    -- ---- its write goes to the back, or there is none

    pub rewritten_orders : is_listed ids id ≡ true
        → orders_of (seen items (ids_without id ids ++ id ∷ []) room) ≡ rewritten n.ticket (orders_of (seen items ids room))
    rewritten_orders listed = ap (λ l. record { access = access_of items; write = l }) (written-last s id n stood listed)

    pub unwritten_orders : is_listed ids id ≡ false → orders_of (seen items ids room) ≡ rewritten n.ticket (orders_of (seen items ids room))
    unwritten_orders absent = ap (λ l. record { access = access_of items; write = l }) (written-same s id n stood absent)

    -- ---- it leaves

    pub removed_orders : (after : ℕ)
        → orders_of (seen (remove_entry (nat_eq id) items) (ids_without id ids) after)
        ≡ without_node n.ticket (orders_of (seen items ids room))
    removed_orders after = λ i. record { access = access-removed s id n stood i; write = written-removed s id n stood i }

  -- ---- a node enters

  -- there is none of a ticket for which nothing is charged
  pub none_in : (room : ℕ) (orders : OrdersState) → seen items ids room ≡ orders → (t : Ticket) → charge_of t (orders_of orders) ≡ None
      → (i : ℕ) (n : Node) → lookup (nat_eq i) items ≡ Some n → n.ticket ≡ t → ⊥
  none_in room orders is t none =
      ticket_absent s t (written_under items ids) (subst (λ o. charge_of t (orders_of o) ≡ None) (sym is) none)

  module _ (room after : ℕ) (id : ℕ) (m : Node) (fresh : lookup (nat_eq id) items ≡ None) where
    -- it is written
    pub written_entered : orders_of (seen (items ++ (id, m) ∷ []) (ids ++ id ∷ []) after)
        ≡ with_node true m.ticket m.charge (orders_of (seen items ids room))
    written_entered = λ i. record { access = seen-push charged items (id, m) i; write = written-pushed s id m fresh i }

    -- or it isn't
    pub unwritten_entered : orders_of (seen (items ++ (id, m) ∷ []) ids after)
        ≡ with_node false m.ticket m.charge (orders_of (seen items ids room))
    unwritten_entered = λ i. record { access = seen-push charged items (id, m) i; write = written-beside s id m fresh i }

  -- ---- the oldest write

  -- its ticket is charged
  pub oldest_charged : (id : ℕ) (n : Node) → lookup (nat_eq id) items ≡ Some n → (write : List Ticket)
      → IsSome (charge_of n.ticket (record { access = access_of items; write = write }))
  oldest_charged id n stood write = ap is_some (charge_found s id n stood write)

  -- its node is at the back
  pub oldest_orders : (room id : ℕ) → first_of ids ≡ Some id → IfSome (slice_get (written_under items ids) 0) (λ t.
      orders_of (seen items (ids_without id ids ++ id ∷ []) room) ≡ rewritten t (orders_of (seen items ids room)))
  oldest_orders room id first =
      let listed = first-listed id ids first in
      let (n, stood) = node_at id items (s.standing id listed) in
      subst (λ o. IfSome o (λ t.
      orders_of (seen items (ids_without id ids ++ id ∷ []) room) ≡ rewritten t (orders_of (seen items ids room))))
      (sym (first_written s id n first stood)) (rewritten_orders room id n stood listed)
