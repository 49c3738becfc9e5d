-- Nodes that go from the front of the order of use to its back, one after another.
use Rattle.std.proofs.Common.{◌≡◌, ◌≤◌, ℕ, suc, nat_eq, List, [], ◌∷◌, ◌++◌, map, length, Some, None}
use Rattle.std.proofs.Common.{unwrap_or, refl, sym, ap, ◌∙◌, subst, arith}
use Rattle.std.proofs.lemmas.Bool.{cond-true}
use Rattle.std.proofs.lemmas.List.{take-append-le, length_push}
use Rattle.std.specs.Map.{lookup, remove_entry}
use Rattle.moka_list.specs.Nodes.{first_id, moved_to_back}
use Rattle.moka_list.proofs.ItemLemmas.{nat_eq-same}
use Rattle.moka_sync_model.specs.Orders.{used, all_used}
use Rattle.moka_queues.specs.declared.orders.Node.{Node}
use Rattle.moka_queues.specs.OrdersState.{OrdersState, orders_of}
use Rattle.moka_maintenance.specs.Held.{first_tickets}

-- the first node is found under its id
pub first_found : {X : Type 0} (p : ℕ × X) (rest : List (ℕ × X)) → lookup (nat_eq p.0) (p ∷ rest) ≡ Some p.1
first_found p rest = cond-true (nat_eq p.0 p.0) _ _ (nat_eq-same p.0)

-- at the back it is behind the others
pub first_moved : {X : Type 0} (p : ℕ × X) (rest : List (ℕ × X)) → moved_to_back p.0 (p ∷ rest) ≡ rest ++ p ∷ []
first_moved p rest =
    ap (λ o. Rattle.std.specs.Option.option_map_or (λ element. remove_entry (nat_eq p.0) (p ∷ rest) ++ (p.0, element) ∷ []) o (p ∷ rest))
    (first_found p rest)
    ∙ ap (λ l. l ++ p ∷ []) (cond-true (nat_eq p.0 p.0) rest _ (nat_eq-same p.0))

-- what is left to send once one was sent
pub sent : (o new : OrdersState) (k : ℕ) (id : ℕ) → first_id o.nodes ≡ Some id → suc k ≤ length o.nodes
    → new.nodes ≡ moved_to_back id o.nodes
    → ((n : Node) → lookup (nat_eq id) o.nodes ≡ Some n → orders_of new ≡ used n.ticket (orders_of o))
    → (all_used (first_tickets k new.nodes) (orders_of new) ≡ all_used (first_tickets (suc k) o.nodes) (orders_of o))
    × (k ≤ length new.nodes)
sent o new k id first enough moved step = by o.nodes refl
  where
    by : (nodes : List (ℕ × Node)) → o.nodes ≡ nodes
        → (all_used (first_tickets k new.nodes) (orders_of new) ≡ all_used (first_tickets (suc k) o.nodes) (orders_of o))
        × (k ≤ length new.nodes)
    by [] is = let none : None ≡ Some id = sym (ap first_id is) ∙ first in absurd (cc)
    by (p ∷ rest) is =
        let id_is : p.0 ≡ id = ap (λ o. unwrap_or o id) (sym (ap first_id is) ∙ first) in
        let here : lookup (nat_eq id) o.nodes ≡ Some p.1 =
        (λ i. lookup (nat_eq (sym id_is i)) (is i)) ∙ first_found p rest in
        let nodes : new.nodes ≡ rest ++ p ∷ [] = moved ∙ ((λ i. moved_to_back (sym id_is i) (is i)) ∙ first_moved p rest) in
        let long : suc k ≤ suc (length rest) = subst (λ l. suc k ≤ length l) is enough in
        let within : k ≤ length rest = omega (arith, long) in (
          ap (λ l. all_used (first_tickets k l) (orders_of new)) nodes
              ∙ (ap (λ l. all_used (map (λ (q : ℕ × Node). q.1.ticket) l) (orders_of new)) (take-append-le k rest (p ∷ []) within)
              ∙ (ap (all_used (first_tickets k rest)) (step p.1 here)
              ∙ sym (ap (λ l. all_used (first_tickets (suc k) l) (orders_of o)) is))),
          omega (arith, within, ap length nodes, length_push rest p),
        )
