-- The high-water marks of the tickets that were charged: what each change of the nodes leaves of them, and what they tell.
use Rattle.std.proofs.Common.{◌≡◌, ◌∙◌, ◌++◌, ◌∷◌, ℕ, cond, nat_eq, List, [], Some, None, is_some, refl, sym, ap, inl, inr, subst}
use Rattle.std.proofs.lemmas.Bool.{cases_Bool, cond-true, cond-false}
use Rattle.std.specs.List.{IsDistinct}
use Rattle.std.specs.Map.{lookup, remove_entry, keys_of, set_value}
use Rattle.moka_list.specs.Nodes.{moved_to_back}
use Rattle.moka_list.proofs.ItemLemmas.{lookup-push, lookup-set}
use Rattle.moka_list.proofs.IdLemmas.{lookup-removed, lookup-rewritten, moved-found, not_none, some_parts}
use Rattle.moka_sync_model.specs.declared.ticket.Ticket.{Ticket}
use Rattle.moka_sync_model.specs.Orders.{charge_of}
use Rattle.moka_queues.specs.declared.high_water.HighWater.{HighWater}
use Rattle.moka_queues.specs.declared.orders.Node.{Node}
use Rattle.moka_queues.specs.HighWater.{AreCovered, IsCovered}
use Rattle.moka_queues.specs.OrdersState.{access_of}
use Rattle.moka_queues.proofs.FindLemmas.{none_of_ticket}
use Rattle.moka_sync_model.proofs.TicketLemmas.{same_is}
use Rattle.moka_sync_model.specs.Ticket.{same_ticket}

-- where there are no nodes, all are covered
pub AreCovered-none : (water : HighWater) → AreCovered [] water
AreCovered-none water id n h = not_none n (sym h)

module _ (nodes : List (ℕ × Node)) (water : HighWater) (s : AreCovered nodes water) where
  -- a node that is rewritten keeps its ticket
  AreCovered-rewrite : (id : ℕ) (n x : Node) → lookup (nat_eq id) nodes ≡ Some n → x.ticket ≡ n.ticket → (after : List (ℕ × Node))
      → ((i : ℕ) → lookup (nat_eq i) after ≡ cond (nat_eq id i) (Some x) (lookup (nat_eq i) nodes)) → AreCovered after water
  AreCovered-rewrite id n x stood same_ticket after found i y h =
      elim (cases_Bool (nat_eq id i)) [
        | inl same ↦
            let is_x : y ≡ x = some_parts y x (sym h ∙ found i ∙ cond-true (nat_eq id i) _ _ same) in
            subst (IsCovered water) (sym (ap (λ z. z.ticket) is_x ∙ same_ticket)) (s id n stood)
        | inr other ↦ s i y (sym (found i ∙ cond-false (nat_eq id i) _ _ other) ∙ h)
      ]

  -- one that goes to the back does
  pub AreCovered-moved : (id : ℕ) (n : Node) → lookup (nat_eq id) nodes ≡ Some n → IsDistinct nat_eq (keys_of nodes)
      → AreCovered (moved_to_back id nodes) water
  AreCovered-moved id n stood once =
      AreCovered-rewrite id n n stood refl (moved_to_back id nodes)
      (λ j. ap (lookup (nat_eq j)) (moved-found id n nodes stood) ∙ lookup-rewritten id j n nodes once)

  -- one that is changed in its place does
  pub AreCovered-set : (id : ℕ) (n m : Node) → lookup (nat_eq id) nodes ≡ Some n → m.ticket ≡ n.ticket
      → AreCovered (set_value (nat_eq id) nodes m) water
  AreCovered-set id n m stood ticket =
      AreCovered-rewrite id n m stood ticket (set_value (nat_eq id) nodes m) (λ j. lookup-set id j m nodes (ap is_some stood))

  -- what one leaves behind is covered
  pub AreCovered-remove : (id : ℕ) → IsDistinct nat_eq (keys_of nodes) → AreCovered (remove_entry (nat_eq id) nodes) water
  AreCovered-remove id once i y h =
      elim (cases_Bool (nat_eq id i)) [
        | inl same ↦ not_none y (sym h ∙ found i ∙ cond-true (nat_eq id i) _ _ same)
        | inr other ↦ s i y (sym (found i ∙ cond-false (nat_eq id i) _ _ other) ∙ h)
      ]
    where
      found : (i : ℕ) → lookup (nat_eq i) (remove_entry (nat_eq id) nodes) ≡ cond (nat_eq id i) None (lookup (nat_eq i) nodes)
      found i = lookup-removed id i nodes once

  -- a new one is where the marks have risen to it
  pub AreCovered-enter : (id : ℕ) (n : Node) (risen : HighWater) → lookup (nat_eq id) nodes ≡ None → IsCovered risen n.ticket
      → ((t : Ticket) → IsCovered water t → IsCovered risen t) → AreCovered (nodes ++ (id, n) ∷ []) risen
  AreCovered-enter id n risen fresh covers kept i y h =
      elim (cases_Bool (nat_eq id i)) [
        | inl same ↦
            let is_n : y ≡ n = some_parts y n (sym h ∙ found i ∙ cond-true (nat_eq id i) _ _ same) in
            subst (IsCovered risen) (sym (ap (λ z. z.ticket) is_n)) covers
        | inr other ↦ kept y.ticket (s i y (sym (found i ∙ cond-false (nat_eq id i) _ _ other) ∙ h))
      ]
    where
      found : (i : ℕ) → lookup (nat_eq i) (nodes ++ (id, n) ∷ []) ≡ cond (nat_eq id i) (Some n) (lookup (nat_eq i) nodes)
      found i = lookup-push i id n nodes fresh

-- for a ticket that isn't covered nothing is charged
pub none_above : (nodes : List (ℕ × Node)) (water : HighWater) → AreCovered nodes water → (t : Ticket) → (IsCovered water t → ⊥)
    → IsDistinct nat_eq (keys_of nodes) → (write : List Ticket) → charge_of t (record { access = access_of nodes; write = write }) ≡ None
none_above nodes water s t above once write =
    none_of_ticket t nodes once
    (λ id n stands. elim (cases_Bool (same_ticket t n.ticket)) [
      | inl equal ↦ absurd (above (subst (IsCovered water) (sym (same_is t n.ticket equal)) (s id n stands)))
      | inr differ ↦ differ
    ])
    write
