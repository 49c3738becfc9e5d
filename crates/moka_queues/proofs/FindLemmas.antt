-- What a search of the orders tells its caller.
use Rattle.std.proofs.Common.{◌≡◌, ◌∙◌, ◌∷◌, ℕ, Bool, true, false, nat_eq, List, [], Some, None, sym, ap, inl, inr, subst, option_map}
use Rattle.std.proofs.lemmas.Bool.{cases_Bool, false≢true}
use Rattle.std.specs.List.{IsDistinct, AllByRecursion}
use Rattle.std.specs.Map.{lookup, keys_of}
use Rattle.moka_list.proofs.IdLemmas.{each_found}
use Rattle.moka_sync_model.specs.declared.ticket.Ticket.{Ticket}
use Rattle.moka_sync_model.specs.Ticket.{same_ticket}
use Rattle.moka_sync_model.specs.Orders.{charge_of}
use Rattle.moka_sync_model.proofs.TicketLemmas.{same_is, same_self}
use Rattle.moka_queues.specs.declared.orders.Node.{Node}
use Rattle.moka_queues.specs.OrdersState.{charged, access_of}
use Rattle.moka_queues.proofs.TicketsLemmas.{seen-absent}

module _ (ticket : Ticket) (nodes : List (ℕ × Node)) where
  -- if no node has the ticket, nothing is charged for it
  pub none_of_ticket : IsDistinct nat_eq (keys_of nodes)
      → ((id : ℕ) (n : Node) → lookup (nat_eq id) nodes ≡ Some n → same_ticket ticket n.ticket ≡ false) → (write : List Ticket)
      → charge_of ticket (record { access = access_of nodes; write = write }) ≡ None
  none_of_ticket once differ write =
      ap (option_map (λ c. c.charge)) (seen-absent charged (λ c. same_ticket ticket c.ticket) nodes (by nodes (each_found nodes once)))
    where
      by : (es : List (ℕ × Node)) → AllByRecursion (λ p. lookup (nat_eq p.0) nodes ≡ Some p.1) es
          → AllByRecursion (λ p. same_ticket ticket p.1.ticket ≡ false) es
      by [] a = tt
      by (p ∷ es) a = (differ p.0 p.1 a.0, by es a.1)

module _ (ticket : Ticket) (n : Node) where
  -- a search tests this of a node: whether it has the ticket
  abbrev pub IsSought : Bool → Type 0
  IsSought answer = answer ≡ same_ticket n.ticket ticket

  -- one that fails if it has the ticket's hash has another ticket
  pub other_ticket : (n.ticket.hash ≡ ticket.hash → IsSought false) → same_ticket ticket n.ticket ≡ false
  other_ticket s =
      elim (cases_Bool (same_ticket ticket n.ticket)) [
        | inl equal ↦
            let is : n.ticket ≡ ticket = sym (same_is ticket n.ticket equal) in
            absurd (false≢true (s (ap (λ (t : Ticket). t.hash) is) ∙ subst (λ t. same_ticket t ticket ≡ true) (sym is) (same_self ticket)))
        | inr differ ↦ differ
      ]
