-- The front of the order of use: what a scan has seen of it, and what is left where a node leaves.
use Rattle.std.proofs.Common.{◌≡◌, ◌+◌, ◌≤◌, Bool, true, not, cond, List, [], ◌∷◌, ◌++◌, map, length, drop, refl, sym, ◌∙◌, ap, subst}
use Rattle.std.proofs.Common.{arith, inl, inr}
use Rattle.std.specs.List.{filter, count_by}
use Rattle.std.proofs.lemmas.Bool.{cases_Bool}
use Rattle.std.proofs.lemmas.List.{drop-map, append_assoc}
use Rattle.moka_sync_model.specs.declared.ticket.Ticket.{Ticket}
use Rattle.moka_sync_model.specs.Ticket.{same_ticket, without, AreApart}
use Rattle.moka_sync_model.specs.Orders.{Node, Orders, without_node}
use Rattle.moka_sync_model.specs.Consistent.{Begins}
use Rattle.moka_sync_model.proofs.ListLemmas.{count-append, count-cons}
use Rattle.moka_sync_model.proofs.TicketLemmas.{same_self}

drop-past : {X : Type 0} (xs ys : List X) → drop (length xs) (xs ++ ys) ≡ ys
drop-past [] ys = refl
drop-past (x ∷ xs) ys = drop-past xs ys

module _ {X : Type 0} (p : X → Bool) where
  filter-keeps_all : (xs : List X) → count_by p xs ≡ 0 → filter (λ x. not (p x)) xs ≡ xs
  filter-keeps_all [] none = refl
  filter-keeps_all (x ∷ xs) none =
      elim (cases_Bool (p x)) [
        | inl passes ↦ let one : count_by p (x ∷ xs) ≡ 1 + count_by p xs =
            count-cons p x xs ∙ rw passes in absurd (omega (arith, one, none))
        | inr fails ↦ let rest : count_by p (x ∷ xs) ≡ count_by p xs = count-cons p x xs ∙ rw fails (omega arith) in
            rw fails (rw (filter-keeps_all xs (sym rest ∙ none)))
      ]

  filter-append : (xs ys : List X) → filter (λ x. not (p x)) (xs ++ ys) ≡ filter (λ x. not (p x)) xs ++ filter (λ x. not (p x)) ys
  filter-append [] ys = refl
  filter-append (x ∷ xs) ys =
      elim (cases_Bool (p x)) [
        | inl passes ↦ rw passes (filter-append xs ys)
        | inr fails ↦ rw fails (ap (λ zs. x ∷ zs) (filter-append xs ys))
      ]

  -- the only one that passes is taken out of the middle
  filter-middle : (xs ys : List X) (x : X) → p x ≡ true → count_by p (xs ++ x ∷ ys) ≤ 1 → filter (λ x. not (p x)) (xs ++ x ∷ ys) ≡ xs ++ ys
  filter-middle xs ys x passes once =
      let one : count_by p (x ∷ ys) ≡ 1 + count_by p ys = count-cons p x ys ∙ rw passes in
      let whole = count-append p xs (x ∷ ys) in
      let before : count_by p xs ≡ 0 = omega (arith, one, whole, once) in
      let behind : count_by p ys ≡ 0 = omega (arith, one, whole, once) in
      filter-append xs (x ∷ ys) ∙ rw passes (rw (filter-keeps_all xs before, filter-keeps_all ys behind))

module _ {X : Type 0} (ticket_of : X → Ticket) where
  -- by their tickets alone
  tickets-without : (t : Ticket) (xs : List X) → map ticket_of (without ticket_of t xs) ≡ without (λ u. u) t (map ticket_of xs)
  tickets-without t [] = refl
  tickets-without t (x ∷ xs) =
      elim (cases_Bool (same_ticket t (ticket_of x))) [
        | inl same ↦ rw same (tickets-without t xs)
        | inr differ ↦ rw differ (ap (λ us. ticket_of x ∷ us) (tickets-without t xs))
      ]

  count-tickets : (p : Ticket → Bool) (xs : List X) → count_by p (map ticket_of xs) ≡ count_by (λ x. p (ticket_of x)) xs
  count-tickets p [] = refl
  count-tickets p (x ∷ xs) = count-cons p (ticket_of x) (map ticket_of xs) ∙ ap (λ n. cond (p (ticket_of x)) 1 0 + n) (count-tickets p xs)
      ∙ sym (count-cons (λ x. p (ticket_of x)) x xs)

-- a node in the front leaves
pub Begins-without : (o : Orders) (xs ys : List Ticket) (t : Ticket) → AreApart (λ n. n.ticket) o.access → Begins o (xs ++ t ∷ ys)
    → Begins (without_node t o) (xs ++ ys)
Begins-without o xs ys t apart begins = record {
  rest = begins.rest;
  is =
      let list : map (λ n. n.ticket) o.access ≡ xs ++ t ∷ (ys ++ begins.rest) = begins.is ∙ append_assoc (xs) (t ∷ ys) begins.rest in
      let once : count_by (same_ticket t) (xs ++ t ∷ (ys ++ begins.rest)) ≤ 1 =
      subst (λ us. count_by (same_ticket t) us ≤ 1) list
      (omega (arith, apart t, count-tickets (λ n. n.ticket) (same_ticket t) o.access)) in
      tickets-without (λ n. n.ticket) t o.access ∙ ap (without (λ u. u) t) list
      ∙ filter-middle (same_ticket t) xs (ys ++ begins.rest) t (same_self t) once ∙ sym (append_assoc (xs) (ys) begins.rest);
}

-- one node more is seen
pub Begins-more : (o : Orders) (front : List Ticket) (n : Node) (nodes : List Node) → Begins o front
    → drop (length front) o.access ≡ n ∷ nodes → Begins o (front ++ n.ticket ∷ [])
Begins-more o front n nodes begins next = record {
  rest = map (λ n. n.ticket) nodes;
  is =
      let rest : begins.rest ≡ n.ticket ∷ map (λ n. n.ticket) nodes =
      sym (drop-past front begins.rest) ∙ ap (drop (length front)) (sym begins.is) ∙ drop-map (λ n. n.ticket) (length front) o.access
      ∙ ap (map (λ (n : Node). n.ticket)) next in
      begins.is ∙ ap (λ us. front ++ us) rest ∙ sym (append_assoc front (n.ticket ∷ []) (map (λ n. n.ticket) nodes));
}

pub Begins-same : (o : Orders) (front other : List Ticket) → front ≡ other → Begins o front → Begins o other
Begins-same o front other same begins = record { rest = begins.rest; is = begins.is ∙ ap (λ us. us ++ begins.rest) same }
