-- A change of the orders at a ticket that has no node changes nothing.
use Rattle.std.proofs.Common.{◌≡◌, Bool, false, not, List, [], ◌∷◌, ◌++◌, filter, Option, Some, None, refl, ap, ◌∙◌, inl, inr}
use Rattle.std.specs.List.{find}
use Rattle.std.specs.Option.{option_map, is_some}
use Rattle.std.proofs.lemmas.Bool.{cases_Bool, cond-true, cond-false}
use Rattle.moka_sync_model.specs.declared.ticket.Ticket.{Ticket}
use Rattle.moka_sync_model.specs.Ticket.{same_ticket}
use Rattle.moka_sync_model.specs.Orders.{Orders, charge_of, is_written, used, without_node}

module _ {X : Type 0} (p : X → Bool) where
  fails-head : (x : X) (xs : List X) → find p (x ∷ xs) ≡ None → p x ≡ false
  fails-head x xs none =
      elim (cases_Bool (p x)) [
        | inl passes ↦ let found : Some x ≡ None = rw passes at none in absurd (cc)
        | inr fails ↦ fails
      ]

  fails-tail : (x : X) (xs : List X) → find p (x ∷ xs) ≡ None → find p xs ≡ None
  fails-tail x xs none = let fails : p x ≡ false = fails-head x xs none in rw fails at none

  all_left : (xs : List X) → find p xs ≡ None → filter (λ x. not (p x)) xs ≡ xs
  all_left [] none = refl
  all_left (x ∷ xs) none =
      cond-true (not (p x)) _ _ (ap not (fails-head x xs none)) ∙ ap (λ l. x ∷ l) (all_left xs (fails-tail x xs none))

  none_left : (xs : List X) → find p xs ≡ None → filter p xs ≡ []
  none_left [] none = refl
  none_left (x ∷ xs) none = cond-false (p x) _ _ (fails-head x xs none) ∙ none_left xs (fails-tail x xs none)

  nothing_behind : (xs : List X) → xs ++ [] ≡ xs
  nothing_behind [] = refl
  nothing_behind (x ∷ xs) = ap (λ l. x ∷ l) (nothing_behind xs)

none_from_map : {X Y : Type 0} (f : X → Y) (o : Option X) → option_map f o ≡ None → o ≡ None
none_from_map f None h = refl
none_from_map f (Some x) h = absurd (cc)

none_from_is_some : {X : Type 0} (o : Option X) → is_some o ≡ false → o ≡ None
none_from_is_some None h = refl
none_from_is_some (Some x) h = absurd (cc)

-- to the back
pub used_absent : (t : Ticket) (o : Orders) → charge_of t o ≡ None → used t o ≡ o
used_absent t o none =
    let p = λ (n : Rattle.moka_sync_model.specs.Orders.Node). same_ticket t n.ticket in
    let absent = none_from_map (λ n. n.charge) _ none in
    ap (λ l. record o { access = l })
    ((λ i. all_left p o.access absent i ++ none_left p o.access absent i) ∙ nothing_behind p o.access)

-- out of both orders
pub without_absent : (t : Ticket) (o : Orders) → charge_of t o ≡ None → is_written t o ≡ false → without_node t o ≡ o
without_absent t o none unwritten =
    λ i. record {
      access = all_left (λ n. same_ticket t n.ticket) o.access (none_from_map (λ n. n.charge) _ none) i;
      write = all_left (λ u. same_ticket t u) o.write (none_from_is_some _ unwritten) i;
    }
