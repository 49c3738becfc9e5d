-- Lists of things that have a ticket: what stands at a ticket after a change at one.
use Rattle.std.proofs.Common.{◌≡◌, ◌⊎◌, ◌+◌, ◌≤◌, Bool, true, false, cond, not, List, [], ◌∷◌, ◌++◌, Option, Some, None, refl, sym, ◌∙◌}
use Rattle.std.proofs.Common.{ap, subst, arith, inl, inr, eqb}
use Rattle.std.specs.List.{count_by}
use Rattle.std.specs.Option.{option_map}
use Rattle.std.proofs.lemmas.Bool.{cases_Bool, false≢true, and_parts, and_from, eqb-true, eq-eqb, false_from_ne_true}
use Rattle.moka_sync_model.specs.declared.ticket.Ticket.{Ticket}
use Rattle.moka_sync_model.specs.Ticket.{same_ticket, of_ticket, without, moved_to_back, changed, AreApart}
use Rattle.moka_sync_model.proofs.ListLemmas.{find-append, find-append_none, find-without_same, find-kept_same, find-changed}
use Rattle.moka_sync_model.proofs.ListLemmas.{find-without_other, find-kept_other, count-append, count-none, count-filter-le, count-moved}
use Rattle.moka_sync_model.proofs.ListLemmas.{count-changed}

pub same_is : (t u : Ticket) → same_ticket t u ≡ true → t ≡ u
same_is t u same =
    let both = and_parts (eqb t.hash u.hash) (eqb t.number u.number) same in
    let hash : t.hash ≡ u.hash = eqb-true t.hash u.hash both.0 in
    let number : t.number ≡ u.number = eqb-true t.number u.number both.1 in
    ap (λ h. record { hash = h; number = t.number }) hash ∙ ap (λ n. record { hash = u.hash; number = n }) number

pub same_self : (t : Ticket) → same_ticket t t ≡ true
same_self t = and_from (eqb t.hash t.hash) (eqb t.number t.number) (eq-eqb t.hash t.hash refl) (eq-eqb t.number t.number refl)

-- one ticket or two
pub cases_ticket : (t u : Ticket) → (t ≡ u) ⊎ (same_ticket t u ≡ false)
cases_ticket t u =
    elim (cases_Bool (same_ticket t u)) [
      | inl same ↦ inl (same_is t u same)
      | inr differ ↦ inr differ
    ]

pub differ_sym : (t u : Ticket) → same_ticket t u ≡ false → same_ticket u t ≡ false
differ_sym t u differ =
    false_from_ne_true (same_ticket u t)
    (λ same. false≢true (sym differ ∙ subst (λ v. same_ticket t v ≡ true) (sym (same_is u t same)) (same_self t)))

module _ {X : Type 0} (ticket_of : X → Ticket) where
  apart : (t s : Ticket) → same_ticket t s ≡ false → (x : X) → same_ticket s (ticket_of x) ≡ true → same_ticket t (ticket_of x) ≡ false
  apart t s differ x same = subst (λ u. same_ticket t u ≡ false) (same_is s (ticket_of x) same) differ

  pub of_ticket-is : (t : Ticket) (xs : List X) (x : X) → of_ticket ticket_of t xs ≡ Some x → ticket_of x ≡ t
  of_ticket-is t [] x found = absurd (cc)
  of_ticket-is t (y ∷ ys) x found =
      elim (cases_Bool (same_ticket t (ticket_of y))) [
        | inl same ↦
            let is : Some y ≡ Some x = rw same at found in
            let same_x : y ≡ x = cc in
            ap ticket_of (sym same_x) ∙ sym (same_is t (ticket_of y) same)
        | inr differ ↦ of_ticket-is t ys x (rw differ at found)
      ]

  pub of_ticket-without_same : (t : Ticket) (xs : List X) → of_ticket ticket_of t (without ticket_of t xs) ≡ None
  of_ticket-without_same t xs = find-without_same (λ x. same_ticket t (ticket_of x)) xs

  pub of_ticket-moved : (t s : Ticket) (xs : List X) → of_ticket ticket_of s (moved_to_back ticket_of t xs) ≡ of_ticket ticket_of s xs
  of_ticket-moved t s xs =
      elim (cases_ticket t s) [
        | inl same ↦ subst (λ u. of_ticket ticket_of u (moved_to_back ticket_of t xs) ≡ of_ticket ticket_of u xs) same
            (find-append (λ x. same_ticket t (ticket_of x)) _ _ (of_ticket-without_same t xs)
            ∙ find-kept_same (λ x. same_ticket t (ticket_of x)) xs)
        | inr differ ↦
            find-append_none (λ x. same_ticket s (ticket_of x)) _ _
            (find-kept_other (λ x. same_ticket s (ticket_of x)) (λ x. same_ticket t (ticket_of x)) (apart t s differ) xs)
            ∙ find-without_other (λ x. same_ticket s (ticket_of x)) (λ x. same_ticket t (ticket_of x)) (apart t s differ) xs
      ]

  pub of_ticket-changed_same : (t : Ticket) (f : X → X) → ((x : X) → ticket_of (f x) ≡ ticket_of x) → (xs : List X)
      → of_ticket ticket_of t (changed ticket_of t f xs) ≡ option_map f (of_ticket ticket_of t xs)
  of_ticket-changed_same t f keeps xs =
      find-changed (λ x. same_ticket t (ticket_of x)) (λ x. same_ticket t (ticket_of x)) f (λ x. ap (same_ticket t) (keeps x)) xs
      ∙ changes (of_ticket ticket_of t xs) (of_ticket-is t xs)
    where
      changes : (o : Option X) → ((x : X) → o ≡ Some x → ticket_of x ≡ t)
          → option_map (λ x. cond (same_ticket t (ticket_of x)) (f x) x) o ≡ option_map f o
      changes None is = refl
      changes (Some x) is =
          let same : same_ticket t (ticket_of x) ≡ true = subst (λ u. same_ticket t u ≡ true) (sym (is x refl)) (same_self t) in
          rw same

  pub of_ticket-pushed_same : (x : X) (xs : List X) → of_ticket ticket_of (ticket_of x) xs ≡ None
      → of_ticket ticket_of (ticket_of x) (xs ++ x ∷ []) ≡ Some x
  of_ticket-pushed_same x xs none = find-append (λ y. same_ticket (ticket_of x) (ticket_of y)) xs (x ∷ []) none
      ∙ rw (same_self (ticket_of x))

  -- another ticket's stays
  module _ (t s : Ticket) (differ : same_ticket t s ≡ false) where
    pub of_ticket-without_other : (xs : List X) → of_ticket ticket_of s (without ticket_of t xs) ≡ of_ticket ticket_of s xs
    of_ticket-without_other xs =
        find-without_other (λ x. same_ticket s (ticket_of x)) (λ x. same_ticket t (ticket_of x)) (apart t s differ) xs

    pub of_ticket-changed_other : (f : X → X) → ((x : X) → ticket_of (f x) ≡ ticket_of x) → (xs : List X)
        → of_ticket ticket_of s (changed ticket_of t f xs) ≡ of_ticket ticket_of s xs
    of_ticket-changed_other f keeps xs =
        find-changed (λ x. same_ticket s (ticket_of x)) (λ x. same_ticket t (ticket_of x)) f (λ x. ap (same_ticket s) (keeps x)) xs
        ∙ stays (of_ticket ticket_of s xs) (of_ticket-is s xs)
      where
        stays : (o : Option X) → ((x : X) → o ≡ Some x → ticket_of x ≡ s)
            → option_map (λ x. cond (same_ticket t (ticket_of x)) (f x) x) o ≡ o
        stays None is = refl
        stays (Some x) is =
            let other : same_ticket t (ticket_of x) ≡ false = subst (λ u. same_ticket t u ≡ false) (sym (is x refl)) differ in
            rw other

    pub of_ticket-pushed_other : (x : X) (xs : List X) → ticket_of x ≡ t → of_ticket ticket_of s (xs ++ x ∷ []) ≡ of_ticket ticket_of s xs
    of_ticket-pushed_other x xs is =
        find-append_none (λ y. same_ticket s (ticket_of y)) xs (x ∷ [])
        (rw (subst (λ u. same_ticket s u ≡ false) (sym is) (differ_sym t s differ)))

  -- each still comes once
  pub AreApart-without : (t : Ticket) (xs : List X) → AreApart ticket_of xs → AreApart ticket_of (without ticket_of t xs)
  AreApart-without t xs once s =
      omega (arith, once s, count-filter-le (λ x. same_ticket s (ticket_of x)) (λ x. not (same_ticket t (ticket_of x))) xs)

  pub AreApart-moved : (t : Ticket) (xs : List X) → AreApart ticket_of xs → AreApart ticket_of (moved_to_back ticket_of t xs)
  AreApart-moved t xs once s =
      omega (arith, once s, count-moved (λ x. same_ticket s (ticket_of x)) (λ x. same_ticket t (ticket_of x)) xs)

  pub AreApart-changed : (t : Ticket) (f : X → X) → ((x : X) → ticket_of (f x) ≡ ticket_of x) → (xs : List X) → AreApart ticket_of xs
      → AreApart ticket_of (changed ticket_of t f xs)
  AreApart-changed t f keeps xs once s =
      omega (
        arith,
        once s,
        count-changed (λ x. same_ticket s (ticket_of x)) (λ x. same_ticket t (ticket_of x)) f (λ x. ap (same_ticket s) (keeps x)) xs,
      )

  pub AreApart-pushed : (x : X) (xs : List X) → of_ticket ticket_of (ticket_of x) xs ≡ None → AreApart ticket_of xs
      → AreApart ticket_of (xs ++ x ∷ [])
  AreApart-pushed x xs none once s =
      elim (cases_ticket (ticket_of x) s) [
        | inl same ↦
            let fresh : count_by (λ y. same_ticket s (ticket_of y)) xs ≡ 0 =
            subst (λ u. count_by (λ y. same_ticket u (ticket_of y)) xs ≡ 0) same
            (count-none (λ y. same_ticket (ticket_of x) (ticket_of y)) xs none) in
            let one : count_by (λ y. same_ticket s (ticket_of y)) (x ∷ []) ≤ 1 = cond_le (same_ticket s (ticket_of x)) in
            omega (arith, count-append (λ y. same_ticket s (ticket_of y)) xs (x ∷ []), fresh, one)
        | inr differ ↦
            let none_more : count_by (λ y. same_ticket s (ticket_of y)) (x ∷ []) ≡ 0 = rw (differ_sym (ticket_of x) s differ) in
            omega (arith, count-append (λ y. same_ticket s (ticket_of y)) xs (x ∷ []), once s, none_more)
      ]
    where
      cond_le : (b : Bool) → 0 + cond b 1 0 ≤ 1
      cond_le true = omega arith
      cond_le false = omega arith
