-- Lemmas on a list under ids that is cut at one of its elements.
use Rattle.std.proofs.Common.{◌≡◌, ℕ, suc, false, cond, nat_eq, List, [], ◌∷◌, ◌++◌, length, Some, None, slice_get}
use Rattle.std.proofs.Common.{refl, ap, ◌∙◌, arith}
use Rattle.std.proofs.lemmas.Bool.{cond-true, cond-false}
use Rattle.std.specs.Map.{lookup, remove_entry, set_value}
use Rattle.moka_list.specs.Nodes.{first_id, next_id}
use Rattle.moka_list.specs.Nodes.{AreApart}
use Rattle.moka_list.proofs.ItemLemmas.{nat_eq-same, nat_eq_comm, ne_comm, cond_swap, not_both, absent_head, absent_tail, absent_cons, remove-same}
use Rattle.moka_list.proofs.ItemLemmas.{remove-other, set-same, set-other}

module _ {X : Type 0} where
  -- the last of a list
  pub get-push_same : (xs : List X) (y : X) → slice_get (xs ++ y ∷ []) (length xs) ≡ Some y
  get-push_same [] y = refl
  get-push_same (x ∷ xs) y = let more : length (x ∷ xs) ≡ suc (length xs) = omega arith in ap (slice_get (x ∷ xs ++ y ∷ [])) more ∙ get-push_same xs y

  -- a list under ids, cut at one of its elements
  pub absent-cut : (q : ℕ) (xs : List (ℕ × X)) (e : ℕ × X) (ys : List (ℕ × X)) → lookup (nat_eq q) (xs ++ e ∷ ys) ≡ None
      → (nat_eq q e.0 ≡ false) × (lookup (nat_eq q) (xs ++ ys) ≡ None)
  absent-cut q [] e ys h = (absent_head q e ys h, absent_tail q e ys h)
  absent-cut q (x ∷ xs) e ys h =
      let on = absent-cut q xs e ys (absent_tail q x (xs ++ e ∷ ys) h) in
      (on.0, absent_cons q x (xs ++ ys) (absent_head q x (xs ++ e ∷ ys) h) on.1)

  pub absent-with : (q : ℕ) (xs : List (ℕ × X)) (e : ℕ × X) (ys : List (ℕ × X)) → nat_eq q e.0 ≡ false → lookup (nat_eq q) (xs ++ ys) ≡ None
      → lookup (nat_eq q) (xs ++ e ∷ ys) ≡ None
  absent-with q [] e ys f h = absent_cons q e ys f h
  absent-with q (x ∷ xs) e ys f h = absent_cons q x (xs ++ e ∷ ys) (absent_head q x (xs ++ ys) h) (absent-with q xs e ys f (absent_tail q x (xs ++ ys) h))

  pub apart-out : (xs : List (ℕ × X)) (e : ℕ × X) (ys : List (ℕ × X)) → AreApart (xs ++ e ∷ ys) → AreApart (xs ++ ys) × (lookup (nat_eq e.0) (xs ++ ys) ≡ None)
  apart-out [] e ys a = (a.1, a.0)
  apart-out (x ∷ xs) e ys a =
      let on = apart-out xs e ys a.1 in let off = absent-cut x.0 xs e ys a.0 in
      ((off.1, on.0), absent_cons e.0 x (xs ++ ys) (ne_comm x.0 e.0 off.0) on.1)

  pub apart-in : (xs : List (ℕ × X)) (e : ℕ × X) (ys : List (ℕ × X)) → AreApart (xs ++ ys) → lookup (nat_eq e.0) (xs ++ ys) ≡ None → AreApart (xs ++ e ∷ ys)
  apart-in [] e ys a h = (h, a)
  apart-in (x ∷ xs) e ys a h =
      (absent-with x.0 xs e ys (ne_comm e.0 x.0 (absent_head e.0 x (xs ++ ys) h)) a.0, apart-in xs e ys a.1 (absent_tail e.0 x (xs ++ ys) h))

  pub lookup-cut : (q : ℕ) (xs : List (ℕ × X)) (e : ℕ × X) (ys : List (ℕ × X)) → AreApart (xs ++ e ∷ ys)
      → lookup (nat_eq q) (xs ++ e ∷ ys) ≡ cond (nat_eq q e.0) (Some e.1) (lookup (nat_eq q) (xs ++ ys))
  lookup-cut q [] e ys a = refl
  lookup-cut q (x ∷ xs) e ys a =
      let off = absent-cut x.0 xs e ys a.0 in
      ap (cond (nat_eq q x.0) (Some x.1)) (lookup-cut q xs e ys a.1)
      ∙ cond_swap (nat_eq q x.0) (nat_eq q e.0) (Some x.1) (Some e.1) (lookup (nat_eq q) (xs ++ ys))
      (λ p r. not_both x.0 e.0 q off.0 (nat_eq_comm x.0 q ∙ p) (nat_eq_comm e.0 q ∙ r))

  pub value-cut : (xs : List (ℕ × X)) (e : ℕ × X) (ys : List (ℕ × X)) → AreApart (xs ++ e ∷ ys) → lookup (nat_eq e.0) (xs ++ e ∷ ys) ≡ Some e.1
  value-cut xs e ys a = lookup-cut e.0 xs e ys a ∙ cond-true (nat_eq e.0 e.0) (Some e.1) (lookup (nat_eq e.0) (xs ++ ys)) (nat_eq-same e.0)

  pub remove-cut : (xs : List (ℕ × X)) (e : ℕ × X) (ys : List (ℕ × X)) → AreApart (xs ++ e ∷ ys) → remove_entry (nat_eq e.0) (xs ++ e ∷ ys) ≡ xs ++ ys
  remove-cut [] e ys a = remove-same e.0 e ys (nat_eq-same e.0)
  remove-cut (x ∷ xs) e ys a =
      remove-other e.0 x (xs ++ e ∷ ys) (ne_comm x.0 e.0 (absent-cut x.0 xs e ys a.0).0) ∙ ap (λ l. x ∷ l) (remove-cut xs e ys a.1)

  pub next-cut : (xs : List (ℕ × X)) (e : ℕ × X) (ys : List (ℕ × X)) → AreApart (xs ++ e ∷ ys) → next_id e.0 (xs ++ e ∷ ys) ≡ first_id ys
  next-cut [] e ys a = cond-true (nat_eq e.0 e.0) (first_id ys) (next_id e.0 ys) (nat_eq-same e.0)
  next-cut (x ∷ xs) e ys a =
      cond-false (nat_eq e.0 x.0) (first_id (xs ++ e ∷ ys)) (next_id e.0 (xs ++ e ∷ ys)) (ne_comm x.0 e.0 (absent-cut x.0 xs e ys a.0).0) ∙ next-cut xs e ys a.1

  pub set-cut : (xs : List (ℕ × X)) (e : ℕ × X) (ys : List (ℕ × X)) (w : X) → AreApart (xs ++ e ∷ ys)
      → set_value (nat_eq e.0) (xs ++ e ∷ ys) w ≡ xs ++ (e.0, w) ∷ ys
  set-cut [] e ys w a = set-same e.0 e ys w (nat_eq-same e.0)
  set-cut (x ∷ xs) e ys w a =
      set-other e.0 x (xs ++ e ∷ ys) w (ne_comm x.0 e.0 (absent-cut x.0 xs e ys a.0).0) ∙ ap (λ l. x ∷ l) (set-cut xs e ys w a.1)
