-- Lemmas on what is seen of nodes under ids: where exactly one id passes a test, a change at that id is the change at what passes.
use Rattle.std.proofs.Common.{◌≡◌, ℕ, Bool, true, false, cond, nat_eq, not, List, [], ◌∷◌, ◌++◌, map, filter, Some, None, refl, sym, ap}
use Rattle.std.proofs.Common.{◌∙◌, inl, inr, subst}
use Rattle.std.proofs.lemmas.Bool.{cases_Bool, cond-true, cond-false, eqb-true}
use Rattle.std.proofs.lemmas.Map.Keys.{IsDistinct-head, IsDistinct-tail}
use Rattle.std.specs.List.{IsDistinct, AllByRecursion, find}
use Rattle.std.specs.Map.{lookup, remove_entry, set_value, keys_of, values_of}
use Rattle.moka_list.proofs.IdLemmas.{some_parts, not_none}

module _ {X Y : Type 0} (m : X → Y) where
  pub seen-push : (es : List (ℕ × X)) (p : ℕ × X) → map m (values_of (es ++ p ∷ [])) ≡ map m (values_of es) ++ m p.1 ∷ []
  seen-push [] p = refl
  seen-push (q ∷ es) p = ap (λ l. m q.1 ∷ l) (seen-push es p)

  -- where all pass a test exactly under one id
  module _ (test : Y → Bool) (id : ℕ) where
    abbrev pub Agrees : List (ℕ × X) → Type 0
    Agrees es = AllByRecursion (λ p. test (m p.1) ≡ nat_eq id p.0) es

    fails : (fs : List (ℕ × X)) → Agrees fs → AllByRecursion (λ k. nat_eq id k ≡ false) (keys_of fs)
        → AllByRecursion (λ p. test (m p.1) ≡ false) fs
    fails [] b c = tt
    fails (q ∷ fs) b c = (b.0 ∙ c.0, fails fs b.1 c.1)

    none_passes : (fs : List (ℕ × X)) → AllByRecursion (λ p. test (m p.1) ≡ false) fs → filter test (map m (values_of fs)) ≡ []
    none_passes [] a = refl
    none_passes (q ∷ fs) a = cond-false (test (m q.1)) _ _ a.0 ∙ none_passes fs a.1

    all_stay : (fs : List (ℕ × X)) → AllByRecursion (λ p. test (m p.1) ≡ false) fs
        → filter (λ y. not (test y)) (map m (values_of fs)) ≡ map m (values_of fs)
    all_stay [] a = refl
    all_stay (q ∷ fs) a = cond-true (not (test (m q.1))) _ _ (ap not a.0) ∙ ap (λ l. m q.1 ∷ l) (all_stay fs a.1)

    none_changes : (f : Y → Y) (fs : List (ℕ × X)) → AllByRecursion (λ p. test (m p.1) ≡ false) fs
        → map (λ y. cond (test y) (f y) y) (map m (values_of fs)) ≡ map m (values_of fs)
    none_changes f [] a = refl
    none_changes f (q ∷ fs) a = λ i. cond-false (test (m q.1)) (f (m q.1)) (m q.1) a.0 i ∷ none_changes f fs a.1 i

    behind_fail : (p : ℕ × X) (es : List (ℕ × X)) → IsDistinct nat_eq (keys_of (p ∷ es)) → Agrees es → nat_eq id p.0 ≡ true
        → AllByRecursion (λ p. test (m p.1) ≡ false) es
    behind_fail p es d a same =
        fails es a
        (subst (λ i. AllByRecursion (λ k. nat_eq i k ≡ false) (keys_of es)) (sym (eqb-true id p.0 same))
        (IsDistinct-head nat_eq p.0 (keys_of es) d))

    module _ (x : X) where
      is_it : (p : ℕ × X) (es : List (ℕ × X)) → lookup (nat_eq id) (p ∷ es) ≡ Some x → nat_eq id p.0 ≡ true → p.1 ≡ x
      is_it p es h same = some_parts p.1 x (sym (cond-true (nat_eq id p.0) (Some p.1) (lookup (nat_eq id) es) same) ∙ h)

      it_is_behind : (p : ℕ × X) (es : List (ℕ × X)) → lookup (nat_eq id) (p ∷ es) ≡ Some x → nat_eq id p.0 ≡ false
          → lookup (nat_eq id) es ≡ Some x
      it_is_behind p es h other = sym (cond-false (nat_eq id p.0) (Some p.1) (lookup (nat_eq id) es) other) ∙ h

      -- the one that passes is found
      pub seen-find : (es : List (ℕ × X)) → Agrees es → lookup (nat_eq id) es ≡ Some x → find test (map m (values_of es)) ≡ Some (m x)
      seen-find [] a h = not_none x (sym h)
      seen-find (p ∷ es) a h =
          elim (cases_Bool (nat_eq id p.0)) [
            | inl same ↦ cond-true (test (m p.1)) _ _ (a.0 ∙ same) ∙ ap (λ z. Some (m z)) (is_it p es h same)
            | inr other ↦ cond-false (test (m p.1)) _ _ (a.0 ∙ other) ∙ seen-find es a.1 (it_is_behind p es h other)
          ]

      -- it is the only one
      seen-only : (es : List (ℕ × X)) → IsDistinct nat_eq (keys_of es) → Agrees es → lookup (nat_eq id) es ≡ Some x
          → filter test (map m (values_of es)) ≡ m x ∷ []
      seen-only [] d a h = not_none x (sym h)
      seen-only (p ∷ es) d a h =
          elim (cases_Bool (nat_eq id p.0)) [
            | inl same ↦
                cond-true (test (m p.1)) _ _ (a.0 ∙ same)
                ∙ (λ i. m (is_it p es h same i) ∷ none_passes es (behind_fail p es d a.1 same) i)
            | inr other ↦
                cond-false (test (m p.1)) _ _ (a.0 ∙ other)
                ∙ seen-only es (IsDistinct-tail nat_eq p.0 (keys_of es) d) a.1 (it_is_behind p es h other)
          ]

      -- without it the others are left
      pub seen-remove : (es : List (ℕ × X)) → IsDistinct nat_eq (keys_of es) → Agrees es
          → map m (values_of (remove_entry (nat_eq id) es)) ≡ filter (λ y. not (test y)) (map m (values_of es))
      seen-remove [] d a = refl
      seen-remove (p ∷ es) d a =
          elim (cases_Bool (nat_eq id p.0)) [
            | inl same ↦
                ap (λ l. map m (values_of l)) (cond-true (nat_eq id p.0) _ _ same)
                ∙ (sym (all_stay es (behind_fail p es d a.1 same)) ∙ sym (cond-false (not (test (m p.1))) _ _ (ap not (a.0 ∙ same))))
            | inr other ↦
                ap (λ l. map m (values_of l)) (cond-false (nat_eq id p.0) _ _ other)
                ∙ (ap (λ l. m p.1 ∷ l) (seen-remove es (IsDistinct-tail nat_eq p.0 (keys_of es) d) a.1)
                ∙ sym (cond-true (not (test (m p.1))) _ _ (ap not (a.0 ∙ other))))
          ]

      -- it goes to the back
      pub seen-moved : (es : List (ℕ × X)) → IsDistinct nat_eq (keys_of es) → Agrees es → lookup (nat_eq id) es ≡ Some x
          → map m (values_of (remove_entry (nat_eq id) es ++ (id, x) ∷ []))
          ≡ filter (λ y. not (test y)) (map m (values_of es)) ++ filter test (map m (values_of es))
      seen-moved es d a h =
          seen-push (remove_entry (nat_eq id) es) (id, x)
          ∙ (λ i. seen-remove es d a i ++ sym (seen-only es d a h) i)

      -- it is changed in its place
      pub seen-set : (f : Y → Y) (y : X) → m y ≡ f (m x) → (es : List (ℕ × X)) → IsDistinct nat_eq (keys_of es) → Agrees es
          → lookup (nat_eq id) es ≡ Some x
          → map m (values_of (set_value (nat_eq id) es y)) ≡ map (λ z. cond (test z) (f z) z) (map m (values_of es))
      seen-set f y is [] d a h = refl
      seen-set f y is (p ∷ es) d a h =
          elim (cases_Bool (nat_eq id p.0)) [
            | inl same ↦
                ap (λ l. map m (values_of l)) (cond-true (nat_eq id p.0) _ _ same)
                ∙ sym (λ i. (cond-true (test (m p.1)) (f (m p.1)) (m p.1) (a.0 ∙ same)
                ∙ (ap (λ z. f (m z)) (is_it p es h same) ∙ sym is)) i ∷ none_changes f es (behind_fail p es d a.1 same) i)
            | inr other ↦
                ap (λ l. map m (values_of l)) (cond-false (nat_eq id p.0) _ _ other)
                ∙ sym (λ i. cond-false (test (m p.1)) (f (m p.1)) (m p.1) (a.0 ∙ other) i
                ∷ sym (seen-set f y is es (IsDistinct-tail nat_eq p.0 (keys_of es) d) a.1 (it_is_behind p es h other)) i)
          ]

      -- it is changed in its place, and what is seen of it is not
      pub seen-same : (y : X) → m y ≡ m x → (es : List (ℕ × X)) → lookup (nat_eq id) es ≡ Some x
          → map m (values_of (set_value (nat_eq id) es y)) ≡ map m (values_of es)
      seen-same y is [] h = refl
      seen-same y is (p ∷ es) h =
          elim (cases_Bool (nat_eq id p.0)) [
            | inl same ↦
                ap (λ l. map m (values_of l)) (cond-true (nat_eq id p.0) _ _ same)
                ∙ ap (λ z. z ∷ map m (values_of es)) (is ∙ ap m (sym (is_it p es h same)))
            | inr other ↦
                ap (λ l. map m (values_of l)) (cond-false (nat_eq id p.0) _ _ other)
                ∙ ap (λ l. m p.1 ∷ l) (seen-same y is es (it_is_behind p es h other))
          ]

  -- where none passes, none is found
  pub seen-absent : (test : Y → Bool) (es : List (ℕ × X)) → AllByRecursion (λ p. test (m p.1) ≡ false) es
      → find test (map m (values_of es)) ≡ None
  seen-absent test [] a = refl
  seen-absent test (p ∷ es) a = cond-false (test (m p.1)) _ _ a.0 ∙ seen-absent test es a.1
