-- Searches and counts in a list from which some are taken, or in which some are replaced or go to the back.
use Rattle.std.proofs.Common.{◌≡◌, ◌+◌, ◌≤◌, Bool, true, false, cond, not, List, [], ◌∷◌, ◌++◌, map, Some, None, refl, ◌∙◌, ap, arith}
use Rattle.std.proofs.Common.{inl, inr}
use Rattle.std.specs.List.{find, filter, count_by}
use Rattle.std.specs.Option.{option_map}
use Rattle.std.proofs.lemmas.Bool.{cases_Bool}
use Rattle.std.proofs.lemmas.List.Sums.{sum_by-cons, sum_by-append}

module _ {X : Type 0} (p : X → Bool) where
  -- a search in two lists one behind the other
  pub find-append : (xs ys : List X) → find p xs ≡ None → find p (xs ++ ys) ≡ find p ys
  find-append [] ys none = refl
  find-append (x ∷ xs) ys none =
      elim (cases_Bool (p x)) [
        | inl passes ↦ let found : Some x ≡ None = rw passes at none in absurd (cc)
        | inr fails ↦ rw fails (find-append xs ys (rw fails at none))
      ]

  pub find-append_found : (xs ys : List X) (x : X) → find p xs ≡ Some x → find p (xs ++ ys) ≡ Some x
  find-append_found [] ys y found = absurd (cc)
  find-append_found (x ∷ xs) ys y found =
      elim (cases_Bool (p x)) [
        | inl passes ↦ rw passes (rw passes at found)
        | inr fails ↦ rw fails (find-append_found xs ys y (rw fails at found))
      ]

  pub find-append_none : (xs ys : List X) → find p ys ≡ None → find p (xs ++ ys) ≡ find p xs
  find-append_none [] ys none = none
  find-append_none (x ∷ xs) ys none = ap (λ o. cond (p x) (Some x) o) (find-append_none xs ys none)

  -- where those that pass are taken away
  pub find-without_same : (xs : List X) → find p (filter (λ x. not (p x)) xs) ≡ None
  find-without_same [] = refl
  find-without_same (x ∷ xs) =
      elim (cases_Bool (p x)) [
        | inl passes ↦ rw passes (find-without_same xs)
        | inr fails ↦ rw fails (rw fails (find-without_same xs))
      ]

  pub find-kept_same : (xs : List X) → find p (filter p xs) ≡ find p xs
  find-kept_same [] = refl
  find-kept_same (x ∷ xs) =
      elim (cases_Bool (p x)) [
        | inl passes ↦ rw passes (rw passes)
        | inr fails ↦ rw fails (find-kept_same xs)
      ]

  -- where some are changed and pass as before
  pub find-changed : (q : X → Bool) (f : X → X) → ((x : X) → p (f x) ≡ p x) → (xs : List X)
      → find p (map (λ x. cond (q x) (f x) x) xs) ≡ option_map (λ x. cond (q x) (f x) x) (find p xs)
  find-changed q f keeps [] = refl
  find-changed q f keeps (x ∷ xs) =
      elim (cases_Bool (q x)) [
        | inl change ↦
            elim (cases_Bool (p x)) [
              | inl passes ↦ rw change (rw (keeps x, passes) (rw change))
              | inr fails ↦ rw change (rw (keeps x, fails) (find-changed q f keeps xs))
            ]
        | inr stay ↦
            elim (cases_Bool (p x)) [
              | inl passes ↦ rw stay (rw passes (rw stay))
              | inr fails ↦ rw stay (rw fails (find-changed q f keeps xs))
            ]
      ]

  module _ (q : X → Bool) (apart : (x : X) → p x ≡ true → q x ≡ false) where
    -- where others are taken away, go to the back, or are replaced by others
    pub find-without_other : (xs : List X) → find p (filter (λ x. not (q x)) xs) ≡ find p xs
    find-without_other [] = refl
    find-without_other (x ∷ xs) =
        elim (cases_Bool (p x)) [
          | inl passes ↦ rw (apart x passes) (rw passes)
          | inr fails ↦
              elim (cases_Bool (q x)) [
                | inl gone ↦ rw (gone, fails) (find-without_other xs)
                | inr kept ↦ rw kept (rw fails (find-without_other xs))
              ]
        ]

    pub find-kept_other : (xs : List X) → find p (filter q xs) ≡ None
    find-kept_other [] = refl
    find-kept_other (x ∷ xs) =
        elim (cases_Bool (p x)) [
          | inl passes ↦ rw (apart x passes) (find-kept_other xs)
          | inr fails ↦
              elim (cases_Bool (q x)) [
                | inl kept ↦ rw kept (rw fails (find-kept_other xs))
                | inr gone ↦ rw gone (find-kept_other xs)
              ]
        ]

  -- counts
  pub count-append : (xs ys : List X) → count_by p (xs ++ ys) ≡ count_by p xs + count_by p ys
  count-append xs ys = sum_by-append (λ x. cond (p x) 1 0) xs ys

  pub count-cons : (x : X) (xs : List X) → count_by p (x ∷ xs) ≡ cond (p x) 1 0 + count_by p xs
  count-cons x xs = sum_by-cons (λ x. cond (p x) 1 0) x xs

  pub count-none : (xs : List X) → find p xs ≡ None → count_by p xs ≡ 0
  count-none [] none = refl
  count-none (x ∷ xs) none =
      elim (cases_Bool (p x)) [
        | inl passes ↦ let found : Some x ≡ None = rw passes at none in absurd (cc)
        | inr fails ↦ count-cons x xs ∙ rw fails (omega (arith, count-none xs (rw fails at none)))
      ]

  module _ (q : X → Bool) where
    pub count-filter-le : (xs : List X) → count_by p (filter q xs) ≤ count_by p xs
    count-filter-le [] = omega arith
    count-filter-le (x ∷ xs) =
        elim (cases_Bool (q x)) [
          | inl kept ↦ rw kept (omega (arith, count-cons x xs, count-cons x (filter q xs), count-filter-le xs))
          | inr gone ↦ rw gone (omega (arith, count-cons x xs, count-filter-le xs))
        ]

    -- to the back: none is lost
    pub count-moved : (xs : List X) → count_by p (filter (λ x. not (q x)) xs ++ filter q xs) ≡ count_by p xs
    count-moved [] = refl
    count-moved (x ∷ xs) =
        let away = filter (λ x. not (q x)) xs in
        let kept = filter q xs in
        let ih = count-moved xs in
        elim (cases_Bool (q x)) [
          | inl passes ↦
              rw passes (omega (arith, count-append away (x ∷ kept), count-cons x kept, count-append away kept, count-cons x xs, ih))
          | inr fails ↦ rw fails (omega (arith, count-cons x (away ++ kept), count-cons x xs, ih))
        ]

    -- changed in place
    pub count-changed : (f : X → X) → ((x : X) → p (f x) ≡ p x) → (xs : List X)
        → count_by p (map (λ x. cond (q x) (f x) x) xs) ≡ count_by p xs
    count-changed f same [] = refl
    count-changed f same (x ∷ xs) =
        let ih = count-changed f same xs in
        let rest = map (λ x. cond (q x) (f x) x) xs in
        elim (cases_Bool (q x)) [
          | inl passes ↦ rw passes (count-cons (f x) rest ∙ rw (same x) (omega (arith, ih, count-cons x xs)))
          | inr fails ↦ rw fails (omega (arith, count-cons x rest, count-cons x xs, ih))
        ]
