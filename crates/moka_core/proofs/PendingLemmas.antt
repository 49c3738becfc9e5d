-- The first entry of a caller, in a list of pairs.
use Rattle.std.proofs.Common.{◌≡◌, ℕ, suc, ◌+◌, ◌<◌, Bool, true, false, List, [], ◌∷◌, ◌++◌, length, get_or, take, drop, Some}
use Rattle.std.proofs.Common.{None, refl, sym, ◌∙◌, ap, inl, inr}
use Rattle.std.specs.List.{find, remove}
use Rattle.std.specs.Map.{lookup, remove_entry}
use Rattle.std.specs.Option.{option_map}
use Rattle.std.proofs.lemmas.Bool.{cases_Bool}
use Rattle.moka_core.proofs.FindLemmas.{split_at_place, find-at, find-take_more}

module _ {X : Type 0} (test : ℕ → Bool) where
  -- a value is looked up by the first entry that passes
  pub lookup-find : (es : List (ℕ × X)) → lookup test es ≡ option_map (λ e. e.1) (find (λ e. test e.0) es)
  lookup-find [] = refl
  lookup-find (e ∷ es) =
      elim (cases_Bool (test e.0)) [
        | inl passes ↦ rw passes refl
        | inr fails ↦ rw fails (lookup-find es)
      ]

  -- where the first entry that passes stands behind others, it leaves
  remove-behind : (es : List (ℕ × X)) (e : ℕ × X) (later : List (ℕ × X)) → find (λ e. test e.0) es ≡ None → test e.0 ≡ true
      → remove_entry test (es ++ e ∷ later) ≡ es ++ later
  remove-behind [] e later none passes = rw passes refl
  remove-behind (x ∷ es) e later none passes =
      elim (cases_Bool (test x.0)) [
        | inl here ↦ let is : Some x ≡ None = rw here at none in absurd (cc)
        | inr there ↦ rw there (ap (λ xs. x ∷ xs) (remove-behind es e later (rw there at none) passes))
      ]

  -- where none is looked up, none leaves
  pub remove-none : (es : List (ℕ × X)) → lookup test es ≡ None → remove_entry test es ≡ es
  remove-none [] none = refl
  remove-none (e ∷ es) none =
      elim (cases_Bool (test e.0)) [
        | inl passes ↦ let is : Some e.1 ≡ None = rw passes at none in absurd (cc)
        | inr fails ↦ rw fails (ap (λ xs. e ∷ xs) (remove-none es (rw fails at none)))
      ]

  -- where none is looked up, none passes
  none-passes : (es : List (ℕ × X)) → lookup test es ≡ None → find (λ e. test e.0) es ≡ None
  none-passes [] none = refl
  none-passes (e ∷ es) none =
      elim (cases_Bool (test e.0)) [
        | inl passes ↦ let is : Some e.1 ≡ None = rw passes at none in absurd (cc)
        | inr fails ↦ rw fails (none-passes es (rw fails at none))
      ]

  module _ (es : List (ℕ × X)) (i : ℕ) (e : ℕ × X) (below : i < length es) (read : e ≡ get_or es i e)
      (none : lookup test (take i es) ≡ None) where
    -- one more that fails
    pub lookup-take_more : test e.0 ≡ false → lookup test (take (i + 1) es) ≡ None
    lookup-take_more fails =
        lookup-find (take (i + 1) es)
        ∙ ap (option_map (λ (p : ℕ × X). p.1))
        (find-take_more (λ (p : ℕ × X). test p.0) es i e below read fails (none-passes (take i es) none))

    -- the first that passes, where it stands
    pub lookup-at : test e.0 ≡ true → lookup test es ≡ Some e.1
    lookup-at passes =
        lookup-find es
        ∙ ap (option_map (λ (p : ℕ × X). p.1)) (find-at (λ (p : ℕ × X). test p.0) es i e below read passes (none-passes (take i es) none))

    -- it leaves
    pub remove-at : test e.0 ≡ true → remove es i ≡ remove_entry test es
    remove-at passes =
        sym (ap (remove_entry test) (split_at_place es i e below read)
        ∙ remove-behind (take i es) e (drop (suc i) es) (none-passes (take i es) none) passes)
