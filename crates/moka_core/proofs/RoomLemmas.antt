-- Room for the operation of the caller of whole calls is always kept.
use Rattle.std.proofs.Common.{◌≡◌, ◌≢◌, ℕ, ◌+◌, ◌<◌, ◌≤◌, nat_eq, List, [], ◌∷◌, ◌++◌, Some, None, arith, inl, inr, refl, subst}
use Rattle.std.specs.Map.{lookup}
use Rattle.std.proofs.lemmas.Bool.{cases_Bool, cases_eq, eq-eqb}
use Rattle.moka_sync_model.specs.declared.constants.TheConstants.{CALLER}

-- what is pending is found
found_at_end : {X : Type 0} (key : ℕ) (xs : List (ℕ × X)) (x : X) → lookup (nat_eq key) (xs ++ (key, x) ∷ []) ≡ None → ⊥
found_at_end {X} key [] x none =
    let is : Some x ≡ None = rw (eq-eqb key key refl) at none in absurd (cc)
found_at_end key (y ∷ xs) x none =
    elim (cases_Bool (nat_eq key y.0)) [
      | inl here ↦ let is : Some y.1 ≡ None = rw here at none in absurd (cc)
      | inr there ↦ found_at_end key xs x (rw there at none)
    ]

-- after a caller's operation is put, there is room if it isn't that of whole calls
pub spare_after_put : {X : Type 0} (caller : ℕ) (operations : List (ℕ × X)) (operation : X) (old new : ℕ) → (caller ≢ CALLER → 1 < old)
    → old ≤ new + 1 → lookup (nat_eq CALLER) (operations ++ (caller, operation) ∷ []) ≡ None → 0 < new
spare_after_put {X} caller operations operation old new another room none =
    elim (cases_eq caller CALLER) [
      | inl own ↦ absurd (found_at_end CALLER operations operation
          (subst (λ n. lookup (nat_eq CALLER) (operations ++ (n, operation) ∷ []) ≡ None) own none))
      | inr other ↦ omega (arith, another other, room)
    ]
