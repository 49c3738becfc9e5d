-- Lemmas on what an iterator gives.
use Rattle.std.proofs.Common.{◌≤◌, ℕ, not, List, [], ◌∷◌, filter, length, inl, inr, arith}
use Rattle.std.proofs.lemmas.Bool.{cases_Bool, cond-true, cond-false}
use Rattle.moka_common.specs.Policy.{Policy}
use Rattle.moka_unsync_model.specs.declared.entry.Entry.{Entry}
use Rattle.moka_unsync_model.specs.Iterate.{unexpired_pairs}
use Rattle.moka_unsync_model.specs.Cleanup.{is_expired}

-- no more pairs than entries
pub length-unexpired : {K V : Type 0} (policy : Policy) (now : ℕ) (entries : List (Entry K V))
    → length (unexpired_pairs policy now entries) ≤ length entries
length-unexpired policy now [] = grind (arith)
length-unexpired policy now (e ∷ es) =
    let fresh = not (is_expired policy now e) in
    let kept = filter (λ e. not (is_expired policy now e)) es in
    elim (cases_Bool fresh) [
      | inl stays ↦ rw (cond-true fresh (e ∷ kept) kept stays) (grind (arith, length-unexpired policy now es))
      | inr leaves ↦ rw (cond-false fresh (e ∷ kept) kept leaves) (grind (arith, length-unexpired policy now es))
    ]
