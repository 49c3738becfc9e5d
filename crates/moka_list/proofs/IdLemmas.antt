-- Lemmas on lists of elements under ids: what is found under an id after a change, and that ids stay distinct.
use Rattle.std.proofs.Common.{◌≡◌, ℕ, Bool, true, false, cond, nat_eq, List, [], ◌∷◌, ◌++◌, Contains, Option, Some, None}
use Rattle.std.proofs.Common.{is_some, unwrap_or, refl, sym, ap, ◌∙◌, inl, inr, subst}
use Rattle.std.proofs.lemmas.Bool.{cases_Bool, cond_both, cond-true, cond-false, false≢true}
use Rattle.std.proofs.lemmas.Cmp.{nat_eq_equiv}
use Rattle.std.proofs.lemmas.Map.{lookup-remove_entry}
use Rattle.std.proofs.lemmas.Map.Views.{lookup-from_Contains}
use Rattle.std.proofs.lemmas.Map.Keys.{IsDistinct-head, IsDistinct-tail, IsDistinct-cons, IsDistinct-push}
use Rattle.std.proofs.lemmas.List.Elements.{All-weaker, All-contains_itself, recursion_from_All}
use Rattle.std.specs.List.{IsDistinct, AllByRecursion, list_any}
use Rattle.std.specs.Map.{lookup, remove_entry, keys_of}
use Rattle.moka_list.specs.Nodes.{IsIn, moved_to_back}
use Rattle.moka_list.proofs.ItemLemmas.{lookup-push, nat_eq-same}

-- equal somethings are of equal parts
pub some_parts : {X : Type 0} (x y : X) → Some x ≡ Some y → x ≡ y
some_parts x y e = ap (λ o. unwrap_or o x) e

-- something is not nothing
pub not_none : {X : Type 0} {P : Type 0} (x : X) → Some x ≡ None → P
not_none x e = absurd (false≢true (sym (ap is_some e)))

module _ {X : Type 0} where
  -- what is in the list is a node
  pub node_at : (id : ℕ) (es : List (ℕ × X)) → IsIn es id → (x : X) × (lookup (nat_eq id) es ≡ Some x)
  node_at id es h = by (lookup (nat_eq id) es) refl
    where
      by : (o : Option X) → lookup (nat_eq id) es ≡ o → (x : X) × (lookup (nat_eq id) es ≡ Some x)
      by None e = absurd (false≢true (sym (ap is_some e) ∙ h))
      by (Some x) e = (x, e)

  -- each element is what is found under its own id
  pub each_found : (es : List (ℕ × X)) → IsDistinct nat_eq (keys_of es) → AllByRecursion (λ p. lookup (nat_eq p.0) es ≡ Some p.1) es
  each_found es distinct =
      recursion_from_All _ es
      (All-weaker (Contains es) (λ p. lookup (nat_eq p.0) es ≡ Some p.1)
      (λ p held. lookup-from_Contains nat_eq_equiv p.0 p.1 es distinct held) es (All-contains_itself es))

  -- what is found once an entry is out
  pub lookup-removed : (id q : ℕ) (es : List (ℕ × X)) → IsDistinct nat_eq (keys_of es)
      → lookup (nat_eq q) (remove_entry (nat_eq id) es) ≡ cond (nat_eq id q) None (lookup (nat_eq q) es)
  lookup-removed id q es distinct = lookup-remove_entry nat_eq_equiv (nat_eq id) (nat_eq_equiv.congr id) q es distinct

  -- what is found stays so behind others
  pub lookup-behind : (q : ℕ) (x : X) (es fs : List (ℕ × X)) → lookup (nat_eq q) es ≡ Some x → lookup (nat_eq q) (es ++ fs) ≡ Some x
  lookup-behind q x [] fs h = not_none x (sym h)
  lookup-behind q x (e ∷ es) fs h =
      elim (cases_Bool (nat_eq q e.0)) [
        | inl same ↦ cond-true (nat_eq q e.0) _ _ same ∙ (sym (cond-true (nat_eq q e.0) (Some e.1) (lookup (nat_eq q) es) same) ∙ h)
        | inr other ↦
            cond-false (nat_eq q e.0) _ _ other
            ∙ lookup-behind q x es fs (sym (cond-false (nat_eq q e.0) (Some e.1) (lookup (nat_eq q) es) other) ∙ h)
      ]

  -- what is found once an element is rewritten and at the back
  pub lookup-rewritten : (id q : ℕ) (x : X) (es : List (ℕ × X)) → IsDistinct nat_eq (keys_of es)
      → lookup (nat_eq q) (remove_entry (nat_eq id) es ++ (id, x) ∷ []) ≡ cond (nat_eq id q) (Some x) (lookup (nat_eq q) es)
  lookup-rewritten id q x es distinct =
      lookup-push q id x (remove_entry (nat_eq id) es) (lookup-removed id id es distinct ∙ cond-true (nat_eq id id) _ _ (nat_eq-same id))
      ∙ (ap (cond (nat_eq id q) (Some x)) (lookup-removed id q es distinct) ∙ twice (nat_eq id q) (lookup (nat_eq q) es))
    where
      twice : (b : Bool) (o : Option X) → cond b (Some x) (cond b None o) ≡ cond b (Some x) o
      twice true o = refl
      twice false o = refl

  keys_without : (P : ℕ → Type 0) (id : ℕ) (es : List (ℕ × X)) → AllByRecursion P (keys_of es)
      → AllByRecursion P (keys_of (remove_entry (nat_eq id) es))
  keys_without P id [] a = tt
  keys_without P id (e ∷ es) a =
      cond_both (nat_eq id e.0) es (e ∷ remove_entry (nat_eq id) es) (λ l. AllByRecursion P (keys_of l)) (λ _. a.1)
      (λ _. (a.0, keys_without P id es a.1))

  -- ids stay distinct without one
  pub IsDistinct-removed : (id : ℕ) (es : List (ℕ × X)) → IsDistinct nat_eq (keys_of es)
      → IsDistinct nat_eq (keys_of (remove_entry (nat_eq id) es))
  IsDistinct-removed id [] d = d
  IsDistinct-removed id (e ∷ es) d =
      cond_both (nat_eq id e.0) es (e ∷ remove_entry (nat_eq id) es) (λ l. IsDistinct nat_eq (keys_of l))
      (λ _. IsDistinct-tail nat_eq e.0 (keys_of es) d)
      (λ _. IsDistinct-cons nat_eq e.0 _ (keys_without (λ y. nat_eq e.0 y ≡ false) id es (IsDistinct-head nat_eq e.0 (keys_of es) d))
      (IsDistinct-removed id es (IsDistinct-tail nat_eq e.0 (keys_of es) d)))

  none_among : (id : ℕ) (es : List (ℕ × X)) → lookup (nat_eq id) es ≡ None → list_any (nat_eq id) (keys_of es) ≡ false
  none_among id [] h = refl
  none_among id (e ∷ es) h =
      elim (cases_Bool (nat_eq id e.0)) [
        | inl same ↦ not_none e.1 (sym (cond-true (nat_eq id e.0) (Some e.1) (lookup (nat_eq id) es) same) ∙ h)
        | inr other ↦ rw other (none_among id es (sym (cond-false (nat_eq id e.0) (Some e.1) (lookup (nat_eq id) es) other) ∙ h))
      ]

  keys_pushed : (es : List (ℕ × X)) (e : ℕ × X) → keys_of (es ++ e ∷ []) ≡ keys_of es ++ e.0 ∷ []
  keys_pushed [] e = refl
  keys_pushed (d ∷ es) e = ap (λ l. d.0 ∷ l) (keys_pushed es e)

  -- and with a new one
  pub IsDistinct-pushed : (id : ℕ) (x : X) (es : List (ℕ × X)) → IsDistinct nat_eq (keys_of es) → lookup (nat_eq id) es ≡ None
      → IsDistinct nat_eq (keys_of (es ++ (id, x) ∷ []))
  IsDistinct-pushed id x es d fresh =
      subst (IsDistinct nat_eq) (sym (keys_pushed es (id, x))) (IsDistinct-push nat_eq_equiv (keys_of es) id d (none_among id es fresh))

  -- and with one at the back that was elsewhere
  pub IsDistinct-rewritten : (id : ℕ) (x : X) (es : List (ℕ × X)) → IsDistinct nat_eq (keys_of es)
      → IsDistinct nat_eq (keys_of (remove_entry (nat_eq id) es ++ (id, x) ∷ []))
  IsDistinct-rewritten id x es d =
      IsDistinct-pushed id x (remove_entry (nat_eq id) es) (IsDistinct-removed id es d)
      (lookup-removed id id es d ∙ cond-true (nat_eq id id) _ _ (nat_eq-same id))

  -- one that is there, at the back
  pub moved-found : (id : ℕ) (x : X) (items : List (ℕ × X)) → lookup (nat_eq id) items ≡ Some x
      → moved_to_back id items ≡ remove_entry (nat_eq id) items ++ (id, x) ∷ []
  moved-found id x items h =
      ap (λ o. Rattle.std.specs.Option.option_map_or (λ element. remove_entry (nat_eq id) items ++ (id, element) ∷ []) o items) h
