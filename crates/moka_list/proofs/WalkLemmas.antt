-- Lemmas on walks through a list of elements under ids, from one on.
use Rattle.std.proofs.Common.{◌≡◌, ◌<◌, ℕ, true, false, cond, nat_eq, List, [], ◌∷◌, length, Option, Some, None}
use Rattle.std.proofs.Common.{is_some, unwrap_or, refl, sym, ap, ◌∙◌, inl, inr, arith, subst}
use Rattle.std.proofs.lemmas.Bool.{cases_Bool, cond_both, cond-true, cond-false, eqb-true, false≢true}
use Rattle.std.proofs.lemmas.Map.Keys.{IsDistinct-head, IsDistinct-tail}
use Rattle.std.proofs.lemmas.Cmp.{nat_eq_equiv}
use Rattle.std.specs.List.{IsDistinct, AllByRecursion}
use Rattle.std.specs.Map.{lookup, remove_entry, keys_of}
use Rattle.moka_list.specs.Nodes.{IsIn, first_id, next_id}
use Rattle.moka_list.specs.Nodes.{items_from}
use Rattle.moka_list.specs.Nodes.{AreApart}
use Rattle.moka_list.proofs.ItemLemmas.{distinct_from_apart, nat_eq-same}

module _ {X : Type 0} where
  -- the nodes from one on
  unfoldable pub from_node : Option ℕ → List (ℕ × X) → List (ℕ × X)
  from_node None items = []
  from_node (Some id) [] = []
  from_node (Some id) (e ∷ es) = cond (nat_eq id e.0) (e ∷ es) (from_node (Some id) es)

  -- from the first on it is all of them
  pub from_first : (items : List (ℕ × X)) → from_node (first_id items) items ≡ items
  unfolding from_node
  from_first [] = refl
  from_first (e ∷ es) = cond-true (nat_eq e.0 e.0) _ _ (nat_eq-same e.0)

  pub from_none : (items : List (ℕ × X)) → from_node None items ≡ []
  unfolding from_node
  from_none items = refl

  -- behind another node nothing changes
  past_head : (e : ℕ × X) (es : List (ℕ × X)) → AllByRecursion (λ k. nat_eq e.0 k ≡ false) (keys_of es) → (o : Option ℕ)
      → Rattle.std.specs.Prelude.IfSome o (λ id. IsIn es id) → from_node o (e ∷ es) ≡ from_node o es
  unfolding from_node
  past_head e es apart None h = refl
  past_head e es apart (Some id) h = cond-false (nat_eq id e.0) _ _ (differs es apart h)
    where
      differs : (fs : List (ℕ × X)) → AllByRecursion (λ k. nat_eq e.0 k ≡ false) (keys_of fs) → IsIn fs id → nat_eq id e.0 ≡ false
      differs [] a k = absurd (false≢true k)
      differs (f ∷ fs) a k =
          elim (cases_Bool (nat_eq id f.0)) [
            | inl same ↦ nat_eq_equiv.symm id e.0 ∙ (ap (nat_eq e.0) (eqb-true id f.0 same) ∙ a.0)
            | inr other ↦ differs fs a.1 (ap is_some (sym (cond-false (nat_eq id f.0) (Some f.1) (lookup (nat_eq id) fs) other)) ∙ k)
          ]

  -- the first node is one of the list
  pub first_is_in : (es : List (ℕ × X)) → Rattle.std.specs.Prelude.IfSome (first_id es) (λ id. IsIn es id)
  first_is_in [] = tt
  first_is_in (e ∷ es) = ap is_some (cond-true (nat_eq e.0 e.0) (Some e.1) (lookup (nat_eq e.0) es) (nat_eq-same e.0))

  behind_head : (e : ℕ × X) (es : List (ℕ × X)) (o : Option ℕ) → Rattle.std.specs.Prelude.IfSome o (λ id. IsIn es id)
      → Rattle.std.specs.Prelude.IfSome o (λ id. IsIn (e ∷ es) id)
  behind_head e es None h = tt
  behind_head e es (Some id) h = cond_both (nat_eq id e.0) (Some e.1) (lookup (nat_eq id) es) (λ o. is_some o ≡ true) (λ _. refl) (λ _. h)

  -- the next node is one of the list
  pub next_is_in : (id : ℕ) (items : List (ℕ × X)) → Rattle.std.specs.Prelude.IfSome (next_id id items) (λ j. IsIn items j)
  next_is_in id [] = tt
  next_is_in id (e ∷ es) =
      elim (cases_Bool (nat_eq id e.0)) [
        | inl same ↦
            subst (λ o. Rattle.std.specs.Prelude.IfSome o (λ j. IsIn (e ∷ es) j))
            (sym (cond-true (nat_eq id e.0) (first_id es) (next_id id es) same)) (behind_head e es (first_id es) (first_is_in es))
        | inr other ↦
            subst (λ o. Rattle.std.specs.Prelude.IfSome o (λ j. IsIn (e ∷ es) j))
            (sym (cond-false (nat_eq id e.0) (first_id es) (next_id id es) other)) (behind_head e es (next_id id es) (next_is_in id es))
      ]

  -- from a node on come it and those from the next one on
  pub from_next : (id : ℕ) (x : X) (items : List (ℕ × X)) → IsDistinct nat_eq (keys_of items) → lookup (nat_eq id) items ≡ Some x
      → from_node (Some id) items ≡ (id, x) ∷ from_node (next_id id items) items
  unfolding from_node
  from_next id x [] d h = absurd (false≢true (ap is_some h))
  from_next id x (e ∷ es) d h =
      let apart = IsDistinct-head nat_eq e.0 (keys_of es) d in
      elim (cases_Bool (nat_eq id e.0)) [
        | inl same ↦
            let value : e.1 ≡ x = ap (λ o. unwrap_or o x) (sym (cond-true (nat_eq id e.0) (Some e.1) (lookup (nat_eq id) es) same) ∙ h) in
            cond-true (nat_eq id e.0) _ _ same
            ∙ ap (λ (p : (ℕ × X) × List (ℕ × X)). p.0 ∷ p.1)
            (λ i. (
              (sym (eqb-true id e.0 same) i, value i),
              (sym (ap (λ o. from_node o (e ∷ es)) (cond-true (nat_eq id e.0) (first_id es) (next_id id es) same)
                  ∙ (past_head e es apart (first_id es) (first_is_in es) ∙ from_first es))) i,
            ))
        | inr other ↦
            cond-false (nat_eq id e.0) _ _ other
            ∙ (from_next id x es (IsDistinct-tail nat_eq e.0 (keys_of es) d)
            (sym (cond-false (nat_eq id e.0) (Some e.1) (lookup (nat_eq id) es) other) ∙ h)
            ∙ ap (λ l. (id, x) ∷ l)
            (sym (ap (λ o. from_node o (e ∷ es)) (cond-false (nat_eq id e.0) (first_id es) (next_id id es) other)
            ∙ past_head e es apart (next_id id es) (next_is_in id es))))
      ]

  -- behind a node fewer are left
  pub fewer_behind : (id : ℕ) (x : X) (items : List (ℕ × X)) → IsDistinct nat_eq (keys_of items) → lookup (nat_eq id) items ≡ Some x
      → length (from_node (next_id id items) items) < length (from_node (Some id) items)
  fewer_behind id x items once stands = rw (from_next id x items once stands) (grind (arith))

  -- the node behind one that leaves is still there
  pub next_stays : (id : ℕ) (items : List (ℕ × X))
      → Rattle.std.specs.Prelude.IfSome (next_id id items) (λ j. IsIn (remove_entry (nat_eq id) items) j)
  next_stays id [] = tt
  next_stays id (e ∷ es) =
      elim (cases_Bool (nat_eq id e.0)) [
        | inl same ↦
            subst (λ o. Rattle.std.specs.Prelude.IfSome o (λ j. IsIn (remove_entry (nat_eq id) (e ∷ es)) j))
            (sym (cond-true (nat_eq id e.0) (first_id es) (next_id id es) same))
            (subst (λ l. Rattle.std.specs.Prelude.IfSome (first_id es) (λ j. IsIn l j))
            (sym (cond-true (nat_eq id e.0) es (e ∷ remove_entry (nat_eq id) es) same)) (first_is_in es))
        | inr other ↦
            subst (λ o. Rattle.std.specs.Prelude.IfSome o (λ j. IsIn (remove_entry (nat_eq id) (e ∷ es)) j))
            (sym (cond-false (nat_eq id e.0) (first_id es) (next_id id es) other))
            (subst (λ l. Rattle.std.specs.Prelude.IfSome (next_id id es) (λ j. IsIn l j))
            (sym (cond-false (nat_eq id e.0) es (e ∷ remove_entry (nat_eq id) es) other))
            (behind_head e (remove_entry (nat_eq id) es) (next_id id es) (next_stays id es)))
      ]

  -- and so are all behind it
  pub from_stays : (id : ℕ) (items : List (ℕ × X)) → IsDistinct nat_eq (keys_of items)
      → from_node (next_id id items) (remove_entry (nat_eq id) items) ≡ from_node (next_id id items) items
  from_stays id [] d = refl
  from_stays id (e ∷ es) d =
      let apart = IsDistinct-head nat_eq e.0 (keys_of es) d in
      elim (cases_Bool (nat_eq id e.0)) [
        | inl same ↦
            (λ i. from_node (cond-true (nat_eq id e.0) (first_id es) (next_id id es) same i)
            (cond-true (nat_eq id e.0) es (e ∷ remove_entry (nat_eq id) es) same i))
            ∙ (sym (past_head e es apart (first_id es) (first_is_in es))
            ∙ ap (λ o. from_node o (e ∷ es)) (sym (cond-true (nat_eq id e.0) (first_id es) (next_id id es) same)))
        | inr other ↦
            (λ i. from_node (cond-false (nat_eq id e.0) (first_id es) (next_id id es) other i)
            (cond-false (nat_eq id e.0) es (e ∷ remove_entry (nat_eq id) es) other i))
            ∙ (past_head e (remove_entry (nat_eq id) es) (apart-removed es apart) (next_id id es) (next_stays id es)
            ∙ (from_stays id es (IsDistinct-tail nat_eq e.0 (keys_of es) d)
            ∙ (sym (past_head e es apart (next_id id es) (next_is_in id es))
            ∙ ap (λ o. from_node o (e ∷ es)) (sym (cond-false (nat_eq id e.0) (first_id es) (next_id id es) other)))))
      ]
    where
      apart-removed : (fs : List (ℕ × X)) → AllByRecursion (λ k. nat_eq e.0 k ≡ false) (keys_of fs)
          → AllByRecursion (λ k. nat_eq e.0 k ≡ false) (keys_of (remove_entry (nat_eq id) fs))
      apart-removed [] a = tt
      apart-removed (f ∷ fs) a =
          cond_both (nat_eq id f.0) fs (f ∷ remove_entry (nat_eq id) fs) (λ l. AllByRecursion (λ k. nat_eq e.0 k ≡ false) (keys_of l))
          (λ _. a.1) (λ _. (a.0, apart-removed fs a.1))

module _ {X : Type 0} where
  as_from : (o : Option ℕ) (items : List (ℕ × X)) → items_from o items ≡ from_node o items
  unfolding from_node
  as_from None items = refl
  as_from (Some id) [] = refl
  as_from (Some id) (e ∷ es) = ap (cond (nat_eq id e.0) (e ∷ es)) (as_from (Some id) es)

  -- the same of the nodes that an iterator has left: at first all of them
  pub left_first : (items : List (ℕ × X)) → items_from (first_id items) items ≡ items
  left_first items = as_from (first_id items) items ∙ from_first items

  -- and then one less
  pub left_next : (id : ℕ) (x : X) (items : List (ℕ × X)) → AreApart items → lookup (nat_eq id) items ≡ Some x
      → items_from (Some id) items ≡ (id, x) ∷ items_from (next_id id items) items
  left_next id x items apart found =
      as_from (Some id) items ∙ from_next id x items (distinct_from_apart items apart) found
      ∙ ap (λ l. (id, x) ∷ l) (sym (as_from (next_id id items) items))
