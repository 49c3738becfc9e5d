-- Lemmas on an index beside a list of nodes: what each change of the nodes leaves of it.
use Rattle.std.proofs.Common.{◌≡◌, ◌<◌, ◌≤◌, ◌∙◌, ℕ, Bool, true, false, cond, nat_eq, List, [], Option, Some}
use Rattle.std.proofs.Common.{None, is_some, IsSome, refl, sym, ap, inl, inr, arith, subst}
use Rattle.std.proofs.lemmas.Bool.{cases_Bool, cond_both, cond-true, cond-false, eqb-true, false≢true}
use Rattle.std.specs.List.{IsDistinct}
use Rattle.std.specs.Map.{lookup, remove_entry, keys_of}
use Rattle.moka_list.specs.IdList.{is_listed}
use Rattle.moka_list.specs.GrowingIndex.{GrowingIndex, candidates, is_candidate, Adds, KeepsAll, Removes as Unlists}
use Rattle.moka_list.specs.Indexed.{IsIndexed}
use Rattle.moka_list.proofs.IdLemmas.{lookup-removed, not_none, some_parts}

-- ---- what each change leaves

module _ {T : Type 0} (hash_of : T → ℕ) where
  -- an index without ids is that of no nodes
  pub IsIndexed-none : (index : GrowingIndex) → ((hash : ℕ) → candidates index hash ≡ []) → IsIndexed hash_of [] index
  IsIndexed-none index empty =
      record {
        listed = λ id e h. not_none e (sym h);
        standing = λ hash id h. absurd (false≢true (sym (ap (λ l. is_listed l id) (empty hash)) ∙ h));
        below = λ id h. absurd (false≢true h);
      }

  module _ {nodes : List (ℕ × T)} {index : GrowingIndex} (s : IsIndexed hash_of nodes index) (id : ℕ) where
    -- a node that is rewritten keeps its hash
    pub IsIndexed-rewrite : (n x : T) → lookup (nat_eq id) nodes ≡ Some n → hash_of x ≡ hash_of n → (moved : List (ℕ × T))
        → ((i : ℕ) → lookup (nat_eq i) moved ≡ cond (nat_eq id i) (Some x) (lookup (nat_eq i) nodes)) → IsIndexed hash_of moved index
    IsIndexed-rewrite n x stood same_hash moved found =
        record {
          listed = λ i y h. by i y (sym (found i) ∙ h);
          standing = λ hash i h.
              subst (λ o. IsSome o) (sym (found i))
              (cond_both (nat_eq id i) (Some x) (lookup (nat_eq i) nodes) (λ o. IsSome o) (λ _. refl) (λ _. s.standing hash i h));
          below = λ i h. s.below i (stood_before i (nat_eq id i) refl (sym (ap is_some (found i)) ∙ h));
        }
      where
        stood_before : (i : ℕ) (b : Bool) → nat_eq id i ≡ b → is_some (cond b (Some x) (lookup (nat_eq i) nodes)) ≡ true
            → is_some (lookup (nat_eq i) nodes) ≡ true
        stood_before i true same h = subst (λ j. is_some (lookup (nat_eq j) nodes) ≡ true) (eqb-true id i same) (ap is_some stood)
        stood_before i false other h = h

        by : (i : ℕ) (y : T) → cond (nat_eq id i) (Some x) (lookup (nat_eq i) nodes) ≡ Some y → is_candidate index (hash_of y) i ≡ true
        by i y h =
            elim (cases_Bool (nat_eq id i)) [
              | inl same ↦
                  let is_x : y ≡ x = some_parts y x (sym h ∙ cond-true (nat_eq id i) _ _ same) in
                  subst (λ hash. is_candidate index hash i ≡ true) (sym (ap hash_of is_x ∙ same_hash))
                  (subst (λ j. is_candidate index (hash_of n) j ≡ true) (eqb-true id i same) (s.listed id n stood))
              | inr other ↦ s.listed i y (sym (cond-false (nat_eq id i) _ _ other) ∙ h)
            ]

    -- one that leaves is no candidate any more
    pub IsIndexed-remove : IsDistinct nat_eq (keys_of nodes) → (new : GrowingIndex) → Unlists index id new
        → IsIndexed hash_of (remove_entry (nat_eq id) nodes) new
    IsIndexed-remove once new step =
        record {
          listed = λ i y h. by i y (sym (found i) ∙ h);
          standing = λ hash i h.
              elim (cases_Bool (nat_eq id i)) [
                | inl same ↦
                    absurd (false≢true (sym (step.gone hash) ∙ ap (is_candidate new hash) (eqb-true id i same) ∙ h))
                | inr other ↦
                    subst (λ o. IsSome o) (sym (found i ∙ cond-false (nat_eq id i) _ _ other))
                    (s.standing hash i (sym (step.others hash i other) ∙ h))
              ];
          below = λ i h.
              subst (λ n. i < n) (sym step.ids)
              (s.below i (stood_before (nat_eq id i) (lookup (nat_eq i) nodes) (sym (ap is_some (found i)) ∙ h)));
        }
      where
        stood_before : (b : Bool) (o : Option T) → is_some (cond b None o) ≡ true → is_some o ≡ true
        stood_before true o h = absurd (false≢true h)
        stood_before false o h = h

        found : (i : ℕ) → lookup (nat_eq i) (remove_entry (nat_eq id) nodes) ≡ cond (nat_eq id i) None (lookup (nat_eq i) nodes)
        found i = lookup-removed id i nodes once

        by : (i : ℕ) (y : T) → cond (nat_eq id i) None (lookup (nat_eq i) nodes) ≡ Some y → is_candidate new (hash_of y) i ≡ true
        by i y h =
            elim (cases_Bool (nat_eq id i)) [
              | inl same ↦ not_none y (sym h ∙ cond-true (nat_eq id i) _ _ same)
              | inr other ↦ step.others (hash_of y) i other ∙ s.listed i y (sym (cond-false (nat_eq id i) _ _ other) ∙ h)
            ]

    -- a new one is a candidate of its hash
    pub IsIndexed-enter : (e : T) → id < index.ids → (new : GrowingIndex) → Adds index id (hash_of e) new → (pushed : List (ℕ × T))
        → ((v : ℕ) → lookup (nat_eq v) pushed ≡ cond (nat_eq id v) (Some e) (lookup (nat_eq v) nodes)) → IsIndexed hash_of pushed new
    IsIndexed-enter e room new step pushed found =
        record {
          listed = λ i y h. by i y (sym (found i) ∙ h);
          standing = λ hash i h.
              subst (λ o. IsSome o) (sym (found i))
              (cond_both (nat_eq id i) (Some e) (lookup (nat_eq i) nodes) (λ o. IsSome o) (λ _. refl) (λ other. stands hash i other h));
          below = λ i h. subst (λ n. i < n) (sym step.ids) (fits i (nat_eq id i) refl (sym (ap is_some (found i)) ∙ h));
        }
      where
        fits : (i : ℕ) (b : Bool) → nat_eq id i ≡ b → is_some (cond b (Some e) (lookup (nat_eq i) nodes)) ≡ true → i < index.ids
        fits i true same h = subst (λ n. n < index.ids) (eqb-true id i same) room
        fits i false other h = s.below i h

        by : (i : ℕ) (y : T) → cond (nat_eq id i) (Some e) (lookup (nat_eq i) nodes) ≡ Some y → is_candidate new (hash_of y) i ≡ true
        by i y h =
            elim (cases_Bool (nat_eq id i)) [
              | inl same ↦
                  let is_e : e ≡ y = some_parts e y (sym (cond-true (nat_eq id i) _ _ same) ∙ h) in
                  subst (λ z. is_candidate new (hash_of z) i ≡ true) is_e
                  (subst (λ j. is_candidate new (hash_of e) j ≡ true) (eqb-true id i same) step.under)
              | inr other ↦ step.others (hash_of y) i other ∙ s.listed i y (sym (cond-false (nat_eq id i) _ _ other) ∙ h)
            ]

        stands : (hash i : ℕ) → nat_eq id i ≡ false → is_candidate new hash i ≡ true → IsSome (lookup (nat_eq i) nodes)
        stands hash i other h = s.standing hash i (sym (step.others hash i other) ∙ h)

  -- the index may have more room, or another order
  pub IsIndexed-kept : {nodes : List (ℕ × T)} {index : GrowingIndex} → IsIndexed hash_of nodes index → (new : GrowingIndex) → KeepsAll index new
      → index.ids ≤ new.ids → IsIndexed hash_of nodes new
  IsIndexed-kept s new kept more = record {
    listed = λ id e h. kept (hash_of e) id ∙ s.listed id e h;
    standing = λ hash id h. s.standing hash id (sym (kept hash id) ∙ h);
    below = λ id h. let low = s.below id h in omega arith;
  }

  -- a node that is added once more is where it was
  pub IsIndexed-again : {nodes : List (ℕ × T)} {index : GrowingIndex} → IsIndexed hash_of nodes index → (id : ℕ) (e : T)
      → lookup (nat_eq id) nodes ≡ Some e → (new : GrowingIndex) → Adds index id (hash_of e) new → IsIndexed hash_of nodes new
  IsIndexed-again {nodes} {index} s id e stood new step = record {
    listed = λ i y h. elim (cases_Bool (nat_eq id i)) [
      | inl same ↦
          let at : lookup (nat_eq id) nodes ≡ Some y = subst (λ j. lookup (nat_eq j) nodes ≡ Some y) (sym (eqb-true id i same)) h in
          let is_e : e ≡ y = some_parts e y (sym stood ∙ at) in
          subst (λ j. is_candidate new (hash_of y) j ≡ true) (eqb-true id i same)
          (subst (λ z. is_candidate new (hash_of z) id ≡ true) is_e step.under)
      | inr other ↦ step.others (hash_of y) i other ∙ s.listed i y h
    ];
    standing = λ hash i h. elim (cases_Bool (nat_eq id i)) [
      | inl same ↦ subst (λ j. IsSome (lookup (nat_eq j) nodes)) (eqb-true id i same) (ap is_some stood)
      | inr other ↦ s.standing hash i (sym (step.others hash i other) ∙ h)
    ];
    below = λ i h. subst (λ n. i < n) (sym step.ids) (s.below i h);
  }
