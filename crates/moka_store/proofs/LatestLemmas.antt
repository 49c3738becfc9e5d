-- Lemmas on a list of nodes with one more, the latest of its part.
use Rattle.std.proofs.Common.{◌≡◌, ◌+◌, ℕ, suc, Bool, true, false, cond, nat_eq, List, [], ◌∷◌, ◌++◌, length, sum_by, Some, None}
use Rattle.std.proofs.Common.{refl, sym, ap, ◌∙◌, inl, inr, arith}
use Rattle.std.proofs.lemmas.Bool.{cases_Bool, cond_both, cond-true, cond-false}
use Rattle.std.proofs.lemmas.List.Sums.{sum_by-cons}
use Rattle.std.specs.List.{AllByRecursion, IsDistinct}
use Rattle.std.specs.Map.{lookup, remove_entry, keys_of, values_of}
use Rattle.moka_list.specs.Nodes.{AreApart}
use Rattle.moka_unsync_model.specs.declared.entry.Entry.{Entry}
use Rattle.moka_unsync_model.specs.Contents.{is_before, with_latest}
use Rattle.moka_store.specs.Nodes.{latest_node}
use Rattle.moka_list.proofs.ItemLemmas.{absent_head, absent_tail, cond_swap, distinct_from_apart, lookup-push, nat_eq-same, nat_eq_comm, not_both}
use Rattle.moka_list.proofs.ItemLemmas.{remove-other, remove-same}
use Rattle.moka_list.proofs.IdLemmas.{IsDistinct-removed, lookup-removed}
use Rattle.moka_list.proofs.InsertedLemmas.{apart_from_distinct}

module _ {K V : Type 0} where
  -- whether one more node stands before another
  abbrev pub comes_before : ℕ × Entry K V → ℕ × Entry K V → Bool
  comes_before p q = is_before p.1.part q.1.part

  pub latest-before : (p q : ℕ × Entry K V) (es : List (ℕ × Entry K V)) → comes_before p q ≡ true → latest_node p (q ∷ es) ≡ p ∷ q ∷ es
  latest-before p q es h = cond-true (comes_before p q) (p ∷ q ∷ es) (q ∷ latest_node p es) h

  pub latest-behind : (p q : ℕ × Entry K V) (es : List (ℕ × Entry K V)) → comes_before p q ≡ false
      → latest_node p (q ∷ es) ≡ q ∷ latest_node p es
  latest-behind p q es h = cond-false (comes_before p q) (p ∷ q ∷ es) (q ∷ latest_node p es) h

  -- what is found once a new node is in
  pub lookup-latest : (v id : ℕ) (e : Entry K V) (es : List (ℕ × Entry K V)) → lookup (nat_eq id) es ≡ None
      → lookup (nat_eq v) (latest_node (id, e) es) ≡ cond (nat_eq id v) (Some e) (lookup (nat_eq v) es)
  lookup-latest v id e [] absent = ap (λ b. cond b (Some e) None) (nat_eq_comm v id)
  lookup-latest v id e (q ∷ es) absent =
      elim (cases_Bool (comes_before (id, e) q)) [
        | inl before ↦
            rw (latest-before (id, e) q es before) (ap (λ b. cond b (Some e) (lookup (nat_eq v) (q ∷ es))) (nat_eq_comm v id))
        | inr behind ↦
            rw (latest-behind (id, e) q es behind) (
            ap (cond (nat_eq v q.0) (Some q.1)) (lookup-latest v id e es (absent_tail id q es absent))
            ∙ cond_swap (nat_eq v q.0) (nat_eq id v) (Some q.1) (Some e) (lookup (nat_eq v) es)
            (λ a b. not_both id q.0 v (absent_head id q es absent) b (nat_eq_comm q.0 v ∙ a))
            )
      ]

  apart-latest : (id : ℕ) (e : Entry K V) (es : List (ℕ × Entry K V)) → AreApart es → lookup (nat_eq id) es ≡ None
      → AreApart (latest_node (id, e) es)
  apart-latest id e [] a absent = (refl, tt)
  apart-latest id e (q ∷ es) a absent =
      elim (cases_Bool (comes_before (id, e) q)) [
        | inl before ↦ rw (latest-before (id, e) q es before) (absent, a)
        | inr behind ↦
            let later = absent_tail id q es absent in
            let apart : lookup (nat_eq q.0) (latest_node (id, e) es) ≡ None =
            lookup-latest q.0 id e es later
            ∙ cond-false (nat_eq id q.0) (Some e) (lookup (nat_eq q.0) es) (absent_head id q es absent) ∙ a.0 in
            rw (latest-behind (id, e) q es behind) (apart, apart-latest id e es a.1 later)
      ]

  -- ids stay distinct with a new one
  pub distinct-latest : (id : ℕ) (e : Entry K V) (es : List (ℕ × Entry K V)) → IsDistinct nat_eq (keys_of es) → lookup (nat_eq id) es ≡ None
      → IsDistinct nat_eq (keys_of (latest_node (id, e) es))
  distinct-latest id e es d absent =
      distinct_from_apart (latest_node (id, e) es) (apart-latest id e es (apart_from_distinct es d) absent)

  -- what holds of it and of all others holds of all
  pub all-latest : (P : ℕ × Entry K V → Type 0) (p : ℕ × Entry K V) (es : List (ℕ × Entry K V)) → P p → AllByRecursion P es
      → AllByRecursion P (latest_node p es)
  all-latest P p [] here all = (here, tt)
  all-latest P p (q ∷ es) here all =
      cond_both (comes_before p q) (p ∷ q ∷ es) (q ∷ latest_node p es) (AllByRecursion P)
      (λ _. (here, all))
      (λ _. (all.0, all-latest P p es here all.1))

  -- one node more
  pub length-latest : (p : ℕ × Entry K V) (es : List (ℕ × Entry K V)) → length (latest_node p es) ≡ suc (length es)
  length-latest p [] = refl
  length-latest p (q ∷ es) =
      cond_both (comes_before p q) (p ∷ q ∷ es) (q ∷ latest_node p es) (λ l. length l ≡ suc (length (q ∷ es)))
      (λ _. refl)
      (λ _. ap suc (length-latest p es))

  -- a sum has one part more
  pub sum-latest : (f : ℕ × Entry K V → ℕ) (p : ℕ × Entry K V) (es : List (ℕ × Entry K V)) → sum_by f (latest_node p es) ≡ sum_by f es + f p
  sum-latest f p [] = refl
  sum-latest f p (q ∷ es) =
      cond_both (comes_before p q) (p ∷ q ∷ es) (q ∷ latest_node p es) (λ l. sum_by f l ≡ sum_by f (q ∷ es) + f p)
      (λ _. grind (arith, sum_by-cons f p (q ∷ es)))
      (λ _. grind (arith, sum_by-cons f q (latest_node p es), sum_by-cons f q es, sum-latest f p es))

  -- of entries alone it is the machine's
  pub values-latest : (p : ℕ × Entry K V) (es : List (ℕ × Entry K V)) → values_of (latest_node p es) ≡ with_latest p.1 (values_of es)
  values-latest p [] = refl
  values-latest p (q ∷ es) =
      elim (cases_Bool (comes_before p q)) [
        | inl before ↦ ap values_of (latest-before p q es before) ∙ sym (cond-true (comes_before p q) _ _ before)
        | inr behind ↦
            ap values_of (latest-behind p q es behind)
            ∙ (ap (λ l. q.1 ∷ l) (values-latest p es) ∙ sym (cond-false (comes_before p q) _ _ behind))
      ]

  -- ---- a node that has changed its place

  -- once a node is out, nothing is found under its id
  pub gone : (id : ℕ) (nodes : List (ℕ × Entry K V)) → IsDistinct nat_eq (keys_of nodes)
      → lookup (nat_eq id) (remove_entry (nat_eq id) nodes) ≡ None
  gone id nodes d = lookup-removed id id nodes d ∙ cond-true (nat_eq id id) _ _ (nat_eq-same id)

  -- what is found once it is in again
  pub lookup-relisted : (v id : ℕ) (e : Entry K V) (nodes : List (ℕ × Entry K V)) → IsDistinct nat_eq (keys_of nodes)
      → lookup (nat_eq v) (latest_node (id, e) (remove_entry (nat_eq id) nodes)) ≡ cond (nat_eq id v) (Some e) (lookup (nat_eq v) nodes)
  lookup-relisted v id e nodes d =
      lookup-latest v id e (remove_entry (nat_eq id) nodes) (gone id nodes d)
      ∙ elim (cases_Bool (nat_eq id v)) [
        | inl same ↦ cond-true (nat_eq id v) _ _ same ∙ sym (cond-true (nat_eq id v) _ _ same)
        | inr other ↦
            cond-false (nat_eq id v) _ _ other
            ∙ (lookup-removed id v nodes d ∙ (cond-false (nat_eq id v) _ _ other ∙ sym (cond-false (nat_eq id v) _ _ other)))
      ]

  pub distinct-relisted : (id : ℕ) (e : Entry K V) (nodes : List (ℕ × Entry K V)) → IsDistinct nat_eq (keys_of nodes)
      → IsDistinct nat_eq (keys_of (latest_node (id, e) (remove_entry (nat_eq id) nodes)))
  distinct-relisted id e nodes d = distinct-latest id e (remove_entry (nat_eq id) nodes) (IsDistinct-removed id nodes d) (gone id nodes d)

  -- ---- a node that was pushed to the back first

  pub removed-pushed : (id : ℕ) (e : Entry K V) (nodes : List (ℕ × Entry K V)) → lookup (nat_eq id) nodes ≡ None
      → remove_entry (nat_eq id) (nodes ++ (id, e) ∷ []) ≡ nodes
  removed-pushed id e [] absent = remove-same id (id, e) [] (nat_eq-same id)
  removed-pushed id e (q ∷ es) absent =
      remove-other id q (es ++ (id, e) ∷ []) (absent_head id q es absent)
      ∙ ap (λ l. q ∷ l) (removed-pushed id e es (absent_tail id q es absent))

  pub pushed-at : (id : ℕ) (e : Entry K V) (nodes : List (ℕ × Entry K V)) → lookup (nat_eq id) nodes ≡ None
      → lookup (nat_eq id) (nodes ++ (id, e) ∷ []) ≡ Some e
  pushed-at id e nodes absent = lookup-push id id e nodes absent ∙ cond-true (nat_eq id id) _ _ (nat_eq-same id)
