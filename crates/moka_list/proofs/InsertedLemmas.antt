-- Lemmas on a list of elements under ids in which a node is put right before another.
use Rattle.std.proofs.Common.{◌≡◌, ℕ, suc, true, false, cond, nat_eq, List, [], ◌∷◌, ◌++◌, length, Option, Some, None}
use Rattle.std.proofs.Common.{eq-eqb, is_some, refl, sym, ap, subst, ◌∙◌, inl, inr}
use Rattle.std.proofs.lemmas.Bool.{cases_Bool, cond_both, cond-true, cond-false, eqb-true, false≢true}
use Rattle.std.proofs.lemmas.List.Elements.{All-from_recursion, recursion_from_All}
use Rattle.std.proofs.lemmas.Map.Keys.{IsDistinct-head, IsDistinct-tail}
use Rattle.std.specs.List.{All, AllByRecursion, IsDistinct}
use Rattle.std.specs.Map.{lookup, remove_entry, keys_of}
use Rattle.std.specs.Option.{option_map_or}
use Rattle.std.specs.Prelude.{◌↔◌, IfSome}
use Rattle.moka_list.specs.Chain.{inserted, moved_before}
use Rattle.moka_list.specs.Nodes.{IsIn, first_id, next_id}
use Rattle.moka_list.specs.Nodes.{AreApart}
use Rattle.moka_list.proofs.CutLemmas.{absent-cut}
use Rattle.moka_list.proofs.ItemLemmas.{absent_cons, absent_head, absent_tail, cond_swap, differs, distinct_from_apart, found_tail}
use Rattle.moka_list.proofs.ItemLemmas.{length-remove, lookup-other, lookup-remove_other, nat_eq-same, nat_eq_comm, ne_comm, not_both, remove-other}
use Rattle.moka_list.proofs.ItemLemmas.{remove-same}
use Rattle.moka_list.proofs.IdLemmas.{IsDistinct-removed, lookup-removed, not_none, some_parts}
use Rattle.moka_list.proofs.WalkLemmas.{next_is_in}

module _ {X : Type 0} where
  -- what is put before the first node, and before a later one
  pub inserted-same : (next : ℕ) (n e : ℕ × X) (es : List (ℕ × X)) → nat_eq next e.0 ≡ true → inserted next n (e ∷ es) ≡ n ∷ e ∷ es
  inserted-same next n e es h = cond-true (nat_eq next e.0) (n ∷ e ∷ es) (e ∷ inserted next n es) h

  pub inserted-other : (next : ℕ) (n e : ℕ × X) (es : List (ℕ × X)) → nat_eq next e.0 ≡ false
      → inserted next n (e ∷ es) ≡ e ∷ inserted next n es
  inserted-other next n e es h = cond-false (nat_eq next e.0) (n ∷ e ∷ es) (e ∷ inserted next n es) h

  -- in a list that is cut at the other node
  pub inserted-cut : (n : ℕ × X) (xs : List (ℕ × X)) (e : ℕ × X) (ys : List (ℕ × X)) → AreApart (xs ++ e ∷ ys)
      → inserted e.0 n (xs ++ e ∷ ys) ≡ xs ++ n ∷ e ∷ ys
  inserted-cut n [] e ys a = inserted-same e.0 n e ys (nat_eq-same e.0)
  inserted-cut n (x ∷ xs) e ys a =
      inserted-other e.0 n x (xs ++ e ∷ ys) (ne_comm x.0 e.0 (absent-cut x.0 xs e ys a.0).0) ∙ ap (λ l. x ∷ l) (inserted-cut n xs e ys a.1)

  -- what is found once a new node is in
  pub lookup-inserted : (q next id : ℕ) (x : X) (es : List (ℕ × X)) → lookup (nat_eq id) es ≡ None
      → lookup (nat_eq q) (inserted next (id, x) es) ≡ cond (nat_eq id q) (Some x) (lookup (nat_eq q) es)
  lookup-inserted q next id x [] absent = ap (λ b. cond b (Some x) None) (nat_eq_comm q id)
  lookup-inserted q next id x (e ∷ es) absent =
      elim (cases_Bool (nat_eq next e.0)) [
        | inl same ↦
            rw (inserted-same next (id, x) e es same) (ap (λ b. cond b (Some x) (lookup (nat_eq q) (e ∷ es))) (nat_eq_comm q id))
        | inr other ↦
            rw (inserted-other next (id, x) e es other) (
            ap (cond (nat_eq q e.0) (Some e.1)) (lookup-inserted q next id x es (absent_tail id e es absent))
            ∙ cond_swap (nat_eq q e.0) (nat_eq id q) (Some e.1) (Some x) (lookup (nat_eq q) es)
            (λ a b. not_both id e.0 q (absent_head id e es absent) b (nat_eq_comm e.0 q ∙ a))
            )
      ]

  -- one node more
  pub length-inserted : (next : ℕ) (n : ℕ × X) (es : List (ℕ × X)) → length (inserted next n es) ≡ suc (length es)
  length-inserted next n [] = refl
  length-inserted next n (e ∷ es) =
      cond_both (nat_eq next e.0) (n ∷ e ∷ es) (e ∷ inserted next n es) (λ l. length l ≡ suc (length (e ∷ es)))
      (λ _. refl)
      (λ _. ap suc (length-inserted next n es))

  -- a node that is new keeps the nodes apart
  pub AreApart-inserted : (next id : ℕ) (x : X) (es : List (ℕ × X)) → AreApart es → lookup (nat_eq id) es ≡ None
      → AreApart (inserted next (id, x) es)
  AreApart-inserted next id x [] a absent = (refl, tt)
  AreApart-inserted next id x (e ∷ es) a absent =
      elim (cases_Bool (nat_eq next e.0)) [
        | inl same ↦ rw (inserted-same next (id, x) e es same) (absent, a)
        | inr other ↦
            let later = absent_tail id e es absent in
            let apart : lookup (nat_eq e.0) (inserted next (id, x) es) ≡ None =
            lookup-inserted e.0 next id x es later
            ∙ cond-false (nat_eq id e.0) (Some x) (lookup (nat_eq e.0) es) (absent_head id e es absent) ∙ a.0 in
            rw (inserted-other next (id, x) e es other) (apart, AreApart-inserted next id x es a.1 later)
      ]

  -- what holds of it and of all others holds of all
  pub AllByRecursion-inserted : (P : ℕ × X → Type 0) (next : ℕ) (n : ℕ × X) (es : List (ℕ × X)) → P n → AllByRecursion P es
      → AllByRecursion P (inserted next n es)
  AllByRecursion-inserted P next n [] p all = (p, tt)
  AllByRecursion-inserted P next n (e ∷ es) p all =
      cond_both (nat_eq next e.0) (n ∷ e ∷ es) (e ∷ inserted next n es) (AllByRecursion P)
      (λ _. (p, all))
      (λ _. (all.0, AllByRecursion-inserted P next n es p all.1))

  -- without the new node the list is as it was
  pub remove-inserted : (next id : ℕ) (x : X) (es : List (ℕ × X)) → lookup (nat_eq id) es ≡ None
      → remove_entry (nat_eq id) (inserted next (id, x) es) ≡ es
  remove-inserted next id x [] absent = remove-same id (id, x) [] (nat_eq-same id)
  remove-inserted next id x (e ∷ es) absent =
      elim (cases_Bool (nat_eq next e.0)) [
        | inl same ↦ rw (inserted-same next (id, x) e es same) (remove-same id (id, x) (e ∷ es) (nat_eq-same id))
        | inr other ↦
            rw (inserted-other next (id, x) e es other)
            (remove-other id e (inserted next (id, x) es) (absent_head id e es absent)
            ∙ ap (λ l. e ∷ l) (remove-inserted next id x es (absent_tail id e es absent)))
      ]

  -- and the other node is the one after it
  pub next-inserted : (next id : ℕ) (x : X) (es : List (ℕ × X)) → lookup (nat_eq id) es ≡ None → IsIn es next
      → next_id id (inserted next (id, x) es) ≡ Some next
  next-inserted next id x [] absent found = absurd (false≢true found)
  next-inserted next id x (e ∷ es) absent found =
      elim (cases_Bool (nat_eq next e.0)) [
        | inl same ↦
            rw (inserted-same next (id, x) e es same)
            (cond-true (nat_eq id id) (Some e.0) (next_id id (e ∷ es)) (nat_eq-same id) ∙ ap Some (sym (eqb-true next e.0 same)))
        | inr other ↦
            rw (inserted-other next (id, x) e es other)
            (cond-false (nat_eq id e.0) (first_id (inserted next (id, x) es)) (next_id id (inserted next (id, x) es)) (absent_head id e es absent)
            ∙ next-inserted next id x es (absent_tail id e es absent) (found_tail next e es other found))
      ]

  absent_fresh : (q : ℕ) (es : List (ℕ × X)) → AllByRecursion (λ y. nat_eq q y ≡ false) (keys_of es) → lookup (nat_eq q) es ≡ None
  absent_fresh q [] all = refl
  absent_fresh q (e ∷ es) all = absent_cons q e es all.0 (absent_fresh q es all.1)

  -- nodes with distinct ids don't come twice
  pub apart_from_distinct : (es : List (ℕ × X)) → IsDistinct nat_eq (keys_of es) → AreApart es
  apart_from_distinct [] d = tt
  apart_from_distinct (e ∷ es) d = (
    absent_fresh e.0 es (IsDistinct-head nat_eq e.0 (keys_of es) d),
    apart_from_distinct es (IsDistinct-tail nat_eq e.0 (keys_of es) d),
  )

  -- ids stay distinct with a new one
  pub IsDistinct-inserted : (next id : ℕ) (x : X) (es : List (ℕ × X)) → IsDistinct nat_eq (keys_of es) → lookup (nat_eq id) es ≡ None
      → IsDistinct nat_eq (keys_of (inserted next (id, x) es))
  IsDistinct-inserted next id x es d absent =
      distinct_from_apart (inserted next (id, x) es) (AreApart-inserted next id x es (apart_from_distinct es d) absent)

  -- ---- a node that was elsewhere

  -- a node of the list, taken out and put before the other
  pub moved_before-inserted : (id next : ℕ) (x : X) (items : List (ℕ × X)) → lookup (nat_eq id) items ≡ Some x
      → moved_before id next items ≡ inserted next (id, x) (remove_entry (nat_eq id) items)
  moved_before-inserted id next x items at =
      ap (λ o. option_map_or (λ element. inserted next (id, element) (remove_entry (nat_eq id) items)) o items) at

  -- a first node that is put before the second stays
  inserted-first : (next : ℕ) (n : ℕ × X) (es : List (ℕ × X)) → first_id es ≡ Some next → inserted next n es ≡ n ∷ es
  inserted-first next n [] follows = refl
  inserted-first next n (e ∷ es) follows =
      inserted-same next n e es (ap (λ k. nat_eq k e.0) (sym (some_parts e.0 next follows)) ∙ nat_eq-same e.0)

  -- so does any that is put before the one behind it
  inserted-behind : (id next : ℕ) (x : X) (items : List (ℕ × X)) → AreApart items → lookup (nat_eq id) items ≡ Some x
      → next_id id items ≡ Some next → inserted next (id, x) (remove_entry (nat_eq id) items) ≡ items
  inserted-behind id next x [] apart at follows = not_none next (sym follows)
  inserted-behind id next x (e ∷ es) apart at follows =
      elim (cases_Bool (nat_eq id e.0)) [
        | inl same ↦
            let value : e.1 ≡ x = some_parts e.1 x (sym (cond-true (nat_eq id e.0) (Some e.1) (lookup (nat_eq id) es) same) ∙ at) in
            let first : first_id es ≡ Some next = sym (cond-true (nat_eq id e.0) (first_id es) (next_id id es) same) ∙ follows in
            ap (inserted next (id, x)) (remove-same id e es same) ∙ inserted-first next (id, x) es first
            ∙ (λ i. (eqb-true id e.0 same i, sym value i) ∷ es)
        | inr other ↦
            let later : next_id id es ≡ Some next = sym (cond-false (nat_eq id e.0) (first_id es) (next_id id es) other) ∙ follows in
            let found : IsIn es next = subst (λ o. IfSome o (λ j. IsIn es j)) later (next_is_in id es) in
            ap (inserted next (id, x)) (remove-other id e es other)
            ∙ inserted-other next (id, x) e (remove_entry (nat_eq id) es) (ne_comm e.0 next (differs e.0 next es apart.0 found))
            ∙ ap (λ l. e ∷ l) (inserted-behind id next x es apart.1 (sym (lookup-other id e es other) ∙ at) later)
      ]

  -- a node of the list, put before the one behind it, stays
  pub moved_before-behind : (id next : ℕ) (items : List (ℕ × X)) → AreApart items → next_id id items ≡ Some next
      → moved_before id next items ≡ items
  moved_before-behind id next items apart follows = by (lookup (nat_eq id) items) refl
    where
      by : (o : Option X) → lookup (nat_eq id) items ≡ o → moved_before id next items ≡ items
      by None at = ap (λ o. option_map_or (λ element. inserted next (id, element) (remove_entry (nat_eq id) items)) o items) at
      by (Some x) at = moved_before-inserted id next x items at ∙ inserted-behind id next x items apart at follows

  -- what holds of the list where the node is in it, and where it isn't, holds of the list with it before the other
  moved_cases : (id next : ℕ) (items : List (ℕ × X)) (P : List (ℕ × X) → Type 0) → P items
      → ((x : X) → lookup (nat_eq id) items ≡ Some x → P (inserted next (id, x) (remove_entry (nat_eq id) items)))
      → P (moved_before id next items)
  moved_cases id next items P as_it_was moves = by (lookup (nat_eq id) items) refl
    where
      by : (o : Option X) → lookup (nat_eq id) items ≡ o
          → P (option_map_or (λ element. inserted next (id, element) (remove_entry (nat_eq id) items)) o items)
      by None at = as_it_was
      by (Some x) at = moves x at

  -- once it is out, the node is not found
  gone : (id : ℕ) (items : List (ℕ × X)) → IsDistinct nat_eq (keys_of items) → lookup (nat_eq id) (remove_entry (nat_eq id) items) ≡ None
  gone id items d = lookup-removed id id items d ∙ cond-true (nat_eq id id) None (lookup (nat_eq id) items) (nat_eq-same id)

  -- under every id the same is found
  pub moved_before-found : (id next q : ℕ) (items : List (ℕ × X)) → IsDistinct nat_eq (keys_of items)
      → lookup (nat_eq q) (moved_before id next items) ≡ lookup (nat_eq q) items
  moved_before-found id next q items d =
      moved_cases id next items (λ l. lookup (nat_eq q) l ≡ lookup (nat_eq q) items) refl (λ x at.
      lookup-inserted q next id x (remove_entry (nat_eq id) items) (gone id items d)
      ∙ (elim (cases_Bool (nat_eq id q)) [
        | inl same ↦
            cond-true (nat_eq id q) (Some x) (lookup (nat_eq q) (remove_entry (nat_eq id) items)) same
            ∙ (sym at ∙ ap (λ k. lookup (nat_eq k) items) (eqb-true id q same))
        | inr other ↦
            cond-false (nat_eq id q) (Some x) (lookup (nat_eq q) (remove_entry (nat_eq id) items)) other
            ∙ lookup-remove_other id q items other
      ]))

  -- so the same nodes are in the list
  pub IsIn-moved_before : (id next q : ℕ) (items : List (ℕ × X)) → IsDistinct nat_eq (keys_of items)
      → IsIn (moved_before id next items) q ↔ IsIn items q
  IsIn-moved_before id next q items d =
      let same = ap is_some (moved_before-found id next q items d) in (λ found. sym same ∙ found, λ found. same ∙ found)

  -- as many as before
  pub length-moved_before : (id next : ℕ) (items : List (ℕ × X)) → length (moved_before id next items) ≡ length items
  length-moved_before id next items =
      moved_cases id next items (λ l. length l ≡ length items) refl (λ x at.
      length-inserted next (id, x) (remove_entry (nat_eq id) items) ∙ length-remove id items (ap is_some at))

  -- and none twice
  pub IsDistinct-moved_before : (id next : ℕ) (items : List (ℕ × X)) → IsDistinct nat_eq (keys_of items)
      → IsDistinct nat_eq (keys_of (moved_before id next items))
  IsDistinct-moved_before id next items d =
      moved_cases id next items (λ l. IsDistinct nat_eq (keys_of l)) d (λ x at.
      IsDistinct-inserted next id x (remove_entry (nat_eq id) items)
      (IsDistinct-removed id items d) (gone id items d))

  all_removed : (P : ℕ × X → Type 0) (id : ℕ) (es : List (ℕ × X)) → AllByRecursion P es → AllByRecursion P (remove_entry (nat_eq id) es)
  all_removed P id [] all = tt
  all_removed P id (e ∷ es) all =
      cond_both (nat_eq id e.0) es (e ∷ remove_entry (nat_eq id) es) (AllByRecursion P)
      (λ _. all.1)
      (λ _. (all.0, all_removed P id es all.1))

  all_found : (P : ℕ × X → Type 0) (id : ℕ) (x : X) (es : List (ℕ × X)) → AllByRecursion P es → lookup (nat_eq id) es ≡ Some x → P (id, x)
  all_found P id x [] all at = absurd (false≢true (ap is_some at))
  all_found P id x (e ∷ es) all at =
      elim (cases_Bool (nat_eq id e.0)) [
        | inl same ↦
            let key : e.0 ≡ id = sym (eqb-true id e.0 same) in
            let value : e.1 ≡ x = some_parts e.1 x (sym (cond-true (nat_eq id e.0) (Some e.1) (lookup (nat_eq id) es) same) ∙ at) in
            subst P (λ i. (key i, value i)) all.0
        | inr other ↦ all_found P id x es all.1 (sym (lookup-other id e es other) ∙ at)
      ]

  -- what holds of all nodes holds of all still
  pub All-moved_before : (P : ℕ × X → Type 0) (id next : ℕ) (items : List (ℕ × X)) → All P items → All P (moved_before id next items)
  All-moved_before P id next items all =
      let each = recursion_from_All P items all in
      All-from_recursion P (moved_before id next items)
      (moved_cases id next items (AllByRecursion P) each (λ x at.
      AllByRecursion-inserted P next (id, x) (remove_entry (nat_eq id) items) (all_found P id x items each at) (all_removed P id items each)))

  -- the others stay in their order
  pub moved_before-rest : (id next : ℕ) (items : List (ℕ × X)) → IsDistinct nat_eq (keys_of items)
      → remove_entry (nat_eq id) (moved_before id next items) ≡ remove_entry (nat_eq id) items
  moved_before-rest id next items d =
      moved_cases id next items (λ l. remove_entry (nat_eq id) l ≡ remove_entry (nat_eq id) items) refl (λ x at.
      remove-inserted next id x (remove_entry (nat_eq id) items) (gone id items d))

  -- and the other node is the one after it
  pub moved_before-next : (id next : ℕ) (items : List (ℕ × X)) → IsDistinct nat_eq (keys_of items) → IsIn items id → IsIn items next
      → nat_eq id next ≡ false → next_id id (moved_before id next items) ≡ Some next
  moved_before-next id next items d here found other = by (lookup (nat_eq id) items) refl here
    where
      by : (o : Option X) → lookup (nat_eq id) items ≡ o → is_some o ≡ true → next_id id (moved_before id next items) ≡ Some next
      by None at some = absurd (false≢true some)
      by (Some x) at some =
          ap (next_id id) (moved_before-inserted id next x items at)
          ∙ next-inserted next id x (remove_entry (nat_eq id) items) (gone id items d)
          (ap is_some (lookup-remove_other id next items other) ∙ found)

  before_first : (next : ℕ) (n : ℕ × X) (es : List (ℕ × X)) → first_id es ≡ Some next → inserted next n es ≡ n ∷ es
  before_first next n [] first = refl
  before_first next n (e ∷ es) first = inserted-same next n e es (eq-eqb next e.0 (sym (some_parts e.0 next first)))

  stands : (id next : ℕ) (x : X) (es : List (ℕ × X)) → AreApart es → lookup (nat_eq id) es ≡ Some x → next_id id es ≡ Some next
      → inserted next (id, x) (remove_entry (nat_eq id) es) ≡ es
  stands id next x [] apart at is = absurd (false≢true (ap is_some at))
  stands id next x (e ∷ es) apart at is =
      elim (cases_Bool (nat_eq id e.0)) [
        | inl same ↦
            let first : first_id es ≡ Some next = sym (cond-true (nat_eq id e.0) (first_id es) (next_id id es) same) ∙ is in
            let value : x ≡ e.1 = sym (some_parts e.1 x (sym (cond-true (nat_eq id e.0) (Some e.1) (lookup (nat_eq id) es) same) ∙ at)) in
            ap (inserted next (id, x)) (remove-same id e es same)
            ∙ (before_first next (id, x) es first ∙ (λ i. (eqb-true id e.0 same i, value i) ∷ es))
        | inr other ↦
            let later : next_id id es ≡ Some next = sym (cond-false (nat_eq id e.0) (first_id es) (next_id id es) other) ∙ is in
            let found : IsIn es next = subst (λ o. IfSome o (λ j. IsIn es j)) later (next_is_in id es) in
            ap (inserted next (id, x)) (remove-other id e es other)
            ∙ (inserted-other next (id, x) e (remove_entry (nat_eq id) es) (ne_comm e.0 next (differs e.0 next es apart.0 found))
            ∙ ap (λ l. e ∷ l) (stands id next x es apart.1 (sym (lookup-other id e es other) ∙ at) later))
      ]

  -- a node that is right before the other stays there
  pub moved_before-same : (id next : ℕ) (items : List (ℕ × X)) → IsDistinct nat_eq (keys_of items) → next_id id items ≡ Some next
      → moved_before id next items ≡ items
  moved_before-same id next items d is =
      moved_cases id next items (λ l. l ≡ items) refl (λ x at. stands id next x items (apart_from_distinct items d) at is)

  -- where the rest is cut at the other node
  pub moved_before-cut : (id : ℕ) (x : X) (items xs : List (ℕ × X)) (e : ℕ × X) (ys : List (ℕ × X)) → IsDistinct nat_eq (keys_of items)
      → lookup (nat_eq id) items ≡ Some x → remove_entry (nat_eq id) items ≡ xs ++ e ∷ ys
      → moved_before id e.0 items ≡ xs ++ (id, x) ∷ e ∷ ys
  moved_before-cut id x items xs e ys d at rest =
      moved_before-inserted id e.0 x items at
      ∙ (ap (inserted e.0 (id, x)) rest
      ∙ inserted-cut (id, x) xs e ys (subst AreApart rest (apart_from_distinct (remove_entry (nat_eq id) items) (IsDistinct-removed id items d))))
