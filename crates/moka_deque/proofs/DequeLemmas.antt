-- Lemmas on where a cursor is once its list changes.
use Rattle.std.proofs.Common.{◌≡◌, ℕ, Bool, true, false, cond, nat_eq, List, [], ◌∷◌, ◌++◌, Option, Some, None}
use Rattle.std.proofs.Common.{is_some, IsSome, refl, sym, ap, ◌∙◌, inl, inr}
use Rattle.std.proofs.lemmas.Bool.{cases_Bool, cond_both, cond-true, cond-false, eqb-true, false≢true}
use Rattle.std.specs.Map.{lookup, remove_entry, set_value}
use Rattle.std.specs.Option.{option_map_or}
use Rattle.moka_deque.specs.declared.deque.cursor.Cursor.{Cursor}
use Rattle.moka_deque.specs.declared.deque.cursor.Cursor.TheVariants.{Start, At, Done}
use Rattle.moka_deque.specs.Deque.{CursorIsIn, Deque, advanced, after_move_to_back, cursor_at, passed}
use Rattle.moka_list.specs.Nodes.{AreApart, IsIn, first_id, moved_to_back, next_id}
use Rattle.moka_list.proofs.ItemLemmas.{absent_head, found_cons, found_same, found_tail, lookup-remove_other, moved_to_back-last, set-other, set-same}

none_from : (o : Option ℕ) → is_some o ≡ false → o ≡ None
none_from None h = refl
none_from (Some id) h = absurd (false≢true (sym h))

module _ {T : Type 0} where
  -- the next node is another of the list
  abbrev IsNext : ℕ → List (ℕ × T) → Option ℕ → Type 0
  IsNext id es None = Unit {0}
  IsNext id es (Some n) = IsSome (lookup (nat_eq n) es) × (nat_eq id n ≡ false)

  first_next : (id : ℕ) (e : ℕ × T) (es : List (ℕ × T)) → nat_eq id e.0 ≡ true → lookup (nat_eq e.0) es ≡ None
      → IsNext id (e ∷ es) (first_id es)
  first_next id e [] same absent = tt
  first_next id e (f ∷ fs) same absent =
      (found_cons f.0 e (f ∷ fs) (found_same f fs), ap (λ k. nat_eq k f.0) (eqb-true id e.0 same) ∙ absent_head e.0 f fs absent)

  later_next : (id : ℕ) (e : ℕ × T) (es : List (ℕ × T)) (o : Option ℕ) → IsNext id es o → IsNext id (e ∷ es) o
  later_next id e es None h = tt
  later_next id e es (Some n) h = (found_cons n e es h.0, h.1)

  next_in : (id : ℕ) (es : List (ℕ × T)) → AreApart es → IsNext id es (next_id id es)
  next_in id [] apart = tt
  next_in id (e ∷ es) apart =
      cond_both (nat_eq id e.0) (first_id es) (next_id id es) (IsNext id (e ∷ es))
      (λ same. first_next id e es same apart.0)
      (λ _. later_next id e es (next_id id es) (next_in id es apart.1))

  found_push : (q id : ℕ) (x : T) (es : List (ℕ × T)) → IsSome (lookup (nat_eq q) es) → IsSome (lookup (nat_eq q) (es ++ (id, x) ∷ []))
  found_push q id x [] h = absurd (false≢true h)
  found_push q id x (e ∷ es) h =
      elim (cases_Bool (nat_eq q e.0)) [
        | inl same ↦ ap is_some (cond-true (nat_eq q e.0) (Some e.1) (lookup (nat_eq q) (es ++ (id, x) ∷ [])) same)
        | inr other ↦ found_cons q e (es ++ (id, x) ∷ []) (found_push q id x es (found_tail q e es other h))
      ]

  -- a cursor stays in a list that keeps its nodes
  CursorIsIn-kept : (old new : List (ℕ × T)) (cursor : Cursor) → ((q : ℕ) → IsIn old q → IsIn new q) → CursorIsIn old cursor
      → CursorIsIn new cursor
  CursorIsIn-kept old new Start keeps h = tt
  CursorIsIn-kept old new (At at) keeps h = keeps at h
  CursorIsIn-kept old new Done keeps h = tt

  -- a push keeps the cursor in the list
  pub CursorIsIn-push : (id : ℕ) (x : T) (es : List (ℕ × T)) (cursor : Cursor) → CursorIsIn es cursor
      → CursorIsIn (es ++ (id, x) ∷ []) cursor
  CursorIsIn-push id x es cursor h = CursorIsIn-kept es _ cursor (λ q. found_push q id x es) h

  found_set : (id q : ℕ) (w : T) (es : List (ℕ × T)) → IsIn es q → IsIn (set_value (nat_eq id) es w) q
  found_set id q w [] h = absurd (false≢true h)
  found_set id q w (e ∷ es) h =
      elim (cases_Bool (nat_eq id e.0)) [
        | inl same ↦ rw (set-same id e es w same) (both (nat_eq q e.0) e.1 w (lookup (nat_eq q) es) h)
        | inr other ↦
            rw (set-other id e es w other)
            (inner (nat_eq q e.0) e.1 (lookup (nat_eq q) es) (lookup (nat_eq q) (set_value (nat_eq id) es w)) (found_set id q w es) h)
      ]
    where
      both : (b : Bool) (x y : T) (o : Option T) → IsSome (cond b (Some x) o) → IsSome (cond b (Some y) o)
      both true x y o h = refl
      both false x y o h = h

      inner : (b : Bool) (x : T) (o p : Option T) → (IsSome o → IsSome p) → IsSome (cond b (Some x) o) → IsSome (cond b (Some x) p)
      inner true x o p k h = refl
      inner false x o p k h = k h

  -- so does another element
  pub CursorIsIn-set : (id : ℕ) (w : T) (es : List (ℕ × T)) (cursor : Cursor) → CursorIsIn es cursor
      → CursorIsIn (set_value (nat_eq id) es w) cursor
  CursorIsIn-set id w es cursor h = CursorIsIn-kept es _ cursor (λ q. found_set id q w es) h

  cursor_next : (id : ℕ) (es to : List (ℕ × T)) (o : Option ℕ) → IsNext id es o → ((q : ℕ) → IsIn es q → nat_eq id q ≡ false → IsIn to q)
      → CursorIsIn to (cursor_at o)
  cursor_next id es to None h keeps = tt
  cursor_next id es to (Some n) h keeps = keeps n h.0 h.1

  first_in : (es : List (ℕ × T)) → CursorIsIn es (cursor_at (first_id es))
  first_in [] = tt
  first_in (e ∷ es) = found_same e es

  next_found : (id : ℕ) (es : List (ℕ × T)) → CursorIsIn es (cursor_at (next_id id es))
  next_found id [] = tt
  next_found id (e ∷ es) =
      cond_both (nat_eq id e.0) (first_id es) (next_id id es) (λ o. CursorIsIn (e ∷ es) (cursor_at o))
      (λ _. CursorIsIn-kept es (e ∷ es) _ (λ q. found_cons q e es) (first_in es))
      (λ _. CursorIsIn-kept es (e ∷ es) _ (λ q. found_cons q e es) (next_found id es))

  -- a cursor that advances stays in the list
  pub CursorIsIn-advanced : (es : List (ℕ × T)) (cursor : Cursor) → CursorIsIn es (advanced es cursor)
  CursorIsIn-advanced es Start = tt
  CursorIsIn-advanced es (At at) = next_found at es
  CursorIsIn-advanced es Done = tt

  -- a cursor that has passed a node is in the list without it
  pub CursorIsIn-passed : (id : ℕ) (es : List (ℕ × T)) (cursor : Cursor) → AreApart es → CursorIsIn es cursor
      → CursorIsIn (remove_entry (nat_eq id) es) (passed id es cursor)
  CursorIsIn-passed id es Start apart h = tt
  CursorIsIn-passed id es (At at) apart h =
      let keeps : (q : ℕ) → IsIn es q → nat_eq id q ≡ false → IsIn (remove_entry (nat_eq id) es) q =
      λ q found other. ap is_some (lookup-remove_other id q es other) ∙ found in
      cond_both (nat_eq id at) (cursor_at (next_id at es)) (At at) (CursorIsIn (remove_entry (nat_eq id) es))
      (λ same. cursor_next at es (remove_entry (nat_eq id) es) (next_id at es) (next_in at es apart)
      (λ q found other. keeps q found (ap (λ k. nat_eq k q) (eqb-true id at same) ∙ other)))
      (λ other. keeps at h other)
  CursorIsIn-passed id es Done apart h = tt

  CursorIsIn-moved_at : (id : ℕ) (es : List (ℕ × T)) (cursor : Cursor) (o : Option T) → AreApart es → CursorIsIn es cursor → IsSome o
      → CursorIsIn (option_map_or (λ x. remove_entry (nat_eq id) es ++ (id, x) ∷ []) o es) (passed id es cursor)
  CursorIsIn-moved_at id es cursor None apart h found = absurd (false≢true found)
  CursorIsIn-moved_at id es cursor (Some x) apart h found = CursorIsIn-push id x _ _ (CursorIsIn-passed id es cursor apart h)

  -- so is one that has passed a node that is moved to the back
  pub CursorIsIn-moved : (id : ℕ) (es : List (ℕ × T)) (cursor : Cursor) → AreApart es → CursorIsIn es cursor → IsIn es id
      → CursorIsIn (moved_to_back id es) (passed id es cursor)
  CursorIsIn-moved id es cursor apart h found = CursorIsIn-moved_at id es cursor (lookup (nat_eq id) es) apart h found

  -- a list whose last node is moved to the back is as it was
  pub after_move_to_back-last : (d : Deque T) (id : ℕ) → is_some (next_id id d.items) ≡ false → d ≡ after_move_to_back id d
  after_move_to_back-last d id last = λ i. record {
    items = sym (moved_to_back-last id d.items (none_from (next_id id d.items) last)) i;
    cursor = sym (cond-false (is_some (next_id id d.items)) (passed id d.items d.cursor) d.cursor last) i;
    room = d.room;
    region = d.region;
  }
