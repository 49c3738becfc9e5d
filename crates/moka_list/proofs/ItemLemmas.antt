-- Lemmas on lists of nodes with their elements.
use Rattle.std.proofs.Common.{◌≡◌, ℕ, suc, Bool, true, false, cond, nat_eq, eq-eqb, List, [], ◌∷◌, ◌++◌, length, Option, Some, None}
use Rattle.std.proofs.Common.{is_some, IsSome, refl, sym, ap, ◌∙◌, inl, inr, arith}
use Rattle.std.proofs.lemmas.Bool.{cases_Bool, cond_both, cond-true, cond-false, eqb-true, false≢true}
use Rattle.std.proofs.lemmas.Bool.Decides.{nat_tests}
use Rattle.std.proofs.lemmas.Cmp.{nat_eq_equiv}
use Rattle.std.proofs.lemmas.Map.{lookup-set_value}
use Rattle.std.specs.Map.{lookup, remove_entry, set_value}
use Rattle.std.specs.Map.{keys_of}
use Rattle.std.specs.List.{IsDistinct, AllByRecursion}
use Rattle.std.specs.Option.{option_map_or}
use Rattle.moka_list.specs.Nodes.{AreApart, first_id, moved_to_back, next_id}

-- a number equals itself
pub nat_eq-same : (a : ℕ) → nat_eq a a ≡ true
nat_eq-same a = eq-eqb a a refl

-- a test of two numbers has no order
pub nat_eq_comm : (a b : ℕ) → nat_eq a b ≡ nat_eq b a
nat_eq_comm a b = grind (arith, nat_tests)

-- nor has their difference
pub ne_comm : (a b : ℕ) → nat_eq a b ≡ false → nat_eq b a ≡ false
ne_comm a b h = nat_eq_comm b a ∙ h

-- two tests of one number that don't both pass change slots
pub cond_swap : {X : Type 0} (a b : Bool) (x y z : X) → (a ≡ true → b ≡ true → x ≡ y) → cond a x (cond b y z) ≡ cond b y (cond a x z)
cond_swap true true x y z h = h refl refl
cond_swap true false x y z h = refl
cond_swap false true x y z h = refl
cond_swap false false x y z h = refl

-- two numbers that differ are not both the third
pub not_both : {P : Type 0} (a b q : ℕ) → nat_eq a b ≡ false → nat_eq a q ≡ true → nat_eq b q ≡ true → P
not_both {P} a b q h e f = absurd (false≢true (sym h ∙ eq-eqb a b (eqb-true a q e ∙ sym (eqb-true b q f))))

module _ {T : Type 0} where
  absent_parts : (b : Bool) (x : T) (o : Option T) → cond b (Some x) o ≡ None → (b ≡ false) × (o ≡ None)
  absent_parts true x o h = absurd (cc)
  absent_parts false x o h = (refl, h)

  -- a node that is not in the list is neither its first nor among the others
  pub absent_head : (q : ℕ) (e : ℕ × T) (es : List (ℕ × T)) → lookup (nat_eq q) (e ∷ es) ≡ None → nat_eq q e.0 ≡ false
  absent_head q e es h = (absent_parts (nat_eq q e.0) e.1 (lookup (nat_eq q) es) h).0

  pub absent_tail : (q : ℕ) (e : ℕ × T) (es : List (ℕ × T)) → lookup (nat_eq q) (e ∷ es) ≡ None → lookup (nat_eq q) es ≡ None
  absent_tail q e es h = (absent_parts (nat_eq q e.0) e.1 (lookup (nat_eq q) es) h).1

  pub absent_cons : (q : ℕ) (e : ℕ × T) (es : List (ℕ × T)) → nat_eq q e.0 ≡ false → lookup (nat_eq q) es ≡ None
      → lookup (nat_eq q) (e ∷ es) ≡ None
  absent_cons q e es h k = cond-false (nat_eq q e.0) (Some e.1) (lookup (nat_eq q) es) h ∙ k

  -- past another node, the look-up goes on
  pub lookup-other : (q : ℕ) (e : ℕ × T) (es : List (ℕ × T)) → nat_eq q e.0 ≡ false → lookup (nat_eq q) (e ∷ es) ≡ lookup (nat_eq q) es
  lookup-other q e es h = cond-false (nat_eq q e.0) (Some e.1) (lookup (nat_eq q) es) h

  -- the first node is found
  pub lookup-same : (e : ℕ × T) (es : List (ℕ × T)) → lookup (nat_eq e.0) (e ∷ es) ≡ Some e.1
  lookup-same e es = cond-true (nat_eq e.0 e.0) (Some e.1) (lookup (nat_eq e.0) es) (nat_eq-same e.0)

  -- a node that is in the list is not one that isn't
  pub differs : (a b : ℕ) (es : List (ℕ × T)) → lookup (nat_eq a) es ≡ None → IsSome (lookup (nat_eq b) es) → nat_eq a b ≡ false
  differs a b es absent found =
      elim (cases_Bool (nat_eq a b)) [
        | inl same ↦
            absurd (false≢true (sym (ap (λ q. is_some (lookup (nat_eq q) es)) (sym (eqb-true a b same)) ∙ ap is_some absent) ∙ found))
        | inr other ↦ other
      ]

  -- what a list with one node more finds
  pub lookup-push : (q id : ℕ) (x : T) (es : List (ℕ × T)) → lookup (nat_eq id) es ≡ None
      → lookup (nat_eq q) (es ++ (id, x) ∷ []) ≡ cond (nat_eq id q) (Some x) (lookup (nat_eq q) es)
  lookup-push q id x [] h = ap (λ b. cond b (Some x) None) (nat_eq_comm q id)
  lookup-push q id x (e ∷ es) h =
      ap (cond (nat_eq q e.0) (Some e.1)) (lookup-push q id x es (absent_tail id e es h))
      ∙ cond_swap (nat_eq q e.0) (nat_eq id q) (Some e.1) (Some x) (lookup (nat_eq q) es)
      (λ a b. not_both id e.0 q (absent_head id e es h) b (nat_eq_comm e.0 q ∙ a))

  -- a node that is new keeps the nodes apart
  pub AreApart-push : (id : ℕ) (x : T) (es : List (ℕ × T)) → AreApart es → lookup (nat_eq id) es ≡ None → AreApart (es ++ (id, x) ∷ [])
  AreApart-push id x [] a h = (refl, tt)
  AreApart-push id x (e ∷ es) a h = (
    lookup-push e.0 id x es (absent_tail id e es h) ∙ cond-false (nat_eq id e.0) (Some x) (lookup (nat_eq e.0) es) (absent_head id e es h)
        ∙ a.0,
    AreApart-push id x es a.1 (absent_tail id e es h),
  )

  -- what `remove_entry` leaves at the first node, and at another
  pub remove-same : (id : ℕ) (e : ℕ × T) (es : List (ℕ × T)) → nat_eq id e.0 ≡ true → remove_entry (nat_eq id) (e ∷ es) ≡ es
  remove-same id e es h = cond-true (nat_eq id e.0) es (e ∷ remove_entry (nat_eq id) es) h

  pub remove-other : (id : ℕ) (e : ℕ × T) (es : List (ℕ × T)) → nat_eq id e.0 ≡ false
      → remove_entry (nat_eq id) (e ∷ es) ≡ e ∷ remove_entry (nat_eq id) es
  remove-other id e es h = cond-false (nat_eq id e.0) es (e ∷ remove_entry (nat_eq id) es) h

  -- another node stays as it was
  pub lookup-remove_other : (id q : ℕ) (es : List (ℕ × T)) → nat_eq id q ≡ false
      → lookup (nat_eq q) (remove_entry (nat_eq id) es) ≡ lookup (nat_eq q) es
  lookup-remove_other id q [] h = refl
  lookup-remove_other id q (e ∷ es) h =
      elim (cases_Bool (nat_eq id e.0)) [
        | inl same ↦
            rw (remove-same id e es same) (sym (lookup-other q e es (ap (nat_eq q) (sym (eqb-true id e.0 same)) ∙ ne_comm id q h)))
        | inr other ↦
            rw (remove-other id e es other) (ap (cond (nat_eq q e.0) (Some e.1)) (lookup-remove_other id q es h))
      ]

  -- the node that is taken out is gone
  pub lookup-remove_same : (id : ℕ) (es : List (ℕ × T)) → AreApart es → lookup (nat_eq id) (remove_entry (nat_eq id) es) ≡ None
  lookup-remove_same id [] a = refl
  lookup-remove_same id (e ∷ es) a =
      elim (cases_Bool (nat_eq id e.0)) [
        | inl same ↦ rw (remove-same id e es same) (ap (λ q. lookup (nat_eq q) es) (eqb-true id e.0 same) ∙ a.0)
        | inr other ↦ rw (remove-other id e es other) (absent_cons id e _ other (lookup-remove_same id es a.1))
      ]

  -- a node that isn't there doesn't come
  pub absent-remove : (id q : ℕ) (es : List (ℕ × T)) → lookup (nat_eq q) es ≡ None → lookup (nat_eq q) (remove_entry (nat_eq id) es) ≡ None
  absent-remove id q [] h = refl
  absent-remove id q (e ∷ es) h =
      elim (cases_Bool (nat_eq id e.0)) [
        | inl same ↦ rw (remove-same id e es same) (absent_tail q e es h)
        | inr other ↦
            rw (remove-other id e es other) (absent_cons q e _ (absent_head q e es h) (absent-remove id q es (absent_tail q e es h)))
      ]

  -- the others stay apart
  pub AreApart-remove : (id : ℕ) (es : List (ℕ × T)) → AreApart es → AreApart (remove_entry (nat_eq id) es)
  AreApart-remove id [] a = tt
  AreApart-remove id (e ∷ es) a =
      elim (cases_Bool (nat_eq id e.0)) [
        | inl same ↦ rw (remove-same id e es same) a.1
        | inr other ↦ rw (remove-other id e es other) (absent-remove id e.0 es a.0, AreApart-remove id es a.1)
      ]

  -- one node less
  pub length-remove : (id : ℕ) (es : List (ℕ × T)) → IsSome (lookup (nat_eq id) es) → suc (length (remove_entry (nat_eq id) es)) ≡ length es
  length-remove id [] h = absurd (false≢true h)
  length-remove id (e ∷ es) h =
      elim (cases_Bool (nat_eq id e.0)) [
        | inl same ↦ rw (remove-same id e es same) refl
        | inr other ↦ rw (remove-other id e es other) (ap suc (length-remove id es (ap is_some (sym (lookup-other id e es other)) ∙ h)))
      ]

  -- a node of the rest is a node of the whole
  pub found_cons : (q : ℕ) (e : ℕ × T) (es : List (ℕ × T)) → IsSome (lookup (nat_eq q) es) → IsSome (lookup (nat_eq q) (e ∷ es))
  found_cons q e es h = cond_both (nat_eq q e.0) (Some e.1) (lookup (nat_eq q) es) (λ o. is_some o ≡ true) (λ _. refl) (λ _. h)

  -- the first node is in the list
  pub found_same : (e : ℕ × T) (es : List (ℕ × T)) → IsSome (lookup (nat_eq e.0) (e ∷ es))
  found_same e es = ap is_some (lookup-same e es)

  -- a node that isn't the first is in the rest
  pub found_tail : (q : ℕ) (e : ℕ × T) (es : List (ℕ × T)) → nat_eq q e.0 ≡ false → IsSome (lookup (nat_eq q) (e ∷ es))
      → IsSome (lookup (nat_eq q) es)
  found_tail q e es other found = ap is_some (sym (lookup-other q e es other)) ∙ found

  -- what `set_value` makes of the first node, and of another
  pub set-same : (id : ℕ) (e : ℕ × T) (es : List (ℕ × T)) (w : T) → nat_eq id e.0 ≡ true → set_value (nat_eq id) (e ∷ es) w ≡ (e.0, w) ∷ es
  set-same id e es w h = cond-true (nat_eq id e.0) ((e.0, w) ∷ es) (e ∷ set_value (nat_eq id) es w) h

  pub set-other : (id : ℕ) (e : ℕ × T) (es : List (ℕ × T)) (w : T) → nat_eq id e.0 ≡ false
      → set_value (nat_eq id) (e ∷ es) w ≡ e ∷ set_value (nat_eq id) es w
  set-other id e es w h = cond-false (nat_eq id e.0) ((e.0, w) ∷ es) (e ∷ set_value (nat_eq id) es w) h

  -- another element brings no node
  pub absent-set : (id q : ℕ) (w : T) (es : List (ℕ × T)) → lookup (nat_eq q) es ≡ None
      → lookup (nat_eq q) (set_value (nat_eq id) es w) ≡ None
  absent-set id q w [] h = refl
  absent-set id q w (e ∷ es) h =
      elim (cases_Bool (nat_eq id e.0)) [
        | inl same ↦ rw (set-same id e es w same) (absent_cons q (e.0, w) es (absent_head q e es h) (absent_tail q e es h))
        | inr other ↦
            rw (set-other id e es w other) (absent_cons q e _ (absent_head q e es h) (absent-set id q w es (absent_tail q e es h)))
      ]

  -- nor one that is there
  pub AreApart-set : (id : ℕ) (w : T) (es : List (ℕ × T)) → AreApart es → AreApart (set_value (nat_eq id) es w)
  AreApart-set id w [] a = tt
  AreApart-set id w (e ∷ es) a =
      elim (cases_Bool (nat_eq id e.0)) [
        | inl same ↦ rw (set-same id e es w same) (a.0, a.1)
        | inr other ↦ rw (set-other id e es w other) (absent-set id e.0 w es a.0, AreApart-set id w es a.1)
      ]

  -- what a list with another element finds
  pub lookup-set : (id q : ℕ) (w : T) (es : List (ℕ × T)) → IsSome (lookup (nat_eq id) es)
      → lookup (nat_eq q) (set_value (nat_eq id) es w) ≡ cond (nat_eq id q) (Some w) (lookup (nat_eq q) es)
  lookup-set id q w es found =
      lookup-set_value nat_eq_equiv (nat_eq id) (λ x y same. ap (λ k. nat_eq k y) (eqb-true id x same)) q w es found

  fresh : (q : ℕ) (es : List (ℕ × T)) → lookup (nat_eq q) es ≡ None → AllByRecursion (λ y. nat_eq q y ≡ false) (keys_of es)
  fresh q [] h = tt
  fresh q (e ∷ es) h = (absent_head q e es h, fresh q es (absent_tail q e es h))

  -- nodes that don't come twice are distinct
  pub distinct_from_apart : (es : List (ℕ × T)) → AreApart es → IsDistinct nat_eq (keys_of es)
  unfolding IsDistinct
  distinct_from_apart [] a = tt
  distinct_from_apart (e ∷ es) a = (fresh e.0 es a.0, distinct_from_apart es a.1)

  none_first : (es : List (ℕ × T)) → first_id es ≡ None → es ≡ []
  none_first [] h = refl
  none_first (e ∷ es) h = absurd (cc)

  last_stays : (id : ℕ) (x : T) (es : List (ℕ × T)) → lookup (nat_eq id) es ≡ Some x → next_id id es ≡ None
      → remove_entry (nat_eq id) es ++ (id, x) ∷ [] ≡ es
  last_stays id x [] at last = absurd (cc)
  last_stays id x (e ∷ es) at last =
      elim (cases_Bool (nat_eq id e.0)) [
        | inl same ↦
            let empty : es ≡ [] = none_first es (sym (cond-true (nat_eq id e.0) (first_id es) (next_id id es) same) ∙ last) in
            let value : x ≡ e.1 =
            let found : Some e.1 ≡ Some x = sym (cond-true (nat_eq id e.0) (Some e.1) (lookup (nat_eq id) es) same) ∙ at in cc in
            ap (λ xs. xs ++ (id, x) ∷ []) (remove-same id e es same ∙ empty) ∙ (λ i. (eqb-true id e.0 same i, value i) ∷ sym empty i)
        | inr other ↦
            ap (λ xs. xs ++ (id, x) ∷ []) (remove-other id e es other)
            ∙ ap (λ xs. e ∷ xs) (last_stays id x es (sym (lookup-other id e es other) ∙ at)
            (sym (cond-false (nat_eq id e.0) (first_id es) (next_id id es) other) ∙ last))
      ]

  moved_last_at : (id : ℕ) (es : List (ℕ × T)) (o : Option T) → lookup (nat_eq id) es ≡ o → next_id id es ≡ None
      → option_map_or (λ x. remove_entry (nat_eq id) es ++ (id, x) ∷ []) o es ≡ es
  moved_last_at id es None at last = refl
  moved_last_at id es (Some x) at last = last_stays id x es at last

  -- the last node stays where it is
  pub moved_to_back-last : (id : ℕ) (es : List (ℕ × T)) → next_id id es ≡ None → moved_to_back id es ≡ es
  moved_to_back-last id es last = moved_last_at id es (lookup (nat_eq id) es) refl last
