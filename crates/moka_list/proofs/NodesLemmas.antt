-- Lemmas on what follows and what precedes each node of a list.
use Rattle.std.proofs.Common.{◌≡◌, ◌⊎◌, ℕ, Bool, true, false}
use Rattle.std.proofs.Common.{cond, nat_eq, List, [], ◌∷◌, ◌++◌}
use Rattle.std.proofs.Common.{Some, None, is_some, IsSome}
use Rattle.std.proofs.Common.{refl, sym, ap, ◌∙◌, inl, inr}
use Rattle.std.proofs.lemmas.Bool.{cases_Bool, cond_both, cond-true, cond-false, eqb-true, false≢true}
use Rattle.std.specs.Map.{lookup, remove_entry, set_value}
use Rattle.moka_list.specs.Chain.{inserted}
use Rattle.moka_list.specs.Nodes.{first_id, next_id}
use Rattle.moka_list.specs.Nodes.{AreApart, follower, preceder}
use Rattle.moka_list.proofs.ItemLemmas.{nat_eq-same, nat_eq_comm, ne_comm, cond_swap, not_both, absent_head, absent_tail}
use Rattle.moka_list.proofs.ItemLemmas.{remove-same, remove-other, found_cons, found_same, found_tail}
use Rattle.moka_list.proofs.ItemLemmas.{set-same, set-other}
use Rattle.moka_list.proofs.InsertedLemmas.{inserted-same, inserted-other}

-- behind a test that failed, the same test fails
where_fails : (a b : Bool) (y z v w : ℕ) → cond a y (cond b z w) ≡ cond a y (cond b z (cond a v w))
where_fails true b y z v w = refl
where_fails false true y z v w = refl
where_fails false false y z v w = refl

module _ {T : Type 0} (none : ℕ) where
  -- what precedes a node is before the list or in it
  pub preceder_apart : (p r : ℕ) (es : List (ℕ × T)) (id : ℕ) → nat_eq r p ≡ false → lookup (nat_eq r) es ≡ None
      → IsSome (lookup (nat_eq id) es) → nat_eq r (preceder none p es id) ≡ false
  preceder_apart p r [] id h k found = absurd (false≢true found)
  preceder_apart p r (e ∷ es) id h k found =
      cond_both (nat_eq id e.0) p (preceder none e.0 es id) (λ x. nat_eq r x ≡ false)
      (λ _. h)
      (λ other. preceder_apart e.0 r es id (absent_head r e es k) (absent_tail r e es k) (found_tail id e es other found))

  -- the last node is another than one that is neither before the list nor in it
  pub last_apart : (p r : ℕ) (es : List (ℕ × T)) → nat_eq r p ≡ false → lookup (nat_eq r) es ≡ None
      → nat_eq r (preceder none p es none) ≡ false
  last_apart p r [] h k = ap (nat_eq r) (cond-true (nat_eq none none) p none (nat_eq-same none)) ∙ h
  last_apart p r (e ∷ es) h k =
      cond_both (nat_eq none e.0) p (preceder none e.0 es none) (λ x. nat_eq r x ≡ false)
      (λ _. h)
      (λ other. last_apart e.0 r es (absent_head r e es k) (absent_tail r e es k))

  -- no node precedes or follows itself
  preceder_other : (p id : ℕ) (es : List (ℕ × T)) → nat_eq p id ≡ false → nat_eq (preceder none p es id) id ≡ false
  preceder_other p id [] h = cond_both (nat_eq none id) p none (λ x. nat_eq x id ≡ false) (λ _. h) (λ other. other)
  preceder_other p id (e ∷ es) h =
      cond_both (nat_eq id e.0) p (preceder none e.0 es id) (λ x. nat_eq x id ≡ false)
      (λ _. h)
      (λ other. preceder_other e.0 id es (ne_comm id e.0 other))

  follower_other : (p id : ℕ) (es : List (ℕ × T)) → nat_eq none id ≡ false → lookup (nat_eq p) es ≡ None → AreApart es
      → nat_eq (follower none p es id) id ≡ false
  follower_other p id [] ne absent apart = ne
  follower_other p id (e ∷ es) ne absent apart =
      cond_both (nat_eq p id) e.0 (follower none e.0 es id) (λ x. nat_eq x id ≡ false)
      (λ same. ap (nat_eq e.0) (sym (eqb-true p id same)) ∙ ne_comm p e.0 (absent_head p e es absent))
      (λ _. follower_other e.0 id es ne apart.0 apart.1)

  -- what follows is past the list or in it
  pub follower_apart : (p r : ℕ) (es : List (ℕ × T)) (id : ℕ) → nat_eq r none ≡ false → lookup (nat_eq r) es ≡ None
      → nat_eq r (follower none p es id) ≡ false
  follower_apart p r [] id h k = h
  follower_apart p r (e ∷ es) id h k =
      cond_both (nat_eq p id) e.0 (follower none e.0 es id) (λ x. nat_eq r x ≡ false)
      (λ _. absent_head r e es k)
      (λ _. follower_apart e.0 r es id h (absent_tail r e es k))

  abbrev AtOrIn : ℕ → List (ℕ × T) → ℕ → Type 0
  AtOrIn p es x = IsSome (lookup (nat_eq x) es) ⊎ (p ≡ x)

  at_or_in_cons : (p : ℕ) (e : ℕ × T) (es : List (ℕ × T)) (x : ℕ) → AtOrIn e.0 es x → AtOrIn p (e ∷ es) x
  at_or_in_cons p e es x (inl h) = inl (found_cons x e es h)
  at_or_in_cons p e es x (inr h) = inl (ap (λ q. is_some (lookup (nat_eq q) (e ∷ es))) (sym h) ∙ found_same e es)

  past_or_in_cons : (e : ℕ × T) (es : List (ℕ × T)) (x : ℕ) → AtOrIn none es x → AtOrIn none (e ∷ es) x
  past_or_in_cons e es x (inl h) = inl (found_cons x e es h)
  past_or_in_cons e es x (inr h) = inr h

  pub preceder_place : (p : ℕ) (es : List (ℕ × T)) (id : ℕ) → IsSome (lookup (nat_eq id) es)
      → IsSome (lookup (nat_eq (preceder none p es id)) es) ⊎ (p ≡ preceder none p es id)
  preceder_place p [] id found = absurd (false≢true found)
  preceder_place p (e ∷ es) id found =
      cond_both (nat_eq id e.0) p (preceder none e.0 es id) (AtOrIn p (e ∷ es))
      (λ _. inr refl)
      (λ other. at_or_in_cons p e es _ (preceder_place e.0 es id (found_tail id e es other found)))

  pub last_place : (p : ℕ) (es : List (ℕ × T)) → IsSome (lookup (nat_eq (preceder none p es none)) es) ⊎ (p ≡ preceder none p es none)
  last_place p [] = inr (sym (cond-true (nat_eq none none) p none (nat_eq-same none)))
  last_place p (e ∷ es) =
      cond_both (nat_eq none e.0) p (preceder none e.0 es none) (AtOrIn p (e ∷ es))
      (λ _. inr refl)
      (λ other. at_or_in_cons p e es _ (last_place e.0 es))

  pub follower_place : (p : ℕ) (es : List (ℕ × T)) (id : ℕ)
      → IsSome (lookup (nat_eq (follower none p es id)) es) ⊎ (none ≡ follower none p es id)
  follower_place p [] id = inr refl
  follower_place p (e ∷ es) id =
      cond_both (nat_eq p id) e.0 (follower none e.0 es id) (AtOrIn none (e ∷ es))
      (λ _. inl (found_same e es))
      (λ _. past_or_in_cons e es _ (follower_place e.0 es id))

  -- another node than those before two lists has the same follower
  follower_skips : (a b q : ℕ) (es : List (ℕ × T)) → nat_eq a q ≡ false → nat_eq b q ≡ false → follower none a es q ≡ follower none b es q
  follower_skips a b q [] h k = refl
  follower_skips a b q (e ∷ es) h k =
      cond-false (nat_eq a q) e.0 (follower none e.0 es q) h ∙ sym (cond-false (nat_eq b q) e.0 (follower none e.0 es q) k)

  -- what is before the list is followed by the first node, whatever it is
  follower_first : (a b : ℕ) (es : List (ℕ × T)) → follower none a es a ≡ follower none b es b
  follower_first a b [] = refl
  follower_first a b (e ∷ es) =
      cond-true (nat_eq a a) e.0 (follower none e.0 es a) (nat_eq-same a)
      ∙ sym (cond-true (nat_eq b b) e.0 (follower none e.0 es b) (nat_eq-same b))

  pub follower_behind : (p : ℕ) (e : ℕ × T) (es : List (ℕ × T)) (q : ℕ) → nat_eq p q ≡ false
      → follower none p (e ∷ es) q ≡ follower none e.0 es q
  follower_behind p e es q h = cond-false (nat_eq p q) e.0 (follower none e.0 es q) h

  preceder_behind : (p : ℕ) (e : ℕ × T) (es : List (ℕ × T)) (q : ℕ) → nat_eq q e.0 ≡ false
      → preceder none p (e ∷ es) q ≡ preceder none e.0 es q
  preceder_behind p e es q h = cond-false (nat_eq q e.0) p (preceder none e.0 es q) h

  -- one list behind two nodes
  follower_rebased : (p a q : ℕ) (es : List (ℕ × T)) → nat_eq a q ≡ false
      → follower none p es q ≡ cond (nat_eq p q) (follower none a es a) (follower none a es q)
  follower_rebased p a q es h =
      elim (cases_Bool (nat_eq p q)) [
        | inl same ↦ ap (follower none p es) (sym (eqb-true p q same)) ∙ follower_first p a es ∙ sym (cond-true (nat_eq p q) _ _ same)
        | inr other ↦ follower_skips p a q es other h ∙ sym (cond-false (nat_eq p q) _ _ other)
      ]

  preceder_rebased : (p a q : ℕ) (es : List (ℕ × T))
      → preceder none p es q ≡ cond (nat_eq (follower none a es a) q) p (preceder none a es q)
  preceder_rebased p a q [] =
      cond_both (nat_eq none q) p none (λ x. x ≡ cond (nat_eq none q) p (cond (nat_eq none q) a none))
      (λ h. sym (cond-true (nat_eq none q) _ _ h))
      (λ h. sym (cond-false (nat_eq none q) _ _ h ∙ cond-false (nat_eq none q) _ _ h))
  preceder_rebased p a q (e ∷ es) =
      let first : follower none a (e ∷ es) a ≡ e.0 = cond-true (nat_eq a a) e.0 (follower none e.0 es a) (nat_eq-same a) in
      let test : nat_eq q e.0 ≡ nat_eq (follower none a (e ∷ es) a) q = nat_eq_comm q e.0 ∙ ap (λ x. nat_eq x q) (sym first) in
      cond_both (nat_eq q e.0) p (preceder none e.0 es q)
      (λ x. x ≡ cond (nat_eq (follower none a (e ∷ es) a) q) p (cond (nat_eq q e.0) a (preceder none e.0 es q)))
      (λ h. sym (cond-true _ _ _ (sym test ∙ h)))
      (λ h. sym (cond-false _ _ _ (sym test ∙ h) ∙ cond-false (nat_eq q e.0) _ _ h))

  -- the links forward once a node is taken out
  pub follower-remove : (p id q : ℕ) (es : List (ℕ × T)) → nat_eq p id ≡ false → lookup (nat_eq p) es ≡ None → AreApart es
      → IsSome (lookup (nat_eq id) es) → nat_eq id q ≡ false
      → follower none p (remove_entry (nat_eq id) es) q ≡ cond (nat_eq (preceder none p es id) q) (follower none p es id)
      (follower none p es q)
  follower-remove p id q [] ne absent apart found other = absurd (false≢true found)
  follower-remove p id q (e ∷ es) ne absent apart found other =
      elim (cases_Bool (nat_eq id e.0)) [
        | inl same ↦
            let at : id ≡ e.0 = eqb-true id e.0 same in
            let before : preceder none p (e ∷ es) id ≡ p = cond-true (nat_eq id e.0) p (preceder none e.0 es id) same in
            let after : follower none p (e ∷ es) id ≡ follower none e.0 es e.0 =
            follower_behind p e es id ne ∙ ap (follower none e.0 es) at in
            let rest : follower none p es q ≡ cond (nat_eq p q) (follower none e.0 es e.0) (follower none e.0 es q) =
            follower_rebased p e.0 q es (ap (λ x. nat_eq x q) (sym at) ∙ other) in
            rw (remove-same id e es same, before, after)
            (rest ∙ cond_inner (nat_eq p q) (follower none e.0 es e.0) e.0 (follower none e.0 es q))
        | inr different ↦
            let before : preceder none p (e ∷ es) id ≡ preceder none e.0 es id = preceder_behind p e es id different in
            let after : follower none p (e ∷ es) id ≡ follower none e.0 es id = follower_behind p e es id ne in
            let rest = follower-remove e.0 id q es (ne_comm id e.0 different) apart.0 apart.1 (found_tail id e es different found) other in
            let unlike : nat_eq p (preceder none e.0 es id) ≡ false =
            preceder_apart e.0 p es id (absent_head p e es absent) (absent_tail p e es absent) (found_tail id e es different found) in
            rw (remove-other id e es different, before, after) (
            ap (cond (nat_eq p q) e.0) rest
            ∙ cond_swap (nat_eq p q) (nat_eq (preceder none e.0 es id) q) e.0 (follower none e.0 es id) (follower none e.0 es q)
            (λ a b. not_both p (preceder none e.0 es id) q unlike a b)
            )
      ]
    where
      cond_inner : (b : Bool) (x y z : ℕ) → cond b x z ≡ cond b x (cond b y z)
      cond_inner true x y z = refl
      cond_inner false x y z = refl

  -- the links back
  pub preceder-remove : (p id q : ℕ) (es : List (ℕ × T)) → nat_eq p id ≡ false → AreApart es → lookup (nat_eq none) es ≡ None
      → IsSome (lookup (nat_eq id) es) → nat_eq id q ≡ false
      → preceder none p (remove_entry (nat_eq id) es) q ≡ cond (nat_eq (follower none p es id) q) (preceder none p es id)
      (preceder none p es q)
  preceder-remove p id q [] ne apart end found other = absurd (false≢true found)
  preceder-remove p id q (e ∷ es) ne apart end found other =
      elim (cases_Bool (nat_eq id e.0)) [
        | inl same ↦
            let at : id ≡ e.0 = eqb-true id e.0 same in
            let before : preceder none p (e ∷ es) id ≡ p = cond-true (nat_eq id e.0) p (preceder none e.0 es id) same in
            let after : follower none p (e ∷ es) id ≡ follower none e.0 es e.0 =
            follower_behind p e es id ne ∙ ap (follower none e.0 es) at in
            let there : preceder none p (e ∷ es) q ≡ preceder none e.0 es q =
            preceder_behind p e es q (nat_eq_comm q e.0 ∙ ap (λ x. nat_eq x q) (sym at) ∙ other) in
            rw (remove-same id e es same, before, after, there) (preceder_rebased p e.0 q es)
        | inr different ↦
            let before : preceder none p (e ∷ es) id ≡ preceder none e.0 es id = preceder_behind p e es id different in
            let after : follower none p (e ∷ es) id ≡ follower none e.0 es id = follower_behind p e es id ne in
            let rest =
            preceder-remove e.0 id q es (ne_comm id e.0 different) apart.1 (absent_tail none e es end) (found_tail id e es different found)
            other in
            let unlike : nat_eq e.0 (follower none e.0 es id) ≡ false =
            follower_apart e.0 e.0 es id (ne_comm none e.0 (absent_head none e es end)) apart.0 in
            rw (remove-other id e es different, before, after) (
            ap (cond (nat_eq q e.0) p) rest
            ∙ cond_swap (nat_eq q e.0) (nat_eq (follower none e.0 es id) q) p (preceder none e.0 es id) (preceder none e.0 es q)
            (λ a b. not_both e.0 (follower none e.0 es id) q unlike (nat_eq_comm e.0 q ∙ a) b)
            )
      ]

  linked_first : (a : ℕ) (es : List (ℕ × T)) → lookup (nat_eq none) es ≡ None
      → cond (nat_eq (follower none a es a) none) None (Some (follower none a es a)) ≡ first_id es
  linked_first a [] end = cond-true (nat_eq none none) None (Some none) (nat_eq-same none)
  linked_first a (e ∷ es) end =
      let first : follower none a (e ∷ es) a ≡ e.0 = cond-true (nat_eq a a) e.0 (follower none e.0 es a) (nat_eq-same a) in
      rw first (cond-false (nat_eq e.0 none) None (Some e.0) (ne_comm none e.0 (absent_head none e es end)))

  -- what the links say of a node is what the list says
  pub linked_next : (p id : ℕ) (es : List (ℕ × T)) → nat_eq p id ≡ false → lookup (nat_eq none) es ≡ None → IsSome (lookup (nat_eq id) es)
      → cond (nat_eq (follower none p es id) none) None (Some (follower none p es id)) ≡ next_id id es
  linked_next p id [] ne end found = absurd (false≢true found)
  linked_next p id (e ∷ es) ne end found =
      let behind : follower none p (e ∷ es) id ≡ follower none e.0 es id = follower_behind p e es id ne in
      let end_later = absent_tail none e es end in
      rw behind (elim (cases_Bool (nat_eq id e.0)) [
        | inl same ↦
            let at : id ≡ e.0 = eqb-true id e.0 same in
            ap (λ q. cond (nat_eq (follower none e.0 es q) none) None (Some (follower none e.0 es q))) at ∙ linked_first e.0 es end_later
            ∙ sym (cond-true (nat_eq id e.0) (first_id es) (next_id id es) same)
        | inr other ↦
            linked_next e.0 id es (ne_comm id e.0 other) end_later (found_tail id e es other found)
            ∙ sym (cond-false (nat_eq id e.0) (first_id es) (next_id id es) other)
      ])

  -- the links forward once a node is put at the back
  pub follower-push : (p id q : ℕ) (x : T) (es : List (ℕ × T)) → nat_eq p id ≡ false → lookup (nat_eq p) es ≡ None → AreApart es
      → lookup (nat_eq none) es ≡ None → lookup (nat_eq id) es ≡ None
      → follower none p (es ++ (id, x) ∷ []) q ≡ cond (nat_eq (preceder none p es none) q) id
      (cond (nat_eq id q) none (follower none p es q))
  follower-push p id q x [] ne absent apart end new =
      let last : preceder {T = T} none p [] none ≡ p = cond-true (nat_eq none none) p none (nat_eq-same none) in
      rw last (ap (cond (nat_eq p q) id) (same_either (nat_eq id q) none))
    where
      same_either : (b : Bool) (y : ℕ) → y ≡ cond b y y
      same_either true y = refl
      same_either false y = refl
  follower-push p id q x (e ∷ es) ne absent apart end new =
      let last : preceder none p (e ∷ es) none ≡ preceder none e.0 es none = preceder_behind p e es none (absent_head none e es end) in
      let l = preceder none e.0 es none in
      let unlike : nat_eq p l ≡ false = last_apart e.0 p es (absent_head p e es absent) (absent_tail p e es absent) in
      let rest =
      follower-push e.0 id q x es (ne_comm id e.0 (absent_head id e es new)) apart.0 apart.1 (absent_tail none e es end)
      (absent_tail id e es new) in
      rw last (
      ap (cond (nat_eq p q) e.0) rest
      ∙ cond_swap (nat_eq p q) (nat_eq l q) e.0 id (cond (nat_eq id q) none (follower none e.0 es q)) (λ a b. not_both p l q unlike a b)
      ∙ ap (cond (nat_eq l q) id) (cond_swap (nat_eq p q) (nat_eq id q) e.0 none (follower none e.0 es q) (λ a b. not_both p id q ne a b))
      )

  -- the links back
  pub preceder-push : (p id q : ℕ) (x : T) (es : List (ℕ × T)) → nat_eq id none ≡ false → lookup (nat_eq none) es ≡ None
      → lookup (nat_eq id) es ≡ None → preceder none p (es ++ (id, x) ∷ []) q ≡ cond (nat_eq none q) id
      (cond (nat_eq id q) (preceder none p es none) (preceder none p es q))
  preceder-push p id q x [] ne end new =
      let last : preceder {T = T} none p [] none ≡ p = cond-true (nat_eq none none) p none (nat_eq-same none) in
      rw (last, nat_eq_comm q id) (
      cond_swap (nat_eq id q) (nat_eq none q) p id none (λ a b. not_both id none q ne a b)
      ∙ inner (nat_eq none q) (nat_eq id q) id p none
      )
    where
      inner : (a b : Bool) (y z w : ℕ) → cond a y (cond b z w) ≡ cond a y (cond b z (cond a z w))
      inner true b y z w = refl
      inner false b y z w = refl
  preceder-push p id q x (e ∷ es) ne end new =
      let last : preceder none p (e ∷ es) none ≡ preceder none e.0 es none = preceder_behind p e es none (absent_head none e es end) in
      let l = preceder none e.0 es none in
      let rest = preceder-push e.0 id q x es ne (absent_tail none e es end) (absent_tail id e es new) in
      rw last (
      ap (cond (nat_eq q e.0) p) rest
      ∙ cond_swap (nat_eq q e.0) (nat_eq none q) p id (cond (nat_eq id q) l (preceder none e.0 es q))
      (λ a b. not_both none e.0 q (absent_head none e es end) b (nat_eq_comm e.0 q ∙ a))
      ∙ ap (cond (nat_eq none q) id)
      (cond_swap (nat_eq q e.0) (nat_eq id q) p l (preceder none e.0 es q)
      (λ a b. not_both id e.0 q (absent_head id e es new) b (nat_eq_comm e.0 q ∙ a)))
      )

  -- the links forward once a node is put before another
  pub follower-inserted : (p id next q : ℕ) (x : T) (es : List (ℕ × T)) → nat_eq p id ≡ false → lookup (nat_eq p) es ≡ None → AreApart es
      → lookup (nat_eq id) es ≡ None → IsSome (lookup (nat_eq next) es)
      → follower none p (inserted next (id, x) es) q ≡ cond (nat_eq (preceder none p es next) q) id
      (cond (nat_eq id q) next (follower none p es q))
  follower-inserted p id next q x [] ne absent apart new found = absurd (false≢true found)
  follower-inserted p id next q x (e ∷ es) ne absent apart new found =
      elim (cases_Bool (nat_eq next e.0)) [
        | inl same ↦
            let before : preceder none p (e ∷ es) next ≡ p = cond-true (nat_eq next e.0) p (preceder none e.0 es next) same in
            rw (inserted-same next (id, x) e es same, before) (
            ap (λ n. cond (nat_eq p q) id (cond (nat_eq id q) n (follower none e.0 es q))) (sym (eqb-true next e.0 same))
            ∙ where_fails (nat_eq p q) (nat_eq id q) id next e.0 (follower none e.0 es q)
            )
        | inr other ↦
            let before : preceder none p (e ∷ es) next ≡ preceder none e.0 es next = preceder_behind p e es next other in
            let l = preceder none e.0 es next in
            let later : IsSome (lookup (nat_eq next) es) = found_tail next e es other found in
            let unlike : nat_eq p l ≡ false = preceder_apart e.0 p es next (absent_head p e es absent) (absent_tail p e es absent) later in
            let rest =
            follower-inserted e.0 id next q x es (ne_comm id e.0 (absent_head id e es new)) apart.0 apart.1 (absent_tail id e es new) later in
            rw (inserted-other next (id, x) e es other, before) (
            ap (cond (nat_eq p q) e.0) rest
            ∙ cond_swap (nat_eq p q) (nat_eq l q) e.0 id (cond (nat_eq id q) next (follower none e.0 es q)) (λ a b. not_both p l q unlike a b)
            ∙ ap (cond (nat_eq l q) id) (cond_swap (nat_eq p q) (nat_eq id q) e.0 next (follower none e.0 es q) (λ a b. not_both p id q ne a b))
            )
      ]

  -- the links back
  pub preceder-inserted : (p id next q : ℕ) (x : T) (es : List (ℕ × T)) → lookup (nat_eq id) es ≡ None → IsSome (lookup (nat_eq next) es)
      → preceder none p (inserted next (id, x) es) q ≡ cond (nat_eq next q) id
      (cond (nat_eq id q) (preceder none p es next) (preceder none p es q))
  preceder-inserted p id next q x [] new found = absurd (false≢true found)
  preceder-inserted p id next q x (e ∷ es) new found =
      elim (cases_Bool (nat_eq next e.0)) [
        | inl same ↦
            let before : preceder none p (e ∷ es) next ≡ p = cond-true (nat_eq next e.0) p (preceder none e.0 es next) same in
            let at : nat_eq q e.0 ≡ nat_eq next q = ap (nat_eq q) (sym (eqb-true next e.0 same)) ∙ nat_eq_comm q next in
            let apart : nat_eq id next ≡ false = ap (nat_eq id) (eqb-true next e.0 same) ∙ absent_head id e es new in
            rw (inserted-same next (id, x) e es same, before, at, nat_eq_comm q id) (
            cond_swap (nat_eq id q) (nat_eq next q) p id (preceder none e.0 es q) (λ a b. not_both id next q apart a b)
            ∙ where_fails (nat_eq next q) (nat_eq id q) id p p (preceder none e.0 es q)
            )
        | inr other ↦
            let before : preceder none p (e ∷ es) next ≡ preceder none e.0 es next = preceder_behind p e es next other in
            let l = preceder none e.0 es next in
            let rest = preceder-inserted e.0 id next q x es (absent_tail id e es new) (found_tail next e es other found) in
            rw (inserted-other next (id, x) e es other, before) (
            ap (cond (nat_eq q e.0) p) rest
            ∙ cond_swap (nat_eq q e.0) (nat_eq next q) p id (cond (nat_eq id q) l (preceder none e.0 es q))
            (λ a b. not_both next e.0 q other b (nat_eq_comm e.0 q ∙ a))
            ∙ ap (cond (nat_eq next q) id)
            (cond_swap (nat_eq q e.0) (nat_eq id q) p l (preceder none e.0 es q)
            (λ a b. not_both id e.0 q (absent_head id e es new) b (nat_eq_comm e.0 q ∙ a)))
            )
      ]

module _ {T : Type 0} (none : ℕ) where
  -- nothing follows a node that is neither before the list nor in it
  pub follower_absent : (p id : ℕ) (es : List (ℕ × T)) → nat_eq p id ≡ false → lookup (nat_eq id) es ≡ None → follower none p es id ≡ none
  follower_absent p id [] ne h = refl
  follower_absent p id (e ∷ es) ne h =
      cond-false (nat_eq p id) e.0 (follower none e.0 es id) ne
      ∙ follower_absent e.0 id es (ne_comm id e.0 (absent_head id e es h)) (absent_tail id e es h)

  pub preceder_absent : (p id : ℕ) (es : List (ℕ × T)) → nat_eq none id ≡ false → lookup (nat_eq id) es ≡ None
      → preceder none p es id ≡ none
  preceder_absent p id [] ne h = cond-false (nat_eq none id) p none ne
  preceder_absent p id (e ∷ es) ne h =
      cond-false (nat_eq id e.0) p (preceder none e.0 es id) (absent_head id e es h) ∙ preceder_absent e.0 id es ne (absent_tail id e es h)

module _ {T : Type 0} (none : ℕ) where
  -- another element changes no link
  pub follower-set : (p id q : ℕ) (w : T) (es : List (ℕ × T)) → follower none p (set_value (nat_eq id) es w) q ≡ follower none p es q
  follower-set p id q w [] = refl
  follower-set p id q w (e ∷ es) =
      elim (cases_Bool (nat_eq id e.0)) [
        | inl same ↦ rw (set-same id e es w same) refl
        | inr other ↦ rw (set-other id e es w other) (ap (cond (nat_eq p q) e.0) (follower-set e.0 id q w es))
      ]

  pub preceder-set : (p id q : ℕ) (w : T) (es : List (ℕ × T)) → preceder none p (set_value (nat_eq id) es w) q ≡ preceder none p es q
  preceder-set p id q w [] = refl
  preceder-set p id q w (e ∷ es) =
      elim (cases_Bool (nat_eq id e.0)) [
        | inl same ↦ rw (set-same id e es w same) refl
        | inr other ↦ rw (set-other id e es w other) (ap (cond (nat_eq q e.0) p) (preceder-set e.0 id q w es))
      ]
