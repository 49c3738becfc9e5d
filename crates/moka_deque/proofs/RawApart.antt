-- The nodes of a list lie at different places, so that a pointer names one of them.
use Rattle.std.proofs.Common.{◌≡◌, true, false, cond, List, [], ◌∷◌, ◌++◌, refl, sym, ap, subst, ◌∙◌, append-nil}
use Rattle.std.specs.List.{AllByRecursion, IsDistinct}
use Rattle.lru.specs.Linked.{IsApart, same_ptr}
use Rattle.lru.proofs.Apart.{IsFresh, same_ptr_refl, same_ptr_symm}
use Rattle.lru.proofs.Splits.{alike_cut}
use denote.RawPtr.{Ptr}
use Rattle.moka_deque.specs.RawNodes.{Linked, linked, places, ring, set_element}

module _ (P : Ptr → Type 0) where
  all_but : (ps : List Ptr) (p : Ptr) (qs : List Ptr) → AllByRecursion P (ps ++ p ∷ qs) → AllByRecursion P (ps ++ qs)
  all_but [] p qs all = all.1
  all_but (q ∷ ps) p qs all = (all.0, all_but ps p qs all.1)

  all_and : (ps : List Ptr) (p : Ptr) (qs : List Ptr) → P p → AllByRecursion P (ps ++ qs) → AllByRecursion P (ps ++ p ∷ qs)
  all_and [] p qs one all = (one, all)
  all_and (q ∷ ps) p qs one all = (all.0, all_and ps p qs one all.1)

-- a place goes, and one comes
apart_but : (ps : List Ptr) (p : Ptr) (qs : List Ptr) → IsApart (ps ++ p ∷ qs) → IsApart (ps ++ qs)
unfolding IsDistinct
apart_but [] p qs apart = apart.1
apart_but (q ∷ ps) p qs apart = (all_but (λ r. same_ptr q r ≡ false) ps p qs apart.0, apart_but ps p qs apart.1)

apart_and : (ps : List Ptr) (p : Ptr) (qs : List Ptr) → IsFresh p (ps ++ qs) → IsApart (ps ++ qs) → IsApart (ps ++ p ∷ qs)
unfolding IsDistinct
apart_and [] p qs new apart = (new, apart)
apart_and (q ∷ ps) p qs new apart =
    (all_and (λ r. same_ptr q r ≡ false) ps p qs (same_ptr_symm q p ∙ new.0) apart.0, apart_and ps p qs new.1 apart.1)

apart_rest : (p : Ptr) (ps : List Ptr) → IsApart (p ∷ ps) → IsApart ps
unfolding IsDistinct
apart_rest p ps apart = apart.1

module _ {K V : Type 0} where
  -- the places behind the first end, where the list is cut at a node, and where it is joined
  pub places_cut : (xs : List (Linked K V)) (n : Linked K V) (ys : List (Linked K V)) (end : Ptr)
      → places (xs ++ n ∷ ys) ++ end ∷ [] ≡ places xs ++ n.at ∷ (places ys ++ end ∷ [])
  places_cut [] n ys end = refl
  places_cut (x ∷ xs) n ys end = ap (λ ps. x.at ∷ ps) (places_cut xs n ys end)

  pub places_joined : (xs ys : List (Linked K V)) (end : Ptr) → places (xs ++ ys) ++ end ∷ [] ≡ places xs ++ (places ys ++ end ∷ [])
  places_joined [] ys end = refl
  places_joined (x ∷ xs) ys end = ap (λ ps. x.at ∷ ps) (places_joined xs ys end)

  -- they stay apart when a node leaves, and when one comes
  pub apart_detached : (head : Ptr) (xs : List (Linked K V)) (n : Linked K V) (ys : List (Linked K V)) (end : Ptr)
      → IsApart (ring head (xs ++ n ∷ ys) end) → IsApart (ring head (xs ++ ys) end)
  apart_detached head xs n ys end apart =
      let cut : IsApart (head ∷ (places xs ++ n.at ∷ (places ys ++ end ∷ []))) = subst (λ ps. IsApart (head ∷ ps)) (places_cut xs n ys end) apart in
      subst (λ ps. IsApart (head ∷ ps)) (sym (places_joined xs ys end)) (apart_but (head ∷ places xs) n.at (places ys ++ end ∷ []) cut)

  pub apart_attached_last : (head : Ptr) (n : Linked K V) (ns : List (Linked K V)) (end : Ptr) → IsFresh n.at (ring head ns end)
      → IsApart (ring head ns end) → IsApart (ring head (ns ++ n ∷ []) end)
  apart_attached_last head n ns end new apart =
      subst (λ ps. IsApart (head ∷ ps)) (sym (places_cut ns n [] end)) (apart_and (head ∷ places ns) n.at (end ∷ []) new apart)

  pub apart_places : (head : Ptr) (ns : List (Linked K V)) (end : Ptr) → IsApart (ring head ns end) → IsApart (places ns)
  apart_places head ns end apart = subst IsApart (append-nil (places ns)) (apart_but (places ns) end [] (apart_rest head (places ns ++ end ∷ []) apart))

  -- two cuts at one place are the same
  pub same_node : (ns xs : List (Linked K V)) (n : Linked K V) (ys us : List (Linked K V)) (m : Linked K V) (vs : List (Linked K V)) → IsApart (places ns)
      → ns ≡ xs ++ n ∷ ys → ns ≡ us ++ m ∷ vs → n.at ≡ m.at → (xs ≡ us) × (n ≡ m) × (ys ≡ vs)
  same_node ns xs n ys us m vs apart one other at =
      alike_cut (λ (k : Linked K V). k.at) same_ptr same_ptr_symm xs n ys us m vs (subst (λ ms. IsApart (places ms)) one apart) (sym one ∙ other)
      (subst (λ p. same_ptr n.at p ≡ true) at (same_ptr_refl n.at))

  one_of : (P : Ptr → Type 0) (xs : List (Linked K V)) (n : Linked K V) (ys : List (Linked K V)) → AllByRecursion P (places (xs ++ n ∷ ys)) → P n.at
  one_of P [] n ys all = all.0
  one_of P (x ∷ xs) n ys all = one_of P xs n ys all.1

  -- another element at a place changes the node there and no other
  elsewhere : (p : Ptr) (element : V) (ns : List (Linked K V)) → IsFresh p (places ns) → set_element p element ns ≡ ns
  unfolding set_element
  elsewhere p element [] new = refl
  elsewhere p element (n ∷ ns) new = λ i. linked n.at n.id (cond ((same_ptr_symm n.at p ∙ new.0) i) element n.element) ∷ elsewhere p element ns new.1 i

  pub set_element-cut : (xs : List (Linked K V)) (n : Linked K V) (ys : List (Linked K V)) (element : V) → IsApart (places (xs ++ n ∷ ys))
      → set_element n.at element (xs ++ n ∷ ys) ≡ xs ++ linked n.at n.id element ∷ ys
  unfolding set_element IsDistinct
  set_element-cut [] n ys element apart = λ i. linked n.at n.id (cond (same_ptr_refl n.at i) element n.element) ∷ elsewhere n.at element ys apart.0 i
  set_element-cut (x ∷ xs) n ys element apart =
      let other : same_ptr x.at n.at ≡ false = one_of (λ p. same_ptr x.at p ≡ false) xs n ys apart.0 in
      λ i. linked x.at x.id (cond (other i) element x.element) ∷ set_element-cut xs n ys element apart.1 i
