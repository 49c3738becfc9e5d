-- Slots, the list's nodes and the spare ones: what a change of one asks of the others.
use Rattle.std.proofs.Common.{◌≡◌, ℕ, suc, ◌+◌, ◌-◌, ◌<◌, Bool, true, false, cond, nat_eq, eq-eqb, List, [], ◌∷◌, ◌++◌, map, length, Option, Some}
use Rattle.std.proofs.Common.{None, slice_get}
use Rattle.std.proofs.Common.{is_some, refl, sym, ap, subst, ◌∙◌, inl, inr, arith, true≢false}
use Rattle.std.proofs.lemmas.Bool.{cases_Bool, cond-true, cond-false, eqb-true}
use Rattle.std.proofs.lemmas.List.{map-append, append_assoc, length-map, length-append}
use Rattle.std.specs.Map.{lookup, remove_entry, set_value, values_of}
use Rattle.std.specs.Option.{option_map_or}
use Rattle.slab.specs.Slab.{Slab, ContainsKey, Updates, get, slab_len}
use denote.RawPtr.{Ptr}
use Rattle.lru.specs.Linked.{IsApart}
use Rattle.moka_deque.specs.RawNodes.{Linked as Node, linked, pairs, places, set_element, spares}
use Rattle.moka_list.specs.Nodes.{IsIn, first_id, next_id, moved_to_back}
use Rattle.moka_list.specs.Nodes.{AreApart}
use Rattle.moka_deque.specs.Lends.{with_element, with_slot}
use Rattle.moka_deque.specs.Slots.{AreSlots, IsTied, items_of, live_at, live_slot, nodes_of, room_of, shown, slot, slots_of, spare_slot, spares_of}
use Rattle.moka_deque.specs.declared.deque.nodes.Slot.{Slot}
use Rattle.moka_deque.specs.declared.deque.nodes.Nodes.{Nodes}
use Rattle.moka_list.proofs.CutLemmas.{absent-cut, apart-in, apart-out, get-push_same, lookup-cut, next-cut, remove-cut, set-cut, value-cut}
use Rattle.moka_list.proofs.ItemLemmas.{absent_cons, absent_head, absent_tail, nat_eq-same}
use Rattle.moka_deque.proofs.EndLemmas.{cut_back}
use Rattle.moka_deque.proofs.RawApart.{apart_places, set_element-cut}

module _ {X : Type 0} {old new : Slab X} {k : ℕ} {x : X} (u : Updates old new k (Some x)) where
  -- what a slab has at each key, once one has another value
  pub get-updated : (id : ℕ) → get new id ≡ cond (nat_eq id k) (Some x) (get old id)
  get-updated id = elim (cases_Bool (nat_eq id k)) [
    | inl same ↦ ap (get new) (eqb-true id k same) ∙ u.changed ∙ sym (cond-true (nat_eq id k) (Some x) (get old id) same)
    | inr other ↦ u.others id (λ e. true≢false (sym (eq-eqb id k e) ∙ other)) ∙ sym (cond-false (nat_eq id k) (Some x) (get old id) other)
  ]

  -- the keys stay below the length where one has another value
  pub below-set : ContainsKey old k → slab_len new ≡ slab_len old → ((id : ℕ) → ContainsKey old id → id < slab_len old)
      → (id : ℕ) → ContainsKey new id → id < slab_len new
  below-set here len below id found = elim (cases_Bool (nat_eq id k)) [
    | inl same ↦ let first = below k here in let at = eqb-true id k same in omega arith
    | inr other ↦
        let first = below id (ap is_some (sym (get-updated id ∙ cond-false (nat_eq id k) (Some x) (get old id) other)) ∙ found) in
        omega arith
  ]

  -- and where a value goes to the key that is the length
  pub below-new : k ≡ slab_len old → slab_len new ≡ slab_len old + 1 → ((id : ℕ) → ContainsKey old id → id < slab_len old)
      → (id : ℕ) → ContainsKey new id → id < slab_len new
  below-new end len below id found = elim (cases_Bool (nat_eq id k)) [
    | inl same ↦ let at = eqb-true id k same in omega arith
    | inr other ↦
        let first = below id (ap is_some (sym (get-updated id ∙ cond-false (nat_eq id k) (Some x) (get old id) other)) ∙ found) in
        omega arith
  ]

module _ {T A : Type 0} where
  -- a node goes to another place of the list, or between the list and the spare ones, and its slot follows
  slots-set : (slots new : Slab (Slot T A)) (xs ys us vs : List (ℕ × Slot T A)) (k : ℕ) (s s' : Slot T A) → xs ++ ys ≡ us ++ vs
      → AreSlots slots (xs ++ (k, s) ∷ ys) → Updates slots new k (Some s') → AreSlots new (us ++ (k, s') ∷ vs)
  slots-set slots new xs ys us vs k s s' e h u =
      let on = apart-out xs (k, s) ys h.apart in
      let apart : AreApart (us ++ (k, s') ∷ vs) = apart-in us (k, s') vs (subst AreApart e on.0) (subst (λ l. lookup (nat_eq k) l ≡ None) e on.1) in
      record {
        apart = apart;
        at = λ id. get-updated u id
            ∙ ap (cond (nat_eq id k) (Some s')) (h.at id ∙ lookup-cut id xs (k, s) ys h.apart)
            ∙ cond_again (nat_eq id k) (Some s') (Some s) (lookup (nat_eq id) (xs ++ ys))
            ∙ ap (λ l. cond (nat_eq id k) (Some s') (lookup (nat_eq id) l)) e
            ∙ sym (lookup-cut id us (k, s') vs apart);
      }
    where
      cond_again : (b : Bool) (x y z : Option (Slot T A)) → cond b x (cond b y z) ≡ cond b x z
      cond_again true x y z = refl
      cond_again false x y z = refl

  -- it goes to another place of the list
  slots-moved : (slots : Slab (Slot T A)) (xs ys us vs : List (ℕ × Slot T A)) (k : ℕ) (s : Slot T A) → xs ++ ys ≡ us ++ vs
      → AreSlots slots (xs ++ (k, s) ∷ ys) → AreSlots slots (us ++ (k, s) ∷ vs)
  slots-moved slots xs ys us vs k s e h =
      let on = apart-out xs (k, s) ys h.apart in
      let apart : AreApart (us ++ (k, s) ∷ vs) = apart-in us (k, s) vs (subst AreApart e on.0) (subst (λ l. lookup (nat_eq k) l ≡ None) e on.1) in
      record {
        apart = apart;
        at = λ id. h.at id ∙ lookup-cut id xs (k, s) ys h.apart
            ∙ ap (λ l. cond (nat_eq id k) (Some s) (lookup (nat_eq id) l)) e
            ∙ sym (lookup-cut id us (k, s) vs apart);
      }

  -- a new node has a slot that was free
  slots-push : (slots new : Slab (Slot T A)) (us vs : List (ℕ × Slot T A)) (k : ℕ) (s : Slot T A) → AreSlots slots (us ++ vs) → get slots k ≡ None
      → Updates slots new k (Some s) → AreSlots new (us ++ (k, s) ∷ vs)
  slots-push slots new us vs k s h free u =
      let apart : AreApart (us ++ (k, s) ∷ vs) = apart-in us (k, s) vs h.apart (sym (h.at k) ∙ free) in
      record {
        apart = apart;
        at = λ id. get-updated u id ∙ ap (cond (nat_eq id k) (Some s)) (h.at id) ∙ sym (lookup-cut id us (k, s) vs apart);
      }

  pub cut_slots : (xs : List (Node ℕ T)) (n : Node ℕ T) (ys : List (Node ℕ T)) (rs : List (Ptr × ℕ))
      → slots_of {T = T} {A = A} (xs ++ n ∷ ys) rs ≡ map live_slot xs ++ live_slot n ∷ slots_of ys rs
  cut_slots xs n ys rs = ap (λ l. l ++ map spare_slot rs) (map-append live_slot xs (n ∷ ys))
      ∙ append_assoc (map live_slot xs) (live_slot n ∷ map live_slot ys) (map spare_slot rs)

  pub joined_slots : (xs ys : List (Node ℕ T)) (rs : List (Ptr × ℕ)) → slots_of {T = T} {A = A} (xs ++ ys) rs ≡ map live_slot xs ++ slots_of ys rs
  joined_slots xs ys rs = ap (λ l. l ++ map spare_slot rs) (map-append live_slot xs ys) ∙ append_assoc (map live_slot xs) (map live_slot ys) (map spare_slot rs)

  -- the first spare node goes to the back of the list
  pub tied-push : (slots new : Slab (Slot T A)) (ns : List (Node ℕ T)) (n : Node ℕ T) (rs : List (Ptr × ℕ)) → AreSlots slots (slots_of ns ((n.at, n.id) ∷ rs))
      → Updates slots new n.id (Some (live_at n.at)) → AreSlots new (slots_of (ns ++ n ∷ []) rs)
  tied-push slots new ns n rs h u =
      subst (AreSlots new) (sym (cut_slots ns n [] rs))
      (slots-set slots new (map live_slot ns) (map spare_slot rs) (map live_slot ns) (map spare_slot rs) n.id (slot n.at false) (live_at n.at) refl h u)

  -- a node of the list becomes the first spare one
  pub tied-unlink : (slots new : Slab (Slot T A)) (xs : List (Node ℕ T)) (n : Node ℕ T) (ys : List (Node ℕ T)) (rs : List (Ptr × ℕ))
      → AreSlots slots (slots_of (xs ++ n ∷ ys) rs) → Updates slots new n.id (Some (slot n.at false)) → AreSlots new (slots_of (xs ++ ys) ((n.at, n.id) ∷ rs))
  tied-unlink slots new xs n ys rs h u =
      slots-set slots new (map live_slot xs) (slots_of ys rs) (map live_slot (xs ++ ys)) (map spare_slot rs) n.id (live_at n.at) (slot n.at false)
      (sym (joined_slots xs ys rs)) (subst (AreSlots slots) (cut_slots xs n ys rs) h) u

  -- a node goes to the back
  pub tied-move : (slots : Slab (Slot T A)) (xs : List (Node ℕ T)) (n : Node ℕ T) (ys : List (Node ℕ T)) (rs : List (Ptr × ℕ))
      → AreSlots slots (slots_of (xs ++ n ∷ ys) rs)
      → AreSlots slots (slots_of ((xs ++ ys) ++ n ∷ []) rs)
  tied-move slots xs n ys rs h =
      subst (AreSlots slots) (sym (cut_slots (xs ++ ys) n [] rs))
      (slots-moved slots (map live_slot xs) (slots_of ys rs) (map live_slot (xs ++ ys)) (map spare_slot rs) n.id (live_at n.at)
      (sym (joined_slots xs ys rs)) (subst (AreSlots slots) (cut_slots xs n ys rs) h))

  -- a new node is the first spare one
  pub tied-new : (slots new : Slab (Slot T A)) (ns : List (Node ℕ T)) (p : Ptr) (k : ℕ) (rs : List (Ptr × ℕ)) → AreSlots slots (slots_of ns rs)
      → get slots k ≡ None
      → Updates slots new k (Some (slot p false)) → AreSlots new (slots_of ns ((p, k) ∷ rs))
  tied-new slots new ns p k rs h free u = slots-push slots new (map live_slot ns) (map spare_slot rs) k (slot p false) h free u

  -- the slot of a node of the list
  pub slot_of_node : (slots : Slab (Slot T A)) (ns xs : List (Node ℕ T)) (n : Node ℕ T) (ys : List (Node ℕ T)) (rs : List (Ptr × ℕ)) (id : ℕ)
      → ns ≡ xs ++ n ∷ ys → n.id ≡ id
      → AreSlots slots (slots_of ns rs) → get slots id ≡ Some (live_at n.at)
  slot_of_node slots ns xs n ys rs id cut key h =
      let on : AreSlots slots (map live_slot xs ++ live_slot n ∷ slots_of ys rs) =
      subst (AreSlots slots) (ap (λ l. slots_of l rs) cut ∙ cut_slots xs n ys rs) h in
      ap (get slots) (sym key) ∙ on.at n.id ∙ value-cut (map live_slot xs) (live_slot n) (slots_of ys rs) on.apart

  -- the slot of the first spare node
  pub slot_of_spare : (slots : Slab (Slot T A)) (ns : List (Node ℕ T)) (p : Ptr) (k : ℕ) (rs : List (Ptr × ℕ)) → AreSlots slots (slots_of ns ((p, k) ∷ rs))
      → get slots k ≡ Some (slot p false)
  slot_of_spare slots ns p k rs h = h.at k ∙ value-cut (map live_slot ns) (k, slot p false) (map spare_slot rs) h.apart

  live_among : (id : ℕ) (s : Slot T A) (rs : List (Ptr × ℕ)) → lookup (nat_eq id) (map spare_slot rs) ≡ Some s → s.live ≡ true → ⊥
  live_among id s [] h l = absurd cc
  live_among id s (r ∷ rs) h l = elim (cases_Bool (nat_eq id r.1)) [
    | inl same ↦
        let is : Some (slot r.0 false) ≡ Some s = sym (cond-true (nat_eq id r.1) (Some (slot {T = T} {A = A} r.0 false))
        (lookup (nat_eq id) (map spare_slot rs)) same) ∙ h in
        let it : slot r.0 false ≡ s = cc in true≢false (sym l ∙ ap (λ (z : Slot T A). z.live) (sym it))
    | inr other ↦ live_among id s rs (sym (cond-false (nat_eq id r.1) (Some (slot {T = T} {A = A} r.0 false)) (lookup (nat_eq id) (map spare_slot rs)) other)
        ∙ h) l
  ]

  -- a slot that is marked is of a node of the list
  pub node_of_slot : (id : ℕ) (s : Slot T A) (ns : List (Node ℕ T)) (rs : List (Ptr × ℕ)) → lookup (nat_eq id) (slots_of ns rs) ≡ Some s → s.live ≡ true
      → (xs : List (Node ℕ T)) × (n : Node ℕ T) × (ys : List (Node ℕ T)) × (ns ≡ xs ++ n ∷ ys) × (n.id ≡ id)
  node_of_slot id s [] rs h l = absurd (live_among id s rs h l)
  node_of_slot id s (n ∷ ns) rs h l = elim (cases_Bool (nat_eq id n.id)) [
    | inl same ↦ ([], n, ns, refl, sym (eqb-true id n.id same))
    | inr other ↦
        let on = node_of_slot id s ns rs (sym (cond-false (nat_eq id n.id) (Some (live_at {T = T} {A = A} n.at)) (lookup (nat_eq id) (slots_of ns rs)) other)
        ∙ h) l in
        (n ∷ on.0, on.1, on.2, ap (λ l. n ∷ l) on.3, on.4)
  ]

module _ {T : Type 0} (A : Type 0) where
  absent_items : (q : ℕ) (ns : List (Node ℕ T)) (rs : List (Ptr × ℕ)) → lookup (nat_eq q) (slots_of {T = T} {A = A} ns rs) ≡ None
      → lookup (nat_eq q) (pairs ns) ≡ None
  absent_items q [] rs h = refl
  absent_items q (n ∷ ns) rs h =
      absent_cons q (n.id, n.element) (pairs ns) (absent_head q (live_slot n) (slots_of ns rs) h)
      (absent_items q ns rs (absent_tail q (live_slot n) (slots_of ns rs) h))

  pub apart_items : (ns : List (Node ℕ T)) (rs : List (Ptr × ℕ)) → AreApart (slots_of {T = T} {A = A} ns rs) → AreApart (pairs ns)
  apart_items [] rs a = tt
  apart_items (n ∷ ns) rs a = (absent_items n.id ns rs a.0, apart_items ns rs a.1)

module _ {T : Type 0} where
  pub cut_items : (xs : List (Node ℕ T)) (n : Node ℕ T) (ys : List (Node ℕ T)) → pairs (xs ++ n ∷ ys) ≡ pairs xs ++ (n.id, n.element) ∷ pairs ys
  cut_items xs n ys = map-append (λ (m : Node ℕ T). (m.id, m.element)) xs (n ∷ ys)

  pub joined_items : (xs ys : List (Node ℕ T)) → pairs (xs ++ ys) ≡ pairs xs ++ pairs ys
  joined_items xs ys = map-append (λ (m : Node ℕ T). (m.id, m.element)) xs ys

  pub length_items : (ns : List (Node ℕ T)) → length (pairs ns) ≡ length ns
  length_items ns = length-map ns (λ (m : Node ℕ T). (m.id, m.element))

  -- an id of the items is one of a node
  pub node_of_id : (id : ℕ) (ns : List (Node ℕ T)) → IsIn (pairs ns) id
      → (xs : List (Node ℕ T)) × (n : Node ℕ T) × (ys : List (Node ℕ T)) × (ns ≡ xs ++ n ∷ ys) × (n.id ≡ id)
  node_of_id id [] h = absurd cc
  node_of_id id (n ∷ ns) h = elim (cases_Bool (nat_eq id n.id)) [
    | inl same ↦ ([], n, ns, refl, sym (eqb-true id n.id same))
    | inr other ↦
        let on = node_of_id id ns (ap is_some (sym (cond-false (nat_eq id n.id) (Some n.element) (lookup (nat_eq id) (pairs ns)) other)) ∙ h) in
        (n ∷ on.0, on.1, on.2, ap (λ l. n ∷ l) on.3, on.4)
  ]

  -- what a list is without one of its nodes, and with it at the back
  pub unlinked_items : (ns xs : List (Node ℕ T)) (n : Node ℕ T) (ys : List (Node ℕ T)) (id : ℕ) → ns ≡ xs ++ n ∷ ys → n.id ≡ id → AreApart (pairs ns)
      → (remove_entry (nat_eq id) (pairs ns) ≡ pairs (xs ++ ys)) × (lookup (nat_eq id) (pairs ns) ≡ Some n.element)
  unlinked_items ns xs n ys id cut key apart =
      let P : ℕ → List (Node ℕ T) → Type 0 = λ k l. (remove_entry (nat_eq k) (pairs l) ≡ pairs (xs ++ ys)) × (lookup (nat_eq k) (pairs l) ≡ Some n.element) in
      let at : AreApart (pairs xs ++ (n.id, n.element) ∷ pairs ys) = subst AreApart (ap pairs cut ∙ cut_items xs n ys) apart in
      let base : P n.id (xs ++ n ∷ ys) = (
        ap (remove_entry (nat_eq n.id)) (cut_items xs n ys) ∙ remove-cut (pairs xs) (n.id, n.element) (pairs ys) at ∙ sym (joined_items xs ys),
        ap (lookup (nat_eq n.id)) (cut_items xs n ys) ∙ value-cut (pairs xs) (n.id, n.element) (pairs ys) at,
      ) in
      subst (λ k. P k ns) key (subst (P n.id) (sym cut) base)

  pub moved_items : (ns xs : List (Node ℕ T)) (n : Node ℕ T) (ys : List (Node ℕ T)) (id : ℕ) → ns ≡ xs ++ n ∷ ys → n.id ≡ id → AreApart (pairs ns)
      → pairs ((xs ++ ys) ++ n ∷ []) ≡ moved_to_back id (pairs ns)
  moved_items ns xs n ys id cut key apart =
      let on = unlinked_items ns xs n ys id cut key apart in
      joined_items (xs ++ ys) (n ∷ []) ∙ (λ i. sym on.0 i ++ (key i, n.element) ∷ [])
      ∙ ap (λ o. option_map_or (λ v. remove_entry (nat_eq id) (pairs ns) ++ (id, v) ∷ []) o (pairs ns)) (sym on.1)

  pub length_cut : (ns xs : List (Node ℕ T)) (n : Node ℕ T) (ys : List (Node ℕ T)) → ns ≡ xs ++ n ∷ ys
      → (length ns ≡ length (xs ++ ys) + 1) × (length ((xs ++ ys) ++ n ∷ []) ≡ length ns)
  length_cut ns xs n ys cut =
      let a = ap length cut ∙ length-append xs (n ∷ ys) in let b = length-append xs ys in let d = length-append (xs ++ ys) (n ∷ []) in
      (omega arith, omega arith)

module _ {T A : Type 0} where
  -- the first spare node's id is none of the list
  pub new_id : (slots : Slab (Slot T A)) (ns : List (Node ℕ T)) (n : Node ℕ T) (rs : List (Ptr × ℕ)) → AreSlots slots (slots_of ns ((n.at, n.id) ∷ rs))
      → lookup (nat_eq n.id) (pairs ns) ≡ None
  new_id slots ns n rs h =
      absent_items A n.id ns rs (apart-out (map live_slot ns) (n.id, slot {T = T} {A = A} n.at false) (map spare_slot rs) h.apart).1

pub length_spares : (p : Ptr) (rs : List (ℕ × Ptr)) → length (spares p rs) ≡ length rs
length_spares p [] = refl
length_spares p (r ∷ rs) = let on = length_spares r.1 rs in omega arith

-- one spare node more
pub one_more : (p q : Ptr) (rs qs : List (ℕ × Ptr)) (e : Ptr × ℕ) → spares p rs ≡ e ∷ spares q qs → length rs ≡ length qs + 1
one_more p q rs qs e h = let a = length_spares p rs in let b = length_spares q qs in let d = ap length h in omega arith

module _ {X : Type 0} where
  -- the value of the last of a list
  pub last_value : (es : List (ℕ × X)) (e : ℕ × X) → slice_get (values_of (es ++ e ∷ [])) (length (es ++ e ∷ []) - 1) ≡ Some e.1
  last_value es e =
      let same = map-append (λ (d : ℕ × X). d.1) es (e ∷ []) in
      let long = length-append es (e ∷ []) in let less : length (es ++ e ∷ []) - 1 ≡ length (values_of es) =
      omega (arith, length-map es (λ (d : ℕ × X). d.1)) in
      (λ i. slice_get (same i) (less i)) ∙ get-push_same (values_of es) e.1

module _ {T : Type 0} where
  -- what follows a node
  pub next_of_cut : (ns xs : List (Node ℕ T)) (n : Node ℕ T) (ys : List (Node ℕ T)) (id : ℕ) → ns ≡ xs ++ n ∷ ys → n.id ≡ id → AreApart (pairs ns)
      → next_id id (pairs ns) ≡ first_id (pairs ys)
  next_of_cut ns xs n ys id cut key apart =
      let items = ap pairs cut ∙ cut_items xs n ys in
      (λ i. next_id (sym key i) (items i)) ∙ next-cut (pairs xs) (n.id, n.element) (pairs ys) (subst AreApart items apart)

  -- a node that the last one has the id of is the last one
  pub only_last : (ns xs : List (Node ℕ T)) (n : Node ℕ T) (ys : List (Node ℕ T)) (id : ℕ) → ns ≡ xs ++ n ∷ ys → n.id ≡ id → AreApart (pairs ns)
      → ((rest : List (Node ℕ T)) (m : Node ℕ T) → ns ≡ rest ++ m ∷ [] → id ≡ m.id) → ys ≡ []
  only_last ns xs n [] id cut key apart last = refl
  only_last ns xs n (y ∷ ys) id cut key apart last =
      let end = cut_back (y ∷ ys) (omega arith) in
      let same : id ≡ end.1.id = last (xs ++ n ∷ end.0) end.1 (cut ∙ ap (λ l. xs ++ n ∷ l) end.2 ∙ sym (append_assoc xs (n ∷ end.0) (end.1 ∷ []))) in
      let items : pairs ns ≡ pairs xs ++ (n.id, n.element) ∷ pairs (y ∷ ys) = ap pairs cut ∙ cut_items xs n (y ∷ ys) in
      let off = (apart-out (pairs xs) (n.id, n.element) (pairs (y ∷ ys)) (subst AreApart items apart)).1 in
      let behind : lookup (nat_eq n.id) (pairs xs ++ pairs end.0 ++ (end.1.id, end.1.element) ∷ []) ≡ None =
      subst (λ l. lookup (nat_eq n.id) l ≡ None) (ap (λ l. pairs xs ++ l) (ap pairs end.2 ∙ cut_items end.0 end.1 [])
      ∙ sym (append_assoc (pairs xs) (pairs end.0) ((end.1.id, end.1.element) ∷ []))) off in
      absurd (true≢false (sym (nat_eq-same n.id) ∙ ap (nat_eq n.id) (key ∙ same)
      ∙ (absent-cut n.id (pairs xs ++ pairs end.0) (end.1.id, end.1.element) [] behind).0))

  pub behind_cut : (xs : List (Node ℕ T)) (n : Node ℕ T) (ys : List (Node ℕ T)) → (ys ≡ [] → ⊥) → (m : Node ℕ T) × (zs : List (Node ℕ T)) × (ys ≡ m ∷ zs)
  behind_cut xs n [] h = absurd (h refl)
  behind_cut xs n (m ∷ zs) h = (m, zs, refl)

module _ {T A : Type 0} where
  -- more room for slots changes nothing
  pub tied-grown : (ns : Nodes T A) (slots : Slab (Slot T A)) → slots ≡ record ns.slots { capacity = slots.capacity } → IsTied ns
      → IsTied (record ns { slots = slots })
  tied-grown ns slots kept h =
      let same : (id : ℕ) → get slots id ≡ get ns.slots id = λ id. ap (λ (s : Slab (Slot T A)). get s id) kept in
      let len : slab_len slots ≡ slab_len ns.slots = ap (λ (s : Slab (Slot T A)). slab_len s) kept in
      record {
        slots = record { apart = h.slots.apart; at = λ id. same id ∙ h.slots.at id };
        ends = h.ends;
        alloc = h.alloc;
        len = h.len;
        total = len ∙ h.total;
        below = λ id found. let first = h.below id (ap is_some (sym (same id)) ∙ found) in omega arith;
      }

module _ {T : Type 0} (p : Ptr) (w : T) where
  -- another element in a node changes no slot
  slots-written : {A : Type 0} (ns : List (Node ℕ T)) (rs : List (Ptr × ℕ)) → slots_of {T = T} {A = A} (set_element p w ns) rs ≡ slots_of ns rs
  unfolding set_element
  slots-written [] rs = refl
  slots-written {A} (n ∷ ns) rs = ap (λ l. live_slot {T = T} {A = A} n ∷ l) (slots-written ns rs)

  length-written : (ns : List (Node ℕ T)) → length (set_element p w ns) ≡ length ns
  unfolding set_element
  length-written [] = refl
  length-written (n ∷ ns) = ap suc (length-written ns)

module _ {T A : Type 0} (ns : Nodes T A) (w : T) where
  tied_at : IsTied ns → (o : Option (Slot T A)) → IsTied (with_slot ns w o)
  tied_at h None = h
  tied_at h (Some s) =
      let long = length-written s.node.ptr w (nodes_of ns) in let len = h.len in let total = h.total in
      record {
        slots = subst (AreSlots ns.slots) (sym (slots-written s.node.ptr w (nodes_of ns) (spares_of ns))) h.slots;
        ends = h.ends;
        alloc = h.alloc;
        len = omega arith;
        total = omega arith;
        below = h.below;
      }

module _ {T A : Type 0} (ns : Nodes T A) (id : ℕ) (w : T) where
  -- another element in a node keeps all of it
  pub tied-written : IsTied ns → IsTied (with_element ns id w)
  tied-written h = tied_at ns w h (get ns.slots id)

  room_at : (o : Option (Slot T A)) → room_of (with_slot ns w o) ≡ room_of ns
  room_at None = refl
  room_at (Some s) = refl

  -- the items have the element
  pub shown-written : IsTied ns → IsIn (items_of ns) id → shown (with_element ns id w) ≡ record (shown ns) { items = set_value (nat_eq id) (items_of ns) w }
  shown-written h found =
      let on = node_of_id id (nodes_of ns) found in let n = on.1 in
      let here = slot_of_node ns.slots (nodes_of ns) on.0 n on.2 (spares_of ns) id on.3 on.4 h.slots in
      let l = ns.ends.list in
      let places_apart : IsApart (places (on.0 ++ n ∷ on.2)) = subst (λ ms. IsApart (places ms)) on.3 (apart_places l.head (nodes_of ns) l.tail l.apart) in
      let apart : AreApart (pairs on.0 ++ (n.id, n.element) ∷ pairs on.2) =
      subst AreApart (ap pairs on.3 ∙ cut_items on.0 n on.2) (apart_items A (nodes_of ns) (spares_of ns) h.slots.apart) in
      let m : Node ℕ T = linked n.at n.id w in
      let written : pairs (set_element n.at w (nodes_of ns)) ≡ set_value (nat_eq id) (items_of ns) w =
      ap (λ ms. pairs (set_element n.at w ms)) on.3 ∙ ap pairs (set_element-cut on.0 n on.2 w places_apart) ∙ cut_items on.0 m on.2
      ∙ sym (set-cut (pairs on.0) (n.id, n.element) (pairs on.2) w apart)
      ∙ (λ i. set_value (nat_eq (on.4 i)) (sym (ap pairs on.3 ∙ cut_items on.0 n on.2) i) w) in
      let items : items_of (with_element ns id w) ≡ set_value (nat_eq id) (items_of ns) w = ap (λ o. items_of (with_slot ns w o)) here ∙ written in
      λ i. record { items = items i; room = room_at (get ns.slots id) i }
