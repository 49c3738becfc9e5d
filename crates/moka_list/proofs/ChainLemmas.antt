-- Lemmas on how a chain is laid out.
use Rattle.std.proofs.Common.{◌≡◌, ◌⊎◌, ℕ, suc, ◌+◌, ◌-◌, ◌<◌, ◌≤◌, true, false, cond, nat_eq, eq-eqb, List, [], ◌∷◌, ◌++◌, length, Option}
use Rattle.std.proofs.Common.{Some, None, slice_index_or, is_some, IsSome, nat_le, refl, sym, ap, subst, ◌∙◌, inl, inr, arith, length-append}
use Rattle.std.proofs.lemmas.Bool.{cases_Bool, cond-true, cond-false, eqb-true, false≢true, le-leb, leb-true}
use Rattle.std.specs.Map.{lookup, remove_entry, set_value}
use Rattle.std.proofs.lemmas.List.{get_or_default}
use Rattle.std.proofs.lemmas.Map.{length-set_value}
use Rattle.std.proofs.lemmas.Grind.{common_steps}
use Rattle.slab.proofs.SlabLemmas.{Updates-with_value}
use Rattle.slab.specs.Slab.{Slab, get, slab_len, Updates, with_value}
use Rattle.moka_list.specs.declared.chain.links.LinkTable.{LinkTable}
use Rattle.moka_list.specs.declared.chain.links.Links.{Links}
use Rattle.moka_list.specs.declared.chain.links.TheConstants.{NONE}
use Rattle.moka_list.specs.Chain.{inserted, moved_before}
use Rattle.moka_list.specs.Chained.{IsChained, IsThreaded, before_rest, capacity_of, items_of, walk}
use Rattle.moka_list.specs.Nodes.{moved_to_back, next_id}
use Rattle.moka_list.specs.Links.{APART, IsPlace, Lengthened, LinkedBack, LinkedBefore, Unlinked, links_at, next_at, prev_at, reserved}
use Rattle.moka_list.specs.Nodes.{AreApart, follower, preceder}
use Rattle.moka_list.proofs.ItemLemmas.{AreApart-push, AreApart-remove, AreApart-set, absent-remove}
use Rattle.moka_list.proofs.ItemLemmas.{absent-set, absent_head, absent_tail, differs}
use Rattle.moka_list.proofs.ItemLemmas.{found_cons, found_same, length-remove, lookup-other}
use Rattle.moka_list.proofs.ItemLemmas.{lookup-push, lookup-remove_other, lookup-remove_same}
use Rattle.moka_list.proofs.ItemLemmas.{lookup-same, lookup-set, nat_eq-same, ne_comm}
use Rattle.moka_list.proofs.IdLemmas.{moved-found}
use Rattle.moka_list.proofs.InsertedLemmas.{AreApart-inserted, length-inserted, lookup-inserted, moved_before-inserted}
use Rattle.moka_list.proofs.NodesLemmas.{follower-inserted, follower-push, follower-remove, follower-set, follower_absent}
use Rattle.moka_list.proofs.NodesLemmas.{follower_behind, follower_place, last_place, linked_next}
use Rattle.moka_list.proofs.NodesLemmas.{preceder-inserted, preceder-push, preceder-remove, preceder-set, preceder_absent, preceder_place}

module _ {T : Type 0} (element : ℕ → Option T) (following preceding : ℕ → ℕ) (es : List (ℕ × T))
    (h : IsThreaded element following preceding es) (element_new : ℕ → Option T) (id : ℕ) where
  -- a node is taken out, once its neighbours are linked to one another and it has none
  pub threaded-unlinked : (x : T) → lookup (nat_eq id) es ≡ Some x
      → element_new id ≡ None → ((q : ℕ) → nat_eq id q ≡ false → element_new q ≡ element q) → (ahead behind : ℕ → ℕ)
      → ((q : ℕ) → ahead q ≡ cond (nat_eq id q) NONE (cond (nat_eq (preceding id) q) (following id) (following q)))
      → ((q : ℕ) → behind q ≡ cond (nat_eq id q) NONE (cond (nat_eq (following id) q) (preceding id) (preceding q)))
      → IsThreaded element_new ahead behind (remove_entry (nat_eq id) es)
  threaded-unlinked x at gone kept ahead behind forward back =
      let rest = remove_entry (nat_eq id) es in
      let found : IsSome (lookup (nat_eq id) es) = ap is_some at in
      let not_end : nat_eq NONE id ≡ false = differs NONE id es h.end found in
      let out : lookup (nat_eq id) rest ≡ None = lookup-remove_same id es h.apart in
      record {
        elements = λ q. elim (cases_Bool (nat_eq id q)) [
          | inl same ↦
              ap element_new (sym (eqb-true id q same)) ∙ gone ∙ sym out ∙ ap (λ k. lookup (nat_eq k) rest) (eqb-true id q same)
          | inr other ↦ kept q other ∙ h.elements q ∙ sym (lookup-remove_other id q es other)
        ];
        next = λ q. forward q ∙ elim (cases_Bool (nat_eq id q)) [
          | inl same ↦
              cond-true (nat_eq id q) _ _ same
              ∙ sym (ap (follower NONE NONE rest) (sym (eqb-true id q same)) ∙ follower_absent NONE NONE id rest not_end out)
          | inr other ↦
              cond-false (nat_eq id q) _ _ other ∙ (λ i. cond (nat_eq (h.prev id i) q) (h.next id i) (h.next q i))
              ∙ sym (follower-remove NONE NONE id q es not_end h.end h.apart found other)
        ];
        prev = λ q. back q ∙ elim (cases_Bool (nat_eq id q)) [
          | inl same ↦
              cond-true (nat_eq id q) _ _ same
              ∙ sym (ap (preceder NONE NONE rest) (sym (eqb-true id q same)) ∙ preceder_absent NONE NONE id rest not_end out)
          | inr other ↦
              cond-false (nat_eq id q) _ _ other ∙ (λ i. cond (nat_eq (h.next id i) q) (h.prev id i) (h.prev q i))
              ∙ sym (preceder-remove NONE NONE id q es not_end h.apart h.end found other)
        ];
        apart = AreApart-remove id es h.apart;
        end = absent-remove id NONE es h.end;
      }

  -- a new node is at the back, once it is linked behind the last
  pub threaded-pushed : (x : T) → lookup (nat_eq id) es ≡ None → nat_eq id NONE ≡ false
      → element_new id ≡ Some x → ((q : ℕ) → nat_eq id q ≡ false → element_new q ≡ element q) → (last : ℕ) → last ≡ preceding NONE
      → (ahead behind : ℕ → ℕ) → ((q : ℕ) → ahead q ≡ cond (nat_eq last q) id (cond (nat_eq id q) NONE (following q)))
      → ((q : ℕ) → behind q ≡ cond (nat_eq NONE q) id (cond (nat_eq id q) last (preceding q)))
      → IsThreaded element_new ahead behind (es ++ (id, x) ∷ [])
  threaded-pushed x absent slot here kept last last_is ahead behind forward back =
      let l = last_is ∙ h.prev NONE in
      record {
        elements = λ q. elim (cases_Bool (nat_eq id q)) [
          | inl same ↦
              ap element_new (sym (eqb-true id q same)) ∙ here ∙ sym (cond-true (nat_eq id q) (Some x) (lookup (nat_eq q) es) same)
              ∙ sym (lookup-push q id x es absent)
          | inr other ↦
              kept q other ∙ h.elements q ∙ sym (cond-false (nat_eq id q) (Some x) (lookup (nat_eq q) es) other)
              ∙ sym (lookup-push q id x es absent)
        ];
        next = λ q.
            forward q ∙ (λ i. cond (nat_eq (l i) q) id (cond (nat_eq id q) NONE (h.next q i)))
            ∙ sym (follower-push NONE NONE id q x es (ne_comm id NONE slot) h.end h.apart h.end absent);
        prev = λ q.
            back q ∙ (λ i. cond (nat_eq NONE q) id (cond (nat_eq id q) (l i) (h.prev q i)))
            ∙ sym (preceder-push NONE NONE id q x es slot h.end absent);
        apart = AreApart-push id x es h.apart absent;
        end = lookup-push NONE id x es absent ∙ cond-false (nat_eq id NONE) (Some x) (lookup (nat_eq NONE) es) slot ∙ h.end;
      }

  -- a new node is right before another, once it is linked there
  pub threaded-inserted : (x : T) (next : ℕ) → lookup (nat_eq id) es ≡ None → nat_eq id NONE ≡ false → IsSome (lookup (nat_eq next) es)
      → element_new id ≡ Some x → ((q : ℕ) → nat_eq id q ≡ false → element_new q ≡ element q) → (ahead behind : ℕ → ℕ)
      → ((q : ℕ) → ahead q ≡ cond (nat_eq (preceding next) q) id (cond (nat_eq id q) next (following q)))
      → ((q : ℕ) → behind q ≡ cond (nat_eq next q) id (cond (nat_eq id q) (preceding next) (preceding q)))
      → IsThreaded element_new ahead behind (inserted next (id, x) es)
  threaded-inserted x next absent slot found here kept ahead behind forward back =
      record {
        elements = λ q. elim (cases_Bool (nat_eq id q)) [
          | inl same ↦
              ap element_new (sym (eqb-true id q same)) ∙ here ∙ sym (cond-true (nat_eq id q) (Some x) (lookup (nat_eq q) es) same)
              ∙ sym (lookup-inserted q next id x es absent)
          | inr other ↦
              kept q other ∙ h.elements q ∙ sym (cond-false (nat_eq id q) (Some x) (lookup (nat_eq q) es) other)
              ∙ sym (lookup-inserted q next id x es absent)
        ];
        next = λ q.
            forward q ∙ (λ i. cond (nat_eq (h.prev next i) q) id (cond (nat_eq id q) next (h.next q i)))
            ∙ sym (follower-inserted NONE NONE id next q x es (ne_comm id NONE slot) h.end h.apart absent found);
        prev = λ q.
            back q ∙ (λ i. cond (nat_eq next q) id (cond (nat_eq id q) (h.prev next i) (h.prev q i)))
            ∙ sym (preceder-inserted NONE NONE id next q x es absent found);
        apart = AreApart-inserted next id x es h.apart absent;
        end = lookup-inserted NONE next id x es absent
            ∙ cond-false (nat_eq id NONE) (Some x) (lookup (nat_eq NONE) es) slot ∙ h.end;
      }

  -- a node has another element
  pub threaded-set : (w : T) → IsSome (lookup (nat_eq id) es) → element_new id ≡ Some w
      → ((q : ℕ) → nat_eq id q ≡ false → element_new q ≡ element q)
      → IsThreaded element_new following preceding (set_value (nat_eq id) es w)
  threaded-set w found here kept =
      record {
        elements = λ q. elim (cases_Bool (nat_eq id q)) [
          | inl same ↦
              ap element_new (sym (eqb-true id q same)) ∙ here ∙ sym (cond-true (nat_eq id q) (Some w) (lookup (nat_eq q) es) same)
              ∙ sym (lookup-set id q w es found)
          | inr other ↦
              kept q other ∙ h.elements q ∙ sym (cond-false (nat_eq id q) (Some w) (lookup (nat_eq q) es) other)
              ∙ sym (lookup-set id q w es found)
        ];
        next = λ q. h.next q ∙ sym (follower-set NONE NONE id q w es);
        prev = λ q. h.prev q ∙ sym (preceder-set NONE NONE id q w es);
        apart = AreApart-set id w es h.apart;
        end = absent-set id NONE w es h.end;
      }

-- no other key changed
other_kept : {T : Type 0} (old new : Slab T) (id q : ℕ) (slot : Option T) → Updates old new id slot → nat_eq id q ≡ false
    → get new q ≡ get old q
other_kept old new id q slot u other = u.others q (λ same. false≢true (sym other ∙ eq-eqb id q (sym same)))

module _ {T A : Type 0} (slots : Slab T) (links : LinkTable A) where
  -- from a node on, the links lead through this list
  Leads : ℕ → List (ℕ × T) → Type 0
  Leads start [] = Unit {0}
  Leads start (e ∷ es) = (start ≡ e.0) × (get slots e.0 ≡ Some e.1) × Leads (next_at links e.0) es

  walked : (start : ℕ) (es : List (ℕ × T)) → Leads start es → walk slots links (length es) start ≡ es
  unfolding Leads
  walked start [] leads = refl
  walked start (e ∷ es) leads =
      ap (λ p. walk slots links (suc (length es)) p) leads.0
      ∙ ap (before_rest e.0 (walk slots links (length es) (next_at links e.0))) leads.1
      ∙ ap (λ rest. e ∷ rest) (walked (next_at links e.0) es leads.2)

  leads_from : (p : ℕ) (es : List (ℕ × T)) → AreApart es → lookup (nat_eq p) es ≡ None
      → ((q : ℕ) → IsSome (lookup (nat_eq q) es) → next_at links q ≡ follower NONE p es q)
      → ((q : ℕ) → IsSome (lookup (nat_eq q) es) → get slots q ≡ lookup (nat_eq q) es)
      → Leads (follower NONE p es p) es
  unfolding Leads
  leads_from p [] apart absent next element = tt
  leads_from p (e ∷ es) apart absent next element =
      let later : (q : ℕ) → IsSome (lookup (nat_eq q) es) → next_at links q ≡ follower NONE e.0 es q =
      λ q found. next q (found_cons q e es found) ∙ follower_behind NONE p e es q (differs p q es (absent_tail p e es absent) found) in
      let there : (q : ℕ) → IsSome (lookup (nat_eq q) es) → get slots q ≡ lookup (nat_eq q) es =
      λ q found. element q (found_cons q e es found) ∙ lookup-other q e es (ne_comm e.0 q (differs e.0 q es apart.0 found)) in
      let here : next_at links e.0 ≡ follower NONE e.0 es e.0 =
      next e.0 (found_same e es) ∙ follower_behind NONE p e es e.0 (absent_head p e es absent) in (
        cond-true (nat_eq p p) e.0 (follower NONE e.0 es p) (nat_eq-same p),
        element e.0 (found_same e es) ∙ lookup-same e es,
        subst (λ start. Leads start es) (sym here) (leads_from e.0 es apart.1 apart.0 later there),
      )

  module _ (es : List (ℕ × T)) (h : IsChained slots links es) where
    -- what follows the end is the first node, and what precedes it the last
    pub first_is : links.first ≡ follower NONE NONE es NONE
    first_is =
        sym (cond-true (nat_eq NONE NONE) links.first (links_at links.links.items NONE).next (nat_eq-same NONE)) ∙ h.threaded.next NONE

    pub last_is : links.last ≡ prev_at links NONE
    last_is = sym (cond-true (nat_eq NONE NONE) links.last (links_at links.links.items NONE).prev (nat_eq-same NONE))

    -- a walk from the first node finds the list
    pub items_of-chained : items_of slots links ≡ es
    items_of-chained =
        (λ i. walk slots links (h.len i) (first_is i))
        ∙ walked (follower NONE NONE es NONE) es
        (leads_from NONE es h.threaded.apart h.threaded.end (λ q _. h.threaded.next q) (λ q _. h.threaded.elements q))

    -- so a walk keeps what holds of the nodes of a list
    pub IsChained-items_of : IsChained slots links (items_of slots links)
    IsChained-items_of = subst (IsChained slots links) (sym items_of-chained) h

    -- a slot of the list has links
    slot_from : (q : ℕ) → IsSome (lookup (nat_eq q) es) ⊎ (NONE ≡ q) → IsPlace links q
    slot_from q (inl found) = inl (h.linked q (ap is_some (h.threaded.elements q) ∙ found))
    slot_from q (inr end) = inr end

    pub prev_place : (id : ℕ) → IsSome (lookup (nat_eq id) es) → IsPlace links (prev_at links id)
    prev_place id found = rw (h.threaded.prev id) (slot_from _ (preceder_place NONE NONE es id found))

    pub next_place : (id : ℕ) → IsPlace links (next_at links id)
    next_place id = rw (h.threaded.next id) (slot_from _ (follower_place NONE NONE es id))

    pub tail_place : IsPlace links links.last
    tail_place = rw (last_is ∙ h.threaded.prev NONE) (slot_from _ (last_place NONE NONE es))

-- the list has lost a node
pub chained-unlinked : {T A : Type 0} (slots slots_new : Slab T) (links links_new : LinkTable A) (es : List (ℕ × T)) (id : ℕ) (x : T)
    → IsChained slots links es → lookup (nat_eq id) es ≡ Some x → Updates slots slots_new id None → slab_len slots_new + 1 ≡ slab_len slots
    → slots_new.capacity ≡ slots.capacity → Unlinked links links_new id → length links_new.links.items ≡ length links.links.items
    → IsChained slots_new links_new (remove_entry (nat_eq id) es)
chained-unlinked slots slots_new links links_new es id x h at u len capacity step links_len =
    record {
      threaded = threaded-unlinked (get slots) (next_at links) (prev_at links) es h.threaded (get slots_new) id x at u.changed
          (λ q other. other_kept slots slots_new id q None u other) (next_at links_new) (prev_at links_new) step.next step.prev;
      linked = λ q found. elim (cases_Bool (nat_eq id q)) [
        | inl same ↦ absurd (false≢true (sym (ap is_some (ap (get slots_new) (sym (eqb-true id q same)) ∙ u.changed)) ∙ found))
        | inr other ↦
            subst (λ n. q < n) (sym links_len) (h.linked q (ap is_some (sym (other_kept slots slots_new id q None u other)) ∙ found))
      ];
      numbered = subst (λ n. n ≤ NONE) (sym links_len) h.numbered;
      len = omega (arith, len, h.len, length-remove id es (ap is_some at));
      fits = omega (arith, len, capacity, h.fits);
    }

-- the list has gained a node
pub chained-pushed : {T A : Type 0} (slots slots_new : Slab T) (links links_new : LinkTable A) (es : List (ℕ × T)) (id : ℕ) (x : T)
    → IsChained slots links es → get slots id ≡ None → Updates slots slots_new id (Some x) → slab_len slots_new ≡ slab_len slots + 1
    → slab_len slots_new ≤ slots_new.capacity → id < length links.links.items → LinkedBack links links_new id
    → length links_new.links.items ≡ length links.links.items → IsChained slots_new links_new (es ++ (id, x) ∷ [])
chained-pushed slots slots_new links links_new es id x h was u len fits within step links_len =
    let slot : nat_eq id NONE ≡ false = Rattle.std.proofs.lemmas.Bool.ne_eqb id NONE (λ same. omega (arith, same, within, h.numbered)) in
    record {
      threaded = threaded-pushed (get slots) (next_at links) (prev_at links) es h.threaded (get slots_new) id x
          (sym (h.threaded.elements id) ∙ was) slot u.changed (λ q other. other_kept slots slots_new id q (Some x) u other)
          links.last (last_is slots links es h) (next_at links_new) (prev_at links_new) step.next step.prev;
      linked = λ q found. elim (cases_Bool (nat_eq id q)) [
        | inl same ↦ subst (λ n. q < n) (sym links_len) (subst (λ k. k < length links.links.items) (eqb-true id q same) within)
        | inr other ↦
            subst (λ n. q < n) (sym links_len) (h.linked q (ap is_some (sym (other_kept slots slots_new id q (Some x) u other)) ∙ found))
      ];
      numbered = subst (λ n. n ≤ NONE) (sym links_len) h.numbered;
      len = len ∙ omega (arith, h.len, length-append es ((id, x) ∷ []));
      fits = fits;
    }

-- the elements without that of a node
abbrev without : {T : Type 0} → Slab T → ℕ → ℕ → Option T
without slots id q = cond (nat_eq id q) None (get slots q)

-- as the links are once a node is taken out
without_node : {T A : Type 0} (slots : Slab T) (links mid : LinkTable A) (es : List (ℕ × T)) (id : ℕ) (x : T) → IsChained slots links es
    → lookup (nat_eq id) es ≡ Some x → Unlinked links mid id
    → IsThreaded (without slots id) (next_at mid) (prev_at mid) (remove_entry (nat_eq id) es)
without_node slots links mid es id x h at out =
    threaded-unlinked (get slots) (next_at links) (prev_at links) es h.threaded (without slots id) id x at
    (cond-true (nat_eq id id) None (get slots id) (nat_eq-same id)) (λ q other. cond-false (nat_eq id q) None (get slots q) other)
    (next_at mid) (prev_at mid) out.next out.prev

-- once a node is taken out, the slots of the rest have links still
mid_place : {T A : Type 0} (slots : Slab T) (links mid : LinkTable A) (es : List (ℕ × T)) (id : ℕ) → IsChained slots links es
    → length mid.links.items ≡ length links.links.items → (q : ℕ)
    → IsSome (lookup (nat_eq q) (remove_entry (nat_eq id) es)) ⊎ (NONE ≡ q) → IsPlace mid q
mid_place slots links mid es id h mid_len q (inr end) = inr end
mid_place slots links mid es id h mid_len q (inl found) =
    let other : nat_eq id q ≡ false = differs id q (remove_entry (nat_eq id) es) (lookup-remove_same id es h.threaded.apart) found in
    let stands : IsSome (get slots q) = ap is_some (h.threaded.elements q ∙ sym (lookup-remove_other id q es other)) ∙ found in
    inl (subst (λ n. q < n) (sym mid_len) (h.linked q stands))

-- so has the last node
mid_tail : {T A : Type 0} (slots : Slab T) (links mid : LinkTable A) (es : List (ℕ × T)) (id : ℕ) (x : T) → IsChained slots links es
    → lookup (nat_eq id) es ≡ Some x → Unlinked links mid id → length mid.links.items ≡ length links.links.items → IsPlace mid mid.last
mid_tail slots links mid es id x h at out mid_len =
    let rest = remove_entry (nat_eq id) es in
    let apart = without_node slots links mid es id x h at out in
    let last : mid.last ≡ preceder NONE NONE rest NONE =
    sym (cond-true (nat_eq NONE NONE) mid.last (links_at mid.links.items NONE).prev (nat_eq-same NONE)) ∙ apart.prev NONE in
    rw last (mid_place slots links mid es id h mid_len (preceder NONE NONE rest NONE) (last_place NONE NONE rest))

-- and the one before another
mid_before : {T A : Type 0} (slots : Slab T) (links mid : LinkTable A) (es : List (ℕ × T)) (id next : ℕ) (x : T) → IsChained slots links es
    → lookup (nat_eq id) es ≡ Some x → IsSome (lookup (nat_eq next) (remove_entry (nat_eq id) es)) → Unlinked links mid id
    → length mid.links.items ≡ length links.links.items → IsPlace mid (prev_at mid next)
mid_before slots links mid es id next x h at found out mid_len =
    let rest = remove_entry (nat_eq id) es in
    let apart = without_node slots links mid es id x h at out in
    rw (apart.prev next) (mid_place slots links mid es id h mid_len (preceder NONE NONE rest next) (preceder_place NONE NONE rest next found))

-- a node of the list is at the back
pub chained-moved : {T A : Type 0} (slots : Slab T) (links mid links_new : LinkTable A) (es : List (ℕ × T)) (id : ℕ) (x : T)
    → IsChained slots links es → lookup (nat_eq id) es ≡ Some x → Unlinked links mid id → length mid.links.items ≡ length links.links.items
    → LinkedBack mid links_new id → length links_new.links.items ≡ length mid.links.items → IsChained slots links_new (moved_to_back id es)
chained-moved slots links mid links_new es id x h at out mid_len back new_len =
    let rest = remove_entry (nat_eq id) es in
    let found : IsSome (lookup (nat_eq id) es) = ap is_some at in
    let apart = without_node slots links mid es id x h at out in
    let last_of_mid : mid.last ≡ prev_at mid NONE =
    sym (cond-true (nat_eq NONE NONE) mid.last (links_at mid.links.items NONE).prev (nat_eq-same NONE)) in
    let whole =
    threaded-pushed (without slots id) (next_at mid) (prev_at mid) rest apart (get slots) id x (lookup-remove_same id es h.threaded.apart)
    (ne_comm NONE id (differs NONE id es h.threaded.end found)) (h.threaded.elements id ∙ at)
    (λ q other. sym (cond-false (nat_eq id q) None (get slots q) other)) mid.last last_of_mid (next_at links_new) (prev_at links_new)
    back.next back.prev in
    subst (IsChained slots links_new) (sym (moved-found id x es at)) (record {
      threaded = whole;
      linked = λ q stands. subst (λ n. q < n) (sym (new_len ∙ mid_len)) (h.linked q stands);
      numbered = subst (λ n. n ≤ NONE) (sym (new_len ∙ mid_len)) h.numbered;
      len = h.len ∙ omega (arith, length-remove id es found, length-append rest ((id, x) ∷ []));
      fits = h.fits;
    })

-- the same by what each of the two changes asks for
pub chained-found : {T A : Type 0} (slots : Slab T) (links mid links_new : LinkTable A) (es : List (ℕ × T)) (id : ℕ)
    → IsChained slots links es → IsSome (lookup (nat_eq id) es)
    → (IsPlace links (prev_at links id) → IsPlace links (next_at links id) → Unlinked links mid id)
    → length mid.links.items ≡ length links.links.items → (IsPlace mid mid.last → LinkedBack mid links_new id)
    → length links_new.links.items ≡ length mid.links.items → IsChained slots links_new (moved_to_back id es)
chained-found slots links mid links_new es id h found out mid_len back new_len = by (lookup (nat_eq id) es) refl found
  where
    by : (o : Option _) → lookup (nat_eq id) es ≡ o → is_some o ≡ true → IsChained slots links_new (moved_to_back id es)
    by None at some = absurd (false≢true some)
    by (Some x) at some =
        let step = out (prev_place slots links es h id found) (next_place slots links es h id) in
        chained-moved slots links mid links_new es id x h at step mid_len (back (mid_tail slots links mid es id x h at step mid_len))
        new_len

-- a node of the list is right before another
pub chained-moved_before : {T A : Type 0} (slots : Slab T) (links mid links_new : LinkTable A) (es : List (ℕ × T)) (id next : ℕ) (x : T)
    → IsChained slots links es → lookup (nat_eq id) es ≡ Some x → IsSome (lookup (nat_eq next) (remove_entry (nat_eq id) es))
    → Unlinked links mid id → length mid.links.items ≡ length links.links.items
    → LinkedBefore mid links_new id next → length links_new.links.items ≡ length mid.links.items
    → IsChained slots links_new (moved_before id next es)
chained-moved_before slots links mid links_new es id next x h at next_found out mid_len before new_len =
    let rest = remove_entry (nat_eq id) es in
    let found : IsSome (lookup (nat_eq id) es) = ap is_some at in
    let apart = without_node slots links mid es id x h at out in
    let whole =
    threaded-inserted (without slots id) (next_at mid) (prev_at mid) rest apart (get slots) id x next
    (lookup-remove_same id es h.threaded.apart) (ne_comm NONE id (differs NONE id es h.threaded.end found)) next_found
    (h.threaded.elements id ∙ at) (λ q other. sym (cond-false (nat_eq id q) None (get slots q) other)) (next_at links_new)
    (prev_at links_new) before.next before.prev in
    subst (IsChained slots links_new) (sym (moved_before-inserted id next x es at)) (record {
      threaded = whole;
      linked = λ q stands. subst (λ n. q < n) (sym (new_len ∙ mid_len)) (h.linked q stands);
      numbered = subst (λ n. n ≤ NONE) (sym (new_len ∙ mid_len)) h.numbered;
      len = h.len ∙ omega (arith, length-remove id es found, length-inserted next (id, x) rest);
      fits = h.fits;
    })

-- the same by what each of the two changes asks for
pub chained-found_before : {T A : Type 0} (slots : Slab T) (links mid links_new : LinkTable A) (es : List (ℕ × T)) (id next : ℕ)
    → IsChained slots links es → IsSome (lookup (nat_eq id) es) → IsSome (lookup (nat_eq next) es) → nat_eq id next ≡ false
    → (IsPlace links (prev_at links id) → IsPlace links (next_at links id) → Unlinked links mid id)
    → length mid.links.items ≡ length links.links.items → (IsPlace mid (prev_at mid next) → LinkedBefore mid links_new id next)
    → length links_new.links.items ≡ length mid.links.items → IsChained slots links_new (moved_before id next es)
chained-found_before slots links mid links_new es id next h found next_found other out mid_len before new_len =
    by (lookup (nat_eq id) es) refl found
  where
    by : (o : Option _) → lookup (nat_eq id) es ≡ o → is_some o ≡ true → IsChained slots links_new (moved_before id next es)
    by None at some = absurd (false≢true some)
    by (Some x) at some =
        let step = out (prev_place slots links es h id found) (next_place slots links es h id) in
        let stays : IsSome (lookup (nat_eq next) (remove_entry (nat_eq id) es)) = ap is_some (lookup-remove_other id next es other) ∙ next_found in
        chained-moved_before slots links mid links_new es id next x h at stays step mid_len
        (before (mid_before slots links mid es id next x h at stays step mid_len)) new_len

-- a node of the list has another element
pub chained-set : {T A : Type 0} (slots : Slab T) (links : LinkTable A) (es : List (ℕ × T)) (id : ℕ) (w : T) → IsChained slots links es
    → IsSome (lookup (nat_eq id) es) → IsChained (with_value slots id w) links (set_value (nat_eq id) es w)
chained-set slots links es id w h found =
    let here : IsSome (get slots id) = ap is_some (h.threaded.elements id) ∙ found in
    let u : Updates slots (with_value slots id w) id (Some w) = Updates-with_value slots id w here in
    let same_len : slab_len (with_value slots id w) ≡ slab_len slots = len_kept slots id w here in
    record {
      threaded = threaded-set (get slots) (next_at links) (prev_at links) es h.threaded (get (with_value slots id w)) id w found u.changed
          (λ q other. other_kept slots (with_value slots id w) id q (Some w) u other);
      linked = λ q stands. elim (cases_Bool (nat_eq id q)) [
        | inl same ↦ h.linked q (ap (λ k. is_some (get slots k)) (sym (eqb-true id q same)) ∙ here)
        | inr other ↦ h.linked q (ap is_some (sym (other_kept slots (with_value slots id w) id q (Some w) u other)) ∙ stands)
      ];
      numbered = h.numbered;
      len = same_len ∙ h.len ∙ sym (length-set_value (nat_eq id) es w);
      fits = subst (λ n. n ≤ slots.capacity) (sym same_len) h.fits;
    }
  where
    len_with : {T : Type 0} (s : Slab T) (id : ℕ) (x w : T) → get s id ≡ Some x → slab_len (with_value s id w) ≡ slab_len s
    len_with s id x w is = grind (arith, common_steps)

    len_at : {T : Type 0} (s : Slab T) (id : ℕ) (w : T) (o : Option T) → get s id ≡ o → is_some o ≡ true
        → slab_len (with_value s id w) ≡ slab_len s
    len_at s id w None is here = absurd (false≢true here)
    len_at s id w (Some x) is here = len_with s id x w is

    len_kept : {T : Type 0} (s : Slab T) (id : ℕ) (w : T) → IsSome (get s id) → slab_len (with_value s id w) ≡ slab_len s
    len_kept s id w here = len_at s id w (get s id) refl here

-- a table that is longer twice is longer
pub lengthened-twice : {A : Type 0} (old mid new : LinkTable A) → Lengthened old mid → Lengthened mid new → Lengthened old new
lengthened-twice old mid new first second = record {
  longer = omega (arith, first.longer, second.longer);
  numbered = second.numbered;
  next = λ q. second.next q ∙ first.next q;
  prev = λ q. second.prev q ∙ first.prev q;
}

-- there may be more links, and more elements may fit
pub chained-grown : {T A : Type 0} (slots slots_new : Slab T) (links links_new : LinkTable A) (es : List (ℕ × T)) → IsChained slots links es
    → slots_new ≡ record slots { capacity = slots_new.capacity } → slots.capacity ≤ slots_new.capacity → Lengthened links links_new
    → IsChained slots_new links_new es
chained-grown slots slots_new links links_new es h kept wider step =
    record {
      threaded = record {
        elements = λ q. ap (λ s. get s q) kept ∙ h.threaded.elements q;
        next = λ q. step.next q ∙ h.threaded.next q;
        prev = λ q. step.prev q ∙ h.threaded.prev q;
        apart = h.threaded.apart;
        end = h.threaded.end;
      };
      linked = λ q stands.
          let within : q < length links.links.items = h.linked q (ap (λ s. is_some (get s q)) (sym kept) ∙ stands) in
          omega (arith, within, step.longer);
      numbered = step.numbered;
      len = ap slab_len kept ∙ h.len;
      fits = let same : slab_len slots_new ≡ slab_len slots = ap slab_len kept in omega (arith, same, wider, h.fits);
    }

-- where there is room, there is memory for all links
pub room_linked : {T A : Type 0} (slots : Slab T) (links : LinkTable A) → 0 < capacity_of slots links - slab_len slots
    → (slots.capacity ≤ reserved links) × (capacity_of slots links ≡ slots.capacity)
room_linked slots links h =
    elim (cases_Bool (nat_le slots.capacity (reserved links))) [
      | inl fits ↦ (leb-true slots.capacity (reserved links) fits, cond-true (nat_le slots.capacity (reserved links)) slots.capacity 0 fits)
      | inr lacks ↦
          let none : capacity_of slots links ≡ 0 = cond-false (nat_le slots.capacity (reserved links)) slots.capacity 0 lacks in
          absurd (omega (arith, none, h))
    ]

-- and then what the slab has room for fits
pub capacity_is : {T A : Type 0} (slots : Slab T) (links : LinkTable A) → slots.capacity ≤ reserved links → capacity_of slots links ≡ slots.capacity
capacity_is slots links fits = cond-true (nat_le slots.capacity (reserved links)) slots.capacity 0 (le-leb slots.capacity (reserved links) fits)

-- another element takes no room
pub len-set : {T A : Type 0} (slots : Slab T) (links : LinkTable A) (es : List (ℕ × T)) (id : ℕ) (w : T) → IsChained slots links es
    → IsSome (lookup (nat_eq id) es) → slab_len (with_value slots id w) ≡ slab_len slots
len-set slots links es id w h found =
    (chained-set slots links es id w h found).len ∙ length-set_value (nat_eq id) es w ∙ sym h.len

-- a chain whose contents are this list
abbrev pub Shows : {T A : Type 0} → Slab T → LinkTable A → List (ℕ × T) → Type 0
Shows slots links es = IsChained slots links (items_of slots links) × (items_of slots links ≡ es)

shows : {T A : Type 0} (slots : Slab T) (links : LinkTable A) (es : List (ℕ × T)) → IsChained slots links es → Shows slots links es
shows slots links es h = (IsChained-items_of slots links es h, items_of-chained slots links es h)

module _ {T A : Type 0} {slots slots_new : Slab T} {links links_new : LinkTable A} (h : IsChained slots links (items_of slots links)) where
  -- room was made
  pub shows-grown : slots_new ≡ record slots { capacity = slots_new.capacity } → slots.capacity ≤ slots_new.capacity
      → Lengthened links links_new → Shows slots_new links_new (items_of slots links)
  shows-grown kept wider step =
      shows slots_new links_new (items_of slots links) (chained-grown slots slots_new links links_new
      (items_of slots links) h kept wider step)

  -- a node was taken out
  pub shows-unlinked : (id : ℕ) (x : T) → get slots id ≡ Some x → Updates slots slots_new id None → slab_len slots_new + 1 ≡ slab_len slots
      → slots_new.capacity ≡ slots.capacity
      → (IsPlace links (prev_at links id) → IsPlace links (next_at links id) → Unlinked links links_new id)
      → length links_new.links.items ≡ length links.links.items
      → Shows slots_new links_new (remove_entry (nat_eq id) (items_of slots links))
  shows-unlinked id x was u len capacity out links_len =
      let items = items_of slots links in
      let at : lookup (nat_eq id) items ≡ Some x = sym (h.threaded.elements id) ∙ was in
      let step = out (prev_place slots links items h id (ap is_some at)) (next_place slots links items h id) in
      shows slots_new links_new (remove_entry (nat_eq id) items)
      (chained-unlinked slots slots_new links links_new items id x h at u len capacity step links_len)

  -- a node was put at the back, in room that was there, once it had links
  pub shows-pushed : {covered : LinkTable A} (id : ℕ) (x : T) → 0 < capacity_of slots links - slab_len slots → get slots id ≡ None
      → Updates slots slots_new id (Some x) → slab_len slots_new ≡ slab_len slots + 1 → id < slots_new.capacity → slots_new.capacity ≡ slots.capacity
      → Lengthened links covered → id < length covered.links.items → reserved covered ≡ reserved links
      → (IsPlace covered covered.last → LinkedBack covered links_new id) → length links_new.links.items ≡ length covered.links.items
      → reserved links_new ≡ reserved covered → Shows slots_new links_new (items_of slots links ++ (id, x) ∷ [])
      × (id < length (items_of slots_new links_new) + (capacity_of slots_new links_new - slab_len slots_new))
  shows-pushed {covered = covered} id x some was u len below capacity longer within covered_room back links_len room_same =
      let items = items_of slots links in
      let room = room_linked slots links some in
      let left : 0 < slots.capacity - slab_len slots = subst (λ n. 0 < n - slab_len slots) room.1 some in
      let c = chained-grown slots slots links covered items h refl (omega arith) longer in
      let shown =
      shows slots_new links_new (items ++ (id, x) ∷ [])
      (chained-pushed slots slots_new covered links_new items id x c was u len (omega (arith, len, capacity, left)) within
      (back (tail_place slots covered items c)) links_len) in
      let fits = capacity_is slots_new links_new (omega (arith, capacity, room.0, covered_room, room_same)) in
      (shown, omega (arith, below, fits, shown.0.len, shown.0.fits))

-- a node of the chain was moved to the back
pub shows-moved : {T A : Type 0} {slots : Slab T} {links mid links_new : LinkTable A} (id : ℕ)
    → IsChained slots links (items_of slots links)
    → IsSome (lookup (nat_eq id) (items_of slots links))
    → (IsPlace links (prev_at links id) → IsPlace links (next_at links id) → Unlinked links mid id)
    → length mid.links.items ≡ length links.links.items → (IsPlace mid mid.last → LinkedBack mid links_new id)
    → length links_new.links.items ≡ length mid.links.items → Shows slots links_new (moved_to_back id (items_of slots links))
shows-moved {slots = slots} {links = links} {mid = mid} {links_new = links_new} id h found out mid_len back new_len =
    shows slots links_new (moved_to_back id (items_of slots links))
    (chained-found slots links mid links_new (items_of slots links) id h found out mid_len back new_len)

-- a node of the chain was moved to right before another
pub shows-moved_before : {T A : Type 0} {slots : Slab T} {links mid links_new : LinkTable A} (id next : ℕ)
    → IsChained slots links (items_of slots links)
    → IsSome (lookup (nat_eq id) (items_of slots links)) → IsSome (lookup (nat_eq next) (items_of slots links)) → nat_eq id next ≡ false
    → (IsPlace links (prev_at links id) → IsPlace links (next_at links id) → Unlinked links mid id)
    → length mid.links.items ≡ length links.links.items → (IsPlace mid (prev_at mid next) → LinkedBefore mid links_new id next)
    → length links_new.links.items ≡ length mid.links.items → Shows slots links_new (moved_before id next (items_of slots links))
shows-moved_before {slots = slots} {links = links} {mid = mid} {links_new = links_new} id next h found next_found other out mid_len before new_len =
    shows slots links_new (moved_before id next (items_of slots links))
    (chained-found_before slots links mid links_new (items_of slots links) id next h found next_found other out mid_len before new_len)

-- the link of a node leads to the one behind it
pub leads_next : {T A : Type 0} {slots : Slab T} {links : LinkTable A} → IsChained slots links (items_of slots links) → (id : ℕ)
    → IsSome (lookup (nat_eq id) (items_of slots links)) → (at : Links) → at ≡ slice_index_or links.links.items id at
    → cond (nat_eq at.next NONE) None (Some at.next) ≡ next_id id (items_of slots links)
leads_next {slots = slots} {links = links} h id found at read =
    let items = items_of slots links in let not_end = differs NONE id items h.threaded.end found in
    let within : id < length links.links.items = h.linked id (ap is_some (h.threaded.elements id) ∙ found) in
    let link : at.next ≡ next_at links id =
    ap (λ (l : Links). l.next) (read ∙ get_or_default links.links.items id at APART within)
    ∙ sym (cond-false (nat_eq NONE id) links.first (links_at links.links.items id).next not_end) in
    ap (λ l. cond (nat_eq l NONE) None (Some l)) (link ∙ h.threaded.next id) ∙ linked_next NONE NONE id items not_end h.threaded.end found
