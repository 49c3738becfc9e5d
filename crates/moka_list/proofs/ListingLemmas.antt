-- Lemmas on how a list of ids is laid out.
use Rattle.std.proofs.Common.{◌≡◌, ◌⊎◌, ℕ, zero, suc, ◌+◌, ◌-◌, ◌<◌, ◌≤◌, true, false, nat_eq, not, List, [], ◌∷◌, ◌++◌, length, Option}
use Rattle.std.proofs.Common.{Some, None, is_some, refl, sym, ap, subst, ◌∙◌, inl, inr, arith, length-append}
use Rattle.std.specs.Prelude.{⊤}
use Rattle.std.proofs.lemmas.Bool.{cases_Bool, cond-true, cond-false, eqb-true, false≢true}
use Rattle.std.proofs.lemmas.Map.Steps.{length-le_from_distinct_below}
use Rattle.std.specs.List.{IsDistinct}
use Rattle.std.specs.Map.{keys_of, lookup, remove_entry}
use Rattle.moka_list.specs.declared.chain.links.LinkTable.{LinkTable}
use Rattle.moka_list.specs.declared.chain.links.TheConstants.{NONE}
use Rattle.moka_list.specs.Chained.{IsThreaded}
use Rattle.moka_list.specs.Nodes.{IsIn}
use Rattle.moka_list.specs.IdList.{ids_without, is_listed}
use Rattle.moka_list.specs.Listing.{IsListing, ids_of, marked, walk_ids}
use Rattle.moka_list.specs.Links.{IsPlace, Lengthened, LinkedBack, Unlinked, links_at, next_at, prev_at}
use Rattle.moka_list.specs.Nodes.{AreApart, follower}
use Rattle.moka_list.proofs.ChainLemmas.{threaded-pushed, threaded-unlinked}
use Rattle.moka_list.proofs.ItemLemmas.{absent_head, absent_tail, differs, distinct_from_apart, found_cons, found_same, length-remove, lookup-push}
use Rattle.moka_list.proofs.ItemLemmas.{lookup-remove_other}
use Rattle.moka_list.proofs.ItemLemmas.{lookup-remove_same, nat_eq-same, remove-other, remove-same}
use Rattle.moka_list.proofs.NodesLemmas.{follower_behind, follower_place, last_place, preceder_place}

-- ---- ids as nodes

-- an id is a node where it is one of the ids
pub marked-found : (ids : List ℕ) (id : ℕ) → is_some (lookup (nat_eq id) (marked ids)) ≡ is_listed ids id
marked-found [] id = refl
marked-found (i ∷ ids) id =
    elim (cases_Bool (nat_eq id i)) [
      | inl same ↦ ap is_some (cond-true (nat_eq id i) (Some tt) (lookup (nat_eq id) (marked ids)) same) ∙ sym (rw same refl)
      | inr other ↦
          ap is_some (cond-false (nat_eq id i) (Some tt) (lookup (nat_eq id) (marked ids)) other) ∙ (marked-found ids id ∙ sym (rw other refl))
    ]

-- or none
pub marked-absent : (ids : List ℕ) (id : ℕ) → is_listed ids id ≡ false → lookup (nat_eq id) (marked ids) ≡ None
marked-absent ids id h = by (lookup (nat_eq id) (marked ids)) (marked-found ids id ∙ h)
  where
    by : (o : Option ⊤) → is_some o ≡ false → o ≡ None
    by None n = refl
    by (Some x) n = absurd (false≢true (sym n))

pub marked-at : (ids : List ℕ) (id : ℕ) → is_listed ids id ≡ true → lookup (nat_eq id) (marked ids) ≡ Some tt
marked-at ids id h = by (lookup (nat_eq id) (marked ids)) (marked-found ids id ∙ h)
  where
    by : (o : Option ⊤) → is_some o ≡ true → o ≡ Some tt
    by None n = absurd (false≢true n)
    by (Some tt) n = refl

marked-push : (ids : List ℕ) (id : ℕ) → marked (ids ++ id ∷ []) ≡ marked ids ++ (id, tt) ∷ []
marked-push [] id = refl
marked-push (i ∷ ids) id = ap (λ l. (i, tt) ∷ l) (marked-push ids id)

pub without-absent : (id : ℕ) (ids : List ℕ) → lookup (nat_eq id) (marked ids) ≡ None → ids_without id ids ≡ ids
without-absent id [] h = refl
without-absent id (i ∷ ids) h =
    cond-true (not (nat_eq id i)) (i ∷ ids_without id ids) (ids_without id ids) (ap not (absent_head id (i, tt) (marked ids) h))
    ∙ ap (λ l. i ∷ l) (without-absent id ids (absent_tail id (i, tt) (marked ids) h))

pub marked-without : (id : ℕ) (ids : List ℕ) → AreApart (marked ids) → marked (ids_without id ids) ≡ remove_entry (nat_eq id) (marked ids)
marked-without id [] a = refl
marked-without id (i ∷ ids) a =
    elim (cases_Bool (nat_eq id i)) [
      | inl same ↦
          ap marked (cond-false (not (nat_eq id i)) (i ∷ ids_without id ids) (ids_without id ids) (ap not same)
          ∙ without-absent id ids (ap (λ q. lookup (nat_eq q) (marked ids)) (eqb-true id i same) ∙ a.0))
          ∙ sym (remove-same id (i, tt) (marked ids) same)
      | inr other ↦
          ap marked (cond-true (not (nat_eq id i)) (i ∷ ids_without id ids) (ids_without id ids) (ap not other))
          ∙ (ap (λ l. (i, tt) ∷ l) (marked-without id ids a.1) ∙ sym (remove-other id (i, tt) (marked ids) other))
    ]

length-marked : (ids : List ℕ) → length (marked ids) ≡ length ids
length-marked [] = refl
length-marked (i ∷ ids) = ap suc (length-marked ids)

-- ---- a walk finds them

module _ {A : Type 0} (links : LinkTable A) where
  -- from an id on, the links lead through these
  Leads : ℕ → List ℕ → Type 0
  Leads start [] = Unit {0}
  Leads start (id ∷ ids) = (start ≡ id) × Leads (next_at links id) ids

  walked : (start : ℕ) (ids : List ℕ) → Leads start ids → walk_ids links (length ids) start ≡ ids
  unfolding Leads
  walked start [] leads = refl
  walked start (id ∷ ids) leads =
      ap (λ p. walk_ids links (suc (length ids)) p) leads.0 ∙ ap (λ rest. id ∷ rest) (walked (next_at links id) ids leads.1)

  leads_from : (p : ℕ) (ids : List ℕ) → AreApart (marked ids) → lookup (nat_eq p) (marked ids) ≡ None
      → ((q : ℕ) → IsIn (marked ids) q → next_at links q ≡ follower NONE p (marked ids) q)
      → Leads (follower NONE p (marked ids) p) ids
  unfolding Leads
  leads_from p [] apart absent next = tt
  leads_from p (id ∷ ids) apart absent next =
      let es = marked ids in
      let later : (q : ℕ) → IsIn es q → next_at links q ≡ follower NONE id es q =
      λ q found. next q (found_cons q (id, tt) es found)
      ∙ follower_behind NONE p (id, tt) es q (differs p q es (absent_tail p (id, tt) es absent) found) in
      let here : next_at links id ≡ follower NONE id es id =
      next id (found_same (id, tt) es) ∙ follower_behind NONE p (id, tt) es id (absent_head p (id, tt) es absent) in (
        cond-true (nat_eq p p) id (follower NONE id es p) (nat_eq-same p),
        subst (λ start. Leads start ids) (sym here) (leads_from id ids apart.1 apart.0 later),
      )

  module _ (ids : List ℕ) (h : IsListing links ids) where
    first_is : links.first ≡ follower NONE NONE (marked ids) NONE
    first_is =
        sym (cond-true (nat_eq NONE NONE) links.first (links_at links.links.items NONE).next (nat_eq-same NONE)) ∙ h.threaded.next NONE

    pub ids_of-listed : ids_of links (length ids) ≡ ids
    ids_of-listed =
        ap (walk_ids links (length ids)) first_is
        ∙ walked (follower NONE NONE (marked ids) NONE) ids
        (leads_from NONE ids h.threaded.apart h.threaded.end (λ q _. h.threaded.next q))

    -- a slot of the list has links
    slot_from : (q : ℕ) → IsIn (marked ids) q ⊎ (NONE ≡ q) → IsPlace links q
    slot_from q (inl found) = inl (h.linked q found)
    slot_from q (inr end) = inr end

    pub prev_place : (id : ℕ) → IsIn (marked ids) id → IsPlace links (prev_at links id)
    prev_place id found = rw (h.threaded.prev id) (slot_from _ (preceder_place NONE NONE (marked ids) id found))

    pub next_place : (id : ℕ) → IsPlace links (next_at links id)
    next_place id = rw (h.threaded.next id) (slot_from _ (follower_place NONE NONE (marked ids) id))

    pub tail_place : IsPlace links links.last
    tail_place =
        rw (sym (cond-true (nat_eq NONE NONE) links.last (links_at links.links.items NONE).prev (nat_eq-same NONE)) ∙ h.threaded.prev NONE)
        (slot_from _ (last_place NONE NONE (marked ids)))

-- a table that shows these ids
abbrev pub Lists : {A : Type 0} → LinkTable A → ℕ → List ℕ → Type 0
Lists links len ids = IsListing links (ids_of links len) × (ids_of links len ≡ ids)

lists : {A : Type 0} (links : LinkTable A) (len : ℕ) (ids : List ℕ) → IsListing links ids → len ≡ length ids → Lists links len ids
lists links len ids h len_is =
    let same : ids_of links len ≡ ids = ap (ids_of links) len_is ∙ ids_of-listed links ids h in
    (subst (IsListing links) (sym same) h, same)

pub length-walk : {A : Type 0} (links : LinkTable A) (len start : ℕ) → length (walk_ids links len start) ≡ len
length-walk links zero start = refl
length-walk links (suc left) start = ap suc (length-walk links left (next_at links start))

-- ---- what each call leaves

module _ {A : Type 0} {links new : LinkTable A} {ids : List ℕ} (h : IsListing links ids) where
  pub listing-grown : Lengthened links new → IsListing new ids
  listing-grown step =
      record {
        threaded = record {
          elements = h.threaded.elements;
          next = λ q. step.next q ∙ h.threaded.next q;
          prev = λ q. step.prev q ∙ h.threaded.prev q;
          apart = h.threaded.apart;
          end = h.threaded.end;
        };
        linked = λ q found. let within = h.linked q found in omega (arith, within, step.longer);
        numbered = step.numbered;
      }

  pub listing-removed : (id : ℕ) → is_listed ids id ≡ true → Unlinked links new id → length new.links.items ≡ length links.links.items
      → IsListing new (ids_without id ids)
  listing-removed id found step len =
      let at = marked-at ids id found in
      let es = marked ids in
      let same = marked-without id ids h.threaded.apart in
      let whole : IsThreaded (λ q. lookup (nat_eq q) (remove_entry (nat_eq id) es)) (next_at new) (prev_at new) (remove_entry (nat_eq id) es) =
      threaded-unlinked (λ q. lookup (nat_eq q) es) (next_at links) (prev_at links) es h.threaded
      (λ q. lookup (nat_eq q) (remove_entry (nat_eq id) es)) id tt at
      (lookup-remove_same id es h.threaded.apart) (λ q other. lookup-remove_other id q es other) (next_at new) (prev_at new) step.next step.prev in
      record {
        threaded = subst (λ l. IsThreaded (λ q. lookup (nat_eq q) l) (next_at new) (prev_at new) l) (sym same) whole;
        linked = λ q there. elim (cases_Bool (nat_eq id q)) [
          | inl equal ↦
              absurd (false≢true (sym (ap is_some (ap (λ k. lookup (nat_eq k) (marked (ids_without id ids))) (sym (eqb-true id q equal))
              ∙ ap (lookup (nat_eq id)) same ∙ lookup-remove_same id es h.threaded.apart)) ∙ there))
          | inr other ↦
              subst (λ n. q < n) (sym len)
              (h.linked q (ap is_some (sym (lookup-remove_other id q es other) ∙ ap (lookup (nat_eq q)) (sym same)) ∙ there))
        ];
        numbered = subst (λ n. n ≤ NONE) (sym len) h.numbered;
      }

  pub listing-pushed : (id : ℕ) → is_listed ids id ≡ false → id < length links.links.items → LinkedBack links new id
      → length new.links.items ≡ length links.links.items → IsListing new (ids ++ id ∷ [])
  listing-pushed id absent below step len =
      let at = marked-absent ids id absent in
      let es = marked ids in
      let same = marked-push ids id in
      let slot : nat_eq id NONE ≡ false = apart id (omega (arith, below, h.numbered)) in
      let last : links.last ≡ prev_at links NONE =
      sym (cond-true (nat_eq NONE NONE) links.last (links_at links.links.items NONE).prev (nat_eq-same NONE)) in
      let whole : IsThreaded (λ q. lookup (nat_eq q) (es ++ (id, tt) ∷ [])) (next_at new) (prev_at new) (es ++ (id, tt) ∷ []) =
      threaded-pushed (λ q. lookup (nat_eq q) es) (next_at links) (prev_at links) es h.threaded
      (λ q. lookup (nat_eq q) (es ++ (id, tt) ∷ [])) id tt at slot
      (lookup-push id id tt es at ∙ cond-true (nat_eq id id) _ _ (nat_eq-same id))
      (λ q other. lookup-push q id tt es at ∙ cond-false (nat_eq id q) (Some tt) (lookup (nat_eq q) es) other)
      links.last last (next_at new) (prev_at new) step.next step.prev in
      record {
        threaded = subst (λ l. IsThreaded (λ q. lookup (nat_eq q) l) (next_at new) (prev_at new) l) (sym same) whole;
        linked = λ q there. elim (cases_Bool (nat_eq id q)) [
          | inl equal ↦ subst (λ k. k < length new.links.items) (eqb-true id q equal) (omega (arith, below, len))
          | inr other ↦
              subst (λ n. q < n) (sym len)
              (h.linked q (ap is_some (sym (cond-false (nat_eq id q) (Some tt) (lookup (nat_eq q) es) other)
              ∙ (sym (lookup-push q id tt es at) ∙ ap (lookup (nat_eq q)) (sym same))) ∙ there))
        ];
        numbered = subst (λ n. n ≤ NONE) (sym len) h.numbered;
      }
    where
      apart : (id : ℕ) → id < NONE → nat_eq id NONE ≡ false
      apart id below = grind (arith, below)

-- without it the list is one shorter
pub length-without : {A : Type 0} {links : LinkTable A} {ids : List ℕ} → IsListing links ids → (id : ℕ) → is_listed ids id ≡ true
    → suc (length (ids_without id ids)) ≡ length ids
length-without {ids = ids} h id found =
    ap suc (sym (length-marked (ids_without id ids)) ∙ ap length (marked-without id ids h.threaded.apart))
    ∙ (length-remove id (marked ids) (ap is_some (marked-at ids id found)) ∙ length-marked ids)

-- and it isn't there any more
pub gone-without : (id : ℕ) (ids : List ℕ) → is_listed (ids_without id ids) id ≡ false
gone-without id [] = refl
gone-without id (i ∷ ids) =
    elim (cases_Bool (nat_eq id i)) [
      | inl same ↦
          ap (λ l. is_listed l id) (cond-false (not (nat_eq id i)) (i ∷ ids_without id ids) (ids_without id ids) (ap not same))
          ∙ gone-without id ids
      | inr other ↦
          ap (λ l. is_listed l id) (cond-true (not (nat_eq id i)) (i ∷ ids_without id ids) (ids_without id ids) (ap not other))
          ∙ rw other (gone-without id ids)
    ]

module _ {A : Type 0} {links : LinkTable A} (len : ℕ) (h : IsListing links (ids_of links len)) where
  -- by what each change asks for
  pub lists-grown : {new : LinkTable A} → Lengthened links new → Lists new len (ids_of links len)
  lists-grown {new = new} step = lists new len (ids_of links len) (listing-grown h step) (sym (length-walk links len links.first))

  pub lists-pushed : {covered new : LinkTable A} (id : ℕ) → is_listed (ids_of links len) id ≡ false → Lengthened links covered
      → id < length covered.links.items → (IsPlace covered covered.last → LinkedBack covered new id)
      → length new.links.items ≡ length covered.links.items → Lists new (len + 1) (ids_of links len ++ id ∷ [])
  lists-pushed {covered = covered} {new = new} id absent longer below step same =
      let h = listing-grown h longer in
      lists new (len + 1) (ids_of links len ++ id ∷ [])
      (listing-pushed h id absent below (step (tail_place covered (ids_of links len) h)) same)
      (omega (arith, length-append (ids_of links len) (id ∷ []), length-walk links len links.first))

  module _ (id : ℕ) (found : is_listed (ids_of links len) id ≡ true) where
    out : {mid : LinkTable A} → (IsPlace links (prev_at links id) → IsPlace links (next_at links id) → Unlinked links mid id) → Unlinked links mid id
    out step =
        let there : IsIn (marked (ids_of links len)) id = ap is_some (marked-at (ids_of links len) id found) in
        step (prev_place links (ids_of links len) h id there) (next_place links (ids_of links len) h id)

    pub lists-removed : {mid : LinkTable A} → (IsPlace links (prev_at links id) → IsPlace links (next_at links id) → Unlinked links mid id)
        → length mid.links.items ≡ length links.links.items → Lists mid (len - 1) (ids_without id (ids_of links len))
    lists-removed {mid = mid} step same =
        lists mid (len - 1) (ids_without id (ids_of links len)) (listing-removed h id found (out step) same)
        (omega (arith, length-without h id found, length-walk links len links.first))

    pub lists-moved : {mid new : LinkTable A} → (IsPlace links (prev_at links id) → IsPlace links (next_at links id) → Unlinked links mid id)
        → length mid.links.items ≡ length links.links.items → (IsPlace mid mid.last → LinkedBack mid new id)
        → length new.links.items ≡ length mid.links.items → Lists new len (ids_without id (ids_of links len) ++ id ∷ [])
    lists-moved {mid = mid} {new = new} step same back same_again =
        let rest = ids_without id (ids_of links len) in
        let gone = listing-removed h id found (out step) same in
        let below = h.linked id (ap is_some (marked-at (ids_of links len) id found)) in
        lists new len (rest ++ id ∷ [])
        (listing-pushed gone id (gone-without id (ids_of links len)) (omega (arith, below, same)) (back (tail_place mid rest gone)) same_again)
        (omega (arith, length-without h id found, length-walk links len links.first, length-append rest (id ∷ [])))

    pub has_links : id < length links.links.items
    has_links = h.linked id (ap is_some (marked-at (ids_of links len) id found))

-- as many ids as there are links at most
pub few_listed : {A : Type 0} {links : LinkTable A} {ids : List ℕ} → IsListing links ids → length ids ≤ NONE
few_listed {links = links} {ids = ids} h =
    let fits : length ids ≤ length links.links.items =
    length-le_from_distinct_below ids (length links.links.items) (subst (IsDistinct nat_eq) (keys-marked ids) (distinct_from_apart
    (marked ids) h.threaded.apart))
    (λ q found. h.linked q (ap is_some (marked-at ids q found))) in
    omega (arith, fits, h.numbered)
  where
    keys-marked : (ids : List ℕ) → keys_of (marked ids) ≡ ids
    keys-marked [] = refl
    keys-marked (i ∷ ids) = ap (λ l. i ∷ l) (keys-marked ids)
