-- Lemmas on all that holds of a store: what each change leaves of it.
use Rattle.std.proofs.Common.{◌≡◌, ◌<◌, ◌+◌, ◌-◌, ◌^◌, ℕ, suc, Bool, true, nat_eq, List, [], ◌∷◌, ◌++◌, length, Some, None, is_some, IsSome}
use Rattle.std.proofs.Common.{refl, sym, ap, ◌∙◌, subst, arith}
use Rattle.std.proofs.lemmas.List.{length_push}
use Rattle.std.specs.Cmp.{IsEquivalence}
use Rattle.std.specs.List.{IsDistinct}
use Rattle.std.specs.Map.{lookup, remove_entry, keys_of, values_of}
use Rattle.moka_list.specs.Chain.{Chain}
use Rattle.moka_list.specs.IdList.{IdList}
use Rattle.moka_list.specs.GrowingIndex.{GrowingIndex, candidates, Adds, Removes as Unlists}
use Rattle.moka_unsync_model.specs.declared.entry.Entry.{Entry}
use Rattle.moka_unsync_model.specs.Contents.{entry_at}
use Rattle.moka_store.specs.declared.parts.Marks.{Marks}
use Rattle.moka_store.specs.declared.parts.Weights.{Weights}
use Rattle.moka_store.specs.Room.{HasRoom}
use Rattle.moka_store.specs.Nodes.{AreMarks, IsBalanced, IsParted, IsStored, SameBy, bare, latest_node, weights_of}
use Rattle.moka_store.specs.Nodes.{write_added, write_last, write_left}
use Rattle.moka_list.specs.Indexed.{IsIndexed}
use Rattle.moka_list.proofs.IndexLemmas.{IsIndexed-enter, IsIndexed-none, IsIndexed-remove}
use Rattle.moka_store.proofs.LatestLemmas.{all-latest, distinct-relisted, gone, length-latest, lookup-latest}
use Rattle.moka_store.proofs.NodeLemmas.{all-removed, keyed-latest, keyed-none, keyed-removed, key_absent, length-keys, order-removed}
use Rattle.moka_store.proofs.NodeLemmas.{order-with, removed_parts}
use Rattle.moka_store.proofs.SameLemmas.{indexed-same, keyed-same, same-bare, same-relisted, small-same, written-same}
use Rattle.moka_store.proofs.WriteLemmas.{written-last, written-latest, written-none, written-removed}
use Rattle.moka_list.proofs.ItemLemmas.{length-remove}
use Rattle.moka_list.proofs.IdLemmas.{lookup-removed}

-- a node is there, whatever its entry
abbrev present : {K V : Type 0} → Entry K V → Bool
present e = true

yes : true ≡ true
yes = refl

module _ {K V : Type 0} {keeps : Bool} {ready : ℕ} {entries : Chain (Entry K V)} {writes : IdList} {index : GrowingIndex}
    (h : HasRoom keeps ready entries writes index) (new : Chain (Entry K V)) (listed : IdList) (indexed : GrowingIndex)
    (capacity : new.capacity ≡ entries.capacity) (written : listed.capacity ≡ writes.capacity) (ids : indexed.ids ≡ index.ids) where
  -- as many entries fit where the lists have the same capacities
  pub room-kept : (0 < ready → new.room ≡ new.capacity - length new.items) → HasRoom keeps ready new listed indexed
  room-kept room =
      record {
        fits = omega (arith, h.fits, capacity);
        few = h.few;
        room = room;
        indexed = λ some. let below = h.indexed some in omega (arith, below, capacity, ids);
        written = λ kept some. let below = h.written kept some in omega (arith, below, capacity, written);
      }

  -- and are as long
  pub room-same : new.room ≡ entries.room → length new.items ≡ length entries.items → HasRoom keeps ready new listed indexed
  room-same room len = room-kept (λ some. let was = h.room some in omega (arith, was, room, len, capacity))

-- a node that was pushed into such room has one in all of them
pub pushed_below : {K V : Type 0} {keeps : Bool} {ready : ℕ} {entries : Chain (Entry K V)} {writes : IdList} {index : GrowingIndex}
    → HasRoom keeps ready entries writes index → length entries.items < ready → (new : Chain (Entry K V)) (id : ℕ) (e : Entry K V)
    → new.items ≡ entries.items ++ (id, e) ∷ [] → entries.room ≡ new.room + 1 → id < length new.items + new.room
    → (id < index.ids) × (keeps ≡ true → id < writes.capacity)
pushed_below {ready = ready} {entries = entries} h room new id e items less below =
    let some : 0 < ready = omega (arith, room) in
    let was = h.room some in
    let fits : id < entries.capacity = omega (arith, h.fits, room, was, less, below, ap length items, length_push entries.items (id, e)) in
    (let indexed = h.indexed some in omega (arith, fits, indexed), λ kept. let written = h.written kept some in omega (arith, fits, written))

-- what holds of a store holds of an empty one
pub stored-none : {K V : Type 0} (eq : K → K → Bool) (keeps : Bool) (nodes : List (ℕ × Entry K V)) (marks : Marks) (ids : List ℕ) (weights : Weights)
    (index : GrowingIndex) → nodes ≡ [] → marks ≡ record { late = None; window = None } → ids ≡ []
    → weights ≡ record { all = 0; protected = 0; window = 0 } → ((hash : ℕ) → candidates index hash ≡ [])
    → IsStored eq keeps nodes marks ids weights index
stored-none {K = K} {V = V} eq keeps nodes marks ids weights index nodes_is marks_is ids_is weights_is empty =
    rw (nodes_is, ids_is) (record {
      keyed = keyed-none eq;
      order = tt;
      marked = record { late = ap (λ m. m.late) marks_is; window = ap (λ m. m.window) marks_is };
      few = omega arith;
      small = tt;
      weighed = weights_is;
      written = written-none keeps;
      indexed = IsIndexed-none (λ e. e.hash) index empty;
    })

-- a node that changes its place leaves as many
pub length-moved : {K V : Type 0} (id : ℕ) (e : Entry K V) (nodes new : List (ℕ × Entry K V)) → new ≡ latest_node (id, e) (remove_entry (nat_eq id) nodes)
    → IsSome (lookup (nat_eq id) nodes) → length new ≡ length nodes
length-moved id e nodes new is stood =
    ap length is ∙ (length-latest (id, e) (remove_entry (nat_eq id) nodes) ∙ length-remove id nodes stood)

-- as does protected within its limit
pub length-balanced : {K V : Type 0} {limit : ℕ} (nodes new : List (ℕ × Entry K V)) → IsBalanced limit nodes new → length new ≡ length nodes
length-balanced nodes new b = sym (length-keys new) ∙ (ap length b.ids ∙ length-keys nodes)

-- as many entries fit once one has moved, and protected is within its limit
pub room-balanced : {K V : Type 0} {keeps : Bool} {ready limit : ℕ} {entries : Chain (Entry K V)} {writes : IdList} {index : GrowingIndex}
    → HasRoom keeps ready entries writes index → (mid new : Chain (Entry K V)) (listed : IdList) → mid ≡ record entries { items = mid.items }
    → length mid.items ≡ length entries.items → new ≡ record mid { items = new.items } → IsBalanced limit mid.items new.items
    → listed.capacity ≡ writes.capacity → HasRoom keeps ready new listed index
room-balanced {index = index} h mid new listed moved len same balance written =
    room-same h new listed index (ap (λ v. v.capacity) same ∙ ap (λ v. v.capacity) moved) written refl
    (ap (λ v. v.room) same ∙ ap (λ v. v.room) moved) (length-balanced mid.items new.items balance ∙ len)

module _ {K V : Type 0} {eq : K → K → Bool} (laws : IsEquivalence eq) {keeps : Bool} {nodes : List (ℕ × Entry K V)} {marks : Marks} {ids : List ℕ}
    {weights : Weights} {index : GrowingIndex} (s : IsStored eq keeps nodes marks ids weights index) where
  -- ids move in the index
  pub stored-reindexed : (new : GrowingIndex) → IsIndexed (λ e. e.hash) nodes new → IsStored eq keeps nodes marks ids weights new
  stored-reindexed new indexed = record {
    keyed = s.keyed;
    order = s.order;
    marked = s.marked;
    few = s.few;
    small = s.small;
    weighed = s.weighed;
    written = s.written;
    indexed = indexed;
  }

  -- a node leaves
  pub stored-removed : (id : ℕ) (e : Entry K V) → lookup (nat_eq id) nodes ≡ Some e → (new : List (ℕ × Entry K V)) (left : Marks) (listed : List ℕ)
      (lighter : Weights) (without : GrowingIndex) → new ≡ remove_entry (nat_eq id) nodes → AreMarks (remove_entry (nat_eq id) nodes) left
      → listed ≡ write_left keeps id ids → lighter ≡ weights_of (remove_entry (nat_eq id) nodes) → Unlists index id without
      → IsStored eq keeps new left listed lighter without
  stored-removed id e stood new left listed lighter without new_is marked listed_is weighed step =
      rw (new_is, listed_is) (record {
        keyed = keyed-removed s.keyed id;
        order = order-removed laws s.keyed id e stood s.order;
        marked = marked;
        few = omega (arith, s.few, length-remove id nodes (ap is_some stood));
        small = all-removed (λ p. p.1.weight < 2 ^ 32) id nodes s.small;
        weighed = weighed;
        written = written-removed s.written id s.keyed.once;
        indexed = IsIndexed-remove (λ e. e.hash) s.indexed id s.keyed.once without step;
      })

  -- a node enters
  pub stored-latest : (id : ℕ) (e : Entry K V) → lookup (nat_eq id) nodes ≡ None → entry_at eq e.key (values_of nodes) ≡ None → e.weight < 2 ^ 32
      → suc (length nodes) < 2 ^ 32 → (new : List (ℕ × Entry K V)) (with_it : Marks) (listed : List ℕ) (heavier : Weights) (indexed : GrowingIndex)
      → new ≡ latest_node (id, e) nodes → AreMarks new with_it → listed ≡ write_added keeps id ids → heavier ≡ weights_of (latest_node (id, e) nodes)
      → id < index.ids → Adds index id e.hash indexed → IsStored eq keeps new with_it listed heavier indexed
  stored-latest id e fresh absent small few new with_it listed heavier indexed new_is marked listed_is weighed room step =
      rw listed_is (record {
        keyed = rw new_is (keyed-latest s.keyed laws id e fresh (key_absent (eq e.key) nodes absent));
        order = rw new_is (order-with (id, e) nodes s.order);
        marked = marked;
        few = omega (arith, few, ap length new_is, length-latest (id, e) nodes);
        small = rw new_is (all-latest (λ p. p.1.weight < 2 ^ 32) (id, e) nodes small s.small);
        weighed = weighed ∙ ap weights_of (sym new_is);
        written = rw new_is (written-latest s.written id e fresh);
        indexed = rw new_is (IsIndexed-enter (λ e. e.hash) s.indexed id e room indexed step (latest_node (id, e) nodes)
            (λ v. lookup-latest v id e nodes fresh));
      })

  module _ (id : ℕ) (x e : Entry K V) (stood : lookup (nat_eq id) nodes ≡ Some x) (small : e.weight < 2 ^ 32) (new : List (ℕ × Entry K V))
      (moved : Marks) (weighs : Weights) (new_is : new ≡ latest_node (id, e) (remove_entry (nat_eq id) nodes)) (marked : AreMarks new moved)
      (weighed : weighs ≡ weights_of (latest_node (id, e) (remove_entry (nat_eq id) nodes))) where
    distinct : IsDistinct nat_eq (keys_of new)
    distinct = rw new_is (distinct-relisted id e nodes s.keyed.once)

    -- a node changes its place, and its entry keeps key and hash
    pub stored-relisted : e.key ≡ x.key → e.hash ≡ x.hash → IsStored eq keeps new moved ids weighs index
    stored-relisted key hash =
        record {
          keyed = keyed-same nodes new s.keyed distinct
              (subst (SameBy (λ e. e.key) nodes) (sym new_is) (same-relisted (λ e. e.key) id x e nodes s.keyed.once stood key));
          order = rw new_is (order-with (id, e) (remove_entry (nat_eq id) nodes) (order-removed laws s.keyed id x stood s.order));
          marked = marked;
          few = subst (λ n. n < 2 ^ 32) (sym (length-moved id e nodes new new_is (ap is_some stood))) s.few;
          small = rw new_is (all-latest (λ p. p.1.weight < 2 ^ 32) (id, e) (remove_entry (nat_eq id) nodes) small
              (all-removed (λ p. p.1.weight < 2 ^ 32) id nodes s.small));
          weighed = weighed ∙ ap weights_of (sym new_is);
          written = written-same present nodes new s.written
              (subst (SameBy present nodes) (sym new_is) (same-relisted present id x e nodes s.keyed.once stood yes));
          indexed = indexed-same nodes new s.indexed
              (subst (SameBy (λ e. e.hash) nodes) (sym new_is) (same-relisted (λ e. e.hash) id x e nodes s.keyed.once stood hash));
        }

    -- another entry comes in its place
    pub stored-replaced : entry_at eq e.key (values_of nodes) ≡ None → (listed : List ℕ) → listed ≡ write_last keeps id ids
        → (without indexed : GrowingIndex) → Unlists index id without → Adds without id e.hash indexed → IsStored eq keeps new moved listed weighs indexed
    stored-replaced absent listed listed_is without indexed left step =
        let rest = remove_entry (nat_eq id) nodes in
        let fresh = gone id nodes s.keyed.once in
        rw listed_is (record {
          keyed = rw new_is (keyed-latest (keyed-removed s.keyed id) laws id e fresh
              (λ i y h. key_absent (eq e.key) nodes absent i y
              (removed_parts s.keyed (nat_eq id i) y (lookup (nat_eq i) nodes) (sym (lookup-removed id i nodes s.keyed.once) ∙ h))));
          order = rw new_is (order-with (id, e) rest (order-removed laws s.keyed id x stood s.order));
          marked = marked;
          few = subst (λ n. n < 2 ^ 32) (sym (length-moved id e nodes new new_is (ap is_some stood))) s.few;
          small = rw new_is (all-latest (λ p. p.1.weight < 2 ^ 32) (id, e) rest small (all-removed (λ p. p.1.weight < 2 ^ 32) id nodes s.small));
          weighed = weighed ∙ ap weights_of (sym new_is);
          written = written-same present nodes new (written-last s.written id (ap is_some stood))
              (subst (SameBy present nodes) (sym new_is) (same-relisted present id x e nodes s.keyed.once stood yes));
          indexed = rw new_is (IsIndexed-enter (λ e. e.hash) (IsIndexed-remove (λ e. e.hash) s.indexed id s.keyed.once without left) id e
              (subst (λ n. id < n) (sym left.ids) (s.indexed.below id (ap is_some stood))) indexed step
              (latest_node (id, e) rest) (λ v. lookup-latest v id e rest fresh));
        })

  -- its parts
  pub parted : IsParted nodes marks weights
  parted = record { once = s.keyed.once; order = s.order; marked = s.marked; weighed = s.weighed }

  -- protected is within its limit
  pub stored-balanced : {limit : ℕ} (new : List (ℕ × Entry K V)) (moved : Marks) (weighs : Weights) → IsBalanced limit nodes new
      → IsParted new moved weighs → IsStored eq keeps new moved ids weighs index
  stored-balanced new moved weighs b p =
      record {
        keyed = keyed-same nodes new s.keyed p.once (same-bare (λ e. e.key) (λ e. refl) nodes new b.same);
        order = p.order;
        marked = p.marked;
        few = subst (λ n. n < 2 ^ 32) (sym (length-balanced nodes new b)) s.few;
        small = small-same nodes new (λ w. w < 2 ^ 32) s.small p.once (same-bare (λ e. e.weight) (λ e. refl) nodes new b.same);
        weighed = p.weighed;
        written = written-same bare nodes new s.written b.same;
        indexed = indexed-same nodes new s.indexed (same-bare (λ e. e.hash) (λ e. refl) nodes new b.same);
      }

  -- a node is written again
  pub stored-written : (id : ℕ) → IsSome (lookup (nat_eq id) nodes) → (listed : List ℕ) → listed ≡ write_last keeps id ids
      → IsStored eq keeps nodes marks listed weights index
  stored-written id stood listed is =
      rw is (record {
        keyed = s.keyed;
        order = s.order;
        marked = s.marked;
        few = s.few;
        small = s.small;
        weighed = s.weighed;
        written = written-last s.written id stood;
        indexed = s.indexed;
      })
