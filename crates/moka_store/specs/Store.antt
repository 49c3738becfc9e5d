-- What a contract sees of the store of a cache's entries, and of each change of it.
use Rattle.std.specs.Prelude.{◌≡◌, ◌≤◌, ◌<◌, ◌^◌, ℕ, Bool, true, false, filter, nat_eq, List, length, ◌∷◌, All, Some, IsSome, option_map}
use Rattle.std.specs.List.{IsDistinct}
use Rattle.std.specs.Map.{lookup, remove_entry, values_of}
use Rattle.moka_list.specs.IdList.{is_listed}
use Rattle.moka_unsync_model.specs.declared.entry.Entry.{Entry}
use Rattle.moka_unsync_model.specs.declared.entry.Part.{Part}
use Rattle.moka_unsync_model.specs.declared.entry.Part.TheVariants.{Probation, Protected, Window}
use Rattle.moka_unsync_model.specs.Contents.{Contents, Write, after_moving, entries_without, entry_keys, entry_where, is_probation, is_protected, is_window}
use Rattle.moka_unsync_model.specs.Contents.{without}
use Rattle.moka_unsync_model.specs.Contents.{write_of, writes_without}
use Rattle.moka_unsync_model.specs.Insert.{after_arrival, after_update}
use Rattle.moka_unsync_model.specs.Lookup.{after_using, used_part}
use Rattle.moka_store.specs.declared.store.modify.Moments.{Moments}

-- the entries in three parts, probation, protected and the window, each in order of use and under the ids of their nodes; the writes in their order, if
-- they are kept; how much protected may weigh; and how many entries fit with no allocation
pub record Store (K V : Type 0) : Type 0 where
  pub nodes : List (ℕ × Entry K V)
  pub written : List (Write K)
  pub keeps_writes : Bool
  pub protected_limit : ℕ
  pub capacity : ℕ

-- whether one part is another
abbrev pub is_of : Part → Part → Bool
is_of Probation part = is_probation part
is_of Protected part = is_protected part
is_of Window part = is_window part

module _ {K V : Type 0} where
  -- the entries, probation's, then protected's, then the window's
  abbrev pub entries_of : Store K V → List (Entry K V)
  entries_of store = values_of store.nodes

  -- the entries of a part
  abbrev pub those_of : Part → List (Entry K V) → List (Entry K V)
  those_of part entries = filter (λ e. is_of part e.part) entries

  -- the contents of a store
  abbrev pub contents_of : Store K V → Contents K V
  contents_of store = record { entries = entries_of store; written = store.written }

  -- the store keeps its writes or not as before, and has the same limit and capacity
  pub record KeepsSettings (old new : Store K V) : Type 0 where
    pub keeps : new.keeps_writes ≡ old.keeps_writes
    pub limit : new.protected_limit ≡ old.protected_limit
    pub capacity : new.capacity ≡ old.capacity

  -- and no more nodes
  pub record Continues (old new : Store K V) : Type 0 where
    pub settings : KeepsSettings old new
    pub fewer : length new.nodes ≤ length old.nodes

  -- the entry of the node is of probation, and stays there if it is used
  abbrev pub StaysInProbation : Store K V → ℕ → Type 0
  StaysInProbation store id =
      (e : Entry K V) × (lookup (nat_eq id) store.nodes ≡ Some e) × (e.part ≡ Probation)
      × (used_part store.protected_limit Probation e.weight ≡ Probation)

  -- these ids are those of nodes, and all nodes of this hash are among them
  pub record AreCandidates (store : Store K V) (hash : ℕ) (ids : List ℕ) : Type 0 where
    pub standing : (id : ℕ) → is_listed ids id ≡ true → IsSome (lookup (nat_eq id) store.nodes)
    pub ahead : (id : ℕ) (e : Entry K V) → lookup (nat_eq id) store.nodes ≡ Some e → e.hash ≡ hash → is_listed ids id ≡ true

  module _ (test : K → Bool) where
    -- every entry whose key passes the test has this hash
    abbrev pub HasHash : Store K V → ℕ → Type 0
    HasHash store hash = All (λ e. test e.key ≡ true → e.hash ≡ hash) (entries_of store)

    -- it is the node of the first such entry
    abbrev pub IsFound : Store K V → ℕ → Type 0
    IsFound store id = (e : Entry K V) × (lookup (nat_eq id) store.nodes ≡ Some e) × (entry_where test (entries_of store) ≡ Some e)

  module _ (eq : K → K → Bool) where
    -- it is the node of the first entry, whose key no other entry has
    pub record IsFront (store : Store K V) (id : ℕ) : Type 0 where
      pub entry : Entry K V
      pub rest : List (Entry K V)
      pub stands : lookup (nat_eq id) store.nodes ≡ Some entry
      pub first : entries_of store ≡ entry ∷ rest
      pub alone : entries_without eq entry.key (entries_of store) ≡ rest

    -- it is that of the first entry of a part, where no key stands twice; once it is gone, the others are the part, and the other parts are what they were
    pub record IsFrontOf (part : Part) (store : Store K V) (id : ℕ) : Type 0 where
      pub entry : Entry K V
      pub rest : List (Entry K V)
      pub stands : lookup (nat_eq id) store.nodes ≡ Some entry
      pub here : is_of part entry.part ≡ true
      pub first : those_of part (entries_of store) ≡ entry ∷ rest
      pub alone : those_of part (entries_without eq entry.key (entries_of store)) ≡ rest
      pub others : (other : Part) → is_of other entry.part ≡ false
          → those_of other (entries_without eq entry.key (entries_of store)) ≡ those_of other (entries_of store)
      pub once : IsDistinct eq (entry_keys (entries_of store))

    -- it is the node of the entry whose write is the oldest, and no other write has its key
    pub record IsOldest (store : Store K V) (id : ℕ) : Type 0 where
      pub entry : Entry K V
      pub rest : List (Write K)
      pub stands : lookup (nat_eq id) store.nodes ≡ Some entry
      pub first : store.written ≡ write_of entry ∷ rest
      pub alone : writes_without eq entry.key store.written ≡ rest

    -- what the store is once the entry of the node has left
    pub record Removes (old : Store K V) (id : ℕ) (new : Store K V) : Type 0 where
      pub entry : Entry K V
      pub stood : lookup (nat_eq id) old.nodes ≡ Some entry
      pub contents : contents_of new ≡ without eq (contents_of old) entry.key
      pub nodes : new.nodes ≡ remove_entry (nat_eq id) old.nodes
      pub kept : Continues old new

    -- what it is once the entry was used at a moment
    pub record Uses (old : Store K V) (id now : ℕ) (new : Store K V) : Type 0 where
      pub entry : Entry K V
      pub stood : lookup (nat_eq id) old.nodes ≡ Some entry
      pub contents : contents_of new ≡ after_using eq old.protected_limit (record entry { accessed = now }) (contents_of old)
      pub value : option_map (λ e. e.value) (lookup (nat_eq id) new.nodes) ≡ Some entry.value
      pub kept : Continues old new

    -- what it is once the entry has another's value, weight and moments
    pub record Updates (old : Store K V) (id : ℕ) (update : Entry K V) (new : Store K V) : Type 0 where
      pub entry : Entry K V
      pub stood : lookup (nat_eq id) old.nodes ≡ Some entry
      pub contents : contents_of new ≡ after_update eq old.keeps_writes old.protected_limit entry update (contents_of old)
      pub kept : Continues old new

    -- what it is once the entry's value was changed, weighed again, and given these moments
    pub record Modifies (changes : V → V → Type 0) (weighs : V → ℕ → Type 0) (old : Store K V) (id : ℕ) (times : Moments) (new : Store K V) : Type 0 where
      pub entry : Entry K V
      pub stood : lookup (nat_eq id) old.nodes ≡ Some entry
      pub value : V
      pub weight : ℕ
      pub changed : changes entry.value value
      pub weighed : weighs value weight
      pub small : weight < 2 ^ 32
      pub step : Updates old id (record entry {
        value = value;
        weight = weight;
        accessed = times.accessed;
        deadline = times.deadline;
        outlasts = times.outlasts;
      }) new

    -- the entries of the other nodes are those of other keys
    abbrev pub IsAlone : Store K V → ℕ → Entry K V → Type 0
    IsAlone store id entry = values_of (remove_entry (nat_eq id) store.nodes) ≡ entries_without eq entry.key (entries_of store)

    -- what it is once the entry has come to probation
    pub record Promotes (old : Store K V) (id : ℕ) (new : Store K V) : Type 0 where
      pub entry : Entry K V
      pub stood : lookup (nat_eq id) old.nodes ≡ Some entry
      pub contents : contents_of new ≡ after_moving eq (record entry { part = Probation }) (contents_of old)
      pub alone : IsAlone old id entry
      pub kept : Continues old new

    -- what it is once a new entry has entered: each node stands as before
    pub record Enters (old : Store K V) (entry : Entry K V) (new : Store K V) : Type 0 where
      pub contents : contents_of new ≡ after_arrival eq old.keeps_writes entry (contents_of old)
      pub others : (i : ℕ) → IsSome (lookup (nat_eq i) old.nodes) → lookup (nat_eq i) new.nodes ≡ lookup (nat_eq i) old.nodes
      pub kept : KeepsSettings old new

    -- what it is once a new entry has come in place of the node's: the other nodes stand as before
    pub record Replaces (old : Store K V) (id : ℕ) (entry : Entry K V) (new : Store K V) : Type 0 where
      pub gone : Entry K V
      pub stood : lookup (nat_eq id) old.nodes ≡ Some gone
      pub contents : contents_of new ≡ after_arrival eq old.keeps_writes entry (without eq (contents_of old) gone.key)
      pub alone : IsAlone old id gone
      pub others : (i : ℕ) → nat_eq id i ≡ false → lookup (nat_eq i) new.nodes ≡ lookup (nat_eq i) old.nodes
      pub kept : Continues old new
