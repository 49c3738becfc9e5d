-- How the store lays its entries out. No public clause cites this module.
use Rattle.std.specs.Prelude.{◌≡◌, ◌<◌, ◌^◌, ℕ, Bool, true, false, not, ◌&&◌, if◌then◌else◌, nat_eq, List, [], ◌∷◌, ◌++◌, sum_by, length}
use Rattle.std.specs.Prelude.{Option, Some, None, IsSome, option_map}
use Rattle.std.specs.Option.{option_eq}
use Rattle.std.specs.List.{AllByRecursion, IsDistinct, filter_map}
use Rattle.std.specs.Map.{lookup, keys_of, remove_entry, values_of}
use Rattle.moka_list.specs.Chain.{moved_before}
use Rattle.moka_list.specs.Nodes.{first_id, moved_to_back}
use Rattle.moka_list.specs.IdList.{ids_without, is_listed}
use Rattle.moka_list.specs.GrowingIndex.{GrowingIndex}
use Rattle.moka_list.specs.Indexed.{IsIndexed}
use Rattle.moka_unsync_model.specs.declared.entry.Entry.{Entry}
use Rattle.moka_unsync_model.specs.declared.entry.Part.{Part}
use Rattle.moka_unsync_model.specs.declared.entry.Part.TheVariants.{Probation, Protected, Window}
use Rattle.moka_unsync_model.specs.Contents.{InOrder, Write, balanced, is_before, is_probation, is_protected, is_window, write_of}
use Rattle.moka_store.specs.declared.parts.Marks.{Marks}
use Rattle.moka_store.specs.declared.parts.Weights.{Weights}

-- whether a part stands behind probation
abbrev pub is_late : Part → Bool
is_late part = not (is_probation part)

-- whether it is any part
abbrev pub is_any : Part → Bool
is_any part = true

-- all of a weight, or nothing
abbrev pub share : Bool → ℕ → ℕ
share true weight = weight
share false weight = 0

-- ---- marks

-- a mark once a node has left, which another may follow
abbrev pub passed : ℕ → Option ℕ → Option ℕ → Option ℕ
passed id next mark = if option_eq nat_eq mark (Some id) then next else mark

-- a mark once a node is right before another, or at the back, and of this mark's parts or not
abbrev pub joined : Bool → ℕ → Option ℕ → Option ℕ → Option ℕ
joined later id next mark = if later && option_eq nat_eq mark next then Some id else mark

-- the first node of the parts behind one
abbrev pub behind : Part → Marks → Option ℕ
behind Probation marks = marks.late
behind Protected marks = marks.window
behind Window marks = None

-- the marks once a node of this part has come last of its part
abbrev pub with_mark : ℕ → Part → Marks → Marks
with_mark id part marks = record {
  late = joined (is_late part) id (behind part marks) marks.late;
  window = joined (is_window part) id (behind part marks) marks.window;
}

-- the nodes with one of them right before another, or at the back
abbrev pub moved : {X : Type 0} → ℕ → Option ℕ → List (ℕ × X) → List (ℕ × X)
moved id None nodes = moved_to_back id nodes
moved id (Some next) nodes = moved_before id next nodes

-- ---- writes

-- the order of writing with a new node, where it is kept
abbrev pub write_added : Bool → ℕ → List ℕ → List ℕ
write_added true id ids = ids ++ id ∷ []
write_added false id ids = ids

-- with a node last
abbrev pub write_last : Bool → ℕ → List ℕ → List ℕ
write_last true id ids = ids_without id ids ++ id ∷ []
write_last false id ids = ids

-- and without one
abbrev pub write_left : Bool → ℕ → List ℕ → List ℕ
write_left true id ids = ids_without id ids
write_left false id ids = ids

module _ {K V : Type 0} where
  -- the first node whose part passes a test
  abbrev pub first_in : (Part → Bool) → List (ℕ × Entry K V) → Option ℕ
  first_in test [] = None
  first_in test (p ∷ nodes) = if test p.1.part then Some p.0 else first_in test nodes

  -- the marks are where the later parts begin
  pub record AreMarks (nodes : List (ℕ × Entry K V)) (marks : Marks) : Type 0 where
    pub late : marks.late ≡ first_in is_late nodes
    pub window : marks.window ≡ first_in is_window nodes

  -- where a part begins: at its first node, or where it has none, at one of another part
  abbrev pub start_of : Part → List (ℕ × Entry K V) → Option ℕ
  start_of Probation nodes = first_id nodes
  start_of Protected nodes = first_in is_late nodes
  start_of Window nodes = first_in is_window nodes

  -- the nodes with one more, the latest of its part
  abbrev pub latest_node : ℕ × Entry K V → List (ℕ × Entry K V) → List (ℕ × Entry K V)
  latest_node p [] = p ∷ []
  latest_node p (q ∷ nodes) = if is_before p.1.part q.1.part then p ∷ q ∷ nodes else q ∷ latest_node p nodes

  -- ---- weights

  -- what the nodes weigh whose part passes a test
  abbrev pub weight_in : (Part → Bool) → List (ℕ × Entry K V) → ℕ
  weight_in test nodes = sum_by (λ p. share (test p.1.part) p.1.weight) nodes

  -- what all nodes weigh, and those of protected and of the window
  abbrev pub weights_of : List (ℕ × Entry K V) → Weights
  weights_of nodes = record { all = weight_in is_any nodes; protected = weight_in is_protected nodes; window = weight_in is_window nodes }

  -- ---- the parts

  -- no id stands twice, the parts stand in order, and marks and weights are theirs
  pub record IsParted (nodes : List (ℕ × Entry K V)) (marks : Marks) (weights : Weights) : Type 0 where
    pub once : IsDistinct nat_eq (keys_of nodes)
    pub order : InOrder Probation (values_of nodes)
    pub marked : AreMarks nodes marks
    pub weighed : weights ≡ weights_of nodes

  -- a node that is to come to this part is none of the parts yet: the marks are those of the others
  pub record IsLoose (nodes : List (ℕ × Entry K V)) (marks : Marks) (id : ℕ) (part : Part) : Type 0 where
    pub once : IsDistinct nat_eq (keys_of nodes)
    pub here : (e : Entry K V) × (lookup (nat_eq id) nodes ≡ Some e) × (e.part ≡ part)
    pub marked : AreMarks (remove_entry (nat_eq id) nodes) marks

  -- ---- what stays the same

  -- no id is lost, and under each is what was there, as far as this tells
  abbrev pub SameBy : {X : Type 0} → (Entry K V → X) → List (ℕ × Entry K V) → List (ℕ × Entry K V) → Type 0
  SameBy f old new = (id : ℕ) → option_map f (lookup (nat_eq id) new) ≡ option_map f (lookup (nat_eq id) old)

  -- an entry, whatever its part
  abbrev pub bare : Entry K V → Entry K V
  bare e = record e { part = Probation }

  -- the first node of protected has become the last of probation
  pub record Demotes (old new : List (ℕ × Entry K V)) : Type 0 where
    pub front : List (Entry K V)
    pub entry : Entry K V
    pub back : List (Entry K V)
    pub free : AllByRecursion (λ e. is_protected e.part ≡ false) front
    pub here : is_protected entry.part ≡ true
    pub stood : values_of old ≡ front ++ entry ∷ back
    pub stands : values_of new ≡ front ++ record entry { part = Probation } ∷ back
    pub same : SameBy bare old new
    pub ids : keys_of new ≡ keys_of old

  -- protected is within its limit: the entries are those that the machine has then
  pub record IsBalanced (limit : ℕ) (old new : List (ℕ × Entry K V)) : Type 0 where
    pub entries : values_of new ≡ balanced limit (values_of old)
    pub same : SameBy bare old new
    pub ids : keys_of new ≡ keys_of old

  -- ---- writes

  -- the write of a node
  abbrev pub write_under : List (ℕ × Entry K V) → ℕ → Option (Write K)
  write_under nodes id = option_map write_of (lookup (nat_eq id) nodes)

  -- the writes of these nodes
  abbrev pub written_under : List (ℕ × Entry K V) → List ℕ → List (Write K)
  written_under nodes ids = filter_map (write_under nodes) ids

  -- the order of writing has each node once where it is kept, and else nothing
  pub record IsWritten (keeps : Bool) (nodes : List (ℕ × Entry K V)) (ids : List ℕ) : Type 0 where
    pub once : IsDistinct nat_eq ids
    pub standing : (id : ℕ) → is_listed ids id ≡ true → IsSome (lookup (nat_eq id) nodes)
    pub listed : keeps ≡ true → (id : ℕ) → IsSome (lookup (nat_eq id) nodes) → is_listed ids id ≡ true
    pub unkept : keeps ≡ false → ids ≡ []

  -- ---- all of it

  -- no id and no key stands twice
  pub record AreKeyed (eq : K → K → Bool) (nodes : List (ℕ × Entry K V)) : Type 0 where
    pub once : IsDistinct nat_eq (keys_of nodes)
    pub apart : (i j : ℕ) (a b : Entry K V) → lookup (nat_eq i) nodes ≡ Some a → lookup (nat_eq j) nodes ≡ Some b
        → eq a.key b.key ≡ true → i ≡ j

  -- the parts stand in order, marks and weights are theirs, lengths and weights have 32 bits, and writes and index have each node
  pub record IsStored (eq : K → K → Bool) (keeps : Bool) (nodes : List (ℕ × Entry K V)) (marks : Marks) (ids : List ℕ) (weights : Weights)
      (index : GrowingIndex) : Type 0 where
    pub keyed : AreKeyed eq nodes
    pub order : InOrder Probation (values_of nodes)
    pub marked : AreMarks nodes marks
    pub few : length nodes < 2 ^ 32
    pub small : AllByRecursion (λ p. p.1.weight < 2 ^ 32) nodes
    pub weighed : weights ≡ weights_of nodes
    pub written : IsWritten keeps nodes ids
    pub indexed : IsIndexed (λ e. e.hash) nodes index
