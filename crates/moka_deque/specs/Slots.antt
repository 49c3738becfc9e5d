-- How a list's nodes are held: each in a block of its own, with a slot from its id to it. No public clause cites this module.
use Rattle.std.specs.Prelude.{◌≡◌, ℕ, ◌+◌, ◌<◌, Bool, true, false, nat_eq, List, [], ◌∷◌, ◌++◌, map, length, Option, Some, None}
use Rattle.std.specs.Map.{lookup}
use Rattle.slab.specs.Slab.{Slab, ContainsKey, get, slab_len}
use denote.RawPtr.{Ptr}
use Rattle.moka_deque.specs.Linked.{Linked}
use Rattle.moka_list.specs.Nodes.{AreApart}
use Rattle.moka_deque.specs.RawNodes.{Linked as Node, pairs, spares}
use Rattle.moka_deque.specs.declared.deque.nodes.Slot.{Slot}
use Rattle.moka_deque.specs.declared.deque.nodes.Ends.{Ends}
use Rattle.moka_deque.specs.declared.deque.nodes.Nodes.{Nodes}

module _ {T A : Type 0} where
  -- the slot of the node at p, in the list or not
  abbrev pub slot : Ptr → Bool → Slot T A
  slot p live = record { node = record { ptr = p }; live = live }

  -- that of a node of the list
  abbrev pub live_at : Ptr → Slot T A
  live_at p = slot p true

  -- the ids of the list's nodes with their slots, and those of the spare ones
  abbrev pub live_slot : Node ℕ T → ℕ × Slot T A
  live_slot n = (n.id, live_at n.at)

  abbrev pub spare_slot : Ptr × ℕ → ℕ × Slot T A
  spare_slot r = (r.1, slot r.0 false)

  abbrev pub slots_of : List (Node ℕ T) → List (Ptr × ℕ) → List (ℕ × Slot T A)
  slots_of ns rs = map live_slot ns ++ map spare_slot rs

  -- the slots are those of these ids
  pub record AreSlots (slots : Slab (Slot T A)) (es : List (ℕ × Slot T A)) : Type 0 where
    pub apart : AreApart es
    pub at : (id : ℕ) → get slots id ≡ lookup (nat_eq id) es

  -- the pointers are to the ends of the list, whose blocks came from this allocator
  abbrev pub AreEnds : A → Ends T A → Type 0
  AreEnds alloc e = (e.head.ptr ≡ e.list.head) × (e.tail.ptr ≡ e.list.tail) × (e.list.alloc ≡ alloc)

  -- the nodes of the list, from front to back
  abbrev pub nodes_of : Nodes T A → List (Node ℕ T)
  nodes_of ns = ns.ends.list.nodes

  -- where each spare node lies, and its id
  abbrev pub spares_of : Nodes T A → List (Ptr × ℕ)
  spares_of ns = spares ns.spare.first ns.spare.rest

  -- the ids from front to back, each with its element
  abbrev pub items_of : Nodes T A → List (ℕ × T)
  items_of ns = pairs (nodes_of ns)

  -- how many spare nodes there are
  abbrev pub room_of : Nodes T A → ℕ
  room_of ns = length ns.spare.rest

  -- slots, list and spare nodes agree, and every id is below the number of nodes
  pub record IsTied (ns : Nodes T A) : Type 0 where
    pub slots : AreSlots ns.slots (slots_of (nodes_of ns) (spares_of ns))
    pub ends : AreEnds ns.alloc ns.ends
    pub alloc : ns.spare.alloc ≡ ns.alloc
    pub len : ns.len ≡ length (nodes_of ns)
    pub total : slab_len ns.slots ≡ length (nodes_of ns) + length ns.spare.rest
    pub below : (id : ℕ) → ContainsKey ns.slots id → id < slab_len ns.slots

  -- what a contract sees of nodes
  abbrev pub shown : Nodes T A → Linked T
  shown ns = record { items = items_of ns; room = room_of ns }

  -- the same where there may be none yet
  abbrev pub shown_if : Option (Nodes T A) → Linked T
  shown_if None = record { items = []; room = 0 }
  shown_if (Some ns) = shown ns

  abbrev pub AreTied : Option (Nodes T A) → Type 0
  AreTied None = Unit {0}
  AreTied (Some ns) = IsTied ns

module _ {T : Type 0} where
  -- it is the id of the first node
  abbrev pub IsFirst : List (Node ℕ T) → ℕ → Type 0
  IsFirst ns id = (n : Node ℕ T) (rest : List (Node ℕ T)) → ns ≡ n ∷ rest → id ≡ n.id

  -- it is the id of the last node
  abbrev pub IsLast : List (Node ℕ T) → ℕ → Type 0
  IsLast ns id = (rest : List (Node ℕ T)) (n : Node ℕ T) → ns ≡ rest ++ n ∷ [] → id ≡ n.id

  -- the node with this id lies at p
  abbrev pub IsPlaced : List (Node ℕ T) → ℕ → Ptr → Type 0
  IsPlaced ns id p = (xs : List (Node ℕ T)) × (n : Node ℕ T) × (ys : List (Node ℕ T)) × (ns ≡ xs ++ n ∷ ys) × (n.id ≡ id) × (n.at ≡ p)

  -- a node follows that at p
  abbrev pub HasFollower : List (Node ℕ T) → Ptr → Type 0
  HasFollower ns p = (xs : List (Node ℕ T)) × (n : Node ℕ T) × (m : Node ℕ T) × (ys : List (Node ℕ T)) × (ns ≡ xs ++ n ∷ m ∷ ys) × (n.at ≡ p)

  -- it is the id of the one that does
  abbrev pub Follows : List (Node ℕ T) → Ptr → ℕ → Type 0
  Follows ns p id = (xs : List (Node ℕ T)) (n m : Node ℕ T) (ys : List (Node ℕ T)) → ns ≡ xs ++ n ∷ m ∷ ys → n.at ≡ p → id ≡ m.id
