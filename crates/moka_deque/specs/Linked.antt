-- What a contract sees of a `Linked`. No public clause cites this module.
use Rattle.std.specs.Prelude.{◌≡◌, ℕ, ◌+◌, ◌-◌, ◌<◌, nat_eq, List, [], ◌∷◌, ◌++◌, length, Option, Some, None, slice_get}
use Rattle.std.specs.Map.{lookup, remove_entry, values_of}
use Rattle.moka_list.specs.Nodes.{IsIn}
use Rattle.moka_list.specs.Nodes.{AreApart}

-- the nodes from front to back, each with its element, and how many more surely fit
pub record Linked (T : Type 0) : Type 0 where
  pub items : List (ℕ × T)
  pub room : ℕ

module _ {T : Type 0} where
  -- this is the last node, or `None` where there is none
  abbrev pub EndsWith : List (ℕ × T) → Option ℕ → Type 0
  EndsWith items None = items ≡ []
  EndsWith items (Some id) = IsIn items id
      × (lookup (nat_eq id) items ≡ slice_get (values_of items) (length items - 1))

  -- a new node with this element is at the back, in room that was there, and its id is below the capacity
  pub record Pushes (old new : Linked T) (id : ℕ) (element : T) : Type 0 where
    pub items : new.items ≡ old.items ++ (id, element) ∷ []
    pub new_id : lookup (nat_eq id) old.items ≡ None
    pub room : old.room ≡ new.room + 1
    pub below : id < length new.items + new.room

  -- the node, which had this element, is out, one more fits, and none came twice
  pub record Unlinks (old new : Linked T) (id : ℕ) (element : T) : Type 0 where
    pub items : new.items ≡ remove_entry (nat_eq id) old.items
    pub value : lookup (nat_eq id) old.items ≡ Some element
    pub room : new.room ≡ old.room + 1
    pub apart : AreApart old.items
