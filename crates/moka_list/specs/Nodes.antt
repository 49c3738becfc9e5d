-- Lists of nodes with their elements: what stands where, and what a move to the back leaves.
use Rattle.std.specs.Prelude.{◌≡◌, ℕ, nat_eq, if◌then◌else◌, List, [], ◌∷◌, ◌++◌, Option, Some, None, IsSome}
use Rattle.std.specs.Option.{option_map_or}
use Rattle.std.specs.Map.{lookup, remove_entry}

module _ {T : Type 0} where
  -- the node is in the list
  abbrev pub IsIn : List (ℕ × T) → ℕ → Type 0
  IsIn items id = IsSome (lookup (nat_eq id) items)

  -- the node at the front
  abbrev pub first_id : List (ℕ × T) → Option ℕ
  first_id [] = None
  first_id (e ∷ es) = Some e.0

  -- the node after this one
  abbrev pub next_id : ℕ → List (ℕ × T) → Option ℕ
  next_id id [] = None
  next_id id (e ∷ es) = if nat_eq id e.0 then first_id es else next_id id es

  -- the list with this node at the back
  abbrev pub moved_to_back : ℕ → List (ℕ × T) → List (ℕ × T)
  moved_to_back id items = option_map_or
      (λ element. remove_entry (nat_eq id) items ++ (id, element) ∷ [])
      (lookup (nat_eq id) items)
      items

  -- the nodes from this one on, if there is one
  abbrev pub items_from : Option ℕ → List (ℕ × T) → List (ℕ × T)
  items_from None items = []
  items_from (Some id) [] = []
  items_from (Some id) (e ∷ es) = if nat_eq id e.0 then e ∷ es else items_from (Some id) es

module _ {T : Type 0} where
  -- no node comes twice
  abbrev pub AreApart : List (ℕ × T) → Type 0
  AreApart [] = Unit {0}
  AreApart (e ∷ es) = (lookup (nat_eq e.0) es ≡ None) × AreApart es

module _ {T : Type 0} (none : ℕ) where
  -- what comes after a node, where the list follows the node p and `none` follows the list
  abbrev pub follower : ℕ → List (ℕ × T) → ℕ → ℕ
  follower p [] id = none
  follower p (e ∷ es) id = if nat_eq p id then e.0 else follower e.0 es id

  -- what comes before a node, or before `none`
  abbrev pub preceder : ℕ → List (ℕ × T) → ℕ → ℕ
  preceder p [] id = if nat_eq none id then p else none
  preceder p (e ∷ es) id = if nat_eq id e.0 then p else preceder e.0 es id
