-- How a chain is laid out: elements in a slab, and links apart from them. No public clause cites this module.
use Rattle.std.specs.Prelude.{◌≡◌, ℕ, zero, suc, ◌<◌, ◌≤◌, nat_eq, nat_le, if◌then◌else◌, List, [], ◌∷◌, length, Option, Some, None, IsSome}
use Rattle.std.specs.Map.{lookup}
use Rattle.slab.specs.Slab.{Slab, get, slab_len}
use Rattle.moka_list.specs.declared.chain.links.LinkTable.{LinkTable}
use Rattle.moka_list.specs.declared.chain.links.TheConstants.{NONE}
use Rattle.moka_list.specs.Links.{IsNumbered, next_at, prev_at, reserved}
use Rattle.moka_list.specs.Nodes.{AreApart, follower, preceder}

module _ {T : Type 0} where
  -- a node with those that follow it, if there is one
  abbrev pub before_rest : ℕ → List (ℕ × T) → Option T → List (ℕ × T)
  before_rest id rest None = []
  before_rest id rest (Some element) = (id, element) ∷ rest

module _ {T A : Type 0} (slots : Slab T) (links : LinkTable A) where
  -- the nodes that follow from this one on, at most so many
  abbrev pub walk : ℕ → ℕ → List (ℕ × T)
  walk zero id = []
  walk (suc left) id = before_rest id (walk left (next_at links id)) (get slots id)

  -- the nodes from the first on
  abbrev pub items_of : List (ℕ × T)
  items_of = walk (slab_len slots) links.first

  -- how many fit: as many as the slab holds, where there is memory for the links of all these, and else none
  abbrev pub capacity_of : ℕ
  capacity_of = if nat_le slots.capacity (reserved links) then slots.capacity else 0

-- each node has its links
abbrev pub AreLinked : {T A : Type 0} → Slab T → LinkTable A → Type 0
AreLinked slots links = ((id : ℕ) → IsSome (get slots id) → id < length links.links.items) × IsNumbered links

-- the nodes are those of the list, linked in its order
pub record IsThreaded {T : Type 0} (element : ℕ → Option T) (following preceding : ℕ → ℕ) (es : List (ℕ × T)) : Type 0 where
  pub elements : (id : ℕ) → element id ≡ lookup (nat_eq id) es
  pub next : (id : ℕ) → following id ≡ follower NONE NONE es id
  pub prev : (id : ℕ) → preceding id ≡ preceder NONE NONE es id
  pub apart : AreApart es
  pub end : lookup (nat_eq NONE) es ≡ None

-- and each of them has its links
pub record IsChained {T A : Type 0} (slots : Slab T) (links : LinkTable A) (es : List (ℕ × T)) : Type 0 where
  pub threaded : IsThreaded (get slots) (next_at links) (prev_at links) es
  pub linked : (id : ℕ) → IsSome (get slots id) → id < length links.links.items
  pub numbered : IsNumbered links
  pub len : slab_len slots ≡ length es
  pub fits : slab_len slots ≤ slots.capacity
