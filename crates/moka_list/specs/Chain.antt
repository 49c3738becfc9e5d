-- What a contract sees of a `Chain`.
use Rattle.std.specs.Prelude.{ℕ, nat_eq, if◌then◌else◌, List, [], ◌∷◌}
use Rattle.std.specs.Option.{option_map_or}
use Rattle.std.specs.Map.{lookup, remove_entry}

-- the nodes from front to back, each with its element; how many more surely fit; how many do with those that are there;
-- and a number that the ids of all nodes are below
pub record Chain (T : Type 0) : Type 0 where
  pub items : List (ℕ × T)
  pub room : ℕ
  pub capacity : ℕ
  pub ids : ℕ

module _ {T : Type 0} where
  -- the list with this node right before that of the id `next`, or at the back where there is none
  abbrev pub inserted : ℕ → ℕ × T → List (ℕ × T) → List (ℕ × T)
  inserted next node [] = node ∷ []
  inserted next node (e ∷ es) = if nat_eq next e.0 then node ∷ e ∷ es else e ∷ inserted next node es

  -- the list with this node taken out of its place and put right before `next`
  abbrev pub moved_before : ℕ → ℕ → List (ℕ × T) → List (ℕ × T)
  moved_before id next items = option_map_or
      (λ element. inserted next (id, element) (remove_entry (nat_eq id) items))
      (lookup (nat_eq id) items)
      items
