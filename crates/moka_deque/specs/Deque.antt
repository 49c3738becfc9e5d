-- What a contract sees of a `Deque`.
use Rattle.std.specs.Prelude.{ℕ, ◌+◌, nat_eq, if◌then◌else◌, List, [], ◌∷◌, Option, Some, None, is_some}
use Rattle.std.specs.Option.{option_map_or}
use Rattle.std.specs.Map.{lookup, remove_entry}
use Rattle.moka_list.specs.Nodes.{IsIn, first_id, moved_to_back, next_id}
use Rattle.moka_deque.specs.declared.deque.cursor.Cursor.{Cursor}
use Rattle.moka_deque.specs.declared.deque.cursor.Cursor.TheVariants.{Start, At, Done}
use Rattle.moka_deque.specs.declared.deque.CacheRegion.{CacheRegion}
use Rattle.moka_deque.specs.declared.deque.CacheRegion.TheVariants.{Window, MainProbation, MainProtected, Other}

-- the number of a region
abbrev pub number_of : CacheRegion → ℕ
number_of Window = 0
number_of MainProbation = 1
number_of MainProtected = 2
number_of Other = 3

-- the nodes from front to back, each with its element; where the cursor is; how many more nodes
-- surely fit; and what the list is for
pub record Deque (T : Type 0) : Type 0 where
  pub items : List (ℕ × T)
  pub cursor : Cursor
  pub room : ℕ
  pub region : CacheRegion

module _ {T : Type 0} where
  -- a cursor that is at a node is at one of the list
  abbrev pub CursorIsIn : List (ℕ × T) → Cursor → Type 0
  CursorIsIn items Start = Unit {0}
  CursorIsIn items (At id) = IsIn items id
  CursorIsIn items Done = Unit {0}

-- the cursor at this node, or past the back where there is none
abbrev pub cursor_at : Option ℕ → Cursor
cursor_at None = Done
cursor_at (Some id) = At id

module _ {T : Type 0} where
  -- the cursor as a step finds it: from the start it goes to the front first
  abbrev pub entered : List (ℕ × T) → Cursor → Cursor
  entered items (At id) = At id
  entered items Done = Done
  entered [] Start = Start
  entered (e ∷ es) Start = At e.0

  -- the cursor one place further
  abbrev pub advanced : List (ℕ × T) → Cursor → Cursor
  advanced items Start = Start
  advanced items (At id) = cursor_at (next_id id items)
  advanced items Done = Start

  -- the element at the cursor
  abbrev pub element_under : List (ℕ × T) → Cursor → Option T
  element_under items Start = None
  element_under items (At id) = lookup (nat_eq id) items
  element_under items Done = None

  -- the cursor when the node leaves its place: it advances if it is there
  abbrev pub passed : ℕ → List (ℕ × T) → Cursor → Cursor
  passed id items Start = Start
  passed id items (At at) = if nat_eq id at then advanced items (At at) else At at
  passed id items Done = Done

  -- the element that a step lends
  abbrev pub lent_by_step : Deque T → Option T
  lent_by_step d = element_under d.items (entered d.items d.cursor)

  -- the list after a step
  abbrev pub stepped : Deque T → Deque T
  stepped d = record d { cursor = advanced d.items (entered d.items d.cursor) }

  -- the list without the node, and with room for one more
  abbrev pub after_unlink : ℕ → Deque T → Deque T
  after_unlink id d = record d {
    items = remove_entry (nat_eq id) d.items;
    cursor = passed id d.items d.cursor;
    room = d.room + 1;
  }

  -- the list without its first node, if it has one
  abbrev pub after_pop_front : Deque T → Deque T
  after_pop_front d = option_map_or (λ id. after_unlink id d) (first_id d.items) d

  -- the list with the node at the back; a cursor at it stays only if it was there already
  abbrev pub after_move_to_back : ℕ → Deque T → Deque T
  after_move_to_back id d = record d {
    items = moved_to_back id d.items;
    cursor = if is_some (next_id id d.items) then passed id d.items d.cursor else d.cursor;
  }

  -- the list with its first node, if it has one, at the back
  abbrev pub after_move_front_to_back : Deque T → Deque T
  after_move_front_to_back d = option_map_or (λ id. after_move_to_back id d) (first_id d.items) d
