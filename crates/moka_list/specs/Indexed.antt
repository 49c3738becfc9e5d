-- How an index goes with a list of nodes. No public clause cites this module.
use Rattle.std.specs.Prelude.{◌≡◌, ◌<◌, ◌+◌, ℕ, true, nat_eq, nat_le, if◌then◌else◌, List, Some, IsSome}
use Rattle.std.specs.Map.{lookup}
use Rattle.moka_list.specs.GrowingIndex.{GrowingIndex, is_candidate}

-- each node is a candidate of its element's hash, there is no other candidate, and the index has room for each id
pub record IsIndexed {T : Type 0} (hash_of : T → ℕ) (nodes : List (ℕ × T)) (index : GrowingIndex) : Type 0 where
  pub listed : (id : ℕ) (e : T) → lookup (nat_eq id) nodes ≡ Some e → is_candidate index (hash_of e) id ≡ true
  pub standing : (hash id : ℕ) → is_candidate index hash id ≡ true → IsSome (lookup (nat_eq id) nodes)
  pub below : (id : ℕ) → IsSome (lookup (nat_eq id) nodes) → id < index.ids

-- how many more elements fit in a list of this length that has this room, beside an index for ids below this number
abbrev pub room_beside : ℕ → ℕ → ℕ → ℕ
room_beside length room ids = if nat_le (length + room) ids then room else 0
