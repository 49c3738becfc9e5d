-- What a contract sees of an `IndexedList`.
use Rattle.std.specs.Prelude.{◌≡◌, ℕ, Bool, true, false, nat_eq, List, Some}
use Rattle.std.specs.Map.{lookup}

-- the nodes from front to back, each with its element; how many more surely fit with no allocation; and a number that the ids of all nodes are below
pub record IndexedList (T : Type 0) : Type 0 where
  pub items : List (ℕ × T)
  pub room : ℕ
  pub ids : ℕ

module _ {T : Type 0} (test : T → Bool → Type 0) where
  -- the node's element passes the test
  pub record Passes (items : List (ℕ × T)) (id : ℕ) : Type 0 where
    pub element : T
    pub stands : lookup (nat_eq id) items ≡ Some element
    pub passed : test element true

  -- each element of this hash fails the test
  abbrev pub NonePasses : (T → ℕ) → ℕ → List (ℕ × T) → Type 0
  NonePasses hash_of hash items =
      (id : ℕ) (element : T) → lookup (nat_eq id) items ≡ Some element → hash_of element ≡ hash → test element false
