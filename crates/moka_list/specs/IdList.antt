-- What a contract sees of an `IdList`.
use Rattle.std.specs.Prelude.{ℕ, Bool, not, nat_eq, filter, List, [], ◌∷◌, Option, Some, None}
use Rattle.std.specs.List.{list_any}

-- the ids from front to back, and a number below which ids can be listed with no allocation
pub record IdList : Type 0 where
  pub ids : List ℕ
  pub capacity : ℕ

-- the id is one of these
abbrev pub is_listed : List ℕ → ℕ → Bool
is_listed ids id = list_any (nat_eq id) ids

-- the first id
abbrev pub first_of : List ℕ → Option ℕ
first_of [] = None
first_of (id ∷ ids) = Some id

-- the other ids
abbrev pub ids_without : ℕ → List ℕ → List ℕ
ids_without id ids = filter (λ i. not (nat_eq id i)) ids
