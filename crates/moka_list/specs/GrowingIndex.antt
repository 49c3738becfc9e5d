-- What a contract sees of a `GrowingIndex`.
use Rattle.std.specs.Prelude.{◌≡◌, ℕ, Bool, true, false, nat_eq, nat_le, filter, List, ◌++◌}
use Rattle.std.specs.List.{list_any}
use Rattle.moka_list.specs.HashIndex.{HashIndex, candidates as table_candidates}

-- the two tables; the number below which ids can be added; and how many ids of the smaller table are to be moved, and the first of them. What the smaller
-- table still has of those before it doesn't count
pub record GrowingIndex : Type 0 where
  pub table : HashIndex
  pub smaller : HashIndex
  pub ids : ℕ
  pub left : ℕ
  pub next : ℕ

-- the ids that may have this hash
abbrev pub candidates : GrowingIndex → ℕ → List ℕ
candidates index hash = table_candidates index.table hash ++ filter (nat_le index.next) (table_candidates index.smaller hash)

-- the id may have this hash
abbrev pub is_candidate : GrowingIndex → ℕ → ℕ → Bool
is_candidate index hash id = list_any (nat_eq id) (candidates index hash)

-- all ids but this one are candidates of what they were candidates of
abbrev pub KeepsOthers : GrowingIndex → ℕ → GrowingIndex → Type 0
KeepsOthers old id new = (hash other : ℕ) → nat_eq id other ≡ false → is_candidate new hash other ≡ is_candidate old hash other

-- the id is a candidate of its hash, and perhaps of others, and all else is as it was
pub record Adds (old : GrowingIndex) (id hash : ℕ) (new : GrowingIndex) : Type 0 where
  pub under : is_candidate new hash id ≡ true
  pub others : KeepsOthers old id new
  pub ids : new.ids ≡ old.ids

-- the id is a candidate of no hash, and all else is as it was
pub record Removes (old : GrowingIndex) (id : ℕ) (new : GrowingIndex) : Type 0 where
  pub gone : (hash : ℕ) → is_candidate new hash id ≡ false
  pub others : KeepsOthers old id new
  pub ids : new.ids ≡ old.ids

-- all ids are candidates of what they were candidates of
abbrev pub KeepsAll : GrowingIndex → GrowingIndex → Type 0
KeepsAll old new = (hash id : ℕ) → is_candidate new hash id ≡ is_candidate old hash id
