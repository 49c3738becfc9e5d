-- How the ids of a growing index lie in its two tables. No public clause cites this module.
use Rattle.std.specs.Prelude.{◌≡◌, ◌⊎◌, ℕ, ◌+◌, ◌-◌, ◌<◌, ◌≤◌, Bool, true, false, nat_le, nat_lt, ◌&&◌}
use Rattle.moka_list.specs.HashIndex.{HashIndex, is_candidate}

-- whether the smaller table has an id, if it still has those from one on below a number
abbrev pub is_smaller : ℕ → ℕ → ℕ → Bool
is_smaller next ids id = nat_le next id && nat_lt id ids

-- no id of the larger table is one that is left in the smaller one; and there is a smaller one only while some are left
pub record IsMoving (table smaller : HashIndex) (next : ℕ) : Type 0 where
  pub fits : smaller.ids ≤ table.ids
  pub begun : (next < smaller.ids) ⊎ (smaller.ids ≡ 0) × (next ≡ 0)
  pub moved : (hash id : ℕ) → is_candidate table hash id ≡ true → is_smaller next smaller.ids id ≡ false
  pub below : (hash id : ℕ) → is_candidate smaller hash id ≡ true → id < smaller.ids

-- the next id of the smaller table has been passed: those from the id after it on are left, candidates of what they were candidates of
pub record Passes (old : HashIndex) (next after : ℕ) (new : HashIndex) : Type 0 where
  pub kept : (hash id : ℕ) → (nat_le after id && is_candidate new hash id) ≡ (nat_le (next + 1) id && is_candidate old hash id)
  pub fits : new.ids ≤ old.ids
  pub below : (hash id : ℕ) → is_candidate new hash id ≡ true → id < new.ids
  pub begun : (after < new.ids) ⊎ (new.ids ≡ 0) × (after ≡ 0)
  pub left : new.ids - after + 1 ≡ old.ids - next
  pub places : (id : ℕ) → is_smaller after new.ids id ≡ is_smaller (next + 1) old.ids id
