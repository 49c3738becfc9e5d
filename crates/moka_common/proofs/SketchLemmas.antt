-- The table of counters, by `Sketch.antt`.
use Rattle.std.proofs.Common.{◌≢◌, zero, length, length-take-le, List, [], ◌∷◌, Bool, false, ◌||◌, nat_lt, fold, All, take, map, get_or}
use Rattle.std.proofs.Common.{slice_index, ◌≡◌, ℕ, suc, ◌+◌, ◌-◌, ◌*◌, ◌/◌, ◌%◌, ◌^◌, ◌<◌, ◌≤◌, max, min, bit_and, sym, refl, ap, ◌∙◌}
use Rattle.std.proofs.Common.{arith, inl, inr, lit≤}
use Rattle.std.proofs.Math.Nat.{pow-suc, pow-le-pow_right}
use Rattle.std.proofs.lemmas.Nat.{and_mask, leading_length, mod_below, mul-mod_first, pow_pos}
use Rattle.std.proofs.lemmas.Bool.{cases_lt, cases_order}
use Rattle.std.proofs.lemmas.List.{get_or-map, get_or-set_other, get_or-take, get_or_default}
use Rattle.std.proofs.lemmas.List.Sums.{fold_more}
use Rattle.std.proofs.lemmas.List.Folds.{list_any_more}
use Rattle.std.proofs.lemmas.List.Elements.{All-head, All-tail}
use Rattle.std.specs.List.{list_any}
use Rattle.std.specs.Int.{IsNextPowerOfTwo, IsPowerOfTwo, leading_zeros, w32}
use Rattle.moka_common.specs.Sketch.{cell, estimate_in, grown_at, grows_in, incremented_counters, index_of, seeds, position_of, positions}
use Rattle.moka_common.specs.SketchCapacity.{next_power_of_two}

-- ---- places

-- below a power of two a mask is a remainder
pub and_below_power : (x n : ℕ) → IsPowerOfTwo n → bit_and x (n - 1) ≡ x % n
and_below_power x n p = rw (p.1) (and_mask x p.0)

-- what the code computes for a place
pub place_is : (len hash depth : ℕ) → IsPowerOfTwo len →
    bit_and (((hash + slice_index seeds depth) % 2 ^ 64 * slice_index seeds depth % 2 ^ 64 + (hash + slice_index seeds depth) % 2 ^
    64 * slice_index seeds depth % 2 ^ 64 / 2 ^ 32) % 2 ^ 64) (len - 1) ≡ index_of len hash depth
place_is len hash depth p =
    let seed : ℕ = slice_index seeds depth in
    let same : (hash + seed) % 2 ^ 64 * seed % 2 ^ 64 ≡ (hash + seed) * seed % 2 ^ 64 = mul-mod_first (hash + seed) seed (2 ^ 64) in
    and_below_power _ len p ∙ ap (λ x. (x + x / 2 ^ 32) % 2 ^ 64 % len) same

-- a power of two is not zero
pub power_pos : (n : ℕ) → IsPowerOfTwo n → 0 < n
power_pos n p = let some : 0 < 2 ^ p.0 = pow_pos p.0 in rw (p.1) some

-- a place is within the table
pub index_below : (len hash depth : ℕ) → IsPowerOfTwo len → index_of len hash depth < len
index_below len hash depth p = mod_below _ len (power_pos len p)

-- ---- lengths

-- a greater power of two is at least twice as much
double : (k m : ℕ) → k < m → 2 * 2 ^ k ≤ 2 ^ m
double k m h = let step : 2 ^ suc k ≡ 2 ^ k * 2 = pow-suc 2 k in let up : 2 ^ suc k ≤ 2 ^ m = pow-le-pow_right (lit≤ tt) h in omega arith

-- two powers of two from n to below twice n are one
same_power : (k m n : ℕ) → n ≤ 2 ^ k → 2 ^ k / 2 < max 1 n → n - 1 < 2 ^ m → 2 ^ m ≤ 2 * (n - 1) + 1 → 2 ^ k ≡ 2 ^ m
same_power k m n above half over near =
    let first : 0 < 2 ^ k = pow_pos k in
    let second : 0 < 2 ^ m = pow_pos m in
    elim (cases_order k m) [
      | inl same ↦ ap (λ e. 2 ^ e) same
      | inr (inl less) ↦ (let up : 2 * 2 ^ k ≤ 2 ^ m = double k m less in absurd (omega arith))
      | inr (inr more) ↦ (let up : 2 * 2 ^ m ≤ 2 ^ k = double m k more in absurd (omega arith))
    ]

-- such a power is the one with as many bits as the number before n
with_bits : (n p m : ℕ) → leading_zeros w32 (n - 1) + m ≡ 32 → IsPowerOfTwo p → n ≤ p → p / 2 < max 1 n → n - 1 < 2 ^ m →
    2 ^ m ≤ 2 * (n - 1) + 1 → p ≡ next_power_of_two n
with_bits n p m bits power above half over near =
    let digits : 32 - leading_zeros w32 (n - 1) ≡ m = omega arith in
    let here : n ≤ 2 ^ power.0 = rw (← power.1) above in
    let halved : 2 ^ power.0 / 2 < max 1 n = rw (← power.1) half in
    rw digits (power.1 ∙ same_power power.0 m n here halved over near)

-- the least power of two that is at least n is one only
pub next_power_is : (n p : ℕ) → n < 2 ^ 32 → IsPowerOfTwo p → n ≤ p → p / 2 < max 1 n → p ≡ next_power_of_two n
next_power_is n p small power above half =
    let fits : n - 1 < 2 ^ 32 = omega arith in
    let bits : _ = leading_length 32 (n - 1) fits in
    with_bits n p bits.0 bits.1 power above half bits.2 bits.3

-- and that one is such a power
next_by_bits : (n m : ℕ) → leading_zeros w32 (n - 1) + m ≡ 32 → n - 1 < 2 ^ m → 2 ^ m ≤ 2 * (n - 1) + 1 →
    (n ≤ next_power_of_two n) × (next_power_of_two n / 2 < max 1 n)
next_by_bits n m bits over near =
    let digits : 32 - leading_zeros w32 (n - 1) ≡ m = omega arith in
    let power : next_power_of_two n ≡ 2 ^ m = ap (λ e. 2 ^ e) digits in
    let some : 0 < 2 ^ m = pow_pos m in
    let above : n ≤ 2 ^ m = omega arith in
    let half : 2 ^ m / 2 < max 1 n = omega arith in
    (rw power above, rw power half)

-- it is one
pub next_power_of_two_is : (n : ℕ) → n < 2 ^ 32 → IsNextPowerOfTwo n (next_power_of_two n)
next_power_of_two_is n small =
    let fits : n - 1 < 2 ^ 32 = omega arith in
    let bits : _ = leading_length 32 (n - 1) fits in
    let both : (n ≤ next_power_of_two n) × (next_power_of_two n / 2 < max 1 n) = next_by_bits n bits.0 bits.1 bits.2 bits.3 in
    ((32 - leading_zeros w32 (n - 1), refl), both.0, both.1)

-- and no power that is at least n is less
pub next_power_within : (n k : ℕ) → n < 2 ^ 32 → n ≤ 2 ^ k → next_power_of_two n ≤ 2 ^ k
next_power_within n k small h =
    let half : next_power_of_two n / 2 < max 1 n = (next_power_of_two_is n small).2 in
    let m : ℕ = 32 - leading_zeros w32 (n - 1) in
    let some : 0 < 2 ^ k = pow_pos k in
    elim (cases_lt k m) [
      | inl less ↦ (let up : 2 * 2 ^ k ≤ next_power_of_two n = double k m less in absurd (omega arith))
      | inr more ↦ pow-le-pow_right (lit≤ tt) more
    ]

-- ---- the cells of a hash, depth by depth

-- the position at a depth
pub get_or-positions : (places hash depth : ℕ) → depth < 4 → get_or (positions places hash) depth 0 ≡ position_of (cell places hash depth)
get_or-positions places hash zero h = refl
get_or-positions places hash (suc zero) h = refl
get_or-positions places hash (suc (suc zero)) h = refl
get_or-positions places hash (suc (suc (suc zero))) h = refl
get_or-positions places hash (suc (suc (suc (suc depth)))) h = absurd (omega arith)

-- where a cell's counter stands, from its group and its depth
pub cell_at : (places hash depth group : ℕ) → group ≡ 4 * index_of places hash depth + hash % 4 →
    4 * group + depth ≡ position_of (cell places hash depth)
cell_at places hash depth group is = omega (arith, is)

-- the least counter of the first depths
unfoldable pub estimate_to : ℕ → List ℕ → ℕ → ℕ → ℕ
estimate_to places counters hash depth = fold min 15 (take depth (map (slice_index counters) (positions places hash)))

-- the counters once the first depths have grown
unfoldable pub incremented_to : ℕ → List ℕ → ℕ → ℕ → List ℕ
incremented_to places counters hash depth = fold grown_at counters (take depth (positions places hash))

-- whether one of the first depths is below the most
unfoldable pub grows_to : ℕ → List ℕ → ℕ → ℕ → Bool
grows_to places counters hash depth = list_any (λ at. nat_lt (slice_index counters at) 15) (take depth (positions places hash))

-- at first it is the most
pub estimate_to_none : (places : ℕ) (counters : List ℕ) (hash : ℕ) → estimate_to places counters hash 0 ≡ 15
unfolding estimate_to
estimate_to_none places counters hash = refl

-- at last it is the estimate
pub estimate_to_all : (places : ℕ) (counters : List ℕ) (hash depth : ℕ) → depth ≡ 4 →
    estimate_to places counters hash depth ≡ estimate_in places counters hash
unfolding estimate_to
estimate_to_all places counters hash depth e = rw e refl

-- one depth more
pub estimate_to_more : (places : ℕ) (counters : List ℕ) (hash depth : ℕ) → depth < 4 →
    estimate_to places counters hash (depth + 1) ≡ min (estimate_to places counters hash depth)
    (get_or counters (position_of (cell places hash depth)) 0)
unfolding estimate_to
estimate_to_more places counters hash depth h =
    let at : ℕ = position_of (cell places hash depth) in
    let here : get_or (positions places hash) depth 0 ≡ at = get_or-positions places hash depth h in
    fold_more min 15 (map (slice_index counters) (positions places hash)) depth 0 h
    ∙ ap (min (estimate_to places counters hash depth)) (get_or-map (slice_index counters) (positions places hash) depth 0 0 h
    ∙ ap (slice_index counters) here)

-- at first nothing has grown
pub incremented_to_none : (places : ℕ) (counters : List ℕ) (hash : ℕ) → incremented_to places counters hash 0 ≡ counters
unfolding incremented_to
incremented_to_none places counters hash = refl

-- at last all have
pub incremented_to_all : (places : ℕ) (counters : List ℕ) (hash depth : ℕ) → depth ≡ 4 →
    incremented_to places counters hash depth ≡ incremented_counters places counters hash
unfolding incremented_to
incremented_to_all places counters hash depth e = rw e refl

-- one depth more
pub incremented_to_more : (places : ℕ) (counters : List ℕ) (hash depth : ℕ) → depth < 4 →
    incremented_to places counters hash (depth + 1) ≡ grown_at (incremented_to places counters hash depth)
    (position_of (cell places hash depth))
unfolding incremented_to
incremented_to_more places counters hash depth h =
    let at : ℕ = position_of (cell places hash depth) in
    let here : get_or (positions places hash) depth 0 ≡ at = get_or-positions places hash depth h in
    fold_more grown_at counters (positions places hash) depth 0 h ∙ ap (grown_at (incremented_to places counters hash depth)) here

-- at first none is
pub grows_to_none : (places : ℕ) (counters : List ℕ) (hash : ℕ) → grows_to places counters hash 0 ≡ false
unfolding grows_to
grows_to_none places counters hash = refl

-- at last it is the answer for all
pub grows_to_all : (places : ℕ) (counters : List ℕ) (hash depth : ℕ) → depth ≡ 4 →
    grows_to places counters hash depth ≡ grows_in places counters hash
unfolding grows_to
grows_to_all places counters hash depth e = rw e refl

-- the counters at other positions stay
grown_elsewhere : (counters ats : List ℕ) (at : ℕ) → All (λ a. at ≢ a) ats → get_or (fold grown_at counters ats) at 0 ≡ get_or counters at 0
grown_elsewhere counters [] at apart = refl
grown_elsewhere counters (a ∷ ats) at apart =
    grown_elsewhere (grown_at counters a) ats at (All-tail (λ a. at ≢ a) a ats apart)
    ∙ get_or-set_other counters a at _ 0 (All-head (λ a. at ≢ a) a ats apart)

-- two cells of a hash have two counters
cells_apart : (x y r i j : ℕ) → r < 4 → i < 4 → j < 4 → i ≢ j → 16 * x + (4 * r + i) ≢ 16 * y + (4 * r + j)
cells_apart x y r i j hr hi hj ne e = absurd (omega arith)

-- a depth has another position than the earlier ones
pub positions_apart : (places hash depth : ℕ) → depth < 4 →
    All (λ a. 16 * index_of places hash depth + (4 * (hash % 4) + depth) ≢ a) (take depth (positions places hash))
positions_apart places hash depth h = λ k d below e.
    let len : length (take depth (positions places hash)) ≡ depth = length-take-le depth (positions places hash) (omega arith) in
    let before : k < depth = omega arith in
    let within : k < 4 = omega arith in
    let other : k ≢ depth = omega arith in
    let at : get_or (take depth (positions places hash)) k d ≡ 16 * index_of places hash k + (4 * (hash % 4) + k) =
    get_or-take depth (positions places hash) k d before ∙ get_or_default (positions places hash) k d 0 within
    ∙ get_or-positions places hash k within in
    cells_apart (index_of places hash depth) (index_of places hash k) (hash % 4) depth k (omega arith) h within (λ same. other (sym same))
    (e ∙ at)

-- one depth more, where the earlier ones have grown already
pub grows_to_more : (places : ℕ) (counters : List ℕ) (hash depth : ℕ) → depth < 4 →
    grows_to places counters hash
    (depth + 1) ≡ (grows_to places counters hash depth || nat_lt
    (get_or (incremented_to places counters hash depth) (position_of (cell places hash depth)) 0) 15)
unfolding grows_to incremented_to
grows_to_more places counters hash depth h =
    let at : ℕ = position_of (cell places hash depth) in
    let here : get_or (positions places hash) depth 0 ≡ at = get_or-positions places hash depth h in
    let same : get_or (fold grown_at counters (take depth (positions places hash))) at 0 ≡ get_or counters at 0 =
    grown_elsewhere counters (take depth (positions places hash)) at (positions_apart places hash depth h) in
    list_any_more (λ a. nat_lt (slice_index counters a) 15) (positions places hash) depth 0 h
    ∙ ap (λ a. grows_to places counters hash depth || nat_lt (get_or counters a 0) 15) here
    ∙ ap (λ v. grows_to places counters hash depth || nat_lt v 15) (sym same)
