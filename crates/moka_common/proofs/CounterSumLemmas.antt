-- The sum of all counters of 32 groups, as lanes add up neighbours: the two counters of each byte, then the two bytes of each group, then all groups.
use Rattle.std.proofs.Common.{◌≡◌, ℕ, ◌+◌, ◌*◌, ◌/◌, ◌%◌, ◌^◌, ◌<◌, ◌≤◌, List, [], ◌∷◌, ◌++◌, length, map, replicate}
use Rattle.std.proofs.Common.{sym, ◌∙◌, ap, arith, bit_and, sum}
use Rattle.std.proofs.lemmas.Nat.{and_block, and_mask}
use Rattle.std.proofs.lemmas.List.{length-map, map-id}
use Rattle.std.proofs.lemmas.List.Sums.{sum_by-cons, sum_by-append, sum_by-le}
use Rattle.std.proofs.lemmas.Simd.{zip2_splat, zip2_of_maps, map-map}
use lib.Lanes.{zip2, fold_l}
use Rattle.moka_common.specs.Cells.{digits, counters_of_group, counters_of}
use Rattle.moka_common.proofs.CellLemmas.{All-counters_of_group, length-counters_of_group}
use Rattle.moka_common.proofs.LaneLemmas.{added}

-- ---- a group

-- the lower counters of two bytes
and_lower : (n : ℕ) → bit_and n 0x0f0f ≡ n / 256 % 16 * 256 + n % 16
and_lower n =
    let split : n ≡ n / 256 * 256 + n % 256 = omega arith in
    let apart : bit_and (n / 256 * 256 + n % 256) (15 * 256 + 15) ≡ bit_and (n / 256) 15 * 256 + bit_and (n % 256) 15 =
    and_block 8 (n / 256) 15 (n % 256) 15 (omega arith) (omega arith) in
    let high : bit_and (n / 256) 15 ≡ n / 256 % 16 = and_mask (n / 256) 4 in
    let low : bit_and (n % 256) 15 ≡ n % 256 % 16 = and_mask (n % 256) 4 in
    ap (λ m. bit_and m (15 * 256 + 15)) split ∙ apart ∙ omega (arith, high, low)

-- what lanes make of a group's counters: the sums of its bytes
abbrev pub byte_sums : ℕ → ℕ
byte_sums group = added (bit_and group 0x0f0f) (bit_and (group / 16) 0x0f0f)

-- and the sum of all
abbrev pub group_sum : ℕ → ℕ
group_sum group = added (bit_and (byte_sums group) 0x00ff) (bit_and (byte_sums group / 256) 0x00ff)

-- the sum of four
sum_of_four : (a b c d : ℕ) → sum (a ∷ b ∷ c ∷ d ∷ []) ≡ a + b + c + d
sum_of_four a b c d =
    let first : sum (a ∷ b ∷ c ∷ d ∷ []) ≡ a + sum (b ∷ c ∷ d ∷ []) = sum_by-cons (λ x. x) a (b ∷ c ∷ d ∷ []) in
    let second : sum (b ∷ c ∷ d ∷ []) ≡ b + sum (c ∷ d ∷ []) = sum_by-cons (λ x. x) b (c ∷ d ∷ []) in
    let third : sum (c ∷ d ∷ []) ≡ c + sum (d ∷ []) = sum_by-cons (λ x. x) c (d ∷ []) in
    let fourth : sum (d ∷ []) ≡ d + 0 = sum_by-cons (λ x. x) d [] in
    omega arith

-- it is that of the counters
group_sum_is : (group : ℕ) → group_sum group ≡ sum (counters_of_group group)
unfolding counters_of_group digits
group_sum_is group =
    let low : bit_and group 0x0f0f ≡ group / 256 % 16 * 256 + group % 16 = and_lower group in
    let high : bit_and (group / 16) 0x0f0f ≡ group / 16 / 256 % 16 * 256 + group / 16 % 16 = and_lower (group / 16) in
    let bytes : byte_sums group ≡ (group / 256 % 16 + group / 16 / 256 % 16) * 256 + (group % 16 + group / 16 % 16) = omega arith in
    let first : bit_and (byte_sums group) 0x00ff ≡ byte_sums group % 256 = and_mask (byte_sums group) 8 in
    let second : bit_and (byte_sums group / 256) 0x00ff ≡ byte_sums group / 256 % 256 = and_mask (byte_sums group / 256) 8 in
    let four : sum (digits 4 group) ≡ group % 16 + group / 16 % 16 + group / 16 / 16 % 16 + group / 16 / 16 / 16 % 16 =
    sum_of_four (group % 16) (group / 16 % 16) (group / 16 / 16 % 16) (group / 16 / 16 / 16 % 16) in
    omega arith

-- ---- all lanes

-- a sum of lanes that doesn't wrap is that of all counters
fold_added : (a : ℕ) (groups : List ℕ) → a + 60 * length groups < 2 ^ 16 →
    fold_l added a (map group_sum groups) ≡ a + sum (counters_of groups)
unfolding counters_of
fold_added a [] h = omega arith
fold_added a (group ∷ groups) h =
    let first : group_sum group ≡ sum (counters_of_group group) = group_sum_is group in
    let most : sum (counters_of_group group) ≤ length (counters_of_group group) * 15 =
    sum_by-le (λ x. x) 15 (counters_of_group group) (All-counters_of_group group) in
    let len : length (counters_of_group group) ≡ 4 = length-counters_of_group group in
    let exact : added a (group_sum group) ≡ a + sum (counters_of_group group) = omega arith in
    let whole : sum (counters_of_group group ++ counters_of groups) ≡ sum (counters_of_group group) + sum (counters_of groups) =
    sum_by-append (λ x. x) (counters_of_group group) (counters_of groups) in
    let rest : fold_l added (a + sum (counters_of_group group)) (map group_sum groups) ≡ a + sum (counters_of_group group) + sum (counters_of groups) =
    fold_added (a + sum (counters_of_group group)) groups (omega arith) in
    ap (λ n. fold_l added n (map group_sum groups)) exact ∙ rest ∙ omega arith

pub sum_of_group_sums : (groups : List ℕ) → length groups ≡ 32 → fold_l added 0 (map group_sum groups) ≡ sum (counters_of groups)
sum_of_group_sums groups h = fold_added 0 groups (omega arith) ∙ omega arith

-- ---- vectors

-- each lane of a vector, and the same number
splat_of_map : (f : ℕ → ℕ → ℕ) (g : ℕ → ℕ) (groups xs : List ℕ) (n : ℕ) → length groups ≡ 32 → xs ≡ map g groups →
    zip2 f xs (replicate 32 n) ≡ map (λ w. f (g w) n) groups
splat_of_map f g groups xs n h is =
    ap (λ ys. zip2 f ys (replicate 32 n)) is
    ∙ zip2_splat f (map g groups) 32 n (length-map groups g ∙ h) ∙ map-map (λ x. f x n) g groups

-- neighbours of some bits, which are added up under a mask
abbrev pub neighbours : ℕ → ℕ → List ℕ → List ℕ
neighbours bits mask groups =
    zip2 added (zip2 bit_and groups (replicate 32 mask)) (zip2 bit_and (zip2 (λ a b. a / 2 ^ b) groups (replicate 32 bits)) (replicate 32 mask))

neighbours_of_map : (bits mask : ℕ) (g : ℕ → ℕ) (groups xs : List ℕ) → length groups ≡ 32 → xs ≡ map g groups →
    neighbours bits mask xs ≡ map (λ w. added (bit_and (g w) mask) (bit_and (g w / 2 ^ bits) mask)) groups
neighbours_of_map bits mask g groups xs h is =
    zip2_of_maps added (λ w. bit_and (g w) mask) (λ w. bit_and (g w / 2 ^ bits) mask) groups (splat_of_map bit_and g groups xs mask h is)
    (splat_of_map bit_and (λ w. g w / 2 ^ bits) groups _ mask h (splat_of_map (λ a b. a / 2 ^ b) g groups xs bits h is))

pub group_sums_of_lanes : (groups : List ℕ) → length groups ≡ 32 → neighbours 8 0x00ff (neighbours 4 0x0f0f groups) ≡ map group_sum groups
group_sums_of_lanes groups h =
    neighbours_of_map 8 0x00ff byte_sums groups (neighbours 4 0x0f0f groups) h
    (neighbours_of_map 4 0x0f0f (λ w. w) groups groups h (sym (map-id groups)))
