-- Groups in lanes: what a vector's operations do to the counters of 32 groups, and how lanes count odd counters.
use Rattle.std.proofs.Common.{◌≡◌, ℕ, zero, suc, ◌+◌, ◌*◌, ◌/◌, ◌%◌, ◌^◌, ◌<◌, ◌≤◌, List, [], ◌∷◌, ◌++◌, length, get_or, map, replicate}
use Rattle.std.proofs.Common.{refl, sym, ◌∙◌, ap, arith, bit_and, cond, eqb, take, drop, sum, append_assoc, length-append}
use Rattle.std.proofs.lemmas.Nat.{and_mask}
use Rattle.std.proofs.lemmas.List.{length-map, map-append, length-take-le, take_at, drop_at, drop-drop, take_all}
use Rattle.std.proofs.lemmas.List.{drop_all, append-nil, length-drop}
use Rattle.std.proofs.lemmas.List.Sums.{sum_by-cons, sum_by-append, count_by-le-length}
use Rattle.std.proofs.Math.Seq.{take-add}
use Rattle.std.specs.Int.Bits.{and_zero_r}
use Rattle.std.specs.Simd.{first_chunks}
use borrow.Rule.Slice.PartMut.{put_mid}
use lib.Lanes.{Each1, zip2, put_chunk}
use Rattle.std.proofs.lemmas.Simd.{zip2_splat, map-map, put_chunk_is}
use Rattle.moka_common.specs.Cells.{digits, counters_of_group, counters_of, halved_group}
use Rattle.moka_common.specs.Sketch.{odd_count}
use Rattle.moka_common.proofs.CellLemmas.{low_bits, place_next, and_digit, low_bits_of_4, counters_of-append}
use Rattle.moka_common.proofs.CellLemmas.{counters_of-replicate, length-counters_of}

-- ---- groups that are aged up to a place

-- the groups up to a place halved, and the others as they were
abbrev pub aged_to : ℕ → List ℕ → List ℕ
aged_to i groups = map halved_group (take i groups) ++ drop i groups

pub drop-aged_to : (i : ℕ) (groups : List ℕ) → i ≤ length groups → drop i (aged_to i groups) ≡ drop i groups
drop-aged_to i groups h =
    drop_at (map halved_group (take i groups)) (drop i groups) i (length-map (take i groups) halved_group ∙ length-take-le i groups h)

pub take-aged_to : (i : ℕ) (groups : List ℕ) → i ≤ length groups → take i (aged_to i groups) ≡ map halved_group (take i groups)
take-aged_to i groups h =
    take_at (map halved_group (take i groups)) (drop i groups) i (length-map (take i groups) halved_group ∙ length-take-le i groups h)

-- so many groups more
pub aged_to_more : (i n : ℕ) (groups : List ℕ) → i + n ≤ length groups →
    take i (aged_to i groups) ++ (map halved_group (take n (drop i groups)) ++ drop n (drop i (aged_to i groups))) ≡ aged_to (i + n) groups
aged_to_more i n groups h =
    let front : take i (aged_to i groups) ≡ map halved_group (take i groups) = take-aged_to i groups (omega arith) in
    let back : drop i (aged_to i groups) ≡ drop i groups = drop-aged_to i groups (omega arith) in
    let rest : drop n (drop i groups) ≡ drop (i + n) groups = drop-drop n i groups in
    let whole : map halved_group (take (i + n) groups) ≡ map halved_group (take i groups) ++ map halved_group (take n (drop i groups)) =
    ap (map halved_group) (take-add i n groups) ∙ map-append halved_group (take i groups) (take n (drop i groups)) in
    rw (front, back, rest, whole)
    (sym (append_assoc (map halved_group (take i groups)) (map halved_group (take n (drop i groups))) (drop (i + n) groups)))

pub length-aged_to : (i : ℕ) (groups : List ℕ) → i ≤ length groups → length (aged_to i groups) ≡ length groups
length-aged_to i groups h =
    omega (
      arith,
      length-append (map halved_group (take i groups)) (drop i groups),
      length-map (take i groups) halved_group,
      length-take-le i groups h,
      length-drop i groups,
    )

-- at the end all groups are halved
pub aged_to_all : (i : ℕ) (groups : List ℕ) → length groups ≤ i → aged_to i groups ≡ map halved_group groups
aged_to_all i groups h =
    ap (λ xs. map halved_group (take i groups) ++ xs) (drop_all i groups h) ∙ append-nil (map halved_group (take i groups))
    ∙ ap (map halved_group) (take_all i groups h)

-- a vector is stored
pub aged_by_chunk : (i : ℕ) (groups : List ℕ) → i + 32 ≤ length groups →
    put_chunk i (aged_to i groups) (map halved_group (take 32 (drop i groups))) ≡ aged_to (i + 32) groups
aged_by_chunk i groups h =
    let ys : List ℕ = map halved_group (take 32 (drop i groups)) in
    let len : length ys ≡ 32 =
    length-map (take 32 (drop i groups)) halved_group ∙ length-take-le 32 (drop i groups) (omega (arith, length-drop i groups)) in
    let room : i + length ys ≤ length (aged_to i groups) = omega (arith, length-aged_to i groups (omega arith)) in
    put_chunk_is i (aged_to i groups) ys room
    ∙ ap (λ n. take i (aged_to i groups) ++ (ys ++ drop n (drop i (aged_to i groups)))) len
    ∙ aged_to_more i 32 groups h

-- a part of the slice is aged by a call
pub part_aged : (i n : ℕ) (old groups new : List ℕ) → i + n ≤ length old → groups ≡ aged_to i old →
    new ≡ map halved_group (take n (drop i groups)) → put_mid i n groups new ≡ aged_to (i + n) old
part_aged i n old groups new h so_far is =
    ap (put_mid i n groups) is
    ∙ ap (λ ws. put_mid i n ws (map halved_group (take n (drop i ws)))) so_far
    ∙ ap (λ ws. put_mid i n (aged_to i old) (map halved_group (take n ws))) (drop-aged_to i old (omega arith))
    ∙ aged_to_more i n old h

-- the last part
pub rest_aged : (i n : ℕ) (old groups new : List ℕ) → i + n ≡ length old → groups ≡ aged_to i old →
    new ≡ map halved_group (take n (drop i groups)) → put_mid i n groups new ≡ map halved_group old
rest_aged i n old groups new h so_far is =
    part_aged i n old groups new (omega arith) so_far is ∙ aged_to_all (i + n) old (omega arith)

-- ---- odd counters up to a place

-- no more counters are odd than there are
pub odd_count_le : (groups : List ℕ) → odd_count (counters_of groups) ≤ 4 * length groups
odd_count_le groups =
    let most : odd_count (counters_of groups) ≤ length (counters_of groups) = count_by-le-length (λ c. eqb (c % 2) 1) (counters_of groups) in
    omega (arith, most, length-counters_of groups)

-- so many groups more
pub odd_count_add : (i n : ℕ) (groups : List ℕ) →
    odd_count (counters_of (take (i + n) groups)) ≡ odd_count (counters_of (take i groups)) + odd_count (counters_of (take n (drop i groups)))
odd_count_add i n groups =
    ap (λ ws. odd_count (counters_of ws)) (take-add i n groups)
    ∙ ap odd_count (counters_of-append (take i groups) (take n (drop i groups)))
    ∙ sum_by-append (λ c. cond (eqb (c % 2) 1) 1 0) (counters_of (take i groups)) (counters_of (take n (drop i groups)))

-- a call counts a part of the slice
pub part_counted : (i n odd more : ℕ) (old groups : List ℕ) → i + n ≤ length old → groups ≡ aged_to i old →
    odd ≡ odd_count (counters_of (take i old)) → more ≡ odd_count (counters_of (take n (drop i groups))) →
    odd + more ≡ odd_count (counters_of (take (i + n) old))
part_counted i n odd more old groups h so_far counted is =
    let there : drop i groups ≡ drop i old = ap (drop i) so_far ∙ drop-aged_to i old (omega arith) in
    let here : more ≡ odd_count (counters_of (take n (drop i old))) = is ∙ ap (λ ws. odd_count (counters_of (take n ws))) there in
    omega (arith, counted, here, odd_count_add i n old)

-- the last part
pub rest_counted : (i n odd more : ℕ) (old groups : List ℕ) → i + n ≡ length old → groups ≡ aged_to i old →
    odd ≡ odd_count (counters_of (take i old)) → more ≡ odd_count (counters_of (take n (drop i groups))) →
    odd + more ≡ odd_count (counters_of old)
rest_counted i n odd more old groups h so_far counted is =
    part_counted i n odd more old groups (omega arith) so_far counted is
    ∙ ap (λ ws. odd_count (counters_of ws)) (take_all (i + n) old (omega arith))

-- a chunk of a slice
pub get_or-first_chunks : (n k i : ℕ) (groups : List ℕ) → i < k → get_or (first_chunks n k groups) i [] ≡ take n (drop (n * i) groups)
get_or-first_chunks n zero i groups h = absurd (omega arith)
get_or-first_chunks n (suc k) zero groups h = let none : n * 0 ≡ 0 = omega arith in rw none refl
get_or-first_chunks n (suc k) (suc i) groups h =
    get_or-first_chunks n k i (drop n groups) (omega arith) ∙ ap (take n) (drop-drop (n * i) n groups ∙ ap (λ at. drop at groups) (sym (next n i)))
  where
    next : (n i : ℕ) → n * suc i ≡ n + n * i
    next n i = omega arith

-- ---- small digits

-- each of the lowest k digits is at most so much, and there are no others
unfoldable pub Small : ℕ → ℕ → ℕ → Type 0
Small most zero n = n ≡ 0
Small most (suc k) n = (n % 16 ≤ most) × Small most k (n / 16)

pub Small-zero : (most k : ℕ) → Small most k 0
unfolding Small
Small-zero most zero = refl
Small-zero most (suc k) = (omega arith, Small-zero most k)

-- such a number has no more digits
pub Small-lt : (most k n : ℕ) → most ≤ 15 → Small most k n → n < 2 ^ (4 * k)
unfolding Small
Small-lt most zero n h small = let is : n ≡ 0 = small in omega arith
Small-lt most (suc k) n h small =
    let place : 2 ^ (4 * suc k) ≡ 16 * 2 ^ (4 * k) = place_next k in
    let above : n / 16 < 2 ^ (4 * k) = Small-lt most k (n / 16) h small.1 in
    let low : n % 16 ≤ most = small.0 in
    omega arith

-- no digit carries where two such numbers are added
pub Small-add : (most more k a b : ℕ) → most + more ≤ 15 → Small most k a → Small more k b → Small (most + more) k (a + b)
unfolding Small
Small-add most more zero a b h small_a small_b = let none : a ≡ 0 = small_a in let nor : b ≡ 0 = small_b in omega arith
Small-add most more (suc k) a b h small_a small_b =
    let low_a : a % 16 ≤ most = small_a.0 in
    let low_b : b % 16 ≤ more = small_b.0 in
    let high : (a + b) / 16 ≡ a / 16 + b / 16 = omega arith in (
      omega arith,
      rw high (Small-add most more k (a / 16) (b / 16) h small_a.1 small_b.1),
    )

pub sum-digits_add : (most more k a b : ℕ) → most + more ≤ 15 → Small most k a → Small more k b →
    sum (digits k (a + b)) ≡ sum (digits k a) + sum (digits k b)
unfolding Small digits
sum-digits_add most more zero a b h small_a small_b = refl
sum-digits_add most more (suc k) a b h small_a small_b =
    let low_a : a % 16 ≤ most = small_a.0 in
    let low_b : b % 16 ≤ more = small_b.0 in
    let low : (a + b) % 16 ≡ a % 16 + b % 16 = omega arith in
    let high : (a + b) / 16 ≡ a / 16 + b / 16 = omega arith in
    let rest : sum (digits k ((a + b) / 16)) ≡ sum (digits k (a / 16)) + sum (digits k (b / 16)) =
    rw high (sum-digits_add most more k (a / 16) (b / 16) h small_a.1 small_b.1) in
    let whole : sum ((a + b) % 16 ∷ digits k ((a + b) / 16)) ≡ (a + b) % 16 + sum (digits k ((a + b) / 16)) =
    sum_by-cons (λ x. x) ((a + b) % 16) (digits k ((a + b) / 16)) in
    let of_a : sum (a % 16 ∷ digits k (a / 16)) ≡ a % 16 + sum (digits k (a / 16)) = sum_by-cons (λ x. x) (a % 16) (digits k (a / 16)) in
    let of_b : sum (b % 16 ∷ digits k (b / 16)) ≡ b % 16 + sum (digits k (b / 16)) = sum_by-cons (λ x. x) (b % 16) (digits k (b / 16)) in
    omega arith

-- ---- the lowest bit of each digit

-- an odd digit's lowest bit is one
low_bit : (c : ℕ) → c % 2 ≡ cond (eqb (c % 2) 1) 1 0
low_bit c = parity (c % 2) (omega arith)
  where
    parity : (n : ℕ) → n < 2 → n ≡ cond (eqb n 1) 1 0
    parity zero h = refl
    parity (suc zero) h = refl
    parity (suc (suc n)) h = absurd (omega arith)

pub Small-low_bits : (k n : ℕ) → Small 1 k (bit_and n (low_bits k))
unfolding Small low_bits
Small-low_bits zero n = and_zero_r n
Small-low_bits (suc k) n =
    let step : bit_and n (low_bits k * 16 + 1) ≡ bit_and (n / 16) (low_bits k) * 16 + bit_and (n % 16) 1 =
    and_digit n 0 (low_bits k) 1 (omega arith) in
    let low : bit_and (n % 16) 1 ≡ n % 16 % 2 = and_mask (n % 16) 1 in
    let high : (bit_and (n / 16) (low_bits k) * 16 + bit_and (n % 16) 1) / 16 ≡ bit_and (n / 16) (low_bits k) = omega arith in
    rw step (omega arith, rw high (Small-low_bits k (n / 16)))

pub sum-low_bits : (k n : ℕ) → sum (digits k (bit_and n (low_bits k))) ≡ odd_count (digits k n)
unfolding digits low_bits
sum-low_bits zero n = refl
sum-low_bits (suc k) n =
    let step : bit_and n (low_bits k * 16 + 1) ≡ bit_and (n / 16) (low_bits k) * 16 + bit_and (n % 16) 1 =
    and_digit n 0 (low_bits k) 1 (omega arith) in
    let bit : bit_and (n % 16) 1 ≡ n % 16 % 2 = and_mask (n % 16) 1 in
    let low : (bit_and (n / 16) (low_bits k) * 16 + bit_and (n % 16) 1) % 16 ≡ n % 16 % 2 = omega arith in
    let high : (bit_and (n / 16) (low_bits k) * 16 + bit_and (n % 16) 1) / 16 ≡ bit_and (n / 16) (low_bits k) = omega arith in
    let rest : sum (digits k (bit_and (n / 16) (low_bits k))) ≡ odd_count (digits k (n / 16)) = sum-low_bits k (n / 16) in
    let odd : n % 16 % 2 ≡ cond (eqb (n % 16 % 2) 1) 1 0 = low_bit (n % 16) in
    let left : sum (n % 16 % 2 ∷ digits k (bit_and (n / 16) (low_bits k))) ≡ n % 16 % 2 + sum (digits k (bit_and (n / 16) (low_bits k))) =
    sum_by-cons (λ x. x) (n % 16 % 2) (digits k (bit_and (n / 16) (low_bits k))) in
    let whole : odd_count (n % 16 ∷ digits k (n / 16)) ≡ cond (eqb (n % 16 % 2) 1) 1 0 + odd_count (digits k (n / 16)) =
    sum_by-cons (λ c. cond (eqb (c % 2) 1) 1 0) (n % 16) (digits k (n / 16)) in
    rw (step, low, high) (omega arith)

-- ---- lanes that count odd counters

-- the odd counters of a group, each with a one in its place
abbrev pub low_group : ℕ → ℕ
low_group group = bit_and group 0x1111

-- the counters of lanes, each of which is at most so much
abbrev pub AreSmall : ℕ → List ℕ → Type 0
AreSmall most lanes = Each1 (Small most 4) lanes

low_group_small : (group : ℕ) → Small 1 4 (low_group group)
low_group_small group = rw (← low_bits_of_4) (Small-low_bits 4 group)

low_group_sum : (group : ℕ) → sum (digits 4 (low_group group)) ≡ odd_count (digits 4 group)
low_group_sum group = rw (← low_bits_of_4) (sum-low_bits 4 group)

-- what a vector makes of 32 groups
pub low_lanes : (groups : List ℕ) → length groups ≡ 32 → zip2 bit_and groups (replicate 32 0x1111) ≡ map low_group groups
low_lanes groups h = zip2_splat bit_and groups 32 0x1111 h

pub halved_lanes : (groups : List ℕ) → length groups ≡ 32 →
    zip2 bit_and (zip2 (λ a b. a / 2 ^ b) groups (replicate 32 1)) (replicate 32 0x7777) ≡ map halved_group groups
halved_lanes groups h =
    let shifted : zip2 (λ a b. a / 2 ^ b) groups (replicate 32 1) ≡ map (λ a. a / 2) groups = zip2_splat (λ a b. a / 2 ^ b) groups 32 1 h in
    let len : length (map (λ a. a / 2) groups) ≡ 32 = length-map groups (λ a. a / 2) ∙ h in
    ap (λ ws. zip2 bit_and ws (replicate 32 0x7777)) shifted
    ∙ zip2_splat bit_and (map (λ a. a / 2) groups) 32 0x7777 len
    ∙ map-map (λ a. bit_and a 0x7777) (λ a. a / 2) groups

-- a sum of lanes, as a vector makes it
abbrev pub added : ℕ → ℕ → ℕ
added a b = (a + b) % 2 ^ 16

pub added_small : (most a group : ℕ) → most < 15 → Small most 4 a → added a (low_group group) ≡ a + low_group group
added_small most a group h small =
    let fits : a + low_group group < 2 ^ 16 =
    Small-lt (most + 1) 4 (a + low_group group) (omega arith) (Small-add most 1 4 a (low_group group) (omega arith) small (low_group_small group)) in
    omega arith

pub AreSmall-zero : (n : ℕ) → AreSmall 0 (replicate n 0)
AreSmall-zero zero = tt
AreSmall-zero (suc n) = (Small-zero 0 4, AreSmall-zero n)

pub AreSmall-more : (most : ℕ) (lanes groups : List ℕ) → most < 15 → length lanes ≡ length groups → AreSmall most lanes →
    AreSmall (most + 1) (zip2 added lanes (map low_group groups))
AreSmall-more most [] groups h len small = tt
AreSmall-more most (lane ∷ lanes) [] h len small = absurd (omega arith)
AreSmall-more most (lane ∷ lanes) (group ∷ groups) h len small = (
  rw (added_small most lane group h small.0) (Small-add most 1 4 lane (low_group group) (omega arith) small.0 (low_group_small group)),
  AreSmall-more most lanes groups h (omega arith) small.1,
)

pub sum-counters_of_added : (most : ℕ) (lanes groups : List ℕ) → most < 15 → length lanes ≡ length groups → AreSmall most lanes →
    sum (counters_of (zip2 added lanes (map low_group groups))) ≡ sum (counters_of lanes) + odd_count (counters_of groups)
unfolding counters_of counters_of_group
sum-counters_of_added most [] [] h len small = refl
sum-counters_of_added most [] (group ∷ groups) h len small = absurd (omega arith)
sum-counters_of_added most (lane ∷ lanes) [] h len small = absurd (omega arith)
sum-counters_of_added most (lane ∷ lanes) (group ∷ groups) h len small =
    let first : sum (digits 4 (added lane (low_group group))) ≡ sum (digits 4 lane) + odd_count (digits 4 group) =
    ap (λ n. sum (digits 4 n)) (added_small most lane group h small.0)
    ∙ sum-digits_add most 1 4 lane (low_group group) (omega arith) small.0 (low_group_small group)
    ∙ ap (λ n. sum (digits 4 lane) + n) (low_group_sum group) in
    let rest : sum (counters_of (zip2 added lanes (map low_group groups))) ≡ sum (counters_of lanes) + odd_count (counters_of groups) =
    sum-counters_of_added most lanes groups h (omega arith) small.1 in
    let left : sum (digits 4 (added lane (low_group group)) ++ counters_of (zip2 added lanes (map low_group groups))) ≡ sum
    (digits 4 (added lane (low_group group))) + sum (counters_of (zip2 added lanes (map low_group groups))) =
    sum_by-append (λ x. x) (digits 4 (added lane (low_group group))) (counters_of (zip2 added lanes (map low_group groups))) in
    let right : sum (digits 4 lane ++ counters_of lanes) ≡ sum (digits 4 lane) + sum (counters_of lanes) =
    sum_by-append (λ x. x) (digits 4 lane) (counters_of lanes) in
    let odd : odd_count (digits 4 group ++ counters_of groups) ≡ odd_count (digits 4 group) + odd_count (counters_of groups) =
    sum_by-append (λ c. cond (eqb (c % 2) 1) 1 0) (digits 4 group) (counters_of groups) in
    omega arith

pub sum-counters_of_zero : sum (counters_of (replicate 32 0)) ≡ 0
sum-counters_of_zero = ap sum (counters_of-replicate 32)
