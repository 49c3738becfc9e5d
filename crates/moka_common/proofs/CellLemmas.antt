-- Words of sixteen counters, by `Cells.antt`: reading one, adding one, halving all, counting the odd ones.
use Rattle.std.proofs.Common.{◌≡◌, ℕ, zero, suc, ◌+◌, ◌-◌, ◌*◌, ◌/◌, ◌%◌, ◌^◌, ◌<◌, ◌≤◌, List, [], ◌∷◌, ◌++◌, length, get_or, set, map}
use Rattle.std.proofs.Common.{replicate, refl, sym, ◌∙◌, ap, arith, bit_and, count_ones, cond, eqb, length-append, All, append_assoc, take}
use Rattle.std.proofs.Common.{min, length-take, drop, nat_lt, inl, inr}
use Rattle.std.proofs.lemmas.Bool.{cases_lt}
use Rattle.std.proofs.lemmas.Bool.Decides.{nat_tests}
use Rattle.std.proofs.lemmas.Nat.{shr-shr, pow-add, and_block, and_mask, one_shl, ones_cat}
use Rattle.std.proofs.lemmas.List.{length-map, append-nil, take_more, length-take-le, get_or-append_right, get_or-drop, set-get_or}
use Rattle.std.proofs.lemmas.List.{get_or_append_left, get_or-append-add, set-append_left, set-append_right, map-append}
use Rattle.std.proofs.lemmas.List.{replicate-append-replicate}
use Rattle.std.proofs.lemmas.List.Sums.{count_by-le-length, sum_by-cons, sum_by-append}
use Rattle.std.proofs.lemmas.List.Elements.{All-cons, All-append}
use Rattle.std.specs.Int.{from_bool}
use Rattle.std.specs.Int.Bits.{and_zero_r}
use lib.Count.{ones, ones_in}
use Rattle.moka_common.specs.Cells.{digits, counters_of_group, counters_of, halved_group}
use Rattle.moka_common.specs.Sketch.{grown_at, odd_count}

-- ---- the digits of a group

pub length-digits : (k n : ℕ) → length (digits k n) ≡ k
unfolding digits
length-digits zero n = refl
length-digits (suc k) n = ap suc (length-digits k (n / 16))

-- a digit is what a shift and a mask read
pub get_or-digits : (k j n : ℕ) → j < k → get_or (digits k n) j 0 ≡ n / 2 ^ (4 * j) % 16
unfolding digits
get_or-digits zero j n h = absurd (omega arith)
get_or-digits (suc k) zero n h = ap (λ m. m % 16) (omega arith)
get_or-digits (suc k) (suc j) n h =
    let next : 4 * suc j ≡ 4 + 4 * j = omega arith in
    let below : j < k = omega arith in
    rw next (get_or-digits k j (n / 16) below ∙ ap (λ m. m % 16) (shr-shr n 4 (4 * j)))

-- two lists of equal parts
pub cons_same : (a b : ℕ) (xs ys : List ℕ) → a ≡ b → xs ≡ ys → a ∷ xs ≡ b ∷ ys
cons_same a b xs ys e f = cc

-- a digit further on stands for sixteen times as much
pub place_next : (j : ℕ) → 2 ^ (4 * suc j) ≡ 16 * 2 ^ (4 * j)
place_next j = let next : 4 * suc j ≡ 4 + 4 * j = omega arith in rw next (pow-add 2 4 (4 * j))

-- the digits above are those of the number without its lowest
digit_next : (n j : ℕ) → n / 2 ^ (4 * suc j) ≡ n / 16 / 2 ^ (4 * j)
digit_next n j = let next : 4 * suc j ≡ 4 + 4 * j = omega arith in rw next (sym (shr-shr n 4 (4 * j)))

-- one more in a digit that has room changes no other
pub set-digits : (k j n : ℕ) → j < k → n / 2 ^ (4 * j) % 16 < 15 →
    set (digits k n) j (n / 2 ^ (4 * j) % 16 + 1) ≡ digits k (n + 2 ^ (4 * j))
unfolding digits
set-digits zero j n h room = absurd (omega arith)
set-digits (suc k) zero n h room =
    cons_same _ _ _ _ (omega arith) (let same : n / 16 ≡ (n + 1) / 16 = omega arith in ap (digits k) same)
set-digits (suc k) (suc j) n h room =
    let below : j < k = omega arith in
    let place : 2 ^ (4 * suc j) ≡ 16 * 2 ^ (4 * j) = place_next j in
    let digit : n / 2 ^ (4 * suc j) ≡ n / 16 / 2 ^ (4 * j) = digit_next n j in
    let there : n / 16 / 2 ^ (4 * j) % 16 < 15 = rw (← digit) room in
    let rest : set (digits k (n / 16)) j (n / 16 / 2 ^ (4 * j) % 16 + 1) ≡ digits k (n / 16 + 2 ^ (4 * j)) =
    set-digits k j (n / 16) below there in
    let up : (n + 2 ^ (4 * suc j)) / 16 ≡ n / 16 + 2 ^ (4 * j) = omega arith in
    let low : n % 16 ≡ (n + 2 ^ (4 * suc j)) % 16 = omega arith in
    cons_same _ _ _ _ low (rw (digit, up) rest)

-- and the group stays within its digits
pub digit_room : (k j n : ℕ) → j < k → n < 2 ^ (4 * k) → n / 2 ^ (4 * j) % 16 < 15 → n + 2 ^ (4 * j) < 2 ^ (4 * k)
digit_room zero j n h fits room = absurd (omega arith)
digit_room (suc k) zero n h fits room = let place : 2 ^ (4 * suc k) ≡ 16 * 2 ^ (4 * k) = place_next k in omega arith
digit_room (suc k) (suc j) n h fits room =
    let below : j < k = omega arith in
    let place : 2 ^ (4 * suc j) ≡ 16 * 2 ^ (4 * j) = place_next j in
    let top : 2 ^ (4 * suc k) ≡ 16 * 2 ^ (4 * k) = place_next k in
    let digit : n / 2 ^ (4 * suc j) ≡ n / 16 / 2 ^ (4 * j) = digit_next n j in
    let there : n / 16 / 2 ^ (4 * j) % 16 < 15 = rw (← digit) room in
    let high : n / 16 < 2 ^ (4 * k) = omega arith in
    let rest : n / 16 + 2 ^ (4 * j) < 2 ^ (4 * k) = digit_room k j (n / 16) below high there in
    omega arith

-- nothing is left to show of no digits
All-nil : All (λ c. c ≤ 15) []
All-nil = λ i d h. absurd (omega arith)

-- no digit is above fifteen
pub All-digits : (k n : ℕ) → All (λ c. c ≤ 15) (digits k n)
unfolding digits
All-digits zero n = All-nil
All-digits (suc k) n = All-cons (λ c. c ≤ 15) (n % 16) (digits k (n / 16)) (omega arith) (All-digits k (n / 16))

-- zero has no digit but zeros
pub digits-zero : (k : ℕ) → digits k 0 ≡ replicate k 0
unfolding digits
digits-zero zero = refl
digits-zero (suc k) = cons_same _ _ _ _ refl (digits-zero k)

-- ---- halving

-- the low three bits of each of k digits
pub three_bits : ℕ → ℕ
three_bits zero = 0
three_bits (suc k) = three_bits k * 16 + 7

-- a mask works on the lowest digit and on the others apart
pub and_digit : (m a : ℕ) (mask low : ℕ) → low < 16 → bit_and m (mask * 16 + low) ≡ bit_and (m / 16) mask * 16 + bit_and (m % 16) low
and_digit m a mask low small =
    let split : m ≡ m / 16 * 16 + m % 16 = omega arith in
    let lhs : bit_and m (mask * 16 + low) ≡ bit_and (m / 16 * 16 + m % 16) (mask * 16 + low) =
    ap (λ x. bit_and x (mask * 16 + low)) split in
    lhs ∙ and_block 4 (m / 16) mask (m % 16) low (omega arith) small

-- a shift by one, without the bits that come from the next digit, halves each digit
pub digits-halved : (k n : ℕ) → digits k (bit_and (n / 2) (three_bits k)) ≡ map (λ c. c / 2) (digits k n)
unfolding digits three_bits
digits-halved zero n = refl
digits-halved (suc k) n =
    let step : bit_and (n / 2) (three_bits k * 16 + 7) ≡ bit_and (n / 2 / 16) (three_bits k) * 16 + bit_and (n / 2 % 16) 7 =
    and_digit (n / 2) 0 (three_bits k) 7 (omega arith) in
    let low : bit_and (n / 2 % 16) 7 ≡ n / 2 % 16 % 8 = and_mask (n / 2 % 16) 3 in
    let turned : n / 2 / 16 ≡ n / 16 / 2 = omega arith in
    let rest : digits k (bit_and (n / 2 / 16) (three_bits k)) ≡ map (λ c. c / 2) (digits k (n / 16)) =
    rw turned (digits-halved k (n / 16)) in
    rw step (cons_same _ _ _ _ (rw low (omega arith))
    (let high : (bit_and (n / 2 / 16) (three_bits k) * 16 + bit_and (n / 2 % 16) 7) / 16 ≡ bit_and (n / 2 / 16) (three_bits k) = rw low
    (omega arith) in rw high rest))

-- ---- counting odd digits

-- the lowest bit of each of k digits
unfoldable pub low_bits : ℕ → ℕ
low_bits zero = 0
low_bits (suc k) = low_bits k * 16 + 1

-- one bit is counted where it is set
ones_bit : (n : ℕ) → n < 2 → count_ones n ≡ cond (eqb n 1) 1 0
unfolding ones ones_in
ones_bit zero h = refl
ones_bit (suc zero) h = refl
ones_bit (suc (suc n)) h = absurd (omega arith)

pub ones-digits : (k n : ℕ) → count_ones (bit_and n (low_bits k)) ≡ odd_count (digits k n)
unfolding digits low_bits ones ones_in
ones-digits zero n = ap count_ones (and_zero_r n)
ones-digits (suc k) n =
    let step : bit_and n (low_bits k * 16 + 1) ≡ bit_and (n / 16) (low_bits k) * 16 + bit_and (n % 16) 1 =
    and_digit n 0 (low_bits k) 1 (omega arith) in
    let low : bit_and (n % 16) 1 ≡ n % 16 % 2 = and_mask (n % 16) 1 in
    let apart : count_ones (bit_and (n / 16) (low_bits k) * 16 + bit_and (n % 16) 1) ≡ count_ones
    (bit_and (n / 16) (low_bits k)) + count_ones (bit_and (n % 16) 1) =
    ones_cat 4 (bit_and (n / 16) (low_bits k)) (bit_and (n % 16) 1) (rw low (omega arith)) in
    let bit : count_ones (bit_and (n % 16) 1) ≡ cond (eqb (n % 16 % 2) 1) 1 0 = rw low (ones_bit (n % 16 % 2) (omega arith)) in
    let rest : count_ones (bit_and (n / 16) (low_bits k)) ≡ odd_count (digits k (n / 16)) = ones-digits k (n / 16) in
    let whole : odd_count (n % 16 ∷ digits k (n / 16)) ≡ cond (eqb (n % 16 % 2) 1) 1 0 + odd_count (digits k (n / 16)) =
    sum_by-cons (λ c. cond (eqb (c % 2) 1) 1 0) (n % 16) (digits k (n / 16)) in
    ap count_ones step ∙ omega (arith, apart, bit, rest, whole)

-- ---- the counters of a list of groups

pub length-counters_of_group : (group : ℕ) → length (counters_of_group group) ≡ 4
unfolding counters_of_group
length-counters_of_group group = length-digits 4 group

pub length-counters_of : (groups : List ℕ) → length (counters_of groups) ≡ 4 * length groups
unfolding counters_of
length-counters_of [] = refl
length-counters_of (group ∷ groups) =
    omega (arith, length-append (counters_of_group group) (counters_of groups), length-counters_of_group group, length-counters_of groups)

pub counters_of-append : (xs ys : List ℕ) → counters_of (xs ++ ys) ≡ counters_of xs ++ counters_of ys
unfolding counters_of
counters_of-append [] ys = refl
counters_of-append (group ∷ groups) ys =
    ap (λ cs. counters_of_group group ++ cs) (counters_of-append groups ys)
    ∙ sym (append_assoc (counters_of_group group) (counters_of groups) (counters_of ys))

-- a counter of a group, among all counters
pub get_or-counters_of : (groups : List ℕ) (p j : ℕ) → p < length groups → j < 4 →
    get_or (counters_of groups) (4 * p + j) 0 ≡ get_or (counters_of_group (get_or groups p 0)) j 0
unfolding counters_of
get_or-counters_of [] p j h below = absurd (omega arith)
get_or-counters_of (group ∷ groups) zero j h below =
    let at : 4 * 0 + j ≡ j = omega arith in
    let len : length (counters_of_group group) ≡ 4 = length-counters_of_group group in
    rw at (get_or_append_left (counters_of_group group) (counters_of groups) 0 j (omega arith))
get_or-counters_of (group ∷ groups) (suc p) j h below =
    let len : length (counters_of_group group) ≡ 4 = length-counters_of_group group in
    let at : 4 * suc p + j ≡ length (counters_of_group group) + (4 * p + j) = omega arith in
    rw at (get_or-append-add (counters_of_group group) (counters_of groups) (4 * p + j) 0 ∙ get_or-counters_of groups p j (omega arith) below)

-- a group that changes in one counter changes that one among all
pub set-counters_of : (groups : List ℕ) (p j new value : ℕ) → p < length groups → j < 4 →
    counters_of_group new ≡ set (counters_of_group (get_or groups p 0)) j value →
    counters_of (set groups p new) ≡ set (counters_of groups) (4 * p + j) value
unfolding counters_of
set-counters_of [] p j new value h below same = absurd (omega arith)
set-counters_of (group ∷ groups) zero j new value h below same =
    let at : 4 * 0 + j ≡ j = omega arith in
    let len : length (counters_of_group group) ≡ 4 = length-counters_of_group group in
    rw at (ap (λ cs. cs ++ counters_of groups) same
    ∙ sym (set-append_left (counters_of_group group) (counters_of groups) j value (omega arith)))
set-counters_of (group ∷ groups) (suc p) j new value h below same =
    let len : length (counters_of_group group) ≡ 4 = length-counters_of_group group in
    let from : 4 * suc p + j - 4 ≡ 4 * p + j = omega arith in
    let moved : set (counters_of_group group ++ counters_of groups) (4 * suc p + j) value ≡ counters_of_group group ++ set (counters_of groups)
    (4 * suc p + j - 4) value =
    set-append_right (counters_of_group group) (counters_of groups) 4 (4 * suc p + j) value len (omega arith) in
    ap (λ cs. counters_of_group group ++ cs) (set-counters_of groups p j new value (omega arith) below same
    ∙ ap (λ at. set (counters_of groups) at value) (sym from))
    ∙ sym moved

-- no counter is above the most
pub All-counters_of_group : (group : ℕ) → All (λ c. c ≤ 15) (counters_of_group group)
unfolding counters_of_group
All-counters_of_group group = All-digits 4 group

pub All-counters_of : (groups : List ℕ) → All (λ c. c ≤ 15) (counters_of groups)
unfolding counters_of
All-counters_of [] = All-nil
All-counters_of (group ∷ groups) =
    All-append (λ c. c ≤ 15) (counters_of_group group) (counters_of groups) (All-counters_of_group group) (All-counters_of groups)

pub counters_of-replicate : (n : ℕ) → counters_of (replicate n 0) ≡ replicate (4 * n) 0
unfolding counters_of counters_of_group
counters_of-replicate zero = refl
counters_of-replicate (suc n) =
    let more : 4 * suc n ≡ 4 + 4 * n = omega arith in
    rw more (ap (λ cs. cs ++ counters_of (replicate n 0)) (digits-zero 4) ∙ ap (λ cs. replicate 4 0 ++ cs) (counters_of-replicate n)
    ∙ replicate-append-replicate 4 (4 * n) 0)

-- ---- one counter of a table

-- a shift and a mask read one of a group
pub counter_read : (group j : ℕ) → j < 4 → bit_and (group / 2 ^ (4 * j)) 15 ≡ get_or (counters_of_group group) j 0
unfolding counters_of_group
counter_read group j below = and_mask (group / 2 ^ (4 * j)) 4 ∙ sym (get_or-digits 4 j group below)

-- nor is one of a group
counter_small : (group j : ℕ) → j < 4 → get_or (counters_of_group group) j 0 ≤ 15
unfolding counters_of_group
counter_small group j h = let is : get_or (digits 4 group) j 0 ≡ group / 2 ^ (4 * j) % 16 = get_or-digits 4 j group h in omega arith

-- a counter at the most stays
counter_full : (groups : List ℕ) (p j : ℕ) → p < length groups → j < 4 → get_or (counters_of_group (get_or groups p 0)) j 0 ≡ 15 →
    counters_of groups ≡ grown_at (counters_of groups) (4 * p + j)
counter_full groups p j h below full =
    let is : get_or (counters_of groups) (4 * p + j) 0 ≡ 15 = get_or-counters_of groups p j h below ∙ full in
    let value : min (get_or (counters_of groups) (4 * p + j) 0 + 1) 15 ≡ get_or (counters_of groups) (4 * p + j) 0 = omega arith in
    rw value (sym (set-get_or (counters_of groups) (4 * p + j) 0))

-- another has one more
counter_grown : (groups : List ℕ) (p j : ℕ) → p < length groups → j < 4 → get_or (counters_of_group (get_or groups p 0)) j 0 < 15 →
    counters_of (set groups p (get_or groups p 0 + 2 ^ (4 * j))) ≡ grown_at (counters_of groups) (4 * p + j)
unfolding counters_of_group
counter_grown groups p j h below room =
    let is : get_or (counters_of groups) (4 * p + j) 0 ≡ get_or (digits 4 (get_or groups p 0)) j 0 = get_or-counters_of groups p j h below in
    let digit : get_or (digits 4 (get_or groups p 0)) j 0 ≡ get_or groups p 0 / 2 ^ (4 * j) % 16 =
    get_or-digits 4 j (get_or groups p 0) below in
    let value : min (get_or (counters_of groups) (4 * p + j) 0 + 1) 15 ≡ get_or groups p 0 / 2 ^ (4 * j) % 16 + 1 = omega arith in
    let group : set (digits 4 (get_or groups p 0)) j (get_or groups p 0 / 2 ^ (4 * j) % 16 + 1) ≡ digits 4 (get_or groups p 0 + 2 ^ (4 * j)) =
    set-digits 4 j (get_or groups p 0) below (omega arith) in
    rw value (set-counters_of groups p j (get_or groups p 0 + 2 ^ (4 * j)) (get_or groups p 0 / 2 ^ (4 * j) % 16 + 1) h below (sym group))

-- and its group has room for it
counter_room : (group j : ℕ) → j < 4 → group < 2 ^ 16 → get_or (counters_of_group group) j 0 < 15 → group + 2 ^ (4 * j) < 2 ^ 16
unfolding counters_of_group
counter_room group j below fits room =
    let digit : get_or (digits 4 group) j 0 ≡ group / 2 ^ (4 * j) % 16 = get_or-digits 4 j group below in
    digit_room 4 j group below fits (omega arith)

-- a counter below the most is raised by one, another by nothing, as the code adds it to the group
pub raised : (groups : List ℕ) (p j n : ℕ) → p < length groups → j < 4 →
    n ≡ from_bool (nat_lt (get_or (counters_of_group (get_or groups p 0)) j 0) 15) →
    counters_of (set groups p (get_or groups p 0 + n * 2 ^ (4 * j) % 2 ^ 16)) ≡ grown_at (counters_of groups) (4 * p + j)
raised groups p j n h below is =
    elim (cases_lt (get_or (counters_of_group (get_or groups p 0)) j 0) 15) [
      | inl room ↦
          (let one : n ≡ 1 = is ∙ grind (arith, nat_tests) in
          let added : n * 2 ^ (4 * j) % 2 ^ 16 ≡ 2 ^ (4 * j) =
          ap (λ m. m * 2 ^ (4 * j) % 2 ^ 16) one ∙ one_shl (4 * j) 16 (omega arith) in
          rw added (counter_grown groups p j h below room))
      | inr full ↦
          (let none : n ≡ 0 = is ∙ grind (arith, nat_tests) in
          let small : get_or (counters_of_group (get_or groups p 0)) j 0 ≤ 15 = counter_small (get_or groups p 0) j below in
          let same : get_or groups p 0 + n * 2 ^ (4 * j) % 2 ^ 16 ≡ get_or groups p 0 = rw none (omega arith) in
          rw same (ap counters_of (set-get_or groups p 0) ∙ counter_full groups p j h below (omega arith)))
    ]

-- and its group has room for that
pub raised_room : (group j n : ℕ) → j < 4 → group < 2 ^ 16 → n ≡ from_bool (nat_lt (get_or (counters_of_group group) j 0) 15) →
    group + n * 2 ^ (4 * j) % 2 ^ 16 < 2 ^ 16
raised_room group j n below fits is =
    elim (cases_lt (get_or (counters_of_group group) j 0) 15) [
      | inl room ↦
          (let one : n ≡ 1 = is ∙ grind (arith, nat_tests) in
          let added : n * 2 ^ (4 * j) % 2 ^ 16 ≡ 2 ^ (4 * j) =
          ap (λ m. m * 2 ^ (4 * j) % 2 ^ 16) one ∙ one_shl (4 * j) 16 (omega arith) in
          rw added (counter_room group j below fits room))
      | inr full ↦
          (let none : n ≡ 0 = is ∙ grind (arith, nat_tests) in
          rw none (omega arith))
    ]

-- ---- halving and counting a table

-- the mask of the code is that of four digits
three_bits_of_4 : three_bits 4 ≡ 0x7777
unfolding three_bits
three_bits_of_4 = refl

-- and so is the other
pub low_bits_of_4 : low_bits 4 ≡ 0x1111
unfolding low_bits
low_bits_of_4 = refl

pub counters_of_group-halved : (group : ℕ) → counters_of_group (halved_group group) ≡ map (λ c. c / 2) (counters_of_group group)
unfolding counters_of_group
counters_of_group-halved group = rw (← three_bits_of_4) (digits-halved 4 group)

pub counters_of-halved : (groups : List ℕ) → counters_of (map halved_group groups) ≡ map (λ c. c / 2) (counters_of groups)
unfolding counters_of
counters_of-halved [] = refl
counters_of-halved (group ∷ groups) =
    ap (λ cs. cs ++ counters_of (map halved_group groups)) (counters_of_group-halved group)
    ∙ ap (λ cs. map (λ c. c / 2) (counters_of_group group) ++ cs) (counters_of-halved groups)
    ∙ sym (map-append (λ c. c / 2) (counters_of_group group) (counters_of groups))

pub ones-counters_of_group : (group : ℕ) → count_ones (bit_and group 0x1111) ≡ odd_count (counters_of_group group)
unfolding counters_of_group
ones-counters_of_group group = rw (← low_bits_of_4) (ones-digits 4 group)

-- one group more
pub odd_count_more : (groups : List ℕ) (i : ℕ) → i < length groups →
    odd_count (counters_of (take (i + 1) groups)) ≡ odd_count (counters_of (take i groups)) + count_ones
    (bit_and (get_or groups i 0) 0x1111)
unfolding counters_of
odd_count_more groups i h =
    let group : ℕ = get_or groups i 0 in
    let more : take (i + 1) groups ≡ take i groups ++ group ∷ [] = take_more groups i 0 h in
    let split : counters_of (take (i + 1) groups) ≡ counters_of (take i groups) ++ counters_of_group group =
    ap counters_of more ∙ counters_of-append (take i groups) (group ∷ [])
    ∙ ap (λ cs. counters_of (take i groups) ++ cs) (append-nil (counters_of_group group)) in
    ap odd_count split
    ∙ sum_by-append (λ c. cond (eqb (c % 2) 1) 1 0) (counters_of (take i groups)) (counters_of_group group)
    ∙ ap (λ n. odd_count (counters_of (take i groups)) + n) (sym (ones-counters_of_group group))

-- a group that is not halved yet
pub group_ahead : (groups : List ℕ) (i : ℕ) → i < length groups →
    get_or (map halved_group (take i groups) ++ drop i groups) i 0 ≡ get_or groups i 0
group_ahead groups i h =
    let front : length (map halved_group (take i groups)) ≡ i =
    length-map (take i groups) halved_group ∙ length-take-le i groups (omega arith) in
    let none : i + (i - i) ≡ i = omega arith in
    get_or-append_right (map halved_group (take i groups)) (drop i groups) i i 0 front (omega arith)
    ∙ get_or-drop i groups (i - i) 0 ∙ ap (λ at. get_or groups at 0) none

-- no more counters are odd than there are
pub odd_count_within : (groups : List ℕ) (i : ℕ) → odd_count (counters_of (take i groups)) ≤ 4 * length groups
odd_count_within groups i =
    let most : odd_count (counters_of (take i groups)) ≤ length (counters_of (take i groups)) =
    count_by-le-length (λ c. eqb (c % 2) 1) (counters_of (take i groups)) in
    let len : length (counters_of (take i groups)) ≡ 4 * length (take i groups) = length-counters_of (take i groups) in
    let front : length (take i groups) ≡ min i (length groups) = length-take i groups in
    omega arith
