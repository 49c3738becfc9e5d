-- The sketch of a list of groups, by `Cells.antt`, as its calls change it.
use Rattle.std.proofs.Common.{◌≡◌, ℕ, zero, suc, ◌+◌, ◌-◌, ◌*◌, ◌/◌, ◌<◌, ◌≤◌, Bool, true, false, ◌&&◌, cond, eqb, nat_le, List, [], ◌∷◌}
use Rattle.std.proofs.Common.{length, map, replicate, min, Some, Option, refl, sym, ◌∙◌, ap, arith}
use Rattle.std.proofs.lemmas.Bool.Decides.{nat_tests}
use Rattle.std.proofs.lemmas.Nat.{pow_pos}
use Rattle.std.proofs.lemmas.List.{length-replicate}
use Rattle.std.specs.Int.{from_bool, leading_zeros, w32}
use Rattle.moka_common.specs.declared.constants.TheConstants.{GROUPS_PER_WORD, MAX_TABLE_LEN}
use Rattle.moka_common.proofs.CellLemmas.{All-counters_of, counters_of-replicate, length-counters_of}
use Rattle.moka_common.proofs.SketchLemmas.{next_power_within}
use Rattle.moka_common.specs.Sketch.{IsSketch, Table, after_increment, aged, ages, estimate, estimate_in, grows_in, incremented_counters}
use Rattle.moka_common.specs.Sketch.{odd_count, with_count}
use Rattle.moka_common.specs.SketchCapacity.{after_ensure_capacity, new_table, sample_size_for, table_len, table_len_for}
use Rattle.moka_common.specs.Cells.{counters_of, slot_count, unpacked, table_of, IsPacked, IsTablePacked}

-- what `is_empty` says where it answers no
pub not_empty : (empty : Bool) (n : ℕ) → empty ≡ eqb n 0 → empty ≡ false → 0 < n
not_empty empty zero is no_more = cc
not_empty empty (suc n) is no_more = omega arith

-- with groups it is on
pub unpacked_on : (groups : List ℕ) (sample size : ℕ) → 0 < length groups → unpacked groups sample size ≡ Some (table_of groups sample size)
unpacked_on [] sample size h = absurd (omega arith)
unpacked_on (group ∷ groups) sample size h = refl

-- what is read of the groups is the estimate
pub estimate_read : (groups now : List ℕ) (sample size hash least : ℕ) → 0 < length groups → now ≡ groups →
    least ≡ estimate_in (slot_count now) (counters_of now) hash → least ≡ estimate (unpacked groups sample size) hash
estimate_read groups now sample size hash least on same read =
    read ∙ ap (λ gs. estimate_in (slot_count gs) (counters_of gs) hash) same
    ∙ ap (λ s. estimate s hash) (sym (unpacked_on groups sample size on))

-- a table of these parts
abbrev table : ℕ → ℕ → ℕ → List ℕ → Table
table places sample size counters = record { places = places; sample = sample; size = size; counters = counters }

-- tables of equal parts are equal
same_table : (p q sample y z : ℕ) (cs ds : List ℕ) → p ≡ q → y ≡ z → cs ≡ ds → table p sample y cs ≡ table q sample z ds
same_table p q sample y z cs ds e f h = ap (λ n. table n sample y cs) e ∙ ap (λ n. table q sample n cs) f ∙ ap (λ xs. table q sample z xs) h

-- a sketch has the places of its groups
pub table_len-unpacked : (groups : List ℕ) (sample size : ℕ) → table_len (unpacked groups sample size) ≡ slot_count groups
table_len-unpacked [] sample size = refl
table_len-unpacked (group ∷ groups) sample size = refl

-- what holds of the groups is enough for what holds of the sketch
pub unpacked_is : (groups : List ℕ) (sample size : ℕ) → IsPacked groups sample size → IsSketch (unpacked groups sample size)
unpacked_is [] sample size packed = tt
unpacked_is (group ∷ groups) sample size packed =
    let here : IsTablePacked (group ∷ groups) sample size = packed (omega arith) in
    record {
      shape = record {
        power = here.power;
        whole = omega (arith, length-counters_of (group ∷ groups), here.whole);
        small = All-counters_of (group ∷ groups);
      };
      sampled = here.sampled;
    }

-- groups that stay as many keep what holds of them, at a size below the sample
pub packed_kept : (groups new : List ℕ) (sample size next : ℕ) → length new ≡ length groups → IsTablePacked groups sample size →
    next < sample → IsTablePacked new sample next
packed_kept groups new sample size next len packed below = record {
  whole = rw len packed.whole;
  power = rw len packed.power;
  within = rw len packed.within;
  sampled = below;
}

-- ---- a count, by whether the size comes to the sample

-- what a count adds to the size is one at most
pub added_most : (grew : Bool) (n : ℕ) → n ≡ from_bool grew → n ≤ 1
added_most true n is = let one : n ≡ 1 = is in omega arith
added_most false n is = let none : n ≡ 0 = is in omega arith

-- the size grows by one where a counter does, and else by nothing
size_by : (grows : Bool) (n size : ℕ) → n ≡ from_bool grows → size + n ≡ cond grows (size + 1) size
size_by true n size is = let one : n ≡ 1 = is in omega arith
size_by false n size is = let none : n ≡ 0 = is in omega arith

-- a size below the sample lets no table age
calm_by : (grows : Bool) (n sample size : ℕ) → n ≡ from_bool grows → size + n < sample → (grows && nat_le sample (size + 1)) ≡ false
calm_by true n sample size is below = let one : n ≡ 1 = is in grind (arith, nat_tests)
calm_by false n sample size is below = refl

-- one that comes to the sample does
due_by : (grows : Bool) (n sample size : ℕ) → n ≡ from_bool grows → size < sample → sample ≤ size + n →
    (grows && nat_le sample (size + 1)) ≡ true
due_by true n sample size is below full = let one : n ≡ 1 = is in grind (arith, nat_tests)
due_by false n sample size is below full = let none : n ≡ 0 = is in absurd (omega arith)

-- the sketch once a hash is counted, by whether the table ages
abbrev counted_by : Bool → Table → ℕ → Option Table
counted_by full t hash = Some (cond full (aged (with_count t hash)) (with_count t hash))

-- what a count makes of groups
after_on : (groups : List ℕ) (sample size hash : ℕ) → 0 < length groups →
    after_increment (unpacked groups sample size) hash ≡ counted_by (ages (table_of groups sample size) hash) (table_of groups sample size)
    hash
after_on groups sample size hash on = ap (λ s. after_increment s hash) (unpacked_on groups sample size on)

-- the new groups are those of the counters with one count more of a hash
pub record IsCounted (groups new : List ℕ) (hash : ℕ) (grew : Bool) : Type 0 where
  pub on : 0 < length groups
  pub len : length new ≡ length groups
  pub counters : counters_of new ≡ incremented_counters (slot_count groups) (counters_of groups) hash
  pub grew_is : grew ≡ grows_in (slot_count groups) (counters_of groups) hash

-- what the code's calls say of the slice, said of the groups
pub counted_groups : (groups now new : List ℕ) (n hash : ℕ) (empty grew : Bool) → empty ≡ eqb n 0 → empty ≡ false → now ≡ groups →
    length now ≡ n → length new ≡ length now → counters_of new ≡ incremented_counters (slot_count now) (counters_of now) hash →
    grew ≡ grows_in (slot_count now) (counters_of now) hash → IsCounted groups new hash grew
counted_groups groups now new n hash empty grew is some same len new_len counters grew_is =
    let here : 0 < n = not_empty empty n is some in
    let count : length now ≡ length groups = ap length same in
    record {
      on = omega arith;
      len = new_len ∙ count;
      counters = counters ∙ ap (λ gs. incremented_counters (slot_count gs) (counters_of gs) hash) same;
      grew_is = grew_is ∙ ap (λ gs. grows_in (slot_count gs) (counters_of gs) hash) same;
    }

module _ (groups new : List ℕ) (sample size hash : ℕ) (grew : Bool) (made : IsCounted groups new hash grew) where
  -- the table before the count
  abbrev before : Table
  before = table_of groups sample size

  -- the new groups are some
  there : 0 < length new
  there = let on : 0 < length groups = made.on in let len : length new ≡ length groups = made.len in omega arith

  -- the size stays below the sample
  pub counted_calm : (n : ℕ) → n ≡ from_bool grew → size + n < sample →
      unpacked new sample (size + n) ≡ after_increment (unpacked groups sample size) hash
  counted_calm n is room =
      let more : n ≡ from_bool (grows_in (slot_count groups) (counters_of groups) hash) = is ∙ ap from_bool made.grew_is in
      let calm : ages before hash ≡ false = calm_by (grows_in (slot_count groups) (counters_of groups) hash) n sample size more room in
      let grows : size + n ≡ (with_count before hash).size = size_by (grows_in (slot_count groups) (counters_of groups) hash) n size more in
      unpacked_on new sample (size + n) there
      ∙ ap Some (same_table (slot_count new) (slot_count groups) sample (size + n) _ (counters_of new) _ (ap (λ n. n / 4) made.len) grows made.counters)
      ∙ ap (λ b. counted_by b before hash) (sym calm)
      ∙ sym (after_on groups sample size hash made.on)

  -- it comes to the sample, and the table's groups are those of the halved counters
  pub counted_aged : (old : List ℕ) (n odd : ℕ) → n ≡ from_bool grew → size < sample → sample ≤ size + n → length old ≡ length groups →
      counters_of old ≡ map (λ c. c / 2) (counters_of new) → odd ≡ odd_count (counters_of new) →
      unpacked old sample ((size + n) / 2 - odd / 4) ≡ after_increment (unpacked groups sample size) hash
  counted_aged old n odd is below full same halved odd_is =
      let more : n ≡ from_bool (grows_in (slot_count groups) (counters_of groups) hash) = is ∙ ap from_bool made.grew_is in
      let on : 0 < length groups = made.on in
      let still : 0 < length old = omega arith in
      let due : ages before hash ≡ true = due_by (grows_in (slot_count groups) (counters_of groups) hash) n sample size more below full in
      let grows : size + n ≡ (with_count before hash).size = size_by (grows_in (slot_count groups) (counters_of groups) hash) n size more in
      let left : (size + n) / 2 - odd / 4 ≡ (aged (with_count before hash)).size =
      ap (λ k. (size + n) / 2 - k / 4) (odd_is ∙ ap odd_count made.counters)
      ∙ ap (λ k. k / 2 - odd_count (with_count before hash).counters / 4) grows in
      unpacked_on old sample _ still
      ∙ ap Some (same_table (slot_count old) (slot_count groups) sample _ _ (counters_of old) _ (ap (λ n. n / 4) same) left
      (halved ∙ ap (map (λ c. c / 2)) made.counters))
      ∙ ap (λ b. counted_by b before hash) (sym due)
      ∙ sym (after_on groups sample size hash made.on)

-- ---- a new table

-- a table is not longer than the longest
pub len_within : (cap : ℕ) → table_len_for cap ≤ MAX_TABLE_LEN
len_within cap = next_power_within (min cap MAX_TABLE_LEN) 30 (omega arith) (omega arith)

-- nor empty
len_some : (cap : ℕ) → 0 < table_len_for cap
len_some cap = pow_pos (32 - leading_zeros w32 (min cap MAX_TABLE_LEN - 1))

-- the groups of a new table
abbrev pub new_groups : ℕ → List ℕ
new_groups cap = replicate (GROUPS_PER_WORD * table_len_for cap) 0

-- they are those of its places
new_places : (cap : ℕ) → slot_count (new_groups cap) ≡ table_len_for cap
new_places cap =
    let len : length (new_groups cap) ≡ 4 * table_len_for cap = length-replicate (4 * table_len_for cap) 0 in omega arith

-- what holds of the groups of a new table
pub new_packed : (cap : ℕ) → IsPacked (new_groups cap) (sample_size_for cap) 0
new_packed cap = λ _.
    let places : slot_count (new_groups cap) ≡ table_len_for cap = new_places cap in
    record {
      whole = rw places (length-replicate (4 * table_len_for cap) 0);
      power = (32 - leading_zeros w32 (min cap MAX_TABLE_LEN - 1), places);
      within = rw places (len_within cap);
      sampled = omega arith;
    }

-- the groups of a new table are the new table
pub new_unpacked : (sketch : Option Table) (cap : ℕ) → table_len sketch < table_len_for cap →
    unpacked (new_groups cap) (sample_size_for cap) 0 ≡ after_ensure_capacity sketch cap
new_unpacked sketch cap shorter =
    let len : length (new_groups cap) ≡ 4 * table_len_for cap = length-replicate (4 * table_len_for cap) 0 in
    let some : 0 < table_len_for cap = len_some cap in
    let test : nat_le (table_len_for cap) (table_len sketch) ≡ false = grind (arith, nat_tests) in
    unpacked_on (new_groups cap) (sample_size_for cap) 0 (omega arith)
    ∙ ap Some (same_table _ (table_len_for cap) (sample_size_for cap) 0 0 _ (replicate (16 * table_len_for cap) 0) (new_places cap) refl
    (counters_of-replicate (4 * table_len_for cap) ∙ ap (λ n. replicate n 0) (omega arith)))
    ∙ ap (λ b. cond b sketch (Some (new_table cap))) (sym test)
