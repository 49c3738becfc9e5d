-- The laws of `Laws.antt`: estimates against true counts, sizes, what holds of every sketch, and cells.
use Rattle.std.proofs.Common.{◌≡◌, ◌≢◌, ◌⊎◌, inl, inr, ℕ, ◌+◌, ◌-◌, ◌*◌, ◌/◌, ◌%◌, ◌<◌, ◌≤◌, min, Bool, true, false, cond, ◌==◌, nat_le}
use Rattle.std.proofs.Common.{List, [], ◌∷◌, length, get_or, map, fold, All, Some, None, Option, refl, sym, ◌∙◌, ap, arith, slice_index}
use Rattle.std.proofs.Common.{Contains, length-set, replicate, ◌&&◌}
use Rattle.std.proofs.lemmas.Nat.{mod_below}
use Rattle.std.proofs.lemmas.Bool.{cases_eq, cases_lt}
use Rattle.std.proofs.lemmas.Bool.Decides.{nat_tests}
use Rattle.std.proofs.lemmas.List.{get_or-set_other, get_or-set_same, set_past, get_or_past, length-map, length-replicate, get_or-replicate}
use Rattle.std.proofs.lemmas.List.Elements.{All-get_or, All-cons, All-contains, All-from_get_or}
use Rattle.std.proofs.Math.ListN.{get_or-map}
use Rattle.std.specs.Int.{leading_zeros, w32}
use Rattle.moka_common.specs.declared.constants.TheConstants.{MAX_TABLE_LEN}
use Rattle.moka_common.specs.Sketch.{HasShape, IsShaped, IsSketch, IsTable, Table, after_increment, aged, ages, cell, cells, estimate}
use Rattle.moka_common.specs.Sketch.{estimate_in, grown_at, grows, incremented_counters, index_of, odd_count, positions, with_count}
use Rattle.moka_common.specs.SketchCapacity.{after_ensure_capacity, new_table, table_len, table_len_for}
use Rattle.moka_common.specs.TrueCount.{one_more, grown_true_count, true_count_after_ensure_capacity, true_count_after_increment}
use Rattle.moka_common.proofs.SketchLemmas.{power_pos}

-- x stands in the list
abbrev In : ℕ → List ℕ → Type 0
In x [] = ⊥
In x (y ∷ ys) = (x ≡ y) ⊎ In x ys

-- ---- the least of a list

-- what each element reaches, the least does
least_above : (f : ℕ → ℕ) (xs : List ℕ) (m start : ℕ) → m ≤ start → ((x : ℕ) → In x xs → m ≤ f x) → m ≤ fold min start (map f xs)
least_above f [] m start h all = h
least_above f (x ∷ xs) m start h all =
    let here : m ≤ f x = all x (inl refl) in
    least_above f xs m (min start (f x)) (omega arith) (λ y stands. all y (inr stands))

-- the least is at most the start
least_below_start : (f : ℕ → ℕ) (xs : List ℕ) (start : ℕ) → fold min start (map f xs) ≤ start
least_below_start f [] start = omega arith
least_below_start f (x ∷ xs) start =
    let rest : fold min (min start (f x)) (map f xs) ≤ min start (f x) = least_below_start f xs (min start (f x)) in omega arith

-- and at most each element
least_below : (f : ℕ → ℕ) (xs : List ℕ) (start x : ℕ) → In x xs → fold min start (map f xs) ≤ f x
least_below f [] start x stands = absurd stands
least_below f (y ∷ ys) start x (inl same) =
    let rest : fold min (min start (f y)) (map f ys) ≤ min start (f y) = least_below_start f ys (min start (f y)) in
    let value : f x ≡ f y = ap f same in
    omega arith
least_below f (y ∷ ys) start x (inr stands) = least_below f ys (min start (f y)) x stands

-- an estimate is at most fifteen
pub estimate_in_within : (places : ℕ) (counters : List ℕ) (hash : ℕ) → estimate_in places counters hash ≤ 15
estimate_in_within places counters hash = least_below_start (slice_index counters) (positions places hash) 15

-- also where the sketch is off
pub estimate_within : (sketch : Option Table) (hash : ℕ) → estimate sketch hash ≤ 15
estimate_within None hash = omega arith
estimate_within (Some t) hash = estimate_in_within t.places t.counters hash

-- ---- counters that grow

-- no counter is above fifteen, also past the last
small_from_All : (counters : List ℕ) → All (λ c. c ≤ 15) counters → (k : ℕ) → get_or counters k 0 ≤ 15
small_from_All counters all k =
    elim (cases_lt k (length counters)) [
      | inl here ↦ All-get_or (λ c. c ≤ 15) counters k 0 here all
      | inr past ↦ (let none : get_or counters k 0 ≡ 0 = get_or_past counters k 0 past in omega arith)
    ]

-- the counter that grows
grown_here : (counters : List ℕ) (at : ℕ) → at < length counters → get_or (grown_at counters at) at 0 ≡ min (get_or counters at 0 + 1) 15
grown_here counters at h = get_or-set_same counters at _ 0 h

-- one that does not
grown_other : (counters : List ℕ) (at k : ℕ) → k ≢ at → get_or (grown_at counters at) k 0 ≡ get_or counters k 0
grown_other counters at k other = get_or-set_other counters at k _ 0 other

-- past the last nothing changes
grown_past : (counters : List ℕ) (at k : ℕ) → length counters ≤ at → get_or (grown_at counters at) k 0 ≡ get_or counters k 0
grown_past counters at k past = ap (λ cs. get_or cs k 0) (set_past counters at _ past)

-- one counter more lowers none, and none passes the most
rises_once : (counters : List ℕ) (at k : ℕ) → get_or counters k 0 ≤ 15 →
    (get_or counters k 0 ≤ get_or (grown_at counters at) k 0) × (get_or (grown_at counters at) k 0 ≤ 15)
rises_once counters at k small =
    elim (cases_eq k at) [
      | inl same ↦
          elim (cases_lt at (length counters)) [
            | inl here ↦
                (let is : get_or (grown_at counters at) k 0 ≡ min (get_or counters k 0 + 1) 15 = rw same
                (grown_here counters at here) in (omega arith, omega arith))
            | inr past ↦
                (let is : get_or (grown_at counters at) k 0 ≡ get_or counters k 0 = grown_past counters at k
                past in (omega arith, omega arith))
          ]
      | inr other ↦
          (let is : get_or (grown_at counters at) k 0 ≡ get_or counters k 0 = grown_other counters at k other in (omega arith, omega arith))
    ]

-- more growth lowers no counter
rises : (counters ats : List ℕ) (k : ℕ) → get_or counters k 0 ≤ 15 → get_or counters k 0 ≤ get_or (fold grown_at counters ats) k 0
rises counters [] k small = omega arith
rises counters (at ∷ ats) k small =
    let once : (get_or counters k 0 ≤ get_or (grown_at counters at) k 0) × (get_or (grown_at counters at) k 0 ≤ 15) =
    rises_once counters at k small in
    let rest : get_or (grown_at counters at) k 0 ≤ get_or (fold grown_at (grown_at counters at) ats) k 0 =
    rises (grown_at counters at) ats k once.1 in
    omega arith

-- a counter that is listed has one more
rises_by_one : (counters ats : List ℕ) (k : ℕ) → get_or counters k 0 ≤ 15 → k < length counters → In k ats →
    one_more (get_or counters k 0) ≤ get_or (fold grown_at counters ats) k 0
rises_by_one counters [] k small here stands = absurd stands
rises_by_one counters (at ∷ ats) k small here (inl same) =
    let there : at < length counters = omega arith in
    let is : get_or (grown_at counters at) k 0 ≡ min (get_or counters k 0 + 1) 15 = rw same (grown_here counters at there) in
    let rest : get_or (grown_at counters at) k 0 ≤ get_or (fold grown_at (grown_at counters at) ats) k 0 =
    rises (grown_at counters at) ats k (omega arith) in
    omega arith
rises_by_one counters (at ∷ ats) k small here (inr stands) =
    let once : (get_or counters k 0 ≤ get_or (grown_at counters at) k 0) × (get_or (grown_at counters at) k 0 ≤ 15) =
    rises_once counters at k small in
    let len : length (grown_at counters at) ≡ length counters = length-set counters at _ in
    let rest : one_more (get_or (grown_at counters at) k 0) ≤ get_or (fold grown_at (grown_at counters at) ats) k 0 =
    rises_by_one (grown_at counters at) ats k once.1 (omega arith) stands in
    omega arith

-- ---- a true count through a step

-- a position is within the counters
position_within : (places hash depth : ℕ) → 0 < places → depth < 4 →
    16 * index_of places hash depth + (4 * (hash % 4) + depth) < 16 * places
position_within places hash depth some h = let place : index_of places hash depth < places = mod_below _ places some in omega arith

-- each of a hash is
positions_within : (places hash k : ℕ) → 0 < places → In k (positions places hash) → k < 16 * places
positions_within places hash k some (inl same) = rw same (position_within places hash 0 some (omega arith))
positions_within places hash k some (inr (inl same)) = rw same (position_within places hash 1 some (omega arith))
positions_within places hash k some (inr (inr (inl same))) = rw same (position_within places hash 2 some (omega arith))
positions_within places hash k some (inr (inr (inr (inl same)))) = rw same (position_within places hash 3 some (omega arith))
positions_within places hash k some (inr (inr (inr (inr none)))) = absurd none

-- what each counter of a hash reaches, its estimate reaches
estimate_above : (places : ℕ) (counters : List ℕ) (hash m : ℕ) → m ≤ 15 →
    ((x : ℕ) → In x (positions places hash) → m ≤ get_or counters x 0) → m ≤ estimate_in places counters hash
estimate_above places counters hash m most all = least_above (slice_index counters) (positions places hash) m 15 most all

-- an estimate is at most each counter of the hash
estimate_below : (places : ℕ) (counters : List ℕ) (hash x : ℕ) → In x (positions places hash) →
    estimate_in places counters hash ≤ get_or counters x 0
estimate_below places counters hash x stands = least_below (slice_index counters) (positions places hash) 15 x stands

-- the test of equal numbers
true_of_same : (m n : ℕ) → m ≡ n → (m == n) ≡ true
true_of_same m n same = grind (arith, nat_tests)

-- the test of others
false_of_apart : (m n : ℕ) → m ≢ n → (m == n) ≡ false
false_of_apart m n apart = grind (arith, nat_tests)

-- before the table ages
estimate_grown : (places : ℕ) (counters : List ℕ) (hash other count : ℕ) → 0 < places → length counters ≡ 16 * places →
    All (λ c. c ≤ 15) counters → count ≤ estimate_in places counters hash →
    grown_true_count hash other count ≤ estimate_in places (incremented_counters places counters other) hash
estimate_grown places counters hash other count some whole small h =
    let most : estimate_in places counters hash ≤ 15 = estimate_in_within places counters hash in
    elim (cases_eq hash other) [
      | inl same ↦
          (let value : grown_true_count hash other count ≡ one_more count = ap (λ b. cond b (one_more count) count)
          (true_of_same hash other same) in
          let all : (x : ℕ) → In x (positions places hash) → one_more count ≤ get_or (incremented_counters places counters other) x 0 =
          λ x stands.
          let reached : estimate_in places counters hash ≤ get_or counters x 0 = estimate_below places counters hash x stands in
          let up : one_more (get_or counters x 0) ≤ get_or (fold grown_at counters (positions places hash)) x 0 =
          rises_by_one counters (positions places hash) x (small_from_All counters small x)
          (rw whole (positions_within places hash x some stands)) stands in
          let up : one_more (get_or counters x 0) ≤ get_or (incremented_counters places counters other) x 0 = rw (← same) up in
          omega arith in
          rw value (estimate_above places (incremented_counters places counters other) hash (one_more count) (omega arith) all))
      | inr apart ↦
          (let value : grown_true_count hash other count ≡ count = ap (λ b. cond b (one_more count) count)
          (false_of_apart hash other apart) in
          let all : (x : ℕ) → In x (positions places hash) → count ≤ get_or (incremented_counters places counters other) x 0 = λ x stands.
          let reached : estimate_in places counters hash ≤ get_or counters x 0 = estimate_below places counters hash x stands in
          let up : get_or counters x 0 ≤ get_or (incremented_counters places counters other) x 0 =
          rises counters (positions places other) x (small_from_All counters small x) in
          omega arith in
          rw value (estimate_above places (incremented_counters places counters other) hash count (omega arith) all))
    ]

-- once the table ages
estimate_halved : (places : ℕ) (counters : List ℕ) (hash m : ℕ) → m ≤ estimate_in places counters hash →
    m / 2 ≤ estimate_in places (map (λ c. c / 2) counters) hash
estimate_halved places counters hash m h =
    let most : estimate_in places counters hash ≤ 15 = estimate_in_within places counters hash in
    let all : (x : ℕ) → In x (positions places hash) → m / 2 ≤ get_or (map (λ c. c / 2) counters) x 0 = λ x stands.
    let half : get_or (map (λ c. c / 2) counters) x 0 ≡ get_or counters x 0 / 2 = get_or-map (λ c. c / 2) counters x 0 in
    let reached : estimate_in places counters hash ≤ get_or counters x 0 = estimate_below places counters hash x stands in
    omega arith in
    estimate_above places (map (λ c. c / 2) counters) hash (m / 2) (omega arith) all

-- whether the table ages or not
estimate_aged : (b : Bool) (t : Table) (hash m : ℕ) → m ≤ estimate_in t.places t.counters hash →
    cond b (m / 2) m ≤ estimate (Some (cond b (aged t) t)) hash
estimate_aged true t hash m h = estimate_halved t.places t.counters hash m h
estimate_aged false t hash m h = h

-- a count keeps true counts below estimates
pub counting_keeps : (sketch : Option Table) (hash other count : ℕ) → IsShaped sketch → count ≤ estimate sketch hash →
    true_count_after_increment sketch hash other count ≤ estimate (after_increment sketch other) hash
counting_keeps None hash other count is h = h
counting_keeps (Some t) hash other count is h =
    estimate_aged (ages t other) (with_count t other) hash (grown_true_count hash other count)
    (estimate_grown t.places t.counters hash other count (power_pos t.places is.power) is.whole is.small h)

-- whether the table is new or not
growing_by : (b : Bool) (sketch : Option Table) (t : Table) (hash count : ℕ) → count ≤ estimate sketch hash →
    cond b count 0 ≤ estimate (cond b sketch (Some t)) hash
growing_by true sketch t hash count h = h
growing_by false sketch t hash count h = omega arith

-- a new table keeps true counts below estimates
pub growing_keeps : (sketch : Option Table) (hash cap count : ℕ) → count ≤ estimate sketch hash →
    true_count_after_ensure_capacity sketch cap count ≤ estimate (after_ensure_capacity sketch cap) hash
growing_keeps sketch hash cap count h = growing_by (nat_le (table_len_for cap) (table_len sketch)) sketch (new_table cap) hash count h

-- ---- sizes

-- a size of at most the sample, halved
size_halved : (grew : Bool) (size sample odd : ℕ) → size < sample → cond grew (size + 1) size / 2 - odd / 4 ≤ sample / 2
size_halved true size sample odd h = omega arith
size_halved false size sample odd h = omega arith

-- aging leaves at most half of the sample
pub aging_halves : (t : Table) (hash : ℕ) → IsTable t → (aged (with_count t hash)).size ≤ t.sample / 2
aging_halves t hash is =
    let below : t.size < t.sample = is.sampled in size_halved (grows t hash) t.size t.sample (odd_count (with_count t hash).counters) below

-- ---- what holds of a sketch, through a step

-- growth leaves no counter above fifteen
small_grown : (counters ats : List ℕ) → ((k : ℕ) → get_or counters k 0 ≤ 15) → (k : ℕ) → get_or (fold grown_at counters ats) k 0 ≤ 15
small_grown counters [] small k = small k
small_grown counters (at ∷ ats) small k = small_grown (grown_at counters at) ats (λ j. (rises_once counters at j (small j)).1) k

-- and as many counters
length-grown : (counters ats : List ℕ) → length (fold grown_at counters ats) ≡ length counters
length-grown counters [] = refl
length-grown counters (at ∷ ats) = length-grown (grown_at counters at) ats ∙ length-set counters at _

-- a count keeps the shape
shape_counted : (t : Table) (hash : ℕ) → HasShape t → HasShape (with_count t hash)
shape_counted t hash is = record {
  power = is.power;
  whole = length-grown t.counters (positions t.places hash) ∙ is.whole;
  small =
      All-from_get_or (λ c. c ≤ 15) _ 0 (λ k here. small_grown t.counters (positions t.places hash) (small_from_All t.counters is.small) k);
}

-- so does aging
shape_aged : (t : Table) → HasShape t → HasShape (aged t)
shape_aged t is = record {
  power = is.power;
  whole = length-map t.counters (λ c. c / 2) ∙ is.whole;
  small = All-from_get_or (λ c. c ≤ 15) (map (λ c. c / 2) t.counters) 0 (λ k here.
      let half : get_or (map (λ c. c / 2) t.counters) k 0 ≡ get_or t.counters k 0 / 2 = get_or-map (λ c. c / 2) t.counters k 0 in
      let most : get_or t.counters k 0 ≤ 15 = small_from_All t.counters is.small k in
      omega arith);
}

-- a table that ages where it is full
table_either : (full : Bool) (t : Table) → HasShape t → (aged t).size < t.sample → (full ≡ false → t.size < t.sample) →
    IsSketch (Some (cond full (aged t) t))
table_either true t is below calm = record { shape = shape_aged t is; sampled = below }
table_either false t is below calm = record { shape = is; sampled = calm refl }

-- where the table does not age, its size is below the sample
calm_size : (grew : Bool) (size sample : ℕ) → size < sample → (grew && nat_le sample (size + 1)) ≡ false →
    cond grew (size + 1) size < sample
calm_size true size sample below calm = grind (arith, nat_tests, calm)
calm_size false size sample below calm = below

-- a count keeps what holds of every sketch
pub counting_keeps_sketch : (sketch : Option Table) (hash : ℕ) → IsSketch sketch → IsSketch (after_increment sketch hash)
counting_keeps_sketch None hash is = is
counting_keeps_sketch (Some t) hash is =
    let half : (aged (with_count t hash)).size ≤ t.sample / 2 = aging_halves t hash is in
    let below : t.size < t.sample = is.sampled in
    let after : (aged (with_count t hash)).size < t.sample = omega arith in
    table_either (ages t hash) (with_count t hash) (shape_counted t hash is.shape) after
    (λ calm. calm_size (grows t hash) t.size t.sample below calm)

-- a new table has the shape
shape_new : (cap : ℕ) → HasShape (new_table cap)
shape_new cap = record {
  power = (32 - leading_zeros w32 (min cap MAX_TABLE_LEN - 1), refl);
  whole = length-replicate (16 * table_len_for cap) 0;
  small = All-from_get_or (λ c. c ≤ 15) (replicate {A = ℕ} (16 * table_len_for cap) 0) 0 (λ k here.
      let len : length (replicate {A = ℕ} (16 * table_len_for cap) 0) ≡ 16 * table_len_for cap =
      length-replicate (16 * table_len_for cap) 0 in
      let none : get_or (replicate {A = ℕ} (16 * table_len_for cap) 0) k 0 ≡ 0 =
      get_or-replicate (16 * table_len_for cap) k 0 0 (rw (← len) here) in
      omega arith);
}

-- a new table is one
pub table_new : (cap : ℕ) → IsTable (new_table cap)
table_new cap = record { shape = shape_new cap; sampled = omega arith }

-- whether the table is new or not
growing_keeps_by : (b : Bool) (sketch : Option Table) (t : Table) → IsSketch sketch → IsTable t → IsSketch (cond b sketch (Some t))
growing_keeps_by true sketch t is new = is
growing_keeps_by false sketch t is new = new

-- a new table keeps what holds of every sketch
pub growing_keeps_sketch : (sketch : Option Table) (cap : ℕ) → IsSketch sketch → IsSketch (after_ensure_capacity sketch cap)
growing_keeps_sketch sketch cap is =
    growing_keeps_by (nat_le (table_len_for cap) (table_len sketch)) sketch (new_table cap) is (table_new cap)

-- ---- cells

-- nothing is left to show of no cells
All-nil : (P : ℕ × ℕ → Type 0) → All P []
All-nil P = λ k d none. absurd (omega arith)

-- a counter gives the residue back
counter_residue : (hash depth : ℕ) → depth < 4 → (4 * (hash % 4) + depth) / 4 ≡ hash % 4
counter_residue hash depth h = omega arith

-- each cell of a hash gives its residue back
residue_of_cell : (places hash : ℕ) → All (λ c. c.1 / 4 ≡ hash % 4) (cells places hash)
residue_of_cell places hash =
    let P : ℕ × ℕ → Type 0 = λ c. c.1 / 4 ≡ hash % 4 in
    let at : ℕ → ℕ × ℕ = cell places hash in
    All-cons P (at 0) (at 1 ∷ at 2 ∷ at 3 ∷ []) (counter_residue hash 0 (omega arith))
    (All-cons P (at 1) (at 2 ∷ at 3 ∷ []) (counter_residue hash 1 (omega arith))
    (All-cons P (at 2) (at 3 ∷ []) (counter_residue hash 2 (omega arith))
    (All-cons P (at 3) [] (counter_residue hash 3 (omega arith)) (All-nil P))))

-- so two residues have no cell in common
pub residues_apart : (places first second : ℕ) (c : ℕ × ℕ) → first % 4 ≢ second % 4 → Contains (cells places first) c →
    Contains (cells places second) c → ⊥
residues_apart places first second c apart one other =
    let P : ℕ → ℕ × ℕ → Type 0 = λ hash c. c.1 / 4 ≡ hash % 4 in
    apart (sym (All-contains (P first) (cells places first) c (residue_of_cell places first) one)
    ∙ All-contains (P second) (cells places second) c (residue_of_cell places second) other)
