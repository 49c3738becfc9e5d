-- What a contract sees of the frequency sketch: a table of counters, four of which are a hash's own cells.
use Rattle.std.specs.Prelude.{◌≡◌, ◌<◌, ◌≤◌, ℕ, ◌+◌, ◌-◌, ◌*◌, ◌/◌, ◌%◌, ◌^◌, min, Bool, ◌&&◌, ◌==◌, nat_lt, nat_le, if◌then◌else◌}
use Rattle.std.specs.Prelude.{List, [], ◌∷◌, All, count_by, fold, length, map, slice_index, slice_set, Option, Some, None}
use Rattle.std.specs.List.{list_any}
use Rattle.std.specs.Int.{IsPowerOfTwo}
use Rattle.moka_common.specs.declared.constants.TheConstants.{COUNTERS_PER_WORD, MAX_FREQUENCY}

-- a table's number of places, the size at which it ages, its size, and its counters, sixteen a place; a sketch that is off has none
pub record Table : Type 0 where
  pub places : ℕ
  pub sample : ℕ
  pub size : ℕ
  pub counters : List ℕ

-- what each depth mixes into a hash
abbrev pub seeds : List ℕ
seeds = 0xc3a5c85c97cb3127 ∷ 0xb492b66fbe98f273 ∷ 0x9ae16a3b2f90404f ∷ 0xcbf29ce484222325 ∷ []

-- the place of a hash at a depth: the hash mixed with the seed in 64 bits, its high half added to it, modulo the number of places
abbrev pub index_of : ℕ → ℕ → ℕ → ℕ
index_of places hash depth =
    let seed : ℕ = slice_index seeds depth in
    let mixed : ℕ = (hash + seed) * seed % 2 ^ 64 in
    (mixed + mixed / 2 ^ 32) % 2 ^ 64 % places

-- the cell of a hash at a depth: its place, and which counter it is there
abbrev pub cell : ℕ → ℕ → ℕ → ℕ × ℕ
cell places hash depth = (index_of places hash depth, 4 * (hash % 4) + depth)

-- the four cells of a hash, one a depth
abbrev pub cells : ℕ → ℕ → List (ℕ × ℕ)
cells places hash = map (cell places hash) (0 ∷ 1 ∷ 2 ∷ 3 ∷ [])

-- where the counter of a cell stands in the list of all
abbrev pub position_of : ℕ × ℕ → ℕ
position_of c = COUNTERS_PER_WORD * c.0 + c.1

-- where the counters of a hash stand
abbrev pub positions : ℕ → ℕ → List ℕ
positions places hash = map position_of (cells places hash)

-- the least counter of a hash, none of which is above the most
abbrev pub estimate_in : ℕ → List ℕ → ℕ → ℕ
estimate_in places counters hash = fold min MAX_FREQUENCY (map (slice_index counters) (positions places hash))

-- how often a hash was counted, as far as the sketch knows
abbrev pub estimate : Option Table → ℕ → ℕ
estimate None hash = 0
estimate (Some t) hash = estimate_in t.places t.counters hash

-- the counters with one more at a position, where that is below the most
abbrev pub grown_at : List ℕ → ℕ → List ℕ
grown_at counters at = slice_set counters at (min (slice_index counters at + 1) MAX_FREQUENCY)

-- the counters with one more at each cell of a hash
abbrev pub incremented_counters : ℕ → List ℕ → ℕ → List ℕ
incremented_counters places counters hash = fold grown_at counters (positions places hash)

-- whether one of a hash's counters is below the most
abbrev pub grows_in : ℕ → List ℕ → ℕ → Bool
grows_in places counters hash = list_any (λ at. nat_lt (slice_index counters at) MAX_FREQUENCY) (positions places hash)

-- whether a count of the hash changes a counter of the table
abbrev pub grows : Table → ℕ → Bool
grows t hash = grows_in t.places t.counters hash

-- the table with one count more of a hash, before it ages: the size grows where a counter does
abbrev pub with_count : Table → ℕ → Table
with_count t hash =
    record t { size = (if grows t hash then t.size + 1 else t.size); counters = incremented_counters t.places t.counters hash }

-- how many of the counters are odd
abbrev pub odd_count : List ℕ → ℕ
odd_count counters = count_by (λ c. c % 2 == 1) counters

-- the table with each counter halved, rounded down
abbrev pub aged : Table → Table
aged t = record t { size = t.size / 2 - odd_count t.counters / 4; counters = map (λ c. c / 2) t.counters }

-- whether a count of the hash makes the table age: it changes a counter, and the size comes to the sample
abbrev pub ages : Table → ℕ → Bool
ages t hash = grows t hash && nat_le t.sample (t.size + 1)

-- the sketch once a hash is counted
abbrev pub after_increment : Option Table → ℕ → Option Table
after_increment None hash = None
after_increment (Some t) hash = Some (if ages t hash then aged (with_count t hash) else with_count t hash)

-- the shape of every table: a power of two of places, sixteen counters a place, none above the most
pub record HasShape (t : Table) : Type 0 where
  pub power : IsPowerOfTwo t.places
  pub whole : length t.counters ≡ COUNTERS_PER_WORD * t.places
  pub small : All (λ c. c ≤ MAX_FREQUENCY) t.counters

-- the sketch is off, or its table has that shape
abbrev pub IsShaped : Option Table → Type 0
IsShaped None = Unit {0}
IsShaped (Some t) = HasShape t

-- what holds of every table: its shape, and a size below the sample
pub record IsTable (t : Table) : Type 0 where
  pub shape : HasShape t
  pub sampled : t.size < t.sample

-- what holds of every sketch
abbrev pub IsSketch : Option Table → Type 0
IsSketch None = Unit {0}
IsSketch (Some t) = IsTable t
