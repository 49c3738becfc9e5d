-- What a contract sees of a sketch's capacity: how long a table it asks for, and when the table it has is long enough.
use Rattle.std.specs.Prelude.{ℕ, ◌-◌, ◌*◌, ◌^◌, min, max, nat_le, if◌then◌else◌, replicate, Option, Some, None}
use Rattle.std.specs.Int.{leading_zeros, w32}
use Rattle.moka_common.specs.Sketch.{Table}
use Rattle.moka_common.specs.declared.constants.TheConstants.{COUNTERS_PER_WORD, MAX_SAMPLE_SIZE, MAX_TABLE_LEN}
use Rattle.moka_common.specs.declared.constants.TheConstants.{MIN_SKETCH_CAPACITY, SAMPLE_FACTOR}

-- how many places the table has, none where the sketch is off
abbrev pub table_len : Option Table → ℕ
table_len None = 0
table_len (Some t) = t.places

-- the least power of two that is at least a number of 32 bits: 2 to as many bits as the number before it has
abbrev pub next_power_of_two : ℕ → ℕ
next_power_of_two n = 2 ^ (32 - leading_zeros w32 (n - 1))

-- how many places a table for so many entries has
abbrev pub table_len_for : ℕ → ℕ
table_len_for cap = next_power_of_two (min cap MAX_TABLE_LEN)

-- the size at which a table for so many entries ages
abbrev pub sample_size_for : ℕ → ℕ
sample_size_for cap = min (SAMPLE_FACTOR * max 1 (min cap MAX_TABLE_LEN)) MAX_SAMPLE_SIZE

-- a table for so many entries, with nothing counted
abbrev pub new_table : ℕ → Table
new_table cap =
    record {
      places = table_len_for cap;
      sample = sample_size_for cap;
      size = 0;
      counters = replicate (COUNTERS_PER_WORD * table_len_for cap) 0;
    }

-- the sketch once it has a table for so many entries: one that is long enough stays
abbrev pub after_ensure_capacity : Option Table → ℕ → Option Table
after_ensure_capacity sketch cap = if nat_le (table_len_for cap) (table_len sketch) then sketch else Some (new_table cap)

-- the capacity to ask of a sketch, for a cache of so many entries
abbrev pub sketch_capacity : ℕ → ℕ
sketch_capacity x = max MIN_SKETCH_CAPACITY (min x (2 ^ 32 - 1))
