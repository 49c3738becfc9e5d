-- What a contract sees of the laws of the sketch, which `src/laws.rt` promises.
use Rattle.std.specs.Prelude.{◌≢◌, ℕ, ◌/◌, ◌%◌, ◌^◌, ◌<◌, ◌≤◌, Contains, Option}
use Rattle.std.specs.Int.{IsNextPowerOfTwo}
use Rattle.moka_common.specs.Sketch.{IsShaped, IsSketch, IsTable, Table, after_increment, aged, cells, estimate, with_count}
use Rattle.moka_common.specs.SketchCapacity.{after_ensure_capacity, next_power_of_two}
use Rattle.moka_common.specs.TrueCount.{true_count_after_ensure_capacity, true_count_after_increment}
use Rattle.moka_common.specs.declared.constants.TheConstants.{MAX_FREQUENCY}

-- no estimate is above the most
abbrev pub BoundsEstimates : Type 0
BoundsEstimates = (sketch : Option Table) (hash : ℕ) → estimate sketch hash ≤ MAX_FREQUENCY

-- what holds of every sketch holds once a hash is counted
abbrev pub CountingKeepsSketches : Type 0
CountingKeepsSketches = (sketch : Option Table) (hash : ℕ) → IsSketch sketch → IsSketch (after_increment sketch hash)

-- and once there is a table for any number of entries
abbrev pub GrowingKeepsSketches : Type 0
GrowingKeepsSketches = (sketch : Option Table) (cap : ℕ) → IsSketch sketch → IsSketch (after_ensure_capacity sketch cap)

-- a true count that is at most the estimate is so once any hash is counted
abbrev pub CountingKeepsTrueCounts : Type 0
CountingKeepsTrueCounts =
    (sketch : Option Table) (hash counted count : ℕ) → IsShaped sketch → count ≤ estimate sketch hash →
    true_count_after_increment sketch hash counted count ≤ estimate (after_increment sketch counted) hash

-- a true count that is at most the estimate is so once there is a table for any number of entries
abbrev pub GrowingKeepsTrueCounts : Type 0
GrowingKeepsTrueCounts =
    (sketch : Option Table) (hash cap count : ℕ) → count ≤ estimate sketch hash →
    true_count_after_ensure_capacity sketch cap count ≤ estimate (after_ensure_capacity sketch cap) hash

-- aging leaves at most half of the sample, rounded down
abbrev pub AgingHalvesSizes : Type 0
AgingHalvesSizes = (t : Table) (hash : ℕ) → IsTable t → (aged (with_count t hash)).size ≤ t.sample / 2

-- two hashes that differ modulo 4 share no cell, among any number of places
abbrev pub ResiduesAreApart : Type 0
ResiduesAreApart =
    (places first second : ℕ) (c : ℕ × ℕ) → first % 4 ≢ second % 4 → Contains (cells places first) c → Contains (cells places second) c → ⊥

-- the next power of two is the least that is large enough
abbrev pub FindsNextPower : Type 0
FindsNextPower = (n : ℕ) → n < 2 ^ 32 → IsNextPowerOfTwo n (next_power_of_two n)
