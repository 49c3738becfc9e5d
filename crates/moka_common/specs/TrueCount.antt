-- What a contract sees of a true count: how often one hash was counted, halved whenever the table ages.
use Rattle.std.specs.Prelude.{ℕ, ◌+◌, ◌/◌, min, ◌==◌, nat_le, if◌then◌else◌, Option, Some, None}
use Rattle.moka_common.specs.Sketch.{Table, ages}
use Rattle.moka_common.specs.SketchCapacity.{table_len, table_len_for}
use Rattle.moka_common.specs.declared.constants.TheConstants.{MAX_FREQUENCY}

-- a count with one more, at most the most
abbrev pub one_more : ℕ → ℕ
one_more count = min (count + 1) MAX_FREQUENCY

-- the true count of a hash once another or the same one is counted, before the table ages
abbrev pub grown_true_count : ℕ → ℕ → ℕ → ℕ
grown_true_count hash counted count = if hash == counted then one_more count else count

-- the true count of a hash once another or the same one is counted
abbrev pub true_count_after_increment : Option Table → ℕ → ℕ → ℕ → ℕ
true_count_after_increment None hash counted count = count
true_count_after_increment (Some t) hash counted count =
    if ages t counted then grown_true_count hash counted count / 2 else grown_true_count hash counted count

-- the true count of a hash once the sketch has a table for so many entries: in a new one nothing is counted
abbrev pub true_count_after_ensure_capacity : Option Table → ℕ → ℕ → ℕ
true_count_after_ensure_capacity sketch cap count = if nat_le (table_len_for cap) (table_len sketch) then count else 0
