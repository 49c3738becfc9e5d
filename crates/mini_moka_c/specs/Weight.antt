-- What a contract sees of the weight of an entry.
use Rattle.std.specs.Prelude.{ℕ, ◌+◌, ◌-◌, ◌/◌, ◌^◌, List, length, min}
use Rattle.mini_moka_c.specs.declared.weight.ByteWeight.{ByteWeight}
use Rattle.mini_moka_c.specs.declared.weight.ByteWeight.TheVariants.{Bytes, Entry}
use Rattle.mini_moka_c.specs.declared.weight.NumberWeight.{NumberWeight}
use Rattle.mini_moka_c.specs.declared.weight.NumberWeight.TheVariants as number

-- 1, or the bytes of key and value, as far as 32 bits tell
abbrev pub weight_of : ByteWeight → List ℕ → List ℕ → ℕ
weight_of Entry key value = 1
weight_of Bytes key value = min (length key + length value) (2 ^ 32 - 1)

-- 1, or the upper half of the value
abbrev pub number_weight : NumberWeight → ℕ → ℕ
number_weight number.Entry value = 1
number_weight number.Value value = value / 2 ^ 32
