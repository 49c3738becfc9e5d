-- How a table of counters is laid out in groups of 16 bits, four groups a word. No clause of a sketch cites this module, but those of the functions
-- that age groups do.
use Rattle.std.specs.Prelude.{ℕ, zero, suc, ◌≡◌, ◌*◌, ◌/◌, ◌%◌, ◌<◌, ◌≤◌, List, [], ◌∷◌, ◌++◌, length, Option, Some, None, bit_and}
use Rattle.std.specs.Int.{IsPowerOfTwo}
use Rattle.moka_common.specs.Sketch.{Table}
use Rattle.moka_common.specs.declared.constants.TheConstants.{GROUPS_PER_WORD, MAX_TABLE_LEN}

-- the lowest digits of a number in base 16
unfoldable pub digits : ℕ → ℕ → List ℕ
digits zero n = []
digits (suc k) n = n % 16 ∷ digits k (n / 16)

-- the counters of a group, that of depth 0 in the lowest bits
unfoldable pub counters_of_group : ℕ → List ℕ
counters_of_group group = digits 4 group

-- the counters of the groups, one group after another
unfoldable pub counters_of : List ℕ → List ℕ
counters_of [] = []
counters_of (group ∷ groups) = counters_of_group group ++ counters_of groups

-- a group with each counter halved, rounded down: a shift by one, without the bits that come from the next counter
abbrev pub halved_group : ℕ → ℕ
halved_group group = bit_and (group / 2) 0x7777

-- how many places the groups make
abbrev pub slot_count : List ℕ → ℕ
slot_count groups = length groups / GROUPS_PER_WORD

-- the table of these groups
abbrev pub table_of : List ℕ → ℕ → ℕ → Table
table_of groups sample size = record { places = slot_count groups; sample = sample; size = size; counters = counters_of groups }

-- the sketch of these groups: with none it is off
abbrev pub unpacked : List ℕ → ℕ → ℕ → Option Table
unpacked [] sample size = None
unpacked (group ∷ groups) sample size = Some (table_of (group ∷ groups) sample size)

-- what holds of the groups of a table
pub record IsTablePacked (groups : List ℕ) (sample size : ℕ) : Type 0 where
  pub whole : length groups ≡ GROUPS_PER_WORD * slot_count groups
  pub power : IsPowerOfTwo (slot_count groups)
  pub within : slot_count groups ≤ MAX_TABLE_LEN
  pub sampled : size < sample

-- what holds of the groups of a sketch
abbrev pub IsPacked : List ℕ → ℕ → ℕ → Type 0
IsPacked groups sample size = 0 < length groups → IsTablePacked groups sample size
