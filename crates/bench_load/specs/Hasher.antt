-- What a contract sees of the hasher of a play.
use Rattle.std.specs.Prelude.{◌==◌, ℕ, ◌*◌, ◌%◌, ◌^◌, List, length, bit_xor, if◌then◌else◌}
use Rattle.std.specs.Int.{w64, from_le_bytes, rotate_left}
use Rattle.bench_load.specs.declared.play.hasher.MultiplyHasher.{MultiplyHasher}
use Rattle.bench_load.specs.declared.play.constants.TheConstants.{MULTIPLIER, ROTATION}

-- the hash after a word was mixed into it
abbrev pub mixed : ℕ → ℕ → ℕ
mixed number word = bit_xor (rotate_left w64 number ROTATION) word * MULTIPLIER % 2 ^ 64

-- the hasher after a write: eight bytes are mixed in as a word, the lowest first
abbrev pub hasher_after : MultiplyHasher → List ℕ → MultiplyHasher
hasher_after hasher bytes =
    if length bytes == 8 then (record { number = mixed hasher.number (from_le_bytes w64 bytes) }) else hasher
