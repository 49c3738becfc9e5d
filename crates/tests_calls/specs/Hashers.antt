-- Keys that are hashed to themselves.
use Rattle.std.specs.Prelude.{◌==◌, ℕ, List, length, if◌then◌else◌}
use Rattle.std.specs.Int.{w64, from_le_bytes}
use Rattle.tests_calls.specs.declared.hashers.OwnHasher.{OwnHasher}

-- the hasher after a write: it has the number that eight bytes are, the lowest first
abbrev pub hasher_after : OwnHasher → List ℕ → OwnHasher
hasher_after hasher bytes = if length bytes == 8 then (record { number = from_le_bytes w64 bytes }) else hasher
