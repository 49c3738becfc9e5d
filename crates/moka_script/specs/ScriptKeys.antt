-- The keys of scripts: numbers that are hashed to themselves.
use Rattle.std.specs.Prelude.{◌==◌, ℕ, List, length, nat_eq, if◌then◌else◌}
use Rattle.std.specs.Int.{w64, from_le_bytes}
use Rattle.std.specs.Hash.{u64}
use Rattle.moka_common.specs.Keys.{Keys, keys_by}
use Rattle.moka_script.specs.declared.keys.KeyHasher.{KeyHasher}
use Rattle.moka_script.specs.declared.keys.KeyState.{KeyState}

-- the hasher after a write: it has the number that eight bytes are, the lowest first
abbrev pub hasher_after : KeyHasher → List ℕ → KeyHasher
hasher_after hasher bytes = if length bytes == 8 then (record { number = from_le_bytes w64 bytes }) else hasher

-- how a script's cache tells its keys apart and hashes them
abbrev pub script_keys : Keys ℕ KeyState
script_keys = keys_by (record { eq = nat_eq; hash_input = u64 }) (record { build_hasher = λ _. record { number = 0 } })
    (record { write = hasher_after; finish = λ hasher. hasher.number })
