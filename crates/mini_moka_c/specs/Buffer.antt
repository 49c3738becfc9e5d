-- What a contract sees of a buffer that a found value is copied to.
use Rattle.std.specs.Prelude.{◌≡◌, ℕ, Bool, true, false, List, ◌++◌, drop, length, nat_le, Option, Some, None, option_map, if◌then◌else◌}
use Rattle.moka_unsync.specs.Invalidate.{after_invalidate}
use Rattle.moka_unsync.specs.Lookup.{found_by_get, found_by_peek}
use Rattle.mini_moka_c.specs.ByteKeys.{ByteCacheState, byte_keys}

-- the buffer once what was found lies at its beginning, if anything was found and it is long enough
abbrev pub copied_to : List ℕ → Option (List ℕ) → List ℕ
copied_to buffer None = buffer
copied_to buffer (Some found) = if nat_le (length found) (length buffer) then found ++ drop (length found) buffer else buffer

-- whether what was found, if anything was, is longer than a buffer
abbrev pub is_longer : Option (List ℕ) → List ℕ → Bool
is_longer None buffer = false
is_longer (Some found) buffer = if nat_le (length found) (length buffer) then false else true

-- where its value is longer than the buffer, the length is told and all is as it was; else the entry left, and its value was told and copied
abbrev pub IsTakenIf : Bool → ByteCacheState → List ℕ → ℕ → List ℕ → ByteCacheState → List ℕ → Option ℕ → Type 0
IsTakenIf true old key now buffer new filled told =
    (told ≡ option_map length (found_by_peek byte_keys old key now)) × (new ≡ old) × (filled ≡ buffer)
IsTakenIf false old key now buffer new filled told =
    (told ≡ option_map length (found_by_get byte_keys old key now)) × (new ≡ after_invalidate byte_keys old key now)
    × (filled ≡ copied_to buffer (found_by_get byte_keys old key now))

-- a removal, which first looks how long the value is
abbrev pub IsTaken : ByteCacheState → List ℕ → ℕ → List ℕ → ByteCacheState → List ℕ → Option ℕ → Type 0
IsTaken old key now buffer new filled told =
    IsTakenIf (is_longer (found_by_peek byte_keys old key now) buffer) old key now buffer new filled told
