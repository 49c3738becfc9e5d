-- What a contract sees of a call that drains a removed entry.
use Rattle.std.specs.Prelude.{◌≡◌, ◌&&◌, ℕ, List, length, nat_le, Option, Some, None, option_map, if◌then◌else◌}
use Rattle.mini_moka_c.specs.Buffer.{copied_to}
use Rattle.mini_moka_c.specs.Removed.{number_of, oldest, without_oldest}
use Rattle.mini_moka_c.specs.Walk.{BytePair, fitting}
use Rattle.mini_moka_c.specs.declared.cache.ByteCache.{ByteCache}
use Rattle.mini_moka_c.specs.declared.constants.TheConstants.{ABSENT, DONE, TOO_SHORT}
use Rattle.mini_moka_c.specs.declared.number_cache.NumberCache.{NumberCache}
use Rattle.mini_moka_c.specs.declared.removed.Drained.{Drained}
use Rattle.mini_moka_c.specs.declared.removed.Removed.{Removed}

-- ---- bytes

-- its key and its value
abbrev pub pair_of : Removed (List ℕ) (List ℕ) → BytePair
pair_of removed = (removed.key, removed.value)

-- their lengths, and why it left
abbrev pub drained_of : Removed (List ℕ) (List ℕ) → Drained
drained_of removed = record { key = length removed.key; value = length removed.value; cause = removed.cause }

-- the cache once this pair was drained, or none was
abbrev pub drained_by : Option BytePair → ByteCache → ByteCache
drained_by None old = old
drained_by (Some pair) old = record old { leaving = record old.leaving { removed = without_oldest old.leaving.removed } }

-- the lengths of a removed entry are written, and why it left if buffers of these lengths have it; or there was none
abbrev pub TellsDrained : Option Drained → ℕ → ℕ → ℕ → ℕ → ℕ → ℕ → Type 0
TellsDrained None keys values status key value cause = status ≡ ABSENT
TellsDrained (Some drained) keys values status key value cause =
    (status ≡ (if nat_le drained.key keys && nat_le drained.value values then DONE else TOO_SHORT))
    × (key ≡ drained.key) × (value ≡ drained.value) × (status ≡ DONE → cause ≡ number_of drained.cause)

-- the entry that left first is copied and is out of the queue, if it fits in the buffers
pub record IsDrained (keys values filled_keys filled_values : List ℕ) (status key value cause : ℕ) (old new : ByteCache) : Type 0 where
  pub told : TellsDrained (option_map drained_of (oldest old.leaving.removed)) (length keys) (length values) status key value cause
  pub key_shown : filled_keys
      ≡ copied_to keys (option_map (λ p. p.0) (fitting (option_map pair_of (oldest old.leaving.removed)) keys values))
  pub value_shown : filled_values
      ≡ copied_to values (option_map (λ p. p.1) (fitting (option_map pair_of (oldest old.leaving.removed)) keys values))
  pub step : new ≡ drained_by (fitting (option_map pair_of (oldest old.leaving.removed)) keys values) old

-- ---- numbers

-- a removed entry is written, or there was none
abbrev pub TellsRemovedOf : Option (Removed ℕ ℕ) → ℕ → ℕ → ℕ → ℕ → Type 0
TellsRemovedOf (Some removed) status key value cause =
    (status ≡ DONE) × (key ≡ removed.key) × (value ≡ removed.value) × (cause ≡ number_of removed.cause)
TellsRemovedOf None status key value cause = status ≡ ABSENT

-- the entry that left first is written, and is out of the queue
abbrev pub TellsRemoved : ℕ → ℕ → ℕ → ℕ → NumberCache → NumberCache → Type 0
TellsRemoved status key value cause old new =
    TellsRemovedOf (oldest old.leaving.removed) status key value cause
    × (new ≡ record old { leaving = record old.leaving { removed = without_oldest old.leaving.removed } })
