-- What a session finds of what it has written and hidden, and of what it has learned.
use Rattle.std.specs.Prelude.{◌≡◌, ◌≤◌, ℕ, false, ◌∷◌, ◌++◌, Option, Some, IfSome, Ok}
use Rattle.moka_common.specs.Keys.{Keys}
use Rattle.moka_common.specs.Settings.{Settings}
use Rattle.moka_row.specs.Visits.{GoesOn, at}
use Rattle.moka_history.specs.LastWrite.{IsCurrent, LastWrite, is_removed, is_written, last_write}
use Rattle.moka_history.specs.Steps.{Act, Step, acts}
use Rattle.moka_locks.specs.History.{Every, Knows, Log, MakesIn, Visit, moment_of, place_of, rest, steps}
use Rattle.moka_locks.specs.Tells.{Gets}

module _ {K V S : Type 0} (keys : Keys K S) where
  -- a step is no accepted insert at a key, and doesn't invalidate or remove it
  abbrev pub Spares : K → Step K V S → Type 0
  Spares key step = (is_written keys.eq step.act key ≡ false) × (is_removed keys.eq step.act key ≡ false)

  module _ (settings : Settings S) where
    -- what is found after one's own write: a clone of the value, unless a visit of another since wrote, invalidated or removed the key
    pub record FindsOwn (is_clone : V → V → Type 0) (old : Knows K V S) (key : K) (value : V) (found : Option V) (new : Knows K V S) : Type 0 where
      pub write : Visit K V S
      pub read : Visit K V S
      pub between : Log K V S
      pub earlier : Log K V S
      pub seen : at new.seen (place_of keys settings key) ≡ (old.by, read) ∷ (between ++ (old.by, write) ∷ earlier)
      pub own : (copy : V) → found ≡ Some copy → Every (λ visit. Every (Spares key) visit.1) between → is_clone value copy

    -- what is found after an invalidation of all: a clone of the value last written, if it was written at the invalidation's moment or later, and if its
    -- last use wasn't before it either
    abbrev pub FindsSince : (V → V → Type 0) → ℕ → K → Option V → Knows K V S → Type 0
    FindsSince is_clone moment key found new =
        (copy : V) → found ≡ Some copy
        → (write : LastWrite V) × (last_write keys.eq key (acts (steps (rest (at new.seen (place_of keys settings key))))) ≡ Some write)
        × is_clone write.value copy × (moment ≤ write.written) × (moment ≤ write.used)

    -- What a moment hides, no call finds that comes later in the history of a shard than these visits, whoever makes it: each call there hides no less, so a
    -- get finds what was written at the moment or later, and what was last used no earlier.
    pub record StaysHidden (is_clone : V → V → Type 0) (moment i : ℕ) (log : Log K V S) : Type 0 where
      pub calls : (old new : Knows K V S) (act : Act K V) → MakesIn keys settings old i act new → GoesOn log (rest (at new.seen i))
          → IfSome (moment_of act) (λ later. moment ≤ later)
      pub gets : (old new : Knows K V S) (key : K) (now valid_after : ℕ) (found : Option V)
          → Gets keys settings is_clone old key now valid_after (Ok found) new → place_of keys settings key ≡ i
          → GoesOn log (rest (at new.seen i)) → FindsSince is_clone moment key found new

    -- what is found after a note was learned: a clone of the value last written, and valid, in a history that goes on from the note
    pub record FindsFromNote (is_clone : V → V → Type 0) (noted : Log K V S) (key : K) (now valid_after : ℕ) (found : Option V) : Type 0 where
      pub since : Log K V S
      pub current : (copy : V) → found ≡ Some copy
          → (value : V) × is_clone value copy × IsCurrent keys.eq settings.policy valid_after now (acts (steps (since ++ noted))) key value
