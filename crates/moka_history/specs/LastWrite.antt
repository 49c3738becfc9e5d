-- What the steps on a shard tell of a key: its last write, when it was used, and until when it counts.
use Rattle.std.specs.Prelude.{◌≡◌, ℕ, ◌||◌, max, Bool, false, nat_lt, List, [], ◌∷◌, Option, Some, None, option_map, Ok}
use Rattle.std.specs.Prelude.{if◌then◌else◌}
use Rattle.moka_common.specs.Moment.{idle_expired, live_expired}
use Rattle.moka_common.specs.Policy.{Policy}
use Rattle.moka_common.specs.Settings.{idle_nanos, live_nanos}
use Rattle.moka_sync_model.specs.declared.operation.Read.TheVariants.{Hit}
use Rattle.moka_sync_model.specs.declared.ticket.Ticket.{Ticket}
use Rattle.moka_sync_model.specs.Entry.{Entry}
use Rattle.moka_sync_model.specs.Phase.{Phase, ReadApply}
use Rattle.moka_sync_model.specs.Ticket.{same_ticket}
use Rattle.moka_history.specs.Steps.{Act, Inserts, Invalidates, Takes, Touches, Turns}

-- the value that was last written at a key, the moment of that write, that of the last write or of the last read that a maintenance has applied, and the
-- ticket that the write was given
pub record LastWrite (V : Type 0) : Type 0 where
  pub value : V
  pub written : ℕ
  pub used : ℕ
  pub ticket : Ticket

-- what is known of an entry's write
abbrev pub last_write_of : {K V : Type 0} → Entry K V → LastWrite V
last_write_of e = record { value = e.value; written = e.modified; used = e.accessed; ticket = e.ticket }

-- whether it counts no more: its time to idle has passed since the use or its time to live since the write, or all from before a moment are hidden
abbrev pub is_over : {V : Type 0} → Policy → ℕ → ℕ → LastWrite V → Bool
is_over policy valid_after now write =
    idle_expired (idle_nanos policy) write.used now || live_expired (live_nanos policy) write.written now
    || (nat_lt write.used valid_after || nat_lt write.written valid_after)

-- the write of this ticket was used then, or later
abbrev pub used_if : {V : Type 0} → Ticket → ℕ → LastWrite V → LastWrite V
used_if t moment write = if same_ticket t write.ticket then record write { used = max write.used moment } else write

-- what a turn at a phase tells: it may apply a read
abbrev pub known_at : {V : Type 0} → Phase → Option (LastWrite V) → Option (LastWrite V)
known_at (ReadApply work (Hit t moment)) known = option_map (used_if t moment) known
known_at phase known = known

module _ {K V : Type 0} (eq : K → K → Bool) where
  -- whether it is an accepted insert at a key
  abbrev pub is_written : Act K V → K → Bool
  is_written (Inserts other value now (Ok t)) key = eq key other
  is_written act key = false

  -- whether it invalidates or removes a key
  abbrev pub is_removed : Act K V → K → Bool
  is_removed (Invalidates other left) key = eq key other
  is_removed (Takes other now valid_after found left) key = eq key other
  is_removed act key = false

  -- what is known of a key's last write after a step: an accepted insert writes, a read that is applied uses, and an invalidation or a removal ends it
  abbrev pub known_after : Act K V → K → Option (LastWrite V) → Option (LastWrite V)
  known_after (Inserts other value now (Ok t)) key known =
      if eq key other then Some (record { value = value; written = now; used = now; ticket = t }) else known
  known_after (Invalidates other left) key known = if eq key other then None else known
  known_after (Takes other now valid_after found left) key known = if eq key other then None else known
  known_after (Touches t moment) key known = option_map (used_if t moment) known
  known_after (Turns m valid_after t) key known = known_at m.phase known
  known_after act key known = known

  -- the last write of a key that no invalidation or removal has ended, by the steps, the last one first
  abbrev pub last_write : K → List (Act K V) → Option (LastWrite V)
  last_write key [] = None
  last_write key (act ∷ earlier) = known_after act key (last_write key earlier)

  -- this value was the last one written at the key, and still counts
  abbrev pub IsCurrent : Policy → ℕ → ℕ → List (Act K V) → K → V → Type 0
  IsCurrent policy valid_after now past key value =
      (write : LastWrite V) × (last_write key past ≡ Some write) × (write.value ≡ value) × (is_over policy valid_after now write ≡ false)
