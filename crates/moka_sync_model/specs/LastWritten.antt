-- What callers have written at a key, by the replies that they got.
use Rattle.std.specs.Prelude.{ℕ, Bool, true, false, List, [], ◌∷◌, Option, None, Some, option_map, if◌then◌else◌}
use Rattle.moka_sync_model.specs.Entry.{Entry, entry_at}
use Rattle.moka_sync_model.specs.CoreState.{CoreState, is_expired}
use Rattle.moka_sync_model.specs.declared.event.Event.{Event}
use Rattle.moka_sync_model.specs.Reply.{Reply}
use Rattle.moka_sync_model.specs.declared.event.Event.TheVariants.{Insert, Invalidate, Take}
use Rattle.moka_sync_model.specs.declared.event.Reply.TheVariants.{Done, Found}
use Rattle.moka_sync_model.specs.Run.{Happening}

module _ {K V : Type 0} (eq : K → K → Bool) where
  -- the value last written at a key, once an event has got a reply: an accepted insert of an equal key writes
  abbrev pub written_by : K → Event K V → Reply K V → Option V → Option V
  written_by key (Insert caller k value now) Done last = if eq key k then Some value else last
  written_by key event reply last = last

  -- the same over a list of events
  abbrev pub last_written : K → List (Happening K V) → Option V → Option V
  last_written key [] last = last
  last_written key (h ∷ hs) last = last_written key hs (written_by key h.event h.reply last)

  -- the value of a plain map at a key, once an event has got a reply: an accepted insert writes, and an invalidation or a
  -- removal takes away, whatever was found
  abbrev pub mapped_by : K → Event K V → Reply K V → Option V → Option V
  mapped_by key (Insert caller k value now) Done present = if eq key k then Some value else present
  mapped_by key (Invalidate caller k now) Done present = if eq key k then None else present
  mapped_by key (Take caller k now) (Found found) present = if eq key k then None else present
  mapped_by key event reply present = present

  -- the same over a list of events
  abbrev pub mapped : K → List (Happening K V) → Option V → Option V
  mapped key [] present = present
  mapped key (h ∷ hs) present = mapped key hs (mapped_by key h.event h.reply present)

-- the entry, if it is not expired
abbrev pub live : {K V : Type 0} → Bool → Entry K V → Option (Entry K V)
live true e = None
live false e = Some e

-- the entry, if there is one that is not expired
abbrev pub live_if : {K V S : Type 0} → CoreState K V S → ℕ → Option (Entry K V) → Option (Entry K V)
live_if core now None = None
live_if core now (Some e) = live (is_expired core.settings core.valid_after now e) e

module _ {K V S : Type 0} (eq : K → K → Bool) where
  -- the value that stands at a key
  abbrev pub value_at : K → CoreState K V S → Option V
  value_at key core = option_map (λ e. e.value) (entry_at eq key core.entries)

  -- the entry that stands unexpired at a key
  abbrev pub live_at : K → ℕ → CoreState K V S → Option (Entry K V)
  live_at key now core = live_if core now (entry_at eq key core.entries)
