-- What the core sees of its map, and the steps on it. No public clause cites this module.
use Rattle.std.specs.Prelude.{◌≡◌, ℕ, ◌+◌, ◌==◌, ◌&&◌, not, Bool, true, false, List, [], map, filter}
use Rattle.std.specs.Prelude.{replicate, Option, None, Some, MatchBool, slice_index, slice_set}
use Rattle.std.specs.Prelude.{Result, Ok, Err}
use Rattle.moka_common.specs.Settings.{Settings}
use Rattle.moka_common.specs.declared.error.InsertError.{InsertError}
use Rattle.moka_common.specs.declared.error.InsertError.TheVariants.{OutOfMemory, TicketsUsedUp}
use Rattle.moka_sync_model.specs.declared.constants.TheConstants.{MAX_OUTSTANDING, NO_TICKET, SHARDS}
use Rattle.moka_sync_model.specs.declared.ticket.Ticket.{Ticket}
use Rattle.moka_sync_model.specs.Ticket.{changed, shard_of, without}
use Rattle.moka_sync_model.specs.CoreState.{CoreState, is_expired}
use Rattle.moka_sync_model.specs.Entry.{Entry, updated}
use Rattle.moka_sync_model.specs.MapStep.{AddsEntry}

-- the settings, the entries of all shards, and the number of each shard's next ticket
pub record MapState (K V S : Type 0) : Type 0 where
  pub settings : Settings S
  pub entries : List (Entry K V)
  pub next_numbers : List ℕ

module _ {K V S : Type 0} where
  -- the map of a core
  abbrev pub map_of : CoreState K V S → MapState K V S
  map_of core = record { settings = core.settings; entries = core.entries; next_numbers = core.next_numbers }

  -- a core with another map
  abbrev pub with_map : MapState K V S → CoreState K V S → CoreState K V S
  with_map new core = record core { settings = new.settings; entries = new.entries; next_numbers = new.next_numbers }

  -- the map has no entry, and each shard gives out this number next
  abbrev pub IsNewMap : ℕ → MapState K V S → Type 0
  IsNewMap first map = (map.entries ≡ []) × (map.next_numbers ≡ replicate SHARDS first)

  -- the entry of a key that is not there, with the next ticket of its shard
  abbrev pub fresh_entry : MapState K V S → ℕ → K → V → ℕ → ℕ → Entry K V
  fresh_entry old hash key value weight now = record {
    key = key;
    value = value;
    weight = weight;
    accessed = now;
    modified = now;
    ticket = record { hash = hash; number = slice_index old.next_numbers (shard_of hash) };
    outstanding = 1;
  }

  -- this is the answer, and nothing has changed
  abbrev pub OnlyAnswers : {T : Type 0} → MapState K V S → T → T → MapState K V S → Type 0
  OnlyAnswers old why answer new = (answer ≡ why) × (new ≡ old)

  -- an insert with this answer of the weigher and this word on memory, by the entry that stands at the key
  abbrev pub IsInserted : MapState K V S → ℕ → K → V → ℕ → ℕ → Bool → Option (Entry K V) → Result Ticket InsertError → MapState K V S
      → Type 0
  IsInserted old hash key value weight now true present answer new = OnlyAnswers old (Err OutOfMemory) answer new
  IsInserted old hash key value weight now false (Some e) answer new =
      MatchBool (e.outstanding == MAX_OUTSTANDING) (OnlyAnswers old (Err TicketsUsedUp) answer new)
      ((answer ≡ Ok e.ticket) × (new ≡ record old { entries = changed (λ x. x.ticket) e.ticket (updated value weight now) old.entries }))
  IsInserted old hash key value weight now false None answer new =
      MatchBool ((fresh_entry old hash key value weight now).ticket.number == NO_TICKET) (OnlyAnswers old (Err TicketsUsedUp) answer new)
      ((entries : List (Entry K V)) × AddsEntry old.entries (fresh_entry old hash key value weight now) entries
      × (answer ≡ Ok (fresh_entry old hash key value weight now).ticket)
      × (new ≡ record old {
        entries = entries;
        next_numbers =
            slice_set old.next_numbers (shard_of hash) ((fresh_entry old hash key value weight now).ticket.number + 1);
      }))

  -- an invalidation, by the entry that stands at the key
  abbrev pub IsInvalidated : MapState K V S → Option (Entry K V) → Option Ticket → MapState K V S → Type 0
  IsInvalidated old None answer new = OnlyAnswers old None answer new
  IsInvalidated old (Some e) answer new =
      (answer ≡ Some e.ticket) × (new ≡ record old { entries = without (λ x. x.ticket) e.ticket old.entries })

  -- the pairs of a shard that count at a moment
  abbrev pub pairs_in : MapState K V S → ℕ → ℕ → ℕ → List (K × V)
  pairs_in old shard valid_after now =
      map (λ e. (e.key, e.value))
      (filter (λ e. (shard_of e.ticket.hash == shard) && not (is_expired old.settings valid_after now e)) old.entries)
