-- The steps on a shard: what each answers and what it leaves.
use Rattle.std.specs.Prelude.{◌≡◌, ℕ, ◌+◌, ◌==◌, not, Bool, true, false, List, map, filter, Option, None, Some, MatchBool}
use Rattle.std.specs.Prelude.{Result, Ok, Err}
use Rattle.moka_common.specs.Settings.{Settings}
use Rattle.moka_common.specs.declared.error.InsertError.{InsertError}
use Rattle.moka_common.specs.declared.error.InsertError.TheVariants.{OutOfMemory, TicketsUsedUp}
use Rattle.moka_sync_model.specs.declared.constants.TheConstants.{MAX_OUTSTANDING, NO_TICKET}
use Rattle.moka_sync_model.specs.declared.ticket.Ticket.{Ticket}
use Rattle.moka_sync_model.specs.Ticket.{changed, without}
use Rattle.moka_sync_model.specs.CoreState.{is_expired}
use Rattle.moka_sync_model.specs.Entry.{Entry, updated}
use Rattle.moka_sync_model.specs.MapStep.{AddsEntry}
use Rattle.moka_sync_model.specs.Parts.{ShardState}

module _ {K V S : Type 0} where
  -- the entry of a key that is not there, with the shard's next ticket
  abbrev pub fresh_entry : ShardState K V S → ℕ → K → V → ℕ → ℕ → Entry K V
  fresh_entry shard hash key value weight now = record {
    key = key;
    value = value;
    weight = weight;
    accessed = now;
    modified = now;
    ticket = record { hash = hash; number = shard.next_number };
    outstanding = 1;
  }

  -- this is the answer, and nothing has changed
  abbrev pub OnlyAnswers : {T : Type 0} → ShardState K V S → T → T → ShardState K V S → Type 0
  OnlyAnswers old why answer new = (answer ≡ why) × (new ≡ old)

  -- an entry is replaced, and keeps its ticket
  abbrev pub IsUpdate : ShardState K V S → Entry K V → V → ℕ → ℕ → Result Ticket InsertError → ShardState K V S → Type 0
  IsUpdate old e value weight now answer new =
      (answer ≡ Ok e.ticket) × (new ≡ record old { entries = changed (λ x. x.ticket) e.ticket (updated value weight now) old.entries })

  -- an entry is added, with the shard's next ticket
  abbrev pub IsAddition : ShardState K V S → Entry K V → Result Ticket InsertError → ShardState K V S → Type 0
  IsAddition old e answer new =
      (entries : List (Entry K V)) × AddsEntry old.entries e entries × (answer ≡ Ok e.ticket)
      × (new ≡ record old { entries = entries; next_number = old.next_number + 1 })

  -- an insert with this answer of the weigher and this word on memory, by the entry that stands at the key
  abbrev pub IsInsert : ShardState K V S → ℕ → K → V → ℕ → ℕ → Bool → Option (Entry K V) → Result Ticket InsertError → ShardState K V S
      → Type 0
  IsInsert old hash key value weight now true present answer new = OnlyAnswers old (Err OutOfMemory) answer new
  IsInsert old hash key value weight now false (Some e) answer new =
      MatchBool (e.outstanding == MAX_OUTSTANDING) (OnlyAnswers old (Err TicketsUsedUp) answer new)
      (IsUpdate old e value weight now answer new)
  IsInsert old hash key value weight now false None answer new =
      MatchBool (old.next_number == NO_TICKET) (OnlyAnswers old (Err TicketsUsedUp) answer new)
      (IsAddition old (fresh_entry old hash key value weight now) answer new)

  -- an invalidation, by the entry that stands at the key
  abbrev pub IsInvalidation : ShardState K V S → Option (Entry K V) → Option Ticket → ShardState K V S → Type 0
  IsInvalidation old None answer new = OnlyAnswers old None answer new
  IsInvalidation old (Some e) answer new =
      (answer ≡ Some e.ticket) × (new ≡ record old { entries = without (λ x. x.ticket) e.ticket old.entries })

  -- the unexpired pairs
  abbrev pub pairs_at : Settings S → ℕ → ℕ → ShardState K V S → List (K × V)
  pairs_at settings valid_after now shard =
      map (λ e. (e.key, e.value)) (filter (λ e. not (is_expired settings valid_after now e)) shard.entries)
