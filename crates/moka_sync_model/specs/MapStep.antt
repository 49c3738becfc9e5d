-- The atomic steps on the map: what each replies and what it leaves.
use Rattle.std.specs.Prelude.{◌≡◌, ℕ, ◌+◌, ◌==◌, ◌&&◌, not, Bool, true, false, List, [], ◌∷◌, ◌++◌, filter, map}
use Rattle.std.specs.Prelude.{slice_index, slice_set, Option, None, Some, MatchBool, if◌then◌else◌}
use Rattle.std.specs.Option.{option_map_or}
use Rattle.moka_common.specs.Keys.{Keys}
use Rattle.moka_sync_model.specs.declared.constants.TheConstants.{MAX_OUTSTANDING, NO_TICKET}
use Rattle.moka_sync_model.specs.declared.event.Reply.TheVariants.{Done, Found, Rows}
use Rattle.moka_sync_model.specs.declared.event.Reply.TheVariants.{OutOfMemory, TicketsUsedUp}
use Rattle.moka_sync_model.specs.Ticket.{shard_of, without, changed}
use Rattle.moka_sync_model.specs.Entry.{Entry, updated}
use Rattle.moka_sync_model.specs.declared.operation.Read.TheVariants.{Hit, Miss}
use Rattle.moka_sync_model.specs.declared.operation.Write.TheVariants.{Upsert, Remove}
use Rattle.moka_sync_model.specs.declared.operation.Operation.TheVariants.{Reading, Writing}
use Rattle.moka_sync_model.specs.CoreState.{CoreState, is_expired, with_pending}
use Rattle.moka_sync_model.specs.Reply.{Reply}

-- one more stands somewhere among the entries
pub record AddsEntry {K V : Type 0} (old : List (Entry K V)) (entry : Entry K V) (new : List (Entry K V)) : Type 0 where
  pub before : List (Entry K V)
  pub behind : List (Entry K V)
  pub was : old ≡ before ++ behind
  pub is : new ≡ before ++ entry ∷ behind

module _ {K V S : Type 0} (keys : Keys K S) where
  -- the entry of a key that is not there, with the next ticket of its shard
  abbrev pub fresh_entry : CoreState K V S → K → V → ℕ → ℕ → Entry K V
  fresh_entry core key value weight now =
      let hash = keys.hash_of core.settings.hash_state key in
      record {
        key = key;
        value = value;
        weight = weight;
        accessed = now;
        modified = now;
        ticket = record { hash = hash; number = slice_index core.next_numbers (shard_of hash) };
        outstanding = 1;
      }

  -- this is the reply, and nothing has changed
  abbrev pub OnlyReplies : CoreState K V S → Reply K V → Reply K V → CoreState K V S → Type 0
  OnlyReplies old why reply new = (reply ≡ why) × (new ≡ old)

  -- an entry is replaced
  abbrev pub IsUpdate : CoreState K V S → ℕ → Entry K V → V → ℕ → ℕ → Reply K V → CoreState K V S → Type 0
  IsUpdate old caller e value now weight reply new =
      (reply ≡ Done)
      × (new ≡ record old {
        entries = changed (λ x. x.ticket) e.ticket (updated value weight now) old.entries;
        pending = with_pending caller (Writing (Upsert e.ticket)) old;
      })

  -- an entry is added
  abbrev pub IsAddition : CoreState K V S → ℕ → Entry K V → Reply K V → CoreState K V S → Type 0
  IsAddition old caller e reply new =
      (entries : List (Entry K V)) × AddsEntry old.entries e entries × (reply ≡ Done)
      × (new ≡ record old {
        entries = entries;
        next_numbers = slice_set old.next_numbers (shard_of e.ticket.hash) (e.ticket.number + 1);
        pending = with_pending caller (Writing (Upsert e.ticket)) old;
      })

  -- an insert with this answer of the weigher and this word on memory, by the entry that stands at the key
  abbrev pub IsInsert : CoreState K V S → ℕ → K → V → ℕ → ℕ → Bool → Option (Entry K V) → Reply K V → CoreState K V S → Type 0
  IsInsert old caller key value now weight true present reply new = OnlyReplies old OutOfMemory reply new
  IsInsert old caller key value now weight false (Some e) reply new =
      MatchBool (e.outstanding == MAX_OUTSTANDING) (OnlyReplies old TicketsUsedUp reply new)
      (IsUpdate old caller e value now weight reply new)
  IsInsert old caller key value now weight false None reply new =
      MatchBool ((fresh_entry old key value weight now).ticket.number == NO_TICKET)
      (OnlyReplies old TicketsUsedUp reply new) (IsAddition old caller (fresh_entry old key value weight now) reply new)

  -- a get has found nothing that counts: its miss is pending
  abbrev pub IsMiss : CoreState K V S → ℕ → K → Reply K V → CoreState K V S → Type 0
  IsMiss old caller key reply new =
      (reply ≡ Found None)
      × (new ≡ record old { pending = with_pending caller (Reading (Miss (keys.hash_of old.settings.hash_state key))) old })

  -- a get has found this entry: its hit is pending
  abbrev pub IsHit : CoreState K V S → ℕ → Entry K V → ℕ → Reply K V → CoreState K V S → Type 0
  IsHit old caller e now reply new =
      (reply ≡ Found (Some e.value)) × (new ≡ record old { pending = with_pending caller (Reading (Hit e.ticket now)) old })

  -- a get, by the entry that stands at the key: only a copy of its value can be refused
  abbrev pub IsGet : CoreState K V S → ℕ → K → ℕ → Bool → Option (Entry K V) → Reply K V → CoreState K V S → Type 0
  IsGet old caller key now refused None reply new = IsMiss old caller key reply new
  IsGet old caller key now refused (Some e) reply new =
      MatchBool (is_expired old.settings old.valid_after now e) (IsMiss old caller key reply new)
      (MatchBool refused (OnlyReplies old OutOfMemory reply new) (IsHit old caller e now reply new))

  -- an invalidation, by the entry that stands at the key
  abbrev pub IsInvalidation : CoreState K V S → ℕ → Option (Entry K V) → Reply K V → CoreState K V S → Type 0
  IsInvalidation old caller None reply new = OnlyReplies old Done reply new
  IsInvalidation old caller (Some e) reply new =
      (reply ≡ Done)
      × (new ≡ record old {
        entries = without (λ x. x.ticket) e.ticket old.entries;
        pending = with_pending caller (Writing (Remove e.ticket)) old;
      })

  -- the value of the entry that stands at a key, if it counts at a moment
  abbrev pub value_taken : CoreState K V S → ℕ → Option (Entry K V) → Option V
  value_taken core now None = None
  value_taken core now (Some e) = if is_expired core.settings core.valid_after now e then None else Some e.value

  -- a removal, by the entry that stands at the key: it leaves what an invalidation leaves, and replies the value if it counts
  abbrev pub IsTaking : CoreState K V S → ℕ → ℕ → Option (Entry K V) → Reply K V → CoreState K V S → Type 0
  IsTaking old caller now present reply new =
      (reply ≡ Found (value_taken old now present)) × IsInvalidation old caller present Done new

  -- whether there is an entry that counts at a moment
  abbrev pub is_fresh : CoreState K V S → ℕ → Option (Entry K V) → Bool
  is_fresh core now present = option_map_or (λ e. not (is_expired core.settings core.valid_after now e)) present false

  -- the unexpired pairs of a shard
  abbrev pub pairs_of : CoreState K V S → ℕ → ℕ → List (K × V)
  pairs_of core shard now =
      map (λ e. (e.key, e.value))
      (filter (λ e. (shard_of e.ticket.hash == shard) && not (is_expired core.settings core.valid_after now e)) core.entries)

  -- a copy of these pairs: only a pair that is shared can be refused
  abbrev pub IsCopy : CoreState K V S → List (K × V) → Bool → Reply K V → CoreState K V S → Type 0
  IsCopy old [] refused reply new = OnlyReplies old (Rows []) reply new
  IsCopy old (pair ∷ pairs) refused reply new =
      MatchBool refused (OnlyReplies old OutOfMemory reply new) (OnlyReplies old (Rows (pair ∷ pairs)) reply new)
