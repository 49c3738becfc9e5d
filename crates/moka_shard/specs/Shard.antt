-- What a contract sees of a shard of the map.
use Rattle.std.specs.Prelude.{ℕ, List, Option, None, Some, slice_index_or, filter_map, if◌then◌else◌}
use Rattle.moka_common.specs.Settings.{Settings}
use Rattle.moka_sync_model.specs.CoreState.{is_expired}
use Rattle.moka_sync_model.specs.Entry.{Entry}
use Rattle.moka_sync_model.specs.Parts.{ShardState}

-- its number, the number of its next ticket, the entry or nothing in each slot, and the hash state of its keys
pub record Shard (K V S : Type 0) : Type 0 where
  pub number : ℕ
  pub next_number : ℕ
  pub slots : List (Option (Entry K V))
  pub hash_state : S

module _ {K V : Type 0} where
  -- the entries in the slots
  abbrev pub entries_in : List (Option (Entry K V)) → List (Entry K V)
  entries_in slots = filter_map (λ slot. slot) slots

  -- the entry in a slot
  abbrev pub entry_in : List (Option (Entry K V)) → ℕ → Option (Entry K V)
  entry_in slots slot = slice_index_or slots slot None

  -- the entry in a slot that a search has found, or nothing where it has found none
  abbrev pub entry_found : List (Option (Entry K V)) → Option ℕ → Option (Entry K V)
  entry_found slots None = None
  entry_found slots (Some slot) = entry_in slots slot

  module _ {S : Type 0} where
    -- the shard of the definitions, which has no slots
    abbrev pub state_of : Shard K V S → ShardState K V S
    state_of shard = record {
      number = shard.number;
      next_number = shard.next_number;
      entries = entries_in shard.slots;
      hash_state = shard.hash_state;
    }

    -- an entry, if it counts at a moment
    abbrev pub unexpired : Settings S → ℕ → ℕ → Option (Entry K V) → Option (Entry K V)
    unexpired settings valid_after now None = None
    unexpired settings valid_after now (Some e) = if is_expired settings valid_after now e then None else Some e
