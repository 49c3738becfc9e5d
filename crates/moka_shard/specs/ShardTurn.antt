-- A turn of the maintenance on the shard that it needs.
use Rattle.std.specs.Prelude.{◌≡◌, ℕ, Bool, Option}
use Rattle.moka_common.specs.Settings.{Settings}
use Rattle.moka_sync_model.specs.declared.ticket.Ticket.{Ticket}
use Rattle.moka_sync_model.specs.CoreState.{Maintenance}
use Rattle.moka_sync_model.specs.Entry.{Entry, entry_of}
use Rattle.moka_sync_model.specs.Parts.{ShardState, shard_after}
use Rattle.moka_sync_model.specs.Turn.Plan.{Outcome, AtEntry}
use Rattle.moka_sync_model.specs.Turn.Turn.{turn_at}

-- the turn looks at the ticket's entry in a shard, and leaves the maintenance and the shard so
pub record TurnsOnShard {K V S : Type 0} (settings : Settings S) (valid_after : ℕ) (refused : Bool) (ticket : Ticket)
    (old new : Maintenance) (old_shard new_shard : ShardState K V S) : Type 0 where
  pub looks : Option (Entry K V) → Outcome K V
  pub is : turn_at settings valid_after refused old.phase old ≡ AtEntry ticket looks
  pub maintenance : new ≡ (looks (entry_of ticket old_shard.entries)).maintenance
  pub shard : new_shard ≡ shard_after ticket (looks (entry_of ticket old_shard.entries)) old_shard
