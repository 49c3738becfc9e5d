-- The core as it lies in parts, each of which can lie behind a lock of its own.
use Rattle.std.specs.Prelude.{◌≡◌, ◌<◌, ℕ, Bool, suc, List, [], ◌∷◌, map, slice_set, Option}
use Rattle.std.specs.List.{flat_map, All, IsDistinct}
use Rattle.moka_common.specs.Keys.{Keys}
use Rattle.moka_sync_model.specs.declared.ticket.Ticket.{Ticket}
use Rattle.moka_sync_model.specs.Ticket.{AreApart, shard_of}
use Rattle.moka_sync_model.specs.Entry.{Entry, entry_of}
use Rattle.moka_sync_model.specs.declared.operation.Read.{Read}
use Rattle.moka_sync_model.specs.declared.operation.Write.{Write}
use Rattle.moka_sync_model.specs.declared.operation.Operation.{Operation}
use Rattle.moka_sync_model.specs.CoreState.{CoreState, Maintenance}
use Rattle.moka_common.specs.Settings.{Settings}
use Rattle.moka_sync_model.specs.Turn.Plan.{Outcome, Plan, Alone, AtReads, AtWrites, AtEntry, after_change}
use Rattle.moka_sync_model.specs.Turn.Turn.{turn_at}
use Rattle.moka_sync_model.specs.declared.entry.EntryChange.{EntryChange}
use Rattle.moka_sync_model.specs.EntryChange.{change_of}

-- a shard: its number, the number of its next ticket, its entries, and the hash state of their keys
pub record ShardState (K V S : Type 0) : Type 0 where
  pub number : ℕ
  pub next_number : ℕ
  pub entries : List (Entry K V)
  pub hash_state : S

-- the core in parts
pub record Parts (K V S : Type 0) : Type 0 where
  pub settings : Settings S
  pub shards : List (ShardState K V S)
  pub valid_after : ℕ
  pub read_log : List Read
  pub write_log : List Write
  pub pending : List (ℕ × Operation)
  pub maintenance : Maintenance
  pub sync_after : Option ℕ

module _ {K V S : Type 0} where
  -- the entries of all shards
  abbrev pub entries_of : List (ShardState K V S) → List (Entry K V)
  entries_of shards = flat_map (λ s. s.entries) shards

  -- the shard has this number, and its entries belong to it
  pub record IsShard (number : ℕ) (shard : ShardState K V S) : Type 0 where
    pub numbered : shard.number ≡ number
    pub belong : All (λ e. shard_of e.ticket.hash ≡ number) shard.entries

  -- what a shard keeps by itself: keys and tickets come once, and each entry belongs to it, with its key's hash and a number given out
  pub record IsValidShard (keys : Keys K S) (shard : ShardState K V S) : Type 0 where
    pub keys_apart : IsDistinct keys.eq (map (λ e. e.key) shard.entries)
    pub tickets_apart : AreApart (λ e. e.ticket) shard.entries
    pub belong : All (λ e. shard_of e.ticket.hash ≡ shard.number) shard.entries
    pub hashed : All (λ e. e.ticket.hash ≡ keys.hash_of shard.hash_state e.key) shard.entries
    pub given_out : All (λ e. e.ticket.number < shard.next_number) shard.entries

  -- the shards are numbered from this number on
  abbrev pub AreShardsFrom : ℕ → List (ShardState K V S) → Type 0
  AreShardsFrom number [] = Unit {0}
  AreShardsFrom number (shard ∷ shards) = IsShard number shard × AreShardsFrom (suc number) shards

  -- what a look at a ticket's entry makes of its shard
  abbrev pub shard_after : Ticket → Outcome K V → ShardState K V S → ShardState K V S
  shard_after t end shard = record shard { entries = after_change t end.change shard.entries }

  -- the core that the parts make up
  abbrev pub core_of : Parts K V S → CoreState K V S
  core_of parts = record {
    settings = parts.settings;
    entries = entries_of parts.shards;
    next_numbers = map (λ s. s.next_number) parts.shards;
    valid_after = parts.valid_after;
    read_log = parts.read_log;
    write_log = parts.write_log;
    pending = parts.pending;
    maintenance = parts.maintenance;
    sync_after = parts.sync_after;
  }

  -- the parts once the shard of a ticket, given here, and the maintenance have met
  abbrev pub parts_after : Ticket → (Option (Entry K V) → Outcome K V) → ShardState K V S → Parts K V S → Parts K V S
  parts_after t looks shard parts =
      let end = looks (entry_of t shard.entries) in
      record parts { shards = slice_set parts.shards (shard_of t.hash) (shard_after t end shard); maintenance = end.maintenance }

-- what a turn needs besides the maintenance: nothing, the read log, the write log, or the shard of a ticket
pub data Need : Type 0 where
  NeedsNothing : Need
  NeedsReads : Need
  NeedsWrites : Need
  NeedsShard : Ticket → Need

-- what a plan needs
abbrev pub need_of : {K V : Type 0} → Plan K V → Need
need_of (Alone m) = NeedsNothing
need_of (AtReads looks) = NeedsReads
need_of (AtWrites looks) = NeedsWrites
need_of (AtEntry t looks) = NeedsShard t

module _ (K V : Type 0) {S : Type 0} (settings : Settings S) (valid_after : ℕ) (refused : Bool) where
  -- a turn that needs nothing
  abbrev pub TurnsAlone : Maintenance → Maintenance → Type 0
  TurnsAlone old new = turn_at {K = K} {V = V} settings valid_after refused old.phase old ≡ Alone new

  -- a turn that looks at the read log
  pub record TurnsWithReads (old new : Maintenance) (old_log new_log : List Read) : Type 0 where
    pub looks : List Read → Maintenance × List Read
    pub is : turn_at {K = K} {V = V} settings valid_after refused old.phase old ≡ AtReads looks
    pub ends : (new, new_log) ≡ looks old_log

  -- a turn that looks at the write log
  pub record TurnsWithWrites (old new : Maintenance) (old_log new_log : List Write) : Type 0 where
    pub looks : List Write → Maintenance × List Write
    pub is : turn_at {K = K} {V = V} settings valid_after refused old.phase old ≡ AtWrites looks
    pub ends : (new, new_log) ≡ looks old_log

  -- a turn that looks at a ticket's entry, and makes this of it
  pub record TurnsAtEntry (old new : Maintenance) (found : Option (Entry K V)) (change : EntryChange) : Type 0 where
    pub ticket : Ticket
    pub looks : Option (Entry K V) → Outcome K V
    pub is : turn_at settings valid_after refused old.phase old ≡ AtEntry ticket looks
    pub ends : looks found ≡ record { change = change_of change; maintenance = new }

  -- a turn that looks at an entry under its shard
  pub record TurnsWithShard (old new : Maintenance) (old_shard new_shard : ShardState K V S) : Type 0 where
    pub ticket : Ticket
    pub looks : Option (Entry K V) → Outcome K V
    pub is : turn_at settings valid_after refused old.phase old ≡ AtEntry ticket looks
    pub here : shard_of ticket.hash ≡ old_shard.number
    pub maintenance : new ≡ (looks (entry_of ticket old_shard.entries)).maintenance
    pub shard : new_shard ≡ shard_after ticket (looks (entry_of ticket old_shard.entries)) old_shard
