-- How the map lies in shards. No public clause cites this module.
use Rattle.std.specs.Prelude.{◌≡◌, ℕ, suc, List, [], ◌∷◌, map, length}
use Rattle.moka_common.specs.Keys.{Keys}
use Rattle.moka_common.specs.Settings.{Settings}
use Rattle.moka_sync_model.specs.declared.constants.TheConstants.{SHARDS}
use Rattle.moka_sync_model.specs.Parts.{ShardState, IsValidShard, entries_of}
use Rattle.moka_shard.specs.Shard.{Shard, state_of}
use Rattle.moka_core.specs.MapState.{MapState}

module _ {K V S : Type 0} where
  -- the shard has this number and this hash state, and keeps what every shard keeps
  pub record IsOwnShard (keys : Keys K S) (state : S) (number : ℕ) (shard : ShardState K V S) : Type 0 where
    pub numbered : shard.number ≡ number
    pub shared : shard.hash_state ≡ state
    pub valid : IsValidShard keys shard

  -- the shards are numbered from this number on
  abbrev pub AreOwnFrom : Keys K S → S → ℕ → List (ShardState K V S) → Type 0
  AreOwnFrom keys state number [] = Unit {0}
  AreOwnFrom keys state number (shard ∷ shards) = IsOwnShard keys state number shard × AreOwnFrom keys state (suc number) shards

  -- all shards are there
  pub record AreOwn (keys : Keys K S) (state : S) (shards : List (ShardState K V S)) : Type 0 where
    pub count : length shards ≡ SHARDS
    pub each : AreOwnFrom keys state 0 shards

  -- the shards of the definitions
  abbrev pub states_of : List (Shard K V S) → List (ShardState K V S)
  states_of shards = map state_of shards

  -- the map that shards make up
  abbrev pub map_in : Settings S → List (ShardState K V S) → MapState K V S
  map_in settings shards =
      record { settings = settings; entries = entries_of shards; next_numbers = map (λ s. s.next_number) shards }

  -- the shard has no entry, and gives out this number next
  pub record IsAsBuilt (number : ℕ) (shard : ShardState K V S) : Type 0 where
    pub empty : shard.entries ≡ []
    pub next : shard.next_number ≡ number

  -- the shard gives out the numbers from this one on
  abbrev pub started : ℕ → Shard K V S → Shard K V S
  started first shard = record shard { next_number = first }
