-- What a contract sees of a cache that threads share: what doesn't change while they do.
use Rattle.std.specs.Prelude.{Option}
use Rattle.atomic_table.specs.Seated.{TableId}
use Rattle.moka_common.specs.Settings.{Settings}

-- which cache it is: its shards, and the moments of its invalidations of all
pub record CacheId : Type 0 where
  pub shards : TableId
  pub moments : TableId

-- what the shards of a cache are made by: the settings, and the moments of the invalidations of all
pub record Plan (S : Type 0) : Type 0 where
  pub settings : Settings S
  pub moments : TableId

-- the plan of these
abbrev pub plan_by : {S : Type 0} → Settings S → TableId → Plan S
plan_by settings moments = record { settings = settings; moments = moments }

-- its settings, its weigher, the counts that are published, if they are, and which cache it is
pub record Cache (S W : Type 0) : Type 0 where
  pub settings : Settings S
  pub weigher : W
  pub counted : Option TableId
  pub id : CacheId

-- the cache of these
abbrev pub new_cache : {S W : Type 0} → Settings S → W → Option TableId → CacheId → Cache S W
new_cache settings weigher counted id = record { settings = settings; weigher = weigher; counted = counted; id = id }

-- the plan of its shards
abbrev pub plan_of : {S W : Type 0} → Cache S W → Plan S
plan_of cache = plan_by cache.settings cache.id.moments
