-- What a clause sees of a session, and of a note.
use Rattle.std.specs.Prelude.{ℕ, List}
use Rattle.moka_row.specs.Visits.{Lists}
use Rattle.moka_locks.specs.Cache.{Cache, CacheId}
use Rattle.moka_locks.specs.History.{Knows, Visit}

-- of which cache a session is, what it knows of the cache's shards, and the moments of the invalidations of all that it has seen, the last one first
pub record Session (K V S W : Type 0) : Type 0 where
  pub cache : Cache S W
  pub knows : Knows K V S
  pub moments : List ℕ

-- of which cache a note is, and what its session had seen: of each shard a history, and the moments
pub record Note (K V S : Type 0) : Type 0 where
  pub id : CacheId
  pub seen : Lists (ℕ × Visit K V S)
  pub moments : List ℕ
