-- What a contract sees of a cache with a listener, and of its builder.
use Rattle.moka_unsync_model.specs.CacheState.{CacheState}
use Rattle.moka_unsync.specs.Builder.{Builder}

-- the cache, and the listener as it is by now
pub record Notifying (K V S W L : Type 0) : Type 0 where
  pub cache : CacheState K V S W
  pub listener : L

-- a builder, and the listener that its cache is to have
pub record NotifyingBuilder (W L : Type 0) : Type 0 where
  pub builder : Builder W
  pub listener : L
