-- What an insert leaves that is refused its own time to live.
use Rattle.std.specs.Prelude.{◌≡◌, IsSome, None}
use Rattle.moka_unsync_model.specs.CacheState.{CacheState}
use Rattle.moka_unsync_model.specs.Insert.{IsRefused}
use Rattle.moka_unsync.specs.declared.error.TimedInsertError.{TimedInsertError}
use Rattle.moka_unsync.specs.declared.error.TimedInsertError.TheVariants.{NoTimeToLive, OutOfMemory}

-- Either the cache has no time to live, and all is as it was; or there was no room for one more entry.
abbrev pub IsTimedRefused : {K V S W : Type 0} → TimedInsertError → CacheState K V S W → CacheState K V S W → Type 0
IsTimedRefused NoTimeToLive old new = (old.settings.policy.time_to_live ≡ None) × (new ≡ old)
IsTimedRefused OutOfMemory old new = IsSome old.settings.policy.time_to_live × IsRefused old new
