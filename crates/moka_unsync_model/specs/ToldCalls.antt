-- What a listener is told of in each call.
use Rattle.std.specs.Prelude.{ℕ, Bool, Option, Some, None, is_some, min}
use Rattle.moka_common.specs.Keys.{Keys}
use Rattle.moka_unsync_model.specs.declared.entry.Entry.{Entry}
use Rattle.moka_unsync_model.specs.declared.listener.Cause.{Cause}
use Rattle.moka_unsync_model.specs.declared.listener.Cause.TheVariants as cause
use Rattle.moka_unsync_model.specs.declared.shares.PartLimits.{PartLimits}
use Rattle.moka_unsync_model.specs.CacheState.{CacheState, windowed}
use Rattle.moka_unsync_model.specs.Contents.{Contents, entry_at, entry_where}
use Rattle.moka_unsync_model.specs.Insert.{new_entry}
use Rattle.moka_unsync_model.specs.Lookup.{after_get}
use Rattle.moka_unsync_model.specs.Shares.{main_limit}
use Rattle.moka_unsync_model.specs.Told.{TellsExpired, TellsPut, TellsCleanup, TellsTaken, cause_at}
use Rattle.moka_unsync_model.specs.Cleanup.{after_cleanup}

-- how much main may weigh before a call and after it, whichever is less, if there is a limit
abbrev pub main_max : Option PartLimits → Option PartLimits → Option ℕ → Option ℕ
main_max None new max = max
main_max (Some old) None max = Some (main_limit old)
main_max (Some old) (Some new) max = Some (min (main_limit old) (main_limit new))

module _ {L K V S W : Type 0} (hears : L → K → V → Cause → L → Type 0) (keys : Keys K S) (old : CacheState K V S W) (now : ℕ) where
  -- what a call finds when it acts
  abbrev pub kept : Contents K V
  kept = after_cleanup keys.eq old.settings.policy now old.contents

  -- a look-up tells of what cleanup removes
  abbrev pub TellsLook : L → L → Type 0
  TellsLook before after = TellsCleanup hears keys.eq old.settings.policy now old.contents before after

  -- an invalidation tells of that, and of the entry whose key passes a test: as removed, or as expired if it was
  pub record TellsInvalidateWhere (test : K → Bool) (before after : L) : Type 0 where
    pub between : L
    pub cleanup : TellsLook before between
    pub taken : TellsTaken hears old.settings.policy now cause.Explicit (entry_where test kept.entries) between after

  -- so does that of a key
  abbrev pub TellsInvalidate : K → L → L → Type 0
  TellsInvalidate key before after = TellsInvalidateWhere (keys.eq key) before after

  -- a removal tells of that, and of the entry whose key passes a test only if it doesn't return the value
  pub record TellsRemoveWhere (test : K → Bool) (before after : L) : Type 0 where
    pub between : L
    pub cleanup : TellsLook before between
    pub found : TellsExpired hears old.settings.policy now (entry_where test kept.entries) between after

  -- so does that of a key
  abbrev pub TellsRemove : K → L → L → Type 0
  TellsRemove key before after = TellsRemoveWhere (keys.eq key) before after

  -- the entry that is put replaces a value, which is told as expired if it was, or is new: then entries may give way to it, or it is not let in
  abbrev pub TellsNew : Option (Entry K V) → K → V → CacheState K V S W → L → L → Type 0
  TellsNew (Some there) key value new before after =
      hears before key there.value (cause_at old.settings.policy now there cause.Replaced) after
  TellsNew None key value new before after =
      (weight : ℕ) × (own : Option ℕ) × TellsPut hears (main_max (windowed old) (windowed new) old.settings.policy.max_capacity) (is_some
      (entry_at keys.eq key new.contents.entries))
      (new_entry keys old.settings key value weight own now) kept.entries new.contents.entries before after

  -- an insert tells of what cleanup removes, and then of what leaves for the entry that is put
  pub record TellsInsert (key : K) (value : V) (new : CacheState K V S W) (before after : L) : Type 0 where
    pub between : L
    pub cleanup : TellsLook before between
    pub put : TellsNew (entry_at keys.eq key kept.entries) key value new between after

module _ {L K V S W : Type 0} (hears : L → K → V → Cause → L → Type 0) (keys : Keys K S) (old : CacheState K V S W) (now : ℕ) where
  -- a get or insert tells what its get does, and if that finds nothing what its insert does
  abbrev pub TellsGot : Option V → K → CacheState K V S W → L → L → Type 0
  TellsGot (Some found) key new before after = TellsLook hears keys old now before after
  TellsGot None key new before after =
      (value : V) × (between : L) × TellsLook hears keys old now before between
      × TellsInsert hears keys (after_get keys old key now) now key value new between after
