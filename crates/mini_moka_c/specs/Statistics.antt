-- What a contract sees of the counts of calls, and of the entries that leave.
use Rattle.std.specs.Prelude.{ℕ, zero, suc, ◌+◌, ◌-◌, ◌^◌, Bool, true, false, Option, Some, None, is_some, length, min}
use Rattle.moka_common.specs.Keys.{Keys}
use Rattle.moka_common.specs.Policy.{Policy}
use Rattle.moka_unsync_model.specs.CacheState.{CacheState}
use Rattle.moka_unsync_model.specs.Contents.{entry_at}
use Rattle.moka_unsync_model.specs.Invalidate.{after_remove_expired}
use Rattle.moka_unsync_model.specs.Lookup.{after_look}
use Rattle.moka_unsync_model.specs.Cleanup.{after_expiry}
use Rattle.moka_unsync_model.specs.Told.{cause_at}
use Rattle.moka_unsync_model.specs.declared.entry.Entry.{Entry}
use Rattle.moka_unsync_model.specs.declared.listener.Cause.{Cause}
use Rattle.moka_unsync_model.specs.declared.listener.Cause.TheVariants as cause
use Rattle.mini_moka_c.specs.declared.statistics.Statistics.{Statistics}

-- nothing was counted
abbrev pub no_statistics : Statistics
no_statistics =
    record { hits = 0; misses = 0; inserts = 0; updates = 0; rejections = 0; evictions = 0; expirations = 0; removals = 0 }

-- a count with one more, as far as 64 bits tell
abbrev pub one_more : ℕ → ℕ
one_more count = min (count + 1) (2 ^ 64 - 1)

-- the counts with one more get, that found a value or none
abbrev pub with_get : Bool → Statistics → Statistics
with_get true counts = record counts { hits = one_more counts.hits }
with_get false counts = record counts { misses = one_more counts.misses }

-- the counts with one more insert
abbrev pub with_insert : Statistics → Statistics
with_insert counts = record counts { inserts = one_more counts.inserts }

-- the counts once one more entry left for a cause
abbrev pub with_one : Cause → Statistics → Statistics
with_one cause.Size counts = record counts { evictions = one_more counts.evictions }
with_one cause.Expired counts = record counts { expirations = one_more counts.expirations }
with_one cause.Explicit counts = record counts { removals = one_more counts.removals }
with_one cause.Replaced counts = record counts { updates = one_more counts.updates }
with_one cause.Rejected counts = record counts { rejections = one_more counts.rejections }

-- the counts once so many more entries left for a cause
abbrev pub with_left : ℕ → Cause → Statistics → Statistics
with_left zero cause counts = counts
with_left (suc more) cause counts = with_left more cause (with_one cause counts)

-- the counts after a removal, which returned a value or none
abbrev pub with_removal : Bool → Statistics → Statistics
with_removal true counts = with_one cause.Explicit counts
with_removal false counts = counts

-- the counts once an entry that was found is removed, if there is one: an expired one counts as such
abbrev pub with_found : {K V : Type 0} → Policy → ℕ → Option (Entry K V) → Statistics → Statistics
with_found policy now None counts = counts
with_found policy now (Some e) counts = with_one (cause_at policy now e cause.Explicit) counts

-- the counts once an entry was put in a cache of so many, which has so many then: its key had an entry, which may have been expired, or had none and has one
-- or not
abbrev pub with_put : {K V : Type 0} → Policy → ℕ → Option (Entry K V) → Bool → ℕ → ℕ → Statistics → Statistics
with_put policy now (Some there) stands before after counts = with_one (cause_at policy now there cause.Replaced) counts
with_put policy now None true before after counts = with_left (before + 1 - after) cause.Size counts
with_put policy now None false before after counts = with_one cause.Rejected (with_left (before - after) cause.Size counts)

module _ {K V S W : Type 0} (keys : Keys K S) (old : CacheState K V S W) (now : ℕ) where
  -- the counts once cleanup removed expired entries, and then entries above the limit
  abbrev pub with_cleanup : Statistics → Statistics
  with_cleanup counts =
      let expired = (after_expiry keys.eq old.settings.policy now old.contents).entries in
      with_left (length expired - length (after_look keys old now).contents.entries) cause.Size
      (with_left (length old.contents.entries - length expired) cause.Expired counts)

  -- the counts once an entry was put
  abbrev pub with_insertion : K → CacheState K V S W → Statistics → Statistics
  with_insertion key new counts =
      let kept = (after_look keys old now).contents.entries in
      with_insert (with_put old.settings.policy now (entry_at keys.eq key kept) (is_some (entry_at keys.eq key new.contents.entries)) (length kept)
      (length new.contents.entries) (with_cleanup counts))

  -- the counts once the entry of a key was removed or invalidated
  abbrev pub with_remove : K → Statistics → Statistics
  with_remove key counts =
      with_found old.settings.policy now (entry_at keys.eq key (after_look keys old now).contents.entries) (with_cleanup counts)

  -- the same, unless its value is too long to be told
  abbrev pub with_taken : Bool → K → Statistics → Statistics
  with_taken true key counts = counts
  with_taken false key counts = with_remove key counts

-- the counts once all entries were removed
abbrev pub with_clearing : {K V S W : Type 0} → CacheState K V S W → Statistics → Statistics
with_clearing old counts = with_left (length old.contents.entries) cause.Explicit counts

-- the counts once all expired entries are removed
abbrev pub with_expiry : {K V S W : Type 0} → Keys K S → CacheState K V S W → ℕ → Statistics → Statistics
with_expiry keys old now counts =
    with_left (length old.contents.entries - length (after_remove_expired keys old now).contents.entries) cause.Expired counts
