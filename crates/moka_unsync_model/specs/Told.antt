-- What a listener is told of: the entries that leave in a call, each with its cause.
use Rattle.std.specs.Prelude.{◌≡◌, ℕ, zero, suc, ◌<◌, ◌+◌, ◌-◌, ◌^◌, Bool, true, false, List, [], ◌∷◌, ◌++◌, All, length, map, min, Option, Some, None}
use Rattle.std.specs.Prelude.{if◌then◌else◌}
use Rattle.std.specs.List.Sorted.{IsPermutation}
use Rattle.moka_common.specs.Policy.{Policy}
use Rattle.moka_unsync_model.specs.Contents.{Contents, total_weight}
use Rattle.moka_unsync_model.specs.Cleanup.{after_expiry, after_cleanup, is_expired}
use Rattle.moka_unsync_model.specs.declared.entry.Entry.{Entry}
use Rattle.moka_unsync_model.specs.declared.entry.Part.TheVariants.{Probation}
use Rattle.moka_unsync_model.specs.declared.listener.Cause.{Cause}
use Rattle.moka_unsync_model.specs.declared.listener.Cause.TheVariants as cause
use Rattle.moka_unsync_model.specs.declared.listener.Statistics.{Statistics}

-- an entry, whatever its part
abbrev pub partless : {K V : Type 0} → Entry K V → Entry K V
partless entry = record entry { part = Probation }

-- the entries, whatever their parts
abbrev pub unplaced : {K V : Type 0} → List (Entry K V) → List (Entry K V)
unplaced entries = map partless entries

module _ {L K V : Type 0} (hears : L → K → V → Cause → L → Type 0) (cause : Cause) where
  -- a listener that was in one state is in another once it was told of these entries, one after another, with this cause
  abbrev pub HearsAll : L → List (Entry K V) → L → Type 0
  HearsAll before [] after = after ≡ before
  HearsAll before (e ∷ es) after = (between : L) × hears before e.key e.value cause between × HearsAll between es after

  -- each entry that was there is there, or was told of once, with this cause and for this reason, and nothing else was told of
  pub record TellsWhatLeft (Reason : Entry K V → Type 0) (were are : List (Entry K V)) (before after : L) : Type 0 where
    pub told : List (Entry K V)
    pub heard : HearsAll before told after
    pub each : IsPermutation (unplaced were) (unplaced are ++ unplaced told)
    pub reason : All Reason told

-- the cause for which an entry leaves at a moment: that its time has passed, or else this one
abbrev pub cause_at : {K V : Type 0} → Policy → ℕ → Entry K V → Cause → Cause
cause_at policy now e other = if is_expired policy now e then cause.Expired else other

-- a weight is above a limit
abbrev pub IsAbove : Option ℕ → ℕ → Type 0
IsAbove None weight = ⊥
IsAbove (Some limit) weight = limit < weight

module _ {L K V : Type 0} (hears : L → K → V → Cause → L → Type 0) where
  -- a listener was told of an entry as expired, or of nothing
  abbrev pub TellsIf : Bool → Entry K V → L → L → Type 0
  TellsIf true e before after = hears before e.key e.value cause.Expired after
  TellsIf false e before after = after ≡ before

  -- it was told of the entry that a call took out, if there was one: as expired, if it was, or else for this cause
  abbrev pub TellsTaken : Policy → ℕ → Cause → Option (Entry K V) → L → L → Type 0
  TellsTaken policy now other None before after = after ≡ before
  TellsTaken policy now other (Some e) before after = hears before e.key e.value (cause_at policy now e other) after

  -- it was told of the entry that a call found, if that was expired
  abbrev pub TellsExpired : Policy → ℕ → Option (Entry K V) → L → L → Type 0
  TellsExpired policy now None before after = after ≡ before
  TellsExpired policy now (Some e) before after = TellsIf (is_expired policy now e) e before after

  -- entries gave way, and the new one was told of last if it was not let in: all of them weigh more than this limit, which is main's
  abbrev pub TellsPut : Option ℕ → Bool → Entry K V → List (Entry K V) → List (Entry K V) → L → L → Type 0
  TellsPut limit true new were are before after =
      TellsWhatLeft hears cause.Size (λ e. IsAbove limit (total_weight were + new.weight)) (new ∷ were) are before after
  TellsPut limit false new were are before after =
      (between : L) × TellsWhatLeft hears cause.Size (λ e. IsAbove limit (total_weight were + new.weight)) were are before between
      × hears between new.key new.value cause.Rejected after × IsAbove limit (total_weight were + new.weight)

module _ {L K V : Type 0} (hears : L → K → V → Cause → L → Type 0) (eq : K → K → Bool) where
  -- a listener was told of what cleanup removes: first of entries whose time has passed, and then of entries above the limit
  pub record TellsCleanup (policy : Policy) (now : ℕ) (contents : Contents K V) (before after : L) : Type 0 where
    pub between : L
    pub expired : TellsWhatLeft hears cause.Expired (λ e. is_expired policy now e ≡ true) contents.entries
        (after_expiry eq policy now contents).entries before between
    pub above : TellsWhatLeft hears cause.Size (λ e. IsAbove policy.max_capacity (total_weight (after_expiry eq policy now contents).entries))
        (after_expiry eq policy now contents).entries (after_cleanup eq policy now contents).entries between after

-- one more, or the largest number
abbrev pub one_more : ℕ → ℕ
one_more count = min (count + 1) (2 ^ 64 - 1)

-- the counts once one more entry left for a cause
abbrev pub counted : Cause → Statistics → Statistics
counted cause.Size counts = record counts { size = one_more counts.size }
counted cause.Expired counts = record counts { expired = one_more counts.expired }
counted cause.Explicit counts = record counts { explicit = one_more counts.explicit }
counted cause.Replaced counts = record counts { replaced = one_more counts.replaced }
counted cause.Rejected counts = record counts { rejected = one_more counts.rejected }

-- the counts once so many more entries left for a cause
abbrev pub counted_times : ℕ → Cause → Statistics → Statistics
counted_times zero cause counts = counts
counted_times (suc times) cause counts = counted_times times cause (counted cause counts)

-- the counts once some entries were told of are those once so many more left
abbrev pub StatisticsCount : Type 0 → Type 0 → Type 0
StatisticsCount K V =
    (cause : Cause) (told : List (Entry K V)) (before after : Statistics) →
    HearsAll (λ old key value cause new. new ≡ counted cause old) cause before told after → after ≡ counted_times (length told) cause before
