-- What a change of a value in place makes and tells: it is an insert of what the change leaves, or a look that finds nothing.
use Rattle.std.specs.Prelude.{◌≡◌, ℕ, Bool, true, false, [], ◌∷◌, Some, None}
use Rattle.moka_common.specs.Keys.{Keys}
use Rattle.moka_common.specs.Settings.{live_nanos}
use Rattle.moka_unsync_model.specs.declared.entry.Entry.{Entry}
use Rattle.moka_unsync_model.specs.declared.listener.Cause.{Cause}
use Rattle.moka_unsync_model.specs.Contents.{entry_at}
use Rattle.moka_unsync_model.specs.Deadline.{end_of}
use Rattle.moka_unsync_model.specs.Step.{Insert, Done}
use Rattle.moka_unsync_model.specs.History.{IsCurrent, exchanges}
use Rattle.moka_unsync_model.specs.Removal.{last_write_of}
use Rattle.moka_unsync_model.specs.ToldCalls.{TellsLook}
use Rattle.moka_row.specs.Visits.{at}
use Rattle.moka_segments.specs.declared.plan.Plan.{Plan}
use Rattle.moka_segments.specs.Plan.{place_of}
use Rattle.moka_segments.specs.Rules.{Rules}
use Rattle.moka_segments.specs.History.{Knows, Log, Visit, calls, rest}
use Rattle.moka_segments.specs.Calls.{Makes}
use Rattle.moka_segments.specs.Tells.{HitsOwn, Looks}

module _ {K V S W : Type 0} (keys : Keys K S) (weighs : W → K → V → ℕ → W → Type 0) (rules : Rules K V) (plan : Plan S) where
  -- a value that is current in the history was changed: its call there is an insert of what was left, which stands at the key then, and takes no memory
  pub record IsModified (changes : V → V → Type 0) (old : Knows K V S W) (key : K) (now : ℕ) (new : Knows K V S W) : Type 0 where
    pub found : V
    pub value : V
    pub changed : changes found value
    pub made : Makes keys weighs rules plan old (place_of plan keys key) (Insert key value None now) Done new
    pub stands : (e : Entry K V) × (entry_at keys.eq key made.made.call.after.contents.entries ≡ Some e)
        × (last_write_of e ≡ record { value = value; deadline = end_of (live_nanos plan.policy) None now; used = now })
    pub room : made.made.call.after.capacity ≡ made.made.call.before.capacity
    pub hit : IsCurrent keys plan.policy now (exchanges (calls (rest (at new.seen (place_of plan keys key))))) key found
    pub own : HitsOwn keys weighs old.by key (Some found) (at new.seen (place_of plan keys key)) (at old.mine (place_of plan keys key))
    pub met : rules.holds key found

  -- where the key has none, the call only looked
  abbrev pub Modifies : (V → V → Type 0) → Knows K V S W → K → ℕ → Bool → Knows K V S W → Type 0
  Modifies changes old key now true new = IsModified changes old key now new
  Modifies changes old key now false new = Looks keys weighs rules plan old key now false new

module _ {L K V S W : Type 0} (hears : L → K → V → Cause → L → Type 0) (keys : Keys K S) where
  -- a visit that changed a value tells of what cleanup removes, and not of the value, which stays
  abbrev pub TellsModified : ℕ → Visit K V S W → L → L → Type 0
  TellsModified now [] before after = ⊥
  TellsModified now (call ∷ earlier) before after = TellsLook hears keys call.before now before after

  -- so does the one that stands last in a history
  abbrev pub TellsModifiedLast : ℕ → Log K V S W → L → L → Type 0
  TellsModifiedLast now [] before after = ⊥
  TellsModifiedLast now (visit ∷ earlier) before after = TellsModified now visit.1 before after

  -- so does the one that stands last in the history of a key's segment
  pub record TellsModifiedAt (plan : Plan S) (key : K) (now : ℕ) (knows : Knows K V S W) (before after : L) : Type 0 where
    pub last : TellsModifiedLast now (at knows.seen (place_of plan keys key)) before after
