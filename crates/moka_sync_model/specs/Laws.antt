-- What a contract sees of the laws over every interleaving of steps, which `src/laws.rt` promises.
use Rattle.std.specs.Prelude.{◌≡◌, ◌≤◌, ℕ, ◌+◌, Bool, List, ◌∷◌, ◌++◌, length, Option, None, Some, option_map}
use Rattle.moka_common.specs.Keys.{Keys}
use Rattle.moka_common.specs.Settings.{Settings}
use Rattle.moka_sync_model.specs.declared.event.Event.{Event}
use Rattle.moka_sync_model.specs.declared.event.Event.TheVariants.{Insert, Get, Take}
use Rattle.moka_sync_model.specs.declared.event.Reply.TheVariants.{Done, Found}
use Rattle.moka_sync_model.specs.declared.ticket.Ticket.{Ticket}
use Rattle.moka_sync_model.specs.Entry.{Entry, entry_at, entry_of}
use Rattle.moka_sync_model.specs.CoreState.{CoreState, new_core}
use Rattle.moka_sync_model.specs.Reply.{Reply}
use Rattle.moka_sync_model.specs.Event.{IsStep}
use Rattle.moka_sync_model.specs.Run.{Happening, Runs}
use Rattle.moka_sync_model.specs.Consistent.{IsConsistent}
use Rattle.moka_sync_model.specs.RemovalCause.{RemovalCause}
use Rattle.moka_sync_model.specs.LastWritten.{value_at, live_at, last_written}
use Rattle.moka_sync_model.specs.Quiescent.{IsSettled, IsPaired, upserts_outstanding}

module _ (V : Type 0) {K S : Type 0} (keys : Keys K S) where
  -- ---- consistency

  -- a core that was built is consistent after whatever has happened
  abbrev pub StaysConsistent : Type 0
  StaysConsistent =
      (settings : Settings S) (first : ℕ) (happenings : List (Happening K V)) (core : CoreState K V S) →
      Runs keys (new_core settings first) happenings core → IsConsistent keys core

  -- so is any core that was consistent before
  abbrev pub KeepsConsistent : Type 0
  KeepsConsistent =
      (old new : CoreState K V S) (happenings : List (Happening K V)) →
      IsConsistent keys old → Runs keys old happenings new → IsConsistent keys new

  -- ---- how long an entry stands

  -- an accepted insert's entry stands: its value is at its key, and the entry is that of its ticket
  abbrev pub StandsOnceInserted : Type 0
  StandsOnceInserted =
      (old new : CoreState K V S) (caller : ℕ) (key : K) (value : V) (now weight : ℕ) (refused : Bool) →
      IsConsistent keys old → IsStep keys old (Insert caller key value now) weight refused Done new →
      (e : Entry K V) × (entry_at keys.eq key new.entries ≡ Some e) × (e.value ≡ value) × (e.weight ≡ weight)
      × (entry_of e.ticket new.entries ≡ Some e)

  -- an entry that leaves in a step has its cause there
  abbrev pub LeavesForCause : Type 0
  LeavesForCause =
      (old new : CoreState K V S) (event : Event K V) (weight : ℕ) (refused : Bool) (reply : Reply K V) (t : Ticket) (e : Entry K V) →
      IsConsistent keys old → IsStep keys old event weight refused reply new →
      entry_of t old.entries ≡ Some e → entry_of t new.entries ≡ None → RemovalCause keys old e event refused

  -- among these happenings there is one that takes the ticket's entry, for a cause of its own: the entry stands before that step, is gone
  -- after it, and the others go on from there
  pub record TakesForCause (old new : CoreState K V S) (happenings : List (Happening K V)) (t : Ticket) : Type 0 where
    pub before : List (Happening K V)
    pub taking : Happening K V
    pub later : List (Happening K V)
    pub are : happenings ≡ before ++ taking ∷ later
    pub core : CoreState K V S
    pub comes : Runs keys old before core
    pub entry : Entry K V
    pub stood : entry_of t core.entries ≡ Some entry
    pub cause : RemovalCause keys core entry taking.event taking.refused
    pub next : CoreState K V S
    pub step : IsStep keys core taking.event taking.weight taking.refused taking.reply next
    pub left : entry_of t next.entries ≡ None
    pub goes_on : Runs keys next later new

  -- an entry that stands and later does not was taken for a cause
  abbrev pub StandsUntilCause : Type 0
  StandsUntilCause =
      (old new : CoreState K V S) (happenings : List (Happening K V)) (t : Ticket) (e : Entry K V) →
      IsConsistent keys old → Runs keys old happenings new →
      entry_of t old.entries ≡ Some e → entry_of t new.entries ≡ None → TakesForCause old new happenings t

  -- ---- what a get and a removal answer

  -- what stands at a key is the value last written there, or what stood there at the start if none was
  abbrev pub KeepsLastWritten : Type 0
  KeepsLastWritten =
      (old new : CoreState K V S) (happenings : List (Happening K V)) (key : K) (value : V) →
      IsConsistent keys old → Runs keys old happenings new → value_at keys.eq key new ≡ Some value →
      last_written keys.eq key happenings (value_at keys.eq key old) ≡ Some value

  -- a get that answers gives the value of the entry that stands unexpired, and none where none does
  abbrev pub GetsLiveValue : Type 0
  GetsLiveValue =
      (old new : CoreState K V S) (caller : ℕ) (key : K) (now weight : ℕ) (refused : Bool) (found : Option V) →
      IsStep keys old (Get caller key now) weight refused (Found found) new →
      found ≡ option_map (λ e. e.value) (live_at keys.eq key now old)

  -- a get that answers a value answers the one last written, or the one that stood at the start if none was
  abbrev pub GetsLastWritten : Type 0
  GetsLastWritten =
      (old mid new : CoreState K V S) (happenings : List (Happening K V)) (caller : ℕ) (key : K) (now weight : ℕ) (refused : Bool)
      (value : V) →
      IsConsistent keys old → Runs keys old happenings mid → IsStep keys mid (Get caller key now) weight refused (Found (Some value)) new →
      last_written keys.eq key happenings (value_at keys.eq key old) ≡ Some value

  -- so does a removal
  abbrev pub TakesLiveValue : Type 0
  TakesLiveValue =
      (old new : CoreState K V S) (caller : ℕ) (key : K) (now weight : ℕ) (refused : Bool) (found : Option V) →
      IsStep keys old (Take caller key now) weight refused (Found found) new →
      found ≡ option_map (λ e. e.value) (live_at keys.eq key now old)

  -- and what it answers is the value last written, or the one that stood at the start if none was
  abbrev pub TakesLastWritten : Type 0
  TakesLastWritten =
      (old mid new : CoreState K V S) (happenings : List (Happening K V)) (caller : ℕ) (key : K) (now weight : ℕ) (refused : Bool)
      (value : V) →
      IsConsistent keys old → Runs keys old happenings mid → IsStep keys mid (Take caller key now) weight refused (Found (Some value)) new →
      last_written keys.eq key happenings (value_at keys.eq key old) ≡ Some value

  -- ---- what is charged

  -- where no upsert and no removal is outstanding, what is charged is what stands
  abbrev pub IsPairedAtRest : Type 0
  IsPairedAtRest = (core : CoreState K V S) → IsConsistent keys core → IsSettled core → IsPaired core

  -- the map has at most as many entries as there are nodes and upserts outstanding
  abbrev pub StaysCounted : Type 0
  StaysCounted =
      (core : CoreState K V S) → IsConsistent keys core →
      length core.entries ≤ length core.maintenance.orders.access + upserts_outstanding core
