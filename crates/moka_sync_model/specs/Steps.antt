-- What a caller has under way between its atomic steps, and what these steps and its whole calls answer.
use Rattle.std.specs.Prelude.{◌⊎◌, ◌≢◌, ℕ, Bool, true, false, Option, None, Some, Result, Ok, Err}
use Rattle.moka_common.specs.declared.error.InsertError.{InsertError}
use Rattle.moka_common.specs.declared.error.InsertError.TheVariants as refused
use Rattle.moka_common.specs.declared.error.OutOfMemory.{OutOfMemory as MemoryError}
use Rattle.moka_sync_model.specs.declared.constants.TheConstants.{CALLER}
use Rattle.moka_sync_model.specs.declared.event.Event.{Event}
use Rattle.moka_sync_model.specs.declared.event.Event.TheVariants.{Take, Turn}
use Rattle.moka_sync_model.specs.declared.event.Reply.TheVariants.{At, Done, Found, Discarded, NotPossible, OutOfMemory, TicketsUsedUp}
use Rattle.moka_sync_model.specs.declared.operation.Operation.{Operation}
use Rattle.moka_sync_model.specs.declared.operation.Operation.TheVariants.{Reading, Writing}
use Rattle.moka_sync_model.specs.declared.phase.Phase.{Phase as PhaseName}
use Rattle.moka_sync_model.specs.declared.phase.Phase.TheVariants as name
use Rattle.moka_sync_model.specs.Reply.{Reply, IsHanded}
use Rattle.moka_sync_model.specs.WholeCall.{Log, OfReads, OfWrites, CallsGet, CallsRemove}
use Rattle.moka_sync_model.specs.declared.steps.WhichLog.{WhichLog}
use Rattle.moka_sync_model.specs.declared.steps.WhichLog.TheVariants as log
use Rattle.moka_sync_model.specs.declared.steps.ReadPush.{ReadPush}
use Rattle.moka_sync_model.specs.declared.steps.ReadPush.TheVariants as read
use Rattle.moka_sync_model.specs.declared.steps.WritePush.{WritePush}
use Rattle.moka_sync_model.specs.declared.steps.WritePush.TheVariants as write

-- what a caller has left and not pushed to a log yet
pub data Pending : Type 0 where
  Nothing : Pending
  ARead : Pending
  AWrite : Pending

-- what a caller has under way: what is pending, and whether it runs a maintenance
pub record Caller : Type 0 where
  pub pending : Pending
  pub is_maintaining : Bool

-- it has this pending, and runs no maintenance
abbrev pub pends : Pending → Caller
pends pending = record { pending = pending; is_maintaining = false }

-- it has nothing under way
abbrev pub at_rest : Caller
at_rest = pends Nothing

-- the same caller, which runs a maintenance or doesn't
abbrev pub maintaining : Bool → Caller → Caller
maintaining runs caller = record caller { is_maintaining = runs }

-- whether an operation is a read or a write
abbrev pub kind_of : Option Operation → Pending
kind_of None = Nothing
kind_of (Some (Reading read)) = ARead
kind_of (Some (Writing write)) = AWrite

-- whether a caller has anything pending
abbrev pub has_operation : Pending → Bool
has_operation Nothing = false
has_operation ARead = true
has_operation AWrite = true

-- whether the caller of a cache has, by what the cache knows of its caller
abbrev pub pends_by : {W : Type 0} → (W → Caller) → W → Bool
pends_by caller cache = has_operation (caller cache).pending

-- whether a maintenance at this phase goes on
abbrev pub goes_on : PhaseName → Bool
goes_on name.Idle = false
goes_on phase = true

-- which log a call looks at
abbrev pub log_of : WhichLog → Log
log_of log.Reads = OfReads
log_of log.Writes = OfWrites

-- what an insert leaves pending
abbrev pub left_by_insert : Result Unit InsertError → Pending
left_by_insert (Ok done) = AWrite
left_by_insert (Err error) = Nothing

-- what a get does
abbrev pub left_by_get : {F : Type 0} → Result F MemoryError → Pending
left_by_get (Ok found) = ARead
left_by_get (Err error) = Nothing

-- what an invalidation does, by whether an entry has left
abbrev pub left_by_invalidate : Bool → Pending
left_by_invalidate true = AWrite
left_by_invalidate false = Nothing

-- what a removal does
abbrev pub left_by_take : {T : Type 0} → Result (T × Bool) MemoryError → Pending
left_by_take (Ok taken) = left_by_invalidate taken.1
left_by_take (Err error) = Nothing

-- what a push of a write does
abbrev pub left_by_push : WritePush → Pending
left_by_push write.Pushed = Nothing
left_by_push write.Full = AWrite

module _ {K V : Type 0} where
  -- the reply of an insert
  abbrev pub insert_reply : Result Unit InsertError → Reply K V
  insert_reply (Ok done) = Done
  insert_reply (Err refused.OutOfMemory) = OutOfMemory
  insert_reply (Err refused.TicketsUsedUp) = TicketsUsedUp

  -- that of a get
  abbrev pub get_reply : Result (Option V) MemoryError → Reply K V
  get_reply (Ok found) = Found found
  get_reply (Err error) = OutOfMemory

  -- that of a push of a read
  abbrev pub read_reply : ReadPush → Reply K V
  read_reply read.Pushed = Done
  read_reply read.Discarded = Discarded

  -- that of a push of a write
  abbrev pub write_reply : WritePush → Reply K V
  write_reply write.Pushed = Done
  write_reply write.Full = NotPossible

module _ {W K V : Type 0} (allowed : W → Event K V → Reply K V → W → Type 0) where
  -- one turn of a maintenance, which is at this phase then; or several, of which only the last may end it
  pub data TakesTurns : PhaseName → W → W → Type 0 where
    OneTurn : (phase : PhaseName) (old new : W) → allowed old Turn (At phase) new → TakesTurns phase old new
    MoreTurns : (phase between : PhaseName) (old next new : W) → between ≢ name.Idle → allowed old Turn (At between) next
        → TakesTurns phase next new → TakesTurns phase old new

module _ {W K V : Type 0} (allowed : W → Event K V → Reply K V → W → Type 0) (decides : W → Log → ℕ → Bool → W → Type 0)
    (caller : W → Caller) (is_clone : V → V → Type 0) (is_infallible : V → Type 0) where
  -- a whole call of get with this reply, by whether the value was copied for the caller
  abbrev pub Gets : K → ℕ → Bool → Reply K V → W → W → Type 0
  Gets key now copied reply old new = CallsGet allowed decides (pends_by caller) CALLER key now copied reply old new

  -- what a whole call of get answers: a clone of the value found, or that memory for the get or for the clone was refused
  abbrev pub AnswersGet : K → ℕ → Result (Option V) MemoryError → W → W → Type 0
  AnswersGet key now (Ok None) old new = Gets key now true (Found None) old new
  AnswersGet key now (Ok (Some copy)) old new = (value : V) × is_clone value copy × Gets key now true (Found (Some value)) old new
  AnswersGet key now (Err error) old new =
      Gets key now true OutOfMemory old new ⊎ ((value : V) × (¬ (is_infallible value)) × Gets key now false (Found (Some value)) old new)

module _ {W K V T : Type 0} (allowed : W → Event K V → Reply K V → W → Type 0) (decides : W → Log → ℕ → Bool → W → Type 0)
    (caller : W → Caller) (is_taken : V → T → Type 0) (is_sure : V → Type 0) where
  -- a step that takes an entry out, by what it hands back: what it has found, or that memory for it was refused
  abbrev pub Takes : K → ℕ → Result (Option T) MemoryError → W → W → Type 0
  Takes key now (Ok handed) old new = (found : Option V) × IsHanded is_taken found handed × allowed old (Take CALLER key now) (Found found) new
  Takes key now (Err error) old new = ((value : V) × (¬ (is_sure value))) × allowed old (Take CALLER key now) OutOfMemory new

  -- a whole call of remove with this reply
  abbrev pub Removes : K → ℕ → Reply K V → W → W → Type 0
  Removes key now reply old new = CallsRemove allowed decides (pends_by caller) CALLER key now reply old new

  -- what a whole call of remove answers
  abbrev pub AnswersRemove : K → ℕ → Result (Option T) MemoryError → W → W → Type 0
  AnswersRemove key now (Ok handed) old new = (found : Option V) × IsHanded is_taken found handed × Removes key now (Found found) old new
  AnswersRemove key now (Err error) old new = ((value : V) × (¬ (is_sure value))) × Removes key now OutOfMemory old new

-- what was handed back, without the word whether an entry has left
abbrev pub handed_by : {T : Type 0} → Result (T × Bool) MemoryError → Result T MemoryError
handed_by (Ok taken) = Ok taken.0
handed_by (Err error) = Err error
