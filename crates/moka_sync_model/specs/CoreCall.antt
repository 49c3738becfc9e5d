-- Whole calls of the core, and lists of them.
use Rattle.std.specs.Prelude.{◌≡◌, ℕ, zero, suc, ◌+◌, ◌-◌, ◌^◌, ◌||◌, min, Bool, true, false, nat_le, List, [], ◌∷◌, length, Option, Some}
use Rattle.std.specs.Prelude.{is_some}
use Rattle.std.specs.Option.{option_map_or}
use Rattle.moka_common.specs.Keys.{Keys}
use Rattle.moka_sync_model.specs.declared.constants.TheConstants.{CALLER, FLUSH_POINT, SYNC_INTERVAL, SHARDS}
use Rattle.moka_sync_model.specs.declared.call.Call.{Call}
use Rattle.moka_sync_model.specs.declared.call.Call.TheVariants.{Insert, Get, Contains, Invalidate, Remove, InvalidateAll, Sync, Counts}
use Rattle.moka_sync_model.specs.CoreState.{CoreState, pending_of}
use Rattle.moka_sync_model.specs.Phase.{Phase, Idle, Evict}
use Rattle.moka_sync_model.specs.Reply.{Reply}
use Rattle.moka_sync_model.specs.declared.event.Reply.TheVariants.{Counts as CountsReply}
use Rattle.moka_sync_model.specs.Run.{Happens}
use Rattle.moka_sync_model.specs.WholeCall.{Log, OfReads, OfWrites, Turns, LastTurn, NextTurn, CallsGet, CallsInsert, CallsInvalidate, CallsRemove}
use Rattle.moka_sync_model.specs.WholeCall.{CallsContains, CallsInvalidateAll, CallsSync, CallsIter}

-- whether a maintenance is due in a call that finds a log of this length: there is enough to do, or the time has come
abbrev pub is_due : ℕ → ℕ → Option ℕ → ℕ → Bool
is_due len flush_point sync_after now = nat_le flush_point len || option_map_or (λ due. nat_le due now) sync_after false

-- the moment from which on the next one is due by time, after one that a call runs now: a while later, as far as there is a moment
abbrev pub due_after : ℕ → ℕ
due_after now = min (now + SYNC_INTERVAL) (2 ^ 64 - 1)

-- the numbers from this one on
abbrev pub numbers_from : ℕ → ℕ → List ℕ
numbers_from first zero = []
numbers_from first (suc n) = first ∷ numbers_from (suc first) n

-- how many entries a turn at a phase has evicted, by their numbers before and after
abbrev pub evicted_at : Phase → ℕ → ℕ → ℕ
evicted_at (Evict turns) before after = before - after
evicted_at other before after = 0

module _ {K V S : Type 0} where
  -- how many operations a log holds
  abbrev pub log_length : Log → CoreState K V S → ℕ
  log_length OfReads core = length core.read_log
  log_length OfWrites core = length core.write_log

  -- the next maintenance is due by time a while after this moment
  abbrev pub scheduled : Bool → ℕ → CoreState K V S → CoreState K V S
  scheduled true now core = record core { sync_after = Some (due_after now) }
  scheduled false now core = core

  -- the call runs a maintenance where one is due, since nobody else does
  abbrev pub Decides : CoreState K V S → Log → ℕ → Bool → CoreState K V S → Type 0
  Decides old log now runs new = (runs ≡ is_due (log_length log old) FLUSH_POINT old.sync_after now) × (new ≡ scheduled runs now old)

  -- whether the caller of whole calls has an operation pending
  abbrev pub has_pending : CoreState K V S → Bool
  has_pending core = is_some (pending_of CALLER core)

  -- nothing is under way: no maintenance, and no operation of a caller
  pub record IsAtRest (core : CoreState K V S) : Type 0 where
    pub pending : core.pending ≡ []
    pub phase : core.maintenance.phase ≡ Idle

module _ {K V S : Type 0} (keys : Keys K S) (weighs : K → V → ℕ → Type 0) where
  -- turns of the core until its phase is idle
  abbrev pub CoreTurns : CoreState K V S → CoreState K V S → Type 0
  CoreTurns old new = Turns (Happens keys weighs) Decides has_pending CALLER old new

  -- the maintenance that is under way comes to its end, if one is
  abbrev pub Finishes : CoreState K V S → Bool → CoreState K V S → Type 0
  Finishes old true new = CoreTurns old new
  Finishes old false new = (old.maintenance.phase ≡ Idle) × (new ≡ old)

  -- how many entries these turns have evicted
  abbrev pub entries_evicted : (old new : CoreState K V S) → CoreTurns old new → ℕ
  entries_evicted old new (LastTurn _ _ step) = 0
  entries_evicted old new (NextTurn _ next _ phase busy step turns) =
      evicted_at old.maintenance.phase (length old.entries) (length next.entries) + entries_evicted next new turns

  -- a whole call gets this reply and leaves the new core
  abbrev pub IsCall : CoreState K V S → Call K V → Reply K V → CoreState K V S → Type 0
  IsCall old (Insert key value now) reply new = CallsInsert (Happens keys weighs) Decides has_pending CALLER key value now reply old new
  IsCall old (Get key now) reply new = CallsGet (Happens keys weighs) Decides has_pending CALLER key now true reply old new
  IsCall old (Contains key now) reply new = CallsContains (Happens keys weighs) Decides has_pending CALLER key now reply old new
  IsCall old (Invalidate key now) reply new = CallsInvalidate (Happens keys weighs) Decides has_pending CALLER key now reply old new
  IsCall old (Remove key now) reply new = CallsRemove (Happens keys weighs) Decides has_pending CALLER key now reply old new
  IsCall old (InvalidateAll now) reply new = CallsInvalidateAll (Happens keys weighs) Decides has_pending CALLER now reply old new
  IsCall old (Sync now) reply new = CallsSync (Happens keys weighs) Decides has_pending CALLER now reply old new
  IsCall old Counts reply new = (reply ≡ CountsReply old.maintenance.published.count old.maintenance.published.weight) × (new ≡ old)

  -- all shards are copied, one after another
  abbrev pub IsIteration : CoreState K V S → ℕ → Reply K V → CoreState K V S → Type 0
  IsIteration old now reply new = CallsIter (Happens keys weighs) Decides has_pending CALLER (numbers_from 0 SHARDS) now reply old new

  -- these calls with these replies lead from one core to another
  abbrev pub Replays : CoreState K V S → List (Call K V × Reply K V) → CoreState K V S → Type 0
  Replays old [] new = new ≡ old
  Replays old (c ∷ cs) new = (next : CoreState K V S) × IsCall old c.0 c.1 next × Replays next cs new
