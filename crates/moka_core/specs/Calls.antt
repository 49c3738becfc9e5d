-- Where a whole call of a core is between its steps. No public clause cites this module.
use Rattle.std.specs.Prelude.{◌≡◌, ◌<◌, ◌≤◌, ◌⊎◌, ℕ, List, [], ◌∷◌, ◌++◌, length, Bool, true, false}
use Rattle.std.specs.List.{fold}
use Rattle.moka_common.specs.Keys.{Keys}
use Rattle.moka_sync_model.specs.declared.constants.TheConstants.{CALLER}
use Rattle.moka_sync_model.specs.declared.operation.Operation.{Operation}
use Rattle.moka_sync_model.specs.declared.operation.Operation.TheVariants.{Reading, Writing}
use Rattle.moka_sync_model.specs.declared.operation.Read.{Read}
use Rattle.moka_sync_model.specs.declared.operation.Write.{Write}
use Rattle.moka_sync_model.specs.Phase.{Idle}
use Rattle.moka_sync_model.specs.CoreState.{CoreState, Maintenance}
use Rattle.moka_sync_model.specs.Consistent.{IsConsistent}
use Rattle.moka_sync_model.specs.Run.{Happens}
use Rattle.moka_sync_model.specs.Turn.Turn.{after_turn}
use Rattle.moka_sync_model.specs.CoreCall.{Decides, has_pending, log_length}
use Rattle.moka_core.specs.MapTurn.{touched_by}
use Rattle.moka_core.specs.Machine.{left_pending}
use Rattle.moka_maintenance.specs.Taken.{AppliesReads, TakesWrite, reads_left}
use Rattle.moka_sync_model.specs.WholeCall.{Log, Maintains, MaintainsIfDue, PushesRead, PushesWrite}

-- these reads have been taken from the front of their log and applied together, no more than are left of the round; no memory is asked for
pub record AppliesTogether {K V S : Type 0} (reads : List Read) (old new : CoreState K V S) : Type 0 where
  pub rest : List Read
  pub log : old.read_log ≡ reads ++ rest
  pub some : 0 < length reads
  pub left : length reads ≤ reads_left old.maintenance.phase
  pub maintenance : Maintenance
  pub applies : AppliesReads reads old.maintenance maintenance
  pub is : new ≡ record old { entries = fold touched_by old.entries reads; read_log = rest; maintenance = maintenance }

-- the next reads have been; where none is to be taken, or there is none, nothing is done
abbrev pub AppliesNextReads : {K V S : Type 0} → CoreState K V S → Bool → CoreState K V S → Type 0
AppliesNextReads old false new = (new ≡ old) × (0 < reads_left old.maintenance.phase → old.read_log ≡ [])
AppliesNextReads old true new = (reads : List Read) × AppliesTogether reads old new

-- two turns, of which the first takes a write and the other applies it, for which memory may refuse a node
abbrev pub AppliesNextWrite : {K V S : Type 0} → CoreState K V S → Bool → CoreState K V S → Type 0
AppliesNextWrite old false new = (new ≡ old) × (TakesWrite old.maintenance → old.write_log ≡ [])
AppliesNextWrite old true new = TakesWrite old.maintenance × (refused : Bool) × (new ≡ after_turn refused (after_turn false old))

-- the turns of the next reads, or else those of the next write
abbrev pub AppliesNext : {K V S : Type 0} → CoreState K V S → Bool → CoreState K V S → Type 0
AppliesNext old false new = AppliesNextReads old false new × AppliesNextWrite old false new
AppliesNext old true new = AppliesNextReads old true new ⊎ AppliesNextWrite old true new

-- the core, with this operation of the caller of whole calls pending
abbrev pub having : {K V S : Type 0} → Operation → CoreState K V S → CoreState K V S
having operation core = left_pending CALLER operation core

module _ {K V S : Type 0} (keys : Keys K S) (core : CoreState K V S) where
  -- this operation of the caller is pending, and nothing else is under way
  pub record PendsOne (operation : Operation) : Type 0 where
    pub good : IsConsistent keys core
    pub pending : core.pending ≡ (CALLER, operation) ∷ []
    pub phase : core.maintenance.phase ≡ Idle

  -- some operation
  abbrev pub Pends : Type 0
  Pends = (operation : Operation) × PendsOne operation

  -- a read
  abbrev pub PendsRead : Type 0
  PendsRead = (read : Read) × PendsOne (Reading read)

  -- a write
  abbrev pub PendsWrite : Type 0
  PendsWrite = (write : Write) × PendsOne (Writing write)

module _ {K V S : Type 0} (keys : Keys K S) (weighs : K → V → ℕ → Type 0) (now : ℕ) (old new : CoreState K V S) where
  -- a whole maintenance of the core
  abbrev pub CoreMaintains : Type 0
  CoreMaintains = Maintains (Happens keys weighs) Decides has_pending CALLER now old new

  -- one where this length of a log makes it due
  abbrev pub MaintainsAsDue : ℕ → Type 0
  MaintainsAsDue len =
      (log : Log) → len ≡ log_length log old → MaintainsIfDue (Happens keys weighs) Decides has_pending CALLER log now old new

  -- the pending read goes to its log
  abbrev pub CorePushesRead : Type 0
  CorePushesRead = PushesRead (Happens keys weighs) Decides has_pending CALLER now old new

  -- the pending write does
  abbrev pub CorePushesWrite : Type 0
  CorePushesWrite = PushesWrite (Happens keys weighs) Decides has_pending CALLER now old new
