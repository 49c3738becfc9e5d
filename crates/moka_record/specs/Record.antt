-- What a contract sees of a record, and what it means to apply a call to it.
use Rattle.std.specs.Prelude.{◌≡◌, ℕ, Bool, true, List, [], ◌∷◌, ◌++◌, slice_index, Some, Result, Ok, Err, MatchBool}
use Rattle.moka_common.specs.Keys.{Keys}
use Rattle.moka_sync_model.specs.declared.call.Call.{Call}
use Rattle.moka_sync_model.specs.declared.event.Reply.TheVariants.{Found, Discarded, Rows, At, NotPossible, OutOfMemory}
use Rattle.moka_sync_model.specs.Reply.{Reply}
use Rattle.moka_sync_model.specs.CoreState.{CoreState}
use Rattle.moka_sync_model.specs.CoreCall.{IsCall}
use Rattle.moka_record.specs.declared.record.Made.{Made}
use Rattle.moka_record.specs.declared.record.NotRecorded.{NotRecorded}

-- the core, the first ticket number of its shards, and the calls that were made on it with their replies
pub record RecordState (K V S A : Type 0) : Type 0 where
  pub core : CoreState K V S
  pub first_ticket : ℕ
  pub calls : List (Made K V A)

-- a record with the weigher of its core
pub record Record (K V S W A : Type 0) : Type 0 where
  pub state : RecordState K V S A
  pub weigher : W

-- the record of a new core
abbrev pub new_record : {K V S A : Type 0} → CoreState K V S → RecordState K V S A
new_record core = record { core = core; first_ticket = slice_index core.next_numbers 0; calls = [] }

-- what memory refused: the room to write the call down, the copy of the value that is answered
pub record Memory : Type 0 where
  pub recording : Bool
  pub answer : Bool

-- a whole call can be answered so: it tells of no phase, no log and no shard
abbrev pub IsAnswer : {K V : Type 0} → Reply K V → Type 0
IsAnswer Discarded = ⊥
IsAnswer (Rows pairs) = ⊥
IsAnswer (At phase) = ⊥
IsAnswer NotPossible = ⊥
IsAnswer reply = Unit {0}

-- the answer to a call with this reply: where a found value can't be shared once more, that memory was refused
abbrev pub answer_of : {K V : Type 0} → Reply K V → Bool → Reply K V
answer_of (Found (Some value)) true = OutOfMemory
answer_of reply refused = reply

module _ {K V S A : Type 0} (keys : Keys K S) (weighs : K → V → ℕ → Type 0) where
  -- the call was made on the core and written down with its reply
  pub record Makes (old : RecordState K V S A) (call : Call K V) (reply : Reply K V) (new : RecordState K V S A) : Type 0 where
    pub made : IsCall keys weighs old.core call reply new.core
    pub calls : new.calls ≡ old.calls ++ record { call = call; reply = reply } ∷ []
    pub first_ticket : new.first_ticket ≡ old.first_ticket

  -- the call is made, written down and answered; or there is no room to write it down, and nothing is done
  abbrev pub IsApplied : RecordState K V S A → Call K V → Memory → Result (Reply K V) NotRecorded → RecordState K V S A → Type 0
  IsApplied old call memory answer new = MatchBool memory.recording
      ((answer ≡ Err (record {})) × (new ≡ old))
      ((reply : Reply K V) × Makes old call reply new × (answer ≡ Ok (answer_of reply memory.answer)))
