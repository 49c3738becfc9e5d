-- What the replies to a recorded script are.
use Rattle.std.specs.Prelude.{◌≡◌, ℕ, List, [], ◌∷◌, ◌++◌, Option, Some, None, option_map, Result, Ok}
use Rattle.moka_grammar.specs.declared.line.CacheOptions.{CacheOptions}
use Rattle.moka_grammar.specs.declared.line.Line.{Line}
use Rattle.moka_grammar.specs.declared.line.Request.{Request}
use Rattle.moka_grammar.specs.declared.line.Request.TheVariants.{Insert, Get, ContainsKey, Invalidate, Remove, InvalidateAll, Sync}
use Rattle.moka_grammar.specs.declared.line.Request.TheVariants.{EntryCount, WeightedSize}
use Rattle.moka_sync_model.specs.declared.call.Call.{Call}
use Rattle.moka_sync_model.specs.declared.call.Call.TheVariants as call
use Rattle.moka_sync_model.specs.declared.event.Reply.TheVariants as answer
use Rattle.moka_sync_model.specs.Reply.{Reply as Answer}
use Rattle.moka_script.specs.declared.keys.KeyState.{KeyState}
use Rattle.moka_script.specs.declared.recorded.Asked.{Asked}
use Rattle.moka_script.specs.declared.recorded.Asked.TheVariants.{Count, Weight}
use Rattle.moka_script.specs.declared.stored.Stored.{Stored}
use Rattle.moka_record.specs.declared.record.NotRecorded.{NotRecorded}
use Rattle.moka_record.specs.Record.{RecordState, Memory, new_record, IsApplied}
use Rattle.moka_script.specs.FirstCore.{weighs_of, AreRepliesOf}
use Rattle.moka_script.specs.Reply.{Reply, Done, Found, Truth, Number, OutOfMemory, TicketsUsedUp, reply_line}
use Rattle.moka_script.specs.ScriptKeys.{script_keys}
use Rattle.moka_script.specs.Stored.{stored_text}

-- the call that a request makes at a moment, if it is one of a record's; its inserts have no time to live of their own
abbrev pub call_at : ℕ → Request (List ℕ) → Option (Call ℕ (Stored (List ℕ)))
call_at now (Insert key text weight live) = Some (call.Insert key (stored_text text weight) now)
call_at now (Get key) = Some (call.Get key now)
call_at now (ContainsKey key) = Some (call.Contains key now)
call_at now (Invalidate key) = Some (call.Invalidate key now)
call_at now (Remove key) = Some (call.Remove key now)
call_at now InvalidateAll = Some (call.InvalidateAll now)
call_at now Sync = Some (call.Sync now)
call_at now EntryCount = Some call.Counts
call_at now WeightedSize = Some call.Counts
call_at now request = None

-- which of the numbers that were published last a request asks for
abbrev pub asked_of : {T : Type 0} → Request T → Asked
asked_of WeightedSize = Weight
asked_of request = Count

-- how the answer of a record is told: a call that was not recorded had no memory
abbrev pub told : Asked → Result (Answer ℕ (Stored (List ℕ))) NotRecorded → Reply
told asked (Ok answer.Done) = Done
told asked (Ok (answer.Found found)) = Found (option_map (λ s. s.text) found)
told asked (Ok (answer.Bool truth)) = Truth truth
told Count (Ok (answer.Counts count weight)) = Number count
told Weight (Ok (answer.Counts count weight)) = Number weight
told asked (Ok answer.TicketsUsedUp) = TicketsUsedUp
told asked other = OutOfMemory

-- a record of numbers and texts, each text with its weight
abbrev pub ScriptRecord : Type 0 → Type 0
ScriptRecord A = RecordState ℕ (Stored (List ℕ)) KeyState A

module _ (A : Type 0) (weighs : ℕ → Stored (List ℕ) → ℕ → Type 0) where
  -- what a request at a moment is answered, and the record after it, whatever memory refuses
  abbrev pub IsAnswered : ScriptRecord A → ℕ → Request (List ℕ) → Reply → ScriptRecord A → Type 0
  IsAnswered old now request reply new =
      (call : Call ℕ (Stored (List ℕ))) × (memory : Memory) × (answer : Result (Answer ℕ (Stored (List ℕ))) NotRecorded)
      × (call_at now request ≡ Some call) × IsApplied script_keys weighs old call memory answer new
      × (reply ≡ told (asked_of request) answer)

  -- a line for each call, with the record's reply
  abbrev pub AreReplies : ScriptRecord A → List (Line (List ℕ)) → List ℕ → Type 0
  AreReplies record' [] text = text ≡ []
  AreReplies record' (line ∷ lines) text =
      (reply : Reply) × (next : ScriptRecord A) × (rest : List ℕ)
      × IsAnswered record' line.now line.request reply next
      × (text ≡ reply_line reply ++ rest)
      × AreReplies next lines rest

-- the reply lines of a recorded script
abbrev pub AreRecordedReplyLines : Type 0 → CacheOptions → List (Line (List ℕ)) → List ℕ → Type 0
AreRecordedReplyLines A options lines text =
    AreRepliesOf (λ core replies. AreReplies A (weighs_of options.weighed) (new_record core) lines replies) options text
