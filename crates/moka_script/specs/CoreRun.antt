-- What the replies to a core script are: those of its steps.
use Rattle.std.specs.Prelude.{◌≡◌, ℕ, ◌^◌, ◌-◌, min, Bool, true, false, List, [], ◌∷◌, ◌++◌, map, option_map, MatchBool}
use Rattle.std.specs.List.{flat_map, list_any}
use Rattle.std.specs.List.Sorted.{IsNonDecreasing, IsPermutation}
use Rattle.moka_sync_model.specs.declared.constants.TheConstants.{CALLER, SHARDS}
use Rattle.moka_sync_model.specs.declared.event.Event.{Event}
use Rattle.moka_sync_model.specs.declared.event.Event.TheVariants as event
use Rattle.moka_sync_model.specs.declared.event.Reply.TheVariants as answer
use Rattle.moka_sync_model.specs.Reply.{Reply as Answer}
use Rattle.moka_sync_model.specs.Run.{Happens, RunsTo}
use Rattle.moka_sync_model.specs.CoreCall.{Decides, Finishes, has_pending, numbers_from}
use Rattle.moka_sync_model.specs.WholeCall.{Maintains}
use Rattle.moka_grammar.specs.declared.line.CacheOptions.{CacheOptions}
use Rattle.moka_grammar.specs.declared.line.CoreLine.{CoreLine}
use Rattle.moka_grammar.specs.declared.line.CoreRequest.{CoreRequest}
use Rattle.moka_grammar.specs.declared.line.CoreRequest.TheVariants as asks
use Rattle.moka_script.specs.declared.core_lines.Action.{Action}
use Rattle.moka_script.specs.declared.core_lines.Action.TheVariants.{Step, Rest, Sync, Iterate, Count, Weigh}
use Rattle.moka_script.specs.declared.stored.Stored.{Stored}
use Rattle.moka_script.specs.FirstCore.{ScriptCore, weighs_of, AreRepliesOf}
use Rattle.moka_script.specs.Reply.{Reply, reply_line}
use Rattle.moka_script.specs.Reply as telling
use Rattle.moka_script.specs.ScriptKeys.{script_keys}
use Rattle.moka_script.specs.Stored.{stored_text}

-- a step on a core of numbers and texts, each text with its weight
abbrev pub ScriptEvent : Type 0
ScriptEvent = Event ℕ (Stored (List ℕ))

-- what it is answered
abbrev pub ScriptAnswer : Type 0
ScriptAnswer = Answer ℕ (Stored (List ℕ))

-- what a request does at a moment: mostly one step
abbrev pub action_at : ℕ → CoreRequest (List ℕ) → Action ScriptEvent
action_at now (asks.Insert caller key text weight) = Step (event.Insert caller key (stored_text text weight) now)
action_at now (asks.Get caller key) = Step (event.Get caller key now)
action_at now (asks.ContainsKey key) = Step (event.Contains key now)
action_at now (asks.Invalidate caller key) = Step (event.Invalidate caller key now)
action_at now (asks.Remove caller key) = Step (event.Take caller key now)
action_at now asks.InvalidateAll = Step (event.InvalidateAll now)
action_at now (asks.Push caller) = Step (event.Push caller)
action_at now (asks.Forget caller) = Step (event.Forget caller)
action_at now asks.Begin = Step (event.Begin now)
action_at now asks.Turn = Step event.Turn
action_at now asks.Rest = Rest
action_at now asks.Sync = Sync now
action_at now asks.Iter = Iterate now
action_at now asks.EntryCount = Count
action_at now asks.WeightedSize = Weigh

-- how the answer to such a step is told, which is neither pairs nor counts
abbrev pub told : ScriptAnswer → Reply
told answer.Done = telling.Done
told (answer.Found found) = telling.Found (option_map (λ s. s.text) found)
told (answer.Bool truth) = telling.Truth truth
told answer.Discarded = telling.Discarded
told (answer.At phase) = telling.At phase
told answer.NotPossible = telling.NotPossible
told answer.TicketsUsedUp = telling.TicketsUsedUp
told other = telling.OutOfMemory

-- how it is told whether there was something to do
abbrev pub told_if : Bool → Reply
told_if true = telling.Done
told_if false = telling.NotPossible

-- ---- copies

-- the steps that copy all shards
abbrev pub copies : ℕ → List ScriptEvent
copies now = map (λ shard. event.Copy shard now) (numbers_from 0 SHARDS)

-- whether a copy was refused
abbrev pub is_refused : ScriptAnswer → Bool
is_refused (answer.Rows pairs) = false
is_refused other = true

-- the keys of a copy with their texts
abbrev pub pairs_in : ScriptAnswer → List (ℕ × List ℕ)
pairs_in (answer.Rows pairs) = map (λ p. (p.0, p.1.text)) pairs
pairs_in other = []

-- how copies are told: all their pairs, by rising key; or that one was refused
abbrev pub AreTold : List ScriptAnswer → Reply → Type 0
AreTold answers reply = MatchBool (list_any is_refused answers)
    (reply ≡ telling.OutOfMemory)
    ((pairs : List (ℕ × List ℕ)) × IsPermutation (flat_map pairs_in answers) pairs × IsNonDecreasing (map (λ p. p.0) pairs)
    × (reply ≡ telling.Pairs pairs))

-- ---- lines

module _ (weighs : ℕ → Stored (List ℕ) → ℕ → Type 0) where
  -- a maintenance is begun and brought to its end, unless one is under way
  abbrev pub Syncs : ScriptCore → ℕ → Bool → ScriptCore → Type 0
  Syncs old now true new = Maintains (Happens script_keys weighs) Decides has_pending CALLER now old new
  Syncs old now false new = Happens script_keys weighs old (event.Begin now) answer.NotPossible new

  -- what an action is answered, and the core after it, whatever memory refuses; a weight is told as u64::MAX at most
  abbrev pub Does : ScriptCore → Action ScriptEvent → Reply → ScriptCore → Type 0
  Does old (Step event) reply new =
      (answer : ScriptAnswer) × Happens script_keys weighs old event answer new × (reply ≡ told answer)
  Does old Rest reply new = (done : Bool) × Finishes script_keys weighs old done new × (reply ≡ told_if done)
  Does old (Sync now) reply new = (done : Bool) × Syncs old now done new × (reply ≡ told_if done)
  Does old (Iterate now) reply new =
      (answers : List ScriptAnswer) × RunsTo script_keys weighs old (copies now) answers new × AreTold answers reply
  Does old Count reply new =
      (count : ℕ) × (weight : ℕ) × Happens script_keys weighs old event.Counts (answer.Counts count weight) new
      × (reply ≡ telling.Number count)
  Does old Weigh reply new =
      (count : ℕ) × (weight : ℕ) × Happens script_keys weighs old event.Counts (answer.Counts count weight) new
      × (reply ≡ telling.Number (min weight (2 ^ 64 - 1)))

  -- a line for each request, with the core's reply
  abbrev pub AreReplies : ScriptCore → List (CoreLine (List ℕ)) → List ℕ → Type 0
  AreReplies core [] text = text ≡ []
  AreReplies core (line ∷ lines) text =
      (reply : Reply) × (next : ScriptCore) × (rest : List ℕ)
      × Does core (action_at line.now line.request) reply next
      × (text ≡ reply_line reply ++ rest)
      × AreReplies next lines rest

-- the reply lines of a core script
abbrev pub AreCoreReplyLines : CacheOptions → List (CoreLine (List ℕ)) → List ℕ → Type 0
AreCoreReplyLines options lines text =
    AreRepliesOf (λ core replies. AreReplies (weighs_of options.weighed) core lines replies) options text
