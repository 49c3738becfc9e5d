-- Calls as data: what each asks of the cache's machine, and which reply tells its answer.
use Rattle.std.specs.Prelude.{◌≡◌, ◌⊎◌, ◌++◌, ℕ, Bool, true, false, List, [], ◌∷◌, Option, Some, None}
use Rattle.std.specs.Duration.{as_nanos}
use Rattle.std.specs.declared.rc.Rc.{Rc}
use Rattle.moka_unsync.specs.declared.runs.Call.{Call}
use Rattle.moka_unsync.specs.declared.runs.Call.TheVariants as call
use Rattle.moka_unsync.specs.declared.runs.Reply.{Reply}
use Rattle.moka_unsync.specs.declared.runs.Reply.TheVariants as reply
use Rattle.moka_unsync_model.specs.Step.{Answer, Request, Get, Peek, ContainsKey, Insert, Invalidate, Remove, InvalidateAll, InvalidateEntriesIf}
use Rattle.moka_unsync_model.specs.Step.{EntryCount, WeightedSize, Found, Truth, Done, OutOfMemory, Pairs, Number}

module _ {V A : Type 0} where
  -- a reply has one more owner of a value
  abbrev pub HasOwner : Rc V A → Reply V A → Type 0
  HasOwner value told = (copy : Rc V A) × (told ≡ reply.Found (Some copy)) × (copy.value ≡ value.value)

  -- a reply tells what a get found: it has one more owner of it, or that is refused
  abbrev pub TellsFound : Option (Rc V A) → Reply V A → Type 0
  TellsFound None told = told ≡ reply.Found None
  TellsFound (Some value) told = (told ≡ reply.OutOfMemory) ⊎ HasOwner value told

module _ {K V A : Type 0} where
  -- what a call asks: a get or insert at first a get, and a modification that finds nothing a look
  abbrev pub request_of : Call K V A → Request K (Rc V A)
  request_of (call.Get key now) = Get key now
  request_of (call.Peek key now) = Peek key now
  request_of (call.Contains key now) = ContainsKey key now
  request_of (call.Insert key value now) = Insert key value None now
  request_of (call.InsertWithTimeToLive key value time_to_live now) = Insert key value (Some (as_nanos time_to_live)) now
  request_of (call.Modify key value now) = ContainsKey key now
  request_of (call.GetOrInsert key value now) = Get key now
  request_of (call.Invalidate key now) = Invalidate key now
  request_of (call.Remove key now) = Remove key now
  request_of call.InvalidateAll = InvalidateAll
  request_of (call.RemoveExpired now) = InvalidateEntriesIf []
  request_of call.EntryCount = EntryCount
  request_of call.WeightedSize = WeightedSize

  -- a reply tells an answer to a request; a value that was removed is in it as the cache had it
  abbrev pub Tells : Request K (Rc V A) → Answer K (Rc V A) → Reply V A → Type 0
  Tells (Remove key now) (Found found) told = told ≡ reply.Found found
  Tells request (Found found) told = TellsFound found told
  Tells request (Truth answer) told = told ≡ reply.Bool answer
  Tells request Done told = told ≡ reply.Done
  Tells request OutOfMemory told = told ≡ reply.OutOfMemory
  Tells request (Pairs pairs) told = ⊥
  Tells request (Number number) told = told ≡ reply.Number number

  -- a get or insert is no more than a get: the reply has one more owner of what that found, or one is refused, of that or of the value at hand
  abbrev pub IsGetAlone : K → ℕ → List (Request K (Rc V A)) → List (Answer K (Rc V A)) → Reply V A → Type 0
  IsGetAlone key now asked answers told =
      (found : Option (Rc V A)) × (asked ≡ Get key now ∷ []) × (answers ≡ Found found ∷ [])
      × ((told ≡ reply.OutOfMemory) ⊎ ((value : Rc V A) × (found ≡ Some value) × HasOwner value told))

  -- or the get finds nothing, and the value at hand is inserted, or refused its room
  abbrev pub IsInsertBehind : K → Rc V A → ℕ → List (Request K (Rc V A)) → List (Answer K (Rc V A)) → Reply V A → Type 0
  IsInsertBehind key value now asked answers told =
      (asked ≡ Get key now ∷ Insert key value None now ∷ [])
      × (((answers ≡ Found None ∷ Done ∷ []) × HasOwner value told) ⊎ ((answers ≡ Found None ∷ OutOfMemory ∷ []) × (told ≡ reply.OutOfMemory)))

  -- what a call asks that is one request, what is answered, and a reply that tells it
  abbrev pub IsOne : Request K (Rc V A) → List (Request K (Rc V A)) → List (Answer K (Rc V A)) → Reply V A → Type 0
  IsOne request asked answers told =
      (answer : Answer K (Rc V A)) × (asked ≡ request ∷ []) × (answers ≡ answer ∷ []) × Tells request answer told

  -- an insert with a time to live of its own, or in a cache without one nothing
  abbrev pub IsTimedInsert : Request K (Rc V A) → List (Request K (Rc V A)) → List (Answer K (Rc V A)) → Reply V A → Type 0
  IsTimedInsert request asked answers told =
      IsOne request asked answers told ⊎ (asked ≡ []) × (answers ≡ []) × (told ≡ reply.NoTimeToLive)

  -- a modification is an insert of the value at hand, or a look at a key that isn't there
  abbrev pub IsModification : K → Rc V A → ℕ → List (Request K (Rc V A)) → List (Answer K (Rc V A)) → Reply V A → Type 0
  IsModification key value now asked answers told =
      ((asked ≡ Insert key value None now ∷ []) × (answers ≡ Done ∷ []) × (told ≡ reply.Bool true))
      ⊎ ((asked ≡ ContainsKey key now ∷ []) × (answers ≡ Truth false ∷ []) × (told ≡ reply.Bool false))

  -- what a call asks of the machine, what is answered, and a reply that tells it: one request, but of a get or insert one or two. The removal of the expired
  -- entries is a conditional invalidation
  abbrev pub IsServed : Call K V A → List (Request K (Rc V A)) → List (Answer K (Rc V A)) → Reply V A → Type 0
  IsServed (call.GetOrInsert key value now) asked answers told =
      IsGetAlone key now asked answers told ⊎ IsInsertBehind key value now asked answers told
  IsServed (call.InsertWithTimeToLive key value time_to_live now) asked answers told =
      IsTimedInsert (Insert key value (Some (as_nanos time_to_live)) now) asked answers told
  IsServed (call.Modify key value now) asked answers told = IsModification key value now asked answers told
  IsServed (call.RemoveExpired now) asked answers told =
      (chosen : List Bool) × IsOne (InvalidateEntriesIf chosen) asked answers told
  IsServed call asked answers told = IsOne (request_of call) asked answers told

  -- the same of a list of calls, one after another
  abbrev pub AreServed : List (Call K V A) → List (Request K (Rc V A)) → List (Answer K (Rc V A)) → List (Reply V A) → Type 0
  AreServed [] requests answers replies = (requests ≡ []) × (answers ≡ []) × (replies ≡ [])
  AreServed (call ∷ calls) requests answers replies =
      (asked : List (Request K (Rc V A))) × (answered : List (Answer K (Rc V A))) × (told : Reply V A)
      × (later : List (Request K (Rc V A))) × (later_answers : List (Answer K (Rc V A))) × (rest : List (Reply V A))
      × (requests ≡ asked ++ later) × (answers ≡ answered ++ later_answers) × (replies ≡ told ∷ rest)
      × IsServed call asked answered told × AreServed calls later later_answers rest
