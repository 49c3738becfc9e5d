-- What a session's calls tell of the history at their place in it.
use Rattle.std.specs.Prelude.{◌≡◌, ◌⊎◌, ◌↔◌, ℕ, Bool, true, List, [], ◌∷◌, ◌++◌, Option, Some, None, IsSome, Result, Ok, Err}
use Rattle.moka_common.specs.declared.error.InsertError.{InsertError}
use Rattle.moka_common.specs.declared.error.InsertError.TheVariants as refused
use Rattle.moka_common.specs.declared.error.OutOfMemory as error
use Rattle.moka_common.specs.Keys.{Keys}
use Rattle.moka_common.specs.Settings.{live_nanos}
use Rattle.moka_common.specs.Policy.{Policy}
use Rattle.moka_unsync_model.specs.declared.entry.Entry.{Entry}
use Rattle.moka_unsync_model.specs.Contents.{entry_at}
use Rattle.moka_unsync_model.specs.Deadline.{end_of}
use Rattle.moka_unsync_model.specs.Step.{Answer, ContainsKey, Get, Insert, Peek, Remove, Done, Found, OutOfMemory, Truth}
use Rattle.moka_unsync_model.specs.History.{IsCurrent, LastWrite, Transition, exchanges, is_over, last_write}
use Rattle.moka_unsync_model.specs.Removal.{IsMissing, IsRejected, last_write_of}
use Rattle.moka_unsync.specs.declared.error.TimedInsertError.{TimedInsertError}
use Rattle.moka_unsync.specs.declared.error.TimedInsertError.TheVariants as timed
use Rattle.moka_unsync.specs.declared.error.TryInsertError.{TryInsertError}
use Rattle.moka_unsync.specs.declared.error.TryInsertError.TheVariants as failed
use Rattle.moka_row.specs.Visits.{at}
use Rattle.moka_segments.specs.declared.plan.Plan.{Plan}
use Rattle.moka_segments.specs.Plan.{place_of}
use Rattle.moka_segments.specs.Rules.{IsOwner, Rules}
use Rattle.moka_segments.specs.History.{Every, Knows, Log, OnlyBy, Spares, Visit, calls, joined, rest, value_written}
use Rattle.moka_segments.specs.Calls.{Makes, Visits}

-- a clone of what was found, or memory is refused for it
abbrev pub TellsClone : {V E : Type 0} → (V → V → Type 0) → Option V → Result (Option V) E → Type 0
TellsClone is_clone found (Ok None) = found ≡ None
TellsClone {V = V} is_clone found (Ok (Some copy)) = (value : V) × (found ≡ Some value) × is_clone value copy
TellsClone {V = V} is_clone found (Err error) = (value : V) × (found ≡ Some value)

-- what an insert answers
abbrev pub answer_of : {K V : Type 0} → Result (Unit {0}) InsertError → Answer K V
answer_of (Ok done) = Done
answer_of (Err error) = OutOfMemory

module _ {K V S W : Type 0} (keys : Keys K S) (weighs : W → K → V → ℕ → W → Type 0) where
  -- what is found is current in the history before the call: the last written value, neither invalidated nor removed since, nor expired
  abbrev pub Hits : Policy → K → ℕ → Option V → Log K V S W → Type 0
  Hits policy key now found log = (value : V) → found ≡ Some value → IsCurrent keys policy now (exchanges (calls (rest log))) key value

  -- why a call finds nothing: the key is missing for a reason in the history, or its last write is over
  abbrev pub Lacks : Policy → K → ℕ → Log K V S W → Type 0
  Lacks policy key now log =
      IsMissing keys weighs (calls log) key
      ⊎ ((write : LastWrite V) × (last_write keys key (exchanges (calls (rest log))) ≡ Some write) × (is_over policy now write ≡ true))

  -- nothing is found exactly for such a reason
  abbrev pub Misses : Policy → K → ℕ → Option V → Log K V S W → Type 0
  Misses policy key now found log = (found ≡ None) ↔ Lacks policy key now log

  -- where nobody else wrote, invalidated or removed the key, what is found is what one's own visits wrote last
  abbrev pub HitsOwn : ℕ → K → Option V → Log K V S W → List (Visit K V S W) → Type 0
  HitsOwn by key found log mine =
      (value : V) → found ≡ Some value → OnlyBy keys by key (rest log) → value_written keys key (exchanges (joined mine)) ≡ Some value

  -- the value of an accepted insert stands at its key then, or it was rejected for want of room
  abbrev pub Enters : Policy → K → V → Option ℕ → ℕ → Transition K V S W → Type 0
  Enters policy key value own now call =
      ((e : Entry K V) × (entry_at keys.eq key call.after.contents.entries ≡ Some e)
      × (last_write_of e ≡ record { value = value; deadline = end_of (live_nanos policy) own now; used = now }))
      ⊎ IsRejected keys weighs call key

module _ {K V S W : Type 0} (keys : Keys K S) (weighs : W → K → V → ℕ → W → Type 0) (rules : Rules K V) where
  -- An owner finds what it wrote last, or nothing, and then for a reason; and it finds nothing that it didn't write last.
  pub record FindsWritten (policy : Policy) (by : ℕ) (key : K) (now : ℕ) (found : Option V) (log : Log K V S W) (mine : List (Visit K V S W)) : Type 0 where
    pub only : (value : V) → found ≡ Some value → value_written keys key (exchanges (joined mine)) ≡ Some value
    pub kept : (value : V) → value_written keys key (exchanges (joined mine)) ≡ Some value
        → (found ≡ Some value) ⊎ ((found ≡ None) × Lacks keys weighs policy key now log)

  module _ (plan : Plan S) where
    -- what a get makes and tells, in the segment of its key
    pub record Gets (is_clone : V → V → Type 0) (old : Knows K V S W) (key : K) (now : ℕ)
        (result : Result (Option V) error.OutOfMemory) (new : Knows K V S W) : Type 0 where
      pub found : Option V
      pub told : TellsClone is_clone found result
      pub made : Makes keys weighs rules plan old (place_of plan keys key) (Get key now) (Found found) new
      pub hit : Hits keys weighs plan.policy key now found (at new.seen (place_of plan keys key))
      pub miss : Misses keys weighs plan.policy key now found (at new.seen (place_of plan keys key))
      pub own : HitsOwn keys weighs old.by key found (at new.seen (place_of plan keys key)) (at old.mine (place_of plan keys key))
      pub owned : IsOwner rules old.by key
          → FindsWritten plan.policy old.by key now found (at new.seen (place_of plan keys key)) (at old.mine (place_of plan keys key))
      pub met : (value : V) → found ≡ Some value → rules.holds key value

    -- what a peek makes and tells: it is no use of the entry, and the law of misses doesn't speak of it
    pub record Peeks (is_clone : V → V → Type 0) (old : Knows K V S W) (key : K) (now : ℕ)
        (result : Result (Option V) error.OutOfMemory) (new : Knows K V S W) : Type 0 where
      pub found : Option V
      pub told : TellsClone is_clone found result
      pub made : Makes keys weighs rules plan old (place_of plan keys key) (Peek key now) (Found found) new
      pub hit : Hits keys weighs plan.policy key now found (at new.seen (place_of plan keys key))
      pub own : HitsOwn keys weighs old.by key found (at new.seen (place_of plan keys key)) (at old.mine (place_of plan keys key))
      pub met : (value : V) → found ≡ Some value → rules.holds key value

    -- what a look makes and tells: where the key is there, some value is current
    pub record Looks (old : Knows K V S W) (key : K) (now : ℕ) (there : Bool) (new : Knows K V S W) : Type 0 where
      pub made : Makes keys weighs rules plan old (place_of plan keys key) (ContainsKey key now) (Truth there) new
      pub hit : there ≡ true → (value : V) × IsCurrent keys plan.policy now (exchanges (calls (rest (at new.seen (place_of plan keys key))))) key value

    -- what an insert makes and tells, with its own time to live if it has one
    pub record Inserts (old : Knows K V S W) (key : K) (value : V) (own : Option ℕ) (now : ℕ) (result : Result (Unit {0}) InsertError)
        (new : Knows K V S W) : Type 0 where
      pub made : Makes keys weighs rules plan old (place_of plan keys key) (Insert key value own now) (answer_of result) new
      pub enters : made.made.call.answer ≡ Done → Enters keys weighs plan.policy key value own now made.made.call

    -- what one with its own time to live makes and tells: without one of the cache nothing is made
    abbrev pub TimedInserts : Knows K V S W → K → V → ℕ → ℕ → Result (Unit {0}) TimedInsertError → Knows K V S W → Type 0
    TimedInserts old key value own now (Ok done) new =
        IsSome plan.policy.time_to_live × Inserts old key value (Some own) now (Ok done) new
    TimedInserts old key value own now (Err timed.OutOfMemory) new =
        IsSome plan.policy.time_to_live × Inserts old key value (Some own) now (Err refused.OutOfMemory) new
    TimedInserts old key value own now (Err timed.NoTimeToLive) new = (plan.policy.time_to_live ≡ None) × (new ≡ old)

    -- what a removal makes and tells: what it hands back is what a get in its place would find
    pub record Removes (old : Knows K V S W) (key : K) (now : ℕ) (found : Option V) (new : Knows K V S W) : Type 0 where
      pub made : Makes keys weighs rules plan old (place_of plan keys key) (Remove key now) (Found found) new
      pub hit : Hits keys weighs plan.policy key now found (at new.seen (place_of plan keys key))
      pub own : HitsOwn keys weighs old.by key found (at new.seen (place_of plan keys key)) (at old.mine (place_of plan keys key))
      pub met : (value : V) → found ≡ Some value → rules.holds key value

    -- a get that finds nothing and an insert behind it, in one visit
    pub record PutsBehind (old : Knows K V S W) (i : ℕ) (key : K) (value : V) (now : ℕ) (answer : Answer K V) (new : Knows K V S W) : Type 0 where
      pub get : Transition K V S W
      pub insert : Transition K V S W
      pub asked : (get.request ≡ Get key now) × (insert.request ≡ Insert key value None now)
      pub answered : (get.answer ≡ Found None) × (insert.answer ≡ answer)
      pub made : Visits keys weighs rules plan old i (insert ∷ get ∷ []) new

    -- what a get or insert makes and tells: a value was found, or it was made and inserted in the visit in which nothing was found; a clone of it is
    -- answered, or memory is refused for that or for the insert
    abbrev pub GetsOrInserts : (V → V → Type 0) → (V → Type 0) → Knows K V S W → ℕ → K → ℕ → Result V InsertError → Knows K V S W → Type 0
    GetsOrInserts is_clone makes old i key now (Ok copy) new =
        (value : V) × is_clone value copy
        × (Makes keys weighs rules plan old i (Get key now) (Found (Some value)) new
        ⊎ (makes value × PutsBehind old i key value now Done new))
    GetsOrInserts is_clone makes old i key now (Err error) new =
        (value : V)
        × (Makes keys weighs rules plan old i (Get key now) (Found (Some value)) new
        ⊎ (makes value × (Makes keys weighs rules plan old i (Get key now) (Found None) new ⊎ PutsBehind old i key value now OutOfMemory new)))

    -- what a get or insert makes and tells whose value may fail to be made: then it is a get that finds nothing
    abbrev pub TriesToInsert : {E : Type 0} → (V → V → Type 0) → (Result V E → Type 0) → Knows K V S W → ℕ → K → ℕ → Result V (TryInsertError E)
        → Knows K V S W → Type 0
    TriesToInsert is_clone makes old i key now (Ok copy) new = GetsOrInserts is_clone (λ value. makes (Ok value)) old i key now (Ok copy) new
    TriesToInsert is_clone makes old i key now (Err (failed.Make error)) new =
        makes (Err error) × Makes keys weighs rules plan old i (Get key now) (Found None) new
    TriesToInsert is_clone makes old i key now (Err failed.OutOfMemory) new =
        GetsOrInserts is_clone (λ value. makes (Ok value)) old i key now (Err refused.OutOfMemory) new

    -- what is found behind one's own write: a clone of the value, unless a visit of another since wrote, invalidated or removed the key
    pub record FindsOwn (is_clone : V → V → Type 0) (old : Knows K V S W) (key : K) (value : V) (found : Option V) (new : Knows K V S W) : Type 0 where
      pub write : Visit K V S W
      pub read : Visit K V S W
      pub between : Log K V S W
      pub earlier : Log K V S W
      pub seen : at new.seen (place_of plan keys key) ≡ (old.by, read) ∷ (between ++ (old.by, write) ∷ earlier)
      pub own : (copy : V) → found ≡ Some copy → Every (λ visit. Every (Spares keys key) visit.1) between → is_clone value copy
      pub owned : (copy : V) → found ≡ Some copy → IsOwner rules old.by key → is_clone value copy

    -- what a session finds that was told of another's write: a clone of that value, unless a visit behind the write wrote, invalidated or removed the key
    pub record FindsTold (is_clone : V → V → Type 0) (by writer : ℕ) (key : K) (value : V) (found : Option V) (new : Knows K V S W) : Type 0 where
      pub write : Visit K V S W
      pub read : Visit K V S W
      pub between : Log K V S W
      pub earlier : Log K V S W
      pub seen : at new.seen (place_of plan keys key) ≡ (by, read) ∷ (between ++ (writer, write) ∷ earlier)
      pub told : (copy : V) → found ≡ Some copy → Every (λ visit. Every (Spares keys key) visit.1) between → is_clone value copy

    -- what is found once a note was taken in: a clone of the value last written, and unexpired, in a history that goes on from the note
    pub record FindsFromNote (is_clone : V → V → Type 0) (told : Log K V S W) (key : K) (now : ℕ) (found : Option V) : Type 0 where
      pub since : Log K V S W
      pub current : (copy : V) → found ≡ Some copy
          → (value : V) × is_clone value copy × IsCurrent keys plan.policy now (exchanges (calls (since ++ told))) key value
