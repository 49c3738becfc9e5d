-- Whole calls of one caller, over any cache whose steps are named: the core's, or those of a cache behind locks.
use Rattle.std.specs.Prelude.{◌≡◌, ◌≢◌, ◌⊎◌, ℕ, Bool, true, false, List, [], ◌∷◌, ◌++◌, None, Some}
use Rattle.moka_sync_model.specs.declared.phase.Phase.{Phase as PhaseName}
use Rattle.moka_sync_model.specs.declared.phase.Phase.TheVariants as name
use Rattle.moka_sync_model.specs.declared.event.Event.{Event}
use Rattle.moka_sync_model.specs.Reply.{Reply}
use Rattle.moka_sync_model.specs.declared.event.Event.TheVariants.{Insert, Get, Contains, Invalidate, Take, InvalidateAll, Push, Forget, Copy}
use Rattle.moka_sync_model.specs.declared.event.Event.TheVariants.{Begin, Turn}
use Rattle.moka_sync_model.specs.declared.event.Reply.TheVariants.{Done, Found, Discarded, Rows, At, NotPossible, OutOfMemory, TicketsUsedUp}

-- which log a call looks at
pub data Log : Type 0 where
  OfReads : Log
  OfWrites : Log

-- the pairs of one shard more, if the others were copied
abbrev pub with_pairs : {K V : Type 0} → List (K × V) → Reply K V → Reply K V
with_pairs pairs (Rows others) = Rows (pairs ++ others)
with_pairs pairs reply = reply

-- the steps: an event gets a reply; a call looks at a log and decides whether it runs a maintenance; and whether the caller has an
-- operation pending
module _ {W K V : Type 0} (allowed : W → Event K V → Reply K V → W → Type 0) (decides : W → Log → ℕ → Bool → W → Type 0)
    (is_pending : W → Bool) (caller : ℕ) where
  -- turns until the phase is idle
  pub data Turns : W → W → Type 0 where
    LastTurn : (a b : W) → allowed a Turn (At name.Idle) b → Turns a b
    NextTurn : (a b c : W) (phase : PhaseName) → phase ≢ name.Idle → allowed a Turn (At phase) b → Turns b c → Turns a c

  -- a whole maintenance
  pub record Maintains (now : ℕ) (old new : W) : Type 0 where
    pub begun : W
    pub begins : allowed old (Begin now) Done begun
    pub turns : Turns begun new

  -- one where the call has decided so
  abbrev pub MaintainsIf : Bool → ℕ → W → W → Type 0
  MaintainsIf true now old new = Maintains now old new
  MaintainsIf false now old new = new ≡ old

  -- a call decides, and runs a maintenance where it has decided so
  pub record MaintainsIfDue (log : Log) (now : ℕ) (old new : W) : Type 0 where
    pub runs : Bool
    pub decided : W
    pub decision : decides old log now runs decided
    pub maintains : MaintainsIf runs now decided new

  -- the pending read goes to its log, or is discarded
  pub record PushesRead (now : ℕ) (old new : W) : Type 0 where
    pub next : W
    pub maintains : MaintainsIfDue OfReads now old next
    pub pushes : allowed next (Push caller) Done new ⊎ allowed next (Push caller) Discarded new

  -- the pending write goes to its log, once there is room
  pub data PushesWrite (now : ℕ) : W → W → Type 0 where
    Pushed : (a b c : W) → MaintainsIfDue OfWrites now a b → allowed b (Push caller) Done c → PushesWrite now a c
    WasFull : (a b c d : W) → MaintainsIfDue OfWrites now a b → allowed b (Push caller) NotPossible c → PushesWrite now c d
        → PushesWrite now a d

  -- what follows an invalidation, by whether a removal is pending
  abbrev pub PushesIf : Bool → ℕ → W → W → Type 0
  PushesIf true now old new = PushesWrite now old new
  PushesIf false now old new = new ≡ old

  -- what follows a removal, by its reply and by whether it is pending: of an expired entry it is, though nothing was found
  abbrev pub AfterRemove : ℕ → Reply K V → W → W → Type 0
  AfterRemove now (Found found) old new = PushesIf (is_pending old) now old new
  AfterRemove now OutOfMemory old new = new ≡ old
  AfterRemove now reply old new = ⊥

  -- what follows a get, by its reply and by whether the value was copied for the caller
  abbrev pub AfterGet : ℕ → Reply K V → Bool → W → W → Type 0
  AfterGet now (Found None) copied old new = PushesRead now old new
  AfterGet now (Found (Some value)) true old new = PushesRead now old new
  AfterGet now (Found (Some value)) false old new = allowed old (Forget caller) Done new
  AfterGet now OutOfMemory copied old new = new ≡ old
  AfterGet now reply copied old new = ⊥

  -- what follows an insert
  abbrev pub AfterInsert : ℕ → Reply K V → W → W → Type 0
  AfterInsert now Done old new = PushesWrite now old new
  AfterInsert now OutOfMemory old new = new ≡ old
  AfterInsert now TicketsUsedUp old new = new ≡ old
  AfterInsert now reply old new = ⊥

  -- a first step with this reply, and what follows
  pub record Calls (event : Event K V) (reply : Reply K V) (Follows : W → W → Type 0) (old new : W) : Type 0 where
    pub next : W
    pub first : allowed old event reply next
    pub follows : Follows next new

  -- the whole call of get
  abbrev pub CallsGet : K → ℕ → Bool → Reply K V → W → W → Type 0
  CallsGet key now copied reply old new = Calls (Get caller key now) reply (AfterGet now reply copied) old new

  -- that of insert
  abbrev pub CallsInsert : K → V → ℕ → Reply K V → W → W → Type 0
  CallsInsert key value now reply old new = Calls (Insert caller key value now) reply (AfterInsert now reply) old new

  -- that of invalidate
  abbrev pub CallsInvalidate : K → ℕ → Reply K V → W → W → Type 0
  CallsInvalidate key now reply old new =
      (reply ≡ Done) × Calls (Invalidate caller key now) Done (λ next new. PushesIf (is_pending next) now next new) old new

  -- that of remove
  abbrev pub CallsRemove : K → ℕ → Reply K V → W → W → Type 0
  CallsRemove key now reply old new = Calls (Take caller key now) reply (AfterRemove now reply) old new

  -- calls of one step
  abbrev pub CallsContains : K → ℕ → Reply K V → W → W → Type 0
  CallsContains key now reply old new = allowed old (Contains key now) reply new

  -- another of one step
  abbrev pub CallsInvalidateAll : ℕ → Reply K V → W → W → Type 0
  CallsInvalidateAll now reply old new = allowed old (InvalidateAll now) reply new

  -- that of sync
  abbrev pub CallsSync : ℕ → Reply K V → W → W → Type 0
  CallsSync now reply old new = (reply ≡ Done) × Maintains now old new

  -- the pairs of these shards, or that memory was refused at one
  abbrev pub CallsIter : List ℕ → ℕ → Reply K V → W → W → Type 0
  CallsIter [] now reply old new = (reply ≡ Rows []) × (new ≡ old)
  CallsIter (shard ∷ shards) now reply old new =
      (allowed old (Copy shard now) OutOfMemory new × (reply ≡ OutOfMemory))
      ⊎ ((pairs : List (K × V)) × (others : Reply K V) × (reply ≡ with_pairs pairs others)
      × Calls (Copy shard now) (Rows pairs) (CallsIter shards now others) old new)
