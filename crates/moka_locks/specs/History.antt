-- The history of each shard of a cache: the visits to it, the last one first, and what a visitor knows of it.
use Rattle.std.specs.Prelude.{◌≡◌, ◌≢◌, ◌≤◌, ℕ, ◌*◌, Bool, List, [], ◌∷◌, ◌++◌, Option, Some, None, IfSome, option_map, Result, Ok, Err, OnOk}
use mathlib.Core.Option.{some}
use lib.ListN.{get_elem?}
use Rattle.atomic_table.specs.Seated.{TableId}
use Rattle.moka_common.specs.Keys.{Keys}
use Rattle.moka_common.specs.Settings.{Settings}
use Rattle.moka_common.specs.declared.error.InsertError.{InsertError}
use Rattle.moka_sync_model.specs.declared.constants.TheConstants.{SHARDS}
use Rattle.moka_sync_model.specs.declared.ticket.Ticket.{Ticket}
use Rattle.moka_sync_model.specs.Entry.{entry_at}
use Rattle.moka_sync_model.specs.Ticket.{shard_of}
use Rattle.moka_row.specs.Visits.{Known, at, visits_by}
use Rattle.moka_sync_model.specs.Parts.{ShardState}
use Rattle.moka_shard.specs.Shard.{Shard, state_of, unexpired}
use Rattle.moka_shard.specs.ShardStep.{IsInsert}
use Rattle.moka_history.specs.Steps.{Act, Step, Gets, Looks, Copies, Inserts, Invalidates, Takes, Leads, new_shard}
use Rattle.moka_locks.specs.declared.account.Kept.{Kept}
use Rattle.moka_locks.specs.Cache.{Plan}
use Rattle.moka_locks.specs.Moments.{latest}

-- the steps of a visit
abbrev pub Visit : Type 0 → Type 0 → Type 0 → Type 0
Visit K V S = List (Step K V S)

-- the visits to a shard, each with the number of its visitor
abbrev pub Log : Type 0 → Type 0 → Type 0 → Type 0
Log K V S = List (ℕ × Visit K V S)

-- what a visitor knows: of each shard a history that it has seen, and its own visits there
abbrev pub Knows : Type 0 → Type 0 → Type 0 → Type 0
Knows K V S = Known (Visit K V S) (Plan S)

-- a table has the shards of a cache
abbrev pub IsSized : TableId → Type 0
IsSized table = (table.slots ≡ SHARDS) × (table.words ≡ SHARDS * 16)

-- the steps of visits
abbrev pub steps : {C : Type 0} → List (ℕ × List C) → List C
steps [] = []
steps (visit ∷ log) = visit.1 ++ steps log

-- a fact of each
abbrev pub Every : {X : Type 0} → (X → Type 0) → List X → Type 0
Every P [] = Unit {0}
Every P (x ∷ xs) = P x × Every P xs

-- the moment by which a call hides: what was written or used before it is not found
abbrev pub moment_of : {K V : Type 0} → Act K V → Option ℕ
moment_of (Gets key now valid_after found) = Some valid_after
moment_of (Looks key now valid_after there) = Some valid_after
moment_of (Copies now valid_after pairs) = Some valid_after
moment_of (Takes key now valid_after found left) = Some valid_after
moment_of act = None

-- a step hides by no moment after this one
abbrev pub HidesUpTo : {K V S : Type 0} → ℕ → Step K V S → Type 0
HidesUpTo bound step = IfSome (moment_of step.act) (λ moment. moment ≤ bound)

-- no step hides less than one before it
abbrev pub HidesMore : {K V S : Type 0} → List (Step K V S) → Type 0
HidesMore [] = Unit {0}
HidesMore (step ∷ earlier) = IfSome (moment_of step.act) (λ moment. Every (HidesUpTo moment) earlier) × HidesMore earlier

-- all but the first
abbrev pub rest : {X : Type 0} → List X → List X
rest [] = []
rest (x ∷ xs) = xs

-- any weight: an insert says itself that its weight is one that the weigher returns
abbrev pub AnyWeight : {K V : Type 0} → K → V → ℕ → Type 0
AnyWeight key value weight = Unit {0}

-- what is known of a shard is the same
abbrev pub SameIn : {K V S : Type 0} → Knows K V S → ℕ → Knows K V S → Type 0
SameIn old j new = (at new.seen j ≡ at old.seen j) × (at new.mine j ≡ at old.mine j)

-- the shard of a key
abbrev pub place_of : {K S : Type 0} → Keys K S → Settings S → K → ℕ
place_of keys settings key = shard_of (keys.hash_of settings.hash_state key)

module _ {K V S : Type 0} (keys : Keys K S) (settings : Settings S) where
  -- a step is of no key, or of one of a shard
  abbrev pub IsOfShard : ℕ → Act K V → Type 0
  IsOfShard i (Gets key now valid_after found) = place_of keys settings key ≡ i
  IsOfShard i (Looks key now valid_after there) = place_of keys settings key ≡ i
  IsOfShard i (Inserts key value now answer) = place_of keys settings key ≡ i
  IsOfShard i (Invalidates key left) = place_of keys settings key ≡ i
  IsOfShard i (Takes key now valid_after found left) = place_of keys settings key ≡ i
  IsOfShard i act = Unit {0}

  -- the steps of a history lead from a new shard to this one, are of its keys, and each hides no less than those before it
  pub record IsLedBy (i : ℕ) (log : Log K V S) (shard : Shard K V S) : Type 0 where
    pub first : ℕ
    pub led : Leads keys AnyWeight settings (new_shard settings i first) (steps log) (state_of shard)
    pub own : Every (λ step. IsOfShard i step.act) (steps log)
    pub hides : HidesMore (steps log)

  -- A visit of one step stands behind all that the visitor had seen there, and behind what others did since. With the steps before it, it is a history of one
  -- shard from a new one on.
  pub record MakesIn (old : Knows K V S) (i : ℕ) (act : Act K V) (new : Knows K V S) : Type 0 where
    pub step : Step K V S
    pub shard : Shard K V S
    pub since : Log K V S
    pub did : step.act ≡ act
    pub history : IsLedBy i (at new.seen i) shard
    pub seen : at new.seen i ≡ (old.by, step ∷ []) ∷ (since ++ at old.seen i)
    pub mine : at new.mine i ≡ (step ∷ []) ∷ at old.mine i
    pub told : visits_by old.by (since ++ at old.seen i) ≡ at old.mine i
    pub same : new.by ≡ old.by

  -- and no other shard is visited
  pub record Makes (old : Knows K V S) (i : ℕ) (act : Act K V) (new : Knows K V S) : Type 0 where
    pub made : MakesIn old i act new
    pub others : (j : ℕ) → j ≢ i → SameIn old j new

  -- an insert, in the shard of its key: where it is accepted, the weight is one that the weigher returns
  pub record Puts (weighs : K → V → ℕ → Type 0) (old : Knows K V S) (key : K) (value : V) (now : ℕ) (answer : Result Ticket InsertError) (new : Knows K V S)
      : Type 0 where
    pub made : Makes old (place_of keys settings key) (Inserts key value now answer) new
    pub weight : ℕ
    pub refused : Bool
    pub weighed : OnOk answer (weighs key value weight)
    pub step : IsInsert made.made.step.before (keys.hash_of settings.hash_state key) key value weight now refused
        (entry_at keys.eq key made.made.step.before.entries) answer made.made.step.after

module _ {K V S : Type 0} (keys : Keys K S) (plan : Plan S) where
  -- a shard in its slot is what its history leads to, and its seat at the moments has seen all by which the steps hide
  pub record IsKeptBy (i : ℕ) (log : Log K V S) (kept : Kept (Shard K V S)) : Type 0 where
    pub led : IsLedBy keys plan.settings i log kept.shard
    pub seat : (kept.witness.table_id ≡ plan.moments) × (kept.witness.me.1 ≡ [])
    pub hides : Every (HidesUpTo (latest kept.witness.me.0.seen)) (steps log)

  -- new shards
  abbrev pub AreShards : List (Kept (Shard K V S)) → Type 0
  AreShards shards = (i : ℕ) (x : Kept (Shard K V S)) → get_elem? shards i ≡ some x → IsKeptBy i [] x

-- what a get finds at a shard: the value and the ticket of the key's entry, if it is live
abbrev pub found_at : {K V S : Type 0} → (K → K → Bool) → Settings S → ShardState K V S → K → ℕ → ℕ → Option (V × Ticket)
found_at eq settings shard key now valid_after =
    option_map (λ e. (e.value, e.ticket)) (unexpired settings valid_after now (entry_at eq key shard.entries))

-- what a removal does, by what a get in its place finds and by its result: if memory for the clone is refused, it is a get
abbrev pub take_act : {K V T E : Type 0} → K → ℕ → ℕ → Option (V × Ticket) → Result (T × Option Ticket) E → Act K V
take_act key now valid_after found (Ok taken) = Takes key now valid_after (option_map (λ f. f.0) found) taken.1
take_act key now valid_after found (Err error) = Gets key now valid_after found
