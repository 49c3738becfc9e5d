-- How a core's parts are seen together. No public clause cites this module.
use Rattle.std.specs.Prelude.{◌≡◌, ◌≤◌, ℕ, ◌+◌, [], Option, None, Some}
use Rattle.moka_common.specs.Keys.{Keys}
use Rattle.moka_common.specs.declared.error.InsertError.{InsertError}
use Rattle.moka_common.specs.declared.error.InsertError.TheVariants as error
use Rattle.moka_sync_model.specs.declared.event.Event.TheVariants.{Get, Insert, Invalidate, Take}
use Rattle.moka_sync_model.specs.declared.event.Reply.TheVariants.{Done, Found, OutOfMemory, TicketsUsedUp}
use Rattle.moka_sync_model.specs.declared.operation.Operation.{Operation}
use Rattle.moka_sync_model.specs.declared.operation.Operation.TheVariants.{Reading, Writing}
use Rattle.moka_sync_model.specs.declared.operation.Read.{Read}
use Rattle.moka_sync_model.specs.declared.operation.Write.{Write}
use Rattle.moka_sync_model.specs.CoreState.{CoreState, new_maintenance, pending_of, with_pending}
use Rattle.moka_sync_model.specs.Reply.{Reply}
use Rattle.moka_sync_model.specs.Run.{Happens}

-- the state, the weigher, and for how many more pending operations there is room
pub record Machine (K V S W : Type 0) : Type 0 where
  pub state : CoreState K V S
  pub weigher : W
  pub room : ℕ

module _ {K V S W : Type 0} where
  -- a step leaves the weigher, and uses the room of one operation at most
  pub record KeepsRoom (old new : Machine K V S W) : Type 0 where
    pub weigher : new.weigher ≡ old.weigher
    pub room : old.room ≤ new.room + 1

  -- nothing but the map has changed
  pub record KeepsAllButMap (old new : Machine K V S W) : Type 0 where
    pub state : new.state ≡ record old.state { entries = new.state.entries; next_numbers = new.state.next_numbers }
    pub weigher : new.weigher ≡ old.weigher
    pub room : new.room ≡ old.room

-- but for its map, a core is as it was built
pub record IsUntouched {K V S : Type 0} (core : CoreState K V S) : Type 0 where
  pub valid_after : core.valid_after ≡ 0
  pub read_log : core.read_log ≡ []
  pub write_log : core.write_log ≡ []
  pub pending : core.pending ≡ []
  pub maintenance : core.maintenance ≡ new_maintenance
  pub sync_after : core.sync_after ≡ None

-- the core, with this operation of a caller pending
abbrev pub left_pending : {K V S : Type 0} → ℕ → Operation → CoreState K V S → CoreState K V S
left_pending caller operation core = record core { pending = with_pending caller operation core }

module _ {K V S : Type 0} (keys : Keys K S) (weighs : K → V → ℕ → Type 0) (core : CoreState K V S) (key : K) (now : ℕ) where
  -- a get by whatever caller has nothing pending finds this, and leaves this read pending
  abbrev pub FindsFor : Option V → Read → Type 0
  FindsFor found read =
      (caller : ℕ) → pending_of caller core ≡ None
      → Happens keys weighs core (Get caller key now) (Found found) (left_pending caller (Reading read) core)

  -- it is refused memory, and changes nothing
  abbrev pub RefusesFor : Type 0
  RefusesFor = (caller : ℕ) → pending_of caller core ≡ None → Happens keys weighs core (Get caller key now) OutOfMemory core

-- the reply to an insert that was refused
abbrev pub refusal_reply : {K V : Type 0} → InsertError → Reply K V
refusal_reply error.OutOfMemory = OutOfMemory
refusal_reply error.TicketsUsedUp = TicketsUsedUp

module _ {K V S : Type 0} (keys : Keys K S) (weighs : K → V → ℕ → Type 0) (old new : CoreState K V S) (key : K) where
  -- an insert by whatever caller has nothing pending makes the new map, and leaves this write pending
  abbrev pub InsertsFor : V → ℕ → Write → Type 0
  InsertsFor value now write =
      (caller : ℕ) → pending_of caller old ≡ None
      → Happens keys weighs old (Insert caller key value now) Done (left_pending caller (Writing write) new)

  -- it is refused so
  abbrev pub RefusesInsertFor : V → ℕ → InsertError → Type 0
  RefusesInsertFor value now error =
      (caller : ℕ) → pending_of caller old ≡ None → Happens keys weighs old (Insert caller key value now) (refusal_reply error) new

  -- an invalidation by whatever caller has nothing pending makes the new map, and leaves this write pending, or none
  abbrev pub TakesFor : Option Write → Type 0
  TakesFor (Some write) =
      (caller now : ℕ) → pending_of caller old ≡ None
      → Happens keys weighs old (Invalidate caller key now) Done (left_pending caller (Writing write) new)
  TakesFor None = (caller now : ℕ) → pending_of caller old ≡ None → Happens keys weighs old (Invalidate caller key now) Done new

  -- a removal by whatever caller has nothing pending finds this, makes the new map, and leaves this write pending, or none
  abbrev pub RemovesFor : ℕ → Option V → Option Write → Type 0
  RemovesFor now found (Some write) =
      (caller : ℕ) → pending_of caller old ≡ None
      → Happens keys weighs old (Take caller key now) (Found found) (left_pending caller (Writing write) new)
  RemovesFor now found None =
      (caller : ℕ) → pending_of caller old ≡ None → Happens keys weighs old (Take caller key now) (Found found) new
