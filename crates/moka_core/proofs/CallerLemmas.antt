-- Whole calls over the steps of a core are the core's whole calls.
use Rattle.std.proofs.Common.{◌≡◌, ℕ, nat_eq, not, Bool, true, false, List, [], Option, Some, None, refl, ◌∙◌, ap, subst, inl, inr}
use Rattle.std.specs.Map.{lookup}
use Rattle.std.specs.Option.{is_some}
use Rattle.moka_common.specs.Keys.{Keys}
use Rattle.moka_sync_model.specs.declared.call.Call.TheVariants as call
use Rattle.moka_sync_model.specs.declared.constants.TheConstants.{CALLER}
use Rattle.moka_sync_model.specs.declared.event.Event.{Event}
use Rattle.moka_sync_model.specs.declared.event.Event.TheVariants.{Insert, Get, Invalidate, Take, Push, Begin, Turn}
use Rattle.moka_sync_model.specs.declared.event.Reply.TheVariants.{Done, Found, Discarded, At, NotPossible, OutOfMemory, TicketsUsedUp}
use Rattle.moka_sync_model.specs.declared.operation.Operation.{Operation}
use Rattle.moka_sync_model.specs.declared.operation.Operation.TheVariants.{Reading, Writing}
use Rattle.moka_sync_model.specs.declared.phase.Phase.TheVariants as name
use Rattle.moka_sync_model.specs.CoreCall.{Decides, IsAtRest, IsCall, has_pending}
use Rattle.moka_sync_model.specs.CoreState.{CoreState, pending_of}
use Rattle.moka_sync_model.specs.Phase.{Phase, is_idle}
use Rattle.moka_sync_model.specs.Reply.{Reply}
use Rattle.moka_sync_model.specs.Run.{Happens}
use Rattle.moka_sync_model.specs.WholeCall.{Log, OfReads, OfWrites, Turns, LastTurn, NextTurn}
use Rattle.moka_sync_model.specs.WholeCall.{Maintains, MaintainsIf, MaintainsIfDue, PushesRead}
use Rattle.moka_sync_model.specs.WholeCall.{PushesWrite, Pushed, WasFull, PushesIf, AfterGet, AfterInsert, AfterRemove}
use Rattle.moka_sync_model.specs.WholeCall.{CallsInsert, CallsGet, CallsInvalidate, CallsRemove, CallsSync}
use Rattle.moka_core.specs.Core.{Core as CoreValue}
use Rattle.moka_core.specs.CoreCaller.{core_allows, core_caller, core_decides}
use Rattle.moka_core.specs.StepLaws.{AreCalls}
use Rattle.moka_sync_model.specs.Steps.{Caller, at_rest, has_operation, kind_of, pends_by}

-- an operation is pending exactly where there is one
pending_by_kind : (operation : Option Operation) → has_operation (kind_of operation) ≡ is_some operation
pending_by_kind None = refl
pending_by_kind (Some (Reading read)) = refl
pending_by_kind (Some (Writing write)) = refl

module _ {K V S W : Type 0} (keys : Keys K S) (weighs : W → K → V → ℕ → Type 0) (weigher : W) where
  abbrev Core : Type 0
  Core = CoreValue K V S W

  -- a step over the core
  abbrev Allowed : Core → Event K V → Reply K V → Core → Type 0
  Allowed = core_allows keys weighs

  -- a step of the core
  abbrev Step : CoreState K V S → Event K V → Reply K V → CoreState K V S → Type 0
  Step = Happens keys (weighs weigher)

  -- it has this weigher
  abbrev Has : Core → Type 0
  Has core = core.weigher ≡ weigher

  step : (a b : Core) (event : Event K V) (reply : Reply K V) → Has a → Allowed a event reply b → Step a.state event reply b.state × Has b
  step a b event reply has h = (subst (λ w. Happens keys (weighs w) a.state event reply b.state) has h.0, h.1 ∙ has)

  turns : (a b : Core) → Has a → Turns Allowed core_decides (pends_by core_caller) CALLER a b
      → Turns Step Decides has_pending CALLER a.state b.state × Has b
  turns a b has (LastTurn _ _ last) =
      let (taken, kept) = step a b Turn (At name.Idle) has last in (LastTurn a.state b.state taken, kept)
  turns a b has (NextTurn _ next _ phase busy first later) =
      let (taken, kept) = step a next Turn (At phase) has first in
      let (others, end) = turns next b kept later in (NextTurn a.state next.state b.state phase busy taken others, end)

  maintenance : (now : ℕ) (a b : Core) → Has a → Maintains Allowed core_decides (pends_by core_caller) CALLER now a b
      → Maintains Step Decides has_pending CALLER now a.state b.state × Has b
  maintenance now a b has m =
      let (taken, kept) = step a m.begun (Begin now) Done has m.begins in
      let (others, end) = turns m.begun b kept m.turns in (record { begun = m.begun.state; begins = taken; turns = others }, end)

  due : (log : Log) (now : ℕ) (a b : Core) → Has a → MaintainsIfDue Allowed core_decides (pends_by core_caller) CALLER log now a b
      → MaintainsIfDue Step Decides has_pending CALLER log now a.state b.state × Has b
  due log now a b has m =
      let (runs, kept) = by m.runs m.maintains in
      (record { runs = m.runs; decided = m.decided.state; decision = m.decision.0; maintains = runs }, kept)
    where
      by : (runs : Bool) → MaintainsIf Allowed core_decides (pends_by core_caller) CALLER runs now m.decided b
          → MaintainsIf Step Decides has_pending CALLER runs now m.decided.state b.state × Has b
      by true p = maintenance now m.decided b (m.decision.1 ∙ has) p
      by false p = (ap (λ c. c.state) p, ap (λ c. c.weigher) p ∙ (m.decision.1 ∙ has))

  read : (now : ℕ) (a b : Core) → Has a → PushesRead Allowed core_decides (pends_by core_caller) CALLER now a b
      → PushesRead Step Decides has_pending CALLER now a.state b.state × Has b
  read now a b has p =
      let (before, kept) = due OfReads now a p.next has p.maintains in
      elim (p.pushes) [
        | inl pushed ↦
            let (taken, end) = step p.next b (Push CALLER) Done kept pushed in
            (record { next = p.next.state; maintains = before; pushes = inl taken }, end)
        | inr dropped ↦
            let (taken, end) = step p.next b (Push CALLER) Discarded kept dropped in
            (record { next = p.next.state; maintains = before; pushes = inr taken }, end)
      ]

  write : (now : ℕ) (a b : Core) → Has a → PushesWrite Allowed core_decides (pends_by core_caller) CALLER now a b
      → PushesWrite Step Decides has_pending CALLER now a.state b.state × Has b
  write now a b has (Pushed _ next _ maintains pushes) =
      let (before, kept) = due OfWrites now a next has maintains in
      let (taken, end) = step next b (Push CALLER) Done kept pushes in (Pushed a.state next.state b.state before taken, end)
  write now a b has (WasFull _ next again _ maintains pushes later) =
      let (before, kept) = due OfWrites now a next has maintains in
      let (taken, more) = step next again (Push CALLER) NotPossible kept pushes in
      let (others, end) = write now again b more later in (WasFull a.state next.state again.state b.state before taken others, end)

  -- an insert
  pub insert_is_call : (old new : Core) → Has old → (key : K) (value : V) (now : ℕ) (reply : Reply K V)
      → CallsInsert Allowed core_decides (pends_by core_caller) CALLER key value now reply old new
      → IsCall keys (weighs weigher) old.state (call.Insert key value now) reply new.state × Has new
  insert_is_call old new has key value now reply c =
      let (taken, kept) = step old c.next (Insert CALLER key value now) reply has c.first in
      let (others, end) = by reply kept c.follows in (record { next = c.next.state; first = taken; follows = others }, end)
    where
      by : (reply : Reply K V) → Has c.next → AfterInsert Allowed core_decides (pends_by core_caller) CALLER now reply c.next new
          → AfterInsert Step Decides has_pending CALLER now reply c.next.state new.state × Has new
      by Done kept p = write now c.next new kept p
      by OutOfMemory kept p = (ap (λ c. c.state) p, ap (λ c. c.weigher) p ∙ kept)
      by TicketsUsedUp kept p = (ap (λ c. c.state) p, ap (λ c. c.weigher) p ∙ kept)
      by other kept p = absurd p

  -- a get whose value was copied
  pub get_is_call : (old new : Core) → Has old → (key : K) (now : ℕ) (reply : Reply K V)
      → CallsGet Allowed core_decides (pends_by core_caller) CALLER key now true reply old new
      → IsCall keys (weighs weigher) old.state (call.Get key now) reply new.state × Has new
  get_is_call old new has key now reply c =
      let (taken, kept) = step old c.next (Get CALLER key now) reply has c.first in
      let (others, end) = by reply kept c.follows in (record { next = c.next.state; first = taken; follows = others }, end)
    where
      by : (reply : Reply K V) → Has c.next → AfterGet Allowed core_decides (pends_by core_caller) CALLER now reply true c.next new
          → AfterGet Step Decides has_pending CALLER now reply true c.next.state new.state × Has new
      by (Found None) kept p = read now c.next new kept p
      by (Found (Some value)) kept p = read now c.next new kept p
      by OutOfMemory kept p = (ap (λ c. c.state) p, ap (λ c. c.weigher) p ∙ kept)
      by other kept p = absurd p

  -- what follows an invalidation, and a removal
  out : (now : ℕ) (a b : Core) → Has a → PushesIf Allowed core_decides (pends_by core_caller) CALLER (pends_by core_caller a) now a b
      → PushesIf Step Decides has_pending CALLER (has_pending a.state) now a.state b.state × Has b
  out now a b has p =
      let (others, end) = by (pends_by core_caller a) p in (
        subst (λ is. PushesIf Step Decides has_pending CALLER is now a.state b.state) (pending_by_kind (pending_of CALLER a.state)) others,
        end,
      )
    where
      by : (pending : Bool) → PushesIf Allowed core_decides (pends_by core_caller) CALLER pending now a b
          → PushesIf Step Decides has_pending CALLER pending now a.state b.state × Has b
      by true p = write now a b has p
      by false p = (ap (λ c. c.state) p, ap (λ c. c.weigher) p ∙ has)

  -- an invalidation
  pub invalidate_is_call : (old new : Core) → Has old → (key : K) (now : ℕ) (reply : Reply K V)
      → CallsInvalidate Allowed core_decides (pends_by core_caller) CALLER key now reply old new
      → IsCall keys (weighs weigher) old.state (call.Invalidate key now) reply new.state × Has new
  invalidate_is_call old new has key now reply (word, c) =
      let (taken, kept) = step old c.next (Invalidate CALLER key now) Done has c.first in
      let (others, end) = out now c.next new kept c.follows in
      ((word, record { next = c.next.state; first = taken; follows = others }), end)

  -- a removal
  pub remove_is_call : (old new : Core) → Has old → (key : K) (now : ℕ) (reply : Reply K V)
      → CallsRemove Allowed core_decides (pends_by core_caller) CALLER key now reply old new
      → IsCall keys (weighs weigher) old.state (call.Remove key now) reply new.state × Has new
  remove_is_call old new has key now reply c =
      let (taken, kept) = step old c.next (Take CALLER key now) reply has c.first in
      let (others, end) = by reply kept c.follows in (record { next = c.next.state; first = taken; follows = others }, end)
    where
      by : (reply : Reply K V) → Has c.next → AfterRemove Allowed core_decides (pends_by core_caller) CALLER now reply c.next new
          → AfterRemove Step Decides has_pending CALLER now reply c.next.state new.state × Has new
      by (Found found) kept p = out now c.next new kept p
      by OutOfMemory kept p = (ap (λ c. c.state) p, ap (λ c. c.weigher) p ∙ kept)
      by other kept p = absurd p

  -- a sync
  pub sync_is_call : (old new : Core) → Has old → (now : ℕ) (reply : Reply K V)
      → CallsSync Allowed core_decides (pends_by core_caller) CALLER now reply old new
      → IsCall keys (weighs weigher) old.state (call.Sync now) reply new.state × Has new
  sync_is_call old new has now reply (word, m) = let (all, end) = maintenance now old new has m in ((word, all), end)

-- where nothing is under way at a core, nothing is of its caller
pub rests : {K V S W : Type 0} (core : CoreValue K V S W) → IsAtRest core.state → core_caller core ≡ at_rest
rests core rest =
    let both : List (ℕ × Operation) → Phase → Caller =
    λ pending phase. record { pending = kind_of (lookup (nat_eq CALLER) pending); is_maintaining = not (is_idle phase) } in
    ap (λ pending. both pending core.state.maintenance.phase) rest.pending ∙ ap (both []) rest.phase

-- whole calls over the steps of a core are the core's
pub are_calls : {K V S W : Type 0} (keys : Keys K S) (weighs : W → K → V → ℕ → Type 0) → AreCalls keys weighs
are_calls keys weighs = record {
  insert = λ old new. insert_is_call keys weighs old.weigher old new refl;
  get = λ old new. get_is_call keys weighs old.weigher old new refl;
  invalidate = λ old new. invalidate_is_call keys weighs old.weigher old new refl;
  remove = λ old new. remove_is_call keys weighs old.weigher old new refl;
  sync = λ old new. sync_is_call keys weighs old.weigher old new refl;
  rest = rests;
}
