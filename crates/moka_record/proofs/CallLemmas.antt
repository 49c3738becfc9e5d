-- What whole calls of the core keep, and what they answer.
use Rattle.std.proofs.Common.{◌≡◌, ℕ, Bool, true, false, List, [], ◌∷◌, ◌++◌, Option, Some, None, refl, ap, ◌∙◌, subst, sym, inl, inr}
use Rattle.std.specs.Bool.{MatchBool}
use Rattle.std.specs.Option.{MatchOption}
use Rattle.moka_common.specs.Keys.{Keys}
use Rattle.moka_common.specs.Settings.{Settings}
use Rattle.moka_sync_model.specs.declared.constants.TheConstants.{CALLER}
use Rattle.moka_sync_model.specs.declared.call.Call.{Call}
use Rattle.moka_sync_model.specs.declared.call.Call.TheVariants as call
use Rattle.moka_sync_model.specs.declared.event.Event.{Event}
use Rattle.moka_sync_model.specs.declared.event.Event.TheVariants.{Insert, Get, Contains, Invalidate, Take, InvalidateAll, Push, Forget, Copy}
use Rattle.moka_sync_model.specs.declared.event.Event.TheVariants.{Begin, Turn, Counts}
use Rattle.moka_sync_model.specs.declared.event.Reply.TheVariants as reply
use Rattle.moka_sync_model.specs.declared.operation.Operation.{Operation}
use Rattle.moka_sync_model.specs.declared.operation.Operation.TheVariants.{Reading, Writing}
use Rattle.moka_sync_model.specs.Entry.{Entry, entry_at}
use Rattle.moka_sync_model.specs.CoreState.{CoreState, pending_of, without_pending}
use Rattle.moka_sync_model.specs.CoreCall.{Decides, has_pending, scheduled, IsCall}
use Rattle.moka_sync_model.specs.Event.{IsPush, IsForgetting, IsBeginning, IsTurn, IsStep}
use Rattle.moka_sync_model.specs.MapStep.{OnlyReplies, IsInsert, IsUpdate, IsAddition, fresh_entry}
use Rattle.moka_sync_model.specs.MapStep.{IsGet, IsMiss, IsHit, IsInvalidation, IsTaking, IsCopy, pairs_of}
use Rattle.moka_sync_model.specs.Phase.{is_idle}
use Rattle.moka_sync_model.specs.Reply.{Reply}
use Rattle.moka_sync_model.specs.Run.{Happens}
use Rattle.moka_sync_model.specs.Turn.Plan.{Plan, Alone, AtReads, AtWrites, AtEntry, after_plan}
use Rattle.moka_sync_model.specs.Turn.Turn.{turn_at}
use Rattle.moka_sync_model.specs.WholeCall as whole
use Rattle.moka_sync_model.specs.WholeCall.{LastTurn, NextTurn, Pushed, WasFull}
use Rattle.moka_record.specs.Record.{IsAnswer}

module _ {K V S : Type 0} (keys : Keys K S) where
  -- the settings of a core
  abbrev settings_of : CoreState K V S → Settings S
  settings_of core = core.settings

  -- they stay
  abbrev Stays : CoreState K V S → CoreState K V S → Type 0
  Stays old new = new.settings ≡ old.settings

  module _ (old new : CoreState K V S) (answer : Reply K V) where
    only : (why : Reply K V) → OnlyReplies keys old why answer new → Stays old new
    only why h = ap settings_of h.1

    by_test : (b : Bool) (P Q : Type 0) → (P → Stays old new) → (Q → Stays old new) → MatchBool b P Q → Stays old new
    by_test true P Q p q h = p h
    by_test false P Q p q h = q h

    if_free : (o : Option Operation) (H : Type 0) → (H → Stays old new)
        → MatchOption o H (λ operation. OnlyReplies keys old reply.NotPossible answer new) → Stays old new
    if_free None H stays h = stays h
    if_free (Some operation) H stays h = only reply.NotPossible h

    insert : (caller : ℕ) (key : K) (value : V) (now weight : ℕ) (refused : Bool) (present : Option (Entry K V))
        → IsInsert keys old caller key value now weight refused present answer new → Stays old new
    insert caller key value now weight true present h = only reply.OutOfMemory h
    insert caller key value now weight false (Some e) h =
        by_test _ (OnlyReplies keys old reply.TicketsUsedUp answer new) (IsUpdate keys old caller e value now weight answer new)
        (only reply.TicketsUsedUp) (λ u. ap settings_of u.1) h
    insert caller key value now weight false None h =
        by_test _ (OnlyReplies keys old reply.TicketsUsedUp answer new)
        (IsAddition keys old caller (fresh_entry keys old key value weight now) answer new)
        (only reply.TicketsUsedUp) (λ a. ap settings_of a.3) h

    get : (caller : ℕ) (key : K) (now : ℕ) (refused : Bool) (present : Option (Entry K V))
        → IsGet keys old caller key now refused present answer new → Stays old new
    get caller key now refused None h = ap settings_of h.1
    get caller key now refused (Some e) h =
        by_test _ (IsMiss keys old caller key answer new)
        (MatchBool refused (OnlyReplies keys old reply.OutOfMemory answer new) (IsHit keys old caller e now answer new))
        (λ m. ap settings_of m.1)
        (by_test refused (OnlyReplies keys old reply.OutOfMemory answer new) (IsHit keys old caller e now answer new)
        (only reply.OutOfMemory) (λ m. ap settings_of m.1)) h

    invalidate : (caller : ℕ) (present : Option (Entry K V)) (reply : Reply K V) → IsInvalidation keys old caller present reply new
        → Stays old new
    invalidate caller None reply h = ap settings_of h.1
    invalidate caller (Some e) reply h = ap settings_of h.1

    push : (caller : ℕ) (o : Option Operation) → IsPush keys old caller o answer new → Stays old new
    push caller None h = only reply.NotPossible h
    push caller (Some (Reading read)) h =
        by_test _
        ((answer ≡ reply.Done) × (new ≡ record old { read_log = old.read_log ++ read ∷ []; pending = without_pending caller old }))
        ((answer ≡ reply.Discarded) × (new ≡ record old { pending = without_pending caller old }))
        (λ p. ap settings_of p.1) (λ p. ap settings_of p.1) h
    push caller (Some (Writing write)) h =
        by_test _
        ((answer ≡ reply.Done) × (new ≡ record old { write_log = old.write_log ++ write ∷ []; pending = without_pending caller old }))
        (OnlyReplies keys old reply.NotPossible answer new) (λ p. ap settings_of p.1) (only reply.NotPossible) h

    forget : (caller : ℕ) (o : Option Operation) → IsForgetting keys old caller o answer new → Stays old new
    forget caller None h = only reply.NotPossible h
    forget caller (Some (Reading read)) h = ap settings_of h.1
    forget caller (Some (Writing write)) h = only reply.NotPossible h

    copy : (pairs : List (K × V)) (refused : Bool) → IsCopy keys old pairs refused answer new → Stays old new
    copy [] refused h = ap settings_of h.1
    copy (pair ∷ pairs) refused h =
        by_test refused (OnlyReplies keys old reply.OutOfMemory answer new) (OnlyReplies keys old (reply.Rows (pair ∷ pairs)) answer new)
        (only reply.OutOfMemory) (only (reply.Rows (pair ∷ pairs))) h

    begin : (now : ℕ) (idle : Bool) → IsBeginning keys old now idle answer new → Stays old new
    begin now true h = ap settings_of h.1
    begin now false h = only reply.NotPossible h

    plan : (look : Plan K V) → Stays old (after_plan look old)
    plan (Alone m) = refl
    plan (AtReads looks) = refl
    plan (AtWrites looks) = refl
    plan (AtEntry t looks) = refl

    turn : (refused idle : Bool) → IsTurn keys old refused idle answer new → Stays old new
    turn refused true h = only reply.NotPossible h
    turn refused false h =
        ap settings_of h.1
        ∙ plan (turn_at old.settings old.valid_after refused old.maintenance.phase old.maintenance)

    -- in each step
    step : (event : Event K V) (weight : ℕ) (refused : Bool) → IsStep keys old event weight refused answer new → Stays old new
    step (Insert caller key value now) weight refused h =
        let present = entry_at keys.eq key old.entries in
        if_free (pending_of caller old) (IsInsert keys old caller key value now weight refused present answer new)
        (insert caller key value now weight refused present) h
    step (Get caller key now) weight refused h =
        let present = entry_at keys.eq key old.entries in
        if_free (pending_of caller old) (IsGet keys old caller key now refused present answer new) (get caller key now refused present) h
    step (Contains key now) weight refused h = ap settings_of h.1
    step (Invalidate caller key now) weight refused h =
        let present = entry_at keys.eq key old.entries in
        if_free (pending_of caller old) (IsInvalidation keys old caller present answer new) (invalidate caller present answer) h
    step (Take caller key now) weight refused h =
        let present = entry_at keys.eq key old.entries in
        if_free (pending_of caller old) (IsTaking keys old caller now present answer new)
        (λ t. invalidate caller present reply.Done t.1) h
    step (InvalidateAll now) weight refused h = ap settings_of h.1
    step (Push caller) weight refused h = push caller (pending_of caller old) h
    step (Forget caller) weight refused h = forget caller (pending_of caller old) h
    step (Copy shard now) weight refused h =
        by_test _ (IsCopy keys old (pairs_of keys old shard now) refused answer new) (OnlyReplies keys old reply.NotPossible answer new)
        (copy (pairs_of keys old shard now) refused) (only reply.NotPossible) h
    step (Begin now) weight refused h = begin now (is_idle old.maintenance.phase) h
    step Turn weight refused h = turn refused (is_idle old.maintenance.phase) h
    step Counts weight refused h = ap settings_of h.1

  module _ (weighs : K → V → ℕ → Type 0) where
    happens : (old new : CoreState K V S) (event : Event K V) (answer : Reply K V) → Happens keys weighs old event answer new
        → Stays old new
    happens old new event answer h = step old new answer event h.weight h.refused h.step

    schedules : (runs : Bool) (now : ℕ) (core : CoreState K V S) → Stays core (scheduled runs now core)
    schedules true now core = refl
    schedules false now core = refl

    turns : (old new : CoreState K V S) → whole.Turns (Happens keys weighs) Decides has_pending CALLER old new → Stays old new
    turns old new (LastTurn a b h) = happens a b Turn _ h
    turns old new (NextTurn a b c phase busy h more) = turns b c more ∙ happens a b Turn _ h

    maintains : (now : ℕ) (old new : CoreState K V S) → whole.Maintains (Happens keys weighs) Decides has_pending CALLER now old new
        → Stays old new
    maintains now old new h = turns h.begun new h.turns ∙ happens old h.begun (Begin now) _ h.begins

    maintains_if : (runs : Bool) (now : ℕ) (old new : CoreState K V S)
        → whole.MaintainsIf (Happens keys weighs) Decides has_pending CALLER runs now old new → Stays old new
    maintains_if true now old new h = maintains now old new h
    maintains_if false now old new h = ap settings_of h

    maintains_if_due : (log : whole.Log) (now : ℕ) (old new : CoreState K V S)
        → whole.MaintainsIfDue (Happens keys weighs) Decides has_pending CALLER log now old new → Stays old new
    maintains_if_due log now old new h =
        maintains_if h.runs now h.decided new h.maintains ∙ ap settings_of h.decision.1 ∙ schedules h.runs now old

    pushes_read : (now : ℕ) (old new : CoreState K V S) → whole.PushesRead (Happens keys weighs) Decides has_pending CALLER now old new
        → Stays old new
    pushes_read now old new h =
        (elim h.pushes [
          | inl done ↦ happens h.next new (Push CALLER) _ done
          | inr discarded ↦ happens h.next new (Push CALLER) _ discarded
        ]) ∙ maintains_if_due whole.OfReads now old h.next h.maintains

    pushes_write : (now : ℕ) (old new : CoreState K V S)
        → whole.PushesWrite (Happens keys weighs) Decides has_pending CALLER now old new → Stays old new
    pushes_write now old new (Pushed a b c due done) = happens b c (Push CALLER) _ done ∙ maintains_if_due whole.OfWrites now a b due
    pushes_write now old new (WasFull a b c d due full more) =
        pushes_write now c d more ∙ happens b c (Push CALLER) _ full ∙ maintains_if_due whole.OfWrites now a b due

    pushes_if : (pending : Bool) (now : ℕ) (old new : CoreState K V S)
        → whole.PushesIf (Happens keys weighs) Decides has_pending CALLER pending now old new → Stays old new
    pushes_if true now old new h = pushes_write now old new h
    pushes_if false now old new h = ap settings_of h

    after_get : (now : ℕ) (answer : Reply K V) (old new : CoreState K V S)
        → whole.AfterGet (Happens keys weighs) Decides has_pending CALLER now answer true old new → Stays old new × IsAnswer answer
    after_get now (reply.Found None) old new h = (pushes_read now old new h, tt)
    after_get now (reply.Found (Some value)) old new h = (pushes_read now old new h, tt)
    after_get now reply.OutOfMemory old new h = (ap settings_of h, tt)
    after_get now reply.Done old new h = absurd h
    after_get now (reply.Bool truth) old new h = absurd h
    after_get now reply.Discarded old new h = absurd h
    after_get now (reply.Rows pairs) old new h = absurd h
    after_get now (reply.At phase) old new h = absurd h
    after_get now (reply.Counts count weight) old new h = absurd h
    after_get now reply.NotPossible old new h = absurd h
    after_get now reply.TicketsUsedUp old new h = absurd h

    after_insert : (now : ℕ) (answer : Reply K V) (old new : CoreState K V S)
        → whole.AfterInsert (Happens keys weighs) Decides has_pending CALLER now answer old new → Stays old new × IsAnswer answer
    after_insert now reply.Done old new h = (pushes_write now old new h, tt)
    after_insert now reply.OutOfMemory old new h = (ap settings_of h, tt)
    after_insert now reply.TicketsUsedUp old new h = (ap settings_of h, tt)
    after_insert now (reply.Found found) old new h = absurd h
    after_insert now (reply.Bool truth) old new h = absurd h
    after_insert now reply.Discarded old new h = absurd h
    after_insert now (reply.Rows pairs) old new h = absurd h
    after_insert now (reply.At phase) old new h = absurd h
    after_insert now (reply.Counts count weight) old new h = absurd h
    after_insert now reply.NotPossible old new h = absurd h

    after_remove : (now : ℕ) (answer : Reply K V) (old new : CoreState K V S)
        → whole.AfterRemove (Happens keys weighs) Decides has_pending CALLER now answer old new → Stays old new × IsAnswer answer
    after_remove now (reply.Found found) old new h = (pushes_if (has_pending old) now old new h, tt)
    after_remove now reply.OutOfMemory old new h = (ap settings_of h, tt)
    after_remove now reply.Done old new h = absurd h
    after_remove now (reply.Bool truth) old new h = absurd h
    after_remove now reply.Discarded old new h = absurd h
    after_remove now (reply.Rows pairs) old new h = absurd h
    after_remove now (reply.At phase) old new h = absurd h
    after_remove now (reply.Counts count weight) old new h = absurd h
    after_remove now reply.TicketsUsedUp old new h = absurd h
    after_remove now reply.NotPossible old new h = absurd h

    -- in a whole call, which is answered as one
    call_stays : (old new : CoreState K V S) (made : Call K V) (answer : Reply K V) → IsCall keys weighs old made answer new
        → Stays old new × IsAnswer answer
    call_stays old new (call.Insert key value now) answer h =
        let follows = after_insert now answer h.next new h.follows in (follows.0 ∙ happens old h.next _ answer h.first, follows.1)
    call_stays old new (call.Get key now) answer h =
        let follows = after_get now answer h.next new h.follows in (follows.0 ∙ happens old h.next _ answer h.first, follows.1)
    call_stays old new (call.Contains key now) answer h = (happens old new _ answer h, subst IsAnswer (sym h.step.0) tt)
    call_stays old new (call.Invalidate key now) answer h =
        (pushes_if (has_pending h.1.next) now h.1.next new h.1.follows ∙ happens old h.1.next _ _ h.1.first, subst IsAnswer (sym h.0) tt)
    call_stays old new (call.Remove key now) answer h =
        let follows = after_remove now answer h.next new h.follows in (follows.0 ∙ happens old h.next _ answer h.first, follows.1)
    call_stays old new (call.InvalidateAll now) answer h = (happens old new _ answer h, subst IsAnswer (sym h.step.0) tt)
    call_stays old new (call.Sync now) answer h = (maintains now old new h.1, subst IsAnswer (sym h.0) tt)
    call_stays old new call.Counts answer h = (ap settings_of h.1, subst IsAnswer (sym h.0) tt)

    -- a whole call keeps the settings
    pub IsCall-settings : (old new : CoreState K V S) (made : Call K V) (answer : Reply K V) → IsCall keys weighs old made answer new
        → new.settings ≡ old.settings
    IsCall-settings old new made answer h = (call_stays old new made answer h).0

    -- and is answered as whole calls are
    pub IsCall-answer : (old new : CoreState K V S) (made : Call K V) (answer : Reply K V) → IsCall keys weighs old made answer new
        → IsAnswer answer
    IsCall-answer old new made answer h = (call_stays old new made answer h).1
