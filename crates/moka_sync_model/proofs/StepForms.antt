-- What a step can make of the core: a few shapes, whatever the event.
use Rattle.std.proofs.Common.{◌≡◌, ℕ, Bool, true, false, [], ◌∷◌, ◌++◌, Option, Some, None, refl, ltb}
use Rattle.std.specs.Prelude.{if◌then◌else◌}
use Rattle.std.specs.Bool.{MatchBool}
use Rattle.std.specs.Option.{MatchOption}
use Rattle.std.specs.Prelude.{◌<◌, length, List}
use Rattle.std.proofs.lemmas.Bool.{ltb-true}
use Rattle.moka_common.specs.Keys.{Keys}
use Rattle.moka_sync_model.specs.declared.constants.TheConstants.{READ_LOG_SIZE, WRITE_LOG_SIZE}
use Rattle.moka_sync_model.specs.Ticket.{without, changed}
use Rattle.moka_sync_model.specs.Entry.{Entry, entry_at, updated}
use Rattle.moka_sync_model.specs.declared.operation.Read.{Read}
use Rattle.moka_sync_model.specs.declared.operation.Read.TheVariants.{Hit, Miss}
use Rattle.moka_sync_model.specs.declared.operation.Write.{Write}
use Rattle.moka_sync_model.specs.declared.operation.Write.TheVariants.{Upsert, Remove}
use Rattle.moka_sync_model.specs.declared.operation.Operation.{Operation}
use Rattle.moka_sync_model.specs.declared.operation.Operation.TheVariants.{Reading, Writing}
use Rattle.moka_sync_model.specs.Phase as phase
use Rattle.moka_sync_model.specs.CoreState.{CoreState, pending_of, with_pending, without_pending}
use Rattle.moka_sync_model.specs.Turn.Turn.{after_turn}
use Rattle.moka_sync_model.specs.declared.event.Event.{Event}
use Rattle.moka_sync_model.specs.Reply.{Reply}
use Rattle.moka_sync_model.specs.MapStep.{pairs_of, fresh_entry, OnlyReplies, IsInsert, IsUpdate, IsAddition, IsGet, IsMiss, IsHit}
use Rattle.moka_sync_model.specs.MapStep.{IsInvalidation, IsTaking, IsCopy, value_taken}
use Rattle.moka_sync_model.specs.Event.{IsPush, IsForgetting, IsBeginning, IsTurn, IsStep}
use Rattle.moka_sync_model.specs.declared.event.Event.TheVariants.{Insert, Get, Contains, Invalidate, Take, InvalidateAll, Push, Forget, Copy}
use Rattle.moka_sync_model.specs.declared.event.Event.TheVariants.{Begin, Turn, Counts}
use Rattle.moka_sync_model.specs.declared.event.Reply.TheVariants.{NotPossible, Done, Discarded, Found, Rows, OutOfMemory, TicketsUsedUp}
use Rattle.moka_sync_model.specs.Phase.{is_idle}

-- by a test that decides what holds
pub by_Bool : {A : Type 0} (b : Bool) (P Q : Type 0) → (b ≡ true → P → A) → (b ≡ false → Q → A) → MatchBool b P Q → A
by_Bool true P Q p q h = p refl h
by_Bool false P Q p q h = q refl h

-- with this reply the event has put nothing at its key, and has taken nothing from it
abbrev pub IsSilent : {K V : Type 0} → Event K V → Reply K V → Type 0
IsSilent (Insert caller key value now) Done = ⊥
IsSilent (Invalidate caller key now) Done = ⊥
IsSilent (Take caller key now) (Found found) = ⊥
IsSilent event reply = Unit {0}

-- the event takes the entry of this key out, if there is one: an invalidation, or a removal with what it found
pub data TakesOut {K V : Type 0} (caller : ℕ) (key : K) (event : Event K V) (reply : Reply K V) : Type 0 where
  AsInvalidated : (now : ℕ) → event ≡ Invalidate caller key now → reply ≡ Done → TakesOut caller key event reply
  AsTaken : (now : ℕ) (found : Option V) → event ≡ Take caller key now → reply ≡ Found found → TakesOut caller key event reply

module _ {K V S : Type 0} (keys : Keys K S) (old : CoreState K V S) where
  -- a hit is of an entry that stands at some key
  abbrev pub IsOwnHit : Read → Type 0
  IsOwnHit (Hit t moment) = (key : K) × (e : Entry K V) × (e.ticket ≡ t) × (entry_at keys.eq key old.entries ≡ Some e)
  IsOwnHit (Miss hash) = Unit {0}

  -- what callers have pending is another, and the logs: a read is made, dropped or pushed, or a write is pushed
  pub data Queues (new : CoreState K V S) : Type 0 where
    Made : (caller : ℕ) → pending_of caller old ≡ None → (read : Read) → IsOwnHit read
        → new ≡ record old { pending = with_pending caller (Reading read) old } → Queues new
    Dropped : (caller : ℕ) (read : Read) → pending_of caller old ≡ Some (Reading read)
        → new ≡ record old { pending = without_pending caller old } → Queues new
    ReadPushed : (caller : ℕ) (read : Read) → length old.read_log < READ_LOG_SIZE → pending_of caller old ≡ Some (Reading read)
        → new ≡ record old { read_log = old.read_log ++ read ∷ []; pending = without_pending caller old } → Queues new
    WritePushed : (caller : ℕ) (write : Write) → length old.write_log < WRITE_LOG_SIZE → pending_of caller old ≡ Some (Writing write)
        → new ≡ record old { write_log = old.write_log ++ write ∷ []; pending = without_pending caller old } → Queues new

  pub data StepForm (event : Event K V) (weight : ℕ) (refused : Bool) (reply : Reply K V) (new : CoreState K V S) : Type 0 where
    Same : IsSilent event reply → new ≡ old → StepForm event weight refused reply new
    Queued : IsSilent event reply → Queues new → StepForm event weight refused reply new
    Updated : (caller : ℕ) → pending_of caller old ≡ None → (key : K) (value : V) (now : ℕ) (e : Entry K V)
        → event ≡ Insert caller key value now → reply ≡ Done → entry_at keys.eq key old.entries ≡ Some e
        → new ≡ record old {
          entries = changed (λ x. x.ticket) e.ticket (updated value weight now) old.entries;
          pending =
              with_pending caller (Writing (Upsert e.ticket)) old;
        } → StepForm event weight refused reply new
    Added : (caller : ℕ) → pending_of caller old ≡ None → (key : K) (value : V) (now : ℕ) → event ≡ Insert caller key value now
        → reply ≡ Done → entry_at keys.eq key old.entries ≡ None
        → IsAddition keys old caller (fresh_entry keys old key value weight now) Done new → StepForm event weight refused reply new
    Removed : (caller : ℕ) → pending_of caller old ≡ None → (key : K) (e : Entry K V) → TakesOut caller key event reply
        → entry_at keys.eq key old.entries ≡ Some e
        → new ≡ record old
        { entries = without (λ x. x.ticket) e.ticket old.entries; pending = with_pending caller (Writing (Remove e.ticket)) old }
        → StepForm event weight refused reply new
    WasAbsent : (caller : ℕ) (key : K) → TakesOut caller key event reply → entry_at keys.eq key old.entries ≡ None → new ≡ old
        → StepForm event weight refused reply new
    Invalidated : (now : ℕ) → event ≡ InvalidateAll now
        → new ≡ record old { valid_after = if ltb old.valid_after now then now else old.valid_after }
        → StepForm event weight refused reply new
    Begun : (now : ℕ) → IsSilent event reply → is_idle old.maintenance.phase ≡ true
        → new ≡ record old { maintenance = record old.maintenance { phase = phase.ReadCount 1; moment = now } }
        → StepForm event weight refused reply new
    Turned : event ≡ Turn → is_idle old.maintenance.phase ≡ false → new ≡ after_turn refused old → StepForm event weight refused reply new

  module _ (new : CoreState K V S) (reply : Reply K V) (weight : ℕ) (refused : Bool) where
    abbrev Form : Event K V → Type 0
    Form event = StepForm event weight refused reply new

    -- a step that is refused, or only tells
    unchanged : (event : Event K V) (why : Reply K V) → IsSilent event why → OnlyReplies keys old why reply new → Form event
    unchanged event why quiet r = Same (subst_reply r.0) r.1
      where
        subst_reply : reply ≡ why → IsSilent event reply
        subst_reply is = rw is quiet

    if_free : (event : Event K V) → IsSilent event NotPossible → (o : Option Operation) (Happens : Type 0)
        → (o ≡ None → Happens → Form event)
        → MatchOption o Happens (λ operation. OnlyReplies keys old NotPossible reply new) → Form event
    if_free event quiet None Happens happens h = happens refl h
    if_free event quiet (Some operation) Happens happens h = unchanged event NotPossible quiet h

    insert : (caller : ℕ) (key : K) (value : V) (now : ℕ) → pending_of caller old ≡ None → (bit : Bool) (present : Option (Entry K V))
        → entry_at keys.eq key old.entries ≡ present
        → IsInsert keys old caller key value now weight bit present reply new → Form (Insert caller key value now)
    insert caller key value now free true present is h = unchanged (Insert caller key value now) OutOfMemory tt h
    insert caller key value now free false (Some e) is h =
        by_Bool _ (OnlyReplies keys old TicketsUsedUp reply new) (IsUpdate keys old caller e value now weight reply new)
        (λ b r. unchanged (Insert caller key value now) TicketsUsedUp tt r)
        (λ b u. Updated caller free key value now e refl u.0 is u.1) h
    insert caller key value now free false None is h =
        by_Bool _ (OnlyReplies keys old TicketsUsedUp reply new)
        (IsAddition keys old caller (fresh_entry keys old key value weight now) reply new)
        (λ b r. unchanged (Insert caller key value now) TicketsUsedUp tt r)
        (λ b a. Added caller free key value now refl a.2 is (a.0, a.1, refl, a.3)) h

    get : (caller : ℕ) (key : K) (now : ℕ) → pending_of caller old ≡ None → (bit : Bool) (present : Option (Entry K V))
        → entry_at keys.eq key old.entries ≡ present → IsGet keys old caller key now bit present reply new → Form (Get caller key now)
    get caller key now free bit None is h = Queued tt (Made caller free (Miss (keys.hash_of old.settings.hash_state key)) tt h.1)
    get caller key now free bit (Some e) is h =
        by_Bool _ (IsMiss keys old caller key reply new)
        (MatchBool bit (OnlyReplies keys old OutOfMemory reply new) (IsHit keys old caller e now reply new))
        (λ b m. Queued tt (Made caller free (Miss (keys.hash_of old.settings.hash_state key)) tt m.1))
        (λ b. by_Bool bit (OnlyReplies keys old OutOfMemory reply new) (IsHit keys old caller e now reply new)
        (λ b r. unchanged (Get caller key now) OutOfMemory tt r)
        (λ b m. Queued tt (Made caller free (Hit e.ticket now) (key, e, refl, is) m.1))) h

    take_out : (caller : ℕ) (key : K) (event : Event K V) → pending_of caller old ≡ None → TakesOut caller key event reply
        → (why : Reply K V) (present : Option (Entry K V))
        → entry_at keys.eq key old.entries ≡ present → IsInvalidation keys old caller present why new → Form event
    take_out caller key event free out why None is h = WasAbsent caller key out is h.1
    take_out caller key event free out why (Some e) is h = Removed caller free key e out is h.1

    invalidate : (caller : ℕ) (key : K) (now : ℕ) → pending_of caller old ≡ None → (present : Option (Entry K V))
        → entry_at keys.eq key old.entries ≡ present → IsInvalidation keys old caller present reply new → Form (Invalidate caller key now)
    invalidate caller key now free present is h =
        take_out caller key (Invalidate caller key now) free (AsInvalidated now refl (replied present h)) reply present is h
      where
        replied : (present : Option (Entry K V)) → IsInvalidation keys old caller present reply new → reply ≡ Done
        replied None h = h.0
        replied (Some e) h = h.0

    push : (caller : ℕ) (o : Option Operation) → pending_of caller old ≡ o → IsPush keys old caller o reply new → Form (Push caller)
    push caller None is h = unchanged (Push caller) NotPossible tt h
    push caller (Some (Reading read)) is h =
        by_Bool _ ((reply ≡ Done) × (new ≡ record old { read_log = old.read_log ++ read ∷ []; pending = without_pending caller old }))
        ((reply ≡ Discarded) × (new ≡ record old { pending = without_pending caller old }))
        (λ b p. Queued tt (ReadPushed caller read (ltb-true _ _ b) is p.1)) (λ b p. Queued tt (Dropped caller read is p.1)) h
    push caller (Some (Writing write)) is h =
        by_Bool _ ((reply ≡ Done) × (new ≡ record old { write_log = old.write_log ++ write ∷ []; pending = without_pending caller old }))
        (OnlyReplies keys old NotPossible reply new)
        (λ b p. Queued tt (WritePushed caller write (ltb-true _ _ b) is p.1)) (λ b r. unchanged (Push caller) NotPossible tt r) h

    forget : (caller : ℕ) (o : Option Operation) → pending_of caller old ≡ o → IsForgetting keys old caller o reply new
        → Form (Forget caller)
    forget caller None is h = unchanged (Forget caller) NotPossible tt h
    forget caller (Some (Reading read)) is h = Queued tt (Dropped caller read is h.1)
    forget caller (Some (Writing write)) is h = unchanged (Forget caller) NotPossible tt h

    begin : (now : ℕ) (idle : Bool) → is_idle old.maintenance.phase ≡ idle → IsBeginning keys old now idle reply new → Form (Begin now)
    begin now true is h = Begun now tt is h.1
    begin now false is h = unchanged (Begin now) NotPossible tt h

    turn : (idle : Bool) → is_idle old.maintenance.phase ≡ idle → IsTurn keys old refused idle reply new → Form Turn
    turn true is h = unchanged Turn NotPossible tt h
    turn false is h = Turned refl is h.1

    copy : (shard now : ℕ) (pairs : List (K × V)) → IsCopy keys old pairs refused reply new → Form (Copy shard now)
    copy shard now [] r = Same tt r.1
    copy shard now (pair ∷ pairs) h =
        by_Bool refused (OnlyReplies keys old OutOfMemory reply new) (OnlyReplies keys old (Rows (pair ∷ pairs)) reply new)
        (λ b r. Same tt r.1)
        (λ b r. Same tt r.1) h

    -- a step has one of these shapes
    pub step_forms : (event : Event K V) → IsStep keys old event weight refused reply new → StepForm event weight refused reply new
    step_forms (Insert caller key value now) h =
        if_free (Insert caller key value now) tt (pending_of caller old) _
        (λ free. insert caller key value now free refused (entry_at keys.eq key old.entries) refl) h
    step_forms (Get caller key now) h =
        if_free (Get caller key now) tt (pending_of caller old) _
        (λ free. get caller key now free refused (entry_at keys.eq key old.entries) refl) h
    step_forms (Contains key now) h = Same tt h.1
    step_forms (Invalidate caller key now) h =
        if_free (Invalidate caller key now) tt (pending_of caller old) _
        (λ free. invalidate caller key now free (entry_at keys.eq key old.entries) refl) h
    step_forms (Take caller key now) h =
        if_free (Take caller key now) tt (pending_of caller old) (IsTaking keys old caller now (entry_at keys.eq key old.entries) reply new)
        (λ free t. take_out caller key (Take caller key now) free
        (AsTaken now (value_taken keys old now (entry_at keys.eq key old.entries)) refl t.0) Done (entry_at keys.eq key old.entries) refl t.1) h
    step_forms (InvalidateAll now) h = Invalidated now refl h.1
    step_forms (Push caller) h = push caller (pending_of caller old) refl h
    step_forms (Forget caller) h = forget caller (pending_of caller old) refl h
    step_forms (Copy shard now) h =
        by_Bool _ (IsCopy keys old (pairs_of keys old shard now) refused reply new) (OnlyReplies keys old NotPossible reply new)
        (λ b. copy shard now (pairs_of keys old shard now)) (λ b r. Same tt r.1) h
    step_forms (Begin now) h = begin now (is_idle old.maintenance.phase) refl h
    step_forms Turn h = turn (is_idle old.maintenance.phase) refl h
    step_forms Counts h = Same tt h.1
