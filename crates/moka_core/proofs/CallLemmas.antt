-- The steps of a whole call, one after another.
use Rattle.std.proofs.Common.{◌≡◌, ◌⊎◌, ◌<◌, ◌||◌, ℕ, arith, nat_le, nat_lt, Bool, true, false, List}
use Rattle.std.proofs.Common.{[], ◌∷◌, ◌++◌, length, Option, Some, None, refl, sym, ◌∙◌, ap, subst}
use Rattle.std.proofs.Common.{inl, inr, nat_eq, Result, Ok, Err, IsOk, IfOk, OnOk, OnErr, ◌↔◌}
use Rattle.std.specs.Bool.{MatchBool}
use Rattle.std.specs.Cmp.{IsEquivalence}
use Rattle.std.specs.Map.{remove_entry}
use Rattle.std.specs.Option.{MatchOption, is_some, option_map_or}
use Rattle.std.proofs.lemmas.Bool.{cases_Bool, false≢true, leb-false, lt-ltb}
use Rattle.moka_common.specs.Keys.{Keys}
use Rattle.moka_sync_model.specs.declared.constants.TheConstants.{CALLER, FLUSH_POINT, READ_LOG_SIZE, WRITE_LOG_SIZE}
use Rattle.moka_sync_model.specs.declared.call.Call.TheVariants as call
use Rattle.moka_sync_model.specs.declared.event.Event.TheVariants.{Insert, Get, Invalidate, Take, Push, Turn}
use Rattle.moka_sync_model.specs.declared.event.Event.{Event}
use Rattle.moka_sync_model.specs.declared.event.Reply.TheVariants.{At, Done, Found, Discarded, NotPossible, OutOfMemory, TicketsUsedUp}
use Rattle.moka_sync_model.specs.declared.phase.Phase.TheVariants as name
use Rattle.moka_sync_model.specs.declared.operation.Operation.{Operation}
use Rattle.moka_sync_model.specs.declared.operation.Operation.TheVariants.{Reading, Writing}
use Rattle.moka_sync_model.specs.declared.operation.Read.{Read}
use Rattle.moka_sync_model.specs.declared.operation.Read.TheVariants.{Hit, Miss}
use Rattle.moka_sync_model.specs.declared.operation.Write.{Write}
use Rattle.moka_sync_model.specs.declared.operation.Write.TheVariants.{Upsert, Remove}
use Rattle.moka_sync_model.specs.Entry.{Entry, entry_at}
use Rattle.moka_sync_model.specs.CoreState.{CoreState, is_expired, pending_of, with_pending}
use Rattle.moka_sync_model.specs.Consistent.{IsConsistent}
use Rattle.moka_sync_model.specs.CoreCall.{CoreTurns, Decides, Finishes, IsAtRest, IsCall, has_pending, is_due, scheduled}
use Rattle.moka_sync_model.specs.Event.{IsPush}
use Rattle.moka_sync_model.specs.MapStep.{IsAddition, IsGet, IsHit, IsInsert, IsInvalidation, IsMiss, IsTaking, IsUpdate, OnlyReplies, fresh_entry}
use Rattle.moka_sync_model.specs.Reply.{Reply}
use Rattle.moka_sync_model.specs.Run.{Happens, RunsTo}
use Rattle.moka_sync_model.specs.WholeCall.{AfterGet, AfterInsert, LastTurn, NextTurn, OfReads, OfWrites, MaintainsIfDue, Pushed, PushesIf}
use Rattle.moka_sync_model.proofs.CallLemmas as law
use Rattle.moka_sync_model.proofs.ReturnLemmas.{room_left}
use Rattle.moka_common.specs.declared.error.InsertError.{InsertError}
use Rattle.moka_common.specs.declared.error.InsertError.TheVariants as insert_error
use Rattle.moka_core.specs.Machine.{refusal_reply}
use Rattle.moka_core.specs.Calls.{CoreMaintains, CorePushesRead, CorePushesWrite, MaintainsAsDue, PendsOne, PendsRead, PendsWrite, having}

module _ {K V S : Type 0} (keys : Keys K S) (laws : IsEquivalence keys.eq) (weighs : K → V → ℕ → Type 0) where
  abbrev Core : Type 0
  Core = CoreState K V S

  abbrev Step : Core → Event K V → Reply K V → Core → Type 0
  Step = Happens keys weighs

  -- turns leave a core that is consistent
  pub turns_keep_good : (old new : Core) → IsConsistent keys old → CoreTurns keys weighs old new → IsConsistent keys new
  turns_keep_good old new good (LastTurn _ _ step) = law.consistent_step keys laws weighs old new Turn (At name.Idle) good step
  turns_keep_good old new good (NextTurn _ next _ phase busy step turns) =
      turns_keep_good next new (law.consistent_step keys laws weighs old next Turn (At phase) good step) turns

  -- so does a maintenance that comes to its end, or that isn't there
  pub end_keeps_good : (old : Core) (was : Bool) (new : Core) → IsConsistent keys old → Finishes keys weighs old was new
      → IsConsistent keys new
  end_keeps_good old true new good turns = turns_keep_good old new good turns
  end_keeps_good old false new good (idle, same) = subst (IsConsistent keys) (sym same) good

  -- ---- whether a maintenance is due

  -- it is, and was run
  pub maintains_as_due : (now len : ℕ) (old next new : Core) → is_due len FLUSH_POINT old.sync_after now ≡ true
      → next ≡ scheduled true now old
      → CoreMaintains keys weighs now next new → MaintainsAsDue keys weighs now old new len
  maintains_as_due now len old next new due is maintains log found = record {
    runs = true;
    decided = next;
    decision = (sym due ∙ ap (λ n. is_due n FLUSH_POINT old.sync_after now) found, is);
    maintains = maintains;
  }

  -- it isn't
  pub rests_as_due : (now len : ℕ) (old : Core) → is_due len FLUSH_POINT old.sync_after now ≡ false
      → MaintainsAsDue keys weighs now old old len
  rests_as_due now len old due log found = record {
    runs = false;
    decided = old;
    decision = (sym due ∙ ap (λ n. is_due n FLUSH_POINT old.sync_after now) found, refl);
    maintains = refl;
  }

  -- ---- pushes

  as_law : (operation : Operation) (core : Core) → PendsOne keys core operation → law.Pends keys laws weighs operation core
  as_law operation core h = record { good = h.good; pending = h.pending; phase = h.phase }

  -- the core is consistent once the next maintenance is scheduled
  pub scheduled_is_good : (now : ℕ) (core : Core) → IsConsistent keys core → IsConsistent keys (scheduled true now core)
  scheduled_is_good now core good = law.good_scheduled keys laws weighs true now core good

  -- a pending read is pushed
  pub pushes_read : (now len : ℕ) (old next new : Core) (reply : Reply K V) → PendsRead keys old
      → MaintainsAsDue keys weighs now old next len
      → len ≡ length old.read_log → Step next (Push CALLER) reply new → CorePushesRead keys weighs now old new
  pushes_read now len old next new reply (read, h) as_due found step =
      record { next = next; maintains = due; pushes = by (subst (λ o. IsPush keys next CALLER o reply new) is_pending step.step) }
    where
      due : MaintainsIfDue Step Decides has_pending CALLER OfReads now old next
      due = as_due OfReads found

      is_pending : pending_of CALLER next ≡ Some (Reading read)
      is_pending =
          law.pending_is keys laws weighs (Reading read) next
          (law.due_pends keys laws weighs (Reading read) OfReads now old next (as_law (Reading read) old h) due).pending

      replied : (word : Reply K V) → reply ≡ word → Step next (Push CALLER) word new
      replied word is = subst (λ r. Step next (Push CALLER) r new) is step

      by : IsPush keys next CALLER (Some (Reading read)) reply new → Step next (Push CALLER) Done new
          ⊎ Step next (Push CALLER) Discarded new
      by p =
          elim (cases_Bool (nat_lt (length next.read_log) READ_LOG_SIZE)) [
            | inl room ↦ inl (replied Done (rw room at p).0)
            | inr full ↦ inr (replied Discarded (rw full at p).0)
          ]

  -- a pending write is pushed
  pub pushes_write : (now len : ℕ) (old next new : Core) (reply : Reply K V) → PendsWrite keys old
      → MaintainsAsDue keys weighs now old next len
      → len ≡ length old.write_log → Step next (Push CALLER) reply new → CorePushesWrite keys weighs now old new
  pushes_write now len old next new reply (write, h) as_due found step =
      Pushed old next new due
      (subst (λ r. Step next (Push CALLER) r new) (done (subst (λ o. IsPush keys next CALLER o reply new) is_pending step.step)) step)
    where
      due : MaintainsIfDue Step Decides has_pending CALLER OfWrites now old next
      due = as_due OfWrites found

      pends : law.Pends keys laws weighs (Writing write) old
      pends = as_law (Writing write) old h

      is_pending : pending_of CALLER next ≡ Some (Writing write)
      is_pending =
          law.pending_is keys laws weighs (Writing write) next
          (law.due_pends keys laws weighs (Writing write) OfWrites now old next pends due).pending

      done : IsPush keys next CALLER (Some (Writing write)) reply new → reply ≡ Done
      done p =
          (rw (lt-ltb (length next.write_log) WRITE_LOG_SIZE (room_left keys laws weighs (Writing write) now old next pends due)) at p).0

  -- ---- a read that goes to its log at once

  -- a log of a maintenance that isn't due has room
  pub room_where_not_due : (len : ℕ) (sync_after : Option ℕ) (now : ℕ) → is_due len FLUSH_POINT sync_after now ≡ false → len < READ_LOG_SIZE
  room_where_not_due len sync_after now rests = by (nat_le FLUSH_POINT len) refl
    where
      by : (b : Bool) → nat_le FLUSH_POINT len ≡ b → len < READ_LOG_SIZE
      by true enough = absurd (false≢true (sym rests ∙ ap (λ b. b || option_map_or (λ due. nat_le due now) sync_after false) enough))
      by false few = omega (arith, leb-false FLUSH_POINT len few)

  -- what a push says of its success holds where there is room
  pub where_room : {A E : Type 0} (result : Result A E) (len size : ℕ) (Holds : Type 0) → (IsOk result ↔ (len < size)) → len < size
      → OnOk result Holds → Holds
  where_room (Ok done) len size Holds succeeds room holds = holds
  where_room (Err back) len size Holds succeeds room holds = absurd (false≢true (succeeds.1 room))

  -- it is as if it had been pending, where none was
  pub logs_read : (now : ℕ) (old : Core) (read : Read) (log : List Read) → old.pending ≡ []
      → is_due (length old.read_log) FLUSH_POINT old.sync_after now ≡ false → log ≡ old.read_log ++ read ∷ []
      → CorePushesRead keys weighs now (having (Reading read) old) (record old { read_log = log })
  logs_read now old read log none rests is = record {
    next = waiting;
    maintains = record { runs = false; decided = waiting; decision = (sym rests, refl); maintains = refl };
    pushes = inl (record { weight = 0; refused = false; weighed = tt; step = pushed });
  }
    where
      waiting : Core
      waiting = having (Reading read) old

      pending : waiting.pending ≡ (CALLER, Reading read) ∷ []
      pending = ap (λ ps. ps ++ (CALLER, Reading read) ∷ []) none

      pushed : IsPush keys waiting CALLER (pending_of CALLER waiting) Done (record old { read_log = log })
      pushed =
          rw (
            law.pending_is keys laws weighs (Reading read) waiting pending,
            lt-ltb (length old.read_log) READ_LOG_SIZE (room_where_not_due (length old.read_log) old.sync_after now rests),
          ) (
            refl,
            λ i. record old { read_log = is i; pending = (none ∙ sym (ap (remove_entry (nat_eq CALLER)) pending)) i },
          )

  -- a write that goes to its log at once is as if it had been pending
  pub logs_write : (now : ℕ) (old : Core) (write : Write) (log : List Write) → old.pending ≡ []
      → is_due (length old.write_log) FLUSH_POINT old.sync_after now ≡ false → log ≡ old.write_log ++ write ∷ []
      → CorePushesWrite keys weighs now (having (Writing write) old) (record old { write_log = log })
  logs_write now old write log none rests is =
      Pushed waiting waiting (record old { write_log = log })
      (record { runs = false; decided = waiting; decision = (sym rests, refl); maintains = refl })
      (record { weight = 0; refused = false; weighed = tt; step = pushed })
    where
      waiting : Core
      waiting = having (Writing write) old

      pending : waiting.pending ≡ (CALLER, Writing write) ∷ []
      pending = ap (λ ps. ps ++ (CALLER, Writing write) ∷ []) none

      pushed : IsPush keys waiting CALLER (pending_of CALLER waiting) Done (record old { write_log = log })
      pushed =
          rw (
            law.pending_is keys laws weighs (Writing write) waiting pending,
            lt-ltb (length old.write_log) WRITE_LOG_SIZE (room_where_not_due (length old.write_log) old.sync_after now rests),
          ) (
            refl,
            λ i. record old { write_log = is i; pending = (none ∙ sym (ap (remove_entry (nat_eq CALLER)) pending)) i },
          )

  -- what is left pending where nothing was
  pub left_is_pending : (old new : Core) (operation : Operation) → old.pending ≡ [] → new.pending ≡ old.pending
      → pending_of CALLER (having operation new) ≡ Some operation
  left_is_pending old new operation none same =
      law.pending_is keys laws weighs operation (having operation new) (ap (λ ps. ps ++ (CALLER, operation) ∷ []) (same ∙ none))

  -- a refusal is no acceptance
  pub refusal_not_done : (error : InsertError) → refusal_reply {K = K} {V = V} error ≡ Done → ⊥
  refusal_not_done insert_error.OutOfMemory is = cc
  refusal_not_done insert_error.TicketsUsedUp is = cc

  -- ---- the first step

  module _ (old next : Core) (good : IsConsistent keys old) (rest : IsAtRest old) where
    -- a step whose caller was free
    free : (reply : Reply K V) (Happens : Type 0)
        → MatchOption (pending_of CALLER old) Happens (λ operation. OnlyReplies keys old NotPossible reply next) → Happens
    free reply Happens h =
        subst (λ o. MatchOption o Happens (λ operation. OnlyReplies keys old NotPossible reply next))
        (law.none_pending keys laws weighs old rest.pending) h

    -- the caller has an operation pending now
    now_pends : (event : Event K V) (reply : Reply K V) (operation : Operation) → Step old event reply next
        → next.pending ≡ with_pending CALLER operation old → next.maintenance.phase ≡ old.maintenance.phase → PendsOne keys next operation
    now_pends event reply operation step pending phase = record {
      good = law.consistent_step keys laws weighs old next event reply good step;
      pending = pending ∙ ap (λ ps. ps ++ (CALLER, operation) ∷ []) rest.pending;
      phase = phase ∙ rest.phase;
    }

    -- what a get has found and left, or that memory was refused
    pub got : (key : K) (now : ℕ) (reply : Reply K V) → Step old (Get CALLER key now) reply next
        → ((found : Option V) × (reply ≡ Found found) × PendsRead keys next) ⊎ ((reply ≡ OutOfMemory) × (next ≡ old))
    got key now reply step = by (entry_at keys.eq key old.entries) (free reply _ step.step)
      where
        Got : Type 0
        Got = ((found : Option V) × (reply ≡ Found found) × PendsRead keys next) ⊎ ((reply ≡ OutOfMemory) × (next ≡ old))

        left : (read : Read) (found : Option V) → (reply ≡ Found found)
            × (next ≡ record old { pending = with_pending CALLER (Reading read) old })
            → Got
        left read found (word, is) =
            inl (
              found,
              word,
              (read, now_pends (Get CALLER key now) reply (Reading read) step (ap (λ c. c.pending) is) (ap (λ c. c.maintenance.phase) is)),
            )

        here : (e : Entry K V) (expired refused : Bool)
            → MatchBool expired (IsMiss keys old CALLER key reply next)
            (MatchBool refused (OnlyReplies keys old OutOfMemory reply next) (IsHit keys old CALLER e now reply next)) → Got
        here e true refused h = left (Miss (keys.hash_of old.settings.hash_state key)) None h
        here e false true h = inr h
        here e false false h = left (Hit e.ticket now) (Some e.value) h

        by : (present : Option (Entry K V)) → IsGet keys old CALLER key now step.refused present reply next → Got
        by None h = left (Miss (keys.hash_of old.settings.hash_state key)) None h
        by (Some e) h = here e (is_expired old.settings old.valid_after now e) step.refused h

    -- that an insert was accepted and what it has left, or why it was refused
    pub put : (key : K) (value : V) (now : ℕ) (reply : Reply K V) → Step old (Insert CALLER key value now) reply next
        → ((reply ≡ Done) × PendsWrite keys next) ⊎ (((reply ≡ OutOfMemory) ⊎ (reply ≡ TicketsUsedUp)) × (next ≡ old))
    put key value now reply step = by step.refused (entry_at keys.eq key old.entries) (free reply _ step.step)
      where
        Put : Type 0
        Put = ((reply ≡ Done) × PendsWrite keys next) ⊎ (((reply ≡ OutOfMemory) ⊎ (reply ≡ TicketsUsedUp)) × (next ≡ old))

        left : (write : Write) → reply ≡ Done → next.pending ≡ with_pending CALLER (Writing write) old
            → next.maintenance.phase ≡ old.maintenance.phase → Put
        left write word pending phase =
            inl (word, (write, now_pends (Insert CALLER key value now) reply (Writing write) step pending phase))

        updated_or_full : (e : Entry K V) (full : Bool) → MatchBool full (OnlyReplies keys old TicketsUsedUp reply next)
            (IsUpdate keys old CALLER e value now step.weight reply next) → Put
        updated_or_full e true h = inr (inr h.0, h.1)
        updated_or_full e false h = left (Upsert e.ticket) h.0 (ap (λ c. c.pending) h.1) (ap (λ c. c.maintenance.phase) h.1)

        added_or_full : (e : Entry K V) (full : Bool) → MatchBool full (OnlyReplies keys old TicketsUsedUp reply next)
            (IsAddition keys old CALLER e reply next) → Put
        added_or_full e true h = inr (inr h.0, h.1)
        added_or_full e false h = left (Upsert e.ticket) h.2 (ap (λ c. c.pending) h.3) (ap (λ c. c.maintenance.phase) h.3)

        by : (refused : Bool) (present : Option (Entry K V)) → IsInsert keys old CALLER key value now step.weight refused present
            reply next → Put
        by true present h = inr (inl h.0, h.1)
        by false (Some e) h = updated_or_full e _ h
        by false None h = added_or_full (fresh_entry keys old key value step.weight now) _ h

    -- what an invalidation has left, if anything
    pub taken : (key : K) (now : ℕ) (reply : Reply K V) → Step old (Invalidate CALLER key now) reply next
        → (reply ≡ Done) × (PendsWrite keys next ⊎ (next ≡ old))
    taken key now reply step = by (entry_at keys.eq key old.entries) (free reply _ step.step)
      where
        by : (present : Option (Entry K V)) → IsInvalidation keys old CALLER present reply next → (reply ≡ Done)
            × (PendsWrite keys next ⊎ (next ≡ old))
        by None h = (h.0, inr h.1)
        by (Some e) h = (
          h.0,
          inl (
            Remove e.ticket,
            now_pends (Invalidate CALLER key now) reply (Writing (Remove e.ticket)) step (ap (λ c. c.pending) h.1)
                (ap (λ c. c.maintenance.phase) h.1),
          ),
        )

    -- what a removal has left, if anything
    pub removed : (key : K) (now : ℕ) (found : Option V) → Step old (Take CALLER key now) (Found found) next
        → PendsWrite keys next ⊎ (next ≡ old)
    removed key now found step =
        by (entry_at keys.eq key old.entries)
        (free (Found found) (IsTaking keys old CALLER now (entry_at keys.eq key old.entries) (Found found) next) step.step).1
      where
        by : (present : Option (Entry K V)) → IsInvalidation keys old CALLER present Done next → PendsWrite keys next ⊎ (next ≡ old)
        by None h = inr h.1
        by (Some e) h =
            inl (
              Remove e.ticket,
              now_pends (Take CALLER key now) (Found found) (Writing (Remove e.ticket)) step (ap (λ c. c.pending) h.1)
                  (ap (λ c. c.maintenance.phase) h.1),
            )

    -- what has found out has left a read
    pub found_pends : (key : K) (now : ℕ) (reply : Reply K V) (found : Option V) → reply ≡ Found found
        → Step old (Get CALLER key now) reply next
        → PendsRead keys next
    found_pends key now reply found word step =
        elim (got key now reply step) [
          | inl (other, same, pends) ↦ pends
          | inr (refusal, same) ↦ absurd (cc)
        ]

    -- what was accepted has left a write
    pub accepted_pends : (key : K) (value : V) (now : ℕ) (reply : Reply K V) → reply ≡ Done
        → Step old (Insert CALLER key value now) reply next
        → PendsWrite keys next
    accepted_pends key value now reply word step =
        elim (put key value now reply step) [
          | inl (same, pends) ↦ pends
          | inr (refusal, same) ↦ elim refusal [ inl is ↦ absurd (cc) | inr is ↦ absurd (cc) ]
        ]

    -- what an invalidation has left is a write
    pub taken_pends : (key : K) (now : ℕ) (reply : Reply K V) (operation : Operation) → pending_of CALLER next ≡ Some operation
        → Step old (Invalidate CALLER key now) reply next → PendsWrite keys next
    taken_pends key now reply operation some step =
        elim ((taken key now reply step).1) [
          | inl pends ↦ pends
          | inr same ↦
              let none : pending_of CALLER next ≡ None = ap (pending_of CALLER) same ∙ law.none_pending keys laws weighs old rest.pending in
              absurd (cc)
        ]

    -- what a removal has left is a write
    pub removed_pends : (key : K) (now : ℕ) (found : Option V) (operation : Operation) → pending_of CALLER next ≡ Some operation
        → Step old (Take CALLER key now) (Found found) next → PendsWrite keys next
    removed_pends key now found operation some step =
        elim (removed key now found step) [
          | inl pends ↦ pends
          | inr same ↦
              let none : pending_of CALLER next ≡ None = ap (pending_of CALLER) same ∙ law.none_pending keys laws weighs old rest.pending in
              absurd (cc)
        ]

    -- ---- whole calls

    -- a get that has found out, and pushed what it left
    pub called_get : (key : K) (now : ℕ) (new : Core) (found : Option V) (reply : Reply K V) → reply ≡ Found found
        → Step old (Get CALLER key now) reply next → CorePushesRead keys weighs now next new
        → IsCall keys weighs old (call.Get key now) reply new
    called_get key now new found reply word step push =
        record {
          next = next;
          first = step;
          follows = subst (λ r. AfterGet Step Decides has_pending CALLER now r true next new) (sym word)
              (by found);
        }
      where
        by : (found : Option V) → AfterGet Step Decides has_pending CALLER now (Found found) true next new
        by None = push
        by (Some value) = push

    -- one that was refused memory
    pub refused_get : (key : K) (now : ℕ) (reply : Reply K V) → ((found : Option V) → reply ≡ Found found → ⊥)
        → Step old (Get CALLER key now) reply next → IsCall keys weighs old (call.Get key now) reply next
    refused_get key now reply other step =
        elim (got key now reply step) [
          | inl answer ↦ absurd (other answer.0 answer.1)
          | inr refusal ↦ record {
            next = next;
            first = step;
            follows = subst (λ r. AfterGet Step Decides has_pending CALLER now r true next next) (sym refusal.0) refl;
          }
        ]

    -- an insert that was accepted, and pushed what it left
    pub called_insert : (key : K) (value : V) (now : ℕ) (new : Core) (reply : Reply K V) → reply ≡ Done
        → Step old (Insert CALLER key value now) reply next → CorePushesWrite keys weighs now next new
        → IsCall keys weighs old (call.Insert key value now) reply new
    called_insert key value now new reply word step push = record {
      next = next;
      first = step;
      follows = subst (λ r. AfterInsert Step Decides has_pending CALLER now r next new) (sym word) push;
    }

    -- one that was refused
    pub refused_insert : (key : K) (value : V) (now : ℕ) (reply : Reply K V) → (reply ≡ Done → ⊥)
        → Step old (Insert CALLER key value now) reply next → IsCall keys weighs old (call.Insert key value now) reply next
    refused_insert key value now reply other step =
        elim (put key value now reply step) [
          | inl accepted ↦ absurd (other accepted.0)
          | inr refusal ↦ record { next = next; first = step; follows = by refusal.0 }
        ]
      where
        by : (reply ≡ OutOfMemory) ⊎ (reply ≡ TicketsUsedUp) → AfterInsert Step Decides has_pending CALLER now reply next next
        by (inl word) = subst (λ r. AfterInsert Step Decides has_pending CALLER now r next next) (sym word) refl
        by (inr word) = subst (λ r. AfterInsert Step Decides has_pending CALLER now r next next) (sym word) refl

    -- an invalidation that has left a removal, and pushed it
    pub called_invalidate : (key : K) (now : ℕ) (new : Core) (reply : Reply K V) (operation : Operation)
        → pending_of CALLER next ≡ Some operation
        → Step old (Invalidate CALLER key now) reply next → CorePushesWrite keys weighs now next new
        → IsCall keys weighs old (call.Invalidate key now) reply new
    called_invalidate key now new reply operation some step push =
        let word = (taken key now reply step).0 in (
          word,
          record {
            next = next;
            first = subst (λ r. Step old (Invalidate CALLER key now) r next) word step;
            follows = subst (λ b. PushesIf Step Decides has_pending CALLER b now next new) (sym (ap is_some some)) push;
          },
        )

    -- one that has left nothing
    pub idle_invalidate : (key : K) (now : ℕ) (reply : Reply K V) → pending_of CALLER next ≡ None
        → Step old (Invalidate CALLER key now) reply next → IsCall keys weighs old (call.Invalidate key now) reply next
    idle_invalidate key now reply none step =
        let word = (taken key now reply step).0 in (
          word,
          record {
            next = next;
            first = subst (λ r. Step old (Invalidate CALLER key now) r next) word step;
            follows = subst (λ b. PushesIf Step Decides has_pending CALLER b now next next) (sym (ap is_some none)) refl;
          },
        )

    -- a removal that has left one to push, and pushed it
    pub called_remove : (key : K) (now : ℕ) (new : Core) (found : Option V) (operation : Operation)
        → pending_of CALLER next ≡ Some operation
        → Step old (Take CALLER key now) (Found found) next → CorePushesWrite keys weighs now next new
        → IsCall keys weighs old (call.Remove key now) (Found found) new
    called_remove key now new found operation some step push = record {
      next = next;
      first = step;
      follows = subst (λ b. PushesIf Step Decides has_pending CALLER b now next new) (sym (ap is_some some)) push;
    }

    -- one that has left nothing
    pub idle_remove : (key : K) (now : ℕ) (found : Option V) → pending_of CALLER next ≡ None
        → Step old (Take CALLER key now) (Found found) next → IsCall keys weighs old (call.Remove key now) (Found found) next
    idle_remove key now found none step = record {
      next = next;
      first = step;
      follows = subst (λ b. PushesIf Step Decides has_pending CALLER b now next next) (sym (ap is_some none)) refl;
    }

  -- ---- what leaves a core consistent

  -- a list of steps
  pub run_keeps : (old new : Core) (events : List (Event K V)) (replies : List (Reply K V)) → IsConsistent keys old
      → RunsTo keys weighs old events replies new → IsConsistent keys new
  run_keeps old new [] [] good is = subst (IsConsistent keys) (sym is) good
  run_keeps old new (event ∷ events) (reply ∷ replies) good runs =
      run_keeps runs.0 new events replies (law.consistent_step keys laws weighs old runs.0 event reply good runs.1) runs.2
  run_keeps old new [] (reply ∷ replies) good none = absurd none
  run_keeps old new (event ∷ events) [] good none = absurd none

  -- a list of steps, or that it was refused
  pub run_or_refusal_keeps : {R E : Type 0} (items : R → List (Reply K V)) (old new : Core) (events : List (Event K V))
      (result : Result R E)
      → IsConsistent keys old → IfOk result (λ replies. RunsTo keys weighs old events (items replies) new) → OnErr result (new ≡ old)
      → IsConsistent keys new
  run_or_refusal_keeps items old new events (Ok replies) good runs refused = run_keeps old new events (items replies) good runs
  run_or_refusal_keeps items old new events (Err error) good runs refused = subst (IsConsistent keys) (sym refused) good
