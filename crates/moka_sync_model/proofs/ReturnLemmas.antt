-- Every whole call of one caller returns.
use Rattle.std.proofs.Common.{◌≡◌, ◌⊎◌, zero, suc, ℕ, ◌+◌, ◌-◌, ◌<◌, ◌≤◌, ◌^◌, Bool, true, false, ◌||◌, [], ◌∷◌, ◌++◌, length, Option}
use Rattle.std.proofs.Common.{Some, None, refl, sym, ◌∙◌, ap, subst, arith, inl, inr, eqb, ltb, leb}
use Rattle.std.specs.Bool.{MatchBool}
use Rattle.std.specs.Cmp.{IsEquivalence}
use Rattle.std.specs.Prelude.{slice_set}
use Rattle.std.specs.Option.{MatchOption, option_map_or, is_some}
use Rattle.std.proofs.lemmas.List.{append-nil}
use Rattle.std.proofs.lemmas.Bool.{false≢true, leb-false, lt-ltb}
use Rattle.moka_common.specs.Keys.{Keys}
use Rattle.moka_sync_model.specs.declared.constants.TheConstants.{READ_LOG_SIZE, WRITE_LOG_SIZE, FLUSH_POINT, NO_TICKET, CALLER}
use Rattle.moka_sync_model.specs.Entry.{Entry, entry_at, updated}
use Rattle.moka_sync_model.specs.Ticket.{shard_of, changed, without}
use Rattle.moka_sync_model.specs.declared.operation.Read.{Read}
use Rattle.moka_sync_model.specs.declared.operation.Read.TheVariants.{Hit, Miss}
use Rattle.moka_sync_model.specs.declared.operation.Write.{Write}
use Rattle.moka_sync_model.specs.declared.operation.Write.TheVariants.{Upsert, Remove}
use Rattle.moka_sync_model.specs.declared.operation.Operation.{Operation}
use Rattle.moka_sync_model.specs.declared.operation.Operation.TheVariants.{Reading, Writing}
use Rattle.moka_sync_model.specs.Phase as phase
use Rattle.moka_sync_model.specs.Phase.{is_idle, name_of}
use Rattle.moka_sync_model.specs.CoreState.{CoreState, is_expired, pending_of, with_pending, without_pending}
use Rattle.moka_sync_model.specs.Turn.Turn.{after_turn}
use Rattle.moka_sync_model.specs.declared.event.Event.TheVariants as event
use Rattle.moka_sync_model.specs.declared.event.Event.{Event}
use Rattle.moka_sync_model.specs.Reply.{Reply}
use Rattle.moka_sync_model.specs.MapStep.{fresh_entry, OnlyReplies, IsInsert, IsUpdate, IsAddition, IsGet, IsMiss, IsHit, IsInvalidation}
use Rattle.moka_sync_model.specs.MapStep.{value_taken}
use Rattle.moka_sync_model.specs.Event.{IsPush, IsBeginning, IsTurn}
use Rattle.moka_sync_model.specs.declared.event.Reply.TheVariants.{NotPossible, Done, Found, Discarded, At, OutOfMemory, TicketsUsedUp}
use Rattle.moka_sync_model.specs.Consistent.{AreEntriesConsistent, IsConsistent}
use Rattle.moka_sync_model.specs.TurnsLeft.{turns_left}
use Rattle.moka_sync_model.specs.Queues.{IsRound}
use Rattle.moka_sync_model.specs.Run.{Happens}
use Rattle.moka_sync_model.specs.WholeCall.{Log, OfReads, OfWrites, LastTurn, NextTurn, Maintains, MaintainsIf, MaintainsIfDue, PushesRead}
use Rattle.moka_sync_model.specs.WholeCall.{PushesWrite, Pushed, PushesIf}
use Rattle.moka_sync_model.specs.declared.call.Call.{Call}
use Rattle.moka_sync_model.specs.declared.call.Call.TheVariants.{Insert, Get, Contains, Invalidate, Remove as RemoveCall, InvalidateAll, Sync, Counts}
use Rattle.moka_sync_model.specs.CoreCall.{is_due, log_length, scheduled, Decides, has_pending, IsCall, CoreTurns}
use Rattle.moka_sync_model.proofs.EventLemmas.{idle_is}
use Rattle.moka_sync_model.proofs.TurnLemmas.{consistent_turn}
use Rattle.moka_sync_model.proofs.EndLemmas.{turn_falls, idle_or_busy}
use Rattle.moka_sync_model.proofs.CallLemmas.{named_idle, Rests, Pends, maintained, due_pends, scheduled_pends, pending_is, none_pending}
use Rattle.moka_sync_model.proofs.CallLemmas.{now_pends, consistent_step}

module _ {K V S : Type 0} (keys : Keys K S) (laws : IsEquivalence keys.eq) (weighs : K → V → ℕ → Type 0) where
  abbrev Core : Type 0
  Core = CoreState K V S

  abbrev Step : Core → Event K V → Reply K V → Core → Type 0
  Step = Happens keys weighs

  turn_step : (core : Core) → (core.maintenance.phase ≡ phase.Idle → ⊥)
      → Step core event.Turn (At (name_of (after_turn false core).maintenance.phase)) (after_turn false core)
  turn_step core busy = record { weight = 0; refused = false; weighed = tt; step = by (is_idle core.maintenance.phase) refl }
    where
      by : (idle : Bool) → is_idle core.maintenance.phase ≡ idle
          → IsTurn keys core false idle (At (name_of (after_turn false core).maintenance.phase)) (after_turn false core)
      by true is = absurd (busy (idle_is core.maintenance.phase is))
      by false is = (refl, refl)

  -- from any phase under way turns lead to rest
  turns_return : (fuel : ℕ) (core : Core) → AreEntriesConsistent keys core → (core.maintenance.phase ≡ phase.Idle → ⊥)
      → IsRound core.maintenance.phase → turns_left core ≤ fuel → (new : Core) × CoreTurns keys weighs core new
  turns_return zero core good busy round enough = absurd (omega (arith, (turn_falls keys core good false busy round).0, enough))
  turns_return (suc f) core good busy round enough =
      by (idle_or_busy next.maintenance.phase)
      (λ more. turns_return f next (consistent_turn keys core good false) more falls.1 (omega (arith, falls.0, enough)))
    where
      next : Core
      next = after_turn false core

      falls : (turns_left next < turns_left core) × IsRound next.maintenance.phase
      falls = turn_falls keys core good false busy round

      by : (next.maintenance.phase ≡ phase.Idle) ⊎ (next.maintenance.phase ≡ phase.Idle → ⊥)
          → ((next.maintenance.phase ≡ phase.Idle → ⊥) → (new : Core) × CoreTurns keys weighs next new)
          → (new : Core) × CoreTurns keys weighs core new
      by (inl idle) later =
          (next, LastTurn core next (subst (λ p. Step core event.Turn (At p) next) (ap name_of idle) (turn_step core busy)))
      by (inr more) later = let rest =
          later more in (
            rest.0,
            NextTurn core next rest.0 (name_of next.maintenance.phase) (λ is. more (named_idle next.maintenance.phase is))
                (turn_step core busy) rest.1,
          )

  -- a maintenance that begins returns
  pub maintenance_returns : (now : ℕ) (old : Core) → IsConsistent keys old → old.maintenance.phase ≡ phase.Idle
      → (new : Core) × Maintains Step Decides has_pending CALLER now old new
  maintenance_returns now old good idle =
      let begins : Step old (event.Begin now) Done begun =
      record { weight = 0; refused = false; weighed = tt; step = by (is_idle old.maintenance.phase) (ap is_idle idle) } in
      let all =
      turns_return (turns_left begun) begun (consistent_step keys laws weighs old begun (event.Begin now) Done good begins).entries
      (λ is. false≢true (ap is_idle is)) (omega arith) (omega arith) in
      (all.0, record { begun = begun; begins = begins; turns = all.1 })
    where
      begun : Core
      begun = record old { maintenance = record old.maintenance { phase = phase.ReadCount 1; moment = now } }

      by : (b : Bool) → b ≡ true → IsBeginning keys old now b Done begun
      by true is = (refl, refl)
      by false is = absurd (false≢true is)

  due_returns : (operation : Operation) (log : Log) (now : ℕ) (old : Core) → Pends keys laws weighs operation old
      → (new : Core) × MaintainsIfDue Step Decides has_pending CALLER log now old new
  due_returns operation log now old h = by (is_due (log_length log old) FLUSH_POINT old.sync_after now) refl
    where
      by : (runs : Bool) → runs ≡ is_due (log_length log old) FLUSH_POINT old.sync_after now
          → (new : Core) × MaintainsIfDue Step Decides has_pending CALLER log now old new
      by true is =
          let ready = scheduled_pends keys laws weighs operation true now old h in
          let all = maintenance_returns now (scheduled true now old) ready.good ready.phase in
          (all.0, record { runs = true; decided = scheduled true now old; decision = (is, refl); maintains = all.1 })
      by false is = (old, record { runs = false; decided = old; decision = (is, refl); maintains = refl })

  -- a log in which nothing was due, or that was emptied, has room
  pub room_left : (operation : Operation) (now : ℕ) (old new : Core) → Pends keys laws weighs operation old
      → MaintainsIfDue Step Decides has_pending CALLER OfWrites now old new → length new.write_log < WRITE_LOG_SIZE
  room_left operation now old new h due = by due.runs due.decision.0 due.decision.1 due.maintains
    where
      few : (b : Bool) → leb FLUSH_POINT (length old.write_log) ≡ b → false ≡ (b || option_map_or (λ d. leb d now) old.sync_after false)
          → length old.write_log < WRITE_LOG_SIZE
      few true is none = absurd (false≢true none)
      few false is none = omega (arith, leb-false FLUSH_POINT (length old.write_log) is)

      by : (runs : Bool) → runs ≡ is_due (length old.write_log) FLUSH_POINT old.sync_after now → due.decided ≡ scheduled runs now old
          → MaintainsIf Step Decides has_pending CALLER runs now due.decided new → length new.write_log < WRITE_LOG_SIZE
      by false none same is =
          subst (λ c. length c.write_log < WRITE_LOG_SIZE) (sym (is ∙ same)) (few (leb FLUSH_POINT (length old.write_log)) refl none)
      by true is same m =
          let all =
          maintained keys laws weighs now due.decided new
          (subst (IsConsistent keys) (sym same) (scheduled_pends keys laws weighs operation true now old h).good) m in
          omega (arith, ap length all.write_log)

  -- ---- pushes

  abbrev ReadReturns : ℕ → Core → Type 0
  ReadReturns now old = (new : Core) × PushesRead Step Decides has_pending CALLER now old new

  abbrev WriteReturns : ℕ → Core → Type 0
  WriteReturns now old = (new : Core) × PushesWrite Step Decides has_pending CALLER now old new

  read_returns : (read : Read) (now : ℕ) (old : Core) → Pends keys laws weighs (Reading read) old → ReadReturns now old
  read_returns read now old h = by (ltb (length next.read_log) READ_LOG_SIZE) refl
    where
      due : (new : Core) × MaintainsIfDue Step Decides has_pending CALLER OfReads now old new
      due = due_returns (Reading read) OfReads now old h

      next : Core
      next = due.0

      is_pending : pending_of CALLER next ≡ Some (Reading read)
      is_pending =
          pending_is keys laws weighs (Reading read) next (due_pends keys laws weighs (Reading read) OfReads now old next h due.1).pending

      Pushes : Reply K V → Core → Bool → Type 0
      Pushes reply new room =
          MatchBool room
          ((reply ≡ Done) × (new ≡ record next { read_log = next.read_log ++ read ∷ []; pending = without_pending CALLER next }))
          ((reply ≡ Discarded) × (new ≡ record next { pending = without_pending CALLER next }))

      step : (reply : Reply K V) (new : Core) (room : Bool) → ltb (length next.read_log) READ_LOG_SIZE ≡ room → Pushes reply new room
          → Step next (event.Push CALLER) reply new
      step reply new room is p =
          record {
            weight = 0;
            refused = false;
            weighed = tt;
            step =
                subst (λ o. IsPush keys next CALLER o reply new) (sym is_pending) (subst (Pushes reply new) (sym is) p);
          }

      by : (room : Bool) → ltb (length next.read_log) READ_LOG_SIZE ≡ room → ReadReturns now old
      by true is =
          let new : Core = record next { read_log = next.read_log ++ read ∷ []; pending = without_pending CALLER next } in
          (new, record { next = next; maintains = due.1; pushes = inl (step Done new true is (refl, refl)) })
      by false is =
          let new : Core = record next { pending = without_pending CALLER next } in
          (new, record { next = next; maintains = due.1; pushes = inr (step Discarded new false is (refl, refl)) })

  write_returns : (write : Write) (now : ℕ) (old : Core) → Pends keys laws weighs (Writing write) old → WriteReturns now old
  write_returns write now old h = (new, Pushed old next new due.1 step)
    where
      due : (new : Core) × MaintainsIfDue Step Decides has_pending CALLER OfWrites now old new
      due = due_returns (Writing write) OfWrites now old h

      next : Core
      next = due.0

      new : Core
      new = record next { write_log = next.write_log ++ write ∷ []; pending = without_pending CALLER next }

      is_pending : pending_of CALLER next ≡ Some (Writing write)
      is_pending =
          pending_is keys laws weighs (Writing write) next
          (due_pends keys laws weighs (Writing write) OfWrites now old next h due.1).pending

      room : ltb (length next.write_log) WRITE_LOG_SIZE ≡ true
      room = lt-ltb (length next.write_log) WRITE_LOG_SIZE (room_left (Writing write) now old next h due.1)

      Pushes : Reply K V → Bool → Type 0
      Pushes reply b =
          MatchBool b
          ((reply ≡ Done) × (new ≡ record next { write_log = next.write_log ++ write ∷ []; pending = without_pending CALLER next }))
          (OnlyReplies keys next NotPossible reply new)

      step : Step next (event.Push CALLER) Done new
      step = record {
        weight = 0;
        refused = false;
        weighed = tt;
        step = subst (λ o. IsPush keys next CALLER o Done new) (sym is_pending)
            (subst (Pushes Done) (sym room) (refl, refl));
      }

  -- ---- whole calls

  module _ (answers : (key : K) (value : V) → (weight : ℕ) × weighs key value weight) (old : Core) (rests : Rests keys laws weighs old)
    where
      -- some reply and some core
      abbrev pub Returns : Call K V → Type 0
      Returns call = (reply : Reply K V) × (new : Core) × IsCall keys weighs old call reply new

      is_free : (reply : Reply K V) (new : Core) (Happens : Type 0) → Happens
          → MatchOption (pending_of CALLER old) Happens (λ operation. OnlyReplies keys old NotPossible reply new)
      is_free reply new Happens h =
          subst (λ o. MatchOption o Happens (λ operation. OnlyReplies keys old NotPossible reply new))
          (sym (none_pending keys laws weighs old rests.rest.pending)) h

      ready : (operation : Operation) (e : Event K V) (reply : Reply K V) (new : Core) → Step old e reply new
          → new.pending ≡ with_pending CALLER operation old → new.maintenance.phase ≡ old.maintenance.phase
          → Pends keys laws weighs operation new
      ready operation e reply new step pending phase =
          now_pends keys laws weighs old rests operation new (consistent_step keys laws weighs old new e reply rests.good step) pending
          phase

      get_returns : (key : K) (now : ℕ) → Returns (Get key now)
      get_returns key now = by (entry_at keys.eq key old.entries) refl
        where
          step : (reply : Reply K V) (new : Core) (present : Option (Entry K V)) → entry_at keys.eq key old.entries ≡ present
              → IsGet keys old CALLER key now false present reply new → Step old (event.Get CALLER key now) reply new
          step reply new present is h =
              record {
                weight = 0;
                refused = false;
                weighed = tt;
                step =
                    is_free reply new _ (subst (λ o. IsGet keys old CALLER key now false o reply new) (sym is) h);
              }

          missed : Core
          missed = record old { pending = with_pending CALLER (Reading (Miss (keys.hash_of old.settings.hash_state key))) old }

          miss : (present : Option (Entry K V)) → entry_at keys.eq key old.entries ≡ present
              → IsGet keys old CALLER key now false present (Found None) missed → Returns (Get key now)
          miss present is h =
              let first = step (Found None) missed present is h in
              let all =
              read_returns _ now missed
              (ready (Reading (Miss (keys.hash_of old.settings.hash_state key))) (event.Get CALLER key now) (Found None) missed first
              refl refl) in
              (Found None, all.0, record { next = missed; first = first; follows = all.1 })

          by : (present : Option (Entry K V)) → entry_at keys.eq key old.entries ≡ present → Returns (Get key now)
          by None is = miss None is (refl, refl)
          by (Some e) is = expired (is_expired old.settings old.valid_after now e) refl
            where
              hit : Core
              hit = record old { pending = with_pending CALLER (Reading (Hit e.ticket now)) old }

              Gets : Reply K V → Core → Bool → Type 0
              Gets reply new over =
                  MatchBool over (IsMiss keys old CALLER key reply new)
                  (MatchBool false (OnlyReplies keys old OutOfMemory reply new) (IsHit keys old CALLER e now reply new))

              expired : (over : Bool) → is_expired old.settings old.valid_after now e ≡ over → Returns (Get key now)
              expired true over = miss (Some e) is (subst (Gets (Found None) missed) (sym over) (refl, refl))
              expired false over =
                  let first =
                  step (Found (Some e.value)) hit (Some e) is (subst (Gets (Found (Some e.value)) hit) (sym over) (refl, refl)) in
                  let all =
                  read_returns (Hit e.ticket now) now hit
                  (ready (Reading (Hit e.ticket now)) (event.Get CALLER key now) (Found (Some e.value)) hit first refl refl) in
                  (Found (Some e.value), all.0, record { next = hit; first = first; follows = all.1 })

      insert_returns : (key : K) (value : V) (now : ℕ) → Returns (Insert key value now)
      insert_returns key value now = by (entry_at keys.eq key old.entries) refl
        where
          w : ℕ
          w = (answers key value).0

          happens : (reply : Reply K V) (new : Core) (present : Option (Entry K V)) → entry_at keys.eq key old.entries ≡ present
              → IsInsert keys old CALLER key value now w false present reply new
              → MatchOption (pending_of CALLER old)
              (IsInsert keys old CALLER key value now w false (entry_at keys.eq key old.entries) reply new)
              (λ operation. OnlyReplies keys old NotPossible reply new)
          happens reply new present is h =
              is_free reply new _ (subst (λ o. IsInsert keys old CALLER key value now w false o reply new) (sym is) h)

          used_up : (present : Option (Entry K V)) → entry_at keys.eq key old.entries ≡ present
              → IsInsert keys old CALLER key value now w false present TicketsUsedUp old → Returns (Insert key value now)
          used_up present is h = (
            TicketsUsedUp,
            old,
            record {
              next = old;
              first =
                  record { weight = w; refused = false; weighed = tt; step = happens TicketsUsedUp old present is h };
              follows = refl;
            },
          )

          done : (write : Write) (new : Core) (present : Option (Entry K V)) → entry_at keys.eq key old.entries ≡ present
              → IsInsert keys old CALLER key value now w false present Done new
              → new.pending ≡ with_pending CALLER (Writing write) old → new.maintenance.phase ≡ old.maintenance.phase
              → Returns (Insert key value now)
          done write new present is h pending phase =
              let first : Step old (event.Insert CALLER key value now) Done new =
              record { weight = w; refused = false; weighed = (answers key value).1; step = happens Done new present is h } in
              let all =
              write_returns write now new (ready (Writing write) (event.Insert CALLER key value now) Done new first pending phase) in
              (Done, all.0, record { next = new; first = first; follows = all.1 })

          by : (present : Option (Entry K V)) → entry_at keys.eq key old.entries ≡ present → Returns (Insert key value now)
          by (Some e) is = full (eqb e.outstanding (2 ^ 64 - 1)) refl
            where
              new : Core
              new = record old {
                entries = changed (λ x. x.ticket) e.ticket (updated value w now) old.entries;
                pending =
                    with_pending CALLER (Writing (Upsert e.ticket)) old;
              }

              Puts : Reply K V → Core → Bool → Type 0
              Puts reply core over =
                  MatchBool over (OnlyReplies keys old TicketsUsedUp reply core) (IsUpdate keys old CALLER e value now w reply core)

              full : (over : Bool) → eqb e.outstanding (2 ^ 64 - 1) ≡ over → Returns (Insert key value now)
              full true over = used_up (Some e) is (subst (Puts TicketsUsedUp old) (sym over) (refl, refl))
              full false over = done (Upsert e.ticket) new (Some e) is (subst (Puts Done new) (sym over) (refl, refl)) refl refl
          by None is = full (eqb e.ticket.number NO_TICKET) refl
            where
              e : Entry K V
              e = fresh_entry keys old key value w now

              new : Core
              new = record old {
                entries = old.entries ++ e ∷ [];
                next_numbers = slice_set old.next_numbers (shard_of e.ticket.hash) (e.ticket.number + 1);
                pending = with_pending CALLER (Writing (Upsert e.ticket)) old;
              }

              Puts : Reply K V → Core → Bool → Type 0
              Puts reply core over =
                  MatchBool over (OnlyReplies keys old TicketsUsedUp reply core) (IsAddition keys old CALLER e reply core)

              full : (over : Bool) → eqb e.ticket.number NO_TICKET ≡ over → Returns (Insert key value now)
              full true over = used_up None is (subst (Puts TicketsUsedUp old) (sym over) (refl, refl))
              full false over =
                  done (Upsert e.ticket) new None is
                  (subst (Puts Done new) (sym over) (
                    new.entries,
                    record { before = old.entries; behind = []; was = sym (append-nil old.entries); is = refl },
                    refl,
                    refl,
                  )) refl refl

      -- a step that takes an entry out, and what follows it
      abbrev Out : ℕ → Event K V → Reply K V → Type 0
      Out now event reply =
          (next : Core) × (new : Core) × Step old event reply next
          × PushesIf Step Decides has_pending CALLER (has_pending next) now next new

      out_returns : (now : ℕ) (event : Event K V) (reply : Reply K V) (present : Option (Entry K V))
          → ((new : Core) → IsInvalidation keys old CALLER present Done new → Step old event reply new) → Out now event reply
      out_returns now event reply None step =
          let none : has_pending old ≡ false = ap is_some (none_pending keys laws weighs old rests.rest.pending) in
          (old, old, step old (refl, refl), subst (λ b. PushesIf Step Decides has_pending CALLER b now old old) (sym none) refl)
      out_returns now event reply (Some e) step =
          let next : Core =
          record old
          { entries = without (λ x. x.ticket) e.ticket old.entries; pending = with_pending CALLER (Writing (Remove e.ticket)) old }
          in
          let first = step next (refl, refl) in
          let pends = ready (Writing (Remove e.ticket)) event reply next first refl refl in
          let some : has_pending next ≡ true = ap is_some (pending_is keys laws weighs (Writing (Remove e.ticket)) next pends.pending) in
          let all = write_returns (Remove e.ticket) now next pends in
          (next, all.0, first, subst (λ b. PushesIf Step Decides has_pending CALLER b now next all.0) (sym some) all.1)

      invalidate_returns : (key : K) (now : ℕ) → Returns (Invalidate key now)
      invalidate_returns key now =
          let out =
          out_returns now (event.Invalidate CALLER key now) Done (entry_at keys.eq key old.entries)
          (λ new h. record { weight = 0; refused = false; weighed = tt; step = is_free Done new _ h }) in
          (Done, out.1, (refl, record { next = out.0; first = out.2; follows = out.3 }))

      remove_returns : (key : K) (now : ℕ) → Returns (RemoveCall key now)
      remove_returns key now =
          let reply : Reply K V = Found (value_taken keys old now (entry_at keys.eq key old.entries)) in
          let out =
          out_returns now (event.Take CALLER key now) reply (entry_at keys.eq key old.entries)
          (λ new h. record { weight = 0; refused = false; weighed = tt; step = is_free reply new _ (refl, h) }) in
          (reply, out.1, record { next = out.0; first = out.2; follows = out.3 })

      -- every whole call returns
      pub call_returns : (call : Call K V) → Returns call
      call_returns (Insert key value now) = insert_returns key value now
      call_returns (Get key now) = get_returns key now
      call_returns (Contains key now) = (_, old, record { weight = 0; refused = false; weighed = tt; step = (refl, refl) })
      call_returns (Invalidate key now) = invalidate_returns key now
      call_returns (RemoveCall key now) = remove_returns key now
      call_returns (InvalidateAll now) = (Done, _, record { weight = 0; refused = false; weighed = tt; step = (refl, refl) })
      call_returns (Sync now) = let all = maintenance_returns now old rests.good rests.rest.phase in (Done, all.0, (refl, all.1))
      call_returns Counts = (_, old, (refl, refl))
