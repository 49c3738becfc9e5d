-- Whole calls of one caller: from rest to rest.
use Rattle.std.proofs.Common.{◌≡◌, ◌⊎◌, ℕ, ◌+◌, Bool, true, false, List, [], ◌∷◌, ◌++◌, length, Option, Some, None, refl, sym, ◌∙◌, ap}
use Rattle.std.proofs.Common.{subst, arith, inl, inr, eqb, ltb}
use Rattle.std.specs.Bool.{MatchBool}
use Rattle.std.specs.Cmp.{IsEquivalence}
use Rattle.std.specs.Map.{lookup, remove_entry}
use Rattle.std.specs.Option.{MatchOption, is_some}
use Rattle.std.proofs.lemmas.Bool.{false≢true}
use Rattle.moka_common.specs.Keys.{Keys}
use Rattle.moka_sync_model.specs.declared.constants.TheConstants.{WRITE_LOG_SIZE, CALLER}
use Rattle.moka_sync_model.specs.Entry.{Entry, entry_at}
use Rattle.moka_sync_model.specs.declared.operation.Read.{Read}
use Rattle.moka_sync_model.specs.declared.operation.Write.{Write}
use Rattle.moka_sync_model.specs.declared.operation.Write.TheVariants.{Upsert, Remove}
use Rattle.moka_sync_model.specs.declared.operation.Operation.{Operation}
use Rattle.moka_sync_model.specs.declared.operation.Operation.TheVariants.{Reading, Writing}
use Rattle.moka_sync_model.specs.declared.phase.Phase.{Phase as PhaseName}
use Rattle.moka_sync_model.specs.declared.phase.Phase.TheVariants as name
use Rattle.moka_sync_model.specs.Phase as phase
use Rattle.moka_sync_model.specs.Phase.{Phase, is_idle, name_of}
use Rattle.moka_sync_model.specs.CoreState.{CoreState, pending_of, with_pending, without_pending}
use Rattle.moka_sync_model.specs.Turn.Plan.{Plan, Alone, AtReads, AtWrites, AtEntry, after_plan}
use Rattle.moka_sync_model.specs.Turn.Turn.{turn_at, after_turn}
use Rattle.moka_sync_model.specs.declared.event.Event.TheVariants as event
use Rattle.moka_sync_model.specs.declared.event.Event.{Event}
use Rattle.moka_sync_model.specs.Reply.{Reply}
use Rattle.moka_sync_model.specs.MapStep.{fresh_entry, OnlyReplies, IsInsert, IsUpdate, IsAddition, IsGet, IsMiss, IsHit, IsInvalidation}
use Rattle.moka_sync_model.specs.MapStep.{IsTaking}
use Rattle.moka_sync_model.specs.Event.{IsPush, IsBeginning, IsTurn}
use Rattle.moka_sync_model.specs.declared.event.Reply.TheVariants.{NotPossible, Done, Found, Discarded, At, OutOfMemory, TicketsUsedUp}
use Rattle.moka_sync_model.specs.Consistent.{IsConsistent, IsTrimmed}
use Rattle.moka_sync_model.specs.Emptying.{evicting, Empties}
use Rattle.moka_sync_model.specs.Run.{Happens}
use Rattle.moka_sync_model.specs.WholeCall.{Log, LastTurn, NextTurn, Maintains, MaintainsIf, MaintainsIfDue, PushesRead, PushesWrite, Pushed}
use Rattle.moka_sync_model.specs.WholeCall.{WasFull, PushesIf, AfterGet, AfterInsert, AfterRemove, CallsGet, CallsInsert, CallsInvalidate, CallsRemove}
use Rattle.moka_sync_model.specs.declared.call.Call.{Call}
use Rattle.moka_sync_model.specs.declared.call.Call.TheVariants.{Insert, Get, Contains, Invalidate, Remove as RemoveCall, InvalidateAll, Sync, Counts}
use Rattle.moka_sync_model.specs.CoreCall.{scheduled, Decides, has_pending, CoreTurns, evicted_at, entries_evicted, IsAtRest, IsCall}
use Rattle.moka_sync_model.proofs.ConsistentLemmas.{consistent_event}
use Rattle.moka_sync_model.proofs.StepForms.{by_Bool}
use Rattle.moka_sync_model.proofs.EmptyingLemmas.{IsEmptying, emptying_turn}
use Rattle.moka_sync_model.proofs.EvictionLemmas.{turn_evicts}

-- at the end no turn is the eviction's
pub evicting_idle : (p : Phase) → evicting p phase.Idle ≡ 0
evicting_idle (phase.Evict turns) = refl
evicting_idle other = refl

empty_log : {X : Type 0} (xs : List X) → length xs ≡ 0 → xs ≡ []
empty_log [] none = refl
empty_log (x ∷ xs) none = absurd (omega (arith, none))

-- only the idle phase has its name
pub named_idle : (p : Phase) → name_of p ≡ name.Idle → p ≡ phase.Idle
named_idle phase.Idle is = refl
named_idle (phase.ReadCount round) is = absurd (cc)
named_idle (phase.Reads work) is = absurd (cc)
named_idle (phase.ReadApply work read) is = absurd (cc)
named_idle (phase.WriteCount round) is = absurd (cc)
named_idle (phase.Writes work) is = absurd (cc)
named_idle (phase.Apply work write) is = absurd (cc)
named_idle (phase.Scan work c tally seen) is = absurd (cc)
named_idle (phase.Removing work c tally skipped left) is = absurd (cc)
named_idle (phase.Enter work c skipped) is = absurd (cc)
named_idle (phase.Sketch round) is = absurd (cc)
named_idle (phase.MoreReads round) is = absurd (cc)
named_idle (phase.MoreWrites round) is = absurd (cc)
named_idle (phase.ExpireWrite turns) is = absurd (cc)
named_idle (phase.ExpireAccess turns) is = absurd (cc)
named_idle (phase.Evict turns) is = absurd (cc)
named_idle (phase.Publish turns) is = absurd (cc)

module _ {K V S : Type 0} (keys : Keys K S) (laws : IsEquivalence keys.eq) (weighs : K → V → ℕ → Type 0) where
  abbrev pub Core : Type 0
  Core = CoreState K V S

  abbrev pub Step : Core → Event K V → Reply K V → Core → Type 0
  Step = Happens keys weighs

  pub consistent_step : (old new : Core) (e : Event K V) (reply : Reply K V) → IsConsistent keys old → Step old e reply new
      → IsConsistent keys new
  consistent_step old new e reply good h = consistent_event keys laws old new good reply e h.weight h.refused h.step

  -- ---- a maintenance

  -- what a turn with its phase has done
  pub record TurnFacts (old : Core) (p : PhaseName) (new : Core) : Type 0 where
    pub refused : Bool
    pub busy : old.maintenance.phase ≡ phase.Idle → ⊥
    pub at : name_of new.maintenance.phase ≡ p
    pub is : new ≡ after_turn refused old

  pub turn_facts : (old new : Core) (p : PhaseName) → Step old event.Turn (At p) new → TurnFacts old p new
  turn_facts old new p h = by (is_idle old.maintenance.phase) refl h.step
    where
      by : (idle : Bool) → is_idle old.maintenance.phase ≡ idle → IsTurn keys old h.refused idle (At p) new → TurnFacts old p new
      by true is step = let word = step.0 in absurd (cc)
      by false is step =
          let word = step.0 in
          record {
            refused = h.refused;
            busy = λ at. false≢true (sym is ∙ ap is_idle at);
            at =
                let same : name_of new.maintenance.phase ≡ p = cc in same;
            is = step.1;
          }

  pending_kept : (refused : Bool) (core : Core) → (after_turn refused core).pending ≡ core.pending
  pending_kept refused core = by (turn_at core.settings core.valid_after refused core.maintenance.phase core.maintenance)
    where
      by : (look : Plan K V) → (after_plan look core).pending ≡ core.pending
      by (Alone m) = refl
      by (AtReads looks) = refl
      by (AtWrites looks) = refl
      by (AtEntry t looks) = refl

  -- how many of these turns the eviction used
  abbrev pub turns_evicting : (old new : Core) → CoreTurns keys weighs old new → ℕ
  turns_evicting old new (LastTurn _ _ step) = 0
  turns_evicting old new (NextTurn _ next _ p busy step turns) =
      evicting old.maintenance.phase next.maintenance.phase + turns_evicting next new turns

  pub record IsMaintained (kept : List (ℕ × Operation)) (used : ℕ) (new : Core) : Type 0 where
    pub good : IsConsistent keys new
    pub pending : new.pending ≡ kept
    pub phase : new.maintenance.phase ≡ phase.Idle
    pub read_log : new.read_log ≡ []
    pub write_log : new.write_log ≡ []
    pub trimmed : IsTrimmed new.settings.policy.max_capacity new.maintenance.orders used

  at_end : (kept : List (ℕ × Operation)) (used : ℕ) (new : Core) → IsConsistent keys new → new.pending ≡ kept
      → new.maintenance.phase ≡ phase.Idle → IsEmptying used new → IsMaintained kept used new
  at_end kept used new good pending at h =
      let ends =
      subst (Empties new.settings.policy.max_capacity new.maintenance.orders used (length new.read_log) (length new.write_log)) at h
      in
      record {
        good = good;
        pending = pending;
        phase = at;
        read_log = empty_log new.read_log ends.0;
        write_log =
            empty_log new.write_log ends.1;
        trimmed = ends.2;
      }

  module _ (old new : Core) (p : PhaseName) (n : ℕ) (step : Step old event.Turn (At p) new) (good : IsConsistent keys old)
      (way : IsEmptying n old) where
    way_on : IsEmptying (n + evicting old.maintenance.phase new.maintenance.phase) new
    way_on =
        let facts = turn_facts old new p step in
        subst (λ c. IsEmptying (n + evicting old.maintenance.phase c.maintenance.phase) c) (sym facts.is)
        (emptying_turn keys old good.entries n facts.refused facts.busy way)

    pending_on : new.pending ≡ old.pending
    pending_on = let facts = turn_facts old new p step in ap (λ c. c.pending) facts.is ∙ pending_kept facts.refused old

  turns_maintain : (old new : Core) (n : ℕ) → IsConsistent keys old → IsEmptying n old → (turns : CoreTurns keys weighs old new)
      → IsMaintained old.pending (n + turns_evicting old new turns) new
  turns_maintain old new n good way (LastTurn _ _ step) =
      let facts = turn_facts old new name.Idle step in
      let idle = named_idle new.maintenance.phase facts.at in
      let none : n + evicting old.maintenance.phase new.maintenance.phase ≡ n + 0 = ap (λ p. n + evicting old.maintenance.phase p) idle
      ∙ ap (λ k. n + k) (evicting_idle old.maintenance.phase) in
      at_end old.pending (n + 0) new (consistent_step old new event.Turn (At name.Idle) good step)
      (pending_on old new name.Idle n step good way) idle
      (subst (λ k. IsEmptying k new) none (way_on old new name.Idle n step good way))
  turns_maintain old new n good way (NextTurn _ next _ p busy step turns) =
      let more : ℕ = evicting old.maintenance.phase next.maintenance.phase in
      let later =
      turns_maintain next new (n + more) (consistent_step old next event.Turn (At p) good step) (way_on old next p n step good way)
      turns in
      let sum : (n + more) + turns_evicting next new turns ≡ n + (more + turns_evicting next new turns) = omega arith in
      record {
        good = later.good;
        pending = later.pending ∙ pending_on old next p n step good way;
        phase = later.phase;
        read_log = later.read_log;
        write_log = later.write_log;
        trimmed = subst (IsTrimmed new.settings.policy.max_capacity new.maintenance.orders) sum later.trimmed;
      }

  abbrev CoreMaintains : ℕ → Core → Core → Type 0
  CoreMaintains now old new = Maintains Step Decides has_pending CALLER now old new

  begin_facts : (old new : Core) (now : ℕ) → Step old (event.Begin now) Done new
      → new ≡ record old { maintenance = record old.maintenance { phase = phase.ReadCount 1; moment = now } }
  begin_facts old new now h = by (is_idle old.maintenance.phase) h.step
    where
      by : (idle : Bool) → IsBeginning keys old now idle Done new
          → new ≡ record old { maintenance = record old.maintenance { phase = phase.ReadCount 1; moment = now } }
      by true step = step.1
      by false step = let word = step.0 in absurd (cc)

  -- a whole maintenance
  pub maintained : (now : ℕ) (old new : Core) → IsConsistent keys old → (m : CoreMaintains now old new)
      → IsMaintained old.pending (turns_evicting m.begun new m.turns) new
  maintained now old new good m =
      let is = begin_facts old m.begun now m.begins in
      let start : IsEmptying 0 m.begun = subst (IsEmptying 0) (sym is) refl in
      let all = turns_maintain m.begun new 0 (consistent_step old m.begun (event.Begin now) Done good m.begins) start m.turns in
      let count : ℕ = turns_evicting m.begun new m.turns in
      let sum : 0 + count ≡ count = omega arith in
      record {
        good = all.good;
        pending = all.pending ∙ ap (λ c. c.pending) is;
        phase = all.phase;
        read_log = all.read_log;
        write_log = all.write_log;
        trimmed = subst (IsTrimmed new.settings.policy.max_capacity new.maintenance.orders) sum all.trimmed;
      }

  -- where nothing is outstanding, each turn of the eviction takes an entry
  turns_evict : (old new : Core) (n : ℕ) → IsConsistent keys old → IsEmptying n old → old.pending ≡ []
      → (turns : CoreTurns keys weighs old new) → entries_evicted keys weighs old new turns ≡ turns_evicting old new turns
  turns_evict old new n good way free (LastTurn _ _ step) = refl
  turns_evict old new n good way free (NextTurn _ next _ p busy step turns) =
      let facts = turn_facts old next p step in
      let one : evicted_at old.maintenance.phase (length old.entries) (length next.entries)
      ≡ evicting old.maintenance.phase next.maintenance.phase =
      subst (λ c. evicted_at old.maintenance.phase (length old.entries) (length c.entries)
      ≡ evicting old.maintenance.phase c.maintenance.phase) (sym facts.is)
      (turn_evicts keys old good.entries n facts.refused way free) in
      let rest =
      turns_evict next new (n + evicting old.maintenance.phase next.maintenance.phase)
      (consistent_step old next event.Turn (At p) good step) (way_on old next p n step good way)
      (pending_on old next p n step good way ∙ free) turns in
      ap (λ k. k + entries_evicted keys weighs next new turns) one
      ∙ ap (λ k. evicting old.maintenance.phase next.maintenance.phase + k) rest

  pub maintained_evicts : (now : ℕ) (old new : Core) → IsConsistent keys old → old.pending ≡ [] → (m : CoreMaintains now old new)
      → entries_evicted keys weighs m.begun new m.turns ≡ turns_evicting m.begun new m.turns
  maintained_evicts now old new good free m =
      let is = begin_facts old m.begun now m.begins in
      turns_evict m.begun new 0 (consistent_step old m.begun (event.Begin now) Done good m.begins) (subst (IsEmptying 0) (sym is) refl)
      (ap (λ c. c.pending) is ∙ free) m.turns

  -- ---- the steps of a caller

  -- nothing is under way
  pub record Rests (core : Core) : Type 0 where
    pub good : IsConsistent keys core
    pub rest : IsAtRest core

  -- one operation of the caller is pending, and nothing else is under way
  pub record Pends (operation : Operation) (core : Core) : Type 0 where
    pub good : IsConsistent keys core
    pub pending : core.pending ≡ (CALLER, operation) ∷ []
    pub phase : core.maintenance.phase ≡ phase.Idle

  pub pending_is : (operation : Operation) (core : Core) → core.pending ≡ (CALLER, operation) ∷ [] → pending_of CALLER core ≡ Some operation
  pending_is operation core is = ap (lookup (eqb CALLER)) is

  pub none_pending : (core : Core) → core.pending ≡ [] → pending_of CALLER core ≡ None
  none_pending core is = ap (lookup (eqb CALLER)) is

  none_left : (operation : Operation) (core : Core) → core.pending ≡ (CALLER, operation) ∷ [] → without_pending CALLER core ≡ []
  none_left operation core is = ap (remove_entry (eqb CALLER)) is

  -- the time of the next maintenance alone changes
  pub good_scheduled : (runs : Bool) (now : ℕ) (core : Core) → IsConsistent keys core → IsConsistent keys (scheduled runs now core)
  good_scheduled false now core good = good
  good_scheduled true now core good = record {
    entries = record {
      stays = good.entries.stays;
      to_come = good.entries.to_come;
      given_once = good.entries.given_once;
      keys_apart = good.entries.keys_apart;
      entries_apart = good.entries.entries_apart;
      nodes_apart = good.entries.nodes_apart;
      writes_apart = good.entries.writes_apart;
      hashed = good.entries.hashed;
      numbered = good.entries.numbered;
      fits = good.entries.fits;
    };
    queues = record {
      hits = good.queues.hits;
      callers_apart = good.queues.callers_apart;
      read_log = good.queues.read_log;
      write_log = good.queues.write_log;
      round = good.queues.round;
      tallied = good.queues.tallied;
    };
  }

  pub scheduled_pends : (operation : Operation) (runs : Bool) (now : ℕ) (core : Core) → Pends operation core
      → Pends operation (scheduled runs now core)
  scheduled_pends operation true now core h = record { good = good_scheduled true now core h.good; pending = h.pending; phase = h.phase }
  scheduled_pends operation false now core h = h

  pub due_pends : (operation : Operation) (log : Log) (now : ℕ) (old new : Core) → Pends operation old
      → MaintainsIfDue Step Decides has_pending CALLER log now old new → Pends operation new
  due_pends operation log now old new h due =
      by due.runs (subst (Pends operation) (sym due.decision.1) (scheduled_pends operation due.runs now old h)) due.maintains
    where
      by : (runs : Bool) → Pends operation due.decided → MaintainsIf Step Decides has_pending CALLER runs now due.decided new
          → Pends operation new
      by true h m = let all = maintained now due.decided new h.good m in
          record { good = all.good; pending = all.pending ∙ h.pending; phase = all.phase }
      by false h is = subst (Pends operation) (sym is) h

  -- a push that is done
  rests_by : (old new : Core) → IsConsistent keys new → new.pending ≡ [] → new.maintenance.phase ≡ old.maintenance.phase
      → old.maintenance.phase ≡ phase.Idle → Rests new
  rests_by old new good pending same idle = record { good = good; rest = record { pending = pending; phase = same ∙ idle } }

  read_rests : (read : Read) (now : ℕ) (old new : Core) → Pends (Reading read) old
      → PushesRead Step Decides has_pending CALLER now old new → Rests new
  read_rests read now old new h push = by push.pushes
    where
      ready : Pends (Reading read) push.next
      ready = due_pends (Reading read) _ now old push.next h push.maintains

      pushed : (reply : Reply K V) → Step push.next (event.Push CALLER) reply new → Rests new
      pushed reply step =
          room (subst (λ o. IsPush keys push.next CALLER o reply new) (pending_is (Reading read) push.next ready.pending) step.step)
        where
          good : IsConsistent keys new
          good = consistent_step push.next new (event.Push CALLER) reply ready.good step

          room : IsPush keys push.next CALLER (Some (Reading read)) reply new → Rests new
          room p =
              by_Bool _
              ((reply ≡ Done)
              × (new ≡ record push.next { read_log = push.next.read_log ++ read ∷ []; pending = without_pending CALLER push.next }))
              ((reply ≡ Discarded) × (new ≡ record push.next { pending = without_pending CALLER push.next }))
              (λ b q. rests_by push.next new good (ap (λ c. c.pending) q.1 ∙ none_left (Reading read) push.next ready.pending)
              (ap (λ c. c.maintenance.phase) q.1) ready.phase)
              (λ b q. rests_by push.next new good (ap (λ c. c.pending) q.1 ∙ none_left (Reading read) push.next ready.pending)
              (ap (λ c. c.maintenance.phase) q.1) ready.phase) p

      by : Step push.next (event.Push CALLER) Done new ⊎ Step push.next (event.Push CALLER) Discarded new → Rests new
      by (inl step) = pushed Done step
      by (inr step) = pushed Discarded step

  -- a push of a write has done so, or nothing
  write_pushed : (write : Write) (next new : Core) (reply : Reply K V) → pending_of CALLER next ≡ Some (Writing write)
      → Step next (event.Push CALLER) reply new
      → ((reply ≡ Done) × (new ≡ record next { write_log = next.write_log ++ write ∷ []; pending = without_pending CALLER next }))
      ⊎ ((ltb (length next.write_log) WRITE_LOG_SIZE ≡ false) × OnlyReplies keys next NotPossible reply new)
  write_pushed write next new reply is step =
      by_Bool _ ((reply ≡ Done) × (new ≡ record next { write_log = next.write_log ++ write ∷ []; pending = without_pending CALLER next }))
      (OnlyReplies keys next NotPossible reply new)
      (λ b q. inl q) (λ b r. inr (b, r)) (subst (λ o. IsPush keys next CALLER o reply new) is step.step)

  write_rests : (write : Write) (now : ℕ) (old new : Core) → Pends (Writing write) old
      → PushesWrite Step Decides has_pending CALLER now old new → Rests new
  write_rests write now old new h (Pushed _ next _ due step) =
      elim (write_pushed write next new Done (pending_is (Writing write) next ready.pending) step) [
        | inl q ↦
            rests_by next new (consistent_step next new (event.Push CALLER) Done ready.good step)
            (ap (λ c. c.pending) q.1 ∙ none_left (Writing write) next ready.pending) (ap (λ c. c.maintenance.phase) q.1) ready.phase
        | inr r ↦ let word = r.1.0 in absurd (cc)
      ]
    where
      ready : Pends (Writing write) next
      ready = due_pends (Writing write) _ now old next h due
  write_rests write now old new h (WasFull _ next again _ due step later) = write_rests write now again new full later
    where
      ready : Pends (Writing write) next
      ready = due_pends (Writing write) _ now old next h due

      full : Pends (Writing write) again
      full =
          elim (write_pushed write next again NotPossible (pending_is (Writing write) next ready.pending) step) [
            | inl q ↦ let word = q.0 in absurd (cc)
            | inr r ↦ subst (Pends (Writing write)) (sym r.1.1) ready
          ]

  -- ---- whole calls

  module _ (old : Core) (rests : Rests old) where
    -- a step whose caller was free
    free : (reply : Reply K V) (new : Core) (Happens : Type 0)
        → MatchOption (pending_of CALLER old) Happens (λ operation. OnlyReplies keys old NotPossible reply new) → Happens
    free reply new Happens h =
        subst (λ o. MatchOption o Happens (λ operation. OnlyReplies keys old NotPossible reply new)) (none_pending old rests.rest.pending) h

    -- the caller has this operation now
    pub now_pends : (operation : Operation) (new : Core) → IsConsistent keys new → new.pending ≡ with_pending CALLER operation old
        → new.maintenance.phase ≡ old.maintenance.phase → Pends operation new
    now_pends operation new good pending phase =
        record {
          good = good;
          pending = pending ∙ ap (λ ps. ps ++ (CALLER, operation) ∷ []) rests.rest.pending;
          phase =
              phase ∙ rests.rest.phase;
        }

    still_rests : (new : Core) → new ≡ old → Rests new
    still_rests new is = subst Rests (sym is) rests

    get_rests : (key : K) (now : ℕ) (reply : Reply K V) (new : Core) → CallsGet Step Decides has_pending CALLER key now true reply old new
        → Rests new
    get_rests key now reply new call = by (entry_at keys.eq key old.entries) (free reply call.next _ call.first.step)
      where
        good : IsConsistent keys call.next
        good = consistent_step old call.next (event.Get CALLER key now) reply rests.good call.first

        answered : (read : Read) (o : Option V) → reply ≡ Found o
            → call.next ≡ record old { pending = with_pending CALLER (Reading read) old } → Rests new
        answered read o word is =
            read_rests read now call.next new
            (now_pends (Reading read) call.next good (ap (λ c. c.pending) is) (ap (λ c. c.maintenance.phase) is))
            (follows o (subst (λ r. AfterGet Step Decides has_pending CALLER now r true call.next new) word call.follows))
          where
            follows : (o : Option V) → AfterGet Step Decides has_pending CALLER now (Found o) true call.next new
                → PushesRead Step Decides has_pending CALLER now call.next new
            follows None f = f
            follows (Some v) f = f

        by : (present : Option (Entry K V)) → IsGet keys old CALLER key now call.first.refused present reply call.next → Rests new
        by None m = answered _ None m.0 m.1
        by (Some e) h =
            by_Bool _ (IsMiss keys old CALLER key reply call.next)
            (MatchBool call.first.refused (OnlyReplies keys old OutOfMemory reply call.next)
            (IsHit keys old CALLER e now reply call.next))
            (λ b m. answered _ None m.0 m.1)
            (λ b. by_Bool call.first.refused (OnlyReplies keys old OutOfMemory reply call.next)
            (IsHit keys old CALLER e now reply call.next)
            (λ b r. still_rests new (subst (λ w. AfterGet Step Decides has_pending CALLER now w true call.next new) r.0 call.follows ∙ r.1))
            (λ b m. answered _ (Some e.value) m.0 m.1)) h

    insert_rests : (key : K) (value : V) (now : ℕ) (reply : Reply K V) (new : Core)
        → CallsInsert Step Decides has_pending CALLER key value now reply old new → Rests new
    insert_rests key value now reply new call =
        by call.first.refused (entry_at keys.eq key old.entries) (free reply call.next _ call.first.step)
      where
        good : IsConsistent keys call.next
        good = consistent_step old call.next (event.Insert CALLER key value now) reply rests.good call.first

        After : Reply K V → Type 0
        After r = AfterInsert Step Decides has_pending CALLER now r call.next new

        done : (t : Write) → reply ≡ Done → call.next.pending ≡ with_pending CALLER (Writing t) old
            → call.next.maintenance.phase ≡ old.maintenance.phase → Rests new
        done write word pending phase =
            write_rests write now call.next new (now_pends (Writing write) call.next good pending phase)
            (subst (λ r. AfterInsert Step Decides has_pending CALLER now r call.next new) word call.follows)

        by : (refused : Bool) (present : Option (Entry K V))
            → IsInsert keys old CALLER key value now call.first.weight refused present reply call.next → Rests new
        by true present r =
            still_rests new (subst (λ w. AfterInsert Step Decides has_pending CALLER now w call.next new) r.0 call.follows ∙ r.1)
        by false (Some e) h =
            by_Bool _ (OnlyReplies keys old TicketsUsedUp reply call.next)
            (IsUpdate keys old CALLER e value now call.first.weight reply call.next)
            (λ b r. still_rests new (subst (λ w. AfterInsert Step Decides has_pending CALLER now w call.next new) r.0 call.follows ∙ r.1))
            (λ b u. done (Upsert e.ticket) u.0 (ap (λ c. c.pending) u.1) (ap (λ c. c.maintenance.phase) u.1)) h
        by false None h =
            by_Bool _ (OnlyReplies keys old TicketsUsedUp reply call.next)
            (IsAddition keys old CALLER (fresh_entry keys old key value call.first.weight now) reply call.next)
            (λ b r. still_rests new (subst (λ w. AfterInsert Step Decides has_pending CALLER now w call.next new) r.0 call.follows ∙ r.1))
            (λ b a. done (Upsert (fresh_entry keys old key value call.first.weight now).ticket) a.2 (ap (λ c. c.pending) a.3)
            (ap (λ c. c.maintenance.phase) a.3)) h

    -- what follows an invalidation, and a removal
    out_rests : (now : ℕ) (next new : Core) → IsConsistent keys next → (present : Option (Entry K V))
        → IsInvalidation keys old CALLER present Done next
        → PushesIf Step Decides has_pending CALLER (has_pending next) now next new → Rests new
    out_rests now next new good None h follows =
        let none : has_pending next ≡ false = ap has_pending h.1 ∙ ap is_some (none_pending old rests.rest.pending) in
        still_rests new (subst (λ b. PushesIf Step Decides has_pending CALLER b now next new) none follows ∙ h.1)
    out_rests now next new good (Some e) h follows =
        let ready =
        now_pends (Writing (Remove e.ticket)) next good (ap (λ c. c.pending) h.1) (ap (λ c. c.maintenance.phase) h.1) in
        let some : has_pending next ≡ true = ap is_some (pending_is (Writing (Remove e.ticket)) next ready.pending) in
        write_rests (Remove e.ticket) now next new ready
        (subst (λ b. PushesIf Step Decides has_pending CALLER b now next new) some follows)

    invalidate_rests : (key : K) (now : ℕ) (reply : Reply K V) (new : Core)
        → CallsInvalidate Step Decides has_pending CALLER key now reply old new → Rests new
    invalidate_rests key now reply new (word, call) =
        out_rests now call.next new (consistent_step old call.next (event.Invalidate CALLER key now) Done rests.good call.first)
        (entry_at keys.eq key old.entries) (free Done call.next _ call.first.step) call.follows

    remove_rests : (key : K) (now : ℕ) (reply : Reply K V) (new : Core)
        → CallsRemove Step Decides has_pending CALLER key now reply old new → Rests new
    remove_rests key now reply new call =
        let taken = free reply call.next (IsTaking keys old CALLER now (entry_at keys.eq key old.entries) reply call.next) call.first.step in
        out_rests now call.next new (consistent_step old call.next (event.Take CALLER key now) reply rests.good call.first)
        (entry_at keys.eq key old.entries) taken.1
        (subst (λ r. AfterRemove Step Decides has_pending CALLER now r call.next new) taken.0 call.follows)

    -- a whole call leaves nothing under way
    pub call_rests : (call : Call K V) (reply : Reply K V) (new : Core) → IsCall keys weighs old call reply new → Rests new
    call_rests (Insert key value now) reply new h = insert_rests key value now reply new h
    call_rests (Get key now) reply new h = get_rests key now reply new h
    call_rests (Contains key now) reply new h = still_rests new (h.step.1)
    call_rests (Invalidate key now) reply new h = invalidate_rests key now reply new h
    call_rests (RemoveCall key now) reply new h = remove_rests key now reply new h
    call_rests (InvalidateAll now) reply new h =
        let is = h.step.1 in
        rests_by old new (consistent_step old new (event.InvalidateAll now) reply rests.good h)
        (ap (λ c. c.pending) is ∙ rests.rest.pending) (ap (λ c. c.maintenance.phase) is) rests.rest.phase
    call_rests (Sync now) reply new h = let all = maintained now old new rests.good h.1 in
        record { good = all.good; rest = record { pending = all.pending ∙ rests.rest.pending; phase = all.phase } }
    call_rests Counts reply new h = still_rests new h.1
