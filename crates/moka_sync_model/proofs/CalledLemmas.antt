-- What whole calls write: the value last written stands, and a get answers what stands.
use Rattle.std.proofs.Common.{◌≡◌, ℕ, Bool, true, false, List, [], ◌∷◌, cond, Option, Some, None, refl, sym, ◌∙◌, ap, subst}
use Rattle.std.specs.Cmp.{IsEquivalence}
use Rattle.moka_common.specs.Keys.{Keys}
use Rattle.std.specs.Option.{option_map}
use Rattle.moka_sync_model.specs.Ticket.{same_ticket, changed}
use Rattle.moka_sync_model.specs.Entry.{Entry, entry_at, updated}
use Rattle.moka_sync_model.specs.CoreState.{CoreState}
use Rattle.moka_sync_model.specs.declared.event.Event.TheVariants as event
use Rattle.moka_sync_model.specs.declared.event.Event.{Event}
use Rattle.moka_sync_model.specs.Reply.{Reply}
use Rattle.moka_sync_model.specs.MapStep.{AddsEntry, fresh_entry}
use Rattle.moka_sync_model.specs.declared.event.Event.TheVariants.{Push, Forget, Begin, Turn}
use Rattle.moka_sync_model.specs.declared.event.Reply.TheVariants.{Done}
use Rattle.moka_sync_model.specs.Consistent.{IsConsistent}
use Rattle.moka_sync_model.specs.LastWritten.{written_by, value_at}
use Rattle.moka_sync_model.specs.Run.{Happens}
use Rattle.moka_sync_model.specs.WholeCall.{Log}
use Rattle.moka_sync_model.specs.declared.call.Call.{Call}
use Rattle.moka_sync_model.specs.declared.call.Call.TheVariants.{Insert, Get, Contains, Invalidate, Remove, InvalidateAll, Sync, Counts}
use Rattle.moka_sync_model.specs.declared.constants.TheConstants.{CALLER}
use Rattle.moka_sync_model.specs.CoreCall.{scheduled, Decides, has_pending, IsCall, Replays}
use Rattle.moka_sync_model.specs.Weights.{AcceptsWeighed}
use Rattle.moka_sync_model.specs.CallLaws.{called_by, last_called, CallsKeepLastWritten, CallsGetLive, CallsRemoveLive}
use Rattle.moka_sync_model.proofs.ListLemmas.{find-changed}
use Rattle.moka_sync_model.proofs.TicketLemmas.{same_self}
use Rattle.moka_sync_model.proofs.AdditionLemmas.{find-added}
use Rattle.moka_sync_model.proofs.StepForms.{StepForm, Same, Queued, Updated, Added, Removed, WasAbsent, Invalidated, Begun, Turned}
use Rattle.moka_sync_model.proofs.StepForms.{AsInvalidated, AsTaken, step_forms}
use Rattle.moka_sync_model.proofs.WrittenLemmas.{step_written, gets_live_value, takes_live_value}
use Rattle.moka_sync_model.proofs.CallLemmas.{consistent_step, good_scheduled}
use Rattle.moka_sync_model.proofs.InnerLemmas.{IsInner, maintenance_keeps, pending_keeps, get_keeps, insert_keeps, remove_keeps}

module _ {K V S : Type 0} (keys : Keys K S) (weighs : K → V → ℕ → Type 0) (laws : IsEquivalence keys.eq) where
  abbrev Core : Type 0
  Core = CoreState K V S

  module _ (key : K) where
    -- the core is consistent, and what stands at the key was written last
    pub record IsLast (last : Option V) (core : Core) : Type 0 where
      pub good : IsConsistent keys core
      pub holds : (v : V) → value_at keys.eq key core ≡ Some v → last ≡ Some v

    -- after an event
    step_last : (old new : Core) (e : Event K V) (reply : Reply K V) (last : Option V) → IsLast last old
        → Happens keys weighs old e reply new → IsLast (written_by keys.eq key e reply last) new
    step_last old new e reply last h step = record {
      good = consistent_step keys laws weighs old new e reply h.good step;
      holds = step_written keys laws key old new h.good.entries e step.weight step.refused reply step.step last h.holds;
    }

    inner_last : (last : Option V) (old new : Core) (e : Event K V) (reply : Reply K V) → IsInner e → IsLast last old
        → Happens keys weighs old e reply new → IsLast last new
    inner_last last old new (Push caller) reply inner h step = step_last old new (Push caller) reply last h step
    inner_last last old new (Forget caller) reply inner h step = step_last old new (Forget caller) reply last h step
    inner_last last old new (Begin now) reply inner h step = step_last old new (Begin now) reply last h step
    inner_last last old new Turn reply inner h step = step_last old new Turn reply last h step
    inner_last last old new other reply inner h step = absurd inner

    decided_last : (last : Option V) (old new : Core) (log : Log) (now : ℕ) (runs : Bool) → IsLast last old → Decides old log now runs new
        → IsLast last new
    decided_last last old new log now runs h d = subst (IsLast last) (sym d.1) (by runs)
      where
        by : (runs : Bool) → IsLast last (scheduled runs now old)
        by true = record { good = good_scheduled keys laws weighs true now old h.good; holds = h.holds }
        by false = h

    call_last : (old new : Core) (call : Call K V) (reply : Reply K V) (last : Option V) → IsLast last old
        → IsCall keys weighs old call reply new → IsLast (called_by keys.eq key call reply last) new
    call_last old new (Insert k value now) reply last h call =
        let then = written_by keys.eq key (event.Insert CALLER k value now) reply last in
        insert_keeps (Happens keys weighs) Decides has_pending CALLER (IsLast then) (inner_last then) (decided_last then) now reply
        call.next new (step_last old call.next (event.Insert CALLER k value now) reply last h call.first) call.follows
    call_last old new (Get k now) reply last h call =
        get_keeps (Happens keys weighs) Decides has_pending CALLER (IsLast last) (inner_last last) (decided_last last) now reply true
        call.next new (step_last old call.next (event.Get CALLER k now) reply last h call.first) call.follows
    call_last old new (Contains k now) reply last h step = step_last old new (event.Contains k now) reply last h step
    call_last old new (Invalidate k now) reply last h (word, call) =
        pending_keeps (Happens keys weighs) Decides has_pending CALLER (IsLast last) (inner_last last) (decided_last last)
        (has_pending call.next) now call.next new
        (step_last old call.next (event.Invalidate CALLER k now) Done last h call.first) call.follows
    call_last old new (Remove k now) reply last h call =
        remove_keeps (Happens keys weighs) Decides has_pending CALLER (IsLast last) (inner_last last) (decided_last last) now reply
        call.next new (step_last old call.next (event.Take CALLER k now) reply last h call.first) call.follows
    call_last old new (InvalidateAll now) reply last h step = step_last old new (event.InvalidateAll now) reply last h step
    call_last old new (Sync now) reply last h call =
        maintenance_keeps (Happens keys weighs) Decides has_pending CALLER (IsLast last) (inner_last last) (decided_last last) now old new
        h call.1
    call_last old new Counts reply last h call = subst (IsLast last) (sym call.1) h

    replay_last : (old new : Core) (calls : List (Call K V × Reply K V)) (last : Option V) → IsLast last old
        → Replays keys weighs old calls new → IsLast (last_called keys.eq key calls last) new
    replay_last old new [] last h is = subst (IsLast last) (sym is) h
    replay_last old new (c ∷ cs) last h run =
        replay_last run.0 new cs (called_by keys.eq key c.0 c.1 last) (call_last old run.0 c.0 c.1 last h run.1) run.2

  pub calls_keep_last_written : CallsKeepLastWritten keys weighs
  calls_keep_last_written old new calls key value good run found =
      (replay_last key old new calls (value_at keys.eq key old) (record { good = good; holds = λ v is. is }) run).holds value found

  pub calls_get_live : CallsGetLive keys weighs
  calls_get_live old new key now found call =
      gets_live_value keys laws old call.next CALLER key now call.first.weight call.first.refused found call.first.step

  pub calls_remove_live : CallsRemoveLive keys weighs
  calls_remove_live old new key now found call =
      takes_live_value keys laws old call.next CALLER key now call.first.weight call.first.refused found call.first.step

  -- ---- what an accepted insert leaves

  module _ (old new : Core) (key : K) (value : V) (weight : ℕ) (weighed : weighs key value weight) where
    -- an entry of the value, with that weight
    abbrev Stands : Type 0
    Stands = (e : Entry K V) × (entry_at keys.eq key new.entries ≡ Some e) × (e.value ≡ value) × weighs key value e.weight

    stands_updated : (now : ℕ) (e : Entry K V) → entry_at keys.eq key old.entries ≡ Some e
        → new.entries ≡ changed (λ x. x.ticket) e.ticket (updated value weight now) old.entries → Stands
    stands_updated now e found is = (
      updated value weight now e,
      ap (entry_at keys.eq key) is
          ∙ find-changed (λ x. keys.eq key x.key) (λ x. same_ticket e.ticket x.ticket) (updated value weight now) (λ x. refl) old.entries
          ∙ ap (option_map (λ (x : Entry K V). cond (same_ticket e.ticket x.ticket) (updated value weight now x) x)) found
          ∙ ap (λ b. Some (cond b (updated value weight now e) e)) (same_self e.ticket),
      refl,
      weighed,
    )

    stands_added : (now : ℕ) → entry_at keys.eq key old.entries ≡ None
        → AddsEntry old.entries (fresh_entry keys old key value weight now) new.entries → Stands
    stands_added now none adds = (
      fresh_entry keys old key value weight now,
      ap (entry_at keys.eq key) adds.is
          ∙ find-added (λ x. keys.eq key x.key) adds.before adds.behind (fresh_entry keys old key value weight now) (laws.refl key)
          (ap (entry_at keys.eq key) (sym adds.was) ∙ none),
      refl,
      weighed,
    )

  pub accepts_weighed : AcceptsWeighed keys weighs
  accepts_weighed old new caller key value now h =
      by (step_forms keys old new Done h.weight h.refused (event.Insert caller key value now) h.step)
    where
      by : StepForm keys old (event.Insert caller key value now) h.weight h.refused Done new → Stands old new key value h.weight h.weighed
      by (Same quiet is) = absurd quiet
      by (Queued quiet queue) = absurd quiet
      by (Updated caller' free key' value' now' e on word found is) =
          let one : key' ≡ key = cc in
          let two : value' ≡ value = cc in
          stands_updated old new key value h.weight h.weighed now' e (ap (λ k. entry_at keys.eq k old.entries) (sym one) ∙ found)
          (ap (λ c. c.entries) is ∙ ap (λ v. changed (λ x. x.ticket) e.ticket (updated v h.weight now') old.entries) two)
      by (Added caller' free key' value' now' on word none a) =
          let one : key' ≡ key = cc in
          let two : value' ≡ value = cc in
          stands_added old new key value h.weight h.weighed now' (ap (λ k. entry_at keys.eq k old.entries) (sym one) ∙ none)
          (subst (λ es. AddsEntry old.entries (fresh_entry keys old key value h.weight now') es) (ap (λ c. c.entries) (sym a.3))
          (subst (λ v. AddsEntry old.entries (fresh_entry keys old key v h.weight now') a.0) two
          (subst (λ k. AddsEntry old.entries (fresh_entry keys old k value' h.weight now') a.0) one a.1)))
      by (Removed caller' free key' e (AsInvalidated now' on word) found is) = absurd (cc)
      by (Removed caller' free key' e (AsTaken now' taken on word) found is) = absurd (cc)
      by (WasAbsent caller' key' (AsInvalidated now' on word) none is) = absurd (cc)
      by (WasAbsent caller' key' (AsTaken now' taken on word) none is) = absurd (cc)
      by (Invalidated now' on is) = absurd (cc)
      by (Begun now' quiet idle is) = absurd quiet
      by (Turned on busy is) = absurd (cc)
