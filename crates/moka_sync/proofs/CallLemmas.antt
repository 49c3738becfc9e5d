-- What whole calls tell of the history of the key's shard.
use Rattle.std.proofs.Common.{◌≡◌, ◌∙◌, ◌⊎◌, ℕ, Bool, true, false, List, Option, Some, None, Result, Ok, Err, inl, inr, ap, refl, subst, sym}
use Rattle.std.specs.Cmp.{IsEquivalence}
use Rattle.moka_common.specs.Keys.{Keys}
use Rattle.moka_common.specs.declared.error.InsertError.{InsertError}
use Rattle.moka_common.specs.declared.error.InsertError.TheVariants as refused
use Rattle.moka_common.specs.declared.error.OutOfMemory.{OutOfMemory as MemoryError}
use Rattle.moka_sync_model.specs.declared.constants.TheConstants.{CALLER}
use Rattle.moka_sync_model.specs.declared.event.Event.TheVariants.{Contains, Insert, InvalidateAll, Push}
use Rattle.moka_sync_model.specs.declared.event.Reply.TheVariants as reply
use Rattle.moka_sync_model.specs.declared.ticket.Ticket.{Ticket}
use Rattle.moka_sync_model.specs.Steps.{AnswersGet, AnswersRemove, insert_reply, pends_by}
use Rattle.moka_sync_model.specs.WholeCall.{Log, OfReads, OfWrites, CallsContains, CallsInsert, CallsInvalidate, CallsInvalidateAll, MaintainsIf}
use Rattle.moka_sync_model.specs.WholeCall.{MaintainsIfDue}
use Rattle.moka_sync_model.specs.WholeCall.{PushesIf, PushesRead, PushesWrite, Pushed, WasFull, Turns, LastTurn, NextTurn}
use Rattle.moka_history.specs.Steps.{Invalidates}
use Rattle.moka_locks.specs.History.{Knows, Makes, place_of}
use Rattle.moka_locks.specs.Cache.{Cache}
use Rattle.moka_locks.specs.Moments.{Appends, GoesOn, latest}
use Rattle.moka_locks.specs.Locked.{Locked, informed_as, knowing, locked_allows, locked_caller, locked_decides, removing, resting_at}
use Rattle.moka_locks.specs.Tells.{Gets, Inserts, Looks, Removes}
use Rattle.moka_locks.proofs.TellLemmas.{entered, gets, looks, removes}

-- the cache, what the caller knows of it, and the moments that it has seen
abbrev held : {K V S W : Type 0} → Locked K V S W → Cache S W × Knows K V S × List ℕ
held l = (l.cache, l.knows, l.moments)

module _ {K V S W : Type 0} (keys : Keys K S) (holds : K → V → Type 0) (weighs : W → K → V → ℕ → Type 0) where
  -- what follows the first step of a call: turns of a maintenance, which visit as guests of their own, and pushes. So the caller knows what it knew.
  turns_stay : (a b : Locked K V S W) → Turns (locked_allows keys holds weighs) locked_decides (pends_by locked_caller) CALLER a b → held b ≡ held a
  turns_stay a b (LastTurn _ _ (w, next, had, turn, at, is)) = ap held is
  turns_stay a c (NextTurn _ b _ phase goes_on (w, next, had, turn, at, is) others) = turns_stay b c others ∙ ap held is

  due_stays : (log : Log) (now : ℕ) (a b : Locked K V S W)
      → MaintainsIfDue (locked_allows keys holds weighs) locked_decides (pends_by locked_caller) CALLER log now a b → held b ≡ held a
  due_stays log now a b due = by due.runs due.maintains ∙ ap held due.decision
    where
      by : (runs : Bool) → MaintainsIf (locked_allows keys holds weighs) locked_decides (pends_by locked_caller) CALLER runs now due.decided b
          → held b ≡ held due.decided
      by true maintains = turns_stay maintains.begun b maintains.turns ∙ ap held maintains.begins.2
      by false same = ap held same

  read_stays : (now : ℕ) (a b : Locked K V S W)
      → PushesRead (locked_allows keys holds weighs) locked_decides (pends_by locked_caller) CALLER now a b → held b ≡ held a
  read_stays now a b push = by push.pushes ∙ due_stays OfReads now a push.next push.maintains
    where
      by : locked_allows keys holds weighs push.next (Push CALLER) reply.Done b ⊎ locked_allows keys holds weighs push.next (Push CALLER) reply.Discarded b
          → held b ≡ held push.next
      by (inl is) = ap held is
      by (inr (read, is)) = ap held is

  write_stays : (now : ℕ) (a b : Locked K V S W)
      → PushesWrite (locked_allows keys holds weighs) locked_decides (pends_by locked_caller) CALLER now a b → held b ≡ held a
  write_stays now a c (Pushed _ b _ due is) = ap held is ∙ due_stays OfWrites now a b due
  write_stays now a d (WasFull _ b c _ due (write, is) others) = write_stays now c d others ∙ (ap held is ∙ due_stays OfWrites now a b due)

  push_stays : (pushes : Bool) (now : ℕ) (a b : Locked K V S W)
      → PushesIf (locked_allows keys holds weighs) locked_decides (pends_by locked_caller) CALLER pushes now a b → held b ≡ held a
  push_stays true now a b push = write_stays now a b push
  push_stays false now a b same = ap held same

  -- an invalidation of all adds its moment, and changes nothing else that is known
  pub invalidate_all_tells : (cache : Cache S W) (knows : Knows K V S) (moments : List ℕ) (start new : Locked K V S W) → start ≡ resting_at cache knows moments
      → (now : ℕ) → CallsInvalidateAll (locked_allows keys holds weighs) locked_decides (pends_by locked_caller) CALLER now reply.Done start new
      → (new.cache ≡ cache) × (new.knows ≡ knows) × Appends moments now new.moments
  invalidate_all_tells cache knows moments start new starts now call =
      let did = subst (λ l. locked_allows keys holds weighs l (InvalidateAll now) reply.Done new) starts call in
      (ap (λ l. l.cache) did.1, ap (λ l. l.knows) did.1, did.0)

  module _ (laws : IsEquivalence keys.eq) (cache : Cache S W) (knows : Knows K V S) (moments : List ℕ) (start new : Locked K V S W)
      (starts : start ≡ resting_at cache knows moments) (key : K) (now : ℕ) where
    -- the same cache, and what holds of what was known and seen after the first step
    abbrev Tells : (Knows K V S → List ℕ → Type 0) → Type 0
    Tells P = (new.cache ≡ cache) × P new.knows new.moments

    stayed : (next : Locked K V S W) (P : Knows K V S → List ℕ → Type 0) → held new ≡ held next → next.cache ≡ cache → P next.knows next.moments → Tells P
    stayed next P stays same p = (ap (λ h. h.0) stays ∙ same, subst (λ (h : Cache S W × Knows K V S × List ℕ). P h.1 h.2) (sym stays) p)

    -- what a get tells, by the moments that were seen then
    abbrev GetTells : (V → V → Type 0) → Result (Option V) MemoryError → Knows K V S → List ℕ → Type 0
    GetTells is_clone result k seen = Gets keys cache.settings is_clone knows key now (latest seen) result k × GoesOn moments seen

    pub get_tells : (is_clone : V → V → Type 0) (is_sure : V → Type 0) (result : Result (Option V) MemoryError)
        → AnswersGet (locked_allows keys holds weighs) locked_decides locked_caller is_clone is_sure key now result start new
        → (new.cache ≡ cache) × (Gets keys cache.settings is_clone knows key now (latest new.moments) result new.knows × GoesOn moments new.moments)
    get_tells is_clone is_sure result call =
        by result (subst (λ l. AnswersGet (locked_allows keys holds weighs) locked_decides locked_caller is_clone is_sure key now result l new) starts call)
      where
        by : (r : Result (Option V) MemoryError)
            → AnswersGet (locked_allows keys holds weighs) locked_decides locked_caller is_clone is_sure key now r (resting_at cache knows moments) new
            → Tells (GetTells is_clone r)
        by (Ok None) call =
            let does = call.first.0 in
            stayed call.next (GetTells is_clone (Ok None)) (read_stays now call.next new call.follows) (ap (λ l. l.cache) call.first.1)
            (gets keys laws cache.settings {found = None} refl does.0, does.1)
        by (Ok (Some copy)) (value, clone, call) =
            let does = call.first.1.1 in
            stayed call.next (GetTells is_clone (Ok (Some copy))) (read_stays now call.next new call.follows) (ap (λ l. l.cache) call.first.1.2)
            (gets keys laws cache.settings {found = Some (value, call.first.1.0)} (value, refl, clone) does.0, does.1)
        by (Err error) (inl call) =
            let found = call.first.0.0 in
            let does = call.first.0.1 in
            stayed call.next (GetTells is_clone (Err error)) (ap held call.follows) (ap (λ l. l.cache) call.first.1)
            (gets keys laws cache.settings {found = Some found} (found.0, refl) does.0, does.1)
        by (Err error) (inr (value, unsure, call)) =
            let does = call.first.1.1 in
            stayed call.next (GetTells is_clone (Err error)) (ap held call.follows) (ap (λ l. l.cache) call.first.1.2)
            (gets keys laws cache.settings {found = Some (value, call.first.1.0)} (value, refl) does.0, does.1)

    pub look_tells : (there : Bool)
        → CallsContains (locked_allows keys holds weighs) locked_decides (pends_by locked_caller) CALLER key now (reply.Bool there) start new
        → (new.cache ≡ cache) × (Looks keys cache.settings knows key now (latest new.moments) there new.knows × GoesOn moments new.moments)
    look_tells there call =
        let did = subst (λ l. locked_allows keys holds weighs l (Contains key now) (reply.Bool there) new) starts call in
        (ap (λ l. l.cache) did.1, (looks keys laws cache.settings did.0.0, did.0.1))

    -- what an insert tells: no moment is looked at
    abbrev InsertTells : V → Result (Unit {0}) InsertError → Knows K V S → List ℕ → Type 0
    InsertTells value result k seen = Inserts keys cache.settings (weighs cache.weigher) knows key value now result k × (seen ≡ moments)

    pub insert_tells : (value : V) (result : Result (Unit {0}) InsertError)
        → CallsInsert (locked_allows keys holds weighs) locked_decides (pends_by locked_caller) CALLER key value now (insert_reply result) start new
        → (new.cache ≡ cache) × (Inserts keys cache.settings (weighs cache.weigher) knows key value now result new.knows × (new.moments ≡ moments))
    insert_tells value result call =
        by result (subst (λ l. CallsInsert (locked_allows keys holds weighs) locked_decides (pends_by locked_caller) CALLER key value now
        (insert_reply result) l new) starts call)
      where
        by : (r : Result (Unit {0}) InsertError)
            → CallsInsert (locked_allows keys holds weighs) locked_decides (pends_by locked_caller) CALLER key value now (insert_reply r)
            (resting_at cache knows moments) new
            → Tells (InsertTells value r)
        by (Ok done) call =
            stayed call.next (InsertTells value (Ok done)) (write_stays now call.next new call.follows) (ap (λ l. l.cache) call.first.2)
            ((call.first.0, call.first.1, entered keys laws cache.settings call.first.1), ap (λ l. l.moments) call.first.2)
        by (Err refused.OutOfMemory) call = first call.first
          where
            first : locked_allows keys holds weighs (resting_at cache knows moments) (Insert CALLER key value now) reply.OutOfMemory call.next
                → Tells (InsertTells value (Err refused.OutOfMemory))
            first (inl same) =
                stayed call.next (InsertTells value (Err refused.OutOfMemory)) (ap held call.follows) (ap (λ l. l.cache) same)
                (inl (ap (λ l. l.knows) same), ap (λ l. l.moments) same)
            first (inr put) =
                stayed call.next (InsertTells value (Err refused.OutOfMemory)) (ap held call.follows) (ap (λ l. l.cache) put.1)
                (inr put.0, ap (λ l. l.moments) put.1)
        by (Err refused.TicketsUsedUp) call =
            stayed call.next (InsertTells value (Err refused.TicketsUsedUp)) (ap held call.follows) (ap (λ l. l.cache) call.first.1)
            (inr call.first.0, ap (λ l. l.moments) call.first.1)

    removing_held : (left : Option Ticket) (l : Locked K V S W) → held (removing left l) ≡ held l
    removing_held None l = refl
    removing_held (Some t) l = refl

    pub invalidate_tells : CallsInvalidate (locked_allows keys holds weighs) locked_decides (pends_by locked_caller) CALLER key now reply.Done start new
        → (new.cache ≡ cache)
        × (((left : Option Ticket) × Makes keys cache.settings knows (place_of keys cache.settings key) (Invalidates key left) new.knows)
        × (new.moments ≡ moments))
    invalidate_tells call =
        let c = (subst (λ l. CallsInvalidate (locked_allows keys holds weighs) locked_decides (pends_by locked_caller) CALLER key now reply.Done l new) starts
        call).1 in
        let same = ap held c.first.2 ∙ removing_held c.first.0 (knowing c.next.knows (resting_at cache knows moments)) in
        stayed c.next (λ k seen. ((left : Option Ticket) × Makes keys cache.settings knows (place_of keys cache.settings key) (Invalidates key left) k)
        × (seen ≡ moments)) (push_stays (pends_by locked_caller c.next) now c.next new c.follows) (ap (λ h. h.0) same)
        ((c.first.0, c.first.1), ap (λ h. h.2) same)

    -- what a removal tells
    abbrev RemoveTells : (V → V → Type 0) → Result (Option V) MemoryError → Knows K V S → List ℕ → Type 0
    RemoveTells is_clone result k seen = Removes keys cache.settings is_clone knows key now (latest seen) result k × GoesOn moments seen

    pub remove_tells : (is_clone : V → V → Type 0) (is_sure : V → Type 0) (result : Result (Option V) MemoryError)
        → AnswersRemove (locked_allows keys holds weighs) locked_decides locked_caller is_clone is_sure key now result start new
        → (new.cache ≡ cache) × (Removes keys cache.settings is_clone knows key now (latest new.moments) result new.knows × GoesOn moments new.moments)
    remove_tells is_clone is_sure result call =
        by result (subst (λ l. AnswersRemove (locked_allows keys holds weighs) locked_decides locked_caller is_clone is_sure key now result l new) starts call)
      where
        by : (r : Result (Option V) MemoryError)
            → AnswersRemove (locked_allows keys holds weighs) locked_decides locked_caller is_clone is_sure key now r (resting_at cache knows moments) new
            → Tells (RemoveTells is_clone r)
        by (Ok handed) (found, is_handed, call) =
            let taken = call.first.1 in
            let does = taken.1 in
            let same = ap held taken.2 ∙ removing_held taken.0 (informed_as call.next (resting_at cache knows moments)) in
            stayed call.next (RemoveTells is_clone (Ok handed)) (push_stays (pends_by locked_caller call.next) now call.next new call.follows)
            (ap (λ h. h.0) same) ((found, taken.0, is_handed, does.0, removes keys laws cache.settings does.0), does.1)
        by (Err error) (unsure, call) =
            let refused = call.first.0 in
            let does = refused.1 in
            stayed call.next (RemoveTells is_clone (Err error)) (ap held call.follows) (ap (λ l. l.cache) call.first.1) ((refused.0, does.0), does.1)
