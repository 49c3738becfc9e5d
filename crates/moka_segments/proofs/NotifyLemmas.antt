-- What a visit tells a listener, where it stands in the history.
use Rattle.std.proofs.Common.{◌≡◌, ◌≢◌, ℕ, zero, suc, ◌+◌, ◌<◌, ◌∙◌, [], ◌∷◌, Some, Result, Ok, Err, OnOk, OnErr, ap, arith, refl, subst, sym}
use Rattle.moka_common.specs.declared.error.InsertError.{InsertError}
use Rattle.moka_common.specs.Keys.{Keys}
use Rattle.moka_unsync_model.specs.declared.listener.Cause.{Cause}
use Rattle.moka_unsync_model.specs.CacheState.{CacheState}
use Rattle.moka_unsync_model.specs.History.{Transition}
use Rattle.moka_unsync_model.specs.ToldCalls.{TellsInsert}
use Rattle.atomic_table.specs.Table.{Me}
use Rattle.moka_segments.specs.declared.plan.Plan.{Plan}
use Rattle.moka_segments.specs.Plan.{place_of}
use Rattle.moka_segments.specs.Rules.{Rules}
use Rattle.moka_row.specs.Visits.{Lists, after_visit, at}
use Rattle.moka_segments.specs.History.{Knows, Log, Visit}
use Rattle.moka_segments.specs.Calls.{SameIn}
use Rattle.moka_segments.specs.Tells.{answer_of}
use Rattle.moka_segments.specs.Notifying.{TellsAt, TellsCall, TellsEach, TellsEachSwept, TellsInserted, TellsLast, TellsSwept, TellsSweptLast, TellsVisit}
use Rattle.moka_segments.proofs.CallLemmas.{Called}
use Rattle.moka_row.proofs.Rules.{put_here}

module _ {L K V S W : Type 0} (hears : L → K → V → Cause → L → Type 0) (keys : Keys K S) where
  -- what an insert tells, by its result
  pub insert_tells : (old new : CacheState K V S W) (key : K) (value : V) (now : ℕ) (r : Result (Unit {0}) InsertError) (before after : L)
      → OnOk r (TellsInsert hears keys old now key value new before after) → OnErr r (after ≡ before)
      → TellsInserted hears keys old key value now (answer_of r) new before after
  insert_tells old new key value now (Ok done) before after told untold = told
  insert_tells old new key value now (Err error) before after told untold = untold

  -- what was told of some segments is told where their histories are the same
  each_same : (count : ℕ) (seen other : Lists (ℕ × Visit K V S W)) (before after : L) → ((j : ℕ) → j < count → at other j ≡ at seen j)
      → TellsEach hears keys seen count before after → TellsEach hears keys other count before after
  each_same zero seen other before after same told = told
  each_same (suc count) seen other before after same told = (
    told.0,
    each_same count seen other before told.0 (λ j lt. same j (omega arith)) told.1,
    subst (λ (l : Log K V S W). TellsLast hears keys l told.0 after) (sym (same count (omega arith))) told.2,
  )

  -- one segment more tells
  pub one_more_tells : (count : ℕ) (u w : Knows K V S W) (before between after : L) → TellsEach hears keys u.seen count before between
      → ((j : ℕ) → j ≢ count → SameIn u j w) → TellsLast hears keys (at w.seen count) between after → TellsEach hears keys w.seen (count + 1) before after
  one_more_tells count u w before between after told others last =
      let next : suc count ≡ count + 1 = omega arith in
      subst (λ n. TellsEach hears keys w.seen n before after) next
      (between, each_same count u.seen w.seen before between (λ j lt. (others j (λ e. omega arith)).0) told, last)

  -- what was told of the expired of some segments is told where their histories are the same
  each_same_swept : (now count : ℕ) (seen other : Lists (ℕ × Visit K V S W)) (before after : L) → ((j : ℕ) → j < count → at other j ≡ at seen j)
      → TellsEachSwept hears keys now seen count before after → TellsEachSwept hears keys now other count before after
  each_same_swept now zero seen other before after same told = told
  each_same_swept now (suc count) seen other before after same told = (
    told.0,
    each_same_swept now count seen other before told.0 (λ j lt. same j (omega arith)) told.1,
    subst (λ (l : Log K V S W). TellsSweptLast hears keys now l told.0 after) (sym (same count (omega arith))) told.2,
  )

  -- one segment more tells of them
  pub one_more_swept : (now count : ℕ) (u w : Knows K V S W) (before between after : L) → TellsEachSwept hears keys now u.seen count before between
      → ((j : ℕ) → j ≢ count → SameIn u j w) → TellsSweptLast hears keys now (at w.seen count) between after
      → TellsEachSwept hears keys now w.seen (count + 1) before after
  one_more_swept now count u w before between after told others last =
      let next : suc count ≡ count + 1 = omega arith in
      subst (λ n. TellsEachSwept hears keys now w.seen n before after) next
      (between, each_same_swept now count u.seen w.seen before between (λ j lt. (others j (λ e. omega arith)).0) told, last)

module _ {L K V S W : Type 0} (hears : L → K → V → Cause → L → Type 0) {keys : Keys K S} {weighs : W → K → V → ℕ → W → Type 0} {rules : Rules K V}
    {ready : W → Type 0}
    {plan : Plan S} {i : ℕ} {v : Knows K V S W} {u : Me (CacheState K V S W) (Knows K V S W)} {before after : CacheState K V S W} where
  -- a removal of the expired that was noted stands last
  pub swept_tells : {call : Transition K V S W} {entry : Visit K V S W} (now : ℕ) (w : Me (CacheState K V S W) (Knows K V S W)) (old new : L)
      → Called keys weighs rules ready plan i v u before after (call ∷ []) entry → w ≡ (after_visit i (Some entry) u.0, [])
      → TellsSwept hears keys now (call ∷ []) old new → TellsSweptLast hears keys now (at w.0.seen i) old new
  swept_tells {entry = entry} now w old new d left tells =
      subst (λ (l : Log K V S W). TellsSweptLast hears keys now l old new)
      (sym (ap (λ (m : Me (CacheState K V S W) (Knows K V S W)). at m.0.seen i) left
      ∙ (put_here u.0.seen i ((u.0.by, entry) ∷ at u.0.seen i) ∙ ap (λ x. (u.0.by, x) ∷ at u.0.seen i) d.noted)))
      tells

  -- a visit that was noted stands last
  pub visit_tells : {visit entry : Visit K V S W} (w : Me (CacheState K V S W) (Knows K V S W)) (old new : L)
      → Called keys weighs rules ready plan i v u before after visit entry
      → w ≡ (after_visit i (Some entry) u.0, []) → TellsVisit hears keys visit old new → TellsLast hears keys (at w.0.seen i) old new
  visit_tells {visit = visit} {entry = entry} w old new d left tells =
      subst (λ (l : Log K V S W). TellsLast hears keys l old new)
      (sym (ap (λ (m : Me (CacheState K V S W) (Knows K V S W)). at m.0.seen i) left
      ∙ (put_here u.0.seen i ((u.0.by, entry) ∷ at u.0.seen i) ∙ ap (λ x. (u.0.by, x) ∷ at u.0.seen i) d.noted)))
      tells

  -- and so does one of a single call
  pub call_tells : {call : Transition K V S W} {entry : Visit K V S W} (w : Me (CacheState K V S W) (Knows K V S W)) (old new : L)
      → Called keys weighs rules ready plan i v u before after (call ∷ []) entry → w ≡ (after_visit i (Some entry) u.0, [])
      → TellsCall hears keys call.before call.request call.answer call.after old new → TellsLast hears keys (at w.0.seen i) old new
  call_tells w old new d left tells = visit_tells w old new d left (old, refl, tells)

  -- in the segment of its key
  pub key_tells : {call : Transition K V S W} {entry : Visit K V S W} (w : Me (CacheState K V S W) (Knows K V S W)) (key : K) (old new : L)
      → place_of plan keys key ≡ i
      → Called keys weighs rules ready plan i v u before after (call ∷ []) entry → w ≡ (after_visit i (Some entry) u.0, [])
      → TellsCall hears keys call.before call.request call.answer call.after old new → TellsAt hears keys plan key w.0 old new
  key_tells w key old new place d left tells =
      record { last = subst (λ j. TellsLast hears keys (at w.0.seen j) old new) (sym place) (call_tells w old new d left tells) }
