-- That a cache with room above its limit refuses nothing.
use Rattle.std.proofs.Common.{◌≡◌, ◌≢◌, ◌∙◌, ◌<◌, ◌≤◌, ℕ, Bool, true, false, cond, List, [], ◌∷◌, is_some, length}
use Rattle.std.proofs.Common.{Option, Some, None, inl, inr, refl, sym, ap, subst, arith}
use Rattle.std.specs.Cmp.{IsEquivalence}
use Rattle.std.specs.List.{AllByRecursion}
use Rattle.std.proofs.lemmas.List.Elements.{All-from_recursion, recursion_from_All}
use Rattle.moka_common.specs.Keys.{Keys}
use Rattle.moka_common.specs.Settings.{keeps_writes}
use Rattle.moka_unsync_model.specs.declared.entry.Entry.{Entry}
use Rattle.moka_unsync_model.specs.CacheState.{CacheState, new_cache, windowed}
use Rattle.moka_unsync_model.specs.Contents.{entry_at}
use Rattle.moka_unsync_model.specs.Contents.{Contents}
use Rattle.moka_unsync_model.specs.Memory.{Memory}
use Rattle.moka_unsync_model.specs.Insert.{Refused, after_asking, after_entering, after_new, after_put, after_turn, after_verdict, new_entry}
use Rattle.moka_unsync_model.specs.Window.{victims_of}
use Rattle.moka_unsync_model.specs.Lookup.{after_look}
use Rattle.moka_unsync_model.specs.Step.{Answer, IsStep, Request, Runs, Get, Peek, ContainsKey, Miss, Insert, Invalidate, Remove, InvalidateAll}
use Rattle.moka_unsync_model.specs.Step.{InvalidateEntriesIf, Iterate, EntryCount, WeightedSize, Done, OutOfMemory}
use Rattle.moka_unsync_model.specs.Laws.{NeverRefuses}
use Rattle.moka_unsync_model.proofs.LimitLemmas.{IsWithin, total-ones, within_step}
use Rattle.moka_unsync_model.specs.declared.shares.PartLimits.{PartLimits}

module _ {K V S W : Type 0} (eq : K → K → Bool) where
  -- an entry that is put leaves the capacity
  capacity-put : (cache : CacheState K V S W) (o : Option (Entry K V)) (new : Entry K V) (refused : Refused)
      → (after_put eq cache o new refused).capacity ≡ cache.capacity
  capacity-put cache None new refused = capacity-new (windowed cache)
    where
      by : (gone : Option (List (Entry K V))) → (after_verdict eq cache new gone refused).capacity ≡ cache.capacity
      by None = refl
      by (Some victims) = refl

      standing : (b : Bool) (left : CacheState K V S W) → left.capacity ≡ cache.capacity
          → (cond b (after_asking eq refused left) left).capacity ≡ cache.capacity
      standing true left same = same
      standing false left same = same

      turning : (memory : Option Memory) (limit : PartLimits) (contents : Contents K V)
          → (after_turn eq cache memory limit new contents).capacity ≡ cache.capacity
      turning None limit contents = refl
      turning (Some memory) limit contents = refl

      capacity-new : (limit : Option PartLimits) → (after_new eq cache limit new refused).capacity ≡ cache.capacity
      capacity-new None = by (victims_of cache.settings.policy.max_capacity cache.sketch new cache.contents.entries)
      capacity-new (Some limit) =
          let contents = after_entering eq (keeps_writes cache.settings.policy) limit cache.sketch new cache.contents in
          let next = after_turn eq cache cache.memory limit new contents in
          standing (is_some (entry_at eq new.key next.contents.entries)) next (turning cache.memory limit contents)
  capacity-put cache (Some old) new refused = refl

module _ {K V S W : Type 0} (keys : Keys K S) (weighs : W → K → V → ℕ → W → Type 0) where
  -- a call that finds room is answered, and leaves the capacity
  record IsServed (old new : CacheState K V S W) (answer : Answer K V) : Type 0 where
    given : answer ≢ OutOfMemory
    capacity : new.capacity ≡ old.capacity

  served : (old new meant : CacheState K V S W) (answer reply : Answer K V) → reply ≢ OutOfMemory → answer ≡ reply → new ≡ meant
      → meant.capacity ≡ old.capacity → IsServed old new answer
  served old new meant answer reply given is same kept =
      record { given = λ refused. given (sym is ∙ refused); capacity = ap (λ c. c.capacity) same ∙ kept }

  served_step : (old new : CacheState K V S W) (request : Request K V) (answer : Answer K V) → length old.contents.entries < old.capacity
      → IsStep keys weighs old request answer new → IsServed old new answer
  served_step old new (Get key now) answer room step = served old new _ answer _ (λ e. (cc)) step.0 step.1 refl
  served_step old new (Peek key now) answer room step = served old new old answer _ (λ e. (cc)) step.0 step.1 refl
  served_step old new (ContainsKey key now) answer room step = served old new _ answer _ (λ e. (cc)) step.0 step.1 refl
  served_step old new (Miss hash now) answer room step = served old new _ answer _ (λ e. (cc)) step.0 step.1 refl
  served_step old new (Insert key value own now) answer room (inl step) =
      let done = step.1 in
      let kept = (after_look keys old now).contents in
      let entry = new_entry keys old.settings key value done.weight own now in
      served old new _ answer Done (λ e. (cc)) step.0 done.step
      (capacity-put keys.eq (record old { weigher = done.weigher; capacity = done.capacity; contents = kept })
      (entry_at keys.eq key kept.entries)
      entry done.refused ∙ done.kept room)
  served_step old new (Insert key value own now) answer room (inr step) =
      let full : old.capacity ≤ length old.contents.entries = step.1.full in absurd (omega arith)
  served_step old new (Invalidate key now) answer room step = served old new _ answer Done (λ e. (cc)) step.0 step.1 refl
  served_step old new (Remove key now) answer room step = served old new _ answer _ (λ e. (cc)) step.0 step.1 refl
  served_step old new InvalidateAll answer room step = served old new _ answer Done (λ e. (cc)) step.0 step.1 refl
  served_step old new (InvalidateEntriesIf answers) answer room step = served old new _ answer Done (λ e. (cc)) step.0.0 step.1 refl
  served_step old new (Iterate now) answer room step = served old new old answer _ (λ e. (cc)) step.0 step.1 refl
  served_step old new EntryCount answer room step = served old new old answer _ (λ e. (cc)) step.0 step.1 refl
  served_step old new WeightedSize answer room step = served old new old answer _ (λ e. (cc)) step.0 step.1 refl

  module _ (laws : IsEquivalence keys.eq)
      (each : (old new : W) (key : K) (value : V) (weight : ℕ) → weighs old key value weight new → weight ≡ 1) (limit : ℕ) where
    -- entries of weight 1 within the limit are no more than that
    few : (cache : CacheState K V S W) → IsWithin keys laws weighs each limit cache → length cache.contents.entries ≤ limit
    few cache within =
        subst (λ n. n ≤ limit)
        (total-ones cache.contents.entries (recursion_from_All (λ e. e.weight ≡ 1) cache.contents.entries within.ones)) within.fits

    served_run : (old new : CacheState K V S W) (requests : List (Request K V)) (answers : List (Answer K V))
        → IsWithin keys laws weighs each limit old
        → limit < old.capacity → Runs keys weighs old requests answers new
        → AllByRecursion (λ answer. answer ≢ OutOfMemory) answers × (new.capacity ≡ old.capacity)
    served_run old new [] answers within room run =
        (subst (AllByRecursion (λ answer. answer ≢ OutOfMemory)) (sym run.0) tt, ap (λ c. c.capacity) run.1)
    served_run old new (request ∷ requests) answers within room (answer, rest, next, is, step, run) =
        let fits : length old.contents.entries < old.capacity = omega (arith, few old within, room) in
        let done = served_step old next request answer fits step in
        let later = served_run next new requests rest (within_step keys laws weighs each limit old next request answer within step)
        (subst (λ n. limit < n) (sym done.capacity) room) run in (
          subst (AllByRecursion (λ answer. answer ≢ OutOfMemory)) (sym is) (done.given, later.0),
          later.1 ∙ done.capacity,
        )

pub never_refuses : {K V S W : Type 0} (keys : Keys K S) → IsEquivalence keys.eq → (weighs : W → K → V → ℕ → W → Type 0)
    → NeverRefuses keys weighs
never_refuses keys laws weighs each settings shares weigher capacity limit requests answers cache has room run =
    served_run keys weighs laws each limit (new_cache settings shares weigher capacity) cache requests answers
    (record { has = has; ones = All-from_recursion (λ e. e.weight ≡ 1) [] tt; fits = omega arith }) room run
