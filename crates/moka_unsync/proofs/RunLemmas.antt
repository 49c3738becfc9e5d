-- Lemmas on calls as data.
use Rattle.std.proofs.Common.{◌≡◌, ◌∙◌, ◌++◌, ℕ, Bool, true, false, List, [], ◌∷◌, Some, None, inl, inr, refl, subst, sym, ap}
use Rattle.std.specs.Cmp.{IsEquivalence}
use Rattle.std.specs.Duration.{as_nanos}
use Rattle.std.specs.declared.rc.Rc.{Rc}
use Rattle.std.specs.declared.time.Duration.{Duration}
use Rattle.moka_common.specs.Keys.{Keys}
use Rattle.moka_unsync.specs.declared.runs.Call.{Call}
use Rattle.moka_unsync.specs.declared.runs.Call.TheVariants.{GetOrInsert, InsertWithTimeToLive, Modify, RemoveExpired}
use Rattle.moka_unsync.specs.declared.runs.Reply.{Reply}
use Rattle.moka_unsync.specs.declared.runs.Reply.TheVariants as reply
use Rattle.moka_unsync_model.proofs.GetOrInsertLemmas.{gets_or_inserts, modifications}
use Rattle.moka_unsync_model.proofs.RemainLemmas.{removals_of_expired}
use Rattle.moka_unsync_model.specs.Insert.{Modifies}
use Rattle.moka_unsync_model.specs.Invalidate.{after_remove_expired, expiries}
use Rattle.moka_unsync_model.specs.GetOrInsert.{IsGot, IsPutBehind, IsRefusedBehind}
use Rattle.moka_unsync_model.specs.Lookup.{after_get, found_by_get}
use Rattle.moka_unsync_model.specs.CacheState.{CacheState}
use Rattle.moka_unsync.specs.Runs.{IsServed, Tells, request_of}
use Rattle.moka_unsync_model.specs.Step.{Answer, IsStep, Request, Runs, Get, ContainsKey, Insert, InvalidateEntriesIf, Done, Found, OutOfMemory, Truth}

module _ {K V S W : Type 0} (keys : Keys K S) (weighs : W → K → V → ℕ → W → Type 0) where
  -- one run after another
  pub runs-append : (old mid new : CacheState K V S W) (before later : List (Request K V)) (answers rest : List (Answer K V))
      → Runs keys weighs old before answers mid → Runs keys weighs mid later rest new
      → Runs keys weighs old (before ++ later) (answers ++ rest) new
  runs-append old mid new [] later answers rest (none, is) then =
      subst (λ front. Runs keys weighs old later (front ++ rest) new) (sym none) (subst (λ c. Runs keys weighs c later rest new) is then)
  runs-append old mid new (request ∷ before) later answers rest (answer, more, next, are, step, runs) then = (
    answer,
    more ++ rest,
    next,
    ap (λ front. front ++ rest) are,
    step,
    runs-append next mid new before later more rest runs then,
  )

module _ {K V A S W : Type 0} (keys : Keys K S) (weighs : W → K → Rc V A → ℕ → W → Type 0) (old new : CacheState K (Rc V A) S W)
    (told : Reply V A) where
  -- what a call's reply says of the cache
  abbrev pub Served : Call K V A → Type 0
  Served call = (asked : List (Request K (Rc V A))) × (answers : List (Answer K (Rc V A)))
      × Runs keys weighs old asked answers new × IsServed call asked answers told

  -- a call that is known makes its step
  pub stepped : (call known : Call K V A) (answer : Answer K (Rc V A)) → call ≡ known → IsStep keys weighs old (request_of known) answer new
      → IsServed known (request_of known ∷ []) (answer ∷ []) told → Served call
  stepped call known answer is step serves =
      subst Served (sym is) (request_of known ∷ [], answer ∷ [], (answer, [], new, refl, step, (refl, refl)), serves)

  module _ (call : Call K V A) (key : K) (hand : Rc V A) (now : ℕ) (is : call ≡ GetOrInsert key hand now) where
    -- a get or insert that found a value
    pub got : (value copy : Rc V A) → told ≡ reply.Found (Some copy) → copy.value ≡ value.value → IsGot keys old key now value new → Served call
    got value copy tells same found =
        subst Served (sym is) (
          Get key now ∷ [],
          Found (Some value) ∷ [],
          (gets_or_inserts keys weighs).got old new key value now found,
          inl (Some value, refl, refl, inr (value, refl, (copy, tells, same))),
        )

    -- one that inserted the value at hand
    pub inserted : (value copy : Rc V A) → told ≡ reply.Found (Some copy) → copy.value ≡ value.value → value ≡ hand
        → IsPutBehind keys old key now weighs value new → Served call
    inserted value copy tells same made put =
        subst Served (sym is) (
          Get key now ∷ Insert key hand None now ∷ [],
          Found None ∷ Done ∷ [],
          (gets_or_inserts keys weighs).inserted old new key hand now (subst (λ v. IsPutBehind keys old key now weighs v new) made put),
          inr (refl, inl (refl, (copy, tells, same ∙ ap (λ v. v.value) made))),
        )

    -- one that was refused an owner
    pub unowned : told ≡ reply.OutOfMemory → new ≡ after_get keys old key now → Served call
    unowned tells step =
        subst Served (sym is) (
          Get key now ∷ [],
          Found (found_by_get keys old key now) ∷ [],
          (Found (found_by_get keys old key now), [], new, refl, (refl, step), (refl, refl)),
          inl (found_by_get keys old key now, refl, refl, inl tells),
        )

    -- one that was refused room
    pub unroomed : told ≡ reply.OutOfMemory → IsRefusedBehind keys old key now new → Served call
    unroomed tells refusal =
        subst Served (sym is) (
          Get key now ∷ Insert key hand None now ∷ [],
          Found None ∷ OutOfMemory ∷ [],
          (gets_or_inserts keys weighs).refused old new key hand now refusal,
          inr (refl, inr (refl, tells)),
        )

  -- a modification put the value at hand there, or found nothing
  pub modified : (call : Call K V A) (key : K) (hand : Rc V A) (now : ℕ) (changes : Rc V A → Rc V A → Type 0) (answer : Bool)
      → call ≡ Modify key hand now → told ≡ reply.Bool answer → ((before after : Rc V A) → changes before after → after ≡ hand)
      → Modifies keys weighs changes answer old key now new → Served call
  modified call key hand now changes true is tells puts done =
      subst Served (sym is) (
        Insert key hand None now ∷ [],
        Done ∷ [],
        (
          Done,
          [],
          new,
          refl,
          subst (λ v. IsStep keys weighs old (Insert key v None now) Done new) (puts done.entry.value done.value done.changed)
              ((modifications keys weighs changes).modified old new key now done),
          (refl, refl),
        ),
        inl (refl, refl, tells),
      )
  modified call key hand now changes false is tells puts done =
      subst Served (sym is) (
        ContainsKey key now ∷ [],
        Truth false ∷ [],
        (Truth false, [], new, refl, (modifications keys weighs changes).looked old new key now done, (refl, refl)),
        inr (refl, refl, tells),
      )

  -- an insert with a time to live of its own that a cache without one refused
  pub untimed : (call : Call K V A) (key : K) (hand : Rc V A) (time_to_live : Duration) (now : ℕ)
      → call ≡ InsertWithTimeToLive key hand time_to_live now → told ≡ reply.NoTimeToLive → new ≡ old → Served call
  untimed call key hand time_to_live now is tells same = subst Served (sym is) ([], [], (refl, same), inr (refl, refl, tells))

  -- one that was made, or refused its room
  pub timed : (call : Call K V A) (key : K) (hand : Rc V A) (time_to_live : Duration) (now : ℕ) (answer : Answer K (Rc V A))
      → call ≡ InsertWithTimeToLive key hand time_to_live now → IsStep keys weighs old (Insert key hand (Some (as_nanos time_to_live)) now) answer new
      → Tells (Insert key hand (Some (as_nanos time_to_live)) now) answer told → Served call
  timed call key hand time_to_live now answer is step tells =
      subst Served (sym is) (
        Insert key hand (Some (as_nanos time_to_live)) now ∷ [],
        answer ∷ [],
        (answer, [], new, refl, step, (refl, refl)),
        inl (answer, refl, refl, tells),
      )

  -- a removal of the expired entries
  pub swept : (call : Call K V A) (now : ℕ) → IsEquivalence keys.eq → call ≡ RemoveExpired now → told ≡ reply.Done
      → new ≡ after_remove_expired keys old now → Served call
  swept call now laws is tells done =
      let removal = removals_of_expired keys weighs laws in
      subst Served (sym is) (
        InvalidateEntriesIf (expiries keys old now) ∷ [],
        Done ∷ [],
        (
          Done,
          [],
          new,
          refl,
          subst (λ c. IsStep keys weighs old (InvalidateEntriesIf (expiries keys old now)) Done c) (sym done) (removal.step old now),
          (refl, refl),
        ),
        (expiries keys old now, (Done, refl, refl, tells)),
      )
