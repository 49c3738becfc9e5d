-- A get or insert: its calls befit its visitor, and tell what was got or put.
use Rattle.std.proofs.Common.{◌≡◌, ◌⊎◌, ℕ, Bool, true, false, Option, Some, None, Result, Ok, Err, inl, inr, refl, subst, sym}
use Rattle.moka_common.specs.declared.error.InsertError.{InsertError}
use Rattle.moka_common.specs.declared.error.InsertError.TheVariants as refused
use Rattle.moka_common.specs.Keys.{Keys}
use Rattle.moka_unsync_model.specs.CacheState.{CacheState}
use Rattle.moka_unsync_model.specs.Step.{Get, Insert, Done, Found, OutOfMemory}
use Rattle.moka_unsync.specs.declared.error.TryInsertError.{TryInsertError}
use Rattle.moka_unsync.specs.declared.error.TryInsertError.TheVariants as failed
use Rattle.moka_segments.specs.declared.plan.Plan.{Plan}
use Rattle.moka_segments.specs.Plan.{place_of}
use Rattle.moka_segments.specs.Rules.{Rules}
use Rattle.moka_segments.specs.History.{Knows}
use Rattle.moka_segments.specs.Calls.{Makes, Visits}
use Rattle.moka_segments.specs.Put.{TellsGot, TellsTried, put_answer, visit_of}
use Rattle.moka_segments.specs.Tells.{GetsOrInserts, PutsBehind, TriesToInsert}
use Rattle.moka_segments.proofs.CallLemmas.{Befit, call_of, one_call}

module _ {K V S W : Type 0} (keys : Keys K S) (weighs : W → K → V → ℕ → W → Type 0) (rules : Rules K V) (ready : W → Type 0) (plan : Plan S) (i : ℕ)
    (is_clone : V → V → Type 0) (makes : V → Type 0)
    (before : CacheState K V S W) (key : K) (now : ℕ) (between after : CacheState K V S W) where
  module _ (by : ℕ) (place : place_of plan keys key ≡ i) (owns : rules.owns by key) (holds : (value : V) → makes value → rules.holds key value) where
    got_befits : (found : Option V) (put : Option (V × Bool)) → put ≡ None → Befit keys weighs rules ready plan i by (visit_of before key now found between
        put after)
    got_befits found put is = subst (λ p. Befit keys weighs rules ready plan i by (visit_of before key now found between p after)) (sym is)
        ((place, tt), (tt, tt))

    put_befits : (found : Option V) (put : Option (V × Bool)) (value : V) (b : Bool) → makes value → put ≡ Some (value, b)
        → Befit keys weighs rules ready plan i by (visit_of before key now found between put after)
    put_befits found put value b made is =
        subst (λ p. Befit keys weighs rules ready plan i by (visit_of before key now found between p after)) (sym is)
        ((place, (place, tt)), ((holds value made, owns), (tt, tt)))

    ok_befits : (found : Option V) (put : Option (V × Bool)) (value : V) → (((found ≡ Some value) × (put ≡ None))
        ⊎ (makes value × (found ≡ None) × (put ≡ Some (value, true))))
        → Befit keys weighs rules ready plan i by (visit_of before key now found between put after)
    ok_befits found put value (inl t) = got_befits found put t.1
    ok_befits found put value (inr t) = put_befits found put value true t.0 t.2

    refused_befits : (found : Option V) (put : Option (V × Bool)) (value : V) → makes value → ((put ≡ None) ⊎ (put ≡ Some (value, false)))
        → Befit keys weighs rules ready plan i by (visit_of before key now found between put after)
    refused_befits found put value made (inl e) = got_befits found put e
    refused_befits found put value made (inr e) = put_befits found put value false made e

    err_befits : (found : Option V) (put : Option (V × Bool)) (value : V)
        → (((found ≡ Some value) × (put ≡ None)) ⊎ (makes value × (found ≡ None) × ((put ≡ None) ⊎ (put ≡ Some (value, false)))))
        → Befit keys weighs rules ready plan i by (visit_of before key now found between put after)
    err_befits found put value (inl t) = got_befits found put t.1
    err_befits found put value (inr t) = refused_befits found put value t.0 t.2

    -- the calls are of the segment, and the visitor's to make
    pub befits : (found : Option V) (put : Option (V × Bool)) (result : Result V InsertError) → TellsGot is_clone makes found put result
        → Befit keys weighs rules ready plan i by (visit_of before key now found between put after)
    befits found put (Ok copy) told = ok_befits found put told.0 told.2
    befits found put (Err error) told = err_befits found put told.0 told.1

  module _ (v w : Knows K V S W) where
    got : (found : Option V) (put : Option (V × Bool)) (f : Option V) → found ≡ f → put ≡ None
        → Visits keys weighs rules plan v i (visit_of before key now found between put after) w
        → Makes keys weighs rules plan v i (Get key now) (Found f) w
    got found put f e none m =
        one_call keys weighs rules ready plan i v w (call_of before (Get key now) (Found f) after) (Get key now) (Found f) refl refl
        (subst (λ (z : Option V × Option (V × Bool)). Visits keys weighs rules plan v i (visit_of before key now z.0 between z.1 after) w)
        (λ j. (e j, none j)) m)

    put_behind : (found : Option V) (put : Option (V × Bool)) (value : V) (b : Bool) → found ≡ None → put ≡ Some (value, b)
        → Visits keys weighs rules plan v i (visit_of before key now found between put after) w
        → PutsBehind keys weighs rules plan v i key value now (put_answer b) w
    put_behind found put value b e is m = record {
      get = call_of before (Get key now) (Found None) between;
      insert = call_of between (Insert key value None now) (put_answer b) after;
      asked = (refl, refl);
      answered = (refl, refl);
      made = subst (λ (z : Option V × Option (V × Bool)). Visits keys weighs rules plan v i (visit_of before key now z.0 between z.1 after) w)
          (λ j. (e j, is j)) m;
    }

    ok_tells : (found : Option V) (put : Option (V × Bool)) (value : V) → (((found ≡ Some value) × (put ≡ None))
        ⊎ (makes value × (found ≡ None) × (put ≡ Some (value, true))))
        → Visits keys weighs rules plan v i (visit_of before key now found between put after) w
        → Makes keys weighs rules plan v i (Get key now) (Found (Some value)) w ⊎ (makes value × PutsBehind keys weighs rules plan v i key value now Done w)
    ok_tells found put value (inl t) m = inl (got found put (Some value) t.0 t.1 m)
    ok_tells found put value (inr t) m = inr (t.0, put_behind found put value true t.1 t.2 m)

    refused_tells : (found : Option V) (put : Option (V × Bool)) (value : V) → found ≡ None → ((put ≡ None) ⊎ (put ≡ Some (value, false)))
        → Visits keys weighs rules plan v i (visit_of before key now found between put after) w
        → Makes keys weighs rules plan v i (Get key now) (Found None) w ⊎ PutsBehind keys weighs rules plan v i key value now OutOfMemory w
    refused_tells found put value none (inl e) m = inl (got found put None none e m)
    refused_tells found put value none (inr e) m = inr (put_behind found put value false none e m)

    err_tells : (found : Option V) (put : Option (V × Bool)) (value : V)
        → (((found ≡ Some value) × (put ≡ None)) ⊎ (makes value × (found ≡ None) × ((put ≡ None) ⊎ (put ≡ Some (value, false)))))
        → Visits keys weighs rules plan v i (visit_of before key now found between put after) w
        → Makes keys weighs rules plan v i (Get key now) (Found (Some value)) w
        ⊎ (makes value × (Makes keys weighs rules plan v i (Get key now) (Found None) w ⊎ PutsBehind keys weighs rules plan v i key value now OutOfMemory w))
    err_tells found put value (inl t) m = inl (got found put (Some value) t.0 t.1 m)
    err_tells found put value (inr t) m = inr (t.0, refused_tells found put value t.1 t.2 m)

    -- what they tell
    tells : (found : Option V) (put : Option (V × Bool)) (result : Result V InsertError) → TellsGot is_clone makes found put result
        → Visits keys weighs rules plan v i (visit_of before key now found between put after) w
        → GetsOrInserts keys weighs rules plan is_clone makes v i key now result w
    tells found put (Ok copy) told m = (told.0, told.1, ok_tells found put told.0 told.2 m)
    tells found put (Err error) told m = (told.0, err_tells found put told.0 told.1 m)

    -- in the segment of the key
    pub tells_there : place_of plan keys key ≡ i → (found : Option V) (put : Option (V × Bool)) (result : Result V InsertError)
        → TellsGot is_clone makes found put result
        → Visits keys weighs rules plan v i (visit_of before key now found between put after) w
        → GetsOrInserts keys weighs rules plan is_clone makes v (place_of plan keys key) key now result w
    tells_there place found put result told m =
        subst (λ k. GetsOrInserts keys weighs rules plan is_clone makes v k key now result w) (sym place) (tells found put result told m)

-- the same where making the value may fail
module _ {K V S W E : Type 0} (keys : Keys K S) (weighs : W → K → V → ℕ → W → Type 0) (rules : Rules K V) (ready : W → Type 0) (plan : Plan S) (i : ℕ)
    (is_clone : V → V → Type 0) (makes : Result V E → Type 0) (before : CacheState K V S W) (key : K) (now : ℕ) (between after : CacheState K V S W) where
  abbrev made_by : V → Type 0
  made_by value = makes (Ok value)

  pub tried_befits : (by : ℕ) → place_of plan keys key ≡ i → rules.owns by key → ((value : V) → makes (Ok value) → rules.holds key value)
      → (found : Option V) (put : Option (V × Bool)) (result : Result V (TryInsertError E)) → TellsTried is_clone makes found put result
      → Befit keys weighs rules ready plan i by (visit_of before key now found between put after)
  tried_befits by place owns holds found put (Ok copy) told =
      befits keys weighs rules ready plan i is_clone made_by before key now between after by place owns holds found put (Ok copy) told
  tried_befits by place owns holds found put (Err (failed.Make error)) told =
      got_befits keys weighs rules ready plan i is_clone made_by before key now between after by place owns holds found put told.2
  tried_befits by place owns holds found put (Err failed.OutOfMemory) told =
      befits keys weighs rules ready plan i is_clone made_by before key now between after by place owns holds found put (Err refused.OutOfMemory) told

  pub tried_there : (v w : Knows K V S W) → place_of plan keys key ≡ i → (found : Option V) (put : Option (V × Bool)) (result : Result V (TryInsertError E))
      → TellsTried is_clone makes found put result → Visits keys weighs rules plan v i (visit_of before key now found between put after) w
      → TriesToInsert keys weighs rules plan is_clone makes v (place_of plan keys key) key now result w
  tried_there v w place found put (Ok copy) told m =
      tells_there keys weighs rules ready plan i is_clone made_by before key now between after v w place found put (Ok copy) told m
  tried_there v w place found put (Err (failed.Make error)) told m = (
    told.0,
    subst (λ k. Makes keys weighs rules plan v k (Get key now) (Found None) w) (sym place)
        (got keys weighs rules ready plan i is_clone made_by before key now between after v w found put None told.1 told.2 m),
  )
  tried_there v w place found put (Err failed.OutOfMemory) told m =
      tells_there keys weighs rules ready plan i is_clone made_by before key now between after v w place found put (Err refused.OutOfMemory) told m
