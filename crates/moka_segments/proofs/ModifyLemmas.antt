-- A change of a value in place: how its call is noted, and what it makes and tells.
use Rattle.std.proofs.Common.{◌≡◌, ℕ, ◌∙◌, Bool, true, false, [], ◌∷◌, ◌++◌, Option, Some, None, option_map, ap, inl, inr, refl, subst, sym}
use Rattle.std.proofs.lemmas.Bool.{cond-true}
use Rattle.std.specs.Cmp.{IsEquivalence}
use Rattle.atomic_table.specs.Table.{Me}
use Rattle.moka_common.specs.Keys.{Keys}
use Rattle.moka_unsync_model.specs.declared.listener.Cause.{Cause}
use Rattle.moka_unsync_model.specs.CacheState.{CacheState, room_of}
use Rattle.moka_unsync_model.specs.Cleanup.{after_cleanup}
use Rattle.moka_unsync_model.specs.Contents.{entry_at}
use Rattle.moka_unsync_model.specs.Insert as model
use Rattle.moka_unsync_model.specs.Insert.{after_put, new_entry}
use Rattle.moka_unsync_model.specs.Lookup.{after_get, found_by_get}
use Rattle.moka_unsync_model.specs.Step.{Answer, ContainsKey, Done, Found, Insert, IsStep, Request, Truth}
use Rattle.moka_unsync_model.specs.History.{IsCurrent, exchanges}
use Rattle.moka_unsync_model.specs.ToldCalls.{TellsLook}
use Rattle.moka_unsync_model.proofs.ContentsLemmas.{found_key}
use Rattle.moka_unsync_model.proofs.HistoryLemmas.{hits_are_current, last_writes_are_inserts, something}
use Rattle.moka_unsync_model.proofs.LimitLemmas.{found_there}
use Rattle.moka_unsync_model.proofs.MapLemmas.{entry_at-using}
use Rattle.moka_unsync_model.proofs.PartLemmas.{placed}
use Rattle.moka_unsync_model.proofs.RemovalLemmas.{inserts as insert_law}
use Rattle.moka_row.specs.Visits.{after_visit, at}
use Rattle.moka_row.proofs.Rules.{put_here}
use Rattle.moka_segments.specs.declared.plan.Plan.{Plan}
use Rattle.moka_segments.specs.Plan.{place_of, settings_of}
use Rattle.moka_segments.specs.Rules.{Agree, Rules}
use Rattle.moka_segments.specs.History.{Knows, Log, Visit, calls, rest}
use Rattle.moka_segments.specs.Calls.{Makes}
use Rattle.moka_segments.specs.Modify.{Modifies, TellsModifiedAt, TellsModifiedLast}
use Rattle.moka_segments.proofs.CallLemmas.{Befit, Called, Entered, call_of, makes, stands}
use Rattle.moka_segments.proofs.LawLemmas.{current, looks, met, met_in, owned, parts, some_is}

-- the value that a change left at a key, if it found one
abbrev pub value_left : {K V S W : Type 0} → (K → K → Bool) → Bool → K → CacheState K V S W → Option V
value_left eq true key after = option_map (λ e. e.value) (entry_at eq key after.contents.entries)
value_left eq false key after = None

-- what is noted: an insert of that, or a look
abbrev pub asked_as : {K V : Type 0} → K → ℕ → Option V → Request K V
asked_as key now (Some value) = Insert key value None now
asked_as key now None = ContainsKey key now

-- and its answer
abbrev pub answered_as : {K V : Type 0} → Option V → Answer K V
answered_as (Some value) = Done
answered_as None = Truth false

module _ {K V S W : Type 0} (keys : Keys K S) (weighs : W → K → V → ℕ → W → Type 0) (changes : V → V → Type 0) (old new : CacheState K V S W) (key : K)
    (now : ℕ) where
  module _ (done : model.IsModified keys weighs changes old key now new) where
    -- the entry that was found was updated
    updated : new ≡ after_put keys.eq
        (record old { weigher = done.put.weigher; capacity = done.put.capacity; contents = after_cleanup keys.eq old.settings.policy now old.contents })
        (Some done.entry) (new_entry keys old.settings key done.value done.put.weight None now) done.put.refused
    updated =
        let kept = after_cleanup keys.eq old.settings.policy now old.contents in
        done.put.step
        ∙ ap (λ o. after_put keys.eq (record old { weigher = done.put.weigher; capacity = done.put.capacity; contents = kept }) o
        (new_entry keys old.settings key done.value done.put.weight None now) done.put.refused)
        (found_there old.settings.policy now (entry_at keys.eq key kept.entries) done.entry done.found)

    -- as many entries have room as before
    pub same_room : new.capacity ≡ old.capacity
    same_room = ap (λ c. c.capacity) updated ∙ done.same

    -- the value that was left stands at the key
    pub left_is : IsEquivalence keys.eq → value_left keys.eq true key new ≡ Some done.value
    left_is laws =
        let kept = after_cleanup keys.eq old.settings.policy now old.contents in
        let there : entry_at keys.eq key kept.entries ≡ Some done.entry =
        found_there old.settings.policy now (entry_at keys.eq key kept.entries) done.entry done.found in
        let put = record (new_entry keys old.settings key done.value done.put.weight None now) {
          key = done.entry.key;
          hash = done.entry.hash;
          part = done.entry.part;
        } in
        let (f, placed_at) = entry_at-using laws (room_of old) key put kept in
        ap (λ c. option_map (λ e. e.value) (entry_at keys.eq key c.contents.entries)) updated
        ∙ (ap (option_map (λ e. e.value)) placed_at
        ∙ ap (λ o. option_map (λ e. e.value) (placed f o)) (cond-true (keys.eq done.entry.key key) (Some put) (entry_at keys.eq key kept.entries)
        (laws.symm done.entry.key key ∙ found_key keys.eq key done.entry kept.entries there)))

    -- what was found is what a get would find
    pub found_as_get : found_by_get keys old key now ≡ Some done.entry.value
    found_as_get = ap (option_map (λ e. e.value)) done.found

  -- the call that is noted is a step
  pub modify_step : IsEquivalence keys.eq → (there : Bool) → model.Modifies keys weighs changes there old key now new
      → IsStep keys weighs old (asked_as key now (value_left keys.eq there key new)) (answered_as (value_left keys.eq there key new)) new
  modify_step laws true done =
      subst (λ (o : Option V). IsStep keys weighs old (asked_as key now o) (answered_as o) new) (sym (left_is done laws)) (inl (refl, done.put))
  modify_step laws false looked = (ap Truth (sym looked.0), looked.1)

  module _ (rules : Rules K V) (ready : W → Type 0) (plan : Plan S) (i by : ℕ) where
    -- it is the visitor's to make, and of the segment
    pub modify_befits : IsEquivalence keys.eq → place_of plan keys key ≡ i → rules.owns by key
        → ((found value : V) → rules.holds key found → changes found value → rules.holds key value)
        → ((found : V) → found_by_get keys old key now ≡ Some found → rules.holds key found)
        → (there : Bool) → model.Modifies keys weighs changes there old key now new
        → Befit keys weighs rules ready plan i by
        (call_of old (asked_as key now (value_left keys.eq there key new)) (answered_as (value_left keys.eq there key new)) new ∷ [])
    modify_befits laws place owns holds held true done =
        subst (λ (o : Option V). Befit keys weighs rules ready plan i by (call_of old (asked_as key now o) (answered_as o) new ∷ []))
        (sym (left_is done laws))
        ((place, tt), ((holds done.entry.value done.value (held done.entry.value (found_as_get done)) done.changed, owns), tt))
    modify_befits laws place owns holds held false looked = ((place, tt), (tt, tt))

module _ {K V S W : Type 0} {keys : Keys K S} {weighs : W → K → V → ℕ → W → Type 0} {rules : Rules K V} {ready : W → Type 0} {plan : Plan S} {i : ℕ}
    {v : Knows K V S W} {u : Me (CacheState K V S W) (Knows K V S W)} where
  -- what is found under the lock meets the rule of pairs
  pub found_holds : {cache : CacheState K V S W} → IsEquivalence keys.eq → Agree keys.eq rules → Entered keys weighs rules ready plan i v u cache
      → (key : K) (now : ℕ) (found : V) → found_by_get keys cache key now ≡ Some found → rules.holds key found
  found_holds {cache = cache} laws agree e key now found is =
      met_in keys rules plan.policy agree (last_writes_are_inserts keys) e.log e.account.0.ruled key now found
      (hits_are_current keys laws weighs (settings_of plan i) plan.shares e.account.0.weigher e.account.0.capacity (calls e.log) cache
      (after_get keys cache key now) key now found e.account.0.led (ap Found (sym is), refl))

  -- what a change of a value makes
  pub modifies : {before after : CacheState K V S W} {entry : Visit K V S W} → IsEquivalence keys.eq → Agree keys.eq rules
      → (w : Me (CacheState K V S W) (Knows K V S W)) (changes : V → V → Type 0) (key : K) (now : ℕ) (there : Bool) → place_of plan keys key ≡ i
      → Called keys weighs rules ready plan i v u before after
      (call_of before (asked_as key now (value_left keys.eq there key after)) (answered_as (value_left keys.eq there key after)) after ∷ []) entry
      → w ≡ (after_visit i (Some entry) u.0, []) → model.Modifies keys weighs changes there before key now after
      → Modifies keys weighs rules plan changes v key now there w.0
  modifies {before = before} {after = after} {entry = entry} laws agree w changes key now true place d left done =
      let left_value = left_is keys weighs changes before after key now done laws in
      let all =
      stands w (subst (λ (o : Option V). Called keys weighs rules ready plan i v u before after
      (call_of before (asked_as key now o) (answered_as o) after ∷ []) entry) left_value d) left in
      let (made, was, is) =
      subst (λ (k : ℕ). (m : Makes keys weighs rules plan v k (Insert key done.value None now) Done w.0) × (m.made.call.before ≡ before)
      × (m.made.call.after ≡ after)) (sym place) (
        record {
          made = record { call = call_of before (Insert key done.value None now) Done after; asked = refl; answered = refl; visit = all.made };
          others = all.others;
        },
        refl,
        refl,
      ) in
      let k = place_of plan keys key in
      let m = made.made in
      let led = parts keys weighs rules plan v w.0 k (Insert key done.value None now) Done m in
      let hit = current keys weighs rules plan v w.0 k (Insert key done.value None now) Done m (hits_are_current keys laws weighs) key now done.entry.value
      (after_get keys m.call.before key now)
      (ap Found (sym (ap (λ c. found_by_get keys c key now) was ∙ found_as_get keys weighs changes before after key now done)), refl) in
      record {
        found = done.entry.value;
        value = done.value;
        changed = done.changed;
        made = made;
        stands = elim (insert_law keys laws weighs (settings_of plan k) plan.shares m.visit.history.weigher m.visit.history.capacity
            (calls (m.visit.since ++ at v.seen k)) m.call m.call.after key done.value None now (refl, led.1, led.2) m.asked m.answered) [
              | inl there ↦ there
              | inr rejected ↦
                  something {o = None} refl
                  (sym (ap (option_map (λ e. e.value)) rejected.absent)
                  ∙ (ap (λ c. option_map (λ e. e.value) (entry_at keys.eq key c.contents.entries)) is ∙ left_value))
            ];
        room = ap (λ c. c.capacity) is ∙ (same_room keys weighs changes before after key now done ∙ sym (ap (λ c. c.capacity) was));
        hit = hit;
        own = λ value same only. owned keys weighs rules plan v w.0 k (Insert key done.value None now) Done m key now value
            (subst (λ x. IsCurrent keys plan.policy now (exchanges (calls (rest (at w.0.seen k)))) key x) (some_is done.entry.value value same) hit) only;
        met = met keys weighs rules plan v w.0 k (Insert key done.value None now) Done m agree (last_writes_are_inserts keys) key now done.entry.value hit;
      }
  modifies laws agree w changes key now false place d left looked = looks laws place (makes w d left)

  -- what it tells
  pub modified_tells : {L : Type 0} (hears : L → K → V → Cause → L → Type 0) {before after : CacheState K V S W} {request : Request K V} {answer : Answer K V}
      {entry : Visit K V S W} (w : Me (CacheState K V S W) (Knows K V S W)) (key : K) (now : ℕ) (old new : L) → place_of plan keys key ≡ i
      → Called keys weighs rules ready plan i v u before after (call_of before request answer after ∷ []) entry → w ≡ (after_visit i (Some entry) u.0, [])
      → TellsLook hears keys before now old new → TellsModifiedAt hears keys plan key now w.0 old new
  modified_tells hears {entry = entry} w key now old new place d left tells = record {
    last = subst (λ j. TellsModifiedLast hears keys now (at w.0.seen j) old new) (sym place)
        (subst (λ (l : Log K V S W). TellsModifiedLast hears keys now l old new)
        (sym (ap (λ (m : Me (CacheState K V S W) (Knows K V S W)). at m.0.seen i) left
        ∙ (put_here u.0.seen i ((u.0.by, entry) ∷ at u.0.seen i) ∙ ap (λ x. (u.0.by, x) ∷ at u.0.seen i) d.noted)))
        tells);
  }
