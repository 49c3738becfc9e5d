-- Lemmas on calls by probes.
use Rattle.std.proofs.Common.{◌≡◌, ◌⊎◌, ℕ, ◌∙◌, Bool, true, false, not, List, [], ◌∷◌, ◌++◌, Option, Some, None, Result, Ok, Err, ap, refl}
use Rattle.std.proofs.Common.{subst, sym, inl, inr}
use Rattle.std.proofs.lemmas.Bool.{cases_Bool, cond-true, cond-false, false≢true}
use Rattle.std.specs.Prelude.{IsTrue, option_map, is_some}
use Rattle.std.specs.Cmp.{IsEquivalence}
use Rattle.std.specs.List.{AllByRecursion}
use Rattle.moka_common.specs.declared.error.OutOfMemory as error
use Rattle.moka_common.specs.Keys.{Keys}
use Rattle.moka_unsync_model.specs.declared.entry.Entry.{Entry}
use Rattle.moka_unsync_model.specs.declared.listener.Cause.{Cause}
use Rattle.moka_unsync_model.specs.declared.listener.Cause.TheVariants.{Explicit}
use Rattle.moka_unsync_model.specs.Cleanup.{unexpired}
use Rattle.moka_unsync_model.specs.Contents.{Write, entry_at, entry_where, entries_except, except, writes_except}
use Rattle.moka_unsync_model.specs.CacheState.{CacheState, new_cache, room_of}
use Rattle.moka_unsync_model.specs.Deadline.{expiry_of}
use Rattle.moka_unsync_model.specs.Invalidate.{after_invalidate, after_invalidate_where}
use Rattle.moka_unsync_model.specs.Lookup.{after_get_where, after_look, after_miss, after_use, found_by_get, found_where, is_contained_where, peeked_where}
use Rattle.moka_unsync_model.specs.Lookup.{unexpired_where}
use Rattle.moka_unsync_model.specs.Step.{Answer, IsStep, Request, ContainsKey, Get, Invalidate, Miss, Peek, Remove, Done, Found, Truth}
use Rattle.moka_unsync_model.specs.History.{LastWrite, Leads, Transition, exchanges, is_over, last_write}
use Rattle.moka_unsync_model.specs.Removal.{IsMissing}
use Rattle.moka_unsync_model.specs.Told.{TellsExpired, TellsTaken}
use Rattle.moka_unsync_model.specs.ToldCalls.{TellsInvalidateWhere, TellsLook, TellsRemoveWhere}
use Rattle.moka_unsync_model.proofs.ContentsLemmas.{found_key}
use Rattle.moka_unsync_model.proofs.LimitLemmas.{found_there}
use Rattle.moka_unsync_model.proofs.RemovalLemmas.{probe_misses}
use Rattle.moka_unsync_model.proofs.TiedLemmas.{AllTied, IsTied, tied-run}
use Rattle.moka_row.specs.Visits.{at}
use Rattle.moka_segments.specs.declared.plan.Plan.{Plan}
use Rattle.moka_segments.specs.Plan.{place_of, segment_of, settings_of}
use Rattle.moka_segments.specs.Rules.{Agree, IsPermitted, Rules}
use Rattle.moka_segments.specs.Notifying.{TellsCall}
use Rattle.moka_segments.specs.History.{Every, IsLedBy, IsOfSegment, Knows, Log, Visit, calls, rest}
use Rattle.moka_segments.specs.Calls.{Makes, VisitsIn, Visits}
use Rattle.moka_segments.specs.Tells.{Lacks, TellsClone}
use Rattle.moka_segments.specs.Probes.{GetsBy, InvalidatesBy, LooksBy, MissesBy, PeeksBy, RemovesBy}
use Rattle.moka_segments.proofs.CallLemmas.{call_of, one_call}
use Rattle.moka_segments.proofs.LawLemmas.{at_place, gets, looks, peeks, removes}

-- the request of a call by a probe: that of the found entry's key, or a miss
abbrev pub asked_of : {K V : Type 0} → (K → Request K V) → Option ℕ → ℕ → Option (Entry K V) → Request K V
asked_of ask counted now None = Miss counted now
asked_of ask counted now (Some entry) = ask entry.key

-- and its answer
abbrev pub answered_at : {K V : Type 0} → Answer K V → Option (Entry K V) → Answer K V
answered_at answer None = Found None
answered_at answer (Some entry) = answer

-- the visit of a peek by a probe
abbrev pub peek_visit : {K V S W : Type 0} → CacheState K V S W → ℕ → Option V → CacheState K V S W → Option (Entry K V) → Visit K V S W
peek_visit before now found after None = []
peek_visit before now found after (Some entry) = call_of before (Peek entry.key now) (Found found) after ∷ []

-- the entry that a look-up finds passes the test
pub passes_where : {K V : Type 0} (test : K → Bool) (entries : List (Entry K V)) (e : Entry K V) → entry_where test entries ≡ Some e → IsTrue (test e.key)
passes_where test entries e is = found_key (λ k. test) e.key e entries is

-- no clone is told where nothing is found
none_told : {V : Type 0} (is_clone : V → V → Type 0) (found : Option V) (result : Result (Option V) error.OutOfMemory) → found ≡ None
    → TellsClone is_clone found result → result ≡ Ok None
none_told is_clone found (Ok None) none told = refl
none_told is_clone found (Ok (Some copy)) none (value, is, cloned) = absurd (cc)
none_told is_clone found (Err error) none (value, is) = absurd (cc)

module _ {K V : Type 0} (test : K → Bool) where
  -- where no entry's key passes, none leaves
  entries_absent : (entries : List (Entry K V)) → entry_where test entries ≡ None → entries_except test entries ≡ entries
  entries_absent [] h = refl
  entries_absent (e ∷ es) h =
      elim (cases_Bool (test e.key)) [
        | inl passes ↦ absurd (false≢true (sym (ap is_some (sym (cond-true (test e.key) (Some e) (entry_where test es) passes) ∙ h))))
        | inr fails ↦
            cond-true (not (test e.key)) _ _ (ap not fails)
            ∙ ap (λ l. e ∷ l) (entries_absent es (sym (cond-false (test e.key) (Some e) (entry_where test es) fails) ∙ h))
      ]

  -- nor a write
  writes_absent : {eq : K → K → Bool} (entries : List (Entry K V)) → ((key : K) → IsTrue (test key) → test ≡ eq key) → entry_where test entries ≡ None
      → (written : List (Write K)) → AllByRecursion (IsTied eq entries) written → writes_except test written ≡ written
  writes_absent entries alike none [] tied = refl
  writes_absent {eq = eq} entries alike none (w ∷ ws) tied =
      elim (cases_Bool (test w.key)) [
        | inl passes ↦
            let absent : entry_at eq w.key entries ≡ None =
            ap (λ t. entry_where t entries) (sym (alike w.key passes)) ∙ none in
            absurd (false≢true (ap is_some (sym (ap (option_map (λ e. expiry_of e)) absent) ∙ tied.0)))
        | inr fails ↦
            cond-true (not (test w.key)) _ _ (ap not fails) ∙ ap (λ l. w ∷ l) (writes_absent entries alike none ws tied.1)
      ]

module _ {K V S W : Type 0} (keys : Keys K S) (cache : CacheState K V S W) (test : K → Bool) (now : ℕ) where
  -- the entry that stands once cleanup is done, and the same if it is unexpired
  abbrev pub entry_there : Option (Entry K V)
  entry_there = entry_where test (after_look keys cache now).contents.entries

  abbrev pub entry_found : Option (Entry K V)
  entry_found = unexpired_where cache.settings.policy now test (after_look keys cache now).contents

  abbrev pub entry_peeked : Option (Entry K V)
  entry_peeked = unexpired_where cache.settings.policy now test cache.contents

  -- it passes the test
  pub there_passes : (e : Entry K V) → entry_there ≡ Some e → IsTrue (test e.key)
  there_passes e is = passes_where test (after_look keys cache now).contents.entries e is

  pub found_passes : (e : Entry K V) → entry_found ≡ Some e → IsTrue (test e.key)
  found_passes e is = there_passes e (found_there cache.settings.policy now entry_there e is)

  pub peeked_passes : (e : Entry K V) → entry_peeked ≡ Some e → IsTrue (test e.key)
  peeked_passes e is = passes_where test cache.contents.entries e (found_there cache.settings.policy now (entry_where test cache.contents.entries) e is)

  module _ (alike : (key : K) → IsTrue (test key) → test ≡ keys.eq key) where
    -- where it isn't found, none is by a key that passes
    pub unfound : entry_found ≡ None → (key : K) → IsTrue (test key) → found_by_get keys cache key now ≡ None
    unfound none key stands =
        ap (λ t. found_where keys cache t now) (sym (alike key stands)) ∙ ap (option_map (λ (e : Entry K V). e.value)) none

    pub untaken : entry_there ≡ None → (key : K) → IsTrue (test key) → found_by_get keys cache key now ≡ None
    untaken none = unfound (ap (unexpired cache.settings.policy now) none)

    -- and none leaves
    pub none_leaves : (laws : IsEquivalence keys.eq) (weighs : W → K → V → ℕ → W → Type 0) (rules : Rules K V) (plan : Plan S) (i : ℕ) (log : Log K V S W)
        → IsLedBy keys weighs rules plan i log cache → entry_there ≡ None
        → except test (after_look keys cache now).contents ≡ (after_look keys cache now).contents
    none_leaves laws weighs rules plan i log led none =
        let kept = after_look keys cache now in
        let tied : AllTied keys.eq kept.contents =
        tied-run keys laws weighs (settings_of plan i) plan.shares led.weigher led.capacity
        (call_of cache (Miss None now) (Found None) kept ∷ calls log) kept (refl, (refl, refl), led.led) in
        λ i. record {
          entries = entries_absent test kept.contents.entries none i;
          written = writes_absent test kept.contents.entries alike none kept.contents.written tied i;
        }

  module _ {L : Type 0} {hears : L → K → V → Cause → L → Type 0} {before after : L} where
    -- what the taking of an entry tells where none stands
    pub none_invalidated : entry_there ≡ None → TellsInvalidateWhere hears keys cache now test before after → TellsLook hears keys cache now before after
    none_invalidated none tells =
        subst (TellsLook hears keys cache now before) (sym (by entry_there none tells.taken)) tells.cleanup
      where
        by : (o : Option (Entry K V)) → o ≡ None → TellsTaken hears cache.settings.policy now Explicit o tells.between after → after ≡ tells.between
        by None none taken = taken
        by (Some e) none taken = absurd (cc)

    pub none_removed : entry_there ≡ None → TellsRemoveWhere hears keys cache now test before after → TellsLook hears keys cache now before after
    none_removed none tells =
        subst (TellsLook hears keys cache now before) (sym (by entry_there none tells.found)) tells.cleanup
      where
        by : (o : Option (Entry K V)) → o ≡ None → TellsExpired hears cache.settings.policy now o tells.between after → after ≡ tells.between
        by None none taken = taken
        by (Some e) none taken = absurd (cc)

module _ {K V S : Type 0} (keys : Keys K S) (plan : Plan S) (i : ℕ) (ask : K → Request K V) (counted : Option ℕ) (now : ℕ) where
  -- the request of a call by a probe is of its segment
  pub asked_here : (o : Option (Entry K V)) → ((e : Entry K V) → o ≡ Some e → IsOfSegment keys plan i (ask e.key))
      → IsOfSegment keys plan i (asked_of ask counted now o)
  asked_here None found = tt
  asked_here (Some e) found = found e refl

module _ {K V : Type 0} (rules : Rules K V) (by : ℕ) (ask : K → Request K V) (counted : Option ℕ) (now : ℕ) where
  -- and permitted
  pub asked_allowed : (o : Option (Entry K V)) → ((e : Entry K V) → o ≡ Some e → IsPermitted rules by (ask e.key))
      → IsPermitted rules by (asked_of ask counted now o)
  asked_allowed None found = tt
  asked_allowed (Some e) found = found e refl

module _ {K V S W : Type 0} (keys : Keys K S) (ask : K → Request K V) (counted : Option ℕ) (now : ℕ) where
  -- a call by a probe is a step
  pub asked_step : (weighs : W → K → V → ℕ → W → Type 0) (cache new : CacheState K V S W) (answer : Answer K V) (o : Option (Entry K V)) → ((e : Entry K V)
      → o ≡ Some e → IsStep keys weighs cache (ask e.key) answer new)
      → (o ≡ None → new ≡ after_miss keys cache counted now) → IsStep keys weighs cache (asked_of ask counted now o) (answered_at answer o) new
  asked_step weighs cache new answer None found missed = (refl, missed refl)
  asked_step weighs cache new answer (Some e) found missed = found e refl

  -- what it tells
  pub asked_tells : {L : Type 0} (hears : L → K → V → Cause → L → Type 0) (before after : L) (cache new : CacheState K V S W) (answer : Answer K V)
      (o : Option (Entry K V)) → ((e : Entry K V) → o ≡ Some e → TellsCall hears keys cache (ask e.key) answer new before after)
      → (o ≡ None → TellsLook hears keys cache now before after)
      → TellsCall hears keys cache (asked_of ask counted now o) (answered_at answer o) new before after
  asked_tells hears before after cache new answer None found missed = missed refl
  asked_tells hears before after cache new answer (Some e) found missed = found e refl

module _ {K V S W : Type 0} {keys : Keys K S} {weighs : W → K → V → ℕ → W → Type 0} {rules : Rules K V} {plan : Plan S} {v w : Knows K V S W} {i : ℕ} where
  -- why a call that finds nothing finds none of a key
  lacking : (laws : IsEquivalence keys.eq) (call : Transition K V S W) (key : K) (counted : Option ℕ) (now : ℕ)
      → VisitsIn keys weighs rules plan v i (call ∷ []) w → call.request ≡ Miss counted now → found_by_get keys call.before key now ≡ None
      → Lacks keys weighs plan.policy key now (at w.seen i)
  lacking laws call key counted now m asked none =
      let log = m.since ++ at v.seen i in
      subst (λ (l : Log K V S W). IsMissing keys weighs (calls l) key
      ⊎ ((write : LastWrite V) × (last_write keys key (exchanges (calls (rest l))) ≡ Some write) × (is_over plan.policy now write ≡ true)))
      (sym m.seen)
      (probe_misses keys laws weighs (settings_of plan i) plan.shares m.history.weigher m.history.capacity (calls log) call m.cache key counted now
      (subst (λ (l : Log K V S W). Leads keys weighs (new_cache (settings_of plan i) plan.shares m.history.weigher m.history.capacity) (calls l) m.cache)
      m.seen m.history.led) asked none)

  -- what a call by a probe makes
  pub asked_made : {before after : CacheState K V S W} {counted : Option ℕ} {answer : Answer K V} (laws : IsEquivalence keys.eq) (ask : K → Request K V)
      (test : K → Bool) (hash now : ℕ) (o : Option (Entry K V)) → (o ≡ None → (key : K) → IsTrue (test key) → found_by_get keys before key now ≡ None)
      → segment_of hash plan.count ≡ i
      → Visits keys weighs rules plan v i (call_of before (asked_of ask counted now o) (answered_at answer o) after ∷ []) w
      → ((e : Entry K V) × (o ≡ Some e) × Makes keys weighs rules plan v i (ask e.key) answer w)
      ⊎ ((o ≡ None) × MissesBy keys weighs rules plan v (segment_of hash plan.count) test counted now w)
  asked_made {before = before} {after = after} {counted = counted} {answer = answer} laws ask test hash now None nothing place there =
      let call = call_of before (Miss counted now) (Found None) after in
      inr (
        refl,
        subst (λ j. MissesBy keys weighs rules plan v j test counted now w) (sym place) (record {
          made = one_call keys weighs rules (λ x. Unit {0}) plan i v w call (Miss counted now) (Found None) refl refl there;
          lacks = λ key stands. lacking laws call key counted now there.made refl (nothing refl key stands);
        }),
      )
  asked_made {before = before} {after = after} {counted = counted} {answer = answer} laws ask test hash now (Some e) nothing place there =
      inl (e, refl, one_call keys weighs rules (λ x. Unit {0}) plan i v w (call_of before (ask e.key) answer after) (ask e.key) answer refl refl there)

module _ {K V S W : Type 0} (keys : Keys K S) (weighs : W → K → V → ℕ → W → Type 0) (cache new : CacheState K V S W) (test : K → Bool) (hash now : ℕ)
    (alike : (key : K) → IsTrue (test key) → (test ≡ keys.eq key) × (hash ≡ keys.hash_of cache.settings.hash_state key)) where
  -- a get by a probe
  pub got_by : (found : Option V) → found ≡ found_where keys cache test now → new ≡ after_get_where keys cache test hash now
      → IsStep keys weighs cache (asked_of (λ key. Get key now) (Some hash) now (entry_found keys cache test now))
      (answered_at (Found found) (entry_found keys cache test now)) new
  got_by found is left =
      asked_step keys (λ key. Get key now) (Some hash) now weighs cache new (Found found) (entry_found keys cache test now)
      (λ e at. let (same, hashed) = alike e.key (found_passes keys cache test now e at) in (
        ap Found (is ∙ ap (λ t. found_where keys cache t now) same),
        left ∙ (λ i. after_get_where keys cache (same i) (hashed i) now),
      ))
      (λ none. left ∙ ap (λ o. record (after_get_where keys cache test hash now) {
        contents = after_use keys.eq (room_of cache) now o (after_look keys cache now).contents;
      }) none)

module _ {K V S W : Type 0} (keys : Keys K S) (weighs : W → K → V → ℕ → W → Type 0) (cache new : CacheState K V S W) (test : K → Bool) (now : ℕ)
    (alike : (key : K) → IsTrue (test key) → test ≡ keys.eq key) where
  -- a look by a probe
  pub looked_by : (there : Bool) → there ≡ is_contained_where keys cache test now → new ≡ after_look keys cache now
      → IsStep keys weighs cache (asked_of (λ key. ContainsKey key now) None now (entry_found keys cache test now))
      (answered_at (Truth there) (entry_found keys cache test now)) new
  looked_by there is left =
      asked_step keys (λ key. ContainsKey key now) None now weighs cache new (Truth there) (entry_found keys cache test now)
      (λ e at. (ap Truth (is ∙ ap (λ t. is_contained_where keys cache t now) (alike e.key (found_passes keys cache test now e at))), left))
      (λ none. left)

  module _ (unmoved : entry_there keys cache test now ≡ None → except test (after_look keys cache now).contents ≡ (after_look keys cache now).contents)
      (left : new ≡ after_invalidate_where keys cache test now) where
    left_alone : entry_there keys cache test now ≡ None → new ≡ after_miss keys cache None now
    left_alone none = left ∙ ap (λ c. record cache { contents = c }) (unmoved none)

    taken : (e : Entry K V) → entry_there keys cache test now ≡ Some e → new ≡ after_invalidate keys cache e.key now
    taken e at = left ∙ ap (λ t. after_invalidate_where keys cache t now) (alike e.key (there_passes keys cache test now e at))

    -- an invalidation by a probe
    pub invalidated_by : IsStep keys weighs cache (asked_of (λ key. Invalidate key now) None now (entry_there keys cache test now))
        (answered_at Done (entry_there keys cache test now)) new
    invalidated_by =
        asked_step keys (λ key. Invalidate key now) None now weighs cache new Done (entry_there keys cache test now) (λ e at. (refl, taken e at)) left_alone

    -- a removal by a probe
    pub removed_by : (found : Option V) → found ≡ found_where keys cache test now
        → IsStep keys weighs cache (asked_of (λ key. Remove key now) None now (entry_there keys cache test now))
        (answered_at (Found found) (entry_there keys cache test now)) new
    removed_by found is =
        asked_step keys (λ key. Remove key now) None now weighs cache new (Found found) (entry_there keys cache test now)
        (λ e at. (
          ap Found (is ∙ ap (λ t. found_where keys cache t now) (alike e.key (there_passes keys cache test now e at))),
          taken e at,
        ))
        left_alone

module _ {L K V S W : Type 0} (hears : L → K → V → Cause → L → Type 0) (keys : Keys K S) (cache new : CacheState K V S W) (test : K → Bool) (now : ℕ)
    (alike : (key : K) → IsTrue (test key) → test ≡ keys.eq key) (before after : L) where
  -- what they tell
  pub invalidation_tells : TellsInvalidateWhere hears keys cache now test before after
      → TellsCall hears keys cache (asked_of (λ key. Invalidate key now) None now (entry_there keys cache test now))
      (answered_at Done (entry_there keys cache test now)) new before after
  invalidation_tells tells =
      asked_tells keys (λ key. Invalidate key now) None now hears before after cache new Done (entry_there keys cache test now)
      (λ e at. subst (λ t. TellsInvalidateWhere hears keys cache now t before after) (alike e.key (there_passes keys cache test now e at)) tells)
      (λ none. none_invalidated keys cache test now none tells)

  pub removal_tells : (found : Option V) → TellsRemoveWhere hears keys cache now test before after
      → TellsCall hears keys cache (asked_of (λ key. Remove key now) None now (entry_there keys cache test now))
      (answered_at (Found found) (entry_there keys cache test now)) new before after
  removal_tells found tells =
      asked_tells keys (λ key. Remove key now) None now hears before after cache new (Found found) (entry_there keys cache test now)
      (λ e at. subst (λ t. TellsRemoveWhere hears keys cache now t before after) (alike e.key (there_passes keys cache test now e at)) tells)
      (λ none. none_removed keys cache test now none tells)

module _ {K V S W : Type 0} (keys : Keys K S) (weighs : W → K → V → ℕ → W → Type 0) (rules : Rules K V) (plan : Plan S) (v w : Knows K V S W) (i : ℕ)
    (laws : IsEquivalence keys.eq) (agree : Agree keys.eq rules) (test : K → Bool) (hash now : ℕ) (before after : CacheState K V S W)
    (alike : (key : K) → IsTrue (test key) → (test ≡ keys.eq key) × (hash ≡ keys.hash_of plan.hash_state key)) (place : segment_of hash plan.count ≡ i) where
  its_place : (key : K) → IsTrue (test key) → place_of plan keys key ≡ i
  its_place key stands = ap (λ h. segment_of h plan.count) (sym (alike key stands).1) ∙ place

  same_test : (key : K) → IsTrue (test key) → test ≡ keys.eq key
  same_test key stands = (alike key stands).0

  -- what a get by a probe makes and tells
  pub gets_by : {is_clone : V → V → Type 0} {result : Result (Option V) error.OutOfMemory} (found : Option V) → found ≡ found_where keys before test now
      → TellsClone is_clone found result
      → Visits keys weighs rules plan v i (call_of before (asked_of (λ key. Get key now) (Some hash) now (entry_found keys before test now))
      (answered_at (Found found) (entry_found keys before test now)) after ∷ []) w
      → GetsBy keys weighs rules plan is_clone v test hash now result w
  gets_by {is_clone = is_clone} {result = result} found is told there =
      elim (asked_made laws (λ key. Get key now) test hash now (entry_found keys before test now) (unfound keys before test now same_test) place there) [
        | inl (e, at, made) ↦
            let passes = found_passes keys before test now e at in
            inl (e.key, passes, gets laws agree (its_place e.key passes) told made)
        | inr (none, missed) ↦ inr (none_told is_clone found result (is ∙ ap (option_map (λ (e : Entry K V). e.value)) none) told, missed)
      ]

  -- a look
  pub looks_by : (there : Bool) → there ≡ is_contained_where keys before test now
      → Visits keys weighs rules plan v i (call_of before (asked_of (λ key. ContainsKey key now) None now (entry_found keys before test now))
      (answered_at (Truth there) (entry_found keys before test now)) after ∷ []) w
      → LooksBy keys weighs rules plan v test hash now there w
  looks_by there is visits =
      elim (asked_made laws (λ key. ContainsKey key now) test hash now (entry_found keys before test now) (unfound keys before test now same_test) place
      visits) [
        | inl (e, at, made) ↦
            let passes = found_passes keys before test now e at in
            inl (e.key, passes, looks laws (its_place e.key passes) made)
        | inr (none, missed) ↦ inr (is ∙ ap is_some none, missed)
      ]

  -- an invalidation
  pub invalidates_by : Visits keys weighs rules plan v i (call_of before (asked_of (λ key. Invalidate key now) None now (entry_there keys before test now))
      (answered_at Done (entry_there keys before test now)) after ∷ []) w
      → InvalidatesBy keys weighs rules plan v test hash now w
  invalidates_by there =
      elim (asked_made laws (λ key. Invalidate key now) test hash now (entry_there keys before test now) (untaken keys before test now same_test) place
      there) [
        | inl (e, at, made) ↦
            let passes = there_passes keys before test now e at in
            inl (e.key, passes, at_place e.key (its_place e.key passes) made)
        | inr (none, missed) ↦ inr missed
      ]

  -- a removal
  pub removes_by : (found : Option V) → found ≡ found_where keys before test now
      → Visits keys weighs rules plan v i (call_of before (asked_of (λ key. Remove key now) None now (entry_there keys before test now))
      (answered_at (Found found) (entry_there keys before test now)) after ∷ []) w
      → RemovesBy keys weighs rules plan v test hash now found w
  removes_by found is there =
      elim (asked_made laws (λ key. Remove key now) test hash now (entry_there keys before test now) (untaken keys before test now same_test) place there) [
        | inl (e, at, made) ↦
            let passes = there_passes keys before test now e at in
            inl (e.key, passes, removes laws agree (its_place e.key passes) made)
        | inr (none, missed) ↦
            inr (is ∙ ap (λ o. option_map (λ (e : Entry K V). e.value) (unexpired before.settings.policy now o)) none, missed)
      ]

  -- a peek
  pub peeks_by : {is_clone : V → V → Type 0} {result : Result (Option V) error.OutOfMemory} (found : Option V) → found ≡ peeked_where before test now
      → TellsClone is_clone found result
      → Visits keys weighs rules plan v i (peek_visit before now found after (entry_peeked keys before test now)) w
      → PeeksBy keys weighs rules plan is_clone v test hash now result w
  peeks_by {is_clone = is_clone} {result = result} found is told there = by (entry_peeked keys before test now) refl there
    where
      by : (o : Option (Entry K V)) → entry_peeked keys before test now ≡ o → Visits keys weighs rules plan v i (peek_visit before now found after o) w
          → PeeksBy keys weighs rules plan is_clone v test hash now result w
      by None none visits =
          inr (
            none_told is_clone found result (is ∙ ap (option_map (λ (e : Entry K V). e.value)) none) told,
            subst (λ j. Visits keys weighs rules plan v j [] w) (sym place) visits,
          )
      by (Some e) at visits =
          let passes = peeked_passes keys before test now e at in
          inl (
            e.key,
            passes,
            peeks laws agree (its_place e.key passes) told
                (one_call keys weighs rules (λ x. Unit {0}) plan i v w (call_of before (Peek e.key now) (Found found) after) (Peek e.key now) (Found found)
                refl refl visits),
          )

module _ {K V S W : Type 0} (keys : Keys K S) (weighs : W → K → V → ℕ → W → Type 0) (cache : CacheState K V S W) (test : K → Bool) (now : ℕ)
    (alike : (key : K) → IsTrue (test key) → test ≡ keys.eq key) (found : Option V) (is : found ≡ peeked_where cache test now) where
  -- a peek by a probe is no call, or one
  pub peeked_by : (o : Option (Entry K V)) → entry_peeked keys cache test now ≡ o → Leads keys weighs cache (peek_visit cache now found cache o) cache
  peeked_by None none = refl
  peeked_by (Some e) at =
      (refl, (ap Found (is ∙ ap (λ t. peeked_where cache t now) (alike e.key (peeked_passes keys cache test now e at))), refl), refl)

-- it is of its segment, and permitted
pub peeked_befits : {K V S W : Type 0} (keys : Keys K S) (rules : Rules K V) (plan : Plan S) (i by : ℕ) (cache after : CacheState K V S W) (now : ℕ)
    (found : Option V) (o : Option (Entry K V))
    → ((e : Entry K V) → o ≡ Some e → place_of plan keys e.key ≡ i)
    → Every (λ call. IsOfSegment keys plan i call.request) (peek_visit cache now found after o)
    × Every (λ call. IsPermitted rules by call.request) (peek_visit cache now found after o)
peeked_befits keys rules plan i by cache after now found None here = (tt, tt)
peeked_befits keys rules plan i by cache after now found (Some e) here = ((here e refl, tt), (tt, tt))
