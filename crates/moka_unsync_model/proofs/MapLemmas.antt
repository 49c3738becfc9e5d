-- Lemmas on a cache without limits, which does what a plain map does.
use Rattle.std.proofs.Common.{◌≡◌, ◌≢◌, ◌-◌, ◌||◌, ℕ, Bool, true, false, cond, not, List, [], ◌∷◌, ◌++◌, filter, find, is_some}
use Rattle.std.proofs.Common.{map, take, take_while, Option, Some, None, option_map, refl, sym, ap, ◌∙◌, subst, inl, inr}
use Rattle.std.proofs.lemmas.Bool.{cases_Bool, cond-true, cond-false}
use Rattle.std.proofs.lemmas.List.{length-map}
use Rattle.std.proofs.lemmas.List.Folds.{find-append}
use Rattle.std.proofs.lemmas.List.Sums.{take_while-cons}
use Rattle.std.proofs.Math.Seq.{take-nil}
use Rattle.std.specs.Cmp.{IsEquivalence}
use Rattle.std.specs.Duration.{as_nanos}
use Rattle.std.specs.List.{AllByRecursion, IsDistinct, list_any}
use Rattle.std.specs.Option.{option_or}
use Rattle.moka_common.specs.Keys.{Keys}
use Rattle.moka_common.specs.Moment.{idle_expired, is_past}
use Rattle.moka_common.specs.Policy.{Policy}
use Rattle.moka_unsync_model.specs.Deadline.{expiry_of}
use Rattle.moka_unsync_model.specs.declared.entry.Entry.{Entry}
use Rattle.moka_unsync_model.specs.declared.constants.TheConstants.{EVICTION_BATCH_SIZE}
use Rattle.moka_unsync_model.specs.Contents.{Contents, after_leaving, entry_at, entries_without, entry_keys, window_of, with_latest, without, probation_of}
use Rattle.moka_unsync_model.specs.Contents.{protected_of, total_weight}
use Rattle.moka_unsync_model.specs.CacheState.{CacheState, room_of, windowed}
use Rattle.moka_common.specs.Settings.{Settings, idle_nanos, keeps_writes, live_nanos}
use Rattle.moka_unsync_model.specs.Cleanup.{after_expiry, after_idle, after_idle_expiry, after_trim, after_cleanup, is_past_ttl, is_idle, is_expired}
use Rattle.moka_unsync_model.specs.Cleanup.{unexpired}
use Rattle.moka_unsync_model.specs.Lookup.{after_look, after_search, after_use, found_by_get, found_by_peek, unexpired_at, after_using, used_part}
use Rattle.moka_unsync_model.specs.Memory.{Memory}
use Rattle.moka_unsync_model.specs.Insert.{Refused, after_asking, after_entering, after_new, after_put, after_standing, after_turn, after_verdict, new_entry}
use Rattle.moka_unsync_model.specs.Window.{victims_of}
use Rattle.moka_unsync_model.specs.Invalidate.{chosen}
use Rattle.moka_unsync_model.specs.Iterate.{unexpired_pairs, pairs_of}
use Rattle.moka_unsync_model.specs.Step.{Answer, IsStep, Request, Get, Peek, ContainsKey, Miss, Insert, Invalidate, Remove, InvalidateAll}
use Rattle.moka_unsync_model.specs.Step.{InvalidateEntriesIf, Iterate, EntryCount, WeightedSize, Found, Truth, OutOfMemory, Pairs, Number}
use Rattle.moka_unsync_model.specs.PlainMap.{IsMapAnswer, IsUnbounded, RunsAsMap, StepsAsMap, value_after, value_at}
use Rattle.moka_unsync_model.proofs.ContentsLemmas.{found_key}
use Rattle.moka_unsync_model.proofs.WindowLemmas.{latest_parts}
use Rattle.moka_unsync_model.proofs.KeyLemmas.{entry_at-gone, keys-pairs, once-step}
use Rattle.moka_unsync_model.specs.declared.shares.PartLimits.{PartLimits}
use Rattle.moka_unsync_model.specs.Shares.{windowed_limits}
use Rattle.moka_unsync_model.specs.declared.entry.Part.{Part}
use Rattle.moka_unsync_model.specs.declared.shares.Shares.{Shares}
use Rattle.moka_unsync_model.proofs.PartLemmas.{entry_at-demoted, placed, placed-map}

-- ---- cleanup without limits

-- where no item passes, none is taken
take_while-none : {X : Type 0} (test : X → Bool) (xs : List X) → ((x : X) → test x ≡ false) → take_while test xs ≡ []
take_while-none test [] fails = refl
take_while-none test (x ∷ xs) fails = take_while-cons test x xs ∙ cond-false (test x) (x ∷ take_while test xs) [] (fails x)

module _ (policy : Policy) (lasting : (policy.time_to_live ≡ None) × (policy.time_to_idle ≡ None)) (now : ℕ) where
  -- nothing has lived too long
  lives : (deadline : ℕ) → is_past (live_nanos policy) deadline now ≡ false
  lives deadline = ap (λ o. is_past (option_map as_nanos o) deadline now) lasting.0

  -- nor was idle too long
  used : (accessed : ℕ) → idle_expired (idle_nanos policy) accessed now ≡ false
  used accessed = ap (λ o. idle_expired (option_map as_nanos o) accessed now) lasting.1

  -- no entry is expired
  unexpired-same : {K V : Type 0} (o : Option (Entry K V)) → unexpired policy now o ≡ o
  unexpired-same None = refl
  unexpired-same (Some e) = cond-false (is_expired policy now e) None (Some e) (λ i. lives (expiry_of e) i || used e.accessed i)

  -- nothing leaves by time
  pub expiry-same : {K V : Type 0} (eq : K → K → Bool) (contents : Contents K V) → after_expiry eq policy now contents ≡ contents
  expiry-same {K = K} {V = V} eq contents =
      let none_lived : take EVICTION_BATCH_SIZE (take_while (is_past_ttl policy now) contents.written) ≡ [] =
      ap (take EVICTION_BATCH_SIZE) (take_while-none (is_past_ttl policy now) contents.written (λ w. lives w.deadline))
      ∙ take-nil EVICTION_BATCH_SIZE in
      let none_idle = λ (es : List (Entry K V)). ap (take EVICTION_BATCH_SIZE) (take_while-none (is_idle policy now) es (λ e. used e.accessed))
      ∙ take-nil EVICTION_BATCH_SIZE in
      ap (after_idle_expiry eq policy now EVICTION_BATCH_SIZE) (ap (λ l. after_leaving eq (map (λ w. w.key) l) contents) none_lived)
      ∙ (ap (λ l. after_leaving eq (entry_keys l) (after_idle eq policy now EVICTION_BATCH_SIZE (probation_of contents.entries)
      (after_idle eq policy now EVICTION_BATCH_SIZE (window_of contents.entries) contents))) (none_idle (protected_of contents.entries))
      ∙ (ap (λ l. after_leaving eq (entry_keys l) (after_idle eq policy now EVICTION_BATCH_SIZE (window_of contents.entries) contents))
      (none_idle (probation_of contents.entries))
      ∙ ap (λ l. after_leaving eq (entry_keys l) contents) (none_idle (window_of contents.entries))))

module _ (policy : Policy) (unbounded : IsUnbounded policy) (now : ℕ) where
  -- nothing leaves without limits
  cleanup-same : {K V : Type 0} (eq : K → K → Bool) (contents : Contents K V) → after_cleanup eq policy now contents ≡ contents
  cleanup-same eq contents =
      ap (λ limit. after_trim eq limit (after_expiry eq policy now contents)) unbounded.0
      ∙ expiry-same policy (unbounded.1, unbounded.2) now eq contents

-- ---- what stands at a key

module _ {K V : Type 0} {eq : K → K → Bool} (laws : IsEquivalence eq) where
  -- equal keys have the same entry
  pub entry_at-equal : (key other : K) → eq key other ≡ true → (entries : List (Entry K V))
      → entry_at eq key entries ≡ entry_at eq other entries
  entry_at-equal key other equal entries = λ i. find (λ e. laws.congr key other e.key equal i) entries

  -- another key has the entry that it had
  pub entry_at-other : (gone key : K) → eq gone key ≡ false → (entries : List (Entry K V))
      → entry_at eq key (entries_without eq gone entries) ≡ entry_at eq key entries
  entry_at-other gone key differ [] = refl
  entry_at-other gone key differ (e ∷ es) =
      elim (cases_Bool (eq gone e.key)) [
        | inl leaves ↦
            ap (entry_at eq key)
            (cond-false (not (eq gone e.key)) (e ∷ entries_without eq gone es) (entries_without eq gone es) (ap not leaves))
            ∙ (entry_at-other gone key differ es
            ∙ sym (cond-false (eq key e.key) (Some e) (entry_at eq key es)
            (laws.symm key e.key ∙ (sym (laws.congr gone e.key key leaves) ∙ differ))))
        | inr stays ↦
            ap (entry_at eq key)
            (cond-true (not (eq gone e.key)) (e ∷ entries_without eq gone es) (entries_without eq gone es) (ap not stays))
            ∙ ap (cond (eq key e.key) (Some e)) (entry_at-other gone key differ es)
      ]

  -- a new entry stands at its key, where none stood
  pub entry_at-push : (key : K) (new : Entry K V) (entries : List (Entry K V)) → (eq new.key key ≡ true → entry_at eq key entries ≡ None)
      → entry_at eq key (entries ++ new ∷ []) ≡ cond (eq new.key key) (Some new) (entry_at eq key entries)
  entry_at-push key new entries absent =
      find-append (λ e. eq key e.key) entries (new ∷ [])
      ∙ elim (cases_Bool (eq new.key key)) [
        | inl equal ↦
            (λ i. option_or (absent equal i) (cond-true (eq key new.key) (Some new) None (laws.symm key new.key ∙ equal) i))
            ∙ sym (cond-true (eq new.key key) (Some new) (entry_at eq key entries) equal)
        | inr differ ↦
            ap (option_or (entry_at eq key entries)) (cond-false (eq key new.key) (Some new) None (laws.symm key new.key ∙ differ))
            ∙ (or_none (entry_at eq key entries)
            ∙ sym (cond-false (eq new.key key) (Some new) (entry_at eq key entries) differ))
      ]
    where
      or_none : (o : Option (Entry K V)) → option_or o None ≡ o
      or_none None = refl
      or_none (Some e) = refl

  -- an entry that takes the place of another stands at its key
  pub entry_at-put : (key : K) (new : Entry K V) (entries : List (Entry K V))
      → entry_at eq key (entries_without eq new.key entries ++ new ∷ []) ≡ cond (eq new.key key) (Some new) (entry_at eq key entries)
  entry_at-put key new entries =
      entry_at-push key new (entries_without eq new.key entries) (λ equal. entry_at-gone eq laws new.key key equal entries)
      ∙ elim (cases_Bool (eq new.key key)) [
        | inl equal ↦ cond-true (eq new.key key) (Some new) _ equal ∙ sym (cond-true (eq new.key key) (Some new) _ equal)
        | inr differ ↦ ap (cond (eq new.key key) (Some new)) (entry_at-other new.key key differ entries)
      ]

  -- a new entry stands at its key, wherever it is put
  pub entry_at-latest : (key : K) (new : Entry K V) (entries : List (Entry K V)) → entry_at eq new.key entries ≡ None
      → entry_at eq key (with_latest new entries) ≡ cond (eq new.key key) (Some new) (entry_at eq key entries)
  entry_at-latest key new entries absent =
      let (front, back, parts, latest) = latest_parts new entries in
      let before = find-append (λ e. eq key e.key) front back in
      ap (entry_at eq key) latest
      ∙ (find-append (λ e. eq key e.key) front (new ∷ back)
      ∙ elim (cases_Bool (eq new.key key)) [
        | inl equal ↦
            (λ i. option_or
            (or_left (entry_at eq key front) (entry_at eq key back)
            (sym before ∙ (sym (ap (entry_at eq key) parts) ∙ (sym (entry_at-equal new.key key equal entries) ∙ absent))) i)
            (cond-true (eq key new.key) (Some new) (entry_at eq key back) (laws.symm key new.key ∙ equal) i))
            ∙ sym (cond-true (eq new.key key) (Some new) (entry_at eq key entries) equal)
        | inr differ ↦
            ap (option_or (entry_at eq key front))
            (cond-false (eq key new.key) (Some new) (entry_at eq key back) (laws.symm key new.key ∙ differ))
            ∙ (sym before
            ∙ (sym (ap (entry_at eq key) parts) ∙ sym (cond-false (eq new.key key) (Some new) (entry_at eq key entries) differ)))
      ])
    where
      or_left : (a b : Option (Entry K V)) → option_or a b ≡ None → a ≡ None
      or_left None b none = refl
      or_left (Some e) b none = none

  -- and so does one that moves
  pub entry_at-moved : (key : K) (moved : Entry K V) (entries : List (Entry K V))
      → entry_at eq key (with_latest moved (entries_without eq moved.key entries)) ≡ cond (eq moved.key key) (Some moved) (entry_at eq key entries)
  entry_at-moved key moved entries =
      entry_at-latest key moved (entries_without eq moved.key entries) (entry_at-gone eq laws moved.key moved.key (laws.refl moved.key) entries)
      ∙ elim (cases_Bool (eq moved.key key)) [
        | inl equal ↦ cond-true (eq moved.key key) (Some moved) _ equal ∙ sym (cond-true (eq moved.key key) (Some moved) _ equal)
        | inr differ ↦ ap (cond (eq moved.key key) (Some moved)) (entry_at-other moved.key key differ entries)
      ]

  -- and so does one that is used, in whatever part it then is, as do all others
  pub entry_at-using : (room : ℕ) (key : K) (entry : Entry K V) (contents : Contents K V)
      → (f : Part → Part) × (entry_at eq key (after_using eq room entry contents).entries
      ≡ placed f (cond (eq entry.key key) (Some entry) (entry_at eq key contents.entries)))
  entry_at-using room key entry contents =
      let used = record entry { part = used_part room entry.part entry.weight } in
      let es = with_latest used (entries_without eq entry.key contents.entries) in
      let (f, at) = entry_at-demoted eq key (total_weight (protected_of es) - room) es in
      let stands = ap (placed f) (entry_at-moved key used contents.entries) in
      elim (cases_Bool (eq entry.key key)) [
        | inl equal ↦ (
          λ part. f used.part,
          at
              ∙ (stands
              ∙ (ap (placed f) (cond-true (eq entry.key key) (Some used) (entry_at eq key contents.entries) equal)
              ∙ sym (ap (placed (λ part. f used.part)) (cond-true (eq entry.key key) (Some entry) (entry_at eq key contents.entries) equal)))),
        )
        | inr differ ↦ (
          f,
          at
              ∙ (stands
              ∙ (ap (placed f) (cond-false (eq entry.key key) (Some used) (entry_at eq key contents.entries) differ)
              ∙ sym (ap (placed f) (cond-false (eq entry.key key) (Some entry) (entry_at eq key contents.entries) differ)))),
        )
      ]

-- ---- what value it has

-- a choice between values
value_of : {K V : Type 0} (b : Bool) (x y : Option (Entry K V))
    → option_map (λ e. e.value) (cond b x y) ≡ cond b (option_map (λ e. e.value) x) (option_map (λ e. e.value) y)
value_of true x y = refl
value_of false x y = refl

-- what two leave
pub gone_either : {X : Type 0} (a b : Bool) (x : Option X) → cond b None (cond a None x) ≡ cond (a || b) None x
gone_either true true x = refl
gone_either true false x = refl
gone_either false true x = refl
gone_either false false x = refl

module _ {K V : Type 0} {eq : K → K → Bool} (laws : IsEquivalence eq) (key : K) where
  -- the value at the key
  abbrev value_in : List (Entry K V) → Option V
  value_in entries = option_map (λ e. e.value) (entry_at eq key entries)

  -- where a key leaves, so does its value
  value-without : (gone : K) (entries : List (Entry K V))
      → value_in (entries_without eq gone entries) ≡ cond (eq gone key) None (value_in entries)
  value-without gone entries =
      elim (cases_Bool (eq gone key)) [
        | inl equal ↦
            ap (option_map (λ e. e.value)) (entry_at-gone eq laws gone key equal entries)
            ∙ sym (cond-true (eq gone key) None (value_in entries) equal)
        | inr differ ↦
            ap (option_map (λ e. e.value)) (entry_at-other laws gone key differ entries)
            ∙ sym (cond-false (eq gone key) None (value_in entries) differ)
      ]

  -- where entries leave, so do the values at their keys
  value-leaving : (gone : List (Entry K V)) (contents : Contents K V)
      → value_in (after_leaving eq (entry_keys gone) contents).entries ≡ cond (list_any (λ e. eq e.key key) gone) None
      (value_in contents.entries)
  value-leaving [] contents = refl
  value-leaving (g ∷ gs) contents =
      value-leaving gs (without eq contents g.key)
      ∙ (ap (cond (list_any (λ e. eq e.key key) gs) None) (value-without g.key contents.entries)
      ∙ gone_either (eq g.key key) (list_any (λ e. eq e.key key) gs) (value_in contents.entries))

  -- an entry that is used brings its value
  value-using : (room : ℕ) (new : Entry K V) (contents : Contents K V)
      → value_in (after_using eq room new contents).entries ≡ cond (eq new.key key) (Some new.value) (value_in contents.entries)
  value-using room new contents =
      let (f, at) = entry_at-using laws room key new contents in
      ap (option_map (λ e. e.value)) at
      ∙ (placed-map (λ e. e.value) (λ e part. refl) f (cond (eq new.key key) (Some new) (entry_at eq key contents.entries))
      ∙ value_of (eq new.key key) (Some new) (entry_at eq key contents.entries))

  -- a use changes no value
  value-used : (room now : ℕ) (other : K) (o : Option (Entry K V)) (contents : Contents K V) → entry_at eq other contents.entries ≡ o
      → value_in (after_use eq room now o contents).entries ≡ value_in contents.entries
  value-used room now other None contents found = refl
  value-used room now other (Some e) contents found =
      value-using room (record e { accessed = now }) contents
      ∙ elim (cases_Bool (eq e.key key)) [
        | inl equal ↦
            cond-true (eq e.key key) (Some e.value) (value_in contents.entries) equal
            ∙ sym (ap (option_map (λ e. e.value))
            (sym (entry_at-equal laws e.key key equal contents.entries)
            ∙ (sym (entry_at-equal laws other e.key (found_key eq other e contents.entries found) contents.entries) ∙ found)))
        | inr differ ↦ cond-false (eq e.key key) (Some e.value) (value_in contents.entries) differ
      ]

  module _ {S W : Type 0} where
    -- an insert brings the value
    value-inserted : (cache : CacheState K V S W) (o : Option (Entry K V)) (new : Entry K V) (refused : Refused)
        → cache.settings.policy.max_capacity ≡ None
        → entry_at eq new.key cache.contents.entries ≡ o
        → value_in (after_put eq cache o new refused).contents.entries ≡ cond (eq new.key key) (Some new.value)
        (value_in cache.contents.entries)
    value-inserted cache None new refused unbounded found =
        ap (λ limit. value_in (after_new eq cache (windowed_limits cache.shares limit) new refused).contents.entries) unbounded
        ∙ (ap (λ limit. value_in (after_verdict eq cache new (victims_of limit cache.sketch new cache.contents.entries) refused).contents.entries)
        unbounded
        ∙ (ap (option_map (λ e. e.value))
        (entry_at-latest laws key new cache.contents.entries found)
        ∙ value_of (eq new.key key) (Some new) (entry_at eq key cache.contents.entries)))
    value-inserted cache (Some old) new refused unbounded found =
        value-using (room_of cache) (record new { key = old.key; hash = old.hash; part = old.part }) cache.contents
        ∙ ap (λ b. cond b (Some new.value) (value_in cache.contents.entries))
        (sym (laws.congr new.key old.key key (found_key eq new.key old cache.contents.entries found)))

-- ---- pairs

module _ {K V S : Type 0} (keys : Keys K S) (key : K) where
  -- the pairs have the entries' values
  value-pairs : (entries : List (Entry K V))
      → value_at keys key (pairs_of entries) ≡ option_map (λ e. e.value) (entry_at keys.eq key entries)
  value-pairs [] = refl
  value-pairs (e ∷ es) =
      let found = find (λ p. keys.eq key p.0) (pairs_of es) in
      elim (cases_Bool (keys.eq key e.key)) [
        | inl equal ↦
            ap (option_map (λ p. p.1)) (cond-true (keys.eq key e.key) (Some (e.key, e.value)) found equal)
            ∙ sym (ap (option_map (λ e. e.value)) (cond-true (keys.eq key e.key) (Some e) (entry_at keys.eq key es) equal))
        | inr differ ↦
            ap (option_map (λ p. p.1)) (cond-false (keys.eq key e.key) (Some (e.key, e.value)) found differ)
            ∙ (value-pairs es
            ∙ sym (ap (option_map (λ e. e.value)) (cond-false (keys.eq key e.key) (Some e) (entry_at keys.eq key es) differ)))
      ]

module _ {K V : Type 0} where
  -- a key is among the pairs as it is among the entries
  any-pairs : (eq : K → K → Bool) (key : K) (entries : List (Entry K V))
      → list_any (λ p. eq p.0 key) (pairs_of entries) ≡ list_any (λ e. eq e.key key) entries
  any-pairs eq key [] = refl
  any-pairs eq key (e ∷ es) = ap (λ b. eq e.key key || b) (any-pairs eq key es)

  -- the same answers choose the same pairs
  chosen-pairs : (answers : List Bool) (entries : List (Entry K V)) → chosen answers (pairs_of entries) ≡ pairs_of (chosen answers entries)
  chosen-pairs [] entries = refl
  chosen-pairs (true ∷ answers) [] = refl
  chosen-pairs (false ∷ answers) [] = refl
  chosen-pairs (true ∷ answers) (e ∷ es) = ap (λ l. (e.key, e.value) ∷ l) (chosen-pairs answers es)
  chosen-pairs (false ∷ answers) (e ∷ es) = chosen-pairs answers es

  -- an iterator gives all of them
  pairs-unexpired : (policy : Policy) → IsUnbounded policy → (now : ℕ) (entries : List (Entry K V))
      → unexpired_pairs policy now entries ≡ pairs_of entries
  pairs-unexpired policy unbounded now [] = refl
  pairs-unexpired policy unbounded now (e ∷ es) =
      let fresh = filter (λ e. not (is_expired policy now e)) es in
      ap pairs_of (cond-true (not (is_expired policy now e)) (e ∷ fresh) fresh
      (λ i. not (lives policy (unbounded.1, unbounded.2) now (expiry_of e) i || used policy (unbounded.1, unbounded.2) now e.accessed i)))
      ∙ ap (λ l. (e.key, e.value) ∷ l) (pairs-unexpired policy unbounded now es)

-- ---- what a step does

-- a value tells as much as its entry
pub told_by_value : {K V : Type 0} (o : Option (Entry K V)) → is_some o ≡ is_some (option_map (λ e. e.value) o)
told_by_value None = refl
told_by_value (Some e) = refl

-- what a cache was made with
abbrev pub terms_of : {K V S W : Type 0} → CacheState K V S W → Settings S × Shares
terms_of cache = (cache.settings, record cache.shares { extra = 0 })

-- its settings and its shares as they are
abbrev pub given_of : {K V S W : Type 0} → CacheState K V S W → Settings S × Shares
given_of cache = (cache.settings, cache.shares)

module _ {K V S W : Type 0} (eq : K → K → Bool) where
  -- asking for a table changes neither
  pub given-standing : (cache : CacheState K V S W) (new : Entry K V) (refused : Refused)
      → given_of (after_standing eq cache new refused) ≡ given_of cache
  given-standing cache new refused = by (is_some (entry_at eq new.key cache.contents.entries))
    where
      by : (b : Bool) → given_of (cond b (after_asking eq refused cache) cache) ≡ given_of cache
      by true = refl
      by false = refl

  -- an insert leaves that
  pub terms-put : (cache : CacheState K V S W) (o : Option (Entry K V)) (new : Entry K V) (refused : Refused)
      → terms_of (after_put eq cache o new refused) ≡ terms_of cache
  terms-put cache None new refused = terms-new (windowed cache)
    where
      by : (gone : Option (List (Entry K V))) → terms_of (after_verdict eq cache new gone refused) ≡ terms_of cache
      by None = refl
      by (Some victims) = refl

      standing : (b : Bool) (left : CacheState K V S W) → terms_of left ≡ terms_of cache
          → terms_of (cond b (after_asking eq refused left) left) ≡ terms_of cache
      standing true left same = same
      standing false left same = same

      turning : (memory : Option Memory) (limit : PartLimits) (contents : Contents K V)
          → terms_of (after_turn eq cache memory limit new contents) ≡ terms_of cache
      turning None limit contents = refl
      turning (Some memory) limit contents = refl

      terms-new : (limit : Option PartLimits) → terms_of (after_new eq cache limit new refused) ≡ terms_of cache
      terms-new None = by (victims_of cache.settings.policy.max_capacity cache.sketch new cache.contents.entries)
      terms-new (Some limit) =
          let contents = after_entering eq (keeps_writes cache.settings.policy) limit cache.sketch new cache.contents in
          let next = after_turn eq cache cache.memory limit new contents in
          standing (is_some (entry_at eq new.key next.contents.entries)) next (turning cache.memory limit contents)
  terms-put cache (Some old) new refused = refl

module _ {K V S W : Type 0} (keys : Keys K S) where
  -- a call finds what stood there
  look-same : (cache : CacheState K V S W) → IsUnbounded cache.settings.policy → (now : ℕ)
      → (after_look keys cache now).contents ≡ cache.contents
  look-same cache unbounded now = cleanup-same cache.settings.policy unbounded now keys.eq cache.contents

  -- a peek finds what a plain map has
  seen_in_map : (cache : CacheState K V S W) → IsUnbounded cache.settings.policy → (key : K) (now : ℕ)
      → found_by_peek keys cache key now ≡ value_at keys key (pairs_of cache.contents.entries)
  seen_in_map cache unbounded key now =
      ap (option_map (λ e. e.value)) (unexpired-same cache.settings.policy (unbounded.1, unbounded.2) now (entry_at keys.eq key cache.contents.entries))
      ∙ sym (value-pairs keys key cache.contents.entries)

  -- and so does a get or a removal
  found_in_map : (cache : CacheState K V S W) → IsUnbounded cache.settings.policy → (key : K) (now : ℕ)
      → found_by_get keys cache key now ≡ value_at keys key (pairs_of cache.contents.entries)
  found_in_map cache unbounded key now =
      ap (λ c. option_map (λ e. e.value) (unexpired_at keys.eq cache.settings.policy now key c)) (look-same cache unbounded now)
      ∙ seen_in_map cache unbounded key now

module _ {K V S W : Type 0} (keys : Keys K S) (weighs : W → K → V → ℕ → W → Type 0) where
  -- each call leaves what the cache was made with
  pub terms-step : (old new : CacheState K V S W) (request : Request K V) (answer : Answer K V)
      → IsStep keys weighs old request answer new
      → terms_of new ≡ terms_of old
  terms-step old new (Get other now) answer step = ap terms_of step.1
  terms-step old new (Peek other now) answer step = ap terms_of step.1
  terms-step old new (ContainsKey other now) answer step = ap terms_of step.1
  terms-step old new (Miss hash now) answer step = ap terms_of step.1
  terms-step old new (Insert other value own now) answer (inl (done, inserted)) =
      let kept = (after_look keys old now).contents in
      let entry = new_entry keys old.settings other value inserted.weight own now in
      ap terms_of inserted.step
      ∙ terms-put keys.eq (record old { weigher = inserted.weigher; capacity = inserted.capacity; contents = kept })
      (entry_at keys.eq other kept.entries) entry
      inserted.refused
  terms-step old new (Insert other value own now) answer (inr (refused, same)) = ap terms_of same.same
  terms-step old new (Invalidate other now) answer step = ap terms_of step.1
  terms-step old new (Remove other now) answer step = ap terms_of step.1
  terms-step old new InvalidateAll answer step = ap terms_of step.1
  terms-step old new (InvalidateEntriesIf answers) answer step = ap terms_of step.1
  terms-step old new (Iterate now) answer step = ap terms_of step.1
  terms-step old new EntryCount answer step = ap terms_of step.1
  terms-step old new WeightedSize answer step = ap terms_of step.1

  pub settings-step : (old new : CacheState K V S W) (request : Request K V) (answer : Answer K V)
      → IsStep keys weighs old request answer new
      → new.settings ≡ old.settings
  settings-step old new request answer step = ap (λ t. t.0) (terms-step old new request answer step)

  module _ (laws : IsEquivalence keys.eq) where
    -- each call answers what it would with a plain map
    answers_as_map : (old new : CacheState K V S W) (request : Request K V) (answer : Answer K V) → IsUnbounded old.settings.policy
        → answer ≢ OutOfMemory
        → IsStep keys weighs old request answer new → IsMapAnswer keys (pairs_of old.contents.entries) request answer
    answers_as_map old new (Get other now) answer unbounded known step = step.0 ∙ ap Found (found_in_map keys old unbounded other now)
    answers_as_map old new (Peek other now) answer unbounded known step = step.0 ∙ ap Found (seen_in_map keys old unbounded other now)
    answers_as_map old new (ContainsKey other now) answer unbounded known step =
        step.0
        ∙ ap Truth (ap (λ c. is_some (unexpired_at keys.eq old.settings.policy now other c)) (look-same keys old unbounded now)
        ∙ (ap is_some (unexpired-same old.settings.policy (unbounded.1, unbounded.2) now (entry_at keys.eq other old.contents.entries))
        ∙ (told_by_value (entry_at keys.eq other old.contents.entries)
        ∙ ap is_some (sym (value-pairs keys other old.contents.entries)))))
    answers_as_map old new (Miss hash now) answer unbounded known step = step.0
    answers_as_map old new (Insert other value own now) answer unbounded known (inl (done, inserted)) = done
    answers_as_map old new (Insert other value own now) answer unbounded known (inr (refused, same)) = absurd (known refused)
    answers_as_map old new (Invalidate other now) answer unbounded known step = step.0
    answers_as_map old new (Remove other now) answer unbounded known step = step.0 ∙ ap Found (found_in_map keys old unbounded other now)
    answers_as_map old new InvalidateAll answer unbounded known step = step.0
    answers_as_map old new (InvalidateEntriesIf answers) answer unbounded known step = step.0.0
    answers_as_map old new (Iterate now) answer unbounded known step =
        step.0 ∙ ap Pairs (pairs-unexpired old.settings.policy unbounded now old.contents.entries)
    answers_as_map old new EntryCount answer unbounded known step =
        step.0 ∙ ap Number (sym (length-map old.contents.entries (λ e. (e.key, e.value))))
    answers_as_map old new WeightedSize answer unbounded known step = tt

    -- the value at a key in a cache
    abbrev cached_value : K → CacheState K V S W → Option V
    cached_value key cache = value_at keys key (pairs_of cache.contents.entries)

    -- where the entries have the same value at a key, so have their pairs
    same_value : (key : K) (new old : List (Entry K V)) → value_in laws key new ≡ value_in laws key old
        → value_at keys key (pairs_of new) ≡ value_at keys key (pairs_of old)
    same_value key new old same = value-pairs keys key new ∙ (same ∙ sym (value-pairs keys key old))

    -- and so where the entries have another value on a condition
    other_value : (key : K) (changes : Bool) (value : Option V) (new old : List (Entry K V))
        → value_in laws key new ≡ cond changes value (value_in laws key old)
        → value_at keys key (pairs_of new) ≡ cond changes value (value_at keys key (pairs_of old))
    other_value key changes value new old other =
        value-pairs keys key new ∙ (other ∙ ap (cond changes value) (sym (value-pairs keys key old)))

    -- each call does to the values what it would with a plain map
    values_as_map : (old new : CacheState K V S W) (request : Request K V) (answer : Answer K V) → IsUnbounded old.settings.policy
        → answer ≢ OutOfMemory
        → IsStep keys weighs old request answer new
        → (key : K) → cached_value key new ≡ value_after keys (pairs_of old.contents.entries) request key
    values_as_map old new (Get other now) answer unbounded known step key =
        ap (cached_value key) step.1
        ∙ (ap (λ c. value_at keys key (pairs_of (after_search keys.eq (room_of old) old.settings.policy now other c).entries))
        (look-same keys old unbounded now)
        ∙ (ap (λ o. value_at keys key (pairs_of (after_use keys.eq (room_of old) now o old.contents).entries))
        (unexpired-same old.settings.policy (unbounded.1, unbounded.2) now (entry_at keys.eq other old.contents.entries))
        ∙ same_value key (after_use keys.eq (room_of old) now (entry_at keys.eq other old.contents.entries) old.contents).entries old.contents.entries
        (value-used laws key (room_of old) now other (entry_at keys.eq other old.contents.entries) old.contents refl)))
    values_as_map old new (Peek other now) answer unbounded known step key = ap (cached_value key) step.1
    values_as_map old new (ContainsKey other now) answer unbounded known step key =
        ap (cached_value key) step.1 ∙ ap (λ c. value_at keys key (pairs_of c.entries)) (look-same keys old unbounded now)
    values_as_map old new (Miss hash now) answer unbounded known step key =
        ap (cached_value key) step.1 ∙ ap (λ c. value_at keys key (pairs_of c.entries)) (look-same keys old unbounded now)
    values_as_map old new (Insert other value own now) answer unbounded known (inl (done, inserted)) key =
        let entry = new_entry keys old.settings other value inserted.weight own now in
        let asked : CacheState K V S W = record old { weigher = inserted.weigher; capacity = inserted.capacity } in
        let put = after_put keys.eq asked (entry_at keys.eq other old.contents.entries) entry inserted.refused in
        ap (cached_value key) inserted.step
        ∙ (ap (λ c. cached_value key
        (after_put keys.eq (record asked { contents = c }) (entry_at keys.eq other c.entries) entry inserted.refused))
        (look-same keys old unbounded now)
        ∙ other_value key (keys.eq other key) (Some value) put.contents.entries old.contents.entries
        (value-inserted laws key asked (entry_at keys.eq other old.contents.entries) entry inserted.refused unbounded.0 refl))
    values_as_map old new (Insert other value own now) answer unbounded known (inr (refused, same)) key = absurd (known refused)
    values_as_map old new (Invalidate other now) answer unbounded known step key =
        ap (cached_value key) step.1
        ∙ (ap (λ c. value_at keys key (pairs_of (entries_without keys.eq other c.entries))) (look-same keys old unbounded now)
        ∙ other_value key (keys.eq other key) None (entries_without keys.eq other old.contents.entries) old.contents.entries
        (value-without laws key other old.contents.entries))
    values_as_map old new (Remove other now) answer unbounded known step key =
        ap (cached_value key) step.1
        ∙ (ap (λ c. value_at keys key (pairs_of (entries_without keys.eq other c.entries))) (look-same keys old unbounded now)
        ∙ other_value key (keys.eq other key) None (entries_without keys.eq other old.contents.entries) old.contents.entries
        (value-without laws key other old.contents.entries))
    values_as_map old new InvalidateAll answer unbounded known step key = ap (cached_value key) step.1
    values_as_map old new (InvalidateEntriesIf answers) answer unbounded known step key =
        let gone = chosen answers old.contents.entries in
        let gone_pairs : list_any (λ p. keys.eq p.0 key) (chosen answers (pairs_of old.contents.entries)) ≡ list_any
        (λ e. keys.eq e.key key) gone =
        ap (list_any (λ p. keys.eq p.0 key)) (chosen-pairs answers old.contents.entries) ∙ any-pairs keys.eq key gone in
        ap (cached_value key) step.1
        ∙ (other_value key (list_any (λ e. keys.eq e.key key) gone) None (after_leaving keys.eq (entry_keys gone) old.contents).entries
        old.contents.entries (value-leaving laws key gone old.contents)
        ∙ ap (λ b. cond b None (cached_value key old)) (sym gone_pairs))
    values_as_map old new (Iterate now) answer unbounded known step key = ap (cached_value key) step.1
    values_as_map old new EntryCount answer unbounded known step key = ap (cached_value key) step.1
    values_as_map old new WeightedSize answer unbounded known step key = ap (cached_value key) step.1

    -- all together
    pub steps_as_map : StepsAsMap keys weighs
    steps_as_map old new request answer unbounded known step =
        record {
          answers = answers_as_map old new request answer unbounded known step;
          values = values_as_map old new request answer unbounded known step;
          once = λ once.
              subst (IsDistinct keys.eq) (sym (keys-pairs new.contents.entries))
              (once-step keys laws weighs old new request answer step (subst (IsDistinct keys.eq) (keys-pairs old.contents.entries) once));
        }

    -- and so do all calls of a run
    pub runs_as_map : RunsAsMap keys weighs
    runs_as_map old new [] answers unbounded known (none, same) = (none, ap (λ c. pairs_of c.contents.entries) same)
    runs_as_map old new (request ∷ requests) answers unbounded known (answer, rest, next, is, step, runs) =
        let known : AllByRecursion (λ answer. answer ≢ OutOfMemory) (answer ∷ rest) =
        subst (AllByRecursion (λ answer. answer ≢ OutOfMemory)) is known in (
          answer,
          rest,
          pairs_of next.contents.entries,
          is,
          steps_as_map old next request answer unbounded known.0 step,
          runs_as_map next new requests rest
              (subst (λ s. IsUnbounded s.policy) (sym (settings-step old next request answer step)) unbounded) known.1 runs,
        )
