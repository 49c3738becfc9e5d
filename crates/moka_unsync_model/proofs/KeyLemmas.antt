-- Lemmas on keys that stand once.
use Rattle.std.proofs.Common.{◌≡◌, ◌-◌, ◌||◌, ℕ, Bool, true, false, cond, not, List, [], ◌∷◌, ◌++◌, filter}
use Rattle.std.proofs.Common.{is_some, Option, Some, None, refl, sym, ap, ◌∙◌, inl, inr, subst}
use Rattle.std.proofs.lemmas.Bool.{cases_Bool, cond-true, cond-false, false≢true}
use Rattle.std.proofs.lemmas.Map.Keys.{IsDistinct-cons, IsDistinct-head, IsDistinct-push, IsDistinct-tail}
use Rattle.std.proofs.lemmas.Map.Made.{IsDistinct-keys_filter}
use Rattle.std.specs.Cmp.{IsEquivalence}
use Rattle.std.specs.List.{AllByRecursion, IsDistinct, list_any}
use Rattle.std.specs.Map.{keys_of}
use Rattle.moka_common.specs.Keys.{Keys}
use Rattle.moka_common.specs.Settings.{keeps_writes}
use Rattle.moka_common.specs.Sketch.{Table}
use Rattle.moka_unsync_model.specs.declared.entry.Entry.{Entry}
use Rattle.moka_unsync_model.specs.Contents.{Contents, after_leaving, after_moving, entry_at, entries_without, entry_keys, main_of, with_latest, without}
use Rattle.moka_unsync_model.specs.Contents.{protected_of, total_weight}
use Rattle.moka_unsync_model.specs.CacheState.{CacheState, new_cache, room_of, windowed}
use Rattle.moka_unsync_model.specs.Insert.{Refused, after_asking, after_entering, after_entry, after_new, after_put, after_standing, after_turn, after_verdict}
use Rattle.moka_unsync_model.specs.Insert.{new_entry}
use Rattle.moka_unsync_model.specs.Window.{after_candidacy, after_candidates, after_sharing, candidates, victims_of}
use Rattle.moka_unsync_model.specs.Laws.{KeysStandOnce, Remains}
use Rattle.moka_unsync_model.specs.Lookup.{after_look, after_use, unexpired_at, after_using, used_part}
use Rattle.moka_unsync_model.specs.Iterate.{pairs_of}
use Rattle.moka_unsync_model.specs.Step.{Answer, IsStep, Request, Runs, Get, Peek, ContainsKey, Miss, Insert, Invalidate, Remove}
use Rattle.moka_unsync_model.specs.Step.{InvalidateAll, InvalidateEntriesIf, Iterate, EntryCount, WeightedSize}
use Rattle.moka_unsync_model.proofs.ContentsLemmas.{absent-leaving}
use Rattle.moka_unsync_model.proofs.WindowLemmas.{goes_before}
use Rattle.moka_unsync_model.proofs.RemainLemmas.{invalidations, looks, remains-leaving, remains-cleanup}
use Rattle.moka_unsync_model.specs.declared.shares.PartLimits.{PartLimits}
use Rattle.moka_unsync_model.specs.Shares.{main_limit}
use Rattle.moka_unsync_model.specs.declared.entry.Part.TheVariants.{Probation, Window}
use Rattle.moka_unsync_model.proofs.PartLemmas.{keys-demoted}
use Rattle.moka_unsync_model.proofs.SharingLemmas.{left-remains, stays_of, turned}

module _ {K V : Type 0} where
  -- the pairs have the entries' keys
  pub keys-pairs : (entries : List (Entry K V)) → keys_of (pairs_of entries) ≡ entry_keys entries
  keys-pairs [] = refl
  keys-pairs (e ∷ es) = ap (λ l. e.key ∷ l) (keys-pairs es)

  -- what passes a test of its key passes it as a pair
  pairs-filter : (stays : K → Bool) (entries : List (Entry K V))
      → pairs_of (filter (λ e. stays e.key) entries) ≡ filter (λ p. stays p.0) (pairs_of entries)
  pairs-filter stays [] = refl
  pairs-filter stays (e ∷ es) =
      let passing = filter (λ e. stays e.key) es in
      elim (cases_Bool (stays e.key)) [
        | inl passes ↦
            ap pairs_of (cond-true (stays e.key) (e ∷ passing) passing passes)
            ∙ (ap (λ l. (e.key, e.value) ∷ l) (pairs-filter stays es)
            ∙ sym (cond-true (stays e.key) ((e.key, e.value) ∷ filter (λ p. stays p.0) (pairs_of es))
            (filter (λ p. stays p.0) (pairs_of es)) passes))
        | inr fails ↦
            ap pairs_of (cond-false (stays e.key) (e ∷ passing) passing fails)
            ∙ (pairs-filter stays es
            ∙ sym (cond-false (stays e.key) ((e.key, e.value) ∷ filter (λ p. stays p.0) (pairs_of es))
            (filter (λ p. stays p.0) (pairs_of es)) fails))
      ]

  -- one more entry has one more key
  keys-push : (entries : List (Entry K V)) (new : Entry K V) → entry_keys (entries ++ new ∷ []) ≡ entry_keys entries ++ new.key ∷ []
  keys-push [] new = refl
  keys-push (e ∷ es) new = ap (λ l. e.key ∷ l) (keys-push es new)

module _ {K V : Type 0} (eq : K → K → Bool) where
  -- no key stands twice
  abbrev pub StandOnce : List (Entry K V) → Type 0
  StandOnce entries = IsDistinct eq (entry_keys entries)

  -- what remains stands once
  pub once-remains : (old new : Contents K V) → Remains old new → StandOnce old.entries → StandOnce new.entries
  once-remains old new remains once =
      let pairs = filter (λ p. remains.stays p.0) (pairs_of old.entries) in
      let same : keys_of pairs ≡ entry_keys new.entries =
      ap keys_of (sym (ap pairs_of remains.entries ∙ pairs-filter remains.stays old.entries)) ∙ keys-pairs new.entries in
      subst (IsDistinct eq) same
      (IsDistinct-keys_filter eq (λ p. remains.stays p.0) (pairs_of old.entries)
      (subst (IsDistinct eq) (sym (keys-pairs old.entries)) once))

  -- a key without an entry is none of the keys
  unlisted : (key : K) (entries : List (Entry K V)) → entry_at eq key entries ≡ None → list_any (eq key) (entry_keys entries) ≡ false
  unlisted key [] absent = refl
  unlisted key (e ∷ es) absent =
      elim (cases_Bool (eq key e.key)) [
        | inl equal ↦ absurd (false≢true (sym (ap is_some (sym (cond-true (eq key e.key) (Some e) (entry_at eq key es) equal) ∙ absent))))
        | inr differ ↦
            ap (λ b. b || list_any (eq key) (entry_keys es)) differ
            ∙ unlisted key es (sym (cond-false (eq key e.key) (Some e) (entry_at eq key es) differ) ∙ absent)
      ]

  module _ (laws : IsEquivalence eq) where
    -- a key that has left has no entry
    pub entry_at-gone : (gone key : K) → eq gone key ≡ true → (entries : List (Entry K V))
        → entry_at eq key (entries_without eq gone entries) ≡ None
    entry_at-gone gone key equal [] = refl
    entry_at-gone gone key equal (e ∷ es) =
        elim (cases_Bool (eq gone e.key)) [
          | inl leaves ↦
              ap (entry_at eq key)
              (cond-false (not (eq gone e.key)) (e ∷ entries_without eq gone es) (entries_without eq gone es) (ap not leaves))
              ∙ entry_at-gone gone key equal es
          | inr stays ↦
              ap (entry_at eq key)
              (cond-true (not (eq gone e.key)) (e ∷ entries_without eq gone es) (entries_without eq gone es) (ap not stays))
              ∙ (cond-false (eq key e.key) (Some e) (entry_at eq key (entries_without eq gone es))
              (sym (laws.congr gone key e.key equal) ∙ stays)
              ∙ entry_at-gone gone key equal es)
        ]

    -- a new key stands once
    pub once-push : (entries : List (Entry K V)) (new : Entry K V) → entry_at eq new.key entries ≡ None → StandOnce entries
        → StandOnce (entries ++ new ∷ [])
    once-push entries new absent once =
        subst (IsDistinct eq) (sym (keys-push entries new))
        (IsDistinct-push laws (entry_keys entries) new.key once (unlisted new.key entries absent))

    -- and so does one that takes its entry's place
    pub once-put : (contents : Contents K V) (new : Entry K V) → StandOnce contents.entries
        → StandOnce (entries_without eq new.key contents.entries ++ new ∷ [])
    once-put contents new once =
        once-push (entries_without eq new.key contents.entries) new (entry_at-gone new.key new.key (laws.refl new.key) contents.entries)
        (once-remains contents (after_leaving eq (new.key ∷ []) contents) (remains-leaving eq (new.key ∷ []) contents) once)

    -- a key without an entry differs from each key
    apart : (key : K) (entries : List (Entry K V)) → entry_at eq key entries ≡ None → AllByRecursion (λ k. eq key k ≡ false) (entry_keys entries)
    apart key [] absent = tt
    apart key (e ∷ es) absent =
        elim (cases_Bool (eq key e.key)) [
          | inl equal ↦ absurd (false≢true (sym (ap is_some (sym (cond-true (eq key e.key) (Some e) (entry_at eq key es) equal) ∙ absent))))
          | inr differ ↦ (differ, apart key es (sym (cond-false (eq key e.key) (Some e) (entry_at eq key es) differ) ∙ absent))
        ]

    -- a key that differs from each differs from one more
    apart-latest : (key : K) (new : Entry K V) (entries : List (Entry K V)) → eq key new.key ≡ false
        → AllByRecursion (λ k. eq key k ≡ false) (entry_keys entries) → AllByRecursion (λ k. eq key k ≡ false) (entry_keys (with_latest new entries))
    apart-latest key new [] differ all = (differ, tt)
    apart-latest key new (e ∷ es) differ all =
        elim (cases_Bool (goes_before new e)) [
          | inl before ↦
              subst (λ l. AllByRecursion (λ k. eq key k ≡ false) (entry_keys l))
              (sym (cond-true (goes_before new e) (new ∷ e ∷ es) (e ∷ with_latest new es) before)) (differ, all)
          | inr behind ↦
              subst (λ l. AllByRecursion (λ k. eq key k ≡ false) (entry_keys l))
              (sym (cond-false (goes_before new e) (new ∷ e ∷ es) (e ∷ with_latest new es) behind))
              (all.0, apart-latest key new es differ all.1)
        ]

    -- a new key stands once, wherever it is put
    pub once-latest : (new : Entry K V) (entries : List (Entry K V)) → entry_at eq new.key entries ≡ None → StandOnce entries
        → StandOnce (with_latest new entries)
    once-latest new [] absent once = once-push [] new absent once
    once-latest new (e ∷ es) absent once =
        let all = apart new.key (e ∷ es) absent in
        elim (cases_Bool (goes_before new e)) [
          | inl before ↦
              subst StandOnce (sym (cond-true (goes_before new e) (new ∷ e ∷ es) (e ∷ with_latest new es) before))
              (IsDistinct-cons eq new.key (entry_keys (e ∷ es)) all once)
          | inr behind ↦
              let later : entry_at eq new.key es ≡ None = sym (cond-false (eq new.key e.key) (Some e) (entry_at eq new.key es) all.0) ∙ absent in
              subst StandOnce (sym (cond-false (goes_before new e) (new ∷ e ∷ es) (e ∷ with_latest new es) behind))
              (IsDistinct-cons eq e.key (entry_keys (with_latest new es))
              (apart-latest e.key new es (laws.symm e.key new.key ∙ all.0) (IsDistinct-head eq e.key (entry_keys es) once))
              (once-latest new es later (IsDistinct-tail eq e.key (entry_keys es) once)))
        ]

    -- and so does one that moves
    pub once-moving : (entry : Entry K V) (contents : Contents K V) → StandOnce contents.entries
        → StandOnce (after_moving eq entry contents).entries
    once-moving entry contents once =
        once-latest entry (entries_without eq entry.key contents.entries)
        (entry_at-gone entry.key entry.key (laws.refl entry.key) contents.entries)
        (once-remains contents (after_leaving eq (entry.key ∷ []) contents) (remains-leaving eq (entry.key ∷ []) contents) once)

    -- or is used
    pub once-using : (room : ℕ) (entry : Entry K V) (contents : Contents K V) → StandOnce contents.entries
        → StandOnce (after_using eq room entry contents).entries
    once-using room entry contents once =
        let used = record entry { part = used_part room entry.part entry.weight } in
        let moved = after_moving eq used contents in
        subst (IsDistinct eq) (sym (keys-demoted (total_weight (protected_of moved.entries) - room) moved.entries)) (once-moving used contents once)

    once-use : (room now : ℕ) (o : Option (Entry K V)) (contents : Contents K V) → StandOnce contents.entries
        → StandOnce (after_use eq room now o contents).entries
    once-use room now None contents once = once
    once-use room now (Some used) contents once = once-using room (record used { accessed = now }) contents once

    -- a candidate for main leaves each key once
    pub once-candidacy : (e : Entry K V) (gone : Option (List (Entry K V))) (contents : Contents K V) → StandOnce contents.entries
        → StandOnce (after_candidacy eq e gone contents).entries
    once-candidacy e None contents once = once-remains contents (without eq contents e.key) (remains-leaving eq (e.key ∷ []) contents) once
    once-candidacy e (Some gone) contents once =
        let left = after_leaving eq (entry_keys gone) contents in
        once-moving (record e { part = Probation }) left (once-remains contents left (remains-leaving eq (entry_keys gone) contents) once)

    pub once-candidates : (limits : PartLimits) (sketch : Option Table) (entries : List (Entry K V)) (contents : Contents K V) → StandOnce contents.entries
        → StandOnce (after_candidates eq limits sketch entries contents).entries
    once-candidates limits sketch [] contents once = once
    once-candidates limits sketch (e ∷ es) contents once =
        let gone = victims_of (Some (main_limit limits)) sketch e (main_of contents.entries) in
        once-candidates limits sketch es (after_candidacy eq e gone contents) (once-candidacy e gone contents once)

    -- a change of the limits
    pub once-sharing : (limits : PartLimits) (gained : ℕ) (contents : Contents K V) → StandOnce contents.entries
        → StandOnce (after_sharing eq limits gained contents).entries
    once-sharing limits gained contents once =
        let left = stays_of eq limits gained contents in
        subst (IsDistinct eq) (sym (keys-demoted (total_weight (protected_of left.entries) - limits.protected) left.entries))
        (once-remains contents left (left-remains eq limits gained contents) once)

    -- a new entry that enters the window
    pub once-entering : (keeps : Bool) (limits : PartLimits) (sketch : Option Table) (new : Entry K V) (contents : Contents K V)
        → entry_at eq new.key contents.entries ≡ None → StandOnce contents.entries
        → StandOnce (after_entering eq keeps limits sketch new contents).entries
    once-entering keeps limits sketch new contents absent once =
        let entered = after_entry eq keeps (record new { part = Window }) contents in
        once-candidates limits sketch (candidates limits entered.entries) entered
        (once-push contents.entries (record new { part = Window }) absent once)

module _ {K V S W : Type 0} (eq : K → K → Bool) where
  -- asking for a table changes no contents
  pub contents-standing : (cache : CacheState K V S W) (new : Entry K V) (refused : Refused)
      → (after_standing eq cache new refused).contents ≡ cache.contents
  contents-standing cache new refused = by (is_some (entry_at eq new.key cache.contents.entries))
    where
      by : (b : Bool) → (cond b (after_asking eq refused cache) cache).contents ≡ cache.contents
      by true = refl
      by false = refl

module _ {K V S W : Type 0} (eq : K → K → Bool) (laws : IsEquivalence eq) where
  once-verdict : (cache : CacheState K V S W) (new : Entry K V) (gone : Option (List (Entry K V))) (refused : Refused)
      → entry_at eq new.key cache.contents.entries ≡ None
      → StandOnce eq cache.contents.entries → StandOnce eq (after_verdict eq cache new gone refused).contents.entries
  once-verdict cache new None refused absent once = once
  once-verdict cache new (Some gone) refused absent once =
      let left = after_leaving eq (entry_keys gone) cache.contents in
      once-latest eq laws new left.entries (absent-leaving eq new.key (entry_keys gone) cache.contents absent)
      (once-remains eq cache.contents left (remains-leaving eq (entry_keys gone) cache.contents) once)

  -- an entry that enters the window stands once
  once-new : (cache : CacheState K V S W) (limit : Option PartLimits) (new : Entry K V) (refused : Refused)
      → entry_at eq new.key cache.contents.entries ≡ None
      → StandOnce eq cache.contents.entries → StandOnce eq (after_new eq cache limit new refused).contents.entries
  once-new cache None new refused absent once =
      once-verdict cache new (victims_of cache.settings.policy.max_capacity cache.sketch new cache.contents.entries) refused absent once
  once-new cache (Some limit) new refused absent once =
      let keeps = keeps_writes cache.settings.policy in
      let entered = after_entry eq keeps (record new { part = Window }) cache.contents in
      let contents = after_entering eq keeps limit cache.sketch new cache.contents in
      let there =
      once-candidates eq laws limit cache.sketch (candidates limit entered.entries) entered
      (once-push eq laws cache.contents.entries (record new { part = Window }) absent once) in
      subst (λ c. StandOnce eq c.entries) (sym (contents-standing eq (after_turn eq cache cache.memory limit new contents) new refused))
      (turned eq (λ c. StandOnce eq c.entries) cache cache.memory limit new contents there
      (λ shared gained. once-sharing eq laws shared gained contents there))

  once-insert : (cache : CacheState K V S W) (o : Option (Entry K V)) (new : Entry K V) (refused : Refused)
      → entry_at eq new.key cache.contents.entries ≡ o
      → StandOnce eq cache.contents.entries → StandOnce eq (after_put eq cache o new refused).contents.entries
  once-insert cache None new refused absent once = once-new cache (windowed cache) new refused absent once
  once-insert cache (Some old) new refused found once =
      once-using eq laws (room_of cache) (record new { key = old.key; hash = old.hash; part = old.part }) cache.contents once

module _ {K V S W : Type 0} (keys : Keys K S) (laws : IsEquivalence keys.eq) (weighs : W → K → V → ℕ → W → Type 0) where
  -- no call makes a key stand twice
  pub once-step : (old new : CacheState K V S W) (request : Request K V) (answer : Answer K V) → IsStep keys weighs old request answer new
      → StandOnce keys.eq old.contents.entries → StandOnce keys.eq new.contents.entries
  once-step old new (Get key now) answer step once =
      let kept = (after_look keys old now).contents in
      subst (λ c. StandOnce keys.eq c.contents.entries) (sym step.1)
      (once-use keys.eq laws (room_of old) now (unexpired_at keys.eq old.settings.policy now key kept) kept
      (once-remains keys.eq old.contents kept (remains-cleanup keys.eq old.settings.policy now old.contents) once))
  once-step old new (Peek key now) answer step once = subst (λ c. StandOnce keys.eq c.contents.entries) (sym step.1) once
  once-step old new (ContainsKey key now) answer step once =
      once-remains keys.eq old.contents new.contents (looks keys weighs old new (ContainsKey key now) answer tt step).1 once
  once-step old new (Miss hash now) answer step once =
      subst (λ c. StandOnce keys.eq c.contents.entries) (sym step.1)
      (once-remains keys.eq old.contents (after_look keys old now).contents (remains-cleanup keys.eq old.settings.policy now old.contents) once)
  once-step old new (Insert key value own now) answer (inl (done, inserted)) once =
      let kept = (after_look keys old now).contents in
      let asked : CacheState K V S W = record old { weigher = inserted.weigher; capacity = inserted.capacity; contents = kept } in
      subst (λ c. StandOnce keys.eq c.contents.entries) (sym inserted.step)
      (once-insert keys.eq laws asked (entry_at keys.eq key kept.entries)
      (new_entry keys old.settings key value inserted.weight own now) inserted.refused refl
      (once-remains keys.eq old.contents kept (remains-cleanup keys.eq old.settings.policy now old.contents) once))
  once-step old new (Insert key value own now) answer (inr (refused, same)) once =
      subst (λ c. StandOnce keys.eq c.contents.entries) (sym same.same) once
  once-step old new (Invalidate key now) answer step once =
      once-remains keys.eq old.contents new.contents (invalidations keys weighs old new (Invalidate key now) answer tt step).1 once
  once-step old new (Remove key now) answer step once =
      once-remains keys.eq old.contents new.contents (invalidations keys weighs old new (Remove key now) answer tt step).1 once
  once-step old new InvalidateAll answer step once =
      once-remains keys.eq old.contents new.contents (invalidations keys weighs old new InvalidateAll answer tt step).1 once
  once-step old new (InvalidateEntriesIf answers) answer step once =
      once-remains keys.eq old.contents new.contents (invalidations keys weighs old new (InvalidateEntriesIf answers) answer tt step).1 once
  once-step old new (Iterate now) answer step once = subst (λ c. StandOnce keys.eq c.contents.entries) (sym step.1) once
  once-step old new EntryCount answer step once = subst (λ c. StandOnce keys.eq c.contents.entries) (sym step.1) once
  once-step old new WeightedSize answer step once = subst (λ c. StandOnce keys.eq c.contents.entries) (sym step.1) once

  once-runs : (old new : CacheState K V S W) (requests : List (Request K V)) (answers : List (Answer K V))
      → Runs keys weighs old requests answers new
      → StandOnce keys.eq old.contents.entries → StandOnce keys.eq new.contents.entries
  once-runs old new [] answers run once = subst (λ c. StandOnce keys.eq c.contents.entries) (sym run.1) once
  once-runs old new (request ∷ requests) answers (answer, rest, next, is, step, run) once =
      once-runs next new requests rest run (once-step old next request answer step once)

  pub none_stand : StandOnce {V = V} keys.eq []
  unfolding IsDistinct
  none_stand = tt

  -- and a new cache has none
  pub keys_stand_once : KeysStandOnce keys weighs
  keys_stand_once settings shares weigher capacity requests answers cache run =
      once-runs (new_cache settings shares weigher capacity) cache requests answers run none_stand
