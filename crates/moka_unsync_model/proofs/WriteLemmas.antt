-- Lemmas on the order of writing, which has the entries' keys and moments.
use Rattle.std.proofs.Common.{◌≡◌, ◌-◌, ℕ, Bool, true, false, cond, not, List, [], ◌∷◌}
use Rattle.std.proofs.Common.{◌++◌, find, map, take, take_while, is_some, Option, Some, None}
use Rattle.std.proofs.Common.{option_map, refl, sym, ap, ◌∙◌, subst, inl, inr}
use Rattle.std.proofs.lemmas.Bool.{cases_Bool, cond-true, cond-false}
use Rattle.std.proofs.lemmas.List.{map-append}
use Rattle.std.specs.Cmp.{IsEquivalence}
use Rattle.std.specs.List.{IsDistinct}
use Rattle.moka_common.specs.Keys.{Keys}
use Rattle.moka_common.specs.Policy.{Policy}
use Rattle.moka_common.specs.Settings.{keeps_writes}
use Rattle.moka_common.specs.Sketch.{Table}
use Rattle.moka_unsync_model.specs.declared.constants.TheConstants.{EVICTION_BATCH_SIZE}
use Rattle.moka_unsync_model.specs.declared.entry.Entry.{Entry}
use Rattle.moka_unsync_model.specs.Contents.{Contents, Write, after_leaving, after_moving, entry_at, entries_without, main_of, window_of}
use Rattle.moka_unsync_model.specs.Contents.{entry_keys, no_contents, total_weight, without}
use Rattle.moka_unsync_model.specs.Contents.{write_of, writes_without, probation_of, protected_of}
use Rattle.moka_unsync_model.specs.CacheState.{CacheState, new_cache, room_of, windowed}
use Rattle.moka_unsync_model.specs.Cleanup.{after_expiry, after_idle, after_live_expiry, after_trim, after_cleanup, is_past_ttl, least_recent}
use Rattle.moka_unsync_model.specs.Lookup.{after_look, after_use, unexpired_at, after_using}
use Rattle.moka_unsync_model.specs.Insert.{Refused, after_asking, after_entering, after_entry, after_new, after_put, after_turn, after_update, after_verdict}
use Rattle.moka_unsync_model.specs.Insert.{new_entry}
use Rattle.moka_unsync_model.specs.Insert.{after_arrival}
use Rattle.moka_unsync_model.specs.Window.{after_candidacy, after_candidates, after_sharing, candidates, given_up, victims_of}
use Rattle.moka_unsync_model.specs.Invalidate.{chosen}
use Rattle.moka_unsync_model.specs.Step.{Answer, IsStep, Request, Runs, Get, Peek, ContainsKey, Miss, Insert, Invalidate, Remove, InvalidateAll}
use Rattle.moka_unsync_model.specs.Step.{InvalidateEntriesIf, Iterate, EntryCount, WeightedSize}
use Rattle.moka_unsync_model.proofs.ContentsLemmas.{absent-leaving, found_key, idle_keys}
use Rattle.moka_unsync_model.specs.Laws.{AreWritesOf, WritesFollowEntries}
use Rattle.moka_unsync_model.proofs.KeyLemmas.{StandOnce, entry_at-gone, none_stand, once-candidacy, once-push, once-put, once-remains, once-step}
use Rattle.moka_unsync_model.proofs.MapLemmas.{entry_at-equal, entry_at-other, entry_at-moved, entry_at-push, entry_at-put, settings-step, entry_at-latest}
use Rattle.moka_unsync_model.proofs.MapLemmas.{entry_at-using}
use Rattle.moka_unsync_model.proofs.RemainLemmas.{remains-cleanup}
use Rattle.moka_unsync_model.proofs.StandLemmas.{AreCandidates, StandsIn, are-chosen, are-left, stands-left}
use Rattle.moka_unsync_model.proofs.OwnLemmas.{unexpired-found}
use Rattle.moka_unsync_model.specs.declared.shares.PartLimits.{PartLimits}
use Rattle.moka_unsync_model.specs.Shares.{main_limit}
use Rattle.moka_unsync_model.specs.declared.entry.Part.{Part}
use Rattle.moka_unsync_model.specs.declared.entry.Part.TheVariants.{Probation, Window}
use Rattle.moka_unsync_model.proofs.PartLemmas.{entry_at-demoted, placed-map}
use Rattle.moka_unsync_model.proofs.SharingLemmas.{stays_of, turned}

-- ---- writes as entries

-- a write as an entry without a value, so that what holds of entries holds of writes
abbrev as_entry : {K : Type 0} → Write K → Entry K (Unit {0})
as_entry w = record { key = w.key; value = tt; hash = 0; weight = 0; accessed = 0; deadline = w.deadline; part = Probation; outlasts = false }

-- the write of an entry as one
abbrev again : {K V : Type 0} → Entry K V → Entry K (Unit {0})
again e = as_entry (write_of e)

-- a choice between entries
map-cond : {X Y : Type 0} (f : X → Y) (b : Bool) (x y : Option X)
    → option_map f (cond b x y) ≡ cond b (option_map f x) (option_map f y)
map-cond f true x y = refl
map-cond f false x y = refl

-- the writes as entries
abbrev as_entries : {K : Type 0} → List (Write K) → List (Entry K (Unit {0}))
as_entries written = map as_entry written

module _ {K : Type 0} (eq : K → K → Bool) where
  -- those of other keys
  entries-without : (gone : K) (written : List (Write K))
      → as_entries (writes_without eq gone written) ≡ entries_without eq gone (as_entries written)
  entries-without gone [] = refl
  entries-without gone (w ∷ ws) =
      let rest = writes_without eq gone ws in
      elim (cases_Bool (eq gone w.key)) [
        | inl leaves ↦
            ap as_entries (cond-false (not (eq gone w.key)) (w ∷ rest) rest (ap not leaves))
            ∙ (entries-without gone ws
            ∙ sym (cond-false (not (eq gone w.key)) (as_entry w ∷ entries_without eq gone (as_entries ws))
            (entries_without eq gone (as_entries ws)) (ap not leaves)))
        | inr stays ↦
            ap as_entries (cond-true (not (eq gone w.key)) (w ∷ rest) rest (ap not stays))
            ∙ (ap (λ l. as_entry w ∷ l) (entries-without gone ws)
            ∙ sym (cond-true (not (eq gone w.key)) (as_entry w ∷ entries_without eq gone (as_entries ws))
            (entries_without eq gone (as_entries ws)) (ap not stays)))
      ]

  -- no key stands twice where there is none
  nothing_stands : StandOnce {V = Unit {0}} eq []
  unfolding IsDistinct
  nothing_stands = tt

module _ {K V : Type 0} (eq : K → K → Bool) (laws : IsEquivalence eq) where
  -- the writes of the contents are those of its entries, each key once
  abbrev Match : Contents K V → Type 0
  Match contents =
      StandOnce eq (as_entries contents.written)
      × ((key : K) → entry_at eq key (as_entries contents.written) ≡ option_map again (entry_at eq key contents.entries))

  match-without : (gone : K) (contents : Contents K V) → Match contents → Match (without eq contents gone)
  match-without gone contents m =
      let entries = as_entries contents.written in
      let left = entries_without eq gone entries in (
        subst (StandOnce eq) (sym (entries-without eq gone contents.written))
            (once-remains eq (record { entries = entries; written = [] }) (record { entries = left; written = [] })
            (record { stays = λ k. not (eq gone k); entries = refl; written = refl }) m.0),
        λ key. ap (entry_at eq key) (entries-without eq gone contents.written)
            ∙ elim (cases_Bool (eq gone key)) [
              | inl equal ↦
                  entry_at-gone eq laws gone key equal entries
                  ∙ sym (ap (option_map again) (entry_at-gone eq laws gone key equal contents.entries))
              | inr differ ↦
                  entry_at-other laws gone key differ entries
                  ∙ (m.1 key ∙ sym (ap (option_map again) (entry_at-other laws gone key differ contents.entries)))
            ],
      )

  match-moved : (now : ℕ) (part : Part) (other : K) (e : Entry K V) (contents : Contents K V) → entry_at eq other contents.entries ≡ Some e
      → Match contents → Match (after_moving eq (record e { accessed = now; part = part }) contents)
  match-moved now part other e contents found m =
      let moved : Entry K V = record e { accessed = now; part = part } in (
        m.0,
        λ key. m.1 key
            ∙ (elim (cases_Bool (eq e.key key)) [
              | inl equal ↦
                  ap (option_map again) (sym (entry_at-equal laws e.key key equal contents.entries)
                  ∙ (sym (entry_at-equal laws other e.key (found_key eq other e contents.entries found) contents.entries)
                  ∙ found))
                  ∙ sym (ap (option_map again) (cond-true (eq e.key key) (Some moved) (entry_at eq key contents.entries) equal))
              | inr differ ↦
                  sym (ap (option_map again) (cond-false (eq e.key key) (Some moved) (entry_at eq key contents.entries) differ))
            ]
            ∙ sym (ap (option_map again) (entry_at-moved laws key moved contents.entries))),
      )

  -- a use leaves its write
  match-using : (room now : ℕ) (other : K) (e : Entry K V) (contents : Contents K V) → entry_at eq other contents.entries ≡ Some e
      → Match contents → Match (after_using eq room (record e { accessed = now }) contents)
  match-using room now other e contents found m =
      let used : Entry K V = record e { accessed = now } in (
        m.0,
        λ key. let (f, at) = entry_at-using laws room key used contents in
            m.1 key
            ∙ (elim (cases_Bool (eq e.key key)) [
              | inl equal ↦
                  ap (option_map again) (sym (entry_at-equal laws e.key key equal contents.entries)
                  ∙ (sym (entry_at-equal laws other e.key (found_key eq other e contents.entries found) contents.entries)
                  ∙ found))
                  ∙ sym (ap (option_map again) (cond-true (eq e.key key) (Some used) (entry_at eq key contents.entries) equal))
              | inr differ ↦
                  sym (ap (option_map again) (cond-false (eq e.key key) (Some used) (entry_at eq key contents.entries) differ))
            ]
            ∙ (sym (placed-map again (λ x part. refl) f (cond (eq e.key key) (Some used) (entry_at eq key contents.entries)))
            ∙ sym (ap (option_map again) at))),
      )

  match-entry : (new : Entry K V) (contents : Contents K V) → entry_at eq new.key contents.entries ≡ None → Match contents
      → Match (after_entry eq true new contents)
  match-entry new contents absent m =
      let entries = as_entries contents.written in
      let gone : entry_at eq new.key entries ≡ None = m.1 new.key ∙ ap (option_map again) absent in
      let grown = map-append as_entry contents.written (write_of new ∷ []) in (
        subst (StandOnce eq) (sym grown) (once-push eq laws entries (again new) gone m.0),
        λ key. ap (entry_at eq key) grown
            ∙ (entry_at-push laws key (again new) entries (λ equal. sym (entry_at-equal laws new.key key equal entries) ∙ gone)
            ∙ (ap (cond (eq new.key key) (Some (again new))) (m.1 key)
            ∙ (sym (map-cond again (eq new.key key) (Some new) (entry_at eq key contents.entries))
            ∙ sym (ap (option_map again) (entry_at-push laws key new contents.entries
            (λ equal. sym (entry_at-equal laws new.key key equal contents.entries) ∙ absent)))))),
      )

  match-arrival : (new : Entry K V) (contents : Contents K V) → entry_at eq new.key contents.entries ≡ None → Match contents
      → Match (after_arrival eq true new contents)
  match-arrival new contents absent m =
      let (once, at) = match-entry new contents absent m in (
        once,
        λ key. at key
            ∙ ap (option_map again) (entry_at-push laws key new contents.entries
            (λ equal. sym (entry_at-equal laws new.key key equal contents.entries) ∙ absent)
            ∙ sym (entry_at-latest laws key new contents.entries absent)),
      )

  match-update : (room : ℕ) (old new : Entry K V) (contents : Contents K V) → Match contents → Match (after_update eq true room old new contents)
  match-update room old new contents m =
      let entries = as_entries contents.written in
      let put : Entry K V = record new { key = old.key; hash = old.hash; part = old.part } in
      let grown : as_entries (writes_without eq old.key contents.written ++ write_of put ∷ [])
      ≡ entries_without eq old.key entries ++ again put ∷ [] =
      map-append as_entry (writes_without eq old.key contents.written) (write_of put ∷ [])
      ∙ ap (λ l. l ++ again put ∷ []) (entries-without eq old.key contents.written) in (
        subst (StandOnce eq) (sym grown) (once-put eq laws (record { entries = entries; written = [] }) (again put) m.0),
        λ key. let (f, at) = entry_at-using laws room key put contents in
            ap (entry_at eq key) grown
            ∙ (entry_at-put laws key (again put) entries
            ∙ (ap (cond (eq old.key key) (Some (again put))) (m.1 key)
            ∙ (sym (map-cond again (eq old.key key) (Some put) (entry_at eq key contents.entries))
            ∙ (sym (placed-map again (λ x part. refl) f (cond (eq old.key key) (Some put) (entry_at eq key contents.entries)))
            ∙ sym (ap (option_map again) at))))),
      )

  -- ---- with a time to live, and without

  -- the writes match where they are kept, and there are none elsewhere
  abbrev Follow : Bool → Contents K V → Type 0
  Follow true contents = Match contents
  Follow false contents = contents.written ≡ []

  follow-leaving : (keeps : Bool) (gone : List K) (contents : Contents K V) → Follow keeps contents
      → Follow keeps (after_leaving eq gone contents)
  follow-leaving keeps [] contents f = f
  follow-leaving true (g ∷ gs) contents f = follow-leaving true gs (without eq contents g) (match-without g contents f)
  follow-leaving false (g ∷ gs) contents f = follow-leaving false gs (without eq contents g) (ap (writes_without eq g) f)

  follow-sharing : (keeps : Bool) (limits : PartLimits) (gained : ℕ) (contents : Contents K V) → Follow keeps contents
      → Follow keeps (after_sharing eq limits gained contents)
  follow-sharing true limits gained contents f =
      let left = stays_of eq limits gained contents in
      let (once, at) = follow-leaving true (entry_keys (given_up limits gained contents.entries)) contents f in (
        once,
        λ key. let (f, demoted_at) = entry_at-demoted eq key (total_weight (protected_of left.entries) - limits.protected) left.entries in
            at key
            ∙ (sym (placed-map again (λ x part. refl) f (entry_at eq key left.entries)) ∙ sym (ap (option_map again) demoted_at)),
      )
  follow-sharing false limits gained contents f = follow-leaving false (entry_keys (given_up limits gained contents.entries)) contents f

  follow-trim : (keeps : Bool) (limit : Option ℕ) (contents : Contents K V) → Follow keeps contents
      → Follow keeps (after_trim eq limit contents)
  follow-trim keeps None contents f = f
  follow-trim keeps (Some limit) contents f =
      follow-leaving keeps (entry_keys (take EVICTION_BATCH_SIZE (least_recent (total_weight contents.entries - limit) contents.entries)))
      contents f

  follow-cleanup : (keeps : Bool) (policy : Policy) (now : ℕ) (contents : Contents K V) → Follow keeps contents
      → Follow keeps (after_cleanup eq policy now contents)
  follow-cleanup keeps policy now contents f =
      let lived = after_live_expiry eq policy now EVICTION_BATCH_SIZE contents in
      let waited = after_idle eq policy now EVICTION_BATCH_SIZE (window_of lived.entries) lived in
      let tried = after_idle eq policy now EVICTION_BATCH_SIZE (probation_of lived.entries) waited in
      follow-trim keeps policy.max_capacity (after_expiry eq policy now contents)
      (follow-leaving keeps (idle_keys policy now (protected_of lived.entries)) tried
      (follow-leaving keeps (idle_keys policy now (probation_of lived.entries)) waited
      (follow-leaving keeps (idle_keys policy now (window_of lived.entries)) lived
      (follow-leaving keeps (map (λ w. w.key) (take EVICTION_BATCH_SIZE (take_while (is_past_ttl policy now) contents.written))) contents f))))

  follow-use : (keeps : Bool) (room now : ℕ) (other : K) (o : Option (Entry K V)) (contents : Contents K V)
      → ((e : Entry K V) → o ≡ Some e → entry_at eq other contents.entries ≡ Some e)
      → Follow keeps contents → Follow keeps (after_use eq room now o contents)
  follow-use true room now other None contents found f = f
  follow-use true room now other (Some e) contents found f = match-using room now other e contents (found e refl) f
  follow-use false room now other None contents found f = f
  follow-use false room now other (Some e) contents found f = f

  follow-entry : (keeps : Bool) (new : Entry K V) (contents : Contents K V) → entry_at eq new.key contents.entries ≡ None
      → Follow keeps contents → Follow keeps (after_entry eq keeps new contents)
  follow-entry true new contents absent f = match-entry new contents absent f
  follow-entry false new contents absent f = f

  follow-arrival : (keeps : Bool) (new : Entry K V) (contents : Contents K V) → entry_at eq new.key contents.entries ≡ None
      → Follow keeps contents → Follow keeps (after_arrival eq keeps new contents)
  follow-arrival true new contents absent f = match-arrival new contents absent f
  follow-arrival false new contents absent f = f

  -- a candidate's write stays in its place, or leaves with it
  follow-candidacy : (keeps : Bool) (limit : ℕ) (sketch : Option Table) (e : Entry K V) (contents : Contents K V)
      → StandOnce eq contents.entries → StandsIn eq laws contents.entries true e → Follow keeps contents
      → (gone : Option (List (Entry K V))) → victims_of (Some limit) sketch e (main_of contents.entries) ≡ gone
      → Follow keeps (after_candidacy eq e gone contents)
  follow-candidacy keeps limit sketch e contents once stands f None is = follow-leaving keeps (e.key ∷ []) contents f
  follow-candidacy true limit sketch e contents once stands f (Some gone) is =
      let left = after_leaving eq (entry_keys gone) contents in
      match-moved e.accessed Probation e.key e left (stands-left eq laws limit sketch e gone contents once is e stands)
      (follow-leaving true (entry_keys gone) contents f)
  follow-candidacy false limit sketch e contents once stands f (Some gone) is = follow-leaving false (entry_keys gone) contents f

  follow-candidates : (keeps : Bool) (limits : PartLimits) (sketch : Option Table) (es : List (Entry K V)) (contents : Contents K V)
      → StandOnce eq contents.entries → AreCandidates eq laws contents es → Follow keeps contents
      → Follow keeps (after_candidates eq limits sketch es contents)
  follow-candidates keeps limits sketch [] contents once are f = f
  follow-candidates keeps limits sketch (e ∷ es) contents once are f =
      let gone = victims_of (Some (main_limit limits)) sketch e (main_of contents.entries) in
      follow-candidates keeps limits sketch es (after_candidacy eq e gone contents) (once-candidacy eq laws e gone contents once)
      (are-left eq laws (main_limit limits) sketch e es contents once are gone refl)
      (follow-candidacy keeps (main_limit limits) sketch e contents once are.stand.0 f gone refl)

  follow-entering : (keeps : Bool) (limits : PartLimits) (sketch : Option Table) (new : Entry K V) (contents : Contents K V)
      → entry_at eq new.key contents.entries ≡ None → StandOnce eq contents.entries → Follow keeps contents
      → Follow keeps (after_entering eq keeps limits sketch new contents)
  follow-entering keeps limits sketch new contents absent once f =
      let entered = after_entry eq keeps (record new { part = Window }) contents in
      let apart = once-push eq laws contents.entries (record new { part = Window }) absent once in
      follow-candidates keeps limits sketch (candidates limits entered.entries) entered apart (are-chosen eq laws limits entered apart)
      (follow-entry keeps (record new { part = Window }) contents absent f)

  follow-update : (keeps : Bool) (room : ℕ) (old new : Entry K V) (contents : Contents K V) → Follow keeps contents
      → Follow keeps (after_update eq keeps room old new contents)
  follow-update true room old new contents f = match-update room old new contents f
  follow-update false room old new contents f = ap (writes_without eq old.key) f

  pub follow-clear : (keeps : Bool) (contents : Contents K V) → Follow keeps (record contents { entries = []; written = [] })
  follow-clear true contents = (nothing_stands eq, λ key. refl)
  follow-clear false contents = refl

  module _ {S W : Type 0} where
    follow-verdict : (cache : CacheState K V S W) (new : Entry K V) (gone : Option (List (Entry K V))) (refused : Refused)
        → entry_at eq new.key cache.contents.entries ≡ None → Follow (keeps_writes cache.settings.policy) cache.contents
        → Follow (keeps_writes cache.settings.policy) (after_verdict eq cache new gone refused).contents
    follow-verdict cache new None refused absent f = f
    follow-verdict cache new (Some gone) refused absent f =
        let keeps = keeps_writes cache.settings.policy in
        follow-arrival keeps new (after_leaving eq (entry_keys gone) cache.contents)
        (absent-leaving eq new.key (entry_keys gone) cache.contents absent) (follow-leaving keeps (entry_keys gone) cache.contents f)

    follow-new : (cache : CacheState K V S W) (limit : Option PartLimits) (new : Entry K V) (refused : Refused)
        → entry_at eq new.key cache.contents.entries ≡ None → StandOnce eq cache.contents.entries
        → Follow (keeps_writes cache.settings.policy) cache.contents
        → Follow (keeps_writes cache.settings.policy) (after_new eq cache limit new refused).contents
    follow-new cache None new refused absent once f =
        follow-verdict cache new (victims_of cache.settings.policy.max_capacity cache.sketch new cache.contents.entries) refused absent f
    follow-new cache (Some limit) new refused absent once f =
        let entered = follow-entering (keeps_writes cache.settings.policy) limit cache.sketch new cache.contents absent once f in
        by (is_some (entry_at eq new.key next.contents.entries))
        (turned eq (Follow (keeps_writes cache.settings.policy)) cache cache.memory limit new contents entered
        (λ shared gained. follow-sharing (keeps_writes cache.settings.policy) shared gained contents entered))
      where
        contents : Contents K V
        contents = after_entering eq (keeps_writes cache.settings.policy) limit cache.sketch new cache.contents

        next : CacheState K V S W
        next = after_turn eq cache cache.memory limit new contents

        by : (b : Bool) → Follow (keeps_writes cache.settings.policy) next.contents
            → Follow (keeps_writes cache.settings.policy) (cond b (after_asking eq refused next) next).contents
        by true f = f
        by false f = f

    follow-put : (cache : CacheState K V S W) (o : Option (Entry K V)) (new : Entry K V) (refused : Refused)
        → entry_at eq new.key cache.contents.entries ≡ o → StandOnce eq cache.contents.entries → Follow (keeps_writes cache.settings.policy) cache.contents
        → Follow (keeps_writes cache.settings.policy) (after_put eq cache o new refused).contents
    follow-put cache None new refused absent once f = follow-new cache (windowed cache) new refused absent once f
    follow-put cache (Some old) new refused found once f = follow-update (keeps_writes cache.settings.policy) (room_of cache) old new cache.contents f

-- ---- all calls

module _ {K V S W : Type 0} (keys : Keys K S) (laws : IsEquivalence keys.eq) (weighs : W → K → V → ℕ → W → Type 0) where
  -- the writes of a cache follow its entries
  abbrev pub Follows : CacheState K V S W → Type 0
  Follows cache = Follow keys.eq laws (keeps_writes cache.settings.policy) cache.contents

  follow-look : (cache : CacheState K V S W) (now : ℕ) → Follows cache → Follows (after_look keys cache now)
  follow-look cache now f = follow-cleanup keys.eq laws (keeps_writes cache.settings.policy) cache.settings.policy now cache.contents f

  -- and do so after each call
  pub follow-step : (old new : CacheState K V S W) (request : Request K V) (answer : Answer K V) → IsStep keys weighs old request answer new
      → StandOnce keys.eq old.contents.entries → Follows old → Follows new
  follow-step old new (Get key now) answer step once f =
      let kept = (after_look keys old now).contents in
      subst Follows (sym step.1)
      (follow-use keys.eq laws (keeps_writes old.settings.policy) (room_of old) now key (unexpired_at keys.eq old.settings.policy now key kept) kept
      (unexpired-found old.settings.policy now (entry_at keys.eq key kept.entries)) (follow-look old now f))
  follow-step old new (Peek key now) answer step once f = subst Follows (sym step.1) f
  follow-step old new (ContainsKey key now) answer step once f = subst Follows (sym step.1) (follow-look old now f)
  follow-step old new (Miss hash now) answer step once f = subst Follows (sym step.1) (follow-look old now f)
  follow-step old new (Insert key value own now) answer (inl (done, inserted)) once f =
      let kept = (after_look keys old now).contents in
      let asked : CacheState K V S W = record old { weigher = inserted.weigher; capacity = inserted.capacity; contents = kept } in
      subst (λ s. Follow keys.eq laws (keeps_writes s.policy) new.contents)
      (sym (settings-step keys weighs old new (Insert key value own now) answer (inl (done, inserted))))
      (subst (λ c. Follow keys.eq laws (keeps_writes old.settings.policy) c.contents) (sym inserted.step)
      (follow-put keys.eq laws asked (entry_at keys.eq key kept.entries)
      (new_entry keys old.settings key value inserted.weight own now) inserted.refused refl
      (once-remains keys.eq old.contents kept (remains-cleanup keys.eq old.settings.policy now old.contents) once) (follow-look old now f)))
  follow-step old new (Insert key value own now) answer (inr (refused, same)) once f = subst Follows (sym same.same) f
  follow-step old new (Invalidate key now) answer step once f =
      subst Follows (sym step.1)
      (follow-leaving keys.eq laws (keeps_writes old.settings.policy) (key ∷ []) (after_look keys old now).contents (follow-look old now f))
  follow-step old new (Remove key now) answer step once f =
      subst Follows (sym step.1)
      (follow-leaving keys.eq laws (keeps_writes old.settings.policy) (key ∷ []) (after_look keys old now).contents (follow-look old now f))
  follow-step old new InvalidateAll answer step once f =
      subst Follows (sym step.1) (follow-clear keys.eq laws (keeps_writes old.settings.policy) old.contents)
  follow-step old new (InvalidateEntriesIf answers) answer step once f =
      subst Follows (sym step.1)
      (follow-leaving keys.eq laws (keeps_writes old.settings.policy) (entry_keys (chosen answers old.contents.entries)) old.contents f)
  follow-step old new (Iterate now) answer step once f = subst Follows (sym step.1) f
  follow-step old new EntryCount answer step once f = subst Follows (sym step.1) f
  follow-step old new WeightedSize answer step once f = subst Follows (sym step.1) f

  follow-runs : (old new : CacheState K V S W) (requests : List (Request K V)) (answers : List (Answer K V))
      → Runs keys weighs old requests answers new → StandOnce keys.eq old.contents.entries → Follows old → Follows new
  follow-runs old new [] answers run once f = subst Follows (sym run.1) f
  follow-runs old new (request ∷ requests) answers (answer, rest, next, is, step, run) once f =
      follow-runs next new requests rest run (once-step keys laws weighs old next request answer step once)
      (follow-step old next request answer step once f)

  -- the keys of writes as entries
  keys-written : (written : List (Write K)) → entry_keys (map as_entry written) ≡ map (λ w. w.key) written
  keys-written [] = refl
  keys-written (w ∷ ws) = ap (λ l. w.key ∷ l) (keys-written ws)

  -- what is found among writes as entries
  find-written : (key : K) (written : List (Write K))
      → entry_at keys.eq key (map as_entry written) ≡ option_map as_entry (find (λ w. keys.eq key w.key) written)
  find-written key [] = refl
  find-written key (w ∷ ws) =
      ap (cond (keys.eq key w.key) (Some (as_entry w))) (find-written key ws)
      ∙ sym (map-cond as_entry (keys.eq key w.key) (Some w) (find (λ w. keys.eq key w.key) ws))

  written-back : (o : Option (Write K)) → option_map write_of (option_map as_entry o) ≡ o
  written-back None = refl
  written-back (Some w) = refl

  written-twice : (o : Option (Entry K V)) → option_map write_of (option_map again o) ≡ option_map write_of o
  written-twice None = refl
  written-twice (Some e) = refl

  pub told : (keeps : Bool) (contents : Contents K V) → Follow keys.eq laws keeps contents → AreWritesOf keys.eq keeps contents
  told true contents f = (
    subst (IsDistinct keys.eq) (keys-written contents.written) f.0,
    λ key. sym (written-back (find (λ w. keys.eq key w.key) contents.written))
        ∙ (ap (option_map write_of) (sym (find-written key contents.written) ∙ f.1 key)
        ∙ written-twice (entry_at keys.eq key contents.entries)),
  )
  told false contents f = f

  pub writes_follow_entries : WritesFollowEntries keys weighs
  writes_follow_entries settings shares weigher capacity requests answers cache run =
      told (keeps_writes cache.settings.policy) cache.contents
      (follow-runs (new_cache settings shares weigher capacity) cache requests answers run (none_stand keys laws weighs)
      (follow-clear keys.eq laws (keeps_writes settings.policy) (no_contents {K = K} {V = V})))
