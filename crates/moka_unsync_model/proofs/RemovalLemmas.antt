-- Lemmas on why a key is missing.
use Rattle.std.proofs.Common.{◌≡◌, ◌⊎◌, ◌<◌, ◌+◌, ℕ, Bool, true, false, List, [], ◌∷◌, Option}
use Rattle.std.proofs.Common.{Some, None, option_map, refl, sym, ap, ◌∙◌, subst, inl, inr, arith}
use Rattle.std.proofs.lemmas.Bool.{cases_Bool, cond-true, cond-false, false≢true}
use Rattle.std.specs.Cmp.{IsEquivalence}
use Rattle.moka_common.specs.Keys.{Keys}
use Rattle.moka_unsync_model.specs.Deadline.{end_of}
use Rattle.moka_unsync_model.specs.declared.entry.Entry.{Entry}
use Rattle.moka_unsync_model.specs.Contents.{Contents, after_leaving, entry_at, entry_keys, total_weight}
use Rattle.moka_unsync_model.specs.CacheState.{CacheState, new_cache, room_of, windowed}
use Rattle.moka_common.specs.Settings.{Settings, keeps_writes, live_nanos}
use Rattle.moka_unsync_model.specs.Lookup.{after_use, after_look, unexpired_at, after_using}
use Rattle.moka_unsync_model.specs.Cleanup.{is_expired, unexpired}
use Rattle.moka_unsync_model.specs.Insert.{Refused, after_entering, after_new, after_put, after_turn, after_verdict, new_entry}
use Rattle.moka_unsync_model.specs.Window.{victims_of}
use Rattle.moka_unsync_model.specs.Invalidate.{chosen}
use Rattle.moka_unsync_model.specs.Step.{Answer, IsStep, Request, Get, Peek, ContainsKey, Miss, Insert, Invalidate, Remove, InvalidateAll}
use Rattle.moka_unsync_model.specs.Step.{InvalidateEntriesIf, Iterate, EntryCount, WeightedSize, Found}
use Rattle.moka_unsync_model.specs.History.{LastWrite, Leads, Transition, chosen_keys, exchanges, inserted_deadline, is_over, is_written, known_after}
use Rattle.moka_unsync_model.specs.History.{last_write}
use Rattle.moka_unsync_model.specs.Removal.{EntriesLeaveForACause, InsertsEnterOrAreRejected, IsMissing}
use Rattle.moka_unsync_model.specs.Removal.{IsRejected, Leaves, MissesHaveAReason, ProbesMissForAReason, RemovalCause, last_write_of}
use Rattle.moka_unsync_model.proofs.ContentsLemmas.{absent-leaving}
use Rattle.moka_unsync_model.proofs.HistoryLemmas.{found-turned, found-entering, found-cleanup, found_fresh, once-run, one_of, same_found, settings-run}
use Rattle.moka_unsync_model.proofs.HistoryLemmas.{something}
use Rattle.moka_unsync_model.proofs.HistoryLemmas.{told-run}
use Rattle.moka_unsync_model.proofs.HistoryLemmas.{told-cleanup}
use Rattle.moka_unsync_model.proofs.ContentsLemmas.{found_key}
use Rattle.moka_unsync_model.proofs.LimitLemmas.{found_there, total-cleanup}
use Rattle.moka_unsync_model.proofs.MapLemmas.{entry_at-equal, entry_at-latest, entry_at-using}
use Rattle.moka_unsync_model.proofs.KeyLemmas.{once-entering, StandOnce, contents-standing, once-remains}
use Rattle.moka_unsync_model.proofs.RemainLemmas.{remains-cleanup}
use Rattle.moka_unsync_model.proofs.TiedLemmas.{absent-left, tied-run}
use Rattle.moka_unsync_model.proofs.TurnLemmas.{turn-keeps-new}
use Rattle.moka_unsync_model.proofs.CauseLemmas.{main-less, new-rejected, no-room, step-cause, use-stands, windowed-is, using-stands}
use Rattle.moka_unsync_model.specs.declared.shares.PartLimits.{PartLimits}
use Rattle.moka_unsync_model.specs.Shares.{limits_of, main_limit}
use Rattle.moka_unsync_model.specs.declared.shares.Shares.{Shares}
use Rattle.moka_unsync_model.proofs.PartLemmas.{placed}

-- ---- why a key is missing

module _ {K V S W : Type 0} (keys : Keys K S) (laws : IsEquivalence keys.eq) (weighs : W → K → V → ℕ → W → Type 0) where
  -- an entry that is put and does not stand then was rejected
  put-rejected : (cache : CacheState K V S W) (put : Entry K V) (refused : Refused) (o : Option (Entry K V))
      → StandOnce keys.eq cache.contents.entries → entry_at keys.eq put.key cache.contents.entries ≡ o
      → entry_at keys.eq put.key (after_put keys.eq cache o put refused).contents.entries ≡ None
      → (l : ℕ) × (cache.settings.policy.max_capacity ≡ Some l)
      × (main_limit (limits_of cache.shares l) < total_weight cache.contents.entries + put.weight)
  put-rejected cache put refused (Some known) once there none =
      using-stands keys laws put.key known (room_of cache) (record put { key = known.key; hash = known.hash; part = known.part })
      cache.contents there none
  put-rejected cache put refused None once there none = entering (windowed cache) refl none
    where
      by : (gone : Option (List (Entry K V))) → victims_of cache.settings.policy.max_capacity cache.sketch put cache.contents.entries ≡ gone
          → entry_at keys.eq put.key (after_verdict keys.eq cache put gone refused).contents.entries ≡ None
          → (l : ℕ) × (cache.settings.policy.max_capacity ≡ Some l)
          × (main_limit (limits_of cache.shares l) < total_weight cache.contents.entries + put.weight)
      by None verdict none =
          let (l, limited, full) = no-room keys.eq laws cache.settings.policy.max_capacity cache.sketch put cache.contents.entries verdict in
          (l, limited, grind (arith, full, main-less cache.shares l))
      by (Some gone) verdict none =
          let left = after_leaving keys.eq (entry_keys gone) cache.contents in
          something none
          (entry_at-latest laws put.key put left.entries (absent-left laws gone cache.contents put.key there)
          ∙ cond-true (keys.eq put.key put.key) (Some put) (entry_at keys.eq put.key left.entries) (laws.refl put.key))

      entering : (limit : Option PartLimits) → windowed cache ≡ limit
          → entry_at keys.eq put.key (after_new keys.eq cache limit put refused).contents.entries ≡ None
          → (l : ℕ) × (cache.settings.policy.max_capacity ≡ Some l)
          × (main_limit (limits_of cache.shares l) < total_weight cache.contents.entries + put.weight)
      entering None limits none = by (victims_of cache.settings.policy.max_capacity cache.sketch put cache.contents.entries) refl none
      entering (Some limit) limits none =
          let keeps = keeps_writes cache.settings.policy in
          let contents = after_entering keys.eq keeps limit cache.sketch put cache.contents in
          let (l, has, limit_is) = windowed-is cache.shares cache.settings.policy.max_capacity limit limits in (
            l,
            has,
            subst (λ m. main_limit m < total_weight cache.contents.entries + put.weight) limit_is
                (new-rejected keys.eq laws keeps limit cache.sketch put cache.contents there once
                (turn-keeps-new laws cache cache.memory limit put contents
                (once-entering keys.eq laws keeps limit cache.sketch put cache.contents there once)
                (sym (ap (λ c. entry_at keys.eq put.key c.entries)
                (contents-standing keys.eq (after_turn keys.eq cache cache.memory limit put contents) put refused)) ∙ none))),
          )

  -- an accepted insert at the key, after which none has an entry, was rejected
  rejected : (key : K) (old new : CacheState K V S W) (request : Request K V) (answer : Answer K V)
      → IsStep keys weighs old request answer new → StandOnce keys.eq old.contents.entries
      → is_written keys request answer key ≡ true → entry_at keys.eq key new.contents.entries ≡ None
      → IsRejected keys weighs (record { before = old; request = request; answer = answer; after = new }) key
  rejected key old new (Get other now) answer step once written none = absurd (false≢true written)
  rejected key old new (Peek other now) answer step once written none = absurd (false≢true written)
  rejected key old new (ContainsKey other now) answer step once written none = absurd (false≢true written)
  rejected key old new (Miss hash now) answer step once written none = absurd (false≢true written)
  rejected key old new (Insert other value own now) answer (inl (done, inserted)) once written none =
      let kept = (after_look keys old now).contents in
      let equal : keys.eq other key ≡ true = sym (ap (λ a. is_written keys (Insert other value own now) a key) done) ∙ written in
      let (l, limited, full) =
      put-rejected (record old { weigher = inserted.weigher; capacity = inserted.capacity; contents = kept })
      (new_entry keys old.settings other value inserted.weight own now) inserted.refused
      (entry_at keys.eq other kept.entries)
      (once-remains keys.eq old.contents kept (remains-cleanup keys.eq old.settings.policy now old.contents) once) refl
      (entry_at-equal laws other key equal _ ∙ (sym (ap (λ c. entry_at keys.eq key c.contents.entries) inserted.step) ∙ none)) in
      record {
        other = other;
        value = value;
        own = own;
        now = now;
        weight = inserted.weight;
        weigher = inserted.weigher;
        limit = l;
        insert = refl;
        equal = equal;
        absent = none;
        weighed = inserted.weighed;
        limited = limited;
        no_room = grind (arith, full, total-cleanup keys.eq old.settings.policy now old.contents);
      }
  rejected key old new (Insert other value own now) answer (inr (refused, same)) once written none =
      absurd (false≢true (sym (ap (λ a. is_written keys (Insert other value own now) a key) refused) ∙ written))
  rejected key old new (Invalidate other now) answer step once written none = absurd (false≢true written)
  rejected key old new (Remove other now) answer step once written none = absurd (false≢true written)
  rejected key old new InvalidateAll answer step once written none = absurd (false≢true written)
  rejected key old new (InvalidateEntriesIf answers) answer step once written none = absurd (false≢true written)
  rejected key old new (Iterate now) answer step once written none = absurd (false≢true written)
  rejected key old new EntryCount answer step once written none = absurd (false≢true written)
  rejected key old new WeightedSize answer step once written none = absurd (false≢true written)

  pub entries_leave : EntriesLeaveForACause keys weighs
  entries_leave settings shares weigher capacity past call cache key e (is, step, leads) found none =
      subst (λ c. RemovalCause keys call.before call.request c e) is
      (step-cause keys laws key e weighs call.before call.after call.request call.answer step
      (tied-run keys laws weighs settings shares weigher capacity past call.before leads)
      (once-run keys laws weighs settings shares weigher capacity past call.before leads) found
      (ap (λ c. entry_at keys.eq key c.contents.entries) is ∙ none))

  -- a key without an entry is missing for a reason
  missing-run : (settings : Settings S) (shares : Shares) (weigher : W) (capacity : ℕ) (past : List (Transition K V S W))
      (cache : CacheState K V S W) (key : K)
      → Leads keys weighs (new_cache settings shares weigher capacity) past cache
      → entry_at keys.eq key cache.contents.entries ≡ None → IsMissing keys weighs past key
  missing-run settings shares weigher capacity [] cache key leads none = tt
  missing-run settings shares weigher capacity (call ∷ earlier) cache key (is, step, leads) none =
      by (missing-run settings shares weigher capacity earlier call.before key leads) (entry_at keys.eq key call.before.contents.entries) refl
    where
      gone : entry_at keys.eq key call.after.contents.entries ≡ None
      gone = ap (λ c. entry_at keys.eq key c.contents.entries) is ∙ none

      unwritten : (entry_at keys.eq key call.before.contents.entries ≡ None → IsMissing keys weighs earlier key)
          → (o : Option (Entry K V)) → entry_at keys.eq key call.before.contents.entries ≡ o
          → Leaves keys weighs call earlier key ⊎ IsMissing keys weighs earlier key
      unwritten rest None absent = inr (rest absent)
      unwritten rest (Some e) stood =
          inl (record {
            entry = e;
            stood = stood;
            known = told-run keys laws weighs settings shares weigher capacity earlier call.before leads key e stood;
            left = gone;
            cause =
                step-cause keys laws key e weighs call.before call.after call.request call.answer step
                (tied-run keys laws weighs settings shares weigher capacity earlier call.before leads)
                (once-run keys laws weighs settings shares weigher capacity earlier call.before leads) stood gone;
          })

      by : (entry_at keys.eq key call.before.contents.entries ≡ None → IsMissing keys weighs earlier key) → (o : Option (Entry K V))
          → entry_at keys.eq key call.before.contents.entries ≡ o
          → IsMissing keys weighs (call ∷ earlier) key
      by rest o at =
          elim (cases_Bool (is_written keys call.request call.answer key)) [
            | inl written ↦ inl (rejected key call.before call.after call.request call.answer step
                (once-run keys laws weighs settings shares weigher capacity earlier call.before leads) written gone)
            | inr not_written ↦ inr (not_written, unwritten rest o at)
          ]

  -- a get that finds nothing
  missed : (settings : Settings S) (shares : Shares) (weigher : W) (capacity : ℕ) (past : List (Transition K V S W)) (call : Transition K V S W)
      (cache : CacheState K V S W) (key : K) (now : ℕ)
      → Leads keys weighs (new_cache settings shares weigher capacity) (call ∷ past) cache → call.request ≡ Get key now → call.answer ≡ Found None
      → IsMissing keys weighs (call ∷ past) key
      ⊎ ((write : LastWrite V) × (last_write keys key (exchanges past) ≡ Some write) × (is_over settings.policy now write ≡ true))
  missed settings shares weigher capacity past call cache key now (is, step, leads) asked answered =
      by (subst (λ a. IsStep keys weighs call.before (Get key now) a call.after) answered
      (subst (λ r. IsStep keys weighs call.before r call.answer call.after) asked step))
      (entry_at keys.eq key (after_look keys call.before now).contents.entries) refl
    where
      by : IsStep keys weighs call.before (Get key now) (Found None) call.after → (o : Option (Entry K V))
          → entry_at keys.eq key (after_look keys call.before now).contents.entries ≡ o
          → IsMissing keys weighs (call ∷ past) key
          ⊎ ((write : LastWrite V) × (last_write keys key (exchanges past) ≡ Some write) × (is_over settings.policy now write ≡ true))
      by got None at =
          let kept = (after_look keys call.before now).contents in
          let none : entry_at keys.eq key call.after.contents.entries ≡ None =
          ap (λ c. entry_at keys.eq key c.contents.entries) got.1
          ∙ (ap (λ o. entry_at keys.eq key (after_use keys.eq (room_of call.before) now (unexpired call.before.settings.policy now o) kept).entries) at ∙ at) in
          inl (missing-run settings shares weigher capacity (call ∷ past) cache key (is, step, leads)
          (sym (ap (λ c. entry_at keys.eq key c.contents.entries) is) ∙ none))
      by got (Some e) at =
          let policy = call.before.settings.policy in
          let empty : option_map (λ e. e.value) (unexpired policy now (Some e)) ≡ None =
          sym (same_found refl got.0 ∙ ap (λ o. option_map (λ e. e.value) (unexpired policy now o)) at) in
          elim (cases_Bool (is_expired policy now e)) [
            | inl expired ↦
                inr (
                  last_write_of e,
                  told-cleanup keys laws (λ key. last_write keys key (exchanges past)) call.before now
                      (told-run keys laws weighs settings shares weigher capacity past call.before leads) key e at,
                  subst (λ s. is_over s.policy now (last_write_of e) ≡ true)
                      (settings-run keys laws weighs settings shares weigher capacity past call.before leads) expired,
                )
            | inr fresh ↦ something empty (ap (option_map (λ e. e.value)) (cond-false (is_expired policy now e) None (Some e) fresh))
          ]

  -- ---- and no entry stands at a key that is missing

  absent-cleanup : (cache : CacheState K V S W) (now : ℕ) (key : K) → entry_at keys.eq key cache.contents.entries ≡ None
      → entry_at keys.eq key (after_look keys cache now).contents.entries ≡ None
  absent-cleanup cache now key none = by (entry_at keys.eq key (after_look keys cache now).contents.entries) refl
    where
      by : (o : Option (Entry K V)) → entry_at keys.eq key (after_look keys cache now).contents.entries ≡ o
          → entry_at keys.eq key (after_look keys cache now).contents.entries ≡ None
      by None at = at
      by (Some e) at = something none (found-cleanup laws cache.settings.policy now cache.contents key e at)

  -- a use of another leaves none
  absent-using : (room : ℕ) (key : K) (used : Entry K V) (contents : Contents K V) → keys.eq used.key key ≡ false
      → entry_at keys.eq key contents.entries ≡ None → entry_at keys.eq key (after_using keys.eq room used contents).entries ≡ None
  absent-using room key used contents differ none =
      let (f, at) = entry_at-using laws room key used contents in
      at ∙ ap (placed f) (cond-false (keys.eq used.key key) (Some used) (entry_at keys.eq key contents.entries) differ ∙ none)

  absent-use : (room now : ℕ) (other key : K) (o : Option (Entry K V)) (contents : Contents K V)
      → ((used : Entry K V) → o ≡ Some used → entry_at keys.eq other contents.entries ≡ Some used)
      → entry_at keys.eq key contents.entries ≡ None → entry_at keys.eq key (after_use keys.eq room now o contents).entries ≡ None
  absent-use room now other key None contents there none = none
  absent-use room now other key (Some used) contents there none =
      let found = there used refl in
      elim (cases_Bool (keys.eq used.key key)) [
        | inl equal ↦
            something none (sym (entry_at-equal laws other key
            (laws.congr other used.key key (found_key keys.eq other used contents.entries found) ∙ equal) contents.entries) ∙ found)
        | inr differ ↦ absent-using room key (record used { accessed = now }) contents differ none
      ]

  absent-put : (cache : CacheState K V S W) (put : Entry K V) (refused : Refused) (key : K) (o : Option (Entry K V))
      → StandOnce keys.eq cache.contents.entries → entry_at keys.eq put.key cache.contents.entries ≡ o
      → keys.eq put.key key ≡ false → entry_at keys.eq key cache.contents.entries ≡ None
      → entry_at keys.eq key (after_put keys.eq cache o put refused).contents.entries ≡ None
  absent-put cache put refused key (Some known) once there differ none =
      absent-using (room_of cache) key (record put { key = known.key; hash = known.hash; part = known.part }) cache.contents
      (sym (laws.congr put.key known.key key (found_key keys.eq put.key known cache.contents.entries there)) ∙ differ) none
  absent-put cache put refused key None once there differ none = entering (windowed cache)
    where
      by : (gone : Option (List (Entry K V))) → entry_at keys.eq key (after_verdict keys.eq cache put gone refused).contents.entries ≡ None
      by None = none
      by (Some gone) =
          let left = after_leaving keys.eq (entry_keys gone) cache.contents in
          let empty = absent-left laws gone cache.contents key none in
          entry_at-latest laws key put left.entries (absent-left laws gone cache.contents put.key there) ∙
          (cond-false (keys.eq put.key key) (Some put) (entry_at keys.eq key left.entries) differ ∙ empty)

      nothing : (keeps : Bool) (limits : PartLimits) (o : Option (Entry K V))
          → entry_at keys.eq key (after_entering keys.eq keeps limits cache.sketch put cache.contents).entries ≡ o
          → entry_at keys.eq key (after_entering keys.eq keeps limits cache.sketch put cache.contents).entries ≡ None
      nothing keeps limits None at = at
      nothing keeps limits (Some e) at =
          elim (found-entering keys.eq laws keeps limits cache.sketch put cache.contents there once key e at) [
            | inl (equal, same) ↦ absurd (false≢true (sym differ ∙ equal))
            | inr (other, (old, stood, same)) ↦ something none stood
          ]

      turned-nothing : (limit : PartLimits) (contents : Contents K V) → entry_at keys.eq key contents.entries ≡ None → (o : Option (Entry K V))
          → entry_at keys.eq key (after_turn keys.eq cache cache.memory limit put contents).contents.entries ≡ o
          → entry_at keys.eq key (after_turn keys.eq cache cache.memory limit put contents).contents.entries ≡ None
      turned-nothing limit contents before None at = at
      turned-nothing limit contents before (Some e) at =
          let (old, stood, same) = found-turned keys.eq laws cache cache.memory limit put contents key e at in
          something before stood

      entering : (limit : Option PartLimits) → entry_at keys.eq key (after_new keys.eq cache limit put refused).contents.entries ≡ None
      entering None = by (victims_of cache.settings.policy.max_capacity cache.sketch put cache.contents.entries)
      entering (Some limit) =
          let keeps = keeps_writes cache.settings.policy in
          let contents = after_entering keys.eq keeps limit cache.sketch put cache.contents in
          let next = after_turn keys.eq cache cache.memory limit put contents in
          ap (λ c. entry_at keys.eq key c.entries) (contents-standing keys.eq next put refused)
          ∙ turned-nothing limit contents (nothing keeps limit (entry_at keys.eq key contents.entries) refl)
          (entry_at keys.eq key next.contents.entries) refl

  -- without an accepted insert no key comes to have an entry
  absent-step : (key : K) (old new : CacheState K V S W) (request : Request K V) (answer : Answer K V)
      → IsStep keys weighs old request answer new → StandOnce keys.eq old.contents.entries
      → is_written keys request answer key ≡ false → entry_at keys.eq key old.contents.entries ≡ None
      → entry_at keys.eq key new.contents.entries ≡ None
  absent-step key old new (Get other now) answer step once written none =
      let kept = (after_look keys old now).contents in
      ap (λ c. entry_at keys.eq key c.contents.entries) step.1
      ∙ absent-use (room_of old) now other key (unexpired_at keys.eq old.settings.policy now other kept) kept
      (found_there old.settings.policy now (entry_at keys.eq other kept.entries)) (absent-cleanup old now key none)
  absent-step key old new (Peek other now) answer step once written none =
      ap (λ c. entry_at keys.eq key c.contents.entries) step.1 ∙ none
  absent-step key old new (ContainsKey other now) answer step once written none =
      ap (λ c. entry_at keys.eq key c.contents.entries) step.1 ∙ absent-cleanup old now key none
  absent-step key old new (Miss hash now) answer step once written none =
      ap (λ c. entry_at keys.eq key c.contents.entries) step.1 ∙ absent-cleanup old now key none
  absent-step key old new (Insert other value own now) answer (inl (done, inserted)) once written none =
      let kept = (after_look keys old now).contents in
      ap (λ c. entry_at keys.eq key c.contents.entries) inserted.step
      ∙ absent-put (record old { weigher = inserted.weigher; capacity = inserted.capacity; contents = kept })
      (new_entry keys old.settings other value inserted.weight own now) inserted.refused key
      (entry_at keys.eq other kept.entries)
      (once-remains keys.eq old.contents kept (remains-cleanup keys.eq old.settings.policy now old.contents) once) refl
      (sym (ap (λ a. is_written keys (Insert other value own now) a key) done) ∙ written)
      (absent-cleanup old now key none)
  absent-step key old new (Insert other value own now) answer (inr (refused, same)) once written none =
      ap (λ c. entry_at keys.eq key c.contents.entries) same.same ∙ none
  absent-step key old new (Invalidate other now) answer step once written none =
      ap (λ c. entry_at keys.eq key c.contents.entries) step.1 ∙ absent-leaving keys.eq key (other ∷ [])
      (after_look keys old now).contents (absent-cleanup old now key none)
  absent-step key old new (Remove other now) answer step once written none =
      ap (λ c. entry_at keys.eq key c.contents.entries) step.1 ∙ absent-leaving keys.eq key (other ∷ [])
      (after_look keys old now).contents (absent-cleanup old now key none)
  absent-step key old new InvalidateAll answer step once written none = ap (λ c. entry_at keys.eq key c.contents.entries) step.1
  absent-step key old new (InvalidateEntriesIf answers) answer step once written none =
      ap (λ c. entry_at keys.eq key c.contents.entries) step.1 ∙ absent-leaving keys.eq key
      (entry_keys (chosen answers old.contents.entries)) old.contents none
  absent-step key old new (Iterate now) answer step once written none = ap (λ c. entry_at keys.eq key c.contents.entries) step.1 ∙ none
  absent-step key old new EntryCount answer step once written none = ap (λ c. entry_at keys.eq key c.contents.entries) step.1 ∙ none
  absent-step key old new WeightedSize answer step once written none = ap (λ c. entry_at keys.eq key c.contents.entries) step.1 ∙ none

  missing-absent : (settings : Settings S) (shares : Shares) (weigher : W) (capacity : ℕ) (past : List (Transition K V S W))
      (cache : CacheState K V S W) (key : K)
      → Leads keys weighs (new_cache settings shares weigher capacity) past cache
      → IsMissing keys weighs past key → entry_at keys.eq key cache.contents.entries ≡ None
  missing-absent settings shares weigher capacity [] cache key leads missing = ap (λ c. entry_at keys.eq key c.contents.entries) leads
  missing-absent settings shares weigher capacity (call ∷ earlier) cache key (is, step, leads) (inl rejected) =
      sym (ap (λ c. entry_at keys.eq key c.contents.entries) is) ∙ rejected.absent
  missing-absent settings shares weigher capacity (call ∷ earlier) cache key (is, step, leads) (inr (unwritten, inl leaves)) =
      sym (ap (λ c. entry_at keys.eq key c.contents.entries) is) ∙ leaves.left
  missing-absent settings shares weigher capacity (call ∷ earlier) cache key (is, step, leads) (inr (unwritten, inr missing)) =
      sym (ap (λ c. entry_at keys.eq key c.contents.entries) is)
      ∙ absent-step key call.before call.after call.request call.answer step
      (once-run keys laws weighs settings shares weigher capacity earlier call.before leads) unwritten
      (missing-absent settings shares weigher capacity earlier call.before key leads missing)

  -- a get of a key that is missing, or whose last write is over, finds nothing
  nothing_found : (settings : Settings S) (shares : Shares) (weigher : W) (capacity : ℕ) (past : List (Transition K V S W)) (call : Transition K V S W)
      (cache : CacheState K V S W) (key : K) (now : ℕ)
      → Leads keys weighs (new_cache settings shares weigher capacity) (call ∷ past) cache → call.request ≡ Get key now
      → IsMissing keys weighs (call ∷ past) key
      ⊎ ((write : LastWrite V) × (last_write keys key (exchanges past) ≡ Some write) × (is_over settings.policy now write ≡ true))
      → call.answer ≡ Found None
  nothing_found settings shares weigher capacity past call cache key now (is, step, leads) asked reason =
      let kept = (after_look keys call.before now).contents in
      let policy = call.before.settings.policy in
      by (subst (λ r. IsStep keys weighs call.before r call.answer call.after) asked step) (unexpired_at keys.eq policy now key kept) refl
      (found_there policy now (entry_at keys.eq key kept.entries)) (found_fresh policy now (entry_at keys.eq key kept.entries))
    where
      by : IsStep keys weighs call.before (Get key now) call.answer call.after → (o : Option (Entry K V))
          → unexpired_at keys.eq call.before.settings.policy now key (after_look keys call.before now).contents ≡ o
          → ((used : Entry K V) → unexpired_at keys.eq call.before.settings.policy now key
          (after_look keys call.before now).contents ≡ Some used → entry_at keys.eq key
          (after_look keys call.before now).contents.entries ≡ Some used)
          → ((used : Entry K V) → unexpired_at keys.eq call.before.settings.policy now key
          (after_look keys call.before now).contents ≡ Some used → is_expired call.before.settings.policy now used ≡ false)
          → call.answer ≡ Found None
      by got None at there fresh = got.0 ∙ ap (λ o. Found (option_map (λ e. e.value) o)) at
      by got (Some used) at there fresh =
          let kept = (after_look keys call.before now).contents in
          elim reason [
            | inl missing ↦
                use-stands keys laws key used (room_of call.before) now (Some used) kept (there used at)
                (sym (ap (λ c. entry_at keys.eq key c.contents.entries) got.1 ∙ ap
                (λ o. entry_at keys.eq key (after_use keys.eq (room_of call.before) now o kept).entries) at)
                ∙ (ap (λ c. entry_at keys.eq key c.contents.entries) is ∙ missing-absent settings shares weigher capacity (call ∷ past) cache key
                (is, step, leads) missing))
            | inr (write, known, over) ↦
                let same : write ≡ last_write_of used =
                one_of known
                (told-cleanup keys laws (λ key. last_write keys key (exchanges past)) call.before now
                (told-run keys laws weighs settings shares weigher capacity past call.before leads) key used (there used at)) in
                absurd (false≢true
                (sym (subst (λ s. is_over s.policy now (last_write_of used) ≡ false)
                (settings-run keys laws weighs settings shares weigher capacity past call.before leads) (fresh used at))
                ∙ (ap (is_over settings.policy now) (sym same) ∙ over)))
          ]

  pub misses : MissesHaveAReason keys weighs
  misses settings shares weigher capacity past call cache key now leads asked = (
    missed settings shares weigher capacity past call cache key now leads asked,
    nothing_found settings shares weigher capacity past call cache key now leads asked,
  )

  -- a look-up by a probe that finds nothing of a key
  pub probe_misses : ProbesMissForAReason keys weighs
  probe_misses settings shares weigher capacity past call cache key hash now (is, step, leads) asked empty =
      by (subst (λ r. IsStep keys weighs call.before r call.answer call.after) asked step)
      (entry_at keys.eq key (after_look keys call.before now).contents.entries) refl
    where
      by : IsStep keys weighs call.before (Miss hash now) call.answer call.after → (o : Option (Entry K V))
          → entry_at keys.eq key (after_look keys call.before now).contents.entries ≡ o
          → IsMissing keys weighs (call ∷ past) key
          ⊎ ((write : LastWrite V) × (last_write keys key (exchanges past) ≡ Some write) × (is_over settings.policy now write ≡ true))
      by missed None at =
          inl (missing-run settings shares weigher capacity (call ∷ past) cache key (is, step, leads)
          (sym (ap (λ c. entry_at keys.eq key c.contents.entries) is) ∙ (ap (λ c. entry_at keys.eq key c.contents.entries) missed.1 ∙ at)))
      by missed (Some e) at =
          let policy = call.before.settings.policy in
          let none : option_map (λ e. e.value) (unexpired policy now (Some e)) ≡ None =
          sym (ap (λ o. option_map (λ e. e.value) (unexpired policy now o)) at) ∙ empty in
          elim (cases_Bool (is_expired policy now e)) [
            | inl expired ↦
                inr (
                  last_write_of e,
                  told-cleanup keys laws (λ key. last_write keys key (exchanges past)) call.before now
                      (told-run keys laws weighs settings shares weigher capacity past call.before leads) key e at,
                  subst (λ s. is_over s.policy now (last_write_of e) ≡ true)
                      (settings-run keys laws weighs settings shares weigher capacity past call.before leads) expired,
                )
            | inr fresh ↦ something none (ap (option_map (λ e. e.value)) (cond-false (is_expired policy now e) None (Some e) fresh))
          ]

  -- an accepted insert has its entry then, or was rejected
  pub inserts : InsertsEnterOrAreRejected keys weighs
  inserts settings shares weigher capacity past call cache key value own now (is, step, leads) asked done =
      by (entry_at keys.eq key cache.contents.entries) refl
    where
      by : (o : Option (Entry K V)) → entry_at keys.eq key cache.contents.entries ≡ o
          → ((e : Entry K V) × (entry_at keys.eq key cache.contents.entries ≡ Some e) ×
          (last_write_of e ≡ record { value = value; deadline = end_of (live_nanos settings.policy) own now; used = now }))
          ⊎ IsRejected keys weighs call key
      by None at =
          inr (rejected key call.before call.after call.request call.answer step
          (once-run keys laws weighs settings shares weigher capacity past call.before leads)
          ((λ i. is_written keys (asked i) (done i) key) ∙ laws.refl key)
          (ap (λ c. entry_at keys.eq key c.contents.entries) is ∙ at))
      by (Some e) at =
          let known = last_write keys key (exchanges past) in
          inl (
            e,
            at,
            one_of (told-run keys laws weighs settings shares weigher capacity (call ∷ past) cache (is, step, leads) key e at)
                ((λ i. known_after keys (asked i) (done i) (chosen_keys call.request call.before.contents.entries)
                (inserted_deadline (settings-run keys laws weighs settings shares weigher capacity past call.before leads i).policy (asked i)) key known)
                ∙ cond-true (keys.eq key key)
                (Some (record { value = value; deadline = end_of (live_nanos settings.policy) own now; used = now })) known (laws.refl key)),
          )
