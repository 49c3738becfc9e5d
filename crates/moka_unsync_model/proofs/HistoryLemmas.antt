-- Lemmas on what the calls of a cache tell of its entries.
use Rattle.std.proofs.Common.{◌≡◌, ◌⊎◌, ◌-◌, ℕ, Bool, true, false, cond, not, ◌||◌, List, [], ◌∷◌, ◌++◌, filter, is_some, map, reverse}
use Rattle.std.proofs.Common.{take, take_while, Option, Some, None, option_map, unwrap_or, refl, sym, ap, ◌∙◌, subst, inl, inr}
use Rattle.std.proofs.lemmas.Bool.{cases_Bool, cond-true, cond-false, false≢true}
use Rattle.std.proofs.lemmas.List.{map-append, reverse-append}
use Rattle.std.proofs.lemmas.List.Elements.{All-cons, All-from_recursion}
use Rattle.std.proofs.lemmas.Map.Keys.{IsDistinct-head, IsDistinct-tail}
use Rattle.std.specs.Cmp.{IsEquivalence}
use Rattle.std.specs.List.{AllByRecursion, list_any}
use Rattle.moka_common.specs.Keys.{Keys}
use Rattle.moka_unsync_model.specs.Deadline.{end_of}
use Rattle.moka_common.specs.Policy.{Policy}
use Rattle.moka_unsync_model.specs.declared.entry.Entry.{Entry}
use Rattle.moka_unsync_model.specs.declared.constants.TheConstants.{EVICTION_BATCH_SIZE}
use Rattle.moka_unsync_model.specs.Contents.{Contents, after_leaving, entry_at, entries_without, entry_keys, main_of, total_weight, window_of, without}
use Rattle.moka_unsync_model.specs.Contents.{is_window, probation_of, protected_of}
use Rattle.moka_unsync_model.specs.CacheState.{CacheState, new_cache, room_of, windowed}
use Rattle.moka_common.specs.Settings.{Settings, keeps_writes, live_nanos}
use Rattle.moka_common.specs.Sketch.{Table}
use Rattle.moka_unsync_model.specs.Cleanup.{after_expiry, after_idle, after_live_expiry, after_trim, after_cleanup, is_past_ttl, is_idle, least_recent}
use Rattle.moka_unsync_model.specs.Lookup.{after_get, after_use, after_look, unexpired_at, after_using}
use Rattle.moka_unsync_model.specs.Cleanup.{is_expired, unexpired}
use Rattle.moka_unsync_model.specs.Insert.{Refused, after_entering, after_entry, after_new, after_put, after_turn, after_verdict, new_entry}
use Rattle.moka_unsync_model.specs.Window.{after_candidacy, after_candidates, after_sharing, candidates, given_up, victims_of}
use Rattle.moka_unsync_model.specs.Invalidate.{chosen}
use Rattle.moka_unsync_model.specs.Iterate.{unexpired_pairs}
use Rattle.moka_unsync_model.specs.Step.{Answer, IsStep, Request, Get, Peek, ContainsKey, Miss, Insert, Invalidate, Remove, InvalidateAll}
use Rattle.moka_unsync_model.specs.Step.{InvalidateEntriesIf, Iterate, EntryCount, WeightedSize, Done, Found, Pairs, Truth}
use Rattle.moka_unsync_model.specs.History.{ContainsAsGet, Exchange, Transition, chosen_keys, exchanges, HitsAreCurrent, IsCurrent}
use Rattle.moka_unsync_model.specs.History.{IsLastInsert, LastWrite, LastWritesAreInserts, Leads, PairsAreCurrent, PeekAsGet, PeeksAreCurrent, RemoveAsGet}
use Rattle.moka_unsync_model.specs.History.{RunsHaveAHistory}
use Rattle.moka_unsync_model.specs.History.{inserted_deadline, is_invalidated, is_over, is_written, known_after, last_write, used_at}
use Rattle.moka_unsync_model.specs.Removal.{last_write_of}
use Rattle.moka_unsync_model.proofs.ContentsLemmas.{found_key, absent-leaving}
use Rattle.moka_unsync_model.proofs.KeyLemmas.{StandOnce, contents-standing, entry_at-gone, none_stand, once-candidacy, once-push, once-remains, once-step}
use Rattle.moka_unsync_model.proofs.LimitLemmas.{found_there}
use Rattle.moka_unsync_model.proofs.MapLemmas.{entry_at-equal, entry_at-moved, entry_at-other, entry_at-push}
use Rattle.moka_unsync_model.proofs.RemainLemmas.{remains-cleanup}
use Rattle.moka_unsync_model.proofs.StandLemmas.{AreCandidates, are-chosen, are-left}
use Rattle.moka_unsync_model.proofs.MapLemmas.{gone_either, settings-step, told_by_value, entry_at-latest, entry_at-using}
use Rattle.moka_unsync_model.specs.declared.shares.PartLimits.{PartLimits}
use Rattle.moka_unsync_model.specs.Shares.{main_limit}
use Rattle.moka_unsync_model.specs.declared.entry.Part.TheVariants.{Probation, Window}
use Rattle.moka_unsync_model.specs.declared.shares.Shares.{Shares}
use Rattle.moka_unsync_model.proofs.PartLemmas.{entry_at-demoted, placed-some, waits-demoted}
use Rattle.moka_unsync_model.proofs.SharingLemmas.{stays_of}
use Rattle.moka_unsync_model.specs.Memory.{Memory}

-- a key among those of entries is that of one of them
pub any-key : {K V : Type 0} (test : K → Bool) (entries : List (Entry K V))
    → list_any test (entry_keys entries) ≡ list_any (λ e. test e.key) entries
any-key test [] = refl
any-key test (e ∷ es) = ap (λ b. test e.key || b) (any-key test es)

-- ---- what stands once others have left

-- what is something is not nothing
pub something : {X : Type 0} {P : Type 0} {o : Option X} {x : X} → o ≡ None → o ≡ Some x → P
something none some = absurd (false≢true (sym (ap is_some none) ∙ ap is_some some))

-- two of the same are one
pub one_of : {X : Type 0} {o : Option X} {x y : X} → o ≡ Some x → o ≡ Some y → x ≡ y
one_of {x = x} a b = ap (λ o. unwrap_or o x) (sym a ∙ b)

-- where something is left, nothing took it
pub left_of : {X : Type 0} (b : Bool) (o : Option X) (x : X) → cond b None o ≡ Some x → (b ≡ false) × (o ≡ Some x)
left_of true o x h = something {o = None} refl h
left_of false o x h = (refl, h)

module _ {K V : Type 0} {eq : K → K → Bool} (laws : IsEquivalence eq) where
  -- where a key leaves, so does its entry
  pub entry_at-without : (gone key : K) (entries : List (Entry K V))
      → entry_at eq key (entries_without eq gone entries) ≡ cond (eq gone key) None (entry_at eq key entries)
  entry_at-without gone key entries =
      elim (cases_Bool (eq gone key)) [
        | inl equal ↦ entry_at-gone eq laws gone key equal entries ∙ sym (cond-true (eq gone key) None (entry_at eq key entries) equal)
        | inr differ ↦ entry_at-other laws gone key differ entries ∙ sym (cond-false (eq gone key) None (entry_at eq key entries) differ)
      ]

  -- where keys leave, so do their entries
  pub entry_at-leaving : {X : Type 0} (key_of : X → K) (gone : List X) (contents : Contents K V) (key : K)
      → entry_at eq key (after_leaving eq (map key_of gone) contents).entries ≡ cond (list_any (λ x. eq (key_of x) key) gone) None
      (entry_at eq key contents.entries)
  entry_at-leaving key_of [] contents key = refl
  entry_at-leaving key_of (g ∷ gone) contents key =
      entry_at-leaving key_of gone (without eq contents (key_of g)) key
      ∙ (ap (cond (list_any (λ x. eq (key_of x) key) gone) None) (entry_at-without (key_of g) key contents.entries)
      ∙ gone_either (eq (key_of g) key) (list_any (λ x. eq (key_of x) key) gone) (entry_at eq key contents.entries))

  -- what still stands stood before
  pub found-leaving : {X : Type 0} (key_of : X → K) (gone : List X) (contents : Contents K V) (key : K) (e : Entry K V)
      → entry_at eq key (after_leaving eq (map key_of gone) contents).entries ≡ Some e
      → (list_any (λ x. eq (key_of x) key) gone ≡ false) × (entry_at eq key contents.entries ≡ Some e)
  found-leaving key_of gone contents key e h =
      left_of (list_any (λ x. eq (key_of x) key) gone) (entry_at eq key contents.entries) e
      (sym (entry_at-leaving key_of gone contents key) ∙ h)

  found-trim : (limit : Option ℕ) (contents : Contents K V) (key : K) (e : Entry K V)
      → entry_at eq key (after_trim eq limit contents).entries ≡ Some e → entry_at eq key contents.entries ≡ Some e
  found-trim None contents key e h = h
  found-trim (Some limit) contents key e h =
      (found-leaving (λ e. e.key)
      (take EVICTION_BATCH_SIZE (least_recent (total_weight contents.entries - limit) contents.entries)) contents key e h).1

  -- what cleanup leaves stood before
  pub found-cleanup : (policy : Policy) (now : ℕ) (contents : Contents K V) (key : K) (e : Entry K V)
      → entry_at eq key (after_cleanup eq policy now contents).entries ≡ Some e → entry_at eq key contents.entries ≡ Some e
  found-cleanup policy now contents key e h =
      let lived = after_live_expiry eq policy now EVICTION_BATCH_SIZE contents in
      let waited = after_idle eq policy now EVICTION_BATCH_SIZE (window_of lived.entries) lived in
      let tried = after_idle eq policy now EVICTION_BATCH_SIZE (probation_of lived.entries) waited in
      (found-leaving (λ w. w.key) (take EVICTION_BATCH_SIZE (take_while (is_past_ttl policy now) contents.written)) contents key e
      (found-leaving (λ e. e.key) (take EVICTION_BATCH_SIZE (take_while (is_idle policy now) (window_of lived.entries))) lived key e
      (found-leaving (λ e. e.key) (take EVICTION_BATCH_SIZE (take_while (is_idle policy now) (probation_of lived.entries))) waited key e
      (found-leaving (λ e. e.key) (take EVICTION_BATCH_SIZE (take_while (is_idle policy now) (protected_of lived.entries))) tried key e
      (found-trim policy.max_capacity (after_expiry eq policy now contents) key e h)).1).1).1).1

module _ {K V : Type 0} {eq : K → K → Bool} (laws : IsEquivalence eq) where
  -- behind an entry of another key they are found as before
  found-behind : (x : Entry K V) (xs es : List (Entry K V)) → AllByRecursion (λ k. eq x.key k ≡ false) (entry_keys es)
      → AllByRecursion (λ e. entry_at eq e.key xs ≡ Some e) es
      → AllByRecursion (λ e. entry_at eq e.key (x ∷ xs) ≡ Some e) es
  found-behind x xs [] differ found = tt
  found-behind x xs (e ∷ es) differ found = (
    cond-false (eq e.key x.key) (Some x) (entry_at eq e.key xs) (laws.symm e.key x.key ∙ differ.0) ∙ found.0,
    found-behind x xs es differ.1 found.1,
  )

  -- where no key stands twice, each entry is found at its key
  pub found-own : (entries : List (Entry K V)) → StandOnce eq entries → AllByRecursion (λ e. entry_at eq e.key entries ≡ Some e) entries
  found-own [] once = tt
  found-own (x ∷ xs) once = (
    cond-true (eq x.key x.key) (Some x) (entry_at eq x.key xs) (laws.refl x.key),
    found-behind x xs xs (IsDistinct-head eq x.key (entry_keys xs) once) (found-own xs (IsDistinct-tail eq x.key (entry_keys xs) once)),
  )

-- ---- what stands once a new entry entered the window

module _ {K V : Type 0} (eq : K → K → Bool) (laws : IsEquivalence eq) where
  -- the same entry, wherever it is; in the window only if it was there
  pub record IsSame (old new : Entry K V) : Type 0 where
    pub but : new ≡ record old { part = new.part }
    pub waits : is_window new.part ≡ true → is_window old.part ≡ true

  pub same-self : (e : Entry K V) → IsSame e e
  same-self e = record { but = refl; waits = λ w. w }

  pub same-moved : (e : Entry K V) → IsSame e (record e { part = Probation })
  same-moved e = record { but = refl; waits = λ w. absurd (false≢true w) }

  pub same-both : (a b c : Entry K V) → IsSame a b → IsSame b c → IsSame a c
  same-both a b c f g =
      record { but = g.but ∙ ap (λ (e : Entry K V). record e { part = c.part }) f.but; waits = λ w. f.waits (g.waits w) }

  -- what stands once the limits changed stood before
  pub found-sharing : (limits : PartLimits) (gained : ℕ) (contents : Contents K V) (key : K) (e : Entry K V)
      → entry_at eq key (after_sharing eq limits gained contents).entries ≡ Some e
      → (old : Entry K V) × (entry_at eq key contents.entries ≡ Some old) × IsSame old e
  found-sharing limits gained contents key e h =
      let left = stays_of eq limits gained contents in
      let weight = total_weight (protected_of left.entries) - limits.protected in
      let (f, at) = entry_at-demoted eq key weight left.entries in
      let (old, stood, but) = placed-some f (entry_at eq key left.entries) e (sym at ∙ h) in
      let before = (found-leaving laws (λ x. x.key) (given_up limits gained contents.entries) contents key old stood).1 in (
        old,
        before,
        record {
          but = but;
          waits = λ w. subst (λ (x : Entry K V). is_window x.part ≡ true) (one_of (waits-demoted eq key weight left.entries e h w) stood) w;
        },
      )

  pub found-turned : {S W : Type 0} (cache : CacheState K V S W) (memory : Option Memory) (limits : PartLimits) (new : Entry K V)
      (contents : Contents K V) (key : K) (e : Entry K V)
      → entry_at eq key (after_turn eq cache memory limits new contents).contents.entries ≡ Some e
      → (old : Entry K V) × (entry_at eq key contents.entries ≡ Some old) × IsSame old e
  found-turned cache None limits new contents key e h = (e, h, same-self e)
  found-turned cache (Some memory) limits new contents key e h = found-sharing _ _ contents key e h

  -- what stands once a candidate was judged stood before
  found-candidacy : (c : Entry K V) (contents : Contents K V) → entry_at eq c.key contents.entries ≡ Some c
      → (gone : Option (List (Entry K V))) (key : K) (e : Entry K V) → entry_at eq key (after_candidacy eq c gone contents).entries ≡ Some e
      → (old : Entry K V) × (entry_at eq key contents.entries ≡ Some old) × IsSame old e
  found-candidacy c contents stands None key e h =
      let (differ, is) = left_of (eq c.key key) (entry_at eq key contents.entries) e (sym (entry_at-without laws c.key key contents.entries) ∙ h) in
      (e, is, same-self e)
  found-candidacy c contents stands (Some gone) key e h =
      let left = after_leaving eq (entry_keys gone) contents in
      let moved = record c { part = Probation } in
      let at : cond (eq c.key key) (Some moved) (entry_at eq key left.entries) ≡ Some e = sym (entry_at-moved laws key moved left.entries) ∙ h in
      elim (cases_Bool (eq c.key key)) [
        | inl equal ↦
            let is : moved ≡ e = one_of (cond-true (eq c.key key) (Some moved) (entry_at eq key left.entries) equal) at in
            (c, sym (entry_at-equal laws c.key key equal contents.entries) ∙ stands, subst (IsSame c) is (same-moved c))
        | inr differ ↦
            let stays = sym (cond-false (eq c.key key) (Some moved) (entry_at eq key left.entries) differ) ∙ at in
            (e, (found-leaving laws (λ x. x.key) gone contents key e stays).1, same-self e)
      ]

  found-candidates : (limits : PartLimits) (sketch : Option Table) (es : List (Entry K V)) (contents : Contents K V) → StandOnce eq contents.entries
      → AreCandidates eq laws contents es
      → (key : K) (e : Entry K V) → entry_at eq key (after_candidates eq limits sketch es contents).entries ≡ Some e
      → (old : Entry K V) × (entry_at eq key contents.entries ≡ Some old) × IsSame old e
  found-candidates limits sketch [] contents once are key e h = (e, h, same-self e)
  found-candidates limits sketch (c ∷ es) contents once are key e h =
      let gone = victims_of (Some (main_limit limits)) sketch c (main_of contents.entries) in
      let next = after_candidacy eq c gone contents in
      let (middle, there, same) =
      found-candidates limits sketch es next (once-candidacy eq laws c gone contents once)
      (are-left eq laws (main_limit limits) sketch c es contents once are gone refl) key e h in
      let (old, stood, same_before) = found-candidacy c contents are.stand.0.0 gone key middle there in
      (old, stood, same-both old middle e same_before same)

  -- what stands then is the new entry, or stood before
  pub found-entering : (keeps : Bool) (limits : PartLimits) (sketch : Option Table) (new : Entry K V) (contents : Contents K V)
      → entry_at eq new.key contents.entries ≡ None → StandOnce eq contents.entries
      → (key : K) (e : Entry K V) → entry_at eq key (after_entering eq keeps limits sketch new contents).entries ≡ Some e
      → ((eq new.key key ≡ true) × (e ≡ record new { part = e.part }))
      ⊎ ((eq new.key key ≡ false) × ((old : Entry K V) × (entry_at eq key contents.entries ≡ Some old) × IsSame old e))
  found-entering keeps limits sketch new contents absent once key e h =
      let waiting = record new { part = Window } in
      let entered = after_entry eq keeps waiting contents in
      let apart = once-push eq laws contents.entries waiting absent once in
      let (old, stood, same) =
      found-candidates limits sketch (candidates limits entered.entries) entered apart (are-chosen eq laws limits entered apart) key e h in
      let at : cond (eq new.key key) (Some waiting) (entry_at eq key contents.entries) ≡ Some old =
      sym (entry_at-push laws key waiting contents.entries (λ equal. sym (entry_at-equal laws new.key key equal contents.entries) ∙ absent))
      ∙ stood in
      elim (cases_Bool (eq new.key key)) [
        | inl equal ↦
            let is : waiting ≡ old = one_of (cond-true (eq new.key key) (Some waiting) (entry_at eq key contents.entries) equal) at in
            inl (equal, same.but ∙ ap (λ (x : Entry K V). record x { part = e.part }) (sym is))
        | inr differ ↦
            inr (differ, (old, sym (cond-false (eq new.key key) (Some waiting) (entry_at eq key contents.entries) differ) ∙ at, same))
      ]

-- ---- what is known of the entries

-- what is found is not expired
pub found_fresh : {K V : Type 0} (policy : Policy) (now : ℕ) (o : Option (Entry K V)) (used : Entry K V)
    → unexpired policy now o ≡ Some used → is_expired policy now used ≡ false
found_fresh policy now None used h = something {o = None} refl h
found_fresh policy now (Some e) used h =
    let (fresh, is) = left_of (is_expired policy now e) (Some e) used h in
    subst (λ x. is_expired policy now x ≡ false) (one_of refl is) fresh

-- the values found are the same
pub same_found : {K V : Type 0} {x : Answer K V} {a b : Option V} → x ≡ Found a → x ≡ Found b → a ≡ b
same_found g h = cc

-- so are the pairs given
same_pairs : {K V : Type 0} {x : Answer K V} {a b : List (K × V)} → x ≡ Pairs a → x ≡ Pairs b → a ≡ b
same_pairs g h = cc

module _ {K V S : Type 0} (keys : Keys K S) (laws : IsEquivalence keys.eq) where
  -- each entry has what is known of the last write of its key
  abbrev pub IsTold : (K → Option (LastWrite V)) → List (Entry K V) → Type 0
  IsTold known entries = (key : K) (e : Entry K V) → entry_at keys.eq key entries ≡ Some e → known key ≡ Some (last_write_of e)

  -- a get that found an entry
  told-hit : (known : K → Option (LastWrite V)) (room : ℕ) (contents : Contents K V) (other : K) (now : ℕ) (used : Entry K V)
      → IsTold known contents.entries → entry_at keys.eq other contents.entries ≡ Some used
      → IsTold (λ key. cond (keys.eq other key) (option_map (used_at now) (known key)) (known key))
      (after_using keys.eq room (record used { accessed = now }) contents).entries
  told-hit known room contents other now used told there key e h =
      let entries = contents.entries in
      let new = record used { accessed = now } in
      let same : keys.eq other key ≡ keys.eq used.key key = laws.congr other used.key key (found_key keys.eq other used entries there) in
      let (f, placed_at) = entry_at-using laws room key new contents in
      let (x, at, but) = placed-some f (cond (keys.eq used.key key) (Some new) (entry_at keys.eq key entries)) e (sym placed_at ∙ h) in
      let but_part = ap (λ (e : Entry K V). Some (last_write_of e)) (sym but) in
      elim (cases_Bool (keys.eq used.key key)) [
        | inl equal ↦
            let is : new ≡ x = one_of (cond-true (keys.eq used.key key) (Some new) (entry_at keys.eq key entries) equal) at in
            cond-true (keys.eq other key) _ _ (same ∙ equal)
            ∙ (ap (option_map (used_at now)) (told key used (sym (entry_at-equal laws other key (same ∙ equal) entries) ∙ there))
            ∙ (ap (λ e. Some (last_write_of e)) is ∙ but_part))
        | inr differ ↦
            cond-false (keys.eq other key) _ _ (same ∙ differ)
            ∙ (told key x (sym (cond-false (keys.eq used.key key) (Some new) (entry_at keys.eq key entries) differ) ∙ at) ∙ but_part)
      ]

module _ {K V S W : Type 0} (keys : Keys K S) (laws : IsEquivalence keys.eq) where
  -- an entry that is put where none or another stands
  told-put : (known : K → Option (LastWrite V)) (cache : CacheState K V S W) (o : Option (Entry K V)) (new : Entry K V) (refused : Refused)
      → IsTold keys laws known cache.contents.entries → StandOnce keys.eq cache.contents.entries
      → entry_at keys.eq new.key cache.contents.entries ≡ o
      → IsTold keys laws (λ key. cond (keys.eq new.key key) (Some (last_write_of new)) (known key))
      (after_put keys.eq cache o new refused).contents.entries
  told-put known cache (Some old) new refused told once there key e h =
      let entries = cache.contents.entries in
      let put = record new { key = old.key; hash = old.hash; part = old.part } in
      let same : keys.eq new.key key ≡ keys.eq old.key key = laws.congr new.key old.key key (found_key keys.eq new.key old entries there) in
      let (f, placed_at) = entry_at-using laws (room_of cache) key put cache.contents in
      let (x, at, but) = placed-some f (cond (keys.eq old.key key) (Some put) (entry_at keys.eq key entries)) e (sym placed_at ∙ h) in
      let but_part = ap (λ (e : Entry K V). Some (last_write_of e)) (sym but) in
      elim (cases_Bool (keys.eq old.key key)) [
        | inl equal ↦
            let is : put ≡ x = one_of (cond-true (keys.eq old.key key) (Some put) (entry_at keys.eq key entries) equal) at in
            cond-true (keys.eq new.key key) _ _ (same ∙ equal) ∙ (ap (λ e. Some (last_write_of e)) is ∙ but_part)
        | inr differ ↦
            cond-false (keys.eq new.key key) _ _ (same ∙ differ)
            ∙ (told key x (sym (cond-false (keys.eq old.key key) (Some put) (entry_at keys.eq key entries) differ) ∙ at) ∙ but_part)
      ]
  told-put known cache None new refused told once none key e h = entering (windowed cache) h
    where
      by : (gone : Option (List (Entry K V)))
          → entry_at keys.eq key (after_verdict keys.eq cache new gone refused).contents.entries ≡ Some e
          → cond (keys.eq new.key key) (Some (last_write_of new)) (known key) ≡ Some (last_write_of e)
      by None h =
          elim (cases_Bool (keys.eq new.key key)) [
            | inl equal ↦ something (sym (entry_at-equal laws new.key key equal cache.contents.entries) ∙ none) h
            | inr differ ↦ cond-false (keys.eq new.key key) _ _ differ ∙ told key e h
          ]
      by (Some gone) h =
          let left = after_leaving keys.eq (entry_keys gone) cache.contents in
          let empty = absent-leaving keys.eq new.key (entry_keys gone) cache.contents none in
          let at : cond (keys.eq new.key key) (Some new) (entry_at keys.eq key left.entries) ≡ Some e =
          sym (entry_at-latest laws key new left.entries empty) ∙ h in
          elim (cases_Bool (keys.eq new.key key)) [
            | inl equal ↦
                let is : new ≡ e = one_of (cond-true (keys.eq new.key key) (Some new) (entry_at keys.eq key left.entries) equal) at in
                cond-true (keys.eq new.key key) _ _ equal ∙ ap (λ e. Some (last_write_of e)) is
            | inr differ ↦
                let stays = sym (cond-false (keys.eq new.key key) (Some new) (entry_at keys.eq key left.entries) differ) ∙ at in
                cond-false (keys.eq new.key key) _ _ differ ∙ told key e (found-leaving laws (λ e. e.key) gone cache.contents key e stays).1
          ]

      entering : (limit : Option PartLimits) → entry_at keys.eq key (after_new keys.eq cache limit new refused).contents.entries ≡ Some e
          → cond (keys.eq new.key key) (Some (last_write_of new)) (known key) ≡ Some (last_write_of e)
      entering None h = by (victims_of cache.settings.policy.max_capacity cache.sketch new cache.contents.entries) h
      entering (Some limit) h =
          let keeps = keeps_writes cache.settings.policy in
          let contents = after_entering keys.eq keeps limit cache.sketch new cache.contents in
          let next = after_turn keys.eq cache cache.memory limit new contents in
          let (x, stands, moved) =
          found-turned keys.eq laws cache cache.memory limit new contents key e
          (sym (ap (λ c. entry_at keys.eq key c.entries) (contents-standing keys.eq next new refused)) ∙ h) in
          elim (found-entering keys.eq laws keeps limit cache.sketch new cache.contents none once key x stands) [
            | inl (equal, same) ↦
                cond-true (keys.eq new.key key) _ _ equal
                ∙ (ap (λ e. Some (last_write_of e)) (sym same) ∙ ap (λ e. Some (last_write_of e)) (sym moved.but))
            | inr (differ, (old, stood, same)) ↦
                cond-false (keys.eq new.key key) _ _ differ
                ∙ (told key old stood ∙ (ap (λ e. Some (last_write_of e)) (sym same.but) ∙ ap (λ e. Some (last_write_of e)) (sym moved.but)))
          ]

  pub told-cleanup : (known : K → Option (LastWrite V)) (cache : CacheState K V S W) (now : ℕ)
      → IsTold keys laws known cache.contents.entries → IsTold keys laws known (after_look keys cache now).contents.entries
  told-cleanup known cache now told key e h = told key e (found-cleanup laws cache.settings.policy now cache.contents key e h)

  module _ (weighs : W → K → V → ℕ → W → Type 0) where
    -- after each call the entries have what is known then
    pub told-step : (old new : CacheState K V S W) (request : Request K V) (answer : Answer K V) (known : K → Option (LastWrite V))
        → IsStep keys weighs old request answer new
        → StandOnce keys.eq old.contents.entries
        → IsTold keys laws known old.contents.entries
        → IsTold keys laws (λ key. known_after keys request answer (chosen_keys request old.contents.entries)
        (inserted_deadline old.settings.policy request) key
        (known key)) new.contents.entries
    told-step old new (Get other now) answer known step once told key e h =
        by (unexpired_at keys.eq old.settings.policy now other (after_look keys old now).contents)
        (found_there old.settings.policy now (entry_at keys.eq other (after_look keys old now).contents.entries)) step.0
        (sym (ap (λ c. entry_at keys.eq key c.contents.entries) step.1) ∙ h)
      where
        by : (o : Option (Entry K V))
            → ((used : Entry K V) → o ≡ Some used → entry_at keys.eq other (after_look keys old now).contents.entries ≡ Some used)
            → answer ≡ Found (option_map (λ e. e.value) o)
            → entry_at keys.eq key (after_use keys.eq (room_of old) now o (after_look keys old now).contents).entries ≡ Some e
            → known_after keys (Get other now) answer (chosen_keys (Get other now) old.contents.entries) 0 key (known key) ≡ Some
            (last_write_of e)
        by None there is h =
            ap (λ a. known_after keys (Get other now) a (chosen_keys (Get other now) old.contents.entries) 0 key (known key)) is
            ∙ told-cleanup known old now told key e h
        by (Some used) there is h =
            ap (λ a. known_after keys (Get other now) a (chosen_keys (Get other now) old.contents.entries) 0 key (known key)) is
            ∙ told-hit keys laws known (room_of old) (after_look keys old now).contents other now used (told-cleanup known old now told)
            (there used refl) key e h
    told-step old new (Peek other now) answer known step once told key e h =
        told key e (sym (ap (λ c. entry_at keys.eq key c.contents.entries) step.1) ∙ h)
    told-step old new (ContainsKey other now) answer known step once told key e h =
        told-cleanup known old now told key e (sym (ap (λ c. entry_at keys.eq key c.contents.entries) step.1) ∙ h)
    told-step old new (Miss hash now) answer known step once told key e h =
        told-cleanup known old now told key e (sym (ap (λ c. entry_at keys.eq key c.contents.entries) step.1) ∙ h)
    told-step old new (Insert other value own now) answer known (inl (done, inserted)) once told key e h =
        let kept = (after_look keys old now).contents in
        ap (λ a. known_after keys (Insert other value own now) a (chosen_keys (Insert other value own now) old.contents.entries)
        (end_of (live_nanos old.settings.policy) own now) key
        (known key)) done
        ∙ told-put known (record old { weigher = inserted.weigher; capacity = inserted.capacity; contents = kept })
        (entry_at keys.eq other kept.entries)
        (new_entry keys old.settings other value inserted.weight own now) inserted.refused
        (told-cleanup known old now told)
        (once-remains keys.eq old.contents kept (remains-cleanup keys.eq old.settings.policy now old.contents) once) refl key e
        (sym (ap (λ c. entry_at keys.eq key c.contents.entries) inserted.step) ∙ h)
    told-step old new (Insert other value own now) answer known (inr (refused, same)) once told key e h =
        ap (λ a. known_after keys (Insert other value own now) a (chosen_keys (Insert other value own now) old.contents.entries)
        (end_of (live_nanos old.settings.policy) own now) key
        (known key)) refused ∙ told key e (sym (ap (λ c. entry_at keys.eq key c.contents.entries) same.same) ∙ h)
    told-step old new (Invalidate other now) answer known step once told key e h =
        let kept = (after_look keys old now).contents in
        let (differ, stands) =
        left_of (keys.eq other key) (entry_at keys.eq key kept.entries) e
        (sym (entry_at-without laws other key kept.entries) ∙ (sym (ap (λ c. entry_at keys.eq key c.contents.entries) step.1) ∙ h)) in
        cond-false (keys.eq other key) None (known key) differ ∙ told-cleanup known old now told key e stands
    told-step old new (Remove other now) answer known step once told key e h =
        let kept = (after_look keys old now).contents in
        let (differ, stands) =
        left_of (keys.eq other key) (entry_at keys.eq key kept.entries) e
        (sym (entry_at-without laws other key kept.entries) ∙ (sym (ap (λ c. entry_at keys.eq key c.contents.entries) step.1) ∙ h)) in
        cond-false (keys.eq other key) None (known key) differ ∙ told-cleanup known old now told key e stands
    told-step old new InvalidateAll answer known step once told key e h =
        something {o = None} refl (sym (ap (λ c. entry_at keys.eq key c.contents.entries) step.1) ∙ h)
    told-step old new (InvalidateEntriesIf answers) answer known step once told key e h =
        let gone = chosen answers old.contents.entries in
        let (differ, stands) =
        found-leaving laws (λ e. e.key) gone old.contents key e (sym (ap (λ c. entry_at keys.eq key c.contents.entries) step.1) ∙ h) in
        cond-false (list_any (λ k. keys.eq k key) (entry_keys gone)) None (known key) (any-key (λ k. keys.eq k key) gone ∙ differ)
        ∙ told key e stands
    told-step old new (Iterate now) answer known step once told key e h =
        told key e (sym (ap (λ c. entry_at keys.eq key c.contents.entries) step.1) ∙ h)
    told-step old new EntryCount answer known step once told key e h =
        told key e (sym (ap (λ c. entry_at keys.eq key c.contents.entries) step.1) ∙ h)
    told-step old new WeightedSize answer known step once told key e h =
        told key e (sym (ap (λ c. entry_at keys.eq key c.contents.entries) step.1) ∙ h)

    -- from a new cache no key has two entries
    pub once-run : (settings : Settings S) (shares : Shares) (weigher : W) (capacity : ℕ) (past : List (Transition K V S W)) (cache : CacheState K V S W)
        → Leads keys weighs (new_cache settings shares weigher capacity) past cache
        → StandOnce keys.eq cache.contents.entries
    once-run settings shares weigher capacity [] cache leads =
        subst (λ c. StandOnce keys.eq c.contents.entries) (sym leads) (none_stand keys laws weighs)
    once-run settings shares weigher capacity (call ∷ earlier) cache (is, step, leads) =
        subst (λ c. StandOnce keys.eq c.contents.entries) is
        (once-step keys laws weighs call.before call.after call.request call.answer step
        (once-run settings shares weigher capacity earlier call.before leads))

    -- so from a new cache the entries have what the calls tell
    pub told-run : (settings : Settings S) (shares : Shares) (weigher : W) (capacity : ℕ) (past : List (Transition K V S W)) (cache : CacheState K V S W)
        → Leads keys weighs (new_cache settings shares weigher capacity) past cache
        → IsTold keys laws (λ key. last_write keys key (exchanges past)) cache.contents.entries
    told-run settings shares weigher capacity [] cache leads key e h =
        something {o = None} refl (sym (ap (λ c. entry_at keys.eq key c.contents.entries) leads) ∙ h)
    told-run settings shares weigher capacity (call ∷ earlier) cache (is, step, leads) key e h =
        told-step call.before call.after call.request call.answer (λ key. last_write keys key (exchanges earlier)) step
        (once-run settings shares weigher capacity earlier call.before leads) (told-run settings shares weigher capacity earlier call.before leads) key e
        (ap (λ c. entry_at keys.eq key c.contents.entries) is ∙ h)

    -- its settings are those that it was made with
    pub settings-run : (settings : Settings S) (shares : Shares) (weigher : W) (capacity : ℕ) (past : List (Transition K V S W)) (cache : CacheState K V S W)
        → Leads keys weighs (new_cache settings shares weigher capacity) past cache
        → cache.settings ≡ settings
    settings-run settings shares weigher capacity [] cache leads = ap (λ c. c.settings) leads
    settings-run settings shares weigher capacity (call ∷ earlier) cache (is, step, leads) =
        sym (ap (λ c. c.settings) is)
        ∙ (settings-step keys weighs call.before call.after call.request call.answer step
        ∙ settings-run settings shares weigher capacity earlier call.before leads)

    pub hits_are_current : HitsAreCurrent keys weighs
    hits_are_current settings shares weigher capacity past cache next key now value leads step =
        by (unexpired_at keys.eq cache.settings.policy now key (after_look keys cache now).contents)
        (found_there cache.settings.policy now (entry_at keys.eq key (after_look keys cache now).contents.entries))
        (found_fresh cache.settings.policy now (entry_at keys.eq key (after_look keys cache now).contents.entries))
        (sym (same_found refl step.0))
      where
        by : (o : Option (Entry K V))
            → ((used : Entry K V) → o ≡ Some used → entry_at keys.eq key (after_look keys cache now).contents.entries ≡ Some used)
            → ((used : Entry K V) → o ≡ Some used → is_expired cache.settings.policy now used ≡ false)
            → option_map (λ e. e.value) o ≡ Some value
            → IsCurrent keys settings.policy now (exchanges past) key value
        by None there fresh is = something {o = None} refl is
        by (Some used) there fresh is = (
          last_write_of used,
          told-cleanup (λ key. last_write keys key (exchanges past)) cache now (told-run settings shares weigher capacity past cache leads) key used
              (there used refl),
          one_of refl is,
          subst (λ s. is_over s.policy now (last_write_of used) ≡ false) (settings-run settings shares weigher capacity past cache leads)
              (fresh used refl),
        )

    pub peeks_are_current : PeeksAreCurrent keys weighs
    peeks_are_current settings shares weigher capacity past cache next key now value leads step =
        by (unexpired_at keys.eq cache.settings.policy now key cache.contents)
        (found_there cache.settings.policy now (entry_at keys.eq key cache.contents.entries))
        (found_fresh cache.settings.policy now (entry_at keys.eq key cache.contents.entries))
        (sym (same_found refl step.0))
      where
        by : (o : Option (Entry K V))
            → ((seen : Entry K V) → o ≡ Some seen → entry_at keys.eq key cache.contents.entries ≡ Some seen)
            → ((seen : Entry K V) → o ≡ Some seen → is_expired cache.settings.policy now seen ≡ false)
            → option_map (λ e. e.value) o ≡ Some value
            → IsCurrent keys settings.policy now (exchanges past) key value
        by None there fresh is = something {o = None} refl is
        by (Some seen) there fresh is = (
          last_write_of seen,
          told-run settings shares weigher capacity past cache leads key seen (there seen refl),
          one_of refl is,
          subst (λ s. is_over s.policy now (last_write_of seen) ≡ false) (settings-run settings shares weigher capacity past cache leads)
              (fresh seen refl),
        )

    pub pairs_are_current : PairsAreCurrent keys weighs
    pairs_are_current settings shares weigher capacity past cache next now pairs leads step =
        All-from_recursion (λ (p : K × V). IsCurrent keys settings.policy now (exchanges past) p.0 p.1) pairs
        (subst (AllByRecursion (λ (p : K × V). IsCurrent keys settings.policy now (exchanges past) p.0 p.1)) (sym (same_pairs refl step.0))
        (by cache.contents.entries (found-own laws cache.contents.entries (once-run settings shares weigher capacity past cache leads))))
      where
        by : (es : List (Entry K V)) → AllByRecursion (λ e. entry_at keys.eq e.key cache.contents.entries ≡ Some e) es
            → AllByRecursion (λ (p : K × V). IsCurrent keys settings.policy now (exchanges past) p.0 p.1)
            (unexpired_pairs cache.settings.policy now es)
        by [] own = tt
        by (e ∷ es) own =
            let fresh = filter (λ e. not (is_expired cache.settings.policy now e)) es in
            elim (cases_Bool (is_expired cache.settings.policy now e)) [
              | inl expired ↦
                  subst (λ l. AllByRecursion (λ (p : K × V). IsCurrent keys settings.policy now (exchanges past) p.0 p.1)
                  (map (λ e. (e.key, e.value)) l))
                  (sym (cond-false (not (is_expired cache.settings.policy now e)) (e ∷ fresh) fresh (ap not expired))) (by es own.1)
              | inr lives ↦
                  subst (λ l. AllByRecursion (λ (p : K × V). IsCurrent keys settings.policy now (exchanges past) p.0 p.1)
                  (map (λ e. (e.key, e.value)) l))
                  (sym (cond-true (not (is_expired cache.settings.policy now e)) (e ∷ fresh) fresh (ap not lives))) (
                    (
                      last_write_of e,
                      told-run settings shares weigher capacity past cache leads e.key e own.0,
                      refl,
                      subst (λ s. is_over s.policy now (last_write_of e) ≡ false)
                          (settings-run settings shares weigher capacity past cache leads) lives,
                    ),
                    by es own.1,
                  )
            ]

    pub peek_as_get : PeekAsGet keys weighs
    peek_as_get cache got key now value step =
        by (unexpired_at keys.eq cache.settings.policy now key (after_look keys cache now).contents)
        (found_there cache.settings.policy now (entry_at keys.eq key (after_look keys cache now).contents.entries))
        (found_fresh cache.settings.policy now (entry_at keys.eq key (after_look keys cache now).contents.entries))
        (sym (same_found refl step.0))
      where
        by : (o : Option (Entry K V))
            → ((used : Entry K V) → o ≡ Some used → entry_at keys.eq key (after_look keys cache now).contents.entries ≡ Some used)
            → ((used : Entry K V) → o ≡ Some used → is_expired cache.settings.policy now used ≡ false)
            → option_map (λ e. e.value) o ≡ Some value
            → IsStep keys weighs cache (Peek key now) (Found (Some value)) cache
        by None there fresh is = something {o = None} refl is
        by (Some used) there fresh is =
            let stood = found-cleanup laws cache.settings.policy now cache.contents key used (there used refl) in
            let lives =
            ap (unexpired cache.settings.policy now) stood
            ∙ cond-false (is_expired cache.settings.policy now used) None (Some used) (fresh used refl) in
            (ap Found (sym (ap (option_map (λ e. e.value)) lives ∙ is)), refl)

-- ---- runs

module _ {K V S W : Type 0} (keys : Keys K S) (weighs : W → K → V → ℕ → W → Type 0) where
  -- a history may begin with one more call
  leads-first : (call : Transition K V S W) (past : List (Transition K V S W)) (new : CacheState K V S W)
      → IsStep keys weighs call.before call.request call.answer call.after
      → Leads keys weighs call.after past new → Leads keys weighs call.before (past ++ call ∷ []) new
  leads-first call [] new step leads = (sym leads, step, refl)
  leads-first call (later ∷ past) new step (is, last, leads) = (is, last, leads-first call past later.before step leads)

  pub runs_have_a_history : RunsHaveAHistory keys weighs
  runs_have_a_history old new [] answers (none, same) = ([], same, refl, ap reverse (sym none))
  runs_have_a_history old new (request ∷ requests) answers (answer, rest, next, is, step, run) =
      let (past, leads, asked, answered) = runs_have_a_history next new requests rest run in
      let call : Transition K V S W = record { before = old; request = request; answer = answer; after = next } in (
        past ++ call ∷ [],
        leads-first call past new step leads,
        map-append (λ e. e.request) past (call ∷ []) ∙ (ap (λ l. l ++ request ∷ []) asked ∙ sym (reverse-append (request ∷ []) requests)),
        map-append (λ e. e.answer) past (call ∷ []) ∙
            (ap (λ l. l ++ answer ∷ []) answered ∙ (sym (reverse-append (answer ∷ []) rest) ∙ ap reverse (sym is))),
      )

-- the same is told
same_told : {K V : Type 0} {x : Answer K V} {a b : Bool} → x ≡ Truth a → x ≡ Truth b → a ≡ b
same_told g h = cc

module _ {K V S W : Type 0} (keys : Keys K S) (weighs : W → K → V → ℕ → W → Type 0) where
  pub contains_as_get : ContainsAsGet keys weighs
  contains_as_get cache looked got key now there found look get =
      same_told refl look.0 ∙
      (told_by_value (unexpired_at keys.eq cache.settings.policy now key (after_look keys cache now).contents) ∙ ap is_some
      (same_found get.0 refl))

  pub remove_as_get : RemoveAsGet keys weighs
  remove_as_get cache left key now answer removed = (after_get keys cache key now, (removed.0, refl))

-- ---- last inserts

module _ {K V S : Type 0} (keys : Keys K S) (key : K) where
  -- the call is an insert of this write at the key
  pub record IsInsert (request : Request K V) (answer : Answer K V) (deadline : ℕ) (write : LastWrite V) : Type 0 where
    pub other : K
    pub own : Option ℕ
    pub now : ℕ
    pub asked : request ≡ Insert other write.value own now
    pub accepted : answer ≡ Done
    pub until : deadline ≡ write.deadline
    pub equal : keys.eq other key ≡ true

  -- the call neither writes nor invalidates the key, and before it an equal write was known
  pub record IsKept (request : Request K V) (answer : Answer K V) (chosen : List K) (known : Option (LastWrite V))
      (write : LastWrite V) : Type 0 where
    pub unwritten : is_written keys request answer key ≡ false
    pub valid : is_invalidated keys request chosen key ≡ false
    pub older : LastWrite V
    pub stood : known ≡ Some older
    pub value : older.value ≡ write.value
    pub deadline : older.deadline ≡ write.deadline

  kept-used : (now : ℕ) (known : Option (LastWrite V)) (write : LastWrite V) → option_map (used_at now) known ≡ Some write
      → (older : LastWrite V) × (known ≡ Some older) × (older.value ≡ write.value) × (older.deadline ≡ write.deadline)
  kept-used now None write h = something {o = None} refl h
  kept-used now (Some older) write h =
      let is : used_at now older ≡ write = one_of refl h in
      (older, refl, ap (λ w. w.value) is, ap (λ w. w.deadline) is)

  known-by : (request : Request K V) (answer : Answer K V) (chosen : List K) (deadline : ℕ) (known : Option (LastWrite V)) (write : LastWrite V)
      → known_after keys request answer chosen deadline key known ≡ Some write
      → IsInsert request answer deadline write ⊎ IsKept request answer chosen known write
  known-by (Insert other value own now) Done chosen deadline known write h =
      elim (cases_Bool (keys.eq other key)) [
        | inl equal ↦
            let is : record { value = value; deadline = deadline; used = now } ≡ write =
            one_of (cond-true (keys.eq other key) (Some (record { value = value; deadline = deadline; used = now })) known equal) h in
            inl (record {
              other = other;
              own = own;
              now = now;
              asked = λ i. Insert other (is i).value own now;
              accepted = refl;
              until = ap (λ w. w.deadline) is;
              equal = equal;
            })
        | inr differ ↦
            inr (record {
              unwritten = differ;
              valid = refl;
              older = write;
              stood = sym (cond-false (keys.eq other key) (Some (record { value = value; deadline = deadline; used = now })) known differ) ∙ h;
              value = refl;
              deadline = refl;
            })
      ]
  known-by (Get other now) (Found (Some value)) chosen deadline known write h =
      elim (cases_Bool (keys.eq other key)) [
        | inl equal ↦
            let (older, is, same, then) =
            kept-used now known write (sym (cond-true (keys.eq other key) (option_map (used_at now) known) known equal) ∙ h) in
            inr (record { unwritten = refl; valid = refl; older = older; stood = is; value = same; deadline = then })
        | inr differ ↦
            inr (record {
              unwritten = refl;
              valid = refl;
              older = write;
              stood = sym
                  (cond-false (keys.eq other key) (option_map (used_at now) known) known differ) ∙ h;
              value = refl;
              deadline = refl;
            })
      ]
  known-by request answer chosen deadline known write h =
      let (valid, is) = left_of (is_invalidated keys request chosen key) known write h in
      inr (record { unwritten = refl; valid = valid; older = write; stood = is; value = refl; deadline = refl })

module _ {K V S : Type 0} (keys : Keys K S) where
  pub last_writes_are_inserts : LastWritesAreInserts keys V
  last_writes_are_inserts [] key write h = something {o = None} refl h
  last_writes_are_inserts (call ∷ earlier) key write h =
      by (known-by keys key call.request call.answer call.chosen call.deadline (last_write keys key earlier) write h)
      (last_writes_are_inserts earlier key)
    where
      by : IsInsert keys key call.request call.answer call.deadline write
          ⊎ IsKept keys key call.request call.answer call.chosen (last_write keys key earlier) write
          → ((older : LastWrite V) → last_write keys key earlier ≡ Some older → IsLastInsert keys earlier key older.value older.deadline)
          → IsLastInsert keys (call ∷ earlier) key write.value write.deadline
      by (inl insert) rest =
          record {
            since = [];
            insert = call;
            earlier = earlier;
            other = insert.other;
            own = insert.own;
            now = insert.now;
            parts = refl;
            asked = insert.asked;
            accepted = insert.accepted;
            until = insert.until;
            equal = insert.equal;
            unwritten = All-from_recursion _ [] tt;
            valid = All-from_recursion _ [] tt;
          }
      by (inr kept) rest =
          let before = rest kept.older kept.stood in
          record {
            since = call ∷ before.since;
            insert = before.insert;
            earlier = before.earlier;
            other = before.other;
            own = before.own;
            now = before.now;
            parts = ap (λ l. call ∷ l) before.parts;
            asked = before.asked ∙ (λ i. Insert before.other (kept.value i) before.own before.now);
            accepted = before.accepted;
            until = before.until ∙ kept.deadline;
            equal = before.equal;
            unwritten =
                All-cons (λ (e : Exchange K V). is_written keys e.request e.answer key ≡ false) call before.since
                kept.unwritten before.unwritten;
            valid =
                All-cons (λ (e : Exchange K V). is_invalidated keys e.request e.chosen key ≡ false) call before.since
                kept.valid before.valid;
          }
