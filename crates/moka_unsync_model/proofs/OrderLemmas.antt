-- Lemmas on main, which stands before the window, and on a window that stays empty.
use Rattle.std.proofs.Common.{◌≡◌, ℕ, Bool, true, false, cond, nat_lt, not, List, [], ◌∷◌, ◌++◌, All, is_some}
use Rattle.std.proofs.Common.{Option, Some, None, refl, sym, ap, ◌∙◌, subst, inl, inr, append_assoc}
use Rattle.std.proofs.lemmas.Bool.{cond-false, false≢true}
use Rattle.std.proofs.lemmas.List.Elements.{All-filter, All-from_recursion, All-head, All-tail, All-cons}
use Rattle.moka_common.specs.Keys.{Keys}
use Rattle.moka_common.specs.Settings.{Settings, keeps_writes}
use Rattle.moka_common.specs.Sketch.{Table}
use Rattle.moka_unsync_model.specs.declared.entry.Entry.{Entry}
use Rattle.moka_unsync_model.specs.Contents.{Contents, after_leaving, entry_at, entries_without, entry_keys, main_of, window_of, with_latest, without}
use Rattle.moka_unsync_model.specs.Contents.{is_before, is_window, probation_of, protected_of}
use Rattle.moka_unsync_model.specs.CacheState.{CacheState, new_cache, room_of, windowed}
use Rattle.moka_unsync_model.specs.Lookup.{after_look, after_miss, after_use, unexpired_at, after_using, used_part}
use Rattle.moka_unsync_model.specs.Insert.{Refused, after_entering, after_entry, after_new, after_put, after_turn, after_verdict, new_entry}
use Rattle.moka_unsync_model.specs.Window.{after_candidacy, after_candidates, after_sharing, candidates, victims_of}
use Rattle.moka_unsync_model.specs.Invalidate.{chosen}
use Rattle.moka_unsync_model.specs.Step.{Answer, IsStep, Request, Runs, Get, Peek, ContainsKey, Miss, Insert, Invalidate, Remove, InvalidateAll}
use Rattle.moka_unsync_model.specs.Step.{InvalidateEntriesIf, Iterate, EntryCount, WeightedSize}
use Rattle.moka_unsync_model.proofs.ContentsLemmas.{All-leaving}
use Rattle.moka_unsync_model.proofs.WindowLemmas.{All-latest, latest-last, window-last}
use Rattle.moka_unsync_model.specs.Laws.{Remains, WindowStandsBehind, WindowStaysEmpty, PartsStandInOrder}
use Rattle.moka_unsync_model.proofs.KeyLemmas.{contents-standing}
use Rattle.moka_unsync_model.proofs.MapLemmas.{terms-step, terms_of}
use Rattle.moka_unsync_model.proofs.OwnLemmas.{All-found, unexpired-found}
use Rattle.moka_unsync_model.proofs.RemainLemmas.{remains-leaving, remains-cleanup}
use Rattle.moka_unsync_model.specs.Contents.{InOrder}
use Rattle.moka_unsync_model.proofs.SharingLemmas.{left-remains, stays_of, turned}
use Rattle.moka_unsync_model.proofs.PartLemmas.{All-using, order-balanced, order-filter, order-latest, order-parts, window-used}
use Rattle.moka_unsync_model.specs.declared.shares.PartLimits.{PartLimits}
use Rattle.moka_unsync_model.specs.Shares.{hundredths, main_limit, windowed_limits}
use Rattle.moka_unsync_model.specs.declared.entry.Part.{Part}
use Rattle.moka_unsync_model.specs.declared.entry.Part.TheVariants.{Probation, Protected, Window}
use Rattle.moka_unsync_model.specs.declared.shares.Shares.{Shares}

-- nothing stands before probation
first-part : (part : Part) → is_before part Probation ≡ false
first-part Probation = refl
first-part Protected = refl
first-part Window = refl

module _ {K V : Type 0} where
  -- all are in main
  abbrev pub AreMain : List (Entry K V) → Type 0
  AreMain es = All (λ e. is_window e.part ≡ false) es

  pub window-empty : (es : List (Entry K V)) → AreMain es → window_of es ≡ []
  window-empty [] main = refl
  window-empty (e ∷ es) main =
      cond-false (is_window e.part) (e ∷ window_of es) (window_of es) (All-head (λ e. is_window e.part ≡ false) e es main)
      ∙ window-empty es (All-tail (λ e. is_window e.part ≡ false) e es main)

module _ {K V : Type 0} (eq : K → K → Bool) where
  pub order-remains : (old new : Contents K V) → Remains old new → InOrder Probation old.entries → InOrder Probation new.entries
  order-remains old new remains s =
      subst (InOrder Probation) (sym remains.entries) (order-filter (λ e. remains.stays e.key) Probation old.entries s)

  order-moving : (entry : Entry K V) (contents : Contents K V) → InOrder Probation contents.entries
      → InOrder Probation (with_latest entry (entries_without eq entry.key contents.entries))
  order-moving entry contents s =
      order-latest entry Probation (entries_without eq entry.key contents.entries) (first-part entry.part)
      (order-filter (λ e. not (eq entry.key e.key)) Probation contents.entries s)

  order-using : (room : ℕ) (entry : Entry K V) (contents : Contents K V) → InOrder Probation contents.entries
      → InOrder Probation (after_using eq room entry contents).entries
  order-using room entry contents s =
      let used = record entry { part = used_part room entry.part entry.weight } in
      order-balanced room (with_latest used (entries_without eq entry.key contents.entries)) (order-moving used contents s)

  main-using : (room : ℕ) (entry : Entry K V) (contents : Contents K V) → is_window entry.part ≡ false → AreMain contents.entries
      → AreMain (after_using eq room entry contents).entries
  main-using room entry contents here main =
      All-using eq (λ e. is_window e.part ≡ false) (λ e protected is. refl) room entry contents
      (window-used room entry.part entry.weight ∙ here) main

  pub order-candidacy : (e : Entry K V) (gone : Option (List (Entry K V))) (contents : Contents K V) → InOrder Probation contents.entries
      → InOrder Probation (after_candidacy eq e gone contents).entries
  order-candidacy e None contents s =
      order-remains contents (without eq contents e.key) (remains-leaving eq (e.key ∷ []) contents) s
  order-candidacy e (Some gone) contents s =
      let left = after_leaving eq (entry_keys gone) contents in
      order-moving (record e { part = Probation }) left (order-remains contents left (remains-leaving eq (entry_keys gone) contents) s)

  order-candidates : (limits : PartLimits) (sketch : Option Table) (es : List (Entry K V)) (contents : Contents K V) → InOrder Probation contents.entries
      → InOrder Probation (after_candidates eq limits sketch es contents).entries
  order-candidates limits sketch [] contents s = s
  order-candidates limits sketch (e ∷ es) contents s =
      let gone = victims_of (Some (main_limit limits)) sketch e (main_of contents.entries) in
      order-candidates limits sketch es (after_candidacy eq e gone contents) (order-candidacy e gone contents s)

  -- one of the window stands behind all
  pub order-push : (entry : Entry K V) (es : List (Entry K V)) → is_window entry.part ≡ true → InOrder Probation es
      → InOrder Probation (es ++ entry ∷ [])
  order-push entry es waits s =
      subst (InOrder Probation) (latest-last entry es (never es)) (order-latest entry Probation es (first-part entry.part) s)
    where
      never : (es : List (Entry K V)) → All (λ e. is_before entry.part e.part ≡ false) es
      never [] = All-from_recursion (λ e. is_before entry.part e.part ≡ false) [] tt
      never (e ∷ es) = All-cons (λ e. is_before entry.part e.part ≡ false) e es (window-last entry.part e.part waits) (never es)

  order-sharing : (limits : PartLimits) (gained : ℕ) (contents : Contents K V) → InOrder Probation contents.entries
      → InOrder Probation (after_sharing eq limits gained contents).entries
  order-sharing limits gained contents s =
      let left = stays_of eq limits gained contents in
      order-balanced limits.protected left.entries (order-remains contents left (left-remains eq limits gained contents) s)

module _ {K V S W : Type 0} where
  -- the parts stand in their order, and the window is empty where there is none
  pub record IsOrdered (cache : CacheState K V S W) : Type 0 where
    pub order : InOrder Probation cache.contents.entries
    pub main : windowed cache ≡ None → AreMain cache.contents.entries

  -- a cache has a window where one with the same terms has one
  pub same-windowed : (old new : CacheState K V S W) → terms_of new ≡ terms_of old → windowed new ≡ None → windowed old ≡ None
  same-windowed old new same none =
      by old.settings.policy.max_capacity (record old.shares { extra = 0 }) old.shares.extra
      (subst (λ t. windowed_limits t.1 t.0.policy.max_capacity ≡ None) same (by new.settings.policy.max_capacity new.shares 0 none))
    where
      on : (b : Bool) (some other : PartLimits) → cond b (Some some) None ≡ None → cond b (Some other) None ≡ None
      on true some other is = absurd (false≢true (sym (ap is_some is)))
      on false some other is = refl

      by : (max : Option ℕ) (shares : Shares) (extra : ℕ) → windowed_limits shares max ≡ None → windowed_limits (record shares { extra = extra }) max ≡ None
      by None shares extra none = refl
      by (Some limit) shares extra none = on (nat_lt 0 (hundredths shares.window limit)) _ _ none

  ordered-remains : (old new : CacheState K V S W) → terms_of new ≡ terms_of old → Remains old.contents new.contents → IsOrdered old
      → IsOrdered new
  ordered-remains old new same remains ordered =
      record {
        order =
            subst (InOrder Probation) (sym remains.entries)
            (order-filter (λ e. remains.stays e.key) Probation old.contents.entries ordered.order);
        main =
            λ none. subst AreMain (sym remains.entries)
            (All-filter (λ e. remains.stays e.key) (λ e. is_window e.part ≡ false) old.contents.entries
            (ordered.main (same-windowed old new same none)));
      }

  module _ (eq : K → K → Bool) where
    ordered-use : (cache next : CacheState K V S W) (room now : ℕ) (key : K) (o : Option (Entry K V))
        → ((e : Entry K V) → o ≡ Some e → entry_at eq key cache.contents.entries ≡ Some e)
        → terms_of next ≡ terms_of cache → next.contents ≡ after_use eq room now o cache.contents → IsOrdered cache → IsOrdered next
    ordered-use cache next room now key None found same is ordered =
        record {
          order = subst (λ c. InOrder Probation c.entries) (sym is) ordered.order;
          main = λ none. subst (λ c. AreMain c.entries) (sym is) (ordered.main (same-windowed cache next same none));
        }
    ordered-use cache next room now key (Some e) found same is ordered =
        record {
          order =
              subst (λ c. InOrder Probation c.entries) (sym is)
              (order-using eq room (record e { accessed = now }) cache.contents ordered.order);
          main =
              λ none. let main = ordered.main (same-windowed cache next same none) in
              subst (λ c. AreMain c.entries) (sym is)
              (main-using eq room (record e { accessed = now }) cache.contents
              (All-found eq (λ e. is_window e.part ≡ false) key e cache.contents.entries main (found e refl)) main);
        }

    ordered-put : (cache : CacheState K V S W) (o : Option (Entry K V)) (new : Entry K V) (refused : Refused) → is_window new.part ≡ false
        → entry_at eq new.key cache.contents.entries ≡ o → IsOrdered cache
        → InOrder Probation (after_put eq cache o new refused).contents.entries
        × (windowed cache ≡ None → AreMain (after_put eq cache o new refused).contents.entries)
    ordered-put cache (Some old) new refused in_main found ordered =
        let put = record new { key = old.key; hash = old.hash; part = old.part } in (
          order-using eq (room_of cache) put cache.contents ordered.order,
          λ none. main-using eq (room_of cache) put cache.contents
              (All-found eq (λ e. is_window e.part ≡ false) new.key old cache.contents.entries (ordered.main none) found) (ordered.main none),
        )
    ordered-put cache None new refused in_main found ordered = by (windowed cache) refl
      where
        order : (gone : Option (List (Entry K V))) → InOrder Probation (after_verdict eq cache new gone refused).contents.entries
        order None = ordered.order
        order (Some gone) =
            let left = after_leaving eq (entry_keys gone) cache.contents in
            order-latest new Probation left.entries (first-part new.part)
            (order-remains eq cache.contents left (remains-leaving eq (entry_keys gone) cache.contents) ordered.order)

        verdict : (gone : Option (List (Entry K V))) → AreMain cache.contents.entries
            → AreMain (after_verdict eq cache new gone refused).contents.entries
        verdict None main = main
        verdict (Some gone) main =
            All-latest (λ e. is_window e.part ≡ false) new _
            (All-leaving eq (λ e. is_window e.part ≡ false) (entry_keys gone) cache.contents main) in_main

        by : (limit : Option PartLimits) → windowed cache ≡ limit
            → InOrder Probation (after_new eq cache limit new refused).contents.entries
            × (windowed cache ≡ None → AreMain (after_new eq cache limit new refused).contents.entries)
        by None is =
            let gone = victims_of cache.settings.policy.max_capacity cache.sketch new cache.contents.entries in
            (order gone, λ none. verdict gone (ordered.main is))
        by (Some limit) is =
            let entered = after_entry eq (keeps_writes cache.settings.policy) (record new { part = Window }) cache.contents in
            let contents = after_entering eq (keeps_writes cache.settings.policy) limit cache.sketch new cache.contents in
            let next = after_turn eq cache cache.memory limit new contents in
            let in_order =
            order-candidates eq limit cache.sketch (candidates limit entered.entries) entered
            (order-push eq (record new { part = Window }) cache.contents.entries refl ordered.order) in (
              subst (λ c. InOrder Probation c.entries) (sym (contents-standing eq next new refused))
                  (turned eq (λ c. InOrder Probation c.entries) cache cache.memory limit new contents in_order
                  (λ shared gained. order-sharing eq shared gained contents in_order)),
              λ none. absurd (false≢true (ap is_some (sym none ∙ is))),
            )

module _ {K V S W : Type 0} (keys : Keys K S) (weighs : W → K → V → ℕ → W → Type 0) where
  pub ordered-look : (cache : CacheState K V S W) (now : ℕ) → IsOrdered cache → IsOrdered (after_look keys cache now)
  ordered-look cache now ordered =
      ordered-remains cache (after_look keys cache now) refl (remains-cleanup keys.eq cache.settings.policy now cache.contents) ordered

  ordered-step : (old new : CacheState K V S W) (request : Request K V) (answer : Answer K V) → IsStep keys weighs old request answer new
      → IsOrdered old → IsOrdered new
  ordered-step old new (Get key now) answer step ordered =
      let looked = after_look keys old now in
      ordered-use keys.eq looked new (room_of old) now key (unexpired_at keys.eq old.settings.policy now key looked.contents)
      (unexpired-found old.settings.policy now (entry_at keys.eq key looked.contents.entries)) (ap terms_of step.1)
      (ap (λ c. c.contents) step.1) (ordered-look old now ordered)
  ordered-step old new (Peek key now) answer step ordered = subst IsOrdered (sym step.1) ordered
  ordered-step old new (ContainsKey key now) answer step ordered = subst IsOrdered (sym step.1) (ordered-look old now ordered)
  ordered-step old new (Miss hash now) answer step ordered =
      subst IsOrdered (sym step.1)
      (ordered-remains old (after_miss keys old hash now) refl (remains-cleanup keys.eq old.settings.policy now old.contents) ordered)
  ordered-step old new (Insert key value own now) answer (inl (done, inserted)) ordered =
      let looked = after_look keys old now in
      let asked : CacheState K V S W = record looked { weigher = inserted.weigher; capacity = inserted.capacity } in
      let entry = new_entry keys old.settings key value inserted.weight own now in
      let kept = ordered-look old now ordered in
      let same = terms-step keys weighs old new (Insert key value own now) answer (inl (done, inserted)) in
      let put = ordered-put keys.eq asked (entry_at keys.eq key looked.contents.entries) entry inserted.refused refl refl
      (record { order = kept.order; main = kept.main }) in
      record {
        order = subst (λ c. InOrder Probation c.contents.entries) (sym inserted.step) put.0;
        main =
            λ none. subst (λ c. AreMain c.contents.entries) (sym inserted.step)
            (put.1 (same-windowed old new same none));
      }
  ordered-step old new (Insert key value own now) answer (inr (refused, same)) ordered =
      subst IsOrdered (sym same.same) (record { order = ordered.order; main = ordered.main })
  ordered-step old new (Invalidate key now) answer step ordered =
      let looked = after_look keys old now in
      subst IsOrdered (sym step.1)
      (ordered-remains looked _ refl (remains-leaving keys.eq (key ∷ []) looked.contents) (ordered-look old now ordered))
  ordered-step old new (Remove key now) answer step ordered =
      let looked = after_look keys old now in
      subst IsOrdered (sym step.1)
      (ordered-remains looked _ refl (remains-leaving keys.eq (key ∷ []) looked.contents) (ordered-look old now ordered))
  ordered-step old new InvalidateAll answer step ordered =
      subst IsOrdered (sym step.1) (record { order = tt; main = λ none. All-from_recursion _ [] tt })
  ordered-step old new (InvalidateEntriesIf answers) answer step ordered =
      subst IsOrdered (sym step.1)
      (ordered-remains old _ refl (remains-leaving keys.eq (entry_keys (chosen answers old.contents.entries)) old.contents) ordered)
  ordered-step old new (Iterate now) answer step ordered = subst IsOrdered (sym step.1) ordered
  ordered-step old new EntryCount answer step ordered = subst IsOrdered (sym step.1) ordered
  ordered-step old new WeightedSize answer step ordered = subst IsOrdered (sym step.1) ordered

  ordered-runs : (old new : CacheState K V S W) (requests : List (Request K V)) (answers : List (Answer K V))
      → Runs keys weighs old requests answers new → IsOrdered old → IsOrdered new
  ordered-runs old new [] answers run ordered = subst IsOrdered (sym run.1) ordered
  ordered-runs old new (request ∷ requests) answers (answer, rest, next, is, step, run) ordered =
      ordered-runs next new requests rest run (ordered-step old next request answer step ordered)

  pub terms-runs : (old new : CacheState K V S W) (requests : List (Request K V)) (answers : List (Answer K V))
      → Runs keys weighs old requests answers new → terms_of new ≡ terms_of old
  terms-runs old new [] answers run = ap terms_of run.1
  terms-runs old new (request ∷ requests) answers (answer, rest, next, is, step, run) =
      terms-runs next new requests rest run ∙ terms-step keys weighs old next request answer step

  ordered-new : (cache : CacheState K V S W) → cache.contents.entries ≡ [] → IsOrdered cache
  ordered-new cache none =
      record {
        order = subst (InOrder Probation) (sym none) tt;
        main = λ unused. subst AreMain (sym none) (All-from_recursion _ [] tt);
      }

  pub ordered-new-runs : (settings : Settings S) (shares : Shares) (weigher : W) (capacity : ℕ) (requests : List (Request K V))
      (answers : List (Answer K V)) (cache : CacheState K V S W) → Runs keys weighs (new_cache settings shares weigher capacity) requests answers cache
      → IsOrdered cache
  ordered-new-runs settings shares weigher capacity requests answers cache run =
      ordered-runs (new_cache settings shares weigher capacity) cache requests answers run
      (ordered-new (new_cache settings shares weigher capacity) refl)

  pub order-new : (settings : Settings S) (shares : Shares) (weigher : W) (capacity : ℕ) (requests : List (Request K V))
      (answers : List (Answer K V)) (cache : CacheState K V S W) → Runs keys weighs (new_cache settings shares weigher capacity) requests answers cache
      → InOrder Probation cache.contents.entries
  order-new settings shares weigher capacity requests answers cache run =
      (ordered-new-runs settings shares weigher capacity requests answers cache run).order

  pub parts_stand_in_order : PartsStandInOrder keys weighs
  parts_stand_in_order settings shares weigher capacity requests answers cache run =
      (order-parts cache.contents.entries (order-new settings shares weigher capacity requests answers cache run)).parts

  pub window_stands_behind : WindowStandsBehind keys weighs
  window_stands_behind settings shares weigher capacity requests answers cache run =
      let parts = order-parts cache.contents.entries (order-new settings shares weigher capacity requests answers cache run) in
      parts.parts
      ∙ (sym (append_assoc (probation_of cache.contents.entries) (protected_of cache.contents.entries) (window_of cache.contents.entries))
      ∙ ap (λ l. l ++ window_of cache.contents.entries) (sym parts.main))

  pub window_stays_empty : WindowStaysEmpty keys weighs
  window_stays_empty settings shares weigher capacity requests answers cache none run =
      window-empty cache.contents.entries
      ((ordered-runs (new_cache settings shares weigher capacity) cache requests answers run
      (ordered-new (new_cache settings shares weigher capacity) refl)).main
      (same-windowed cache (new_cache settings shares weigher capacity)
      (sym (terms-runs (new_cache settings shares weigher capacity) cache requests answers run)) none))
