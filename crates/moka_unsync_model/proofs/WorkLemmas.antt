-- Lemmas on how little an insert of a new key does if each entry weighs 1.
use Rattle.std.proofs.Common.{◌≡◌, ◌≤◌, ◌<◌, ◌+◌, ◌-◌, ◌*◌, ◌/◌, ℕ, zero, suc, Bool, false, true, cond, not, List, [], ◌∷◌, ◌++◌, All, Option, None, Some}
use Rattle.std.proofs.Common.{ap, append-nil, arith, filter, inl, inr, length, refl, subst, sym, unwrap_or, ◌∙◌, ◌⊎◌}
use Rattle.std.specs.Prelude.{max}
use Rattle.std.specs.Cmp.{IsEquivalence}
use Rattle.std.proofs.lemmas.Bool.{cases_Bool, cond-false, cond-true}
use Rattle.std.proofs.lemmas.List.Elements.{All-filter, All-from_recursion, All-head, All-push, All-tail}
use Rattle.moka_common.specs.Keys.{Keys}
use Rattle.moka_common.specs.Settings.{keeps_writes}
use Rattle.moka_common.specs.Sketch.{Table}
use Rattle.moka_unsync_model.specs.declared.entry.Entry.{Entry}
use Rattle.moka_unsync_model.specs.declared.entry.Part.TheVariants.{Probation, Window}
use Rattle.moka_unsync_model.specs.declared.shares.PartLimits.{PartLimits}
use Rattle.moka_unsync_model.specs.CacheState.{CacheState, new_cache, room_of, windowed}
use Rattle.moka_unsync_model.specs.Cleanup.{least_recent}
use Rattle.moka_unsync_model.specs.Contents.{Contents, after_leaving, entries_without, entry_at, entry_keys, is_window, main_of, protected_of, total_weight}
use Rattle.moka_unsync_model.specs.Contents.{window_of, with_latest}
use Rattle.moka_unsync_model.specs.Insert.{Refused, after_entering, after_entry, after_new, after_put, after_turn, gained_by, new_entry}
use Rattle.moka_unsync_model.specs.Laws.{InsertsDoLittle, MovesBy, Remains}
use Rattle.moka_unsync_model.specs.Lookup.{after_look, after_miss, after_use, after_using, unexpired_at, used_part}
use Rattle.moka_unsync_model.specs.Memory.{Memory, at_most}
use Rattle.moka_unsync_model.specs.Shares.{hundredths, limits_of, main_limit, protected_room, windowed_limits}
use Rattle.moka_unsync_model.specs.Step.{Answer, IsStep, Request, Runs, Get, Peek, ContainsKey, Miss, Insert, Invalidate, Remove, InvalidateAll}
use Rattle.moka_unsync_model.specs.Step.{InvalidateEntriesIf, Iterate, EntryCount, WeightedSize}
use Rattle.moka_unsync_model.specs.Invalidate.{chosen}
use Rattle.moka_unsync_model.specs.Window.{after_candidacy, after_candidates, after_sharing, candidates, excess, given_up, victims_of}
use Rattle.moka_unsync_model.proofs.BoundLemmas.{IsFollowed, followed-new, followed-step, moved-turn, new-moved, one_limit}
use Rattle.moka_unsync_model.proofs.CandidateLemmas.{All-entering, least_parts}
use Rattle.moka_unsync_model.proofs.CauseLemmas.{windowed-is}
use Rattle.moka_unsync_model.proofs.EnteringLemmas.{least_recent-cons, passed-push}
use Rattle.moka_unsync_model.proofs.HistoryLemmas.{something}
use Rattle.moka_unsync_model.proofs.KeyLemmas.{StandOnce, contents-standing, none_stand, once-candidacy, once-push, once-remains, once-step}
use Rattle.moka_unsync_model.proofs.LimitLemmas.{AllOne, IsWithin, found_there, ones_found, total-cons, total-filter, total-found, total-push, within_step}
use Rattle.moka_unsync_model.proofs.MapLemmas.{given_of, terms-put, terms_of}
use Rattle.moka_unsync_model.proofs.OrderLemmas.{same-windowed, terms-runs}
use Rattle.moka_unsync_model.proofs.PartLemmas.{window-demoted, window-used}
use Rattle.moka_unsync_model.proofs.RemainLemmas.{remains-cleanup, remains-leaving, remains-none}
use Rattle.moka_unsync_model.proofs.ShareLemmas.{protected-entering, both-tests, more-times, protected-remains, shared-new}
use Rattle.moka_unsync_model.proofs.SharingLemmas.{stays_of, turned}
use Rattle.moka_unsync_model.proofs.StandLemmas.{AreCandidates, StandsIn, are-chosen, are-left, stands-left}
use Rattle.moka_unsync_model.proofs.WindowLemmas.{latest-filtered, total-latest, total-split, window-latest}

-- ---- numbers

enough-left : (after judged entered limit other : ℕ) → after + judged ≤ entered → max (entered - limit) other ≤ judged → after ≤ limit
enough-left after judged entered limit other less enough = grind (arith, less, enough)

within-two : (now limit before next : ℕ) → now ≤ limit → limit ≡ before → before ≤ next + 2 * 1 → now ≤ next + 2
within-two now limit before next less is down = omega (arith, less, is, down)

minus-one : (n : ℕ) → suc n - 1 ≡ n
minus-one n = omega arith

-- ---- what the window weighs

module _ {K V : Type 0} where
  abbrev window_weight : List (Entry K V) → ℕ
  window_weight es = total_weight (window_of es)

  window-filter : (test : Entry K V → Bool) (es : List (Entry K V)) → window_weight (filter test es) ≤ window_weight es
  window-filter test es =
      subst (λ l. total_weight l ≤ window_weight es) (sym (both-tests (λ e. is_window e.part) test es)) (total-filter test (window_of es))

  window-remains : (old new : Contents K V) → Remains old new → window_weight new.entries ≤ window_weight old.entries
  window-remains old new remains =
      subst (λ l. window_weight l ≤ window_weight old.entries) (sym remains.entries) (window-filter (λ e. remains.stays e.key) old.entries)

  -- a new entry in the window adds its weight
  window-pushed : (e : Entry K V) (es : List (Entry K V)) → is_window e.part ≡ true → window_weight (es ++ e ∷ []) ≡ window_weight es + e.weight
  window-pushed e es waits = ap total_weight (passed-push (λ x. is_window x.part) es e waits) ∙ total-push e (window_of es)

module _ {K V : Type 0} (eq : K → K → Bool) (laws : IsEquivalence eq) where
  -- an entry of the window is found in it
  found-within : (key : K) (e : Entry K V) (es : List (Entry K V)) → entry_at eq key es ≡ Some e → is_window e.part ≡ true
      → entry_at eq key (window_of es) ≡ Some e
  found-within key e [] found waits = found
  found-within key e (x ∷ xs) found waits =
      elim (cases_Bool (eq key x.key)) [
        | inl equal ↦
            let here : x ≡ e = ap (λ o. unwrap_or o e) (sym (cond-true (eq key x.key) (Some x) (entry_at eq key xs) equal) ∙ found) in
            ap (entry_at eq key) (cond-true (is_window x.part) (x ∷ window_of xs) (window_of xs) (ap (λ (y : Entry K V). is_window y.part) here ∙ waits))
            ∙ (cond-true (eq key x.key) (Some x) (entry_at eq key (window_of xs)) equal ∙ ap Some here)
        | inr differ ↦
            by (is_window x.part) differ
            (found-within key e xs (sym (cond-false (eq key x.key) (Some x) (entry_at eq key xs) differ) ∙ found) waits)
      ]
    where
      by : (b : Bool) → eq key x.key ≡ false → entry_at eq key (window_of xs) ≡ Some e
          → entry_at eq key (cond b (x ∷ window_of xs) (window_of xs)) ≡ Some e
      by true differ rest = cond-false (eq key x.key) (Some x) (entry_at eq key (window_of xs)) differ ∙ rest
      by false differ rest = rest

  -- and its weight goes with it
  window-found : (key : K) (e : Entry K V) (es : List (Entry K V)) → entry_at eq key es ≡ Some e → is_window e.part ≡ true
      → window_weight (entries_without eq e.key es) + e.weight ≤ window_weight es
  window-found key e es found waits =
      subst (λ l. total_weight l + e.weight ≤ window_weight es) (sym (both-tests (λ x. is_window x.part) (λ x. not (eq e.key x.key)) es))
      (total-found eq laws key e (window_of es) (found-within key e es found waits))

  -- ---- a new entry leaves the window within its limit

  window-candidacy : (limit : ℕ) (sketch : Option Table) (c : Entry K V) (contents : Contents K V) → StandOnce eq contents.entries
      → StandsIn eq laws contents.entries true c → (gone : Option (List (Entry K V)))
      → victims_of (Some limit) sketch c (main_of contents.entries) ≡ gone
      → window_weight (after_candidacy eq c gone contents).entries + c.weight ≤ window_weight contents.entries
  window-candidacy limit sketch c contents once stands None is = window-found c.key c contents.entries stands.0 stands.1
  window-candidacy limit sketch c contents once stands (Some gone) is =
      let left = after_leaving eq (entry_keys gone) contents in
      let others = entries_without eq c.key left.entries in
      rw (ap total_weight (window-latest (record c { part = Probation }) others refl))
      (grind (
        arith,
        window-found c.key c left.entries (stands-left eq laws limit sketch c gone contents once is c stands) stands.1,
        window-remains contents left (remains-leaving eq (entry_keys gone) contents),
      ))

  window-candidates : (limits : PartLimits) (sketch : Option Table) (es : List (Entry K V)) (contents : Contents K V) → StandOnce eq contents.entries
      → AreCandidates eq laws contents es
      → window_weight (after_candidates eq limits sketch es contents).entries + total_weight es ≤ window_weight contents.entries
  window-candidates limits sketch [] contents once are = grind (arith)
  window-candidates limits sketch (c ∷ es) contents once are =
      let gone = victims_of (Some (main_limit limits)) sketch c (main_of contents.entries) in
      let next = after_candidacy eq c gone contents in
      grind (
        arith,
        total-cons c es,
        window-candidacy (main_limit limits) sketch c contents once are.stand.0 gone refl,
        window-candidates limits sketch es next (once-candidacy eq laws c gone contents once)
            (are-left eq laws (main_limit limits) sketch c es contents once are gone refl),
      )

  window-entering : (keeps : Bool) (limits : PartLimits) (sketch : Option Table) (new : Entry K V) (contents : Contents K V)
      → entry_at eq new.key contents.entries ≡ None → StandOnce eq contents.entries
      → window_weight (after_entering eq keeps limits sketch new contents).entries ≤ limits.window
  window-entering keeps limits sketch new contents absent once =
      let entered = after_entry eq keeps (record new { part = Window }) contents in
      let apart = once-push eq laws contents.entries (record new { part = Window }) absent once in
      let judged = candidates limits entered.entries in
      let less = window-candidates limits sketch judged entered apart (are-chosen eq laws limits entered apart) in
      let (rest, parts, heavy) = least_parts (excess limits entered.entries) (window_of entered.entries) in
      elim heavy [
        | inl enough ↦
            enough-left (window_weight (after_candidates eq limits sketch judged entered).entries) (total_weight judged) (window_weight entered.entries)
            limits.window (total_weight entered.entries - limits.all) less enough
        | inr none ↦
            let all : window_weight entered.entries ≡ total_weight judged =
            ap total_weight (parts ∙ (ap (λ l. judged ++ l) none ∙ append-nil judged)) in
            grind (arith, less, all)
      ]

  -- ---- a use leaves the window as heavy as it was

  window-using : (room : ℕ) (entry old : Entry K V) (key : K) (contents : Contents K V) → entry_at eq key contents.entries ≡ Some old
      → entry.key ≡ old.key → entry.part ≡ old.part → entry.weight ≡ old.weight
      → window_weight (after_using eq room entry contents).entries ≤ window_weight contents.entries
  window-using room entry old key contents found same_key same_part same_weight =
      let others = entries_without eq entry.key contents.entries in
      let used = record entry { part = used_part room entry.part entry.weight } in
      let es = with_latest used others in
      rw (ap total_weight (window-demoted (total_weight (protected_of es) - room) es))
      (elim (cases_Bool (is_window entry.part)) [
        | inl waits ↦
            let main : main_of es ≡ main_of others =
            latest-filtered (λ e. not (is_window e.part)) used others (ap not (window-used room entry.part entry.weight ∙ waits)) in
            let less = subst (λ k. window_weight (entries_without eq k contents.entries) + old.weight ≤ window_weight contents.entries) (sym same_key)
            (window-found key old contents.entries found (sym (ap is_window same_part) ∙ waits)) in
            grind (arith, total-split es, total-split others, total-latest used others, ap total_weight main, same_weight, less)
        | inr elsewhere ↦
            rw (ap total_weight (window-latest used others (window-used room entry.part entry.weight ∙ elsewhere)))
            (window-filter (λ e. not (eq entry.key e.key)) contents.entries)
      ])

  -- main gives up none of it, and demotions are in main
  window-sharing_less : (limits : PartLimits) (gained : ℕ) (contents : Contents K V)
      → window_weight (after_sharing eq limits gained contents).entries ≤ window_weight contents.entries
  window-sharing_less limits gained contents =
      let left = stays_of eq limits gained contents in
      rw (ap total_weight (window-demoted (total_weight (protected_of left.entries) - limits.protected) left.entries))
      (window-remains contents left (remains-leaving eq (entry_keys (given_up limits gained contents.entries)) contents))

-- ---- after each call the window weighs at most two more than its limit

module _ {K V S W : Type 0} where
  abbrev IsHeld : CacheState K V S W → Type 0
  IsHeld cache = (limits : PartLimits) → windowed cache ≡ Some limits → window_weight cache.contents.entries ≤ limits.window + 2

  held-less : (old new : CacheState K V S W) → given_of new ≡ given_of old
      → window_weight new.contents.entries ≤ window_weight old.contents.entries → IsHeld old → IsHeld new
  held-less old new same less held = λ limits is.
      let before = held limits (ap (λ t. windowed_limits t.1 t.0.policy.max_capacity) (sym same) ∙ is) in
      grind (arith, less, before)

  module _ (eq : K → K → Bool) (laws : IsEquivalence eq) where
    held-use : (cache next : CacheState K V S W) (room now : ℕ) (key : K) (o : Option (Entry K V)) → given_of next ≡ given_of cache
        → next.contents ≡ after_use eq room now o cache.contents
        → ((e : Entry K V) → o ≡ Some e → entry_at eq key cache.contents.entries ≡ Some e) → IsHeld cache → IsHeld next
    held-use cache next room now key None same is there held =
        held-less cache next same (subst (λ c. window_weight c.entries ≤ window_weight cache.contents.entries) (sym is) (no-more _)) held
      where
        no-more : (n : ℕ) → n ≤ n
        no-more n = omega arith
    held-use cache next room now key (Some e) same is there held =
        held-less cache next same
        (subst (λ c. window_weight c.entries ≤ window_weight cache.contents.entries) (sym is)
        (window-using eq laws room (record e { accessed = now }) e key cache.contents (there e refl) refl refl refl)) held

    -- a new entry that weighs 1
    held-put : (cache : CacheState K V S W) (limit : ℕ) (new : Entry K V) (refused : Refused) → cache.settings.policy.max_capacity ≡ Some limit
        → new.weight ≡ 1 → StandOnce eq cache.contents.entries → entry_at eq new.key cache.contents.entries ≡ None → IsFollowed cache
        → IsHeld (after_put eq cache None new refused)
    held-put cache limit new refused has one once absent followed = by (windowed cache) refl
      where
        terms : terms_of (after_put eq cache None new refused) ≡ terms_of cache
        terms = terms-put eq cache None new refused

        entered : (limits : PartLimits) → windowed cache ≡ Some limits → terms_of (after_new eq cache (Some limits) new refused) ≡ terms_of cache
            → IsHeld (after_new eq cache (Some limits) new refused)
        entered limits is same = λ next_limits next_is.
            let contents = after_entering eq (keeps_writes cache.settings.policy) limits cache.sketch new cache.contents in
            let next = after_turn eq cache cache.memory limits new contents in
            let put = after_new eq cache (Some limits) new refused in
            let fits = window-entering eq laws (keeps_writes cache.settings.policy) limits cache.sketch new cache.contents absent once in
            let turned_fits : window_weight next.contents.entries ≤ limits.window =
            turned eq (λ c. window_weight c.entries ≤ limits.window) cache cache.memory limits new contents fits
            (λ shared gained. let less = window-sharing_less eq laws shared gained contents in grind (arith, less, fits)) in
            let there : window_weight put.contents.entries ≤ limits.window =
            subst (λ c. window_weight c.entries ≤ limits.window) (sym (contents-standing eq next new refused)) turned_fits in
            let (l, was, are) = windowed-is cache.shares cache.settings.policy.max_capacity limits is in
            let (m, next_was, next_are) = windowed-is put.shares put.settings.policy.max_capacity next_limits next_is in
            let put_has : put.settings.policy.max_capacity ≡ Some limit = ap (λ t. t.0.policy.max_capacity) same ∙ has in
            let moves = new-moved eq cache new refused followed limit has (Some limits) is in
            let down = subst (λ w. (limits_of cache.shares limit).window ≤ (limits_of put.shares limit).window + 2 * w) one moves.1 in
            subst (λ n. window_weight put.contents.entries ≤ n + 2)
            (sym (ap (λ p. p.window) (next_are ∙ ap (limits_of put.shares) (one_limit m limit (sym next_was ∙ put_has)))))
            (within-two (window_weight put.contents.entries) limits.window (limits_of cache.shares limit).window (limits_of put.shares limit).window there
            (ap (λ p. p.window) (are ∙ ap (limits_of cache.shares) (one_limit l limit (sym was ∙ has)))) down)

        by : (o : Option PartLimits) → windowed cache ≡ o → IsHeld (after_put eq cache None new refused)
        by None none = λ limits is. something (same-windowed (after_put eq cache None new refused) cache (sym terms) none) is
        by (Some limits) is =
            subst (λ o. IsHeld (after_new eq cache o new refused)) (sym is)
            (entered limits is (subst (λ o. terms_of (after_new eq cache o new refused) ≡ terms_of cache) is terms))

module _ {K V S W : Type 0} (keys : Keys K S) (laws : IsEquivalence keys.eq) (weighs : W → K → V → ℕ → W → Type 0)
    (each : (old new : W) (key : K) (value : V) (weight : ℕ) → weighs old key value weight new → weight ≡ 1) where
  pub record IsCalm (limit : ℕ) (cache : CacheState K V S W) : Type 0 where
    pub within : IsWithin keys laws weighs each limit cache
    pub once : StandOnce keys.eq cache.contents.entries
    pub followed : IsFollowed cache
    pub held : IsHeld cache

  held-look : (cache : CacheState K V S W) (now : ℕ) → IsHeld cache → IsHeld (after_look keys cache now)
  held-look cache now held =
      held-less cache (after_look keys cache now) refl
      (window-remains cache.contents (after_look keys cache now).contents (remains-cleanup keys.eq cache.settings.policy now cache.contents)) held

  held-step : (limit : ℕ) (old new : CacheState K V S W) (request : Request K V) (answer : Answer K V) → IsCalm limit old
      → IsStep keys weighs old request answer new → IsHeld new
  held-step limit old new (Get key now) answer calm step =
      let looked = after_look keys old now in
      held-use keys.eq laws looked new (room_of old) now key (unexpired_at keys.eq old.settings.policy now key looked.contents) (ap given_of step.1)
      (ap (λ c. c.contents) step.1) (λ e there. found_there old.settings.policy now (entry_at keys.eq key looked.contents.entries) e there)
      (held-look old now calm.held)
  held-step limit old new (Peek key now) answer calm step = subst IsHeld (sym step.1) calm.held
  held-step limit old new (ContainsKey key now) answer calm step = subst IsHeld (sym step.1) (held-look old now calm.held)
  held-step limit old new (Miss hash now) answer calm step =
      subst IsHeld (sym step.1)
      (held-less old (after_miss keys old hash now) refl
      (window-remains old.contents (after_look keys old now).contents (remains-cleanup keys.eq old.settings.policy now old.contents)) calm.held)
  held-step limit old new (Insert key value own now) answer calm (inl (done, inserted)) =
      let looked = after_look keys old now in
      let asked : CacheState K V S W = record looked { weigher = inserted.weigher; capacity = inserted.capacity } in
      subst IsHeld (sym inserted.step) (by asked (held-look old now calm.held) (entry_at keys.eq key looked.contents.entries) refl)
    where
      entry : Entry K V
      entry = new_entry keys old.settings key value inserted.weight own now

      one : inserted.weight ≡ 1
      one = each old.weigher inserted.weigher key value inserted.weight inserted.weighed

      kept : Remains old.contents (after_look keys old now).contents
      kept = remains-cleanup keys.eq old.settings.policy now old.contents

      once : StandOnce keys.eq (after_look keys old now).contents.entries
      once = once-remains keys.eq old.contents (after_look keys old now).contents kept calm.once

      ones : AllOne keys.eq (after_look keys old now).contents.entries
      ones =
          subst (AllOne keys.eq) (sym kept.entries)
          (All-filter (λ e. kept.stays e.key) (λ e. e.weight ≡ 1) old.contents.entries calm.within.ones)

      by : (asked : CacheState K V S W) → IsHeld (record (after_look keys old now) { weigher = inserted.weigher; capacity = inserted.capacity })
          → (o : Option (Entry K V)) → entry_at keys.eq key (after_look keys old now).contents.entries ≡ o
          → IsHeld (after_put keys.eq (record (after_look keys old now) { weigher = inserted.weigher; capacity = inserted.capacity }) o entry inserted.refused)
      by asked held None absent =
          held-put keys.eq laws (record (after_look keys old now) { weigher = inserted.weigher; capacity = inserted.capacity }) limit entry inserted.refused
          calm.within.has one once absent calm.followed
      by asked held (Some e) found =
          let cache = record (after_look keys old now) { weigher = inserted.weigher; capacity = inserted.capacity } in
          held-less cache (after_put keys.eq cache (Some e) entry inserted.refused) refl
          (window-using keys.eq laws (room_of cache) (record entry { key = e.key; hash = e.hash; part = e.part }) e key cache.contents found refl refl
          (one ∙ sym (ones_found keys.eq key cache.contents.entries e ones found))) held
  held-step limit old new (Insert key value own now) answer calm (inr (refused, same)) =
      held-less old new (ap given_of same.same)
      (subst (λ c. window_weight c.contents.entries ≤ window_weight old.contents.entries) (sym same.same) (no-more _)) calm.held
    where
      no-more : (n : ℕ) → n ≤ n
      no-more n = omega arith
  held-step limit old new (Invalidate key now) answer calm step =
      let looked = after_look keys old now in
      held-less looked new (ap given_of step.1)
      (subst (λ c. window_weight c.contents.entries ≤ window_weight looked.contents.entries) (sym step.1)
      (window-remains looked.contents _ (remains-leaving keys.eq (key ∷ []) looked.contents))) (held-look old now calm.held)
  held-step limit old new (Remove key now) answer calm step =
      let looked = after_look keys old now in
      held-less looked new (ap given_of step.1)
      (subst (λ c. window_weight c.contents.entries ≤ window_weight looked.contents.entries) (sym step.1)
      (window-remains looked.contents _ (remains-leaving keys.eq (key ∷ []) looked.contents))) (held-look old now calm.held)
  held-step limit old new InvalidateAll answer calm step =
      held-less old new (ap given_of step.1)
      (subst (λ c. window_weight c.contents.entries ≤ window_weight old.contents.entries) (sym step.1)
      (window-remains old.contents _ (remains-none old.contents))) calm.held
  held-step limit old new (InvalidateEntriesIf answers) answer calm step =
      held-less old new (ap given_of step.1)
      (subst (λ c. window_weight c.contents.entries ≤ window_weight old.contents.entries) (sym step.1)
      (window-remains old.contents _ (remains-leaving keys.eq (entry_keys (chosen answers old.contents.entries)) old.contents))) calm.held
  held-step limit old new (Iterate now) answer calm step = subst IsHeld (sym step.1) calm.held
  held-step limit old new EntryCount answer calm step = subst IsHeld (sym step.1) calm.held
  held-step limit old new WeightedSize answer calm step = subst IsHeld (sym step.1) calm.held

  calm-runs : (limit : ℕ) (old new : CacheState K V S W) (requests : List (Request K V)) (answers : List (Answer K V)) → IsCalm limit old
      → Runs keys weighs old requests answers new → IsCalm limit new
  calm-runs limit old new [] answers calm run = subst (IsCalm limit) (sym run.1) calm
  calm-runs limit old new (request ∷ requests) answers calm (answer, rest, next, is, step, run) =
      calm-runs limit next new requests rest (record {
        within = within_step keys laws weighs each limit old next request answer calm.within step;
        once = once-step keys laws weighs old next request answer step calm.once;
        followed = followed-step keys weighs old next request answer step calm.followed;
        held = held-step limit old next request answer calm step;
      }) run

-- ---- so little is judged, given up and demoted

module _ {K V : Type 0} where
  least-few : (n : ℕ) (es : List (Entry K V)) → All (λ e. e.weight ≡ 1) es → length (least_recent n es) ≤ n
  least-few zero es ones = omega arith
  least-few (suc n) [] ones = omega arith
  least-few (suc n) (e ∷ es) ones =
      let one = All-head (λ e. e.weight ≡ 1) e es ones in
      let fewer = least-few n es (All-tail (λ e. e.weight ≡ 1) e es ones) in
      subst (λ l. length l ≤ suc n)
      (sym (least_recent-cons (suc n) e es (omega arith) ∙ (ap (λ w. e ∷ least_recent (suc n - w) es) one
      ∙ ap (λ m. e ∷ least_recent m es) (minus-one n))))
      (omega (arith, fewer))

at-most-less : (most n : ℕ) → at_most most n ≤ most
at-most-less most n = omega arith

-- a hundredth of one more is one more at most
hundredths-next : (share a b : ℕ) → share ≤ 100 → a ≤ b + 1 → hundredths share a ≤ hundredths share b + 1
hundredths-next share a b small less = by (a * share) (b * share) (product a b less)
  where
    product : (a b : ℕ) → a ≤ b + 1 → a * share ≤ b * share + share
    product a b less = let more = more-times share a (b + 1) less in grind (arith, more, next b)
      where
        next : (b : ℕ) → (b + 1) * share ≡ b * share + share
        next b = grind (arith)

    by : (x y : ℕ) → x ≤ y + share → x / 100 ≤ y / 100 + 1
    by x y h = omega (arith, h, small)

few-judged : (window total limit all : ℕ) → window ≤ limit + 3 → total ≤ all + 1 → max (window - limit) (total - all) ≤ 3
few-judged window total limit all a b = grind (arith, a, b)

no-longer : (a b c : ℕ) → a ≤ b → b ≤ c → a ≤ c
no-longer a b c f g = omega (arith, f, g)

module _ {K V : Type 0} where
  gained-less : (o : Option (Entry K V)) (before after : ℕ) → gained_by o before after ≤ after - before
  gained-less None before after = omega arith
  gained-less (Some e) before after = by (is_window e.part)
    where
      by : (b : Bool) → cond b (after - before) 0 ≤ after - before
      by true = omega arith
      by false = omega arith

module _ {K V S W : Type 0} (eq : K → K → Bool) (cache : CacheState K V S W) (limits : PartLimits) (new : Entry K V) (contents : Contents K V) where
  same-share : (memory : Option Memory) → (after_turn eq cache memory limits new contents).shares.window ≡ cache.shares.window
  same-share None = refl
  same-share (Some memory) = refl

  same-protected : (memory : Option Memory) → (after_turn eq cache memory limits new contents).shares.protected ≡ cache.shares.protected
  same-protected None = refl
  same-protected (Some memory) = refl

-- what the window gained beyond a share that is the same
gained-one : (share same before after weight : ℕ) → share ≡ same → same + after ≤ share + before + weight → weight ≡ 1 → after - before ≤ 1
gained-one share same before after weight is up one = omega (arith, is, up, one)

-- main lost that at most
lost-one : (limit before after weight : ℕ) → after ≤ before + weight → weight ≡ 1 → limit - before ≤ limit - after + 1
lost-one limit before after weight up one = omega (arith, up, one)

module _ {K V S W : Type 0} (keys : Keys K S) (laws : IsEquivalence keys.eq) (weighs : W → K → V → ℕ → W → Type 0) where
  pub inserts-do-little : InsertsDoLittle keys weighs
  inserts-do-little each settings shares weigher capacity limit requests answers old limits new now has none whole run is one absent =
      record {
        judged =
            no-longer _ (excess limits (kept.entries ++ record new { part = Window } ∷ [])) 3
            (least-few (excess limits (kept.entries ++ record new { part = Window } ∷ [])) (window_of (kept.entries ++ record new { part = Window } ∷ []))
            (All-filter (λ e. is_window e.part) (λ e. e.weight ≡ 1) (kept.entries ++ record new { part = Window } ∷ [])
            (All-push (λ e. e.weight ≡ 1) kept.entries (record new { part = Window }) ones one)))
            (few-judged (window_weight (kept.entries ++ record new { part = Window } ∷ [])) (total_weight (kept.entries ++ record new { part = Window } ∷ []))
            limits.window limits.all
            (grind (
              arith,
              window-pushed (record new { part = Window }) kept.entries refl,
              window-remains old.contents kept remains,
              calm.held limits is,
              one,
            ))
            (grind (arith, total-push (record new { part = Window }) kept.entries, lighter, calm.within.fits, all_is, one)));
        given =
            no-longer _ _ 1
            (least-few (at_most gained over) (main_of entered.entries)
            (All-filter (λ e. not (is_window e.part)) (λ e. e.weight ≡ 1) entered.entries
            (All-entering keys.eq (λ e. e.weight ≡ 1) (λ e part free h. h) (keeps_writes old.settings.policy) limits old.sketch new kept ones one)))
            (no-longer _ gained 1 (at-most-less gained over)
            (no-longer gained (next.shares.extra - old.shares.extra) 1
            (gained-less (entry_at keys.eq new.key entered.entries) old.shares.extra next.shares.extra)
            (gained-one (hundredths old.shares.window limit) (hundredths next.shares.window limit) old.shares.extra next.shares.extra new.weight
            (ap (λ w. hundredths w limit) (sym (same-share keys.eq arrived limits new entered old.memory))) moves.0 one)));
        demoted =
            subst (λ n. total_weight (protected_of entered.entries) ≤ (limits_of next.shares n).protected + 1) (sym all_is)
            (no-longer _ (limits_of old.shares limit).protected _ protected_fits
            (subst (λ p. hundredths old.shares.protected (limit - (limits_of old.shares limit).window)
            ≤ hundredths p (limit - (limits_of next.shares limit).window) + 1) (sym (same-protected keys.eq arrived limits new entered old.memory))
            (hundredths-next old.shares.protected (limit - (limits_of old.shares limit).window) (limit - (limits_of next.shares limit).window) part
            (lost-one limit (limits_of old.shares limit).window (limits_of next.shares limit).window new.weight moves.0 one))));
      }
    where
      first : CacheState K V S W
      first = new_cache settings shares weigher capacity

      calm : IsCalm keys laws weighs each limit old
      calm = calm-runs keys laws weighs each limit first old requests answers (record {
        within = record { has = has; ones = All-from_recursion (λ e. e.weight ≡ 1) [] tt; fits = grind (arith) };
        once = none_stand keys laws weighs;
        followed = followed-new keys weighs settings shares weigher capacity none;
        held = λ limits is. grind (arith);
      }) run

      kept : Contents K V
      kept = (after_look keys old now).contents

      remains : Remains old.contents kept
      remains = remains-cleanup keys.eq old.settings.policy now old.contents

      ones : All (λ e. e.weight ≡ 1) kept.entries
      ones =
          subst (All (λ e. e.weight ≡ 1)) (sym remains.entries)
          (All-filter (λ e. remains.stays e.key) (λ e. e.weight ≡ 1) old.contents.entries calm.within.ones)

      lighter : total_weight kept.entries ≤ total_weight old.contents.entries
      lighter =
          subst (λ l. total_weight l ≤ total_weight old.contents.entries) (sym remains.entries)
          (total-filter (λ e. remains.stays e.key) old.contents.entries)

      all_is : limits.all ≡ limit
      all_is =
          let (l, was, are) = windowed-is old.shares old.settings.policy.max_capacity limits is in
          ap (λ p. p.all) are ∙ one_limit l limit (sym was ∙ calm.within.has)

      arrived : CacheState K V S W
      arrived = record old { contents = kept }

      entered : Contents K V
      entered = after_entering keys.eq (keeps_writes old.settings.policy) limits old.sketch new kept

      next : CacheState K V S W
      next = after_turn keys.eq arrived old.memory limits new entered

      gained : ℕ
      gained = gained_by (entry_at keys.eq new.key entered.entries) old.shares.extra next.shares.extra

      over : ℕ
      over = total_weight (main_of entered.entries) - main_limit (limits_of next.shares limits.all)

      moves : MovesBy limit new.weight old.shares next.shares
      moves = moved-turn keys.eq arrived limits new entered is old.memory refl limit calm.within.has (calm.followed limit calm.within.has)

      part : old.shares.protected ≤ 100
      part = subst (λ n. n ≤ 100) (sym (ap (λ t. t.1.protected) (terms-runs keys weighs first old requests answers run))) whole

      protected_fits : total_weight (protected_of entered.entries) ≤ (limits_of old.shares limit).protected
      protected_fits =
          let shared = shared-new keys weighs settings shares weigher capacity requests answers old run in
          subst (λ m. total_weight (protected_of entered.entries) ≤ protected_room old.shares m) calm.within.has
          (no-longer _ (total_weight (protected_of old.contents.entries)) _
          (no-longer _ (total_weight (protected_of kept.entries)) _
          (protected-entering keys.eq (keeps_writes old.settings.policy) limits old.sketch new kept)
          (protected-remains old.contents kept remains)) shared.within)
