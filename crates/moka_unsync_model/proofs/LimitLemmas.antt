-- Lemmas on how much the contents weigh after a call.
use Rattle.std.proofs.Common.{◌≡◌, ◌⊎◌, ◌≤◌, ◌+◌, ◌-◌, ℕ, max, Bool, true, false, cond, not, ◌&&◌, List, [], ◌∷◌}
use Rattle.std.proofs.Common.{◌++◌, All, filter, length, map, take, take_while, is_some, Option}
use Rattle.std.proofs.Common.{Some, None, unwrap_or, refl, sym, ap, ◌∙◌, inl, inr, arith, subst, nat_lt}
use Rattle.std.proofs.lemmas.Bool.{cases_Bool, cond-true, cond-false, false≢true}
use Rattle.std.proofs.lemmas.List.Elements.{All-from_recursion, All-head, All-tail, filter-append, recursion_from_All}
use Rattle.std.proofs.Math.Nat.{le-max_left, le-max_right}
use Rattle.std.proofs.lemmas.List.Sums.{sum_by-append, sum_by-cons, sum_by_push}
use Rattle.std.specs.Cmp.{IsEquivalence}
use Rattle.std.specs.List.{AllByRecursion}
use Rattle.moka_common.specs.Keys.{Keys}
use Rattle.moka_common.specs.Policy.{Policy}
use Rattle.moka_common.specs.Sketch.{Table}
use Rattle.moka_unsync_model.specs.declared.entry.Entry.{Entry}
use Rattle.moka_unsync_model.specs.declared.constants.TheConstants.{EVICTION_BATCH_SIZE}
use Rattle.moka_unsync_model.specs.Contents.{Contents, after_leaving, after_moving, entry_at, entries_without, entry_keys, main_of, total_weight}
use Rattle.moka_unsync_model.specs.Contents.{window_of}
use Rattle.moka_unsync_model.specs.Contents.{without, is_window, probation_of, protected_of}
use Rattle.moka_unsync_model.specs.CacheState.{CacheState, new_cache, room_of, windowed}
use Rattle.moka_common.specs.Settings.{keeps_writes}
use Rattle.moka_unsync_model.specs.Cleanup.{after_expiry, after_idle, after_live_expiry, after_trim, after_cleanup}
use Rattle.moka_unsync_model.specs.Cleanup.{is_past_ttl, least_recent, is_expired, unexpired}
use Rattle.moka_unsync_model.specs.Insert.{Refused, Puts, after_admission, after_asking, after_entering, after_entry, after_new, after_put, after_turn}
use Rattle.moka_unsync_model.specs.Insert.{after_verdict}
use Rattle.moka_unsync_model.specs.Insert.{new_entry}
use Rattle.moka_unsync_model.specs.Window.{after_candidacy, after_candidates, after_sharing, candidates, excess, victims_of}
use Rattle.moka_unsync_model.specs.Invalidate.{chosen}
use Rattle.moka_unsync_model.specs.Laws.{IsUpdate, OnlyUpdatesOutgrowLimit, StaysWithinLimit}
use Rattle.moka_unsync_model.specs.Lookup.{after_search, after_use, unexpired_at, after_using}
use Rattle.moka_unsync_model.specs.Step.{Answer, IsStep, Request, Runs, Get, Peek, ContainsKey, Miss, Insert, Invalidate, Remove}
use Rattle.moka_unsync_model.specs.Step.{InvalidateAll, InvalidateEntriesIf, Iterate, EntryCount, WeightedSize}
use Rattle.moka_unsync_model.proofs.ContentsLemmas.{All-leaving, All-cleanup, idle_keys}
use Rattle.moka_unsync_model.proofs.WindowLemmas.{total-latest, total-main_latest, total-split, window-latest}
use Rattle.moka_unsync_model.proofs.CandidateLemmas.{All-new, least_parts, victims_weigh}
use Rattle.moka_unsync_model.proofs.MapLemmas.{terms-put}
use Rattle.moka_unsync_model.proofs.RemainLemmas.{filter-all, filter-both}
use Rattle.moka_unsync_model.proofs.PartLemmas.{All-using, total-demoted, total-using}
use Rattle.moka_unsync_model.proofs.SharingLemmas.{left-remains, stays_of, turned}
use Rattle.moka_unsync_model.specs.declared.shares.PartLimits.{PartLimits}
use Rattle.moka_unsync_model.specs.Shares.{hundredths, limits_of, main_limit, windowed_limits}
use Rattle.moka_unsync_model.specs.declared.entry.Part.TheVariants.{Probation, Window}

and-false : (a b : Bool) → b ≡ false → (a && b) ≡ false
and-false true b h = h
and-false false b h = refl

module _ {K : Type 0} (eq : K → K → Bool) where
  -- whether a key is none of these
  abbrev pub is_unlisted : List K → K → Bool
  is_unlisted [] k = true
  is_unlisted (key ∷ keys) k = not (eq key k) && is_unlisted keys k

  own-listed : IsEquivalence eq → (key : K) (keys : List K) → is_unlisted (key ∷ keys) key ≡ false
  own-listed laws key keys = ap (λ b. not b && is_unlisted keys key) (laws.refl key)

-- ---- sums

module _ {K V : Type 0} where
  pub total-cons : (e : Entry K V) (es : List (Entry K V)) → total_weight (e ∷ es) ≡ e.weight + total_weight es
  total-cons e es = sum_by-cons (λ e. e.weight) e es

  pub total-push : (e : Entry K V) (es : List (Entry K V)) → total_weight (es ++ e ∷ []) ≡ total_weight es + e.weight
  total-push e es = sum_by_push (λ e. e.weight) es e

  -- what passes a test weighs no more than all
  pub total-filter : (p : Entry K V → Bool) (es : List (Entry K V)) → total_weight (filter p es) ≤ total_weight es
  total-filter p [] = grind (arith)
  total-filter p (e ∷ es) =
      elim (cases_Bool (p e)) [
        | inl passes ↦
            rw (cond-true (p e) (e ∷ filter p es) (filter p es) passes)
            (grind (arith, total-cons e es, total-cons e (filter p es), total-filter p es))
        | inr fails ↦ rw (cond-false (p e) (e ∷ filter p es) (filter p es) fails) (grind (arith, total-cons e es, total-filter p es))
      ]

  -- where the front fails the test, what passes is behind it
  total-behind : (p : Entry K V → Bool) (front rest : List (Entry K V)) → AllByRecursion (λ e. p e ≡ false) front
      → total_weight (filter p (front ++ rest)) ≤ total_weight rest
  total-behind p [] rest fail = total-filter p rest
  total-behind p (e ∷ es) rest fail =
      rw (cond-false (p e) (e ∷ filter p (es ++ rest)) (filter p (es ++ rest)) fail.0) (total-behind p es rest fail.1)

  -- entries of weight 1 weigh as much as there are
  pub total-ones : (es : List (Entry K V)) → AllByRecursion (λ e. e.weight ≡ 1) es → total_weight es ≡ length es
  total-ones [] ones = refl
  total-ones (e ∷ es) ones = total-cons e es ∙ ((λ i. ones.0 i + total-ones es ones.1 i) ∙ grind (arith))

  module _ (eq : K → K → Bool) where
    pub total-leaving : (keys : List K) (contents : Contents K V)
        → total_weight (after_leaving eq keys contents).entries ≤ total_weight contents.entries
    total-leaving [] contents = grind (arith)
    total-leaving (key ∷ keys) contents =
        grind (arith, total-leaving keys (without eq contents key), total-filter (λ e. not (eq key e.key)) contents.entries)

    total-trim : (limit : Option ℕ) (contents : Contents K V)
        → total_weight (after_trim eq limit contents).entries ≤ total_weight contents.entries
    total-trim None contents = grind (arith)
    total-trim (Some limit) contents =
        total-leaving (entry_keys (take EVICTION_BATCH_SIZE (least_recent (total_weight contents.entries - limit) contents.entries)))
        contents

    pub total-cleanup : (policy : Policy) (now : ℕ) (contents : Contents K V)
        → total_weight (after_cleanup eq policy now contents).entries ≤ total_weight contents.entries
    total-cleanup policy now contents =
        let lived = after_live_expiry eq policy now EVICTION_BATCH_SIZE contents in
        let waited = after_idle eq policy now EVICTION_BATCH_SIZE (window_of lived.entries) lived in
        let tried = after_idle eq policy now EVICTION_BATCH_SIZE (probation_of lived.entries) waited in
        let expired = after_expiry eq policy now contents in
        grind (
          arith,
          total-leaving (map (λ w. w.key) (take EVICTION_BATCH_SIZE (take_while (is_past_ttl policy now) contents.written))) contents,
          total-leaving (idle_keys policy now (window_of lived.entries)) lived,
          total-leaving (idle_keys policy now (probation_of lived.entries)) waited,
          total-leaving (idle_keys policy now (protected_of lived.entries)) tried,
          total-trim policy.max_capacity expired,
        )

    leaving-filter : (keys : List K) (contents : Contents K V)
        → (after_leaving eq keys contents).entries ≡ filter (λ e. is_unlisted eq keys e.key) contents.entries
    leaving-filter [] contents = filter-all contents.entries
    leaving-filter (key ∷ keys) contents =
        leaving-filter keys (without eq contents key)
        ∙ filter-both (λ e. not (eq key e.key)) (λ e. is_unlisted eq keys e.key) contents.entries

    module _ (laws : IsEquivalence eq) where
      listed-behind : (key : K) (keys : List K) (es : List (Entry K V)) → AllByRecursion (λ e. is_unlisted eq keys e.key ≡ false) es
          → AllByRecursion (λ e. is_unlisted eq (key ∷ keys) e.key ≡ false) es
      listed-behind key keys [] a = tt
      listed-behind key keys (e ∷ es) a = (and-false (not (eq key e.key)) (is_unlisted eq keys e.key) a.0, listed-behind key keys es a.1)

      all-listed : (es : List (Entry K V)) → AllByRecursion (λ e. is_unlisted eq (entry_keys es) e.key ≡ false) es
      all-listed [] = tt
      all-listed (e ∷ es) = (own-listed eq laws e.key (entry_keys es), listed-behind e.key (entry_keys es) es (all-listed es))

      -- once the front has left, what is left weighs no more than what was behind it
      total-front : (front rest : List (Entry K V)) (contents : Contents K V) → contents.entries ≡ front ++ rest
          → total_weight (after_leaving eq (entry_keys front) contents).entries ≤ total_weight rest
      total-front front rest contents parts =
          rw (leaving-filter (entry_keys front) contents ∙ ap (filter (λ e. is_unlisted eq (entry_keys front) e.key)) parts)
          (total-behind (λ e. is_unlisted eq (entry_keys front) e.key) front rest (all-listed front))

      -- without an entry that was found, the others weigh as much less
      pub total-found : (key : K) (e : Entry K V) (es : List (Entry K V)) → entry_at eq key es ≡ Some e
          → total_weight (entries_without eq e.key es) + e.weight ≤ total_weight es
      total-found key e [] h = absurd (false≢true (ap is_some h))
      total-found key e (f ∷ fs) h =
          let less = entries_without eq e.key fs in
          elim (cases_Bool (eq key f.key)) [
            | inl equal ↦
                let is : f ≡ e = ap (λ o. unwrap_or o f) (sym (cond-true (eq key f.key) (Some f) (entry_at eq key fs) equal) ∙ h) in
                let own : not (eq e.key f.key) ≡ false = ap (λ k. not (eq e.key k.key)) is ∙ ap not (laws.refl e.key) in
                rw (cond-false (not (eq e.key f.key)) (f ∷ less) less own)
                (grind (arith, total-cons f fs, ap (λ x. x.weight) is, total-filter (λ x. not (eq e.key x.key)) fs))
            | inr differ ↦
                let rest = total-found key e fs (sym (cond-false (eq key f.key) (Some f) (entry_at eq key fs) differ) ∙ h) in
                elim (cases_Bool (not (eq e.key f.key))) [
                  | inl stays ↦
                      rw (cond-true (not (eq e.key f.key)) (f ∷ less) less stays) (grind (arith, total-cons f fs, total-cons f less, rest))
                  | inr leaves ↦ rw (cond-false (not (eq e.key f.key)) (f ∷ less) less leaves) (grind (arith, total-cons f fs, rest))
                ]
          ]

-- ---- a new entry

module _ {K V : Type 0} where
  -- what is found is there
  pub found_there : (policy : Policy) (now : ℕ) (o : Option (Entry K V)) (used : Entry K V) → unexpired policy now o ≡ Some used
      → o ≡ Some used
  found_there policy now None used h = absurd (false≢true (ap is_some h))
  found_there policy now (Some e) used h =
      elim (cases_Bool (is_expired policy now e)) [
        | inl expired ↦ absurd (false≢true (ap is_some (sym (cond-true (is_expired policy now e) None (Some e) expired) ∙ h)))
        | inr fresh ↦ sym (cond-false (is_expired policy now e) None (Some e) fresh) ∙ h
      ]

module _ {K V : Type 0} (eq : K → K → Bool) where
  -- a change of the limits leaves no more weight
  pub total-sharing : (limits : PartLimits) (gained : ℕ) (contents : Contents K V)
      → total_weight (after_sharing eq limits gained contents).entries ≤ total_weight contents.entries
  total-sharing limits gained contents =
      let left = stays_of eq limits gained contents in
      let remains = left-remains eq limits gained contents in
      subst (λ n. n ≤ total_weight contents.entries)
      (sym (total-demoted (total_weight (protected_of left.entries) - limits.protected) left.entries))
      (subst (λ l. total_weight l ≤ total_weight contents.entries) (sym remains.entries)
      (total-filter (λ e. remains.stays e.key) contents.entries))

module _ {K V : Type 0} (eq : K → K → Bool) (laws : IsEquivalence eq) where
  -- the contents weigh no more than before, or no more than the limit
  abbrev pub IsBounded : ℕ → Contents K V → Contents K V → Type 0
  IsBounded limit old new = (total_weight new.entries ≤ total_weight old.entries) ⊎ (total_weight new.entries ≤ limit)

  bounded_admission : (keeps : Bool) (limit : ℕ) (sketch : Option Table) (new : Entry K V) (contents : Contents K V)
      (gone : Option (List (Entry K V))) → victims_of (Some limit) sketch new contents.entries ≡ gone
      → IsBounded limit contents (after_admission eq keeps new gone contents)
  bounded_admission keeps limit sketch new contents None is = inl (grind (arith))
  bounded_admission keeps limit sketch new contents (Some gone) is = by (victims_weigh limit sketch new contents.entries gone is)
    where
      by : (rest : List (Entry K V)) × (contents.entries ≡ gone ++ rest)
          × ((total_weight contents.entries + new.weight ≤ limit) ⊎ (new.weight ≤ total_weight gone))
          → IsBounded limit contents (after_admission eq keeps new (Some gone) contents)
      by (rest, parts, inl room) =
          inr (rw (total-latest new (after_leaving eq (entry_keys gone) contents).entries)
          (grind (arith, room, total-leaving eq (entry_keys gone) contents)))
      by (rest, parts, inr enough) =
          inl (rw (total-latest new (after_leaving eq (entry_keys gone) contents).entries)
          (grind (
            arith,
            enough,
            total-front eq laws gone rest contents parts,
            ap total_weight parts,
            sum_by-append (λ e. e.weight) gone rest,
          )))

  -- ---- candidates for main

  -- two tests in either order
  pub filter-swap : (p q : Entry K V → Bool) (es : List (Entry K V)) → filter p (filter q es) ≡ filter q (filter p es)
  filter-swap p q es = filter-both q p es ∙ ((λ i. filter (λ e. and-comm (q e) (p e) i) es) ∙ sym (filter-both p q es))
    where
      and-comm : (a b : Bool) → (a && b) ≡ (b && a)
      and-comm true true = refl
      and-comm true false = refl
      and-comm false true = refl
      and-comm false false = refl

  -- the window once a candidate was judged: some have left, and it is one of them
  window-candidacy : (e : Entry K V) (gone : Option (List (Entry K V))) (contents : Contents K V)
      → (stays : K → Bool) × (stays e.key ≡ false)
      × (window_of (after_candidacy eq e gone contents).entries ≡ filter (λ x. stays x.key) (window_of contents.entries))
  window-candidacy e None contents = (
    λ k. not (eq e.key k),
    ap not (laws.refl e.key),
    filter-swap (λ x. is_window x.part) (λ x. not (eq e.key x.key)) contents.entries,
  )
  window-candidacy e (Some gone) contents =
      let left = after_leaving eq (entry_keys gone) contents in (
        λ k. is_unlisted eq (entry_keys gone) k && not (eq e.key k),
        and-false (is_unlisted eq (entry_keys gone) e.key) (not (eq e.key e.key)) (ap not (laws.refl e.key)),
        window-latest (record e { part = Probation }) (entries_without eq e.key left.entries) refl
            ∙ (filter-swap (λ x. is_window x.part) (λ x. not (eq e.key x.key)) left.entries
            ∙ (ap (λ l. filter (λ x. not (eq e.key x.key)) (window_of l)) (leaving-filter eq (entry_keys gone) contents)
            ∙ (ap (filter (λ x. not (eq e.key x.key)))
            (filter-swap (λ x. is_window x.part) (λ x. is_unlisted eq (entry_keys gone) x.key) contents.entries)
            ∙ filter-both (λ x. is_unlisted eq (entry_keys gone) x.key) (λ x. not (eq e.key x.key)) (window_of contents.entries)))),
      )

  -- and once several were, one after another
  window-candidates : (limits : PartLimits) (sketch : Option Table) (es : List (Entry K V)) (contents : Contents K V)
      → (stays : K → Bool) × AllByRecursion (λ e. stays e.key ≡ false) es
      × (window_of (after_candidates eq limits sketch es contents).entries ≡ filter (λ x. stays x.key) (window_of contents.entries))
  window-candidates limits sketch [] contents = (λ k. true, tt, filter-all (window_of contents.entries))
  window-candidates limits sketch (e ∷ es) contents =
      let gone = victims_of (Some (main_limit limits)) sketch e (main_of contents.entries) in
      let (first, leaves, is) = window-candidacy e gone contents in
      let (later, all, rest) = window-candidates limits sketch es (after_candidacy eq e gone contents) in (
        λ k. first k && later k,
        (ap (λ b. b && later e.key) leaves, behind first later es all),
        rest
            ∙ (ap (filter (λ x. later x.key)) is
            ∙ filter-both (λ x. first x.key) (λ x. later x.key) (window_of contents.entries)),
      )
    where
      behind : (first later : K → Bool) (es : List (Entry K V)) → AllByRecursion (λ e. later e.key ≡ false) es
          → AllByRecursion (λ e. (first e.key && later e.key) ≡ false) es
      behind first later [] all = tt
      behind first later (e ∷ es) all = (and-false (first e.key) (later e.key) all.0, behind first later es all.1)

  -- what is left of main
  pub main-leaving : (gone : List (Entry K V)) (contents : Contents K V)
      → main_of (after_leaving eq (entry_keys gone) contents).entries
      ≡ filter (λ x. is_unlisted eq (entry_keys gone) x.key) (main_of contents.entries)
  main-leaving gone contents =
      ap main_of (leaving-filter eq (entry_keys gone) contents)
      ∙ filter-swap (λ x. not (is_window x.part)) (λ x. is_unlisted eq (entry_keys gone) x.key) contents.entries

  -- an entry that comes to main adds no more than its weight
  pub main-moved : (e : Entry K V) (contents : Contents K V)
      → total_weight (main_of (after_moving eq (record e { part = Probation }) contents).entries)
      ≤ total_weight (main_of contents.entries) + e.weight
  main-moved e contents =
      rw (total-main_latest (record e { part = Probation }) (entries_without eq e.key contents.entries) refl)
      (grind (
        arith,
        ap total_weight (filter-swap (λ x. not (is_window x.part)) (λ x. not (eq e.key x.key)) contents.entries),
        total-filter (λ x. not (eq e.key x.key)) (main_of contents.entries),
      ))

  -- main, once a candidate was judged, weighs no more than before, or no more than it may
  main-candidacy : (limit : ℕ) (sketch : Option Table) (e : Entry K V) (contents : Contents K V) (gone : Option (List (Entry K V)))
      → victims_of (Some limit) sketch e (main_of contents.entries) ≡ gone
      → (total_weight (main_of (after_candidacy eq e gone contents).entries) ≤ total_weight (main_of contents.entries))
      ⊎ (total_weight (main_of (after_candidacy eq e gone contents).entries) ≤ limit)
  main-candidacy limit sketch e contents None is =
      inl (rw (filter-swap (λ x. not (is_window x.part)) (λ x. not (eq e.key x.key)) contents.entries)
      (total-filter (λ x. not (eq e.key x.key)) (main_of contents.entries)))
  main-candidacy limit sketch e contents (Some gone) is =
      by (victims_weigh limit sketch e (main_of contents.entries) gone is)
    where
      by : (rest : List (Entry K V)) × (main_of contents.entries ≡ gone ++ rest)
          × ((total_weight (main_of contents.entries) + e.weight ≤ limit) ⊎ (e.weight ≤ total_weight gone))
          → (total_weight (main_of (after_candidacy eq e (Some gone) contents).entries) ≤ total_weight (main_of contents.entries))
          ⊎ (total_weight (main_of (after_candidacy eq e (Some gone) contents).entries) ≤ limit)
      by (rest, parts, inl room) =
          inr (grind (
            arith,
            room,
            main-moved e (after_leaving eq (entry_keys gone) contents),
            ap total_weight (main-leaving gone contents),
            total-filter (λ x. is_unlisted eq (entry_keys gone) x.key) (main_of contents.entries),
          ))
      by (rest, parts, inr enough) =
          inl (grind (
            arith,
            enough,
            main-moved e (after_leaving eq (entry_keys gone) contents),
            ap total_weight (main-leaving gone contents ∙ ap (filter (λ x. is_unlisted eq (entry_keys gone) x.key)) parts),
            total-behind (λ x. is_unlisted eq (entry_keys gone) x.key) gone rest (all-listed eq laws gone),
            ap total_weight parts,
            sum_by-append (λ e. e.weight) gone rest,
          ))

  main-candidates : (limits : PartLimits) (sketch : Option Table) (es : List (Entry K V)) (contents : Contents K V)
      → (total_weight (main_of (after_candidates eq limits sketch es contents).entries) ≤ total_weight (main_of contents.entries))
      ⊎ (total_weight (main_of (after_candidates eq limits sketch es contents).entries) ≤ main_limit limits)
  main-candidates limits sketch [] contents = inl (grind (arith))
  main-candidates limits sketch (e ∷ es) contents =
      let gone = victims_of (Some (main_limit limits)) sketch e (main_of contents.entries) in
      let next = after_candidacy eq e gone contents in
      elim (main-candidates limits sketch es next) [
        | inl less ↦
            elim (main-candidacy (main_limit limits) sketch e contents gone refl) [
              | inl h ↦ inl (grind (arith, less, h))
              | inr h ↦ inr (grind (arith, less, h))
            ]
        | inr h ↦ inr h
      ]

  -- an entry that enters the window leaves no more weight, or no more than the limit
  bounded_entering : (keeps : Bool) (limits : PartLimits) (sketch : Option Table) (new : Entry K V) (contents : Contents K V)
      → IsBounded limits.all contents (after_entering eq keeps limits sketch new contents)
  bounded_entering keeps limits sketch new contents =
      let entry = record new { part = Window } in
      let entered = after_entry eq keeps entry contents in
      let window = window_of entered.entries in
      let enough = excess limits entered.entries in
      let after = after_candidates eq limits sketch (candidates limits entered.entries) entered in
      let (rest, parts, heavy) = least_parts enough window in
      let (stays, leave, left) = window-candidates limits sketch (candidates limits entered.entries) entered in
      let less : total_weight (window_of after.entries) ≤ total_weight rest =
      rw (left ∙ ap (filter (λ x. stays x.key)) parts) (total-behind (λ x. stays x.key) (candidates limits entered.entries) rest leave) in
      let main : total_weight (main_of entered.entries) ≤ total_weight contents.entries =
      grind (
        arith,
        ap total_weight (filter-append (λ e. not (is_window e.part)) contents.entries (entry ∷ [])),
        sum_by-append (λ e. e.weight) (main_of contents.entries) [],
        total-split contents.entries,
      ) in
      by (total_weight contents.entries) (total_weight (main_of entered.entries)) (total_weight window) (total_weight entered.entries)
      (total_weight (candidates limits entered.entries)) (total_weight rest)
      (total_weight (main_of after.entries)) (total_weight (window_of after.entries)) (total_weight after.entries)
      main (total-split entered.entries) (ap total_weight parts ∙ sum_by-append (λ e. e.weight) (candidates limits entered.entries) rest)
      less (total-split after.entries)
      (elim heavy [ inl h ↦ inl h | inr none ↦ inr (ap total_weight none) ])
      (main-candidates limits sketch (candidates limits entered.entries) entered)
    where
      by : (old main1 window1 all1 chosen rest main2 window2 all2 : ℕ)
          → main1 ≤ old → main1 + window1 ≡ all1 → window1 ≡ chosen + rest → window2 ≤ rest → main2 + window2 ≡ all2
          → (max (window1 - limits.window) (all1 - limits.all) ≤ chosen) ⊎ (rest ≡ 0)
          → (main2 ≤ main1) ⊎ (main2 ≤ main_limit limits)
          → (all2 ≤ old) ⊎ (all2 ≤ limits.all)
      by old main1 window1 all1 chosen rest main2 window2 all2 a b c d e (inl enough) (inl less) =
          inr (omega (arith, le-max_right (window1 - limits.window) (all1 - limits.all)))
      by old main1 window1 all1 chosen rest main2 window2 all2 a b c d e (inl enough) (inr less) =
          inr (omega (arith, le-max_left (window1 - limits.window) (all1 - limits.all), le-max_right (window1 - limits.window) (all1 - limits.all)))
      by old main1 window1 all1 chosen rest main2 window2 all2 a b c d e (inr none) (inl less) = inl (omega arith)
      by old main1 window1 all1 chosen rest main2 window2 all2 a b c d e (inr none) (inr less) = inr (omega arith)

  -- a use leaves no more weight
  total-search : (room : ℕ) (policy : Policy) (now : ℕ) (key : K) (contents : Contents K V)
      → total_weight (after_search eq room policy now key contents).entries ≤ total_weight contents.entries
  total-search room policy now key contents =
      by (unexpired_at eq policy now key contents) (found_there policy now (entry_at eq key contents.entries))
    where
      by : (o : Option (Entry K V)) → ((used : Entry K V) → o ≡ Some used → entry_at eq key contents.entries ≡ Some used)
          → total_weight (after_use eq room now o contents).entries ≤ total_weight contents.entries
      by None there = grind (arith)
      by (Some used) there =
          subst (λ n. n ≤ total_weight contents.entries) (sym (total-using eq room (record used { accessed = now }) contents))
          (total-found eq laws key used contents.entries (there used refl))

module _ {K V S W : Type 0} (keys : Keys K S) (laws : IsEquivalence keys.eq) (weighs : W → K → V → ℕ → W → Type 0) where
  -- the entries of a cache, and its limit
  abbrev HasLimit : ℕ → CacheState K V S W → Type 0
  HasLimit limit cache = cache.settings.policy.max_capacity ≡ Some limit

  -- an insert that finds no entry of its key leaves no more weight, or no more than the limit
  bounded_put : (cache : CacheState K V S W) (limit : ℕ) (new : Entry K V) (refused : Refused) → HasLimit limit cache
      → (o : Option (Entry K V)) → is_some o ≡ false
      → IsBounded keys.eq laws limit cache.contents (after_put keys.eq cache o new refused).contents
  bounded_put cache limit new refused has (Some old) none = absurd (false≢true (sym none))
  bounded_put cache limit new refused has None none =
      subst (λ l. IsBounded keys.eq laws limit cache.contents (after_new keys.eq cache (windowed_limits cache.shares l) new refused).contents)
      (sym has)
      (elim (cases_Bool (nat_lt 0 (hundredths cache.shares.window limit))) [
        | inl windowed ↦
            subst (λ l. IsBounded keys.eq laws limit cache.contents (after_new keys.eq cache l new refused).contents)
            (sym (cond-true (nat_lt 0 (hundredths cache.shares.window limit)) (Some (limits_of cache.shares limit)) None windowed))
            (standing (is_some (entry_at keys.eq new.key next.contents.entries))
            (turned keys.eq (IsBounded keys.eq laws limit cache.contents) cache cache.memory (limits_of cache.shares limit) new entered bounded
            (λ shared gained. bounded-less (after_sharing keys.eq shared gained entered) (total-sharing keys.eq shared gained entered) bounded)))
        | inr low ↦
            subst (λ l. IsBounded keys.eq laws limit cache.contents (after_new keys.eq cache l new refused).contents)
            (sym (cond-false (nat_lt 0 (hundredths cache.shares.window limit)) (Some (limits_of cache.shares limit)) None low))
            (subst (λ l. IsBounded keys.eq laws limit cache.contents
            (after_verdict keys.eq cache new (victims_of l cache.sketch new cache.contents.entries) refused).contents) (sym has)
            (by (victims_of (Some limit) cache.sketch new cache.contents.entries)
            (bounded_admission keys.eq laws (keeps_writes cache.settings.policy) limit cache.sketch new cache.contents
            (victims_of (Some limit) cache.sketch new cache.contents.entries) refl)))
      ])
    where
      entered : Contents K V
      entered = after_entering keys.eq (keeps_writes cache.settings.policy) (limits_of cache.shares limit) cache.sketch new cache.contents

      next : CacheState K V S W
      next = after_turn keys.eq cache cache.memory (limits_of cache.shares limit) new entered

      bounded : IsBounded keys.eq laws limit cache.contents entered
      bounded =
          bounded_entering keys.eq laws (keeps_writes cache.settings.policy) (limits_of cache.shares limit) cache.sketch new cache.contents

      bounded-less : (contents : Contents K V) → total_weight contents.entries ≤ total_weight entered.entries
          → IsBounded keys.eq laws limit cache.contents entered → IsBounded keys.eq laws limit cache.contents contents
      bounded-less contents less (inl h) = inl (grind (arith, less, h))
      bounded-less contents less (inr h) = inr (grind (arith, less, h))

      standing : (b : Bool) → IsBounded keys.eq laws limit cache.contents next.contents
          → IsBounded keys.eq laws limit cache.contents (cond b (after_asking keys.eq refused next) next).contents
      standing true bounded = bounded
      standing false bounded = bounded

      by : (o : Option (List (Entry K V)))
          → IsBounded keys.eq laws limit cache.contents (after_admission keys.eq (keeps_writes cache.settings.policy) new o cache.contents)
          → IsBounded keys.eq laws limit cache.contents (after_verdict keys.eq cache new o refused).contents
      by None bounded = bounded
      by (Some gone) bounded = bounded

  -- less weight before is less weight after
  bounded_from : (limit : ℕ) (old kept new : Contents K V) → total_weight kept.entries ≤ total_weight old.entries
      → IsBounded keys.eq laws limit kept new → IsBounded keys.eq laws limit old new
  bounded_from limit old kept new less (inl h) = inl (grind (arith, less, h))
  bounded_from limit old kept new less (inr h) = inr h

  bounded_insert : (old new : CacheState K V S W) (limit : ℕ) (key : K) (value : V) (own : Option ℕ) (now : ℕ) → HasLimit limit old
      → Puts keys weighs old key value own now new
      → IsBounded keys.eq laws limit old.contents new.contents ⊎ IsUpdate keys weighs old (Insert key value own now)
  bounded_insert old new limit key value own now has done =
      let kept = after_cleanup keys.eq old.settings.policy now old.contents in
      let found = record old { weigher = done.weigher; capacity = done.capacity; contents = kept } in
      let entry = new_entry keys old.settings key value done.weight own now in
      elim (cases_Bool (is_some (entry_at keys.eq key kept.entries))) [
        | inl there ↦ inr (key, value, own, now, refl, there)
        | inr absent ↦
            inl (subst (λ c. IsBounded keys.eq laws limit old.contents c.contents) (sym done.step)
            (bounded_from limit old.contents kept (after_put keys.eq found (entry_at keys.eq key kept.entries) entry done.refused).contents
            (total-cleanup keys.eq old.settings.policy now old.contents)
            (bounded_put found limit entry done.refused has (entry_at keys.eq key kept.entries) absent)))
      ]

  less : (limit : ℕ) (old new meant : CacheState K V S W) (request : Request K V) → new ≡ meant
      → total_weight meant.contents.entries ≤ total_weight old.contents.entries
      → IsBounded keys.eq laws limit old.contents new.contents ⊎ IsUpdate keys weighs old request
  less limit old new meant request is h =
      inl (inl (subst (λ c. total_weight c.contents.entries ≤ total_weight old.contents.entries) (sym is) h))

  -- a call leaves no more weight, or no more than the limit, or is an insert at a key that is there
  bounded_step : (old new : CacheState K V S W) (limit : ℕ) (request : Request K V) (answer : Answer K V) → HasLimit limit old
      → IsStep keys weighs old request answer new
      → IsBounded keys.eq laws limit old.contents new.contents ⊎ IsUpdate keys weighs old request
  bounded_step old new limit (Get key now) answer has step =
      let policy = old.settings.policy in
      less limit old new _ (Get key now) step.1
      (grind (
        arith,
        total-search keys.eq laws (room_of old) policy now key (after_cleanup keys.eq policy now old.contents),
        total-cleanup keys.eq policy
            now old.contents,
      ))
  bounded_step old new limit (Peek key now) answer has step = less limit old new old (Peek key now) step.1 (grind (arith))
  bounded_step old new limit (ContainsKey key now) answer has step =
      less limit old new _ (ContainsKey key now) step.1 (total-cleanup keys.eq old.settings.policy now old.contents)
  bounded_step old new limit (Miss hash now) answer has step =
      less limit old new _ (Miss hash now) step.1 (total-cleanup keys.eq old.settings.policy now old.contents)
  bounded_step old new limit (Insert key value own now) answer has (inl done) = bounded_insert old new limit key value own now has done.1
  bounded_step old new limit (Insert key value own now) answer has (inr refused) =
      less limit old new (record old { capacity = new.capacity }) (Insert key value own now) refused.1.same (grind (arith))
  bounded_step old new limit (Invalidate key now) answer has step =
      let kept = after_cleanup keys.eq old.settings.policy now old.contents in
      less limit old new _ (Invalidate key now) step.1
      (grind (arith, total-filter (λ e. not (keys.eq key e.key)) kept.entries, total-cleanup keys.eq old.settings.policy now old.contents))
  bounded_step old new limit (Remove key now) answer has step =
      let kept = after_cleanup keys.eq old.settings.policy now old.contents in
      less limit old new _ (Remove key now) step.1
      (grind (arith, total-filter (λ e. not (keys.eq key e.key)) kept.entries, total-cleanup keys.eq old.settings.policy now old.contents))
  bounded_step old new limit InvalidateAll answer has step = less limit old new _ InvalidateAll step.1 (grind (arith))
  bounded_step old new limit (InvalidateEntriesIf answers) answer has step =
      less limit old new _ (InvalidateEntriesIf answers) step.1
      (total-leaving keys.eq (entry_keys (chosen answers old.contents.entries)) old.contents)
  bounded_step old new limit (Iterate now) answer has step = less limit old new old (Iterate now) step.1 (grind (arith))
  bounded_step old new limit EntryCount answer has step = less limit old new old EntryCount step.1 (grind (arith))
  bounded_step old new limit WeightedSize answer has step = less limit old new old WeightedSize step.1 (grind (arith))

  pub only_updates_outgrow : OnlyUpdatesOutgrowLimit keys weighs
  only_updates_outgrow old new request answer limit has step grows above = by (bounded_step old new limit request answer has step)
    where
      by : IsBounded keys.eq laws limit old.contents new.contents ⊎ IsUpdate keys weighs old request → IsUpdate keys weighs old request
      by (inl (inl h)) = absurd (grind (arith, h, grows))
      by (inl (inr h)) = absurd (grind (arith, h, above))
      by (inr update) = update

-- ---- each entry of weight 1

module _ {K V : Type 0} (eq : K → K → Bool) where
  -- each entry weighs 1
  abbrev pub AllOne : List (Entry K V) → Type 0
  AllOne es = All (λ e. e.weight ≡ 1) es

  pub ones_found : (key : K) (es : List (Entry K V)) (e : Entry K V) → AllOne es → entry_at eq key es ≡ Some e → e.weight ≡ 1
  ones_found key [] e ones h = absurd (false≢true (ap is_some h))
  ones_found key (f ∷ fs) e ones h =
      elim (cases_Bool (eq key f.key)) [
        | inl equal ↦
            let is : f ≡ e = ap (λ o. unwrap_or o f) (sym (cond-true (eq key f.key) (Some f) (entry_at eq key fs) equal) ∙ h) in
            subst (λ x. x.weight ≡ 1) is (All-head (λ e. e.weight ≡ 1) f fs ones)
        | inr differ ↦
            ones_found key fs e (All-tail (λ e. e.weight ≡ 1) f fs ones)
            (sym (cond-false (eq key f.key) (Some f) (entry_at eq key fs) differ) ∙ h)
      ]

  ones_using : (room : ℕ) (e : Entry K V) (contents : Contents K V) → AllOne contents.entries → e.weight ≡ 1
      → AllOne (after_using eq room e contents).entries
  ones_using room e contents ones one = All-using eq (λ e. e.weight ≡ 1) (λ x protected is. is) room e contents one ones

  ones_search : (room : ℕ) (policy : Policy) (now : ℕ) (key : K) (contents : Contents K V) → AllOne contents.entries
      → AllOne (after_search eq room policy now key contents).entries
  ones_search room policy now key contents ones =
      by (unexpired_at eq policy now key contents) (found_there policy now (entry_at eq key contents.entries))
    where
      by : (o : Option (Entry K V)) → ((used : Entry K V) → o ≡ Some used → entry_at eq key contents.entries ≡ Some used)
          → AllOne (after_use eq room now o contents).entries
      by None there = ones
      by (Some used) there =
          ones_using room (record used { accessed = now }) contents ones (ones_found key contents.entries used ones (there used refl))

module _ {K V S W : Type 0} (keys : Keys K S) (laws : IsEquivalence keys.eq) (weighs : W → K → V → ℕ → W → Type 0)
    (each : (old new : W) (key : K) (value : V) (weight : ℕ) → weighs old key value weight new → weight ≡ 1) where
  -- the cache has a limit, is within it, and each entry weighs 1
  pub record IsWithin (limit : ℕ) (cache : CacheState K V S W) : Type 0 where
    pub has : cache.settings.policy.max_capacity ≡ Some limit
    pub ones : AllOne keys.eq cache.contents.entries
    pub fits : total_weight cache.contents.entries ≤ limit

  within_put : (limit : ℕ) (cache : CacheState K V S W) (new : Entry K V) (refused : Refused) → IsWithin limit cache → new.weight ≡ 1
      → (o : Option (Entry K V)) → entry_at keys.eq new.key cache.contents.entries ≡ o
      → IsWithin limit (after_put keys.eq cache o new refused)
  within_put limit cache new refused within one (Some old) at =
      let update = record new { key = old.key; hash = old.hash; part = old.part } in
      record {
        has = within.has;
        ones = ones_using keys.eq (room_of cache) update cache.contents within.ones one;
        fits = subst (λ n. n ≤ limit) (sym (total-using keys.eq (room_of cache) update cache.contents))
            (grind (
              arith,
              total-found keys.eq laws new.key old cache.contents.entries at,
              ones_found keys.eq new.key cache.contents.entries
                  old within.ones at,
              one,
              within.fits,
            ));
      }
  within_put limit cache new refused within one None at =
      record {
        has = ap (λ t. t.0.policy.max_capacity) (terms-put keys.eq cache None new refused) ∙ within.has;
        ones =
            All-new keys.eq (λ e. e.weight ≡ 1) (λ e part free h. h) cache (windowed cache) new refused
            within.ones one;
        fits =
            elim (bounded_put keys laws weighs cache limit new refused within.has None refl) [
              | inl h ↦ grind (arith, h, within.fits)
              | inr h ↦ h
            ];
      }

  within_less : (limit : ℕ) (old new meant : CacheState K V S W) → IsWithin limit old → new ≡ meant → meant.settings ≡ old.settings
      → AllOne keys.eq meant.contents.entries
      → total_weight meant.contents.entries ≤ total_weight old.contents.entries → IsWithin limit new
  within_less limit old new meant within is settings ones less =
      subst (IsWithin limit) (sym is)
      (record { has = ap (λ s. s.policy.max_capacity) settings ∙ within.has; ones = ones; fits = grind (arith, less, within.fits) })

  pub within_step : (limit : ℕ) (old new : CacheState K V S W) (request : Request K V) (answer : Answer K V) → IsWithin limit old
      → IsStep keys weighs old request answer new → IsWithin limit new
  within_step limit old new (Get key now) answer within step =
      let policy = old.settings.policy in
      let kept = after_cleanup keys.eq policy now old.contents in
      within_less limit old new _ within step.1 refl
      (ones_search keys.eq (room_of old) policy now key kept (All-cleanup keys.eq (λ e. e.weight ≡ 1) policy now old.contents within.ones))
      (grind (arith, total-search keys.eq laws (room_of old) policy now key kept, total-cleanup keys.eq policy now old.contents))
  within_step limit old new (Peek key now) answer within step = subst (IsWithin limit) (sym step.1) within
  within_step limit old new (ContainsKey key now) answer within step =
      let policy = old.settings.policy in
      within_less limit old new _ within step.1 refl (All-cleanup keys.eq (λ e. e.weight ≡ 1) policy now old.contents within.ones)
      (total-cleanup keys.eq policy now old.contents)
  within_step limit old new (Miss hash now) answer within step =
      let policy = old.settings.policy in
      within_less limit old new _ within step.1 refl (All-cleanup keys.eq (λ e. e.weight ≡ 1) policy now old.contents within.ones)
      (total-cleanup keys.eq policy now old.contents)
  within_step limit old new (Insert key value own now) answer within (inl step) =
      let policy = old.settings.policy in
      let kept = after_cleanup keys.eq policy now old.contents in
      let done = step.1 in
      let found = record old { weigher = done.weigher; capacity = done.capacity; contents = kept } in
      subst (IsWithin limit) (sym done.step)
      (within_put limit found (new_entry keys old.settings key value done.weight own now) done.refused
      (record {
        has = within.has;
        ones = All-cleanup keys.eq (λ e. e.weight ≡ 1) policy now old.contents within.ones;
        fits = grind
            (arith, total-cleanup keys.eq policy now old.contents, within.fits);
      })
      (each old.weigher done.weigher key value done.weight done.weighed) (entry_at keys.eq key kept.entries) refl)
  within_step limit old new (Insert key value own now) answer within (inr refused) =
      subst (IsWithin limit) (sym refused.1.same) (record { has = within.has; ones = within.ones; fits = within.fits })
  within_step limit old new (Invalidate key now) answer within step =
      let policy = old.settings.policy in
      let kept = after_cleanup keys.eq policy now old.contents in
      within_less limit old new _ within step.1 refl
      (All-leaving keys.eq (λ e. e.weight ≡ 1) (key ∷ []) kept (All-cleanup keys.eq (λ e. e.weight ≡ 1) policy now old.contents within.ones))
      (grind (arith, total-filter (λ e. not (keys.eq key e.key)) kept.entries, total-cleanup keys.eq policy now old.contents))
  within_step limit old new (Remove key now) answer within step =
      let policy = old.settings.policy in
      let kept = after_cleanup keys.eq policy now old.contents in
      within_less limit old new _ within step.1 refl
      (All-leaving keys.eq (λ e. e.weight ≡ 1) (key ∷ []) kept (All-cleanup keys.eq (λ e. e.weight ≡ 1) policy now old.contents within.ones))
      (grind (arith, total-filter (λ e. not (keys.eq key e.key)) kept.entries, total-cleanup keys.eq policy now old.contents))
  within_step limit old new InvalidateAll answer within step =
      within_less limit old new _ within step.1 refl (All-from_recursion (λ e. e.weight ≡ 1) [] tt) (grind (arith))
  within_step limit old new (InvalidateEntriesIf answers) answer within step =
      let gone = entry_keys (chosen answers old.contents.entries) in
      within_less limit old new _ within step.1 refl (All-leaving keys.eq (λ e. e.weight ≡ 1) gone old.contents within.ones)
      (total-leaving keys.eq gone old.contents)
  within_step limit old new (Iterate now) answer within step = subst (IsWithin limit) (sym step.1) within
  within_step limit old new EntryCount answer within step = subst (IsWithin limit) (sym step.1) within
  within_step limit old new WeightedSize answer within step = subst (IsWithin limit) (sym step.1) within

  within_run : (limit : ℕ) (old new : CacheState K V S W) (requests : List (Request K V)) (answers : List (Answer K V)) → IsWithin limit old
      → Runs keys weighs old requests answers new → IsWithin limit new
  within_run limit old new [] answers within run = subst (IsWithin limit) (sym run.1) within
  within_run limit old new (request ∷ requests) answers within (answer, rest, next, is, step, run) =
      within_run limit next new requests rest (within_step limit old next request answer within step) run

-- each entry of weight 1 is counted by its weight
pub stays_within : {K V S W : Type 0} (keys : Keys K S) → IsEquivalence keys.eq → (weighs : W → K → V → ℕ → W → Type 0)
    → StaysWithinLimit keys weighs
stays_within keys laws weighs each settings shares weigher capacity limit requests answers cache has run =
    let within =
    within_run keys laws weighs each limit (new_cache settings shares weigher capacity) cache requests answers
    (record { has = has; ones = All-from_recursion (λ e. e.weight ≡ 1) [] tt; fits = grind (arith) }) run in
    subst (λ n. n ≤ limit) (total-ones cache.contents.entries (recursion_from_All (λ e. e.weight ≡ 1) cache.contents.entries within.ones))
    within.fits
