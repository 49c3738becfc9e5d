-- Lemmas on why an entry leaves with a call.
use Rattle.std.proofs.Common.{◌≡◌, ◌⊎◌, ◌<◌, ◌≤◌, ◌+◌, ◌-◌, ◌||◌, ℕ, zero, suc, Bool}
use Rattle.std.proofs.Common.{true, false, cond, not, List, [], ◌∷◌, ◌++◌, All, filter, map, sum_by}
use Rattle.std.proofs.Common.{take, take_while, nat_le, nat_lt, Option, Some, None, option_map, refl, sym, ap, ◌∙◌, subst, inl, inr, arith}
use Rattle.std.proofs.lemmas.Bool.{cases_Bool, cases_lt, cond-true, cond-false, false≢true, leb-false, ltb-true, or_left, or_right}
use Rattle.std.proofs.lemmas.List.Sums.{sum_by-append, sum_by-cons}
use Rattle.std.proofs.Math.Seq.{take-nil}
use Rattle.std.specs.Cmp.{IsEquivalence}
use Rattle.std.specs.List.{AllByRecursion, list_any}
use Rattle.std.proofs.lemmas.List.Elements.{filter-append, recursion_from_All}
use Rattle.moka_common.specs.Admission.{outvoted}
use Rattle.moka_common.specs.Keys.{Keys}
use Rattle.moka_common.specs.Moment.{is_past}
use Rattle.moka_common.specs.Policy.{Policy}
use Rattle.moka_common.specs.Prefix.{shortest_prefix}
use Rattle.moka_common.specs.Sketch.{Table, estimate}
use Rattle.moka_unsync_model.specs.Deadline.{expiry_of}
use Rattle.moka_unsync_model.specs.declared.entry.Entry.{Entry}
use Rattle.moka_unsync_model.specs.declared.constants.TheConstants.{EVICTION_BATCH_SIZE}
use Rattle.moka_unsync_model.specs.Contents.{Contents, Write, after_leaving, entry_at, entries_without, entry_keys, main_of, total_weight, window_of}
use Rattle.moka_unsync_model.specs.Contents.{without, is_probation, is_protected, is_window, probation_of, protected_of}
use Rattle.moka_unsync_model.specs.CacheState.{CacheState, room_of, windowed}
use Rattle.moka_common.specs.Settings.{keeps_writes, live_nanos}
use Rattle.moka_unsync_model.specs.Cleanup.{after_expiry, after_idle, after_live_expiry, after_trim, after_cleanup, is_past_ttl, is_idle, least_recent}
use Rattle.moka_unsync_model.specs.Lookup.{after_use, after_look, unexpired_at, after_using}
use Rattle.moka_unsync_model.specs.Cleanup.{is_expired}
use Rattle.moka_unsync_model.specs.Insert.{Refused, after_entering, after_entry, after_new, after_put, after_turn, after_verdict, new_entry}
use Rattle.moka_unsync_model.specs.Window.{after_candidacy, after_candidates, candidates, excess, victims_of}
use Rattle.moka_unsync_model.specs.Invalidate.{chosen}
use Rattle.moka_unsync_model.specs.Step.{Answer, IsStep, Request, Get, Peek, ContainsKey, Miss, Insert, Invalidate, Remove}
use Rattle.moka_unsync_model.specs.Step.{InvalidateAll, InvalidateEntriesIf, Iterate, EntryCount, WeightedSize}
use Rattle.moka_unsync_model.specs.Removal.{RemovalCause, Invalidated, Expired, AboveLimit, Displaced, GivenUp, Rejected, entries_from, cleanup_moment}
use Rattle.moka_unsync_model.proofs.HistoryLemmas.{IsSame, any-key, entry_at-leaving, found-entering, found-turned, one_of, same-both, same-moved, same-self}
use Rattle.moka_unsync_model.proofs.HistoryLemmas.{something}
use Rattle.moka_unsync_model.proofs.ContentsLemmas.{found_key, idle_keys}
use Rattle.moka_unsync_model.proofs.WindowLemmas.{total-split}
use Rattle.moka_unsync_model.proofs.CandidateLemmas.{All-front, least_parts, prefix_parts, victims_weigh}
use Rattle.moka_unsync_model.proofs.KeyLemmas.{StandOnce, contents-standing, once-candidacy, once-candidates, once-entering, once-push, once-remains}
use Rattle.moka_unsync_model.proofs.LimitLemmas.{filter-swap, is_unlisted, main-leaving, main-moved, total-cons, total-filter, total-cleanup}
use Rattle.moka_unsync_model.proofs.RemainLemmas.{remains-leaving, remains-cleanup}
use Rattle.moka_unsync_model.proofs.StandLemmas.{AreCandidates, StandsIn, are-chosen, are-left, main-stands, once-front, Stands, part-stands}
use Rattle.moka_unsync_model.proofs.MapLemmas.{entry_at-equal, entry_at-moved, entry_at-other, entry_at-push, entry_at-latest, entry_at-using, given-standing}
use Rattle.moka_unsync_model.proofs.MapLemmas.{given_of}
use Rattle.moka_unsync_model.proofs.TiedLemmas.{all-taken, all-take, one-passes, prefix-cons, IsTied, AllTied, absent-left}
use Rattle.moka_unsync_model.specs.declared.shares.PartLimits.{PartLimits}
use Rattle.moka_unsync_model.specs.Shares.{hundredths, limits_of, main_limit, windowed_limits}
use Rattle.moka_unsync_model.proofs.TurnLemmas.{IsGrown, total-entering, turn-gave-up}
use Rattle.moka_unsync_model.specs.declared.entry.Part.TheVariants.{Probation, Window}
use Rattle.moka_unsync_model.specs.declared.shares.Shares.{Shares}
use Rattle.moka_unsync_model.proofs.PartLemmas.{placed-none}

-- ---- why cleanup removes an entry

module _ {K V : Type 0} (eq : K → K → Bool) (laws : IsEquivalence eq) where
  -- where one of these entries, which stand at their keys, leaves as idle, the entry at its key was idle too long
  front-passes : (test part : Entry K V → Bool) (most : ℕ) (contents : Contents K V) (entries : List (Entry K V)) (key : K)
      (e : Entry K V) → All (λ f. Stands eq laws contents.entries f × (part f ≡ true)) entries
      → list_any (λ (f : Entry K V). eq f.key key) (take most (take_while test entries)) ≡ true
      → entry_at eq key contents.entries ≡ Some e → test e ≡ true
  front-passes test part most contents entries key e stand any found =
      let S : Entry K V → Type 0 = λ f. Stands eq laws contents.entries f × (part f ≡ true) in
      let P : Entry K V → Type 0 = λ f. S f × (test f ≡ true) in
      let (f, (stands, passes), equal) =
      one-passes P (λ f. eq f.key key) (take most (take_while test entries))
      (all-take P most (take_while test entries) (all-taken S test entries (recursion_from_All S entries stand))) any in
      subst (λ x. test x ≡ true) (one_of stands.0 (entry_at-equal laws f.key key equal contents.entries ∙ found)) passes

  -- where the entry at a key leaves with others, it is among them
  among : {X : Type 0} (key_of : X → K) (gone : List X) (contents : Contents K V) (key : K)
      → (list_any (λ x. eq (key_of x) key) gone ≡ true)
      ⊎ (entry_at eq key (after_leaving eq (map key_of gone) contents).entries ≡ entry_at eq key contents.entries)
  among key_of gone contents key =
      elim (cases_Bool (list_any (λ x. eq (key_of x) key) gone)) [
        | inl any ↦ inl any
        | inr none ↦
            inr (entry_at-leaving laws key_of gone contents key ∙ cond-false (list_any (λ x. eq (key_of x) key) gone) None
            (entry_at eq key contents.entries) none)
      ]

  -- an entry whose write leaves has lived too long
  lived-too-long : (policy : Policy) (now most : ℕ) (contents : Contents K V) (key : K) (e : Entry K V) → AllTied eq contents
      → entry_at eq key contents.entries ≡ Some e
      → list_any (λ w. eq w.key key) (take most (take_while (is_past_ttl policy now) contents.written)) ≡ true
      → is_past (live_nanos policy) (expiry_of e) now ≡ true
  lived-too-long policy now most contents key e tied found any =
      let P : Write K → Type 0 = λ w. IsTied eq contents.entries w × (is_past_ttl policy now w ≡ true) in
      let (w, (is_tied, lived), equal) =
      one-passes P (λ w. eq w.key key) (take most (take_while (is_past_ttl policy now) contents.written))
      (all-take P most (take_while (is_past_ttl policy now) contents.written)
      (all-taken (IsTied eq contents.entries) (is_past_ttl policy now) contents.written tied)) any in
      let same : expiry_of e ≡ w.deadline =
      one_of refl (sym (ap (option_map (λ e. expiry_of e)) (entry_at-equal laws w.key key equal contents.entries ∙ found)) ∙ is_tied) in
      subst (λ m. is_past (live_nanos policy) m now ≡ true) (sym same) lived

  -- ---- an entry and those used since

  -- they weigh no more than all
  total-from : (key : K) (es : List (Entry K V)) → total_weight (entries_from eq key es) ≤ total_weight es
  total-from key [] = grind (arith)
  total-from key (x ∷ xs) =
      elim (cases_Bool (eq key x.key)) [
        | inl equal ↦ rw (cond-true (eq key x.key) (x ∷ xs) (entries_from eq key xs) equal) (grind (arith))
        | inr differ ↦
            rw (cond-false (eq key x.key) (x ∷ xs) (entries_from eq key xs) differ) (grind (arith, total-cons x xs, total-from key xs))
      ]

  -- no more once another has left
  from-without : (gone key : K) (es : List (Entry K V))
      → total_weight (entries_from eq key (entries_without eq gone es)) ≤ total_weight (entries_from eq key es)
  from-without gone key [] = grind (arith)
  from-without gone key (x ∷ xs) =
      let less = entries_without eq gone xs in
      let fewer : total_weight less ≤ total_weight xs = total-filter (λ e. not (eq gone e.key)) xs in
      elim (cases_Bool (not (eq gone x.key))) [
        | inl stays ↦
            rw (cond-true (not (eq gone x.key)) (x ∷ less) less stays)
            (elim (cases_Bool (eq key x.key)) [
              | inl equal ↦
                  rw (cond-true (eq key x.key) (x ∷ less) (entries_from eq key less) equal)
                  (rw (cond-true (eq key x.key) (x ∷ xs) (entries_from eq key xs) equal)
                  (grind (arith, total-cons x xs, total-cons x less, fewer)))
              | inr differ ↦
                  rw (cond-false (eq key x.key) (x ∷ less) (entries_from eq key less) differ)
                  (rw (cond-false (eq key x.key) (x ∷ xs) (entries_from eq key xs) differ) (from-without gone key xs))
            ])
        | inr leaves ↦
            rw (cond-false (not (eq gone x.key)) (x ∷ less) less leaves)
            (elim (cases_Bool (eq key x.key)) [
              | inl equal ↦
                  rw (cond-true (eq key x.key) (x ∷ xs) (entries_from eq key xs) equal)
                  (grind (arith, total-cons x xs, total-from key less, fewer))
              | inr differ ↦ rw (cond-false (eq key x.key) (x ∷ xs) (entries_from eq key xs) differ) (from-without gone key xs)
            ])
      ]

  from-leaving : (gone : List K) (contents : Contents K V) (key : K)
      → total_weight (entries_from eq key (after_leaving eq gone contents).entries) ≤ total_weight (entries_from eq key contents.entries)
  from-leaving [] contents key = grind (arith)
  from-leaving (g ∷ gone) contents key = grind (arith, from-leaving gone (without eq contents g) key, from-without g key contents.entries)

  -- equal keys have the same
  from-equal : (key other : K) → eq key other ≡ true → (es : List (Entry K V)) → entries_from eq key es ≡ entries_from eq other es
  from-equal key other equal [] = refl
  from-equal key other equal (x ∷ xs) = λ i. cond (laws.congr key other x.key equal i) (x ∷ xs) (from-equal key other equal xs i)

  -- those behind the least recent that weigh so much, with one of them, weigh more than the rest
  recent-front : (most enough : ℕ) (key : K) (es : List (Entry K V)) → enough ≤ total_weight es
      → list_any (λ (f : Entry K V). eq f.key key) (take most (least_recent enough es)) ≡ true
      → total_weight es < total_weight (entries_from eq key es) + enough
  recent-front most zero key es some any = absurd (false≢true (sym (ap (list_any (λ (f : Entry K V). eq f.key key)) (take-nil most)) ∙ any))
  recent-front most (suc enough) key [] some any =
      absurd (false≢true (sym (ap (list_any (λ (f : Entry K V). eq f.key key)) (take-nil most)) ∙ any))
  recent-front most (suc enough) key (x ∷ xs) some any =
      by (λ m some any. recent-front m (suc enough - x.weight) key xs some any) most
      (sym (ap (λ l. list_any (λ (f : Entry K V). eq f.key key) (take most l))
      (prefix-cons x xs (shortest_prefix (λ e. e.weight) (suc enough - x.weight) xs))) ∙ any)
    where
      by : ((m : ℕ) → suc enough - x.weight ≤ total_weight xs → list_any (λ (f : Entry K V). eq f.key key)
          (take m (least_recent (suc enough - x.weight) xs)) ≡ true
          → total_weight xs < total_weight (entries_from eq key xs) + (suc enough - x.weight)) → (m : ℕ)
          → list_any (λ (f : Entry K V). eq f.key key) (take m (x ∷ least_recent (suc enough - x.weight) xs)) ≡ true
          → total_weight (x ∷ xs) < total_weight (entries_from eq key (x ∷ xs)) + suc enough
      by rest zero any = absurd (false≢true any)
      by rest (suc m) any =
          elim (cases_Bool (eq key x.key)) [
            | inl equal ↦ rw (cond-true (eq key x.key) (x ∷ xs) (entries_from eq key xs) equal) (grind (arith))
            | inr differ ↦
                let behind =
                rest m (grind (arith, some, total-cons x xs))
                (sym (ap (λ b. b || list_any (λ (f : Entry K V). eq f.key key) (take m (least_recent (suc enough - x.weight) xs)))
                (laws.symm x.key key ∙ differ)) ∙ any) in
                rw (cond-false (eq key x.key) (x ∷ xs) (entries_from eq key xs) differ)
                (grind (arith, behind, total-cons x xs, total-from key xs))
          ]

  -- what no trim is needed for stays
  trim-cause : (limit : Option ℕ) (contents : Contents K V) (key : K) (e : Entry K V) → entry_at eq key contents.entries ≡ Some e
      → (entry_at eq key (after_trim eq limit contents).entries ≡ Some e)
      ⊎ ((l : ℕ) × (limit ≡ Some l) × (l < total_weight (entries_from eq key contents.entries)))
  trim-cause None contents key e found = inl found
  trim-cause (Some limit) contents key e found =
      elim (cases_lt limit (total_weight contents.entries)) [
        | inl above ↦
            let enough = total_weight contents.entries - limit in
            elim (among (λ (x : Entry K V). x.key) (take EVICTION_BATCH_SIZE (least_recent enough contents.entries)) contents key) [
              | inl any ↦
                  let more =
                  recent-front EVICTION_BATCH_SIZE enough key contents.entries (grind (arith)) any in inr
                  (limit, refl, grind (arith, above, more))
              | inr stays ↦ inl (stays ∙ found)
            ]
        | inr within ↦
            let none : total_weight contents.entries - limit ≡ 0 = grind (arith, within) in
            inl (ap (λ n. entry_at eq key
            (after_leaving eq (entry_keys (take EVICTION_BATCH_SIZE (least_recent n contents.entries))) contents).entries) none ∙ found)
      ]

  -- cleanup removes an entry since it is expired, or since the entries weigh more than the limit
  cleanup-cause : (policy : Policy) (now : ℕ) (contents : Contents K V) (key : K) (e : Entry K V) → AllTied eq contents
      → StandOnce eq contents.entries → entry_at eq key contents.entries ≡ Some e
      → (entry_at eq key (after_cleanup eq policy now contents).entries ≡ Some e)
      ⊎ ((is_expired policy now e ≡ true) ⊎
      ((l : ℕ) × (policy.max_capacity ≡ Some l) × (l < total_weight (entries_from eq key contents.entries))))
  cleanup-cause policy now contents key e tied once found =
      let most = EVICTION_BATCH_SIZE in
      let lived_keys = map (λ w. w.key) (take most (take_while (is_past_ttl policy now) contents.written)) in
      let lived = after_live_expiry eq policy now most contents in
      let apart = once-remains eq contents lived (remains-leaving eq lived_keys contents) once in
      let waited = after_idle eq policy now most (window_of lived.entries) lived in
      let tried = after_idle eq policy now most (probation_of lived.entries) waited in
      let expired = after_expiry eq policy now contents in
      elim (among (λ w. w.key) (take most (take_while (is_past_ttl policy now) contents.written)) contents key) [
        | inl any ↦
            inr (inl (or_left (is_past (live_nanos policy) (expiry_of e) now) (is_idle policy now e)
            (lived-too-long policy now most contents key e tied found any)))
        | inr stays ↦
            elim (among (λ e. e.key) (take most (take_while (is_idle policy now) (window_of lived.entries))) lived key) [
              | inl any ↦
                  inr (inl (or_right (is_past (live_nanos policy) (expiry_of e) now) (is_idle policy now e)
                  (front-passes (is_idle policy now) (λ e. is_window e.part) most lived (window_of lived.entries) key e
                  (part-stands eq laws (λ e. is_window e.part) lived.entries apart) any (stays ∙ found))))
              | inr waits ↦
                  elim (among (λ e. e.key) (take most (take_while (is_idle policy now) (probation_of lived.entries))) waited key) [
                    | inl any ↦
                        inr (inl (or_right (is_past (live_nanos policy) (expiry_of e) now) (is_idle policy now e)
                        (front-passes (is_idle policy now) (λ e. is_probation e.part) most lived (probation_of lived.entries) key e
                        (part-stands eq laws (λ e. is_probation e.part) lived.entries apart) any (stays ∙ found))))
                    | inr tries ↦
                        elim (among (λ e. e.key) (take most (take_while (is_idle policy now) (protected_of lived.entries))) tried key) [
                          | inl any ↦
                              inr (inl (or_right (is_past (live_nanos policy) (expiry_of e) now) (is_idle policy now e)
                              (front-passes (is_idle policy now) (λ e. is_protected e.part) most lived (protected_of lived.entries) key e
                              (part-stands eq laws (λ e. is_protected e.part) lived.entries apart) any (stays ∙ found))))
                          | inr used ↦
                              elim (trim-cause policy.max_capacity expired key e (used ∙ (tries ∙ (waits ∙ (stays ∙ found))))) [
                                | inl stands ↦ inl stands
                                | inr (l, is, above) ↦
                                    let less : total_weight (entries_from eq key expired.entries) ≤ total_weight
                                    (entries_from eq key contents.entries) =
                                    grind (
                                      arith,
                                      from-leaving lived_keys contents key,
                                      from-leaving (idle_keys policy now (window_of lived.entries)) lived key,
                                      from-leaving (idle_keys policy now (probation_of lived.entries)) waited key,
                                      from-leaving (idle_keys policy now (protected_of lived.entries)) tried key,
                                    ) in
                                    inr (inr (l, is, grind (arith, above, less)))
                              ]
                        ]
                  ]
            ]
      ]

  -- ---- why a new entry displaces another, or is rejected

  -- one of a front has no more votes than all of it
  voted : (votes : Entry K V → ℕ) (front rest : List (Entry K V)) (key : K) (e : Entry K V)
      → list_any (λ (f : Entry K V). eq f.key key) front ≡ true → entry_at eq key (front ++ rest) ≡ Some e
      → votes e ≤ sum_by votes front
  voted votes [] rest key e any found = absurd (false≢true any)
  voted votes (x ∷ front) rest key e any found =
      elim (cases_Bool (eq key x.key)) [
        | inl equal ↦
            let is : x ≡ e = one_of (cond-true (eq key x.key) (Some x) (entry_at eq key (front ++ rest)) equal) found in
            grind (arith, ap votes is, sum_by-cons votes x front)
        | inr differ ↦
            let less =
            voted votes front rest key e
            (sym (ap (λ b. b || list_any (λ (f : Entry K V). eq f.key key) front) (laws.symm x.key key ∙ differ)) ∙ any)
            (sym (cond-false (eq key x.key) (Some x) (entry_at eq key (front ++ rest)) differ) ∙ found) in
            grind (arith, less, sum_by-cons votes x front)
      ]

  -- a new entry is used more than one that gives way to it, and there is no room for all
  displaced : (limit : Option ℕ) (sketch : Option Table) (new : Entry K V) (entries : List (Entry K V)) (gone : List (Entry K V))
      → victims_of limit sketch new entries ≡ Some gone
      → (key : K) (e : Entry K V) → list_any (λ (f : Entry K V). eq f.key key) gone ≡ true → entry_at eq key entries ≡ Some e
      → (l : ℕ) × (limit ≡ Some l) × (l < total_weight entries + new.weight) × (estimate sketch e.hash < estimate sketch new.hash)
  displaced None sketch new entries gone is key e any found =
      absurd (false≢true (ap (list_any (λ (f : Entry K V). eq f.key key)) (one_of refl is) ∙ any))
  displaced (Some limit) sketch new entries gone is key e any found =
      by (nat_le (total_weight entries + new.weight) limit) (nat_le new.weight limit)
      (leb-false (total_weight entries + new.weight) limit) is
    where
      walked : (o : Option (List (Entry K V))) → shortest_prefix (λ e. e.weight) new.weight entries ≡ o
          → outvoted (λ e. e.weight) (λ e. estimate sketch e.hash) (estimate sketch new.hash) o ≡ Some gone
          → estimate sketch e.hash < estimate sketch new.hash
      walked None same is = something {o = None} refl is
      walked (Some p) same is =
          elim (cases_Bool (nat_lt (sum_by (λ e. estimate sketch e.hash) p) (estimate sketch new.hash))) [
            | inl above ↦
                let those : p ≡ gone =
                one_of (cond-true (nat_lt (sum_by (λ e. estimate sketch e.hash) p) (estimate sketch new.hash)) (Some p) None above) is in
                let (rest, parts, enough) = prefix_parts (λ e. e.weight) new.weight entries p same in
                let less =
                voted (λ e. estimate sketch e.hash) p rest key e (ap (list_any (λ (f : Entry K V). eq f.key key)) those ∙ any)
                (sym (ap (entry_at eq key) parts) ∙ found) in
                grind (arith, less, ltb-true (sum_by (λ e. estimate sketch e.hash) p) (estimate sketch new.hash) above)
            | inr below ↦
                something (cond-false (nat_lt (sum_by (λ e. estimate sketch e.hash) p) (estimate sketch new.hash)) (Some p) None below) is
          ]

      by : (fits allowed : Bool) → (fits ≡ false → limit < total_weight entries + new.weight)
          → cond fits (Some [])
          (cond allowed (outvoted (λ e. e.weight) (λ e. estimate sketch e.hash) (estimate sketch new.hash)
          (shortest_prefix (λ e. e.weight) new.weight entries)) None) ≡ Some gone
          → (l : ℕ) × (Some limit ≡ Some l) × (l < total_weight entries + new.weight)
          × (estimate sketch e.hash < estimate sketch new.hash)
      by true allowed full is = absurd (false≢true (ap (list_any (λ (f : Entry K V). eq f.key key)) (one_of refl is) ∙ any))
      by false false full is = something {o = None} refl is
      by false true full is = (limit, refl, full refl, walked (shortest_prefix (λ e. e.weight) new.weight entries) refl is)

  -- where a new entry is rejected, there is no room for all
  pub no-room : (limit : Option ℕ) (sketch : Option Table) (new : Entry K V) (entries : List (Entry K V))
      → victims_of limit sketch new entries ≡ None
      → (l : ℕ) × (limit ≡ Some l) × (l < total_weight entries + new.weight)
  no-room None sketch new entries is = something is refl
  no-room (Some limit) sketch new entries is =
      by (nat_le (total_weight entries + new.weight) limit) (leb-false (total_weight entries + new.weight) limit)
      (outvoted (λ e. e.weight) (λ e. estimate sketch e.hash) (estimate sketch new.hash)
      (shortest_prefix (λ e. e.weight) new.weight entries)) is
    where
      by : (fits : Bool) → (fits ≡ false → limit < total_weight entries + new.weight) → (o : Option (List (Entry K V)))
          → cond fits (Some []) (cond (nat_le new.weight limit) o None) ≡ None
          → (l : ℕ) × (Some limit ≡ Some l) × (l < total_weight entries + new.weight)
      by true full o is = something is refl
      by false full o is = (limit, refl, full refl)

  -- ---- candidates for main, one after another

  -- what is found passes a test among those that pass it
  found-passing : (test : Entry K V → Bool) (key : K) (es : List (Entry K V)) (e : Entry K V) → entry_at eq key es ≡ Some e
      → test e ≡ true → entry_at eq key (filter test es) ≡ Some e
  found-passing test key [] e found passes = found
  found-passing test key (x ∷ xs) e found passes =
      elim (cases_Bool (eq key x.key)) [
        | inl equal ↦
            let is : x ≡ e = one_of (cond-true (eq key x.key) (Some x) (entry_at eq key xs) equal) found in
            ap (entry_at eq key) (cond-true (test x) (x ∷ filter test xs) (filter test xs) (ap test is ∙ passes))
            ∙ (cond-true (eq key x.key) (Some x) (entry_at eq key (filter test xs)) equal ∙ ap Some is)
        | inr differ ↦
            let rest = found-passing test key xs e (sym (cond-false (eq key x.key) (Some x) (entry_at eq key xs) differ) ∙ found) passes in
            elim (cases_Bool (test x)) [
              | inl stays ↦
                  ap (entry_at eq key) (cond-true (test x) (x ∷ filter test xs) (filter test xs) stays)
                  ∙ (cond-false (eq key x.key) (Some x) (entry_at eq key (filter test xs)) differ ∙ rest)
              | inr leaves ↦ ap (entry_at eq key) (cond-false (test x) (x ∷ filter test xs) (filter test xs) leaves) ∙ rest
            ]
      ]

  -- what becomes of an entry when a candidate is judged: it stands, or it is the candidate and main has no room, or it gives way to it
  pub data Judged (limit : ℕ) (sketch : Option Table) (c : Entry K V) (contents after : Contents K V) (key : K) (e : Entry K V) : Type 0 where
    Stays : (new : Entry K V) → entry_at eq key after.entries ≡ Some new → IsSame eq laws e new → Judged limit sketch c contents after key e
    IsRejected : eq c.key key ≡ true → is_window e.part ≡ true → limit < total_weight (main_of contents.entries) + c.weight
        → Judged limit sketch c contents after key e
    GivesWay : estimate sketch e.hash < estimate sketch c.hash → limit < total_weight (main_of contents.entries) + c.weight
        → entry_at eq c.key after.entries ≡ Some (record c { part = Probation }) → Judged limit sketch c contents after key e

  judged : (limit : ℕ) (sketch : Option Table) (c : Entry K V) (contents : Contents K V) → StandOnce eq contents.entries
      → StandsIn eq laws contents.entries true c
      → (gone : Option (List (Entry K V))) → victims_of (Some limit) sketch c (main_of contents.entries) ≡ gone
      → (key : K) (e : Entry K V) → entry_at eq key contents.entries ≡ Some e
      → Judged limit sketch c contents (after_candidacy eq c gone contents) key e
  judged limit sketch c contents once stands None is key e found =
      elim (cases_Bool (eq c.key key)) [
        | inl equal ↦
            let same : c ≡ e = one_of (sym (entry_at-equal laws c.key key equal contents.entries) ∙ stands.0) found in
            let (l, limited, full) = no-room (Some limit) sketch c (main_of contents.entries) is in
            IsRejected equal (ap (λ x. is_window x.part) (sym same) ∙ stands.1)
            (subst (λ n. n < total_weight (main_of contents.entries) + c.weight) (sym (one_of refl limited)) full)
        | inr differ ↦ Stays e (entry_at-other laws c.key key differ contents.entries ∙ found) (same-self eq laws e)
      ]
  judged limit sketch c contents once stands (Some gone) is key e found =
      let left = after_leaving eq (entry_keys gone) contents in
      let moved = record c { part = Probation } in
      let at : (k : K) → entry_at eq k (after_candidacy eq c (Some gone) contents).entries ≡ cond (eq c.key k) (Some moved)
      (entry_at eq k left.entries) =
      λ k. entry_at-moved laws k moved left.entries in
      elim (cases_Bool (eq c.key key)) [
        | inl equal ↦
            let same : c ≡ e = one_of (sym (entry_at-equal laws c.key key equal contents.entries) ∙ stands.0) found in
            Stays moved (at key ∙ cond-true (eq c.key key) (Some moved) (entry_at eq key left.entries) equal)
            (subst (λ x. IsSame eq laws x moved) same (same-moved eq laws c))
        | inr differ ↦
            elim (among (λ (x : Entry K V). x.key) gone contents key) [
              | inr stays ↦
                  Stays e (at key ∙ (cond-false (eq c.key key) (Some moved) (entry_at eq key left.entries) differ ∙ (stays ∙ found)))
                  (same-self eq laws e)
              | inl any ↦
                  let (rest, parts, heavy) = victims_weigh limit sketch c (main_of contents.entries) gone is in
                  let M : Entry K V → Type 0 = StandsIn eq laws contents.entries false in
                  let (g, in_main, equal) =
                  one-passes M (λ (x : Entry K V). eq x.key key) gone
                  (recursion_from_All M gone (All-front M gone rest (subst (All M) parts (main-stands eq laws contents.entries once)))) any in
                  let same : g ≡ e = one_of in_main.0 (entry_at-equal laws g.key key equal contents.entries ∙ found) in
                  let (l, limited, full, more) =
                  displaced (Some limit) sketch c (main_of contents.entries) gone is key e any
                  (found-passing (λ x. not (is_window x.part)) key contents.entries e found (ap (λ x. not (is_window x.part)) (sym same) ∙ ap not in_main.1)) in
                  GivesWay more (subst (λ n. n < total_weight (main_of contents.entries) + c.weight) (sym (one_of refl limited)) full)
                  (at c.key ∙ cond-true (eq c.key c.key) (Some moved) (entry_at eq c.key left.entries) (laws.refl c.key))
            ]
      ]

  -- main grows by no more than the candidate
  main-grows : (c : Entry K V) (gone : Option (List (Entry K V))) (contents : Contents K V)
      → total_weight (main_of (after_candidacy eq c gone contents).entries) ≤ total_weight (main_of contents.entries) + c.weight
  main-grows c None contents =
      grind (
        arith,
        ap total_weight (filter-swap eq laws (λ x. not (is_window x.part)) (λ x. not (eq c.key x.key)) contents.entries),
        total-filter (λ x. not (eq c.key x.key)) (main_of contents.entries),
      )
  main-grows c (Some gone) contents =
      grind (
        arith,
        main-moved eq laws c (after_leaving eq (entry_keys gone) contents),
        ap total_weight (main-leaving eq laws gone contents),
        total-filter (λ x. is_unlisted eq (entry_keys gone) x.key) (main_of contents.entries),
      )

  -- what becomes of an entry when several are judged: it stands; or it was in the window, or gave way to one that stands in main, and main has no
  -- room for so much
  pub data Decided (limit most : ℕ) (sketch : Option Table) (after : Contents K V) (key : K) (e : Entry K V) : Type 0 where
    StaysThen : (new : Entry K V) → entry_at eq key after.entries ≡ Some new → IsSame eq laws e new → Decided limit most sketch after key e
    WasRejected : is_window e.part ≡ true → limit < most → Decided limit most sketch after key e
    DisplacedBy : (new : Entry K V) → entry_at eq new.key after.entries ≡ Some new → is_window new.part ≡ false
        → estimate sketch e.hash < estimate sketch new.hash → limit < most → Decided limit most sketch after key e

  decided : (limits : PartLimits) (most : ℕ) (sketch : Option Table) (cs : List (Entry K V)) (contents : Contents K V) → StandOnce eq contents.entries
      → AreCandidates eq laws contents cs → total_weight (main_of contents.entries) + total_weight cs ≤ most
      → (key : K) (e : Entry K V) → entry_at eq key contents.entries ≡ Some e
      → Decided (main_limit limits) most sketch (after_candidates eq limits sketch cs contents) key e
  decided limits most sketch [] contents once are fits key e found = StaysThen e found (same-self eq laws e)
  decided limits most sketch (c ∷ cs) contents once are fits key e found =
      let gone = victims_of (Some (main_limit limits)) sketch c (main_of contents.entries) in
      let next = after_candidacy eq c gone contents in
      by (decided limits most sketch cs next (once-candidacy eq laws c gone contents once)
      (are-left eq laws (main_limit limits) sketch c cs contents once are gone refl)
      (grind (arith, fits, main-grows c gone contents, total-cons c cs)))
      (judged (main_limit limits) sketch c contents once are.stand.0 gone refl key e found)
    where
      full : main_limit limits < total_weight (main_of contents.entries) + c.weight → main_limit limits < most
      full above = grind (arith, above, fits, total-cons c cs)

      same-hash : (x y : Entry K V) → IsSame eq laws x y → estimate sketch x.hash ≡ estimate sketch y.hash
      same-hash x y same = ap (λ z. estimate sketch z.hash) (sym same.but)

      stayed : (x : Entry K V) → IsSame eq laws e x
          → Decided (main_limit limits) most sketch (after_candidates eq limits sketch (c ∷ cs) contents) key x
          → Decided (main_limit limits) most sketch (after_candidates eq limits sketch (c ∷ cs) contents) key e
      stayed x same (StaysThen new at then) = StaysThen new at (same-both eq laws e x new same then)
      stayed x same (WasRejected waits above) = WasRejected (same.waits waits) above
      stayed x same (DisplacedBy new at main more above) =
          DisplacedBy new at main (subst (λ n. n < estimate sketch new.hash) (sym (same-hash e x same)) more) above

      gave : estimate sketch e.hash < estimate sketch c.hash → main_limit limits < most
          → Decided (main_limit limits) most sketch (after_candidates eq limits sketch (c ∷ cs) contents) c.key (record c { part = Probation })
          → Decided (main_limit limits) most sketch (after_candidates eq limits sketch (c ∷ cs) contents) key e
      gave less above (StaysThen new at then) =
          let moved = record c { part = Probation } in
          DisplacedBy new (ap (λ x. entry_at eq x.key (after_candidates eq limits sketch (c ∷ cs) contents).entries) then.but ∙ at)
          (never (is_window new.part) then.waits)
          (subst (λ n. estimate sketch e.hash < n) (same-hash moved new then) less) above
        where
          never : (b : Bool) → (b ≡ true → false ≡ true) → b ≡ false
          never true h = absurd (false≢true (h refl))
          never false h = refl
      gave less above (WasRejected waits more) = absurd (false≢true waits)
      gave less above (DisplacedBy new at main more full) = DisplacedBy new at main (grind (arith, less, more)) full

      by : ((k : K) (x : Entry K V)
          → entry_at eq k (after_candidacy eq c (victims_of (Some (main_limit limits)) sketch c (main_of contents.entries)) contents).entries
          ≡ Some x → Decided (main_limit limits) most sketch (after_candidates eq limits sketch (c ∷ cs) contents) k x)
          → Judged (main_limit limits) sketch c contents
          (after_candidacy eq c (victims_of (Some (main_limit limits)) sketch c (main_of contents.entries)) contents) key e
          → Decided (main_limit limits) most sketch (after_candidates eq limits sketch (c ∷ cs) contents) key e
      by later (Stays new at same) = stayed new same (later key new at)
      by later (IsRejected equal waits above) = WasRejected waits (full above)
      by later (GivesWay less above at) = gave less (full above) (later c.key (record c { part = Probation }) at)

  -- ---- a new entry that enters the window

  -- a beginning of a list with one more is one of the list, or all
  last-front : (xs p rest : List (Entry K V)) (y : Entry K V) → xs ++ y ∷ [] ≡ p ++ rest
      → ((r : List (Entry K V)) × (xs ≡ p ++ r)) ⊎ (p ≡ xs ++ y ∷ [])
  last-front xs [] rest y is = inl (xs, refl)
  last-front [] (q ∷ []) rest y is = let head : y ≡ q = cc in inr (ap (λ x. x ∷ []) (sym head))
  last-front [] (q ∷ r ∷ p) rest y is = let none : [] ≡ r ∷ (p ++ rest) = cc in absurd (cc)
  last-front (x ∷ xs) (q ∷ p) rest y is =
      let head : x ≡ q = cc in
      let tail : xs ++ y ∷ [] ≡ p ++ rest = cc in
      elim (last-front xs p rest y tail) [
        | inl (r, parts) ↦ inl (r, λ i. head i ∷ parts i)
        | inr all ↦ inr (λ i. sym head i ∷ all i)
      ]

  candidates-append : (limits : PartLimits) (sketch : Option Table) (xs ys : List (Entry K V)) (contents : Contents K V)
      → after_candidates eq limits sketch (xs ++ ys) contents
      ≡ after_candidates eq limits sketch ys (after_candidates eq limits sketch xs contents)
  candidates-append limits sketch [] ys contents = refl
  candidates-append limits sketch (x ∷ xs) ys contents =
      candidates-append limits sketch xs ys
      (after_candidacy eq x (victims_of (Some (main_limit limits)) sketch x (main_of contents.entries)) contents)

  stand-front : (P : Entry K V → Type 0) (xs ys : List (Entry K V)) → AllByRecursion P (xs ++ ys) → AllByRecursion P xs
  stand-front P [] ys all = tt
  stand-front P (x ∷ xs) ys all = (all.0, stand-front P xs ys all.1)

  are-front : (contents : Contents K V) (xs ys : List (Entry K V)) → AreCandidates eq laws contents (xs ++ ys) → AreCandidates eq laws contents xs
  are-front contents xs ys are =
      record { stand = stand-front (StandsIn eq laws contents.entries true) xs ys are.stand; once = once-front eq xs ys are.once }

  are-behind : (limits : PartLimits) (sketch : Option Table) (xs ys : List (Entry K V)) (contents : Contents K V) → StandOnce eq contents.entries
      → AreCandidates eq laws contents (xs ++ ys) → AreCandidates eq laws (after_candidates eq limits sketch xs contents) ys
  are-behind limits sketch [] ys contents once are = are
  are-behind limits sketch (x ∷ xs) ys contents once are =
      let gone = victims_of (Some (main_limit limits)) sketch x (main_of contents.entries) in
      are-behind limits sketch xs ys (after_candidacy eq x gone contents) (once-candidacy eq laws x gone contents once)
      (are-left eq laws (main_limit limits) sketch x (xs ++ ys) contents once are gone refl)

  main-grows-all : (limits : PartLimits) (sketch : Option Table) (cs : List (Entry K V)) (contents : Contents K V)
      → total_weight (main_of (after_candidates eq limits sketch cs contents).entries) ≤ total_weight (main_of contents.entries) + total_weight cs
  main-grows-all limits sketch [] contents = grind (arith)
  main-grows-all limits sketch (c ∷ cs) contents =
      let gone = victims_of (Some (main_limit limits)) sketch c (main_of contents.entries) in
      grind (arith, main-grows-all limits sketch cs (after_candidacy eq c gone contents), main-grows c gone contents, total-cons c cs)

  -- what becomes of an entry when a new one enters the window
  pub data Entered (limits : PartLimits) (sketch : Option Table) (contents after : Contents K V) (key : K) (e : Entry K V) : Type 0 where
    StaysWith : (new : Entry K V) → entry_at eq key after.entries ≡ Some new → IsSame eq laws e new → Entered limits sketch contents after key e
    RejectedWith : is_window e.part ≡ true → main_limit limits < total_weight contents.entries → Entered limits sketch contents after key e
    DisplacedWith : (new : Entry K V) → entry_at eq new.key after.entries ≡ Some new → estimate sketch e.hash < estimate sketch new.hash
        → main_limit limits < total_weight contents.entries + new.weight → Entered limits sketch contents after key e

  module _ (keeps : Bool) (limits : PartLimits) (sketch : Option Table) (new : Entry K V) (contents : Contents K V)
      (absent : entry_at eq new.key contents.entries ≡ None) (once : StandOnce eq contents.entries) where
    abbrev waiting : Entry K V
    waiting = record new { part = Window }

    abbrev within : Contents K V
    within = after_entry eq keeps (record new { part = Window }) contents

    abbrev chosen_ones : List (Entry K V)
    chosen_ones = candidates limits (after_entry eq keeps (record new { part = Window }) contents).entries

    apart : StandOnce eq within.entries
    apart = once-push eq laws contents.entries waiting absent once

    within-at : (key : K) → entry_at eq key within.entries ≡ cond (eq new.key key) (Some waiting) (entry_at eq key contents.entries)
    within-at key =
        entry_at-push laws key waiting contents.entries (λ equal. sym (entry_at-equal laws new.key key equal contents.entries) ∙ absent)

    within-main : total_weight (main_of within.entries) ≡ total_weight (main_of contents.entries)
    within-main =
        grind (
          arith,
          ap total_weight (filter-append (λ e. not (is_window e.part)) contents.entries (waiting ∷ [])),
          sum_by-append (λ e. e.weight) (main_of contents.entries) [],
        )

    -- some of the window, or all of it and then the new one
    parted : ((r : List (Entry K V)) × (window_of contents.entries ≡ chosen_ones ++ r))
        ⊎ (chosen_ones ≡ window_of contents.entries ++ waiting ∷ [])
    parted =
        let (rest, parts, heavy) = least_parts (excess limits within.entries) (window_of within.entries) in
        last-front (window_of contents.entries) chosen_ones rest waiting
        (sym (filter-append (λ e. is_window e.part) contents.entries (waiting ∷ [])) ∙ parts)

    fits-some : (r : List (Entry K V)) → window_of contents.entries ≡ chosen_ones ++ r
        → total_weight (main_of within.entries) + total_weight chosen_ones ≤ total_weight contents.entries
    fits-some r parts =
        grind (
          arith,
          within-main,
          ap total_weight parts,
          sum_by-append (λ e. e.weight) chosen_ones r,
          total-split contents.entries,
        )

    fits-all : total_weight (main_of within.entries) + total_weight (window_of contents.entries) ≤ total_weight contents.entries
    fits-all = grind (arith, within-main, total-split contents.entries)

    -- where all are candidates, the new one is the last
    abbrev before_last : Contents K V
    before_last =
        after_candidates eq limits sketch (window_of contents.entries) (after_entry eq keeps (record new { part = Window }) contents)

    abbrev after_last : Contents K V
    after_last =
        after_candidacy eq waiting (victims_of (Some (main_limit limits)) sketch waiting (main_of before_last.entries)) before_last

    last-is : chosen_ones ≡ window_of contents.entries ++ waiting ∷ [] → after_entering eq keeps limits sketch new contents ≡ after_last
    last-is all =
        ap (λ cs. after_candidates eq limits sketch cs within) all
        ∙ candidates-append limits sketch (window_of contents.entries) (waiting ∷ []) within

    all-are : chosen_ones ≡ window_of contents.entries ++ waiting ∷ []
        → AreCandidates eq laws within (window_of contents.entries ++ waiting ∷ [])
    all-are all = subst (AreCandidates eq laws within) all (are-chosen eq laws limits within apart)

    judged-last : chosen_ones ≡ window_of contents.entries ++ waiting ∷ [] → (key : K) (e : Entry K V)
        → entry_at eq key before_last.entries ≡ Some e → Judged (main_limit limits) sketch waiting before_last after_last key e
    judged-last all key e found =
        let are = are-behind limits sketch (window_of contents.entries) (waiting ∷ []) within apart (all-are all) in
        judged (main_limit limits) sketch waiting before_last (once-candidates eq laws limits sketch (window_of contents.entries) within apart)
        are.stand.0 (victims_of (Some (main_limit limits)) sketch waiting (main_of before_last.entries)) refl key e found

    decided-before : chosen_ones ≡ window_of contents.entries ++ waiting ∷ [] → (key : K) (e : Entry K V)
        → entry_at eq key within.entries ≡ Some e
        → Decided (main_limit limits) (total_weight contents.entries) sketch before_last key e
    decided-before all key e found =
        decided limits (total_weight contents.entries) sketch (window_of contents.entries) within apart
        (are-front within (window_of contents.entries) (waiting ∷ []) (all-are all)) fits-all key e found

    fewer-before : total_weight (main_of before_last.entries) ≤ total_weight contents.entries
    fewer-before = grind (arith, fits-all, main-grows-all limits sketch (window_of contents.entries) within)

    pub entered : (key : K) (e : Entry K V) → entry_at eq key contents.entries ≡ Some e
        → Entered limits sketch contents (after_entering eq keeps limits sketch new contents) key e
    entered key e found =
        elim (cases_Bool (eq new.key key)) [
          | inl equal ↦ something (sym (entry_at-equal laws new.key key equal contents.entries) ∙ absent) found
          | inr differ ↦
              let there = within-at key ∙ (cond-false (eq new.key key) (Some waiting) (entry_at eq key contents.entries) differ ∙ found) in
              elim parted [
                | inl (r, parts) ↦
                    some (decided limits (total_weight contents.entries) sketch chosen_ones within apart
                    (are-chosen eq laws limits within apart) (fits-some r parts) key e there)
                | inr all ↦
                    subst (λ c. Entered limits sketch contents c key e) (sym (last-is all)) (every all differ (decided-before all key e there))
              ]
        ]
      where
        some : Decided (main_limit limits) (total_weight contents.entries) sketch (after_entering eq keeps limits sketch new contents) key e
            → Entered limits sketch contents (after_entering eq keeps limits sketch new contents) key e
        some (StaysThen x at same) = StaysWith x at same
        some (WasRejected waits above) = RejectedWith waits above
        some (DisplacedBy x at main more above) = DisplacedWith x at more (grind (arith, above))

        stayed : eq new.key key ≡ false → (x : Entry K V) → IsSame eq laws e x
            → Judged (main_limit limits) sketch waiting before_last after_last key x
            → Entered limits sketch contents after_last key e
        stayed differ x same (Stays y at then) = StaysWith y at (same-both eq laws e x y same then)
        stayed differ x same (IsRejected equal waits above) = absurd (false≢true (sym differ ∙ equal))
        stayed differ x same (GivesWay less above at) =
            DisplacedWith (record waiting { part = Probation }) at
            (subst (λ n. n < estimate sketch new.hash) (ap (λ z. estimate sketch z.hash) same.but) less)
            (grind (arith, above, fewer-before))

        gave : (x : Entry K V) → is_window x.part ≡ false → estimate sketch e.hash < estimate sketch x.hash
            → main_limit limits < total_weight contents.entries
            → Judged (main_limit limits) sketch waiting before_last after_last x.key x
            → Entered limits sketch contents after_last key e
        gave x main more above (Stays y at then) =
            DisplacedWith y (ap (λ z. entry_at eq z.key after_last.entries) then.but ∙ at)
            (subst (λ n. estimate sketch e.hash < n) (sym (ap (λ z. estimate sketch z.hash) then.but)) more) (grind (arith, above))
        gave x main more above (IsRejected equal waits full) = absurd (false≢true (sym main ∙ waits))
        gave x main more above (GivesWay less full at) =
            DisplacedWith (record waiting { part = Probation }) at (grind (arith, more, less)) (grind (arith, above))

        every : chosen_ones ≡ window_of contents.entries ++ waiting ∷ [] → eq new.key key ≡ false
            → Decided (main_limit limits) (total_weight contents.entries) sketch before_last key e
            → Entered limits sketch contents after_last key e
        every all differ (StaysThen x at same) = stayed differ x same (judged-last all key x at)
        every all differ (WasRejected waits above) = RejectedWith waits above
        every all differ (DisplacedBy x at main more above) = gave x main more above (judged-last all x.key x at)

    -- where the new one doesn't stand then, main has no room for all
    pub new-rejected : entry_at eq new.key (after_entering eq keeps limits sketch new contents).entries ≡ None
        → main_limit limits < total_weight contents.entries + new.weight
    new-rejected none =
        let there = within-at new.key ∙ cond-true (eq new.key new.key) (Some waiting) (entry_at eq new.key contents.entries) (laws.refl new.key) in
        elim parted [
          | inl (r, parts) ↦
              some (decided limits (total_weight contents.entries) sketch chosen_ones within apart
              (are-chosen eq laws limits within apart) (fits-some r parts) new.key waiting there)
          | inr all ↦
              every all (sym (ap (λ c. entry_at eq new.key c.entries) (last-is all)) ∙ none) (decided-before all new.key waiting there)
        ]
      where
        some : Decided (main_limit limits) (total_weight contents.entries) sketch (after_entering eq keeps limits sketch new contents) new.key waiting
            → main_limit limits < total_weight contents.entries + new.weight
        some (StaysThen x at same) = something none at
        some (WasRejected waits above) = grind (arith, above)
        some (DisplacedBy x at main more above) = grind (arith, above)

        last : (x : Entry K V) → entry_at eq new.key after_last.entries ≡ None
            → Judged (main_limit limits) sketch waiting before_last after_last new.key x
            → main_limit limits < total_weight contents.entries + new.weight
        last x none (Stays y at then) = something none at
        last x none (IsRejected equal waits above) = grind (arith, above, fewer-before)
        last x none (GivesWay less above at) = grind (arith, above, fewer-before)

        every : chosen_ones ≡ window_of contents.entries ++ waiting ∷ [] → entry_at eq new.key after_last.entries ≡ None
            → Decided (main_limit limits) (total_weight contents.entries) sketch before_last new.key waiting
            → main_limit limits < total_weight contents.entries + new.weight
        every all none (StaysThen x at same) = last x none (judged-last all new.key x at)
        every all none (WasRejected waits above) = grind (arith, above)
        every all none (DisplacedBy x at main more above) = grind (arith, above)

-- ---- why an entry leaves with a call

-- a choice of two that stand is not nothing
pub not-put : {X : Type 0} {P : Type 0} (b : Bool) (x : X) (o : Option X) (e : X) → cond b (Some x) o ≡ None → o ≡ Some e → P
not-put true x o e none some = something none refl
not-put false x o e none some = something none some

-- there is one or not
kept-or-not : {X : Type 0} {P : Type 0} (o : Option X) {other : Option X} → other ≡ o → (other ≡ None → P) → ((x : X) → other ≡ Some x → P) → P
kept-or-not None is none some = none is
kept-or-not (Some x) is none some = some x is

-- a limit with a window is the limit
pub windowed-is : (shares : Shares) (o : Option ℕ) (limits : PartLimits) → windowed_limits shares o ≡ Some limits
    → (l : ℕ) × (o ≡ Some l) × (limits ≡ limits_of shares l)
windowed-is shares None limits h = something {o = None} refl h
windowed-is shares (Some l) limits h =
    let some = nat_lt 0 (hundredths shares.window l) in
    elim (cases_Bool (nat_lt 0 (hundredths shares.window l))) [
      | inl large ↦ (l, refl, one_of h (cond-true some (Some (limits_of shares l)) None large))
      | inr small ↦ something (cond-false some (Some (limits_of shares l)) None small) h
    ]

-- main may weigh no more than the limit
pub main-less : (shares : Shares) (limit : ℕ) → main_limit (limits_of shares limit) ≤ limit
main-less shares limit = by (limits_of shares limit).window
  where
    by : (window : ℕ) → limit - window ≤ limit
    by window = omega arith

module _ {K V S : Type 0} (keys : Keys K S) (laws : IsEquivalence keys.eq) (key : K) (e : Entry K V) where
  -- another key is equal to the entry's as it is to the key
  same-key : (entries : List (Entry K V)) → entry_at keys.eq key entries ≡ Some e → (other : K) → keys.eq other key ≡ keys.eq other e.key
  same-key entries found other =
      laws.symm other key ∙ (laws.congr key e.key other (found_key keys.eq key e entries found) ∙ laws.symm e.key other)

  -- a use lets it stand
  pub using-stands : {P : Type 0} (room : ℕ) (used : Entry K V) (contents : Contents K V) → entry_at keys.eq key contents.entries ≡ Some e
      → entry_at keys.eq key (after_using keys.eq room used contents).entries ≡ None → P
  using-stands room used contents stands none =
      let (f, at) = entry_at-using laws room key used contents in
      not-put (keys.eq used.key key) used (entry_at keys.eq key contents.entries) e
      (placed-none f (cond (keys.eq used.key key) (Some used) (entry_at keys.eq key contents.entries)) (sym at ∙ none)) stands

  pub use-stands : {P : Type 0} (room now : ℕ) (o : Option (Entry K V)) (contents : Contents K V)
      → entry_at keys.eq key contents.entries ≡ Some e
      → entry_at keys.eq key (after_use keys.eq room now o contents).entries ≡ None → P
  use-stands room now None contents stands none = something none stands
  use-stands room now (Some used) contents stands none = using-stands room (record used { accessed = now }) contents stands none

module _ {K V S W : Type 0} (keys : Keys K S) (laws : IsEquivalence keys.eq) (key : K) (e : Entry K V) where
  -- cleanup removes it, or it stands when the call acts
  cleaned : (old new : CacheState K V S W) (request : Request K V) (now : ℕ) → cleanup_moment request ≡ Some now
      → AllTied keys.eq old.contents → StandOnce keys.eq old.contents.entries → entry_at keys.eq key old.contents.entries ≡ Some e
      → (entry_at keys.eq key (after_look keys old now).contents.entries ≡ Some e → RemovalCause keys old request new e)
      → RemovalCause keys old request new e
  cleaned old new request now is tied once found later =
      elim (cleanup-cause keys.eq laws old.settings.policy now old.contents key e tied once found) [
        | inl stands ↦ later stands
        | inr (inl over) ↦ Expired now is over
        | inr (inr (l, limited, above)) ↦
            AboveLimit now l is limited
            (subst (λ es. l < total_weight es)
            (from-equal keys.eq laws key e.key (found_key keys.eq key e old.contents.entries found) old.contents.entries) above)
      ]

  -- where a put removes it, it gave way
  put-cause : (old new cache : CacheState K V S W) (other : K) (value : V) (own : Option ℕ) (now : ℕ) (o : Option (Entry K V)) (put : Entry K V)
      (refused : Refused) → new ≡ after_put keys.eq cache o put refused
      → given_of cache ≡ given_of old → cache.sketch ≡ old.sketch
      → total_weight cache.contents.entries ≤ total_weight old.contents.entries → StandOnce keys.eq cache.contents.entries → put.key ≡ other
      → entry_at keys.eq put.key cache.contents.entries ≡ o → entry_at keys.eq key cache.contents.entries ≡ Some e
      → entry_at keys.eq key new.contents.entries ≡ None
      → RemovalCause keys old (Insert other value own now) new e
  put-cause old new cache other value own now (Some known) put refused is terms sketch less once its_key there stands none =
      using-stands keys laws key e (room_of cache) (record put { key = known.key; hash = known.hash; part = known.part }) cache.contents
      stands (sym (ap (λ c. entry_at keys.eq key c.contents.entries) is) ∙ none)
  put-cause old new cache other value own now None put refused is terms sketch less once its_key there stands none =
      entering (windowed cache) refl is
    where
      by : (gone : Option (List (Entry K V))) → victims_of cache.settings.policy.max_capacity cache.sketch put cache.contents.entries ≡ gone
          → new.contents.entries ≡ (after_verdict keys.eq cache put gone refused).contents.entries
          → RemovalCause keys old (Insert other value own now) new e
      by None verdict after = something (sym (ap (entry_at keys.eq key) after) ∙ none) stands
      by (Some gone) verdict after =
          let left = after_leaving keys.eq (entry_keys gone) cache.contents in
          let empty = absent-left laws gone cache.contents put.key there in
          let at : (k : K) → entry_at keys.eq k new.contents.entries ≡ cond (keys.eq put.key k) (Some put)
          (entry_at keys.eq k left.entries) =
          λ k. ap (entry_at keys.eq k) after ∙ entry_at-latest laws k put left.entries empty in
          elim (cases_Bool (keys.eq put.key key)) [
            | inl equal ↦ something (sym (entry_at-equal laws put.key key equal cache.contents.entries) ∙ there) stands
            | inr differ ↦
                elim (among keys.eq laws (λ (x : Entry K V). x.key) gone cache.contents key) [
                  | inr same ↦
                      something (sym (at key ∙ cond-false (keys.eq put.key key) (Some put) (entry_at keys.eq key left.entries) differ)
                      ∙ none) (same ∙ stands)
                  | inl any ↦
                      let (l, limited, full, more) =
                      displaced keys.eq laws cache.settings.policy.max_capacity cache.sketch put cache.contents.entries gone
                      verdict key e any stands in
                      Displaced other value own now l put refl
                      (sym (same-key keys laws key e cache.contents.entries stands put.key) ∙ differ)
                      (
                      (at put.key ∙ cond-true (keys.eq put.key put.key) (Some put) (entry_at keys.eq put.key left.entries)
                      (laws.refl put.key)))
                      (subst (λ s. estimate s e.hash < estimate s put.hash) sketch more)
                      (sym (ap (λ t. t.0.policy.max_capacity) terms) ∙ limited) (grind (arith, full, less, main-less old.shares l))
                ]
          ]

      entering : (limit : Option PartLimits) → windowed cache ≡ limit
          → new ≡ after_new keys.eq cache limit put refused → RemovalCause keys old (Insert other value own now) new e
      entering None limits is =
          by (victims_of cache.settings.policy.max_capacity cache.sketch put cache.contents.entries) refl (ap (λ c. c.contents.entries) is)
      entering (Some limit) limits is =
          let keeps = keeps_writes cache.settings.policy in
          let contents = after_entering keys.eq keeps limit cache.sketch put cache.contents in
          let next = after_turn keys.eq cache cache.memory limit put contents in
          let after : new.contents ≡ next.contents = ap (λ c. c.contents) is ∙ contents-standing keys.eq next put refused in
          let shared : new.shares ≡ next.shares = ap (λ c. c.shares) is ∙ ap (λ t. t.1) (given-standing keys.eq next put refused) in
          let apart = once-entering keys.eq laws keeps limit cache.sketch put cache.contents there once in
          let (l, has, limit_is) = windowed-is cache.shares cache.settings.policy.max_capacity limit limits in
          let limited : old.settings.policy.max_capacity ≡ Some l = ap (λ t. t.0.policy.max_capacity) (sym terms) ∙ has in
          let limits_are : limit ≡ limits_of old.shares l = limit_is ∙ ap (λ t. limits_of t.1 l) terms in
          let main : main_limit limit ≡ main_limit (limits_of old.shares l) = ap main_limit limits_are in
          let gone : entry_at keys.eq key next.contents.entries ≡ None = sym (ap (λ c. entry_at keys.eq key c.entries) after) ∙ none in
          let grew : IsGrown laws cache next limit put contents → RemovalCause keys old (Insert other value own now) new e =
          λ grown. GivenUp other value own now l grown.entered refl
          (ap (λ c. entry_at keys.eq other c.entries) after
          ∙ (sym (ap (λ k. entry_at keys.eq k next.contents.entries) its_key) ∙ grown.stands))
          grown.waits
          (subst (λ s. old.shares.extra < s.extra) (sym shared) (subst (λ t. t.1.extra < next.shares.extra) terms grown.grown))
          limited
          (subst (λ s. main_limit (limits_of s l) < total_weight old.contents.entries) (sym shared)
          (subst (λ a. main_limit (limits_of next.shares a) < total_weight old.contents.entries) (ap (λ p. p.all) limit_is)
          (grind (
            arith,
            grown.full,
            grown.beside,
            total-entering laws keeps limit cache.sketch put cache.contents there once,
            ap (λ (x : Entry K V). x.weight) (as-put keeps limit grown.entered grown.stood),
            less,
          )))) in
          elim (entered keys.eq laws keeps limit cache.sketch put cache.contents there once key e stands) [
            | StaysWith x at same ↦ grew (turn-gave-up laws cache cache.memory limit put contents apart key x at gone)
            | RejectedWith waits above ↦ Rejected other value own now l refl waits limited (grind (arith, above, less, main))
            | DisplacedWith x at more above ↦
                elim (cases_Bool (keys.eq x.key e.key)) [
                  | inl equal ↦
                      grew (turn-gave-up laws cache cache.memory limit put contents apart key x
                      (sym (entry_at-equal laws x.key key (same-key keys laws key e cache.contents.entries stands x.key ∙ equal) contents.entries) ∙ at)
                      gone)
                  | inr differ ↦
                      kept-or-not (entry_at keys.eq x.key next.contents.entries) refl
                      (λ left. grew (turn-gave-up laws cache cache.memory limit put contents apart x.key x at left))
                      (λ y is.
                      let (z, stood, same) = found-turned keys.eq laws cache cache.memory limit put contents x.key y is in
                      let but : y ≡ record x { part = y.part } = same.but ∙ ap (λ (z : Entry K V). record z { part = y.part }) (one_of stood at) in
                      Displaced other value own now l y refl
                      (ap (λ (z : Entry K V). keys.eq z.key e.key) but ∙ differ)
                      (ap (λ c. entry_at keys.eq y.key c.entries) after
                      ∙ (ap (λ (z : Entry K V). entry_at keys.eq z.key next.contents.entries) but ∙ is))
                      (subst (λ s. estimate s e.hash < estimate s y.hash) sketch
                      (subst (λ h. estimate cache.sketch e.hash < estimate cache.sketch h) (sym (ap (λ (z : Entry K V). z.hash) but)) more))
                      limited (grind (arith, above, less, main, ap (λ (z : Entry K V). z.weight) but)))
                ]
          ]
        where
          as-put : (keeps : Bool) (limit : PartLimits) (entered : Entry K V)
              → entry_at keys.eq put.key (after_entering keys.eq keeps limit cache.sketch put cache.contents).entries ≡ Some entered
              → entered ≡ record put { part = entered.part }
          as-put keeps limit entered stood =
              elim (found-entering keys.eq laws keeps limit cache.sketch put cache.contents there once put.key entered stood) [
                | inl (equal, same) ↦ same
                | inr (differ, before) ↦ absurd (false≢true (sym differ ∙ laws.refl put.key))
              ]

  module _ (weighs : W → K → V → ℕ → W → Type 0) where
    -- an entry that stands before a call and not after it leaves for a cause
    pub step-cause : (old new : CacheState K V S W) (request : Request K V) (answer : Answer K V)
        → IsStep keys weighs old request answer new → AllTied keys.eq old.contents → StandOnce keys.eq old.contents.entries
        → entry_at keys.eq key old.contents.entries ≡ Some e → entry_at keys.eq key new.contents.entries ≡ None
        → RemovalCause keys old request new e
    step-cause old new (Get other now) answer step tied once found none =
        cleaned old new (Get other now) now refl tied once found
        (λ stands. use-stands keys laws key e (room_of old) now (unexpired_at keys.eq old.settings.policy now other (after_look keys old now).contents)
        (after_look keys old now).contents stands
        (sym (ap (λ c. entry_at keys.eq key c.contents.entries) step.1) ∙ none))
    step-cause old new (Peek other now) answer step tied once found none =
        something (sym (ap (λ c. entry_at keys.eq key c.contents.entries) step.1) ∙ none) found
    step-cause old new (ContainsKey other now) answer step tied once found none =
        cleaned old new (ContainsKey other now) now refl tied once found
        (λ stands. something (sym (ap (λ c. entry_at keys.eq key c.contents.entries) step.1) ∙ none) stands)
    step-cause old new (Miss hash now) answer step tied once found none =
        cleaned old new (Miss hash now) now refl tied once found
        (λ stands. something (sym (ap (λ c. entry_at keys.eq key c.contents.entries) step.1) ∙ none) stands)
    step-cause old new (Insert other value own now) answer (inl (done, inserted)) tied once found none =
        let kept = (after_look keys old now).contents in
        cleaned old new (Insert other value own now) now refl tied once found
        (λ stands. put-cause old new (record old { weigher = inserted.weigher; capacity = inserted.capacity; contents = kept })
        other value own now
        (entry_at keys.eq other kept.entries)
        (new_entry keys old.settings other value inserted.weight own now) inserted.refused inserted.step refl refl
        (total-cleanup keys.eq old.settings.policy now old.contents)
        (once-remains keys.eq old.contents kept (remains-cleanup keys.eq old.settings.policy now old.contents) once) refl refl stands none)
    step-cause old new (Insert other value own now) answer (inr (refused, same)) tied once found none =
        something (sym (ap (λ c. entry_at keys.eq key c.contents.entries) same.same) ∙ none) found
    step-cause old new (Invalidate other now) answer step tied once found none =
        cleaned old new (Invalidate other now) now refl tied once found
        (λ stands. elim (cases_Bool (keys.eq other key)) [
          | inl equal ↦ Invalidated (sym (same-key keys laws key e old.contents.entries found other) ∙ equal)
          | inr differ ↦
              something (sym (entry_at-other laws other key differ (after_look keys old now).contents.entries) ∙
              (sym (ap (λ c. entry_at keys.eq key c.contents.entries) step.1) ∙ none)) stands
        ])
    step-cause old new (Remove other now) answer step tied once found none =
        cleaned old new (Remove other now) now refl tied once found
        (λ stands. elim (cases_Bool (keys.eq other key)) [
          | inl equal ↦ Invalidated (sym (same-key keys laws key e old.contents.entries found other) ∙ equal)
          | inr differ ↦
              something (sym (entry_at-other laws other key differ (after_look keys old now).contents.entries) ∙
              (sym (ap (λ c. entry_at keys.eq key c.contents.entries) step.1) ∙ none)) stands
        ])
    step-cause old new InvalidateAll answer step tied once found none = Invalidated refl
    step-cause old new (InvalidateEntriesIf answers) answer step tied once found none =
        let gone = chosen answers old.contents.entries in
        elim (among keys.eq laws (λ (x : Entry K V). x.key) gone old.contents key) [
          | inl any ↦
              Invalidated (any-key (λ k. keys.eq k e.key) gone ∙
              ((λ i. list_any (λ (x : Entry K V). sym (same-key keys laws key e old.contents.entries found x.key) i) gone) ∙ any))
          | inr same ↦ something (sym same ∙ (sym (ap (λ c. entry_at keys.eq key c.contents.entries) step.1) ∙ none)) found
        ]
    step-cause old new (Iterate now) answer step tied once found none =
        something (sym (ap (λ c. entry_at keys.eq key c.contents.entries) step.1) ∙ none) found
    step-cause old new EntryCount answer step tied once found none =
        something (sym (ap (λ c. entry_at keys.eq key c.contents.entries) step.1) ∙ none) found
    step-cause old new WeightedSize answer step tied once found none =
        something (sym (ap (λ c. entry_at keys.eq key c.contents.entries) step.1) ∙ none) found
