-- Lemmas on a new entry that enters the window: to judge the window's old entries first, and only then to let it in or to judge it, leaves the same.
use Rattle.std.proofs.Common.{◌≡◌, ◌<◌, ◌+◌, ◌-◌, ℕ, zero, suc, Bool, true, false, cond, not, List, [], ◌∷◌, ◌++◌, All, filter, length, get_or, drop}
use Rattle.std.proofs.Common.{sum_by, nat_le}
use Rattle.std.proofs.Common.{nat_lt, is_some, IfSome, Option, Some, None, option_map, unwrap_or, append-nil, refl, sym, ap, ◌∙◌, subst, inl, inr}
use Rattle.std.proofs.Common.{arith}
use Rattle.std.proofs.lemmas.Bool.{cases_Bool, cond-true, cond-false, false≢true}
use Rattle.std.proofs.lemmas.List.Elements.{All-cons, All-filter, All-head, All-nil, All-tail, All-weaker, filter-append, filter_passes}
use Rattle.std.proofs.lemmas.List.Sums.{fold-append, sum_by-cons}
use Rattle.std.proofs.lemmas.Map.Keys.{IsDistinct-cons, IsDistinct-head, IsDistinct-tail}
use Rattle.std.specs.Cmp.{IsEquivalence}
use Rattle.std.specs.List.{AllByRecursion, IsDistinct}
use Rattle.moka_common.specs.Admission.{outvoted}
use Rattle.moka_common.specs.Prefix.{shortest_prefix}
use Rattle.moka_common.specs.Sketch.{Table, estimate}
use Rattle.moka_unsync_model.specs.Deadline.{expiry_of}
use Rattle.moka_unsync_model.specs.declared.entry.Entry.{Entry}
use Rattle.moka_unsync_model.specs.declared.entry.Part.TheVariants.{Probation, Window}
use Rattle.moka_unsync_model.specs.Contents.{Contents, Write, after_leaving, after_moving, entries_without, entry_at, entry_keys, is_window, main_of}
use Rattle.moka_unsync_model.specs.Contents.{total_weight, window_of, with_latest, without, writes_without}
use Rattle.moka_unsync_model.specs.declared.shares.PartLimits.{PartLimits}
use Rattle.moka_unsync_model.specs.Shares.{main_limit}
use Rattle.moka_unsync_model.specs.Cleanup.{least_recent}
use Rattle.moka_unsync_model.specs.Insert.{after_admission, after_entering, after_entry, with_write}
use Rattle.moka_unsync_model.specs.Window.{after_candidacy, after_candidate, after_candidates, excess, victims_of}
use Rattle.moka_unsync_model.proofs.ContentsLemmas.{All-leaving}
use Rattle.moka_unsync_model.proofs.WindowLemmas.{All-latest, before-window, goes_before, latest_parts, window-latest}

module _ {K V : Type 0} where
  -- a new entry as one of the window
  abbrev pub inside : Entry K V → Entry K V
  inside new = record new { part = Window }

  -- and as one of main
  abbrev pub outside : Entry K V → Entry K V
  outside new = record new { part = Probation }

  -- how much has to leave the window once it has entered
  abbrev pub entering_excess : PartLimits → Entry K V → List (Entry K V) → ℕ
  entering_excess limit new entries = excess limit (entries ++ inside new ∷ [])

  -- the old entries of the window that are judged before it
  abbrev pub judged_first : PartLimits → Entry K V → List (Entry K V) → List (Entry K V)
  judged_first limit new entries = least_recent (entering_excess limit new entries) (window_of entries)

  -- how much still has to leave the window after those
  abbrev pub excess_left : PartLimits → Entry K V → List (Entry K V) → ℕ
  excess_left limit new entries = entering_excess limit new entries - total_weight (judged_first limit new entries)

  -- the contents once they were judged
  abbrev pub after_judged : (K → K → Bool) → PartLimits → Option Table → Entry K V → Contents K V → Contents K V
  after_judged eq limit sketch new contents = after_candidates eq limit sketch (judged_first limit new contents.entries) contents

-- ---- tests of lists

module _ {X : Type 0} (p : X → Bool) where
  -- where all pass none is left out
  passed-all : (xs : List X) → All (λ x. p x ≡ true) xs → filter p xs ≡ xs
  passed-all [] all = refl
  passed-all (x ∷ xs) all =
      cond-true (p x) (x ∷ filter p xs) (filter p xs) (All-head (λ x. p x ≡ true) x xs all)
      ∙ ap (λ l. x ∷ l) (passed-all xs (All-tail (λ x. p x ≡ true) x xs all))

  -- one more that passes stands behind those that did
  pub passed-push : (xs : List X) (x : X) → p x ≡ true → filter p (xs ++ x ∷ []) ≡ filter p xs ++ x ∷ []
  passed-push xs x passes = filter-append p xs (x ∷ []) ∙ ap (λ l. filter p xs ++ l) (cond-true (p x) (x ∷ []) [] passes)

  -- one more that fails changes nothing
  failed-push : (xs : List X) (x : X) → p x ≡ false → filter p (xs ++ x ∷ []) ≡ filter p xs
  failed-push xs x fails =
      filter-append p xs (x ∷ []) ∙ (ap (λ l. filter p xs ++ l) (cond-false (p x) (x ∷ []) [] fails) ∙ append-nil (filter p xs))

  -- two tests pass the same in either order
  both-tests : (q : X → Bool) (xs : List X) → filter p (filter q xs) ≡ filter q (filter p xs)
  both-tests q [] = refl
  both-tests q (x ∷ xs) = by (p x) (q x) refl refl (both-tests q xs)
    where
      by : (b c : Bool) → p x ≡ b → q x ≡ c → filter p (filter q xs) ≡ filter q (filter p xs)
          → filter p (cond c (x ∷ filter q xs) (filter q xs)) ≡ filter q (cond b (x ∷ filter p xs) (filter p xs))
      by true true here there rest =
          cond-true (p x) (x ∷ filter p (filter q xs)) (filter p (filter q xs)) here
          ∙ (ap (λ l. x ∷ l) rest ∙ sym (cond-true (q x) (x ∷ filter q (filter p xs)) (filter q (filter p xs)) there))
      by true false here there rest = rest ∙ sym (cond-false (q x) (x ∷ filter q (filter p xs)) (filter q (filter p xs)) there)
      by false true here there rest = cond-false (p x) (x ∷ filter p (filter q xs)) (filter p (filter q xs)) here ∙ rest
      by false false here there rest = rest

-- ---- the least recently used entries, one after another

module _ {K V : Type 0} where
  pub least_recent-none : (ws : List (Entry K V)) → least_recent 0 ws ≡ []
  least_recent-none ws = refl

  pub least_recent-nil : (lacking : ℕ) → least_recent {K = K} {V = V} lacking [] ≡ []
  least_recent-nil zero = refl
  least_recent-nil (suc n) = refl

  pub least_recent-cons : (lacking : ℕ) (c : Entry K V) (ws : List (Entry K V)) → 0 < lacking
      → least_recent lacking (c ∷ ws) ≡ c ∷ least_recent (lacking - c.weight) ws
  least_recent-cons zero c ws some = let no : ⊥ = omega (arith, some) in absurd no
  least_recent-cons (suc n) c ws some = by (shortest_prefix (λ e. e.weight) (suc n - c.weight) ws)
    where
      by : (o : Option (List (Entry K V))) → unwrap_or (option_map (λ p. c ∷ p) o) (c ∷ ws) ≡ c ∷ unwrap_or o ws
      by None = refl
      by (Some p) = refl

  -- what still lacks after all of them, counted from the first
  pub lacking-cons : (lacking : ℕ) (c : Entry K V) (ws : List (Entry K V)) → 0 < lacking
      → lacking - total_weight (least_recent lacking (c ∷ ws)) ≡ lacking - c.weight - total_weight (least_recent (lacking - c.weight) ws)
  lacking-cons lacking c ws some =
      let first : total_weight (least_recent lacking (c ∷ ws)) ≡ total_weight (c ∷ least_recent (lacking - c.weight) ws) =
      ap total_weight (least_recent-cons lacking c ws some) in
      omega (arith, first, sum_by-cons (λ e. e.weight) c (least_recent (lacking - c.weight) ws))

  -- where some of them weigh enough, one more behind them changes nothing
  pub least_recent-enough : (lacking : ℕ) (ws : List (Entry K V)) (x : Entry K V) → lacking - total_weight (least_recent lacking ws) ≡ 0
      → least_recent lacking (ws ++ x ∷ []) ≡ least_recent lacking ws
  least_recent-enough zero ws x none = refl
  least_recent-enough (suc n) [] x none = let no : ⊥ = omega (arith, none) in absurd no
  least_recent-enough (suc n) (c ∷ ws) x none =
      least_recent-cons (suc n) c (ws ++ x ∷ []) (omega arith)
      ∙ (ap (λ l. c ∷ l) (least_recent-enough (suc n - c.weight) ws x (sym (lacking-cons (suc n) c ws (omega arith)) ∙ none))
      ∙ sym (least_recent-cons (suc n) c ws (omega arith)))

  -- else one more is the last of them
  pub least_recent-last : (lacking : ℕ) (ws : List (Entry K V)) (x : Entry K V) → 0 < lacking - total_weight (least_recent lacking ws)
      → least_recent lacking (ws ++ x ∷ []) ≡ least_recent lacking ws ++ x ∷ []
  least_recent-last zero ws x some = let no : ⊥ = omega (arith, some) in absurd no
  least_recent-last (suc n) [] x some =
      least_recent-cons (suc n) x [] (omega arith) ∙ ap (λ l. x ∷ l) (least_recent-nil (suc n - x.weight))
  least_recent-last (suc n) (c ∷ ws) x some =
      least_recent-cons (suc n) c (ws ++ x ∷ []) (omega arith)
      ∙ (ap (λ l. c ∷ l) (least_recent-last (suc n - c.weight) ws x (subst (λ m. 0 < m) (lacking-cons (suc n) c ws (omega arith)) some))
      ∙ sym (ap (λ l. l ++ x ∷ []) (least_recent-cons (suc n) c ws (omega arith))))

  -- what holds of all holds of those
  pub All-least_recent : (P : Entry K V → Type 0) (lacking : ℕ) (ws : List (Entry K V)) → All P ws → All P (least_recent lacking ws)
  All-least_recent P zero ws all = All-nil P
  All-least_recent P (suc n) [] all = All-nil P
  All-least_recent P (suc n) (c ∷ ws) all =
      subst (All P) (sym (least_recent-cons (suc n) c ws (omega arith)))
      (All-cons P c (least_recent (suc n - c.weight) ws) (All-head P c ws all)
      (All-least_recent P (suc n - c.weight) ws (All-tail P c ws all)))

-- ---- those that give way

module _ {X : Type 0} (P : X → Type 0) where
  -- what holds of all holds of a shortest prefix
  All-prefix : (weight : X → ℕ) (enough : ℕ) (xs : List X) → All P xs → IfSome (shortest_prefix weight enough xs) (All P)
  All-prefix weight zero xs all = All-nil P
  All-prefix weight (suc n) [] all = tt
  All-prefix weight (suc n) (x ∷ xs) all =
      by (shortest_prefix weight (suc n - weight x) xs) (All-prefix weight (suc n - weight x) xs (All-tail P x xs all))
    where
      by : (o : Option (List X)) → IfSome o (All P) → IfSome (option_map (λ p. x ∷ p) o) (All P)
      by None rest = tt
      by (Some p) rest = All-cons P x p (All-head P x xs all) rest

module _ {K V : Type 0} (P : Entry K V → Type 0) where
  -- and of those that give way
  pub All-victims : (limit : ℕ) (sketch : Option Table) (new : Entry K V) (entries : List (Entry K V)) → All P entries
      → IfSome (victims_of (Some limit) sketch new entries) (All P)
  All-victims limit sketch new entries all =
      by (nat_le (total_weight entries + new.weight) limit) (nat_le new.weight limit)
    where
      votes : (o : Option (List (Entry K V))) → IfSome o (All P)
          → IfSome (outvoted (λ e. e.weight) (λ e. estimate sketch e.hash) (estimate sketch new.hash) o) (All P)
      votes None some = tt
      votes (Some p) some = above (nat_lt (sum_by (λ e. estimate sketch e.hash) p) (estimate sketch new.hash))
        where
          above : (b : Bool) → IfSome (cond b (Some p) None) (All P)
          above true = some
          above false = tt

      by : (fits allowed : Bool)
          → IfSome (cond fits (Some [])
          (cond allowed (outvoted (λ e. e.weight) (λ e. estimate sketch e.hash) (estimate sketch new.hash)
          (shortest_prefix (λ e. e.weight) new.weight entries)) None)) (All P)
      by true allowed = All-nil P
      by false false = tt
      by false true = votes (shortest_prefix (λ e. e.weight) new.weight entries) (All-prefix P (λ e. e.weight) new.weight entries all)

-- ---- one more entry of the window, behind all

module _ {K V : Type 0} where
  -- one of main is put before it
  latest-push : (entry : Entry K V) (es : List (Entry K V)) (x : Entry K V) → is_window entry.part ≡ false → is_window x.part ≡ true
      → with_latest entry (es ++ x ∷ []) ≡ with_latest entry es ++ x ∷ []
  latest-push entry [] x main waits =
      cond-true (goes_before entry x) (entry ∷ x ∷ []) (x ∷ entry ∷ []) (before-window entry.part x.part main waits)
  latest-push entry (e ∷ es) x main waits =
      elim (cases_Bool (goes_before entry e)) [
        | inl before ↦
            cond-true (goes_before entry e) (entry ∷ e ∷ es ++ x ∷ []) (e ∷ with_latest entry (es ++ x ∷ [])) before
            ∙ sym (ap (λ l. l ++ x ∷ []) (cond-true (goes_before entry e) (entry ∷ e ∷ es) (e ∷ with_latest entry es) before))
        | inr behind ↦
            cond-false (goes_before entry e) (entry ∷ e ∷ es ++ x ∷ []) (e ∷ with_latest entry (es ++ x ∷ [])) behind
            ∙ (ap (λ l. e ∷ l) (latest-push entry es x main waits)
            ∙ sym (ap (λ l. l ++ x ∷ []) (cond-false (goes_before entry e) (entry ∷ e ∷ es) (e ∷ with_latest entry es) behind)))
      ]

module _ {K : Type 0} (eq : K → K → Bool) where
  -- a write of another key stays behind those that stay
  writes-push : (keeps : Bool) (gone key : K) (now : ℕ) (written : List (Write K)) → eq gone key ≡ false
      → writes_without eq gone (with_write keeps written key now) ≡ with_write keeps (writes_without eq gone written) key now
  writes-push true gone key now written differ =
      passed-push (λ w. not (eq gone w.key)) written (record { key = key; deadline = now }) (ap not differ)
  writes-push false gone key now written differ = refl

  -- the write of the key itself leaves again
  writes-pushed : (keeps : Bool) (gone key : K) (now : ℕ) (written : List (Write K)) → eq gone key ≡ true
      → writes_without eq gone (with_write keeps written key now) ≡ writes_without eq gone written
  writes-pushed true gone key now written equal =
      failed-push (λ w. not (eq gone w.key)) written (record { key = key; deadline = now }) (ap not equal)
  writes-pushed false gone key now written equal = refl

module _ {K V : Type 0} (eq : K → K → Bool) (keeps : Bool) (x : Entry K V) where
  -- others leave as before
  without-push : (gone : K) (contents : Contents K V) → eq gone x.key ≡ false
      → without eq (after_entry eq keeps x contents) gone ≡ after_entry eq keeps x (without eq contents gone)
  without-push gone contents differ =
      λ i. record {
        entries = passed-push (λ e. not (eq gone e.key)) contents.entries x (ap not differ) i;
        written = writes-push eq keeps gone x.key (expiry_of x) contents.written differ i;
      }

  leaving-push : (gone : List (Entry K V)) (contents : Contents K V) → All (λ g. eq g.key x.key ≡ false) gone
      → after_leaving eq (entry_keys gone) (after_entry eq keeps x contents)
      ≡ after_entry eq keeps x (after_leaving eq (entry_keys gone) contents)
  leaving-push [] contents differ = refl
  leaving-push (g ∷ gs) contents differ =
      ap (after_leaving eq (entry_keys gs)) (without-push g.key contents (All-head (λ g. eq g.key x.key ≡ false) g gs differ))
      ∙ leaving-push gs (without eq contents g.key) (All-tail (λ g. eq g.key x.key ≡ false) g gs differ)

  module _ (waits : is_window x.part ≡ true) where
    pub moving-push : (entry : Entry K V) (contents : Contents K V) → is_window entry.part ≡ false → eq entry.key x.key ≡ false
        → after_moving eq entry (after_entry eq keeps x contents) ≡ after_entry eq keeps x (after_moving eq entry contents)
    moving-push entry contents main differ =
        λ i. record {
          entries =
              (ap (with_latest entry) (passed-push (λ e. not (eq entry.key e.key)) contents.entries x (ap not differ))
              ∙ latest-push entry (entries_without eq entry.key contents.entries) x main waits) i;
          written = with_write keeps contents.written x.key (expiry_of x);
        }

    -- and are judged as before
    candidacy-push : (c : Entry K V) (gone : Option (List (Entry K V))) (contents : Contents K V) → eq c.key x.key ≡ false
        → IfSome gone (All (λ g. eq g.key x.key ≡ false))
        → after_candidacy eq c gone (after_entry eq keeps x contents) ≡ after_entry eq keeps x (after_candidacy eq c gone contents)
    candidacy-push c None contents differ others = without-push c.key contents differ
    candidacy-push c (Some gone) contents differ others =
        ap (after_moving eq (outside c)) (leaving-push gone contents others)
        ∙ moving-push (outside c) (after_leaving eq (entry_keys gone) contents) refl differ

-- ---- contents that have nothing of a key

-- a write of another key
abbrev pub IsOtherWrite : {K : Type 0} → (K → K → Bool) → K → Write K → Type 0
IsOtherWrite eq key w = not (eq key w.key) ≡ true

module _ {K V : Type 0} (eq : K → K → Bool) (key : K) where
  -- an entry of another key
  abbrev pub IsOther : Entry K V → Type 0
  IsOther e = eq key e.key ≡ false

  -- all entries and writes are of other keys
  pub record HasNone (contents : Contents K V) : Type 0 where
    pub entries : All IsOther contents.entries
    pub written : All (IsOtherWrite eq key) contents.written

  -- a key without an entry differs from the keys of all
  pub others-absent : (es : List (Entry K V)) → entry_at eq key es ≡ None → All IsOther es
  others-absent [] absent = All-nil IsOther
  others-absent (e ∷ es) absent =
      elim (cases_Bool (eq key e.key)) [
        | inl equal ↦ absurd (false≢true (sym (ap is_some (sym (cond-true (eq key e.key) (Some e) (entry_at eq key es) equal) ∙ absent))))
        | inr differ ↦
            All-cons IsOther e es differ
            (others-absent es (sym (cond-false (eq key e.key) (Some e) (entry_at eq key es) differ) ∙ absent))
      ]

  -- and the other way round
  pub absent-others : (es : List (Entry K V)) → All IsOther es → entry_at eq key es ≡ None
  absent-others [] others = refl
  absent-others (e ∷ es) others =
      cond-false (eq key e.key) (Some e) (entry_at eq key es) (All-head IsOther e es others)
      ∙ absent-others es (All-tail IsOther e es others)

  pub none-absent : (contents : Contents K V) → entry_at eq key contents.entries ≡ None → writes_without eq key contents.written ≡ contents.written
      → HasNone contents
  none-absent contents absent unwritten =
      record {
        entries = others-absent contents.entries absent;
        written = subst (All (IsOtherWrite eq key)) unwritten (filter_passes (λ w. not (eq key w.key)) contents.written);
      }

  -- nor once others were judged
  pub others-candidacy : (c : Entry K V) (gone : Option (List (Entry K V))) (contents : Contents K V) → IsOther c → All IsOther contents.entries
      → All IsOther (after_candidacy eq c gone contents).entries
  others-candidacy c None contents differ all = All-leaving eq IsOther (c.key ∷ []) contents all
  others-candidacy c (Some gone) contents differ all =
      let left = after_leaving eq (entry_keys gone) contents in
      All-latest IsOther (outside c) (entries_without eq c.key left.entries)
      (All-filter (λ e. not (eq c.key e.key)) IsOther left.entries (All-leaving eq IsOther (entry_keys gone) contents all)) differ

  others-candidates : (limits : PartLimits) (sketch : Option Table) (cs : List (Entry K V)) (contents : Contents K V) → All IsOther cs
      → All IsOther contents.entries → All IsOther (after_candidates eq limits sketch cs contents).entries
  others-candidates limits sketch [] contents others all = all
  others-candidates limits sketch (c ∷ cs) contents others all =
      others-candidates limits sketch cs (after_candidate eq limits sketch contents c) (All-tail IsOther c cs others)
      (others-candidacy c (victims_of (Some (main_limit limits)) sketch c (main_of contents.entries)) contents (All-head IsOther c cs others) all)

  -- a write of the key is none either
  writes-leaving : (keys : List K) (contents : Contents K V) → All (IsOtherWrite eq key) contents.written
      → All (IsOtherWrite eq key) (after_leaving eq keys contents).written
  writes-leaving [] contents all = all
  writes-leaving (k ∷ ks) contents all =
      writes-leaving ks (without eq contents k) (All-filter (λ w. not (eq k w.key)) (IsOtherWrite eq key) contents.written all)

  writes-candidacy : (c : Entry K V) (gone : Option (List (Entry K V))) (contents : Contents K V) → All (IsOtherWrite eq key) contents.written
      → All (IsOtherWrite eq key) (after_candidacy eq c gone contents).written
  writes-candidacy c None contents all = writes-leaving (c.key ∷ []) contents all
  writes-candidacy c (Some gone) contents all = writes-leaving (entry_keys gone) contents all

  none-leaving : (keys : List K) (contents : Contents K V) → HasNone contents → HasNone (after_leaving eq keys contents)
  none-leaving keys contents none =
      record { entries = All-leaving eq IsOther keys contents none.entries; written = writes-leaving keys contents none.written }

  pub none-candidate : (limits : PartLimits) (sketch : Option Table) (c : Entry K V) (contents : Contents K V) → IsOther c → HasNone contents
      → HasNone (after_candidate eq limits sketch contents c)
  none-candidate limits sketch c contents differ none =
      let gone = victims_of (Some (main_limit limits)) sketch c (main_of contents.entries) in
      record {
        entries = others-candidacy c gone contents differ none.entries;
        written = writes-candidacy c gone contents none.written;
      }

  none-candidates : (limits : PartLimits) (sketch : Option Table) (cs : List (Entry K V)) (contents : Contents K V) → All IsOther cs → HasNone contents
      → HasNone (after_candidates eq limits sketch cs contents)
  none-candidates limits sketch [] contents others none = none
  none-candidates limits sketch (c ∷ cs) contents others none =
      none-candidates limits sketch cs (after_candidate eq limits sketch contents c) (All-tail IsOther c cs others)
      (none-candidate limits sketch c contents (All-head IsOther c cs others) none)

  -- an entry of the key is found, wherever it stands
  found-between : (x : Entry K V) (front back : List (Entry K V)) → eq key x.key ≡ true
      → is_some (entry_at eq key (front ++ x ∷ back)) ≡ true
  found-between x [] back equal = ap is_some (cond-true (eq key x.key) (Some x) (entry_at eq key back) equal)
  found-between x (f ∷ fs) back equal =
      elim (cases_Bool (eq key f.key)) [
        | inl here ↦ ap is_some (cond-true (eq key f.key) (Some f) (entry_at eq key (fs ++ x ∷ back)) here)
        | inr differ ↦
            ap is_some (cond-false (eq key f.key) (Some f) (entry_at eq key (fs ++ x ∷ back)) differ) ∙ found-between x fs back equal
      ]

  -- the candidates of a window whose entries have other keys have other keys
  pub others-first : (lacking : ℕ) (es : List (Entry K V)) → All IsOther es → All IsOther (least_recent lacking (window_of es))
  others-first lacking es all = All-least_recent IsOther lacking (window_of es) (All-filter (λ e. is_window e.part) IsOther es all)

module _ {K V : Type 0} (eq : K → K → Bool) (laws : IsEquivalence eq) (keeps : Bool) (limits : PartLimits) (sketch : Option Table) (new : Entry K V) where
  apart-new : (es : List (Entry K V)) → All (IsOther eq new.key) es → All (λ e. eq e.key new.key ≡ false) es
  apart-new es others =
      All-weaker (IsOther eq new.key) (λ e. eq e.key new.key ≡ false) (λ e differ. laws.symm e.key new.key ∙ differ) es others

  -- those that give way to a candidate have other keys
  victims-apart : (c : Entry K V) (contents : Contents K V) → HasNone eq new.key contents
      → IfSome (victims_of (Some (main_limit limits)) sketch c (main_of contents.entries)) (All (λ e. eq e.key new.key ≡ false))
  victims-apart c contents none =
      All-victims (λ e. eq e.key new.key ≡ false) (main_limit limits) sketch c (main_of contents.entries)
      (apart-new (main_of contents.entries) (All-filter (λ e. not (is_window e.part)) (IsOther eq new.key) contents.entries none.entries))

  -- the new entry in the window changes nothing for the others
  pub main-push : (contents : Contents K V) → main_of (after_entry eq keeps (inside new) contents).entries ≡ main_of contents.entries
  main-push contents = failed-push (λ e. not (is_window e.part)) contents.entries (inside new) refl

  pub candidate-push : (c : Entry K V) (contents : Contents K V) → IsOther eq new.key c → HasNone eq new.key contents
      → after_candidate eq limits sketch (after_entry eq keeps (inside new) contents) c
      ≡ after_entry eq keeps (inside new) (after_candidate eq limits sketch contents c)
  candidate-push c contents differ none =
      ap (λ es. after_candidacy eq c (victims_of (Some (main_limit limits)) sketch c es) (after_entry eq keeps (inside new) contents))
      (main-push contents)
      ∙ candidacy-push eq keeps (inside new) refl c (victims_of (Some (main_limit limits)) sketch c (main_of contents.entries)) contents
      (laws.symm c.key new.key ∙ differ) (victims-apart c contents none)

  pub candidates-push : (cs : List (Entry K V)) (contents : Contents K V) → All (IsOther eq new.key) cs → HasNone eq new.key contents
      → after_candidates eq limits sketch cs (after_entry eq keeps (inside new) contents)
      ≡ after_entry eq keeps (inside new) (after_candidates eq limits sketch cs contents)
  candidates-push [] contents others none = refl
  candidates-push (c ∷ cs) contents others none =
      let differ = All-head (IsOther eq new.key) c cs others in
      ap (after_candidates eq limits sketch cs) (candidate-push c contents differ none)
      ∙ candidates-push cs (after_candidate eq limits sketch contents c) (All-tail (IsOther eq new.key) c cs others)
      (none-candidate eq new.key limits sketch c contents differ none)

  -- without it the entries are those that there were
  entries-again : (contents : Contents K V) → HasNone eq new.key contents
      → entries_without eq new.key (contents.entries ++ inside new ∷ []) ≡ contents.entries
  entries-again contents none =
      failed-push (λ e. not (eq new.key e.key)) contents.entries (inside new) (ap not (laws.refl new.key))
      ∙ passed-all (λ e. not (eq new.key e.key)) contents.entries
      (All-weaker (IsOther eq new.key) (λ e. not (eq new.key e.key) ≡ true) (λ e differ. ap not differ) contents.entries none.entries)

  -- where it is judged itself it arrives in main, or has never been there
  candidacy-last : (gone : Option (List (Entry K V))) (contents : Contents K V) → HasNone eq new.key contents
      → IfSome gone (All (λ e. eq e.key new.key ≡ false))
      → after_candidacy eq (inside new) gone (after_entry eq keeps (inside new) contents) ≡ after_admission eq keeps (outside new) gone contents
  candidacy-last None contents none others =
      λ i. record {
        entries = entries-again contents none i;
        written =
            (writes-pushed eq keeps new.key new.key (expiry_of new) contents.written (laws.refl new.key)
            ∙ passed-all (λ w. not (eq new.key w.key)) contents.written none.written) i;
      }
  candidacy-last (Some gone) contents none others =
      let left = after_leaving eq (entry_keys gone) contents in
      ap (after_moving eq (outside new)) (leaving-push eq keeps (inside new) gone contents others)
      ∙ (λ i. record {
        entries = with_latest (outside new) (entries-again left (none-leaving eq new.key (entry_keys gone) contents none) i);
        written = with_write keeps left.written new.key (expiry_of new);
      })

  candidate-last : (contents : Contents K V) → HasNone eq new.key contents
      → after_candidate eq limits sketch (after_entry eq keeps (inside new) contents) (inside new)
      ≡ after_admission eq keeps (outside new) (victims_of (Some (main_limit limits)) sketch (outside new) (main_of contents.entries)) contents
  candidate-last contents none =
      ap (λ es. after_candidacy eq (inside new) (victims_of (Some (main_limit limits)) sketch (inside new) es)
      (after_entry eq keeps (inside new) contents)) (main-push contents)
      ∙ candidacy-last (victims_of (Some (main_limit limits)) sketch (inside new) (main_of contents.entries)) contents none
      (victims-apart (inside new) contents none)

  -- a new entry enters and what has to leave the window is judged: the same as where the old entries are judged first, and it enters then,
  -- if they weigh as much as has to leave
  pub entering-is_kept : (contents : Contents K V) → entry_at eq new.key contents.entries ≡ None
      → writes_without eq new.key contents.written ≡ contents.written → excess_left limits new contents.entries ≡ 0
      → after_entering eq keeps limits sketch new contents ≡ after_entry eq keeps (inside new) (after_judged eq limits sketch new contents)
  entering-is_kept contents absent unwritten enough =
      let none = none-absent eq new.key contents absent unwritten in
      let lacking = entering_excess limits new contents.entries in
      let entered = after_entry eq keeps (inside new) contents in
      ap (λ ws. after_candidates eq limits sketch (least_recent lacking ws) entered)
      (passed-push (λ e. is_window e.part) contents.entries (inside new) refl)
      ∙ (ap (λ cs. after_candidates eq limits sketch cs entered)
      (least_recent-enough lacking (window_of contents.entries) (inside new) enough)
      ∙ candidates-push (judged_first limits new contents.entries) contents (others-first eq new.key lacking contents.entries none.entries) none)

  -- or is the last to be judged and never enters, if they do not
  pub entering-is_judged : (contents : Contents K V) → entry_at eq new.key contents.entries ≡ None
      → writes_without eq new.key contents.written ≡ contents.written → 0 < excess_left limits new contents.entries
      → after_entering eq keeps limits sketch new contents
      ≡ after_admission eq keeps (outside new)
      (victims_of (Some (main_limit limits)) sketch (outside new) (main_of (after_judged eq limits sketch new contents).entries))
      (after_judged eq limits sketch new contents)
  entering-is_judged contents absent unwritten lacks =
      let none = none-absent eq new.key contents absent unwritten in
      let lacking = entering_excess limits new contents.entries in
      let first = judged_first limits new contents.entries in
      let entered = after_entry eq keeps (inside new) contents in
      let others = others-first eq new.key lacking contents.entries none.entries in
      ap (λ ws. after_candidates eq limits sketch (least_recent lacking ws) entered)
      (passed-push (λ e. is_window e.part) contents.entries (inside new) refl)
      ∙ (ap (λ cs. after_candidates eq limits sketch cs entered)
      (least_recent-last lacking (window_of contents.entries) (inside new) lacks)
      ∙ (fold-append (after_candidate eq limits sketch) entered first (inside new ∷ [])
      ∙ (ap (λ c. after_candidate eq limits sketch c (inside new)) (candidates-push first contents others none)
      ∙ candidate-last (after_judged eq limits sketch new contents) (none-candidates eq new.key limits sketch first contents others none))))

  -- no entry stands at its key before it enters or arrives
  pub absent-judged : (contents : Contents K V) → entry_at eq new.key contents.entries ≡ None
      → entry_at eq new.key (after_judged eq limits sketch new contents).entries ≡ None
  absent-judged contents absent =
      let all = others-absent eq new.key contents.entries absent in
      absent-others eq new.key (after_judged eq limits sketch new contents).entries
      (others-candidates eq new.key limits sketch (judged_first limits new contents.entries) contents
      (others-first eq new.key (entering_excess limits new contents.entries) contents.entries all) all)

  pub stands-arrived : (gone : Option (List (Entry K V))) (contents : Contents K V) → entry_at eq new.key contents.entries ≡ None
      → is_some (entry_at eq new.key (after_admission eq keeps (outside new) gone contents).entries) ≡ is_some gone
  stands-arrived None contents absent = ap is_some absent
  stands-arrived (Some gone) contents absent =
      let (front, back, parts, latest) = latest_parts (outside new) (after_leaving eq (entry_keys gone) contents).entries in
      ap (λ es. is_some (entry_at eq new.key es)) latest ∙ found-between eq new.key (outside new) front back (laws.refl new.key)

-- ---- the window while its entries are judged

module _ {K V : Type 0} (eq : K → K → Bool) where
  -- a key that none of these has
  abbrev pub IsApartFrom : List (Entry K V) → K → Type 0
  IsApartFrom ws key = All (λ w. eq key w.key ≡ false) ws

  -- the keys behind one that stands once differ from it
  apart-head : (e : Entry K V) (es : List (Entry K V)) → IsDistinct eq (entry_keys (e ∷ es)) → IsApartFrom es e.key
  apart-head e es once = by es (IsDistinct-head eq e.key (entry_keys es) once)
    where
      by : (xs : List (Entry K V)) → AllByRecursion (λ k. eq e.key k ≡ false) (entry_keys xs) → IsApartFrom xs e.key
      by [] apart = All-nil (λ w. eq e.key w.key ≡ false)
      by (x ∷ xs) apart = All-cons (λ w. eq e.key w.key ≡ false) x xs apart.0 (by xs apart.1)

  -- where no key stands twice those of main differ from those of the window
  main-apart : IsEquivalence eq → (es : List (Entry K V)) → IsDistinct eq (entry_keys es)
      → All (λ g. IsApartFrom (window_of es) g.key) (main_of es)
  main-apart laws [] once = All-nil (λ g. IsApartFrom [] g.key)
  main-apart laws (e ∷ es) once =
      let rest = main-apart laws es (IsDistinct-tail eq e.key (entry_keys es) once) in
      let head = apart-head e es once in
      elim (cases_Bool (is_window e.part)) [
        | inl waits ↦
            let window : window_of (e ∷ es) ≡ e ∷ window_of es = cond-true (is_window e.part) (e ∷ window_of es) (window_of es) waits in
            let main : main_of (e ∷ es) ≡ main_of es = cond-false (not (is_window e.part)) (e ∷ main_of es) (main_of es) (ap not waits) in
            subst (λ ws. All (λ g. IsApartFrom ws g.key) (main_of (e ∷ es))) (sym window)
            (subst (All (λ g. IsApartFrom (e ∷ window_of es) g.key)) (sym main)
            (both e (main_of es) (window_of es) (All-filter (λ x. not (is_window x.part)) (λ x. eq e.key x.key ≡ false) es head) rest))
        | inr in_main ↦
            let window : window_of (e ∷ es) ≡ window_of es = cond-false (is_window e.part) (e ∷ window_of es) (window_of es) in_main in
            let main : main_of (e ∷ es) ≡ e ∷ main_of es = cond-true (not (is_window e.part)) (e ∷ main_of es) (main_of es) (ap not in_main) in
            subst (λ ws. All (λ g. IsApartFrom ws g.key) (main_of (e ∷ es))) (sym window)
            (subst (All (λ g. IsApartFrom (window_of es) g.key)) (sym main)
            (All-cons (λ g. IsApartFrom (window_of es) g.key) e (main_of es)
            (All-filter (λ x. is_window x.part) (λ x. eq e.key x.key ≡ false) es head) rest))
      ]
    where
      both : (e : Entry K V) (gs ws : List (Entry K V)) → IsApartFrom gs e.key → All (λ g. IsApartFrom ws g.key) gs
          → All (λ g. IsApartFrom (e ∷ ws) g.key) gs
      both e [] ws head rest = All-nil (λ g. IsApartFrom (e ∷ ws) g.key)
      both e (g ∷ gs) ws head rest =
          All-cons (λ x. IsApartFrom (e ∷ ws) x.key) g gs
          (All-cons (λ w. eq g.key w.key ≡ false) e ws (laws.symm g.key e.key ∙ All-head (λ x. eq e.key x.key ≡ false) g gs head)
          (All-head (λ x. IsApartFrom ws x.key) g gs rest))
          (both e gs ws (All-tail (λ x. eq e.key x.key ≡ false) g gs head) (All-tail (λ x. IsApartFrom ws x.key) g gs rest))

  -- and so does the first of the window from the others there
  window-apart : (c : Entry K V) (ws es : List (Entry K V)) → IsDistinct eq (entry_keys es) → window_of es ≡ c ∷ ws → IsApartFrom ws c.key
  window-apart c ws [] once window = let no : ⊥ = omega (arith, ap length window) in absurd no
  window-apart c ws (e ∷ es) once window =
      elim (cases_Bool (is_window e.part)) [
        | inl waits ↦
            let same : e ∷ window_of es ≡ c ∷ ws = sym (cond-true (is_window e.part) (e ∷ window_of es) (window_of es) waits) ∙ window in
            let first : e ≡ c = ap (λ l. get_or l 0 e) same in
            let rest : window_of es ≡ ws = ap (drop 1) same in
            subst (λ l. IsApartFrom l c.key) rest
            (subst (λ x. IsApartFrom (window_of es) x.key) first
            (All-filter (λ x. is_window x.part) (λ x. eq e.key x.key ≡ false) es (apart-head e es once)))
        | inr in_main ↦
            window-apart c ws es (IsDistinct-tail eq e.key (entry_keys es) once)
            (sym (cond-false (is_window e.part) (e ∷ window_of es) (window_of es) in_main) ∙ window)
      ]

  window-without : (key : K) (es ws : List (Entry K V)) → window_of es ≡ ws → IsApartFrom ws key → window_of (entries_without eq key es) ≡ ws
  window-without key es ws window apart =
      both-tests (λ e. is_window e.part) (λ e. not (eq key e.key)) es
      ∙ (ap (entries_without eq key) window
      ∙ passed-all (λ e. not (eq key e.key)) ws
      (All-weaker (λ w. eq key w.key ≡ false) (λ w. not (eq key w.key) ≡ true) (λ w differ. ap not differ) ws apart))

  -- the window is as it was once others have left
  window-leaving : (gone : List (Entry K V)) (contents : Contents K V) (ws : List (Entry K V)) → window_of contents.entries ≡ ws
      → All (λ g. IsApartFrom ws g.key) gone → window_of (after_leaving eq (entry_keys gone) contents).entries ≡ ws
  window-leaving [] contents ws window apart = window
  window-leaving (g ∷ gs) contents ws window apart =
      window-leaving gs (without eq contents g.key) ws
      (window-without g.key contents.entries ws window (All-head (λ x. IsApartFrom ws x.key) g gs apart))
      (All-tail (λ x. IsApartFrom ws x.key) g gs apart)

  module _ (laws : IsEquivalence eq) where
    -- without its first the window is the rest
    window-rest : (c : Entry K V) (ws es : List (Entry K V)) → window_of es ≡ c ∷ ws → IsApartFrom ws c.key
        → window_of (entries_without eq c.key es) ≡ ws
    window-rest c ws es window apart =
        both-tests (λ e. is_window e.part) (λ e. not (eq c.key e.key)) es
        ∙ (ap (entries_without eq c.key) window
        ∙ (cond-false (not (eq c.key c.key)) (c ∷ entries_without eq c.key ws) (entries_without eq c.key ws) (ap not (laws.refl c.key))
        ∙ passed-all (λ e. not (eq c.key e.key)) ws
        (All-weaker (λ w. eq c.key w.key ≡ false) (λ w. not (eq c.key w.key) ≡ true) (λ w differ. ap not differ) ws apart)))

    window-candidacy : (c : Entry K V) (ws : List (Entry K V)) (gone : Option (List (Entry K V))) (contents : Contents K V)
        → window_of contents.entries ≡ c ∷ ws → IsApartFrom ws c.key → IfSome gone (All (λ g. IsApartFrom (c ∷ ws) g.key))
        → window_of (after_candidacy eq c gone contents).entries ≡ ws
    window-candidacy c ws None contents window apart others = window-rest c ws contents.entries window apart
    window-candidacy c ws (Some gone) contents window apart others =
        let left = after_leaving eq (entry_keys gone) contents in
        window-latest (outside c) (entries_without eq c.key left.entries) refl
        ∙ window-rest c ws left.entries (window-leaving gone contents (c ∷ ws) window others) apart

    -- the window is the rest once its first was judged
    pub judged-window : (limits : PartLimits) (sketch : Option Table) (c : Entry K V) (ws : List (Entry K V)) (contents : Contents K V)
        → IsDistinct eq (entry_keys contents.entries) → window_of contents.entries ≡ c ∷ ws
        → window_of (after_candidate eq limits sketch contents c).entries ≡ ws
    judged-window limits sketch c ws contents once window =
        window-candidacy c ws (victims_of (Some (main_limit limits)) sketch c (main_of contents.entries)) contents window
        (window-apart c ws contents.entries once window)
        (All-victims (λ g. IsApartFrom (c ∷ ws) g.key) (main_limit limits) sketch c (main_of contents.entries)
        (subst (λ l. All (λ g. IsApartFrom l g.key) (main_of contents.entries)) window (main-apart laws contents.entries once)))

    -- a key that none of the others has stands once before them
    once-cons : (e : Entry K V) (es : List (Entry K V)) → IsApartFrom es e.key → IsDistinct eq (entry_keys es)
        → IsDistinct eq (entry_keys (e ∷ es))
    once-cons e es apart once = IsDistinct-cons eq e.key (entry_keys es) (by es apart) once
      where
        by : (xs : List (Entry K V)) → IsApartFrom xs e.key → AllByRecursion (λ k. eq e.key k ≡ false) (entry_keys xs)
        by [] apart = tt
        by (x ∷ xs) apart = (All-head (λ w. eq e.key w.key ≡ false) x xs apart, by xs (All-tail (λ w. eq e.key w.key ≡ false) x xs apart))

    -- keys that stand once still do where some have left
    once-filter : (test : Entry K V → Bool) (es : List (Entry K V)) → IsDistinct eq (entry_keys es) → IsDistinct eq (entry_keys (filter test es))
    once-filter test [] once = once
    once-filter test (e ∷ es) once =
        let rest = once-filter test es (IsDistinct-tail eq e.key (entry_keys es) once) in
        elim (cases_Bool (test e)) [
          | inl passes ↦
              subst (λ l. IsDistinct eq (entry_keys l)) (sym (cond-true (test e) (e ∷ filter test es) (filter test es) passes))
              (once-cons e (filter test es) (All-filter test (λ w. eq e.key w.key ≡ false) es (apart-head e es once)) rest)
          | inr fails ↦
              subst (λ l. IsDistinct eq (entry_keys l)) (sym (cond-false (test e) (e ∷ filter test es) (filter test es) fails)) rest
        ]

    once-leaving : (keys : List K) (contents : Contents K V) → IsDistinct eq (entry_keys contents.entries)
        → IsDistinct eq (entry_keys (after_leaving eq keys contents).entries)
    once-leaving [] contents once = once
    once-leaving (k ∷ ks) contents once =
        once-leaving ks (without eq contents k) (once-filter (λ e. not (eq k e.key)) contents.entries once)

    -- and where one came that none of them is
    once-latest : (new : Entry K V) (es : List (Entry K V)) → IsApartFrom es new.key → IsDistinct eq (entry_keys es)
        → IsDistinct eq (entry_keys (with_latest new es))
    once-latest new [] apart once = once-cons new [] apart once
    once-latest new (e ∷ es) apart once =
        elim (cases_Bool (goes_before new e)) [
          | inl before ↦
              subst (λ l. IsDistinct eq (entry_keys l)) (sym (cond-true (goes_before new e) (new ∷ e ∷ es) (e ∷ with_latest new es) before))
              (once-cons new (e ∷ es) apart once)
          | inr behind ↦
              subst (λ l. IsDistinct eq (entry_keys l)) (sym (cond-false (goes_before new e) (new ∷ e ∷ es) (e ∷ with_latest new es) behind))
              (once-cons e (with_latest new es)
              (All-latest (λ w. eq e.key w.key ≡ false) new es (apart-head e es once)
              (laws.symm e.key new.key ∙ All-head (λ w. eq new.key w.key ≡ false) e es apart))
              (once-latest new es (All-tail (λ w. eq new.key w.key ≡ false) e es apart) (IsDistinct-tail eq e.key (entry_keys es) once)))
        ]

    once-candidacy : (c : Entry K V) (gone : Option (List (Entry K V))) (contents : Contents K V) → IsDistinct eq (entry_keys contents.entries)
        → IsDistinct eq (entry_keys (after_candidacy eq c gone contents).entries)
    once-candidacy c None contents once = once-leaving (c.key ∷ []) contents once
    once-candidacy c (Some gone) contents once =
        let left = after_leaving eq (entry_keys gone) contents in
        once-latest (outside c) (entries_without eq c.key left.entries)
        (All-weaker (λ e. not (eq c.key e.key) ≡ true) (λ e. eq c.key e.key ≡ false) (λ e passes. fails (eq c.key e.key) passes)
        (entries_without eq c.key left.entries) (filter_passes (λ e. not (eq c.key e.key)) left.entries))
        (once-filter (λ e. not (eq c.key e.key)) left.entries (once-leaving (entry_keys gone) contents once))
      where
        fails : (b : Bool) → not b ≡ true → b ≡ false
        fails true h = sym h
        fails false h = refl
