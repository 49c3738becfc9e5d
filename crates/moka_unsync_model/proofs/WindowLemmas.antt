-- Lemmas on main and the window.
use Rattle.std.proofs.Common.{◌≡◌, ◌+◌, Bool, true, false, not, List, [], ◌∷◌, ◌++◌, All, filter, Some}
use Rattle.std.proofs.Common.{append_assoc, refl, sym, ap, ◌∙◌, subst, inl, inr, arith}
use Rattle.std.proofs.lemmas.Bool.{cases_Bool, cond-true, cond-false, false≢true}
use Rattle.std.proofs.lemmas.List.Elements.{All-cons, All-from_recursion, All-head, All-tail, filter-append}
use Rattle.std.proofs.lemmas.List.Filters.{sum_by-filter_both}
use Rattle.std.proofs.lemmas.List.Sums.{sum_by-append, sum_by-cons}
use Rattle.std.proofs.lemmas.Map.Keys.{IsDistinct-head, IsDistinct-tail}
use Rattle.std.specs.Cmp.{IsEquivalence}
use Rattle.std.specs.List.{AllByRecursion, IsDistinct}
use Rattle.moka_unsync_model.specs.declared.entry.Entry.{Entry}
use Rattle.moka_unsync_model.specs.declared.entry.Part.{Part}
use Rattle.moka_unsync_model.specs.declared.entry.Part.TheVariants.{Probation, Protected, Window}
use Rattle.moka_unsync_model.specs.Contents.{Contents, after_leaving, after_moving, entries_without, entry_keys, is_before, is_window, main_of}
use Rattle.moka_unsync_model.specs.Contents.{total_weight, window_of, with_latest, without}
use Rattle.moka_unsync_model.specs.Window.{after_candidacy}

-- each of main stands before the window
pub before-window : (a b : Part) → is_window a ≡ false → is_window b ≡ true → is_before a b ≡ true
before-window Probation Probation main waits = absurd (false≢true waits)
before-window Probation Protected main waits = absurd (false≢true waits)
before-window Probation Window main waits = refl
before-window Protected b main waits = waits
before-window Window b main waits = absurd (false≢true (sym main))

-- and nothing that is in the window stands before any
pub window-last : (a b : Part) → is_window a ≡ true → is_before a b ≡ false
window-last Probation b waits = absurd (false≢true waits)
window-last Protected b waits = absurd (false≢true waits)
window-last Window b waits = refl

module _ {K V : Type 0} where
  -- where one more entry stands before another
  abbrev pub goes_before : Entry K V → Entry K V → Bool
  goes_before entry e = is_before entry.part e.part

  -- one more entry stands between some of the others
  pub latest_parts : (entry : Entry K V) (entries : List (Entry K V))
      → (front : List (Entry K V)) × (back : List (Entry K V)) × (entries ≡ front ++ back) × (with_latest entry entries ≡ front ++ entry ∷ back)
  latest_parts entry [] = ([], [], refl, refl)
  latest_parts entry (e ∷ es) =
      elim (cases_Bool (goes_before entry e)) [
        | inl before ↦ ([], e ∷ es, refl, cond-true (goes_before entry e) (entry ∷ e ∷ es) (e ∷ with_latest entry es) before)
        | inr behind ↦
            let (front, back, parts, latest) = latest_parts entry es in (
              e ∷ front,
              back,
              ap (λ l. e ∷ l) parts,
              cond-false (goes_before entry e) (entry ∷ e ∷ es) (e ∷ with_latest entry es) behind ∙ ap (λ l. e ∷ l) latest,
            )
      ]

  -- it adds its weight
  pub total-latest : (entry : Entry K V) (entries : List (Entry K V))
      → total_weight (with_latest entry entries) ≡ total_weight entries + entry.weight
  total-latest entry entries =
      let (front, back, parts, latest) = latest_parts entry entries in
      grind (
        arith,
        ap total_weight parts,
        ap total_weight latest,
        sum_by-append (λ e. e.weight) front back,
        sum_by-append (λ e. e.weight) front (entry ∷ back),
        sum_by-cons (λ e. e.weight) entry back,
      )

  -- what holds of it and the others holds of all
  pub All-latest : (P : Entry K V → Type 0) (entry : Entry K V) (entries : List (Entry K V)) → All P entries → P entry
      → All P (with_latest entry entries)
  All-latest P entry [] all here = All-from_recursion P (entry ∷ []) (here, tt)
  All-latest P entry (e ∷ es) all here =
      elim (cases_Bool (goes_before entry e)) [
        | inl before ↦
            subst (All P) (sym (cond-true (goes_before entry e) (entry ∷ e ∷ es) (e ∷ with_latest entry es) before))
            (All-cons P entry (e ∷ es) here all)
        | inr behind ↦
            subst (All P) (sym (cond-false (goes_before entry e) (entry ∷ e ∷ es) (e ∷ with_latest entry es) behind))
            (All-cons P e (with_latest entry es) (All-head P e es all) (All-latest P entry es (All-tail P e es all) here))
      ]

  -- main and the window are all entries
  pub total-split : (entries : List (Entry K V)) → total_weight (main_of entries) + total_weight (window_of entries) ≡ total_weight entries
  total-split entries = sum_by-filter_both (λ e. not (is_window e.part)) (λ e. is_window e.part) double (λ e. e.weight) entries
    where
      double : (e : Entry K V) → is_window e.part ≡ not (not (is_window e.part))
      double e = by (is_window e.part)
        where
          by : (b : Bool) → b ≡ not (not b)
          by true = refl
          by false = refl

  -- with nothing that it is before an entry stands behind all, and so does one of the window in any case
  pub latest-last : (entry : Entry K V) (entries : List (Entry K V)) → All (λ e. goes_before entry e ≡ false) entries
      → with_latest entry entries ≡ entries ++ entry ∷ []
  latest-last entry [] all = refl
  latest-last entry (e ∷ es) all =
      cond-false (goes_before entry e) (entry ∷ e ∷ es) (e ∷ with_latest entry es) (All-head (λ e. goes_before entry e ≡ false) e es all)
      ∙ ap (λ l. e ∷ l) (latest-last entry es (All-tail (λ e. goes_before entry e ≡ false) e es all))

  -- a test that the new entry fails passes the same as before
  pub latest-filtered : (p : Entry K V → Bool) (entry : Entry K V) (entries : List (Entry K V)) → p entry ≡ false
      → filter p (with_latest entry entries) ≡ filter p entries
  latest-filtered p entry entries fails =
      let (front, back, parts, latest) = latest_parts entry entries in
      ap (filter p) latest
      ∙ (filter-append p front (entry ∷ back)
      ∙ (ap (λ l. filter p front ++ l) (cond-false (p entry) (entry ∷ filter p back) (filter p back) fails)
      ∙ sym (ap (filter p) parts ∙ filter-append p front back)))

  -- an entry of main leaves the window as it was, and adds its weight to main
  pub window-latest : (entry : Entry K V) (entries : List (Entry K V)) → is_window entry.part ≡ false
      → window_of (with_latest entry entries) ≡ window_of entries
  window-latest entry entries main = latest-filtered (λ e. is_window e.part) entry entries main

  pub total-main_latest : (entry : Entry K V) (entries : List (Entry K V)) → is_window entry.part ≡ false
      → total_weight (main_of (with_latest entry entries)) ≡ total_weight (main_of entries) + entry.weight
  total-main_latest entry entries main =
      grind (
        arith,
        total-split (with_latest entry entries),
        total-split entries,
        total-latest entry entries,
        ap total_weight (window-latest entry entries main),
      )

-- ---- the first of the window comes to main

module _ {K V : Type 0} where
  -- an entry stands between those that it is not before and those that it is before
  pub latest-between : (entry : Entry K V) (front back : List (Entry K V)) → AllByRecursion (λ e. goes_before entry e ≡ false) front
      → AllByRecursion (λ e. goes_before entry e ≡ true) back → with_latest entry (front ++ back) ≡ front ++ entry ∷ back
  latest-between entry [] [] behind before = refl
  latest-between entry [] (e ∷ es) behind before =
      cond-true (goes_before entry e) (entry ∷ e ∷ es) (e ∷ with_latest entry es) before.0
  latest-between entry (f ∷ fs) back behind before =
      cond-false (goes_before entry f) (entry ∷ f ∷ fs ++ back) (f ∷ with_latest entry (fs ++ back)) behind.0
      ∙ ap (λ l. f ∷ l) (latest-between entry fs back behind.1 before)

module _ {K V : Type 0} (eq : K → K → Bool) (laws : IsEquivalence eq) where
  -- without one that has no entry all stay
  without-other : (key : K) (es : List (Entry K V)) → AllByRecursion (λ k. eq key k ≡ false) (entry_keys es) → entries_without eq key es ≡ es
  without-other key [] apart = refl
  without-other key (e ∷ es) apart =
      cond-true (not (eq key e.key)) (e ∷ entries_without eq key es) (entries_without eq key es) (ap not apart.0)
      ∙ ap (λ l. e ∷ l) (without-other key es apart.1)

  -- without one, where no key stands twice, all others stay
  pub without-between : (c : Entry K V) (front back : List (Entry K V)) → IsDistinct eq (entry_keys (front ++ c ∷ back))
      → entries_without eq c.key (front ++ c ∷ back) ≡ front ++ back
  without-between c [] back once =
      cond-false (not (eq c.key c.key)) (c ∷ entries_without eq c.key back) (entries_without eq c.key back) (ap not (laws.refl c.key))
      ∙ without-other c.key back (IsDistinct-head eq c.key (entry_keys back) once)
  without-between c (f ∷ fs) back once =
      let differ : eq f.key c.key ≡ false = among fs (IsDistinct-head eq f.key (entry_keys (fs ++ c ∷ back)) once) in
      cond-true (not (eq c.key f.key)) (f ∷ entries_without eq c.key (fs ++ c ∷ back)) (entries_without eq c.key (fs ++ c ∷ back))
      (ap not (laws.symm c.key f.key ∙ differ))
      ∙ ap (λ l. f ∷ l) (without-between c fs back (IsDistinct-tail eq f.key (entry_keys (fs ++ c ∷ back)) once))
    where
      among : (xs : List (Entry K V)) → AllByRecursion (λ k. eq f.key k ≡ false) (entry_keys (xs ++ c ∷ back)) → eq f.key c.key ≡ false
      among [] apart = apart.0
      among (x ∷ xs) apart = among xs apart.1

  -- behind probation it is the last of that, before protected and the window
  pub promoted : (c : Entry K V) (front between back : List (Entry K V)) (contents : Contents K V)
      → contents.entries ≡ front ++ (between ++ c ∷ back) → AllByRecursion (λ e. is_before Probation e.part ≡ false) front
      → AllByRecursion (λ e. is_before Probation e.part ≡ true) (between ++ back) → IsDistinct eq (entry_keys contents.entries)
      → (after_moving eq (record c { part = Probation }) contents).entries ≡ front ++ record c { part = Probation } ∷ (between ++ back)
  promoted c front between back contents parts probation later once =
      let whole : contents.entries ≡ (front ++ between) ++ c ∷ back = parts ∙ sym (append_assoc front between (c ∷ back)) in
      ap (λ es. with_latest (record c { part = Probation }) (entries_without eq c.key es)) whole
      ∙ (ap (with_latest (record c { part = Probation }))
      (without-between c (front ++ between) back (subst (λ es. IsDistinct eq (entry_keys es)) whole once) ∙ append_assoc front between back)
      ∙ latest-between (record c { part = Probation }) front (between ++ back) probation later)

  -- behind some entries no key stands twice
  once-behind : (front back : List (Entry K V)) → IsDistinct eq (entry_keys (front ++ back)) → IsDistinct eq (entry_keys back)
  once-behind [] back once = once
  once-behind (f ∷ fs) back once = once-behind fs back (IsDistinct-tail eq f.key (entry_keys (fs ++ back)) once)

  -- once the first of them have left, those behind them stand
  pub leaving-front : (gone rest : List (Entry K V)) (contents : Contents K V) → contents.entries ≡ gone ++ rest
      → IsDistinct eq (entry_keys contents.entries) → (after_leaving eq (entry_keys gone) contents).entries ≡ rest
  leaving-front [] rest contents parts once = parts
  leaving-front (g ∷ gs) rest contents parts once =
      let apart : IsDistinct eq (entry_keys (g ∷ gs ++ rest)) = subst (λ es. IsDistinct eq (entry_keys es)) parts once in
      let left : entries_without eq g.key contents.entries ≡ gs ++ rest =
      ap (entries_without eq g.key) parts ∙ without-between g [] (gs ++ rest) apart in
      leaving-front gs rest (without eq contents g.key) left
      (subst (λ es. IsDistinct eq (entry_keys es)) (sym left) (IsDistinct-tail eq g.key (entry_keys (gs ++ rest)) apart))

  -- it comes to probation in place of the first of main
  pub admitted : (c : Entry K V) (gone front between back : List (Entry K V)) (contents : Contents K V)
      → contents.entries ≡ gone ++ (front ++ (between ++ c ∷ back)) → AllByRecursion (λ e. is_before Probation e.part ≡ false) front
      → AllByRecursion (λ e. is_before Probation e.part ≡ true) (between ++ back) → IsDistinct eq (entry_keys contents.entries)
      → (after_candidacy eq c (Some gone) contents).entries ≡ front ++ record c { part = Probation } ∷ (between ++ back)
  admitted c gone front between back contents parts probation later once =
      let left : (after_leaving eq (entry_keys gone) contents).entries ≡ front ++ (between ++ c ∷ back) =
      leaving-front gone (front ++ (between ++ c ∷ back)) contents parts once in
      promoted c front between back (after_leaving eq (entry_keys gone) contents) left probation later
      (subst (λ es. IsDistinct eq (entry_keys es)) (sym left)
      (once-behind gone (front ++ (between ++ c ∷ back)) (subst (λ es. IsDistinct eq (entry_keys es)) parts once)))
