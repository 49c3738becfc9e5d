-- Lemmas on candidates for main, which stand in the window until it is their turn.
use Rattle.std.proofs.Common.{◌≡◌, ℕ, Bool, true, false, not, List, [], ◌∷◌, ◌++◌, All, filter, Option, Some, None, unwrap_or, option_map}
use Rattle.std.proofs.Common.{refl, sym, ap, ◌∙◌, subst, inl, inr}
use Rattle.std.proofs.lemmas.Bool.{cases_Bool, cond-true, cond-false, false≢true}
use Rattle.std.proofs.lemmas.List.Elements.{All-cons, All-from_recursion, All-head, All-tail, recursion_from_All}
use Rattle.std.proofs.lemmas.Map.Keys.{IsDistinct-cons, IsDistinct-head, IsDistinct-tail}
use Rattle.std.specs.Cmp.{IsEquivalence}
use Rattle.std.specs.List.{AllByRecursion, IsDistinct}
use Rattle.moka_common.specs.Sketch.{Table}
use Rattle.moka_unsync_model.specs.declared.entry.Entry.{Entry}
use Rattle.moka_unsync_model.specs.Contents.{Contents, after_leaving, entry_at, entry_keys, main_of, window_of, without, is_window}
use Rattle.moka_unsync_model.specs.Window.{after_candidacy, candidates, excess, victims_of}
use Rattle.moka_unsync_model.proofs.CandidateLemmas.{All-front, least_parts, victims_weigh}
use Rattle.moka_unsync_model.proofs.KeyLemmas.{StandOnce}
use Rattle.moka_unsync_model.proofs.MapLemmas.{entry_at-equal, entry_at-moved, entry_at-other}
use Rattle.moka_unsync_model.specs.declared.shares.PartLimits.{PartLimits}
use Rattle.moka_unsync_model.specs.declared.entry.Part.TheVariants.{Probation}

module _ {X : Type 0} (P : X → Type 0) (test : X → Bool) where
  -- what passes a test passes it
  pub All-passing : (xs : List X) → All P xs → All (λ x. P x × (test x ≡ true)) (filter test xs)
  All-passing [] all = All-from_recursion _ [] tt
  All-passing (x ∷ xs) all =
      elim (cases_Bool (test x)) [
        | inl passes ↦
            subst (All (λ x. P x × (test x ≡ true))) (sym (cond-true (test x) (x ∷ filter test xs) (filter test xs) passes))
            (All-cons (λ x. P x × (test x ≡ true)) x (filter test xs) (All-head P x xs all, passes) (All-passing xs (All-tail P x xs all)))
        | inr fails ↦
            subst (All (λ x. P x × (test x ≡ true))) (sym (cond-false (test x) (x ∷ filter test xs) (filter test xs) fails))
            (All-passing xs (All-tail P x xs all))
      ]

-- no key stands twice where there is none
none_once : {K : Type 0} (eq : K → K → Bool) (V : Type 0) → StandOnce {V = V} eq []
unfolding IsDistinct
none_once eq V = tt

module _ {K V : Type 0} (eq : K → K → Bool) where
  -- a key that differs from all differs from those that pass a test
  apart-passing : (key : K) (test : Entry K V → Bool) (es : List (Entry K V)) → AllByRecursion (λ k. eq key k ≡ false) (entry_keys es)
      → AllByRecursion (λ k. eq key k ≡ false) (entry_keys (filter test es))
  apart-passing key test [] all = tt
  apart-passing key test (e ∷ es) all =
      elim (cases_Bool (test e)) [
        | inl passes ↦
            subst (λ l. AllByRecursion (λ k. eq key k ≡ false) (entry_keys l))
            (sym (cond-true (test e) (e ∷ filter test es) (filter test es) passes)) (all.0, apart-passing key test es all.1)
        | inr fails ↦
            subst (λ l. AllByRecursion (λ k. eq key k ≡ false) (entry_keys l))
            (sym (cond-false (test e) (e ∷ filter test es) (filter test es) fails)) (apart-passing key test es all.1)
      ]

  once-passing : (test : Entry K V → Bool) (es : List (Entry K V)) → StandOnce eq es → StandOnce eq (filter test es)
  once-passing test [] once = once
  once-passing test (e ∷ es) once =
      let rest = once-passing test es (IsDistinct-tail eq e.key (entry_keys es) once) in
      elim (cases_Bool (test e)) [
        | inl passes ↦
            subst (StandOnce eq) (sym (cond-true (test e) (e ∷ filter test es) (filter test es) passes))
            (IsDistinct-cons eq e.key (entry_keys (filter test es))
            (apart-passing e.key test es (IsDistinct-head eq e.key (entry_keys es) once)) rest)
        | inr fails ↦ subst (StandOnce eq) (sym (cond-false (test e) (e ∷ filter test es) (filter test es) fails)) rest
      ]

  apart-front : (key : K) (xs ys : List (Entry K V)) → AllByRecursion (λ k. eq key k ≡ false) (entry_keys (xs ++ ys))
      → AllByRecursion (λ k. eq key k ≡ false) (entry_keys xs)
  apart-front key [] ys all = tt
  apart-front key (x ∷ xs) ys all = (all.0, apart-front key xs ys all.1)

  pub once-front : (xs ys : List (Entry K V)) → StandOnce eq (xs ++ ys) → StandOnce eq xs
  once-front [] ys once = none_once eq V
  once-front (x ∷ xs) ys once =
      IsDistinct-cons eq x.key (entry_keys xs) (apart-front x.key xs ys (IsDistinct-head eq x.key (entry_keys (xs ++ ys)) once))
      (once-front xs ys (IsDistinct-tail eq x.key (entry_keys (xs ++ ys)) once))

  module _ (laws : IsEquivalence eq) where
    -- an entry stands at its key
    abbrev pub Stands : List (Entry K V) → Entry K V → Type 0
    Stands es e = entry_at eq e.key es ≡ Some e

    stand-behind : (e : Entry K V) (es xs : List (Entry K V)) → AllByRecursion (λ k. eq e.key k ≡ false) (entry_keys xs)
        → AllByRecursion (Stands es) xs → AllByRecursion (Stands (e ∷ es)) xs
    stand-behind e es [] apart all = tt
    stand-behind e es (x ∷ xs) apart all = (
      cond-false (eq x.key e.key) (Some e) (entry_at eq x.key es) (laws.symm x.key e.key ∙ apart.0) ∙ all.0,
      stand-behind e es xs apart.1 all.1,
    )

    -- where no key stands twice each entry stands at its key
    pub stand-all : (es : List (Entry K V)) → StandOnce eq es → AllByRecursion (Stands es) es
    stand-all [] once = tt
    stand-all (e ∷ es) once = (
      cond-true (eq e.key e.key) (Some e) (entry_at eq e.key es) (laws.refl e.key),
      stand-behind e es es (IsDistinct-head eq e.key (entry_keys es) once) (stand-all es (IsDistinct-tail eq e.key (entry_keys es) once)),
    )

    -- and so does each of main, or of the window
    abbrev pub StandsIn : List (Entry K V) → Bool → Entry K V → Type 0
    StandsIn es window e = Stands es e × (is_window e.part ≡ window)

    pub window-stands : (es : List (Entry K V)) → StandOnce eq es → All (StandsIn es true) (window_of es)
    window-stands es once = All-passing (Stands es) (λ e. is_window e.part) es (All-from_recursion (Stands es) es (stand-all es once))

    pub main-stands : (es : List (Entry K V)) → StandOnce eq es → All (StandsIn es false) (main_of es)
    main-stands es once =
        flipped (main_of es) (All-passing (Stands es) (λ e. not (is_window e.part)) es (All-from_recursion (Stands es) es (stand-all es once)))
      where
        other : (b : Bool) → not b ≡ true → b ≡ false
        other true h = sym h
        other false h = refl

        flipped : (xs : List (Entry K V)) → All (λ e. Stands es e × (not (is_window e.part) ≡ true)) xs → All (StandsIn es false) xs
        flipped [] all = All-from_recursion (StandsIn es false) [] tt
        flipped (x ∷ xs) all =
            let here = All-head (λ e. Stands es e × (not (is_window e.part) ≡ true)) x xs all in
            All-cons (StandsIn es false) x xs (here.0, other (is_window x.part) here.1)
            (flipped xs (All-tail (λ e. Stands es e × (not (is_window e.part) ≡ true)) x xs all))

    -- and each that passes a test
    pub part-stands : (test : Entry K V → Bool) (es : List (Entry K V)) → StandOnce eq es
        → All (λ e. Stands es e × (test e ≡ true)) (filter test es)
    part-stands test es once = All-passing (Stands es) test es (All-from_recursion (Stands es) es (stand-all es once))

    -- one of main and one of the window have other keys
    pub apart-lists : (es : List (Entry K V)) (g e : Entry K V) → StandsIn es false g → StandsIn es true e → eq g.key e.key ≡ false
    apart-lists es g e main window =
        elim (cases_Bool (eq g.key e.key)) [
          | inl equal ↦
              absurd (false≢true
              (sym main.1 ∙ (ap (λ o. unwrap_or (option_map (λ x. is_window x.part) o) true)
              (sym main.0 ∙ (entry_at-equal laws g.key e.key equal es ∙ window.0)) ∙ window.1)))
          | inr differ ↦ differ
        ]

    -- an entry that no other is stays at its key once others have left
    pub entry_at-apart : (key : K) (gone : List (Entry K V)) (contents : Contents K V) → AllByRecursion (λ g. eq g.key key ≡ false) gone
        → entry_at eq key (after_leaving eq (entry_keys gone) contents).entries ≡ entry_at eq key contents.entries
    entry_at-apart key [] contents apart = refl
    entry_at-apart key (g ∷ gs) contents apart =
        entry_at-apart key gs (without eq contents g.key) apart.1 ∙ entry_at-other laws g.key key apart.0 contents.entries

    apart-all : (es : List (Entry K V)) (e : Entry K V) → StandsIn es true e → (gone : List (Entry K V)) → All (StandsIn es false) gone
        → AllByRecursion (λ g. eq g.key e.key ≡ false) gone
    apart-all es e window [] all = tt
    apart-all es e window (g ∷ gs) all = (
      apart-lists es g e (All-head (StandsIn es false) g gs all) window,
      apart-all es e window gs (All-tail (StandsIn es false) g gs all),
    )

    -- where some of main have given way, one of the window stands as before
    pub stands-left : (limit : ℕ) (sketch : Option Table) (candidate : Entry K V) (gone : List (Entry K V)) (contents : Contents K V)
        → StandOnce eq contents.entries → victims_of (Some limit) sketch candidate (main_of contents.entries) ≡ Some gone
        → (e : Entry K V) → StandsIn contents.entries true e
        → entry_at eq e.key (after_leaving eq (entry_keys gone) contents).entries ≡ Some e
    stands-left limit sketch candidate gone contents once is e window =
        let (rest, parts, weigh) = victims_weigh limit sketch candidate (main_of contents.entries) gone is in
        let main = All-front (StandsIn contents.entries false) gone rest
        (subst (All (StandsIn contents.entries false)) parts (main-stands contents.entries once)) in
        entry_at-apart e.key gone contents (apart-all contents.entries e window gone main) ∙ window.0

    -- candidates stand in the window, each key once
    pub record AreCandidates (contents : Contents K V) (es : List (Entry K V)) : Type 0 where
      pub stand : AllByRecursion (StandsIn contents.entries true) es
      pub once : StandOnce eq es

    pub are-chosen : (limits : PartLimits) (contents : Contents K V) → StandOnce eq contents.entries
        → AreCandidates contents (candidates limits contents.entries)
    are-chosen limits contents once =
        let (rest, parts, heavy) = least_parts (excess limits contents.entries) (window_of contents.entries) in
        let chosen = candidates limits contents.entries in
        record {
          stand =
              recursion_from_All (StandsIn contents.entries true) chosen
              (All-front (StandsIn contents.entries true) chosen rest
              (subst (All (StandsIn contents.entries true)) parts (window-stands contents.entries once)));
          once = once-front chosen rest (subst (StandOnce eq) parts (once-passing (λ e. is_window e.part) contents.entries once));
        }

    -- the others still do after one of them was judged
    pub are-left : (limit : ℕ) (sketch : Option Table) (e : Entry K V) (es : List (Entry K V)) (contents : Contents K V)
        → StandOnce eq contents.entries → AreCandidates contents (e ∷ es)
        → (gone : Option (List (Entry K V))) → victims_of (Some limit) sketch e (main_of contents.entries) ≡ gone
        → AreCandidates (after_candidacy eq e gone contents) es
    are-left limit sketch e es contents once are gone is =
        record {
          stand = all es (IsDistinct-head eq e.key (entry_keys es) are.once) are.stand.1;
          once = IsDistinct-tail eq e.key (entry_keys es) are.once;
        }
      where
        one : (o : Option (List (Entry K V))) → victims_of (Some limit) sketch e (main_of contents.entries) ≡ o
            → (x : Entry K V) → eq e.key x.key ≡ false → StandsIn contents.entries true x
            → StandsIn (after_candidacy eq e o contents).entries true x
        one None is x differ stands = (entry_at-other laws e.key x.key differ contents.entries ∙ stands.0, stands.1)
        one (Some gone) is x differ stands =
            let left = after_leaving eq (entry_keys gone) contents in
            let moved = record e { part = Probation } in (
              entry_at-moved laws x.key moved left.entries
                  ∙ (cond-false (eq e.key x.key) (Some moved) (entry_at eq x.key left.entries) differ
                  ∙ stands-left limit sketch e gone contents once is x stands),
              stands.1,
            )

        all : (xs : List (Entry K V)) → AllByRecursion (λ k. eq e.key k ≡ false) (entry_keys xs)
            → AllByRecursion (StandsIn contents.entries true) xs → AllByRecursion (StandsIn (after_candidacy eq e gone contents).entries true) xs
        all [] apart stand = tt
        all (x ∷ xs) apart stand = (one gone is x apart.0 stand.0, all xs apart.1 stand.1)
