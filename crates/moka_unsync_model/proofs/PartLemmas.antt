-- Lemmas on protected: what is demoted stays in its place, and is of probation then.
use Rattle.std.proofs.Common.{◌≡◌, ◌≤◌, ◌+◌, ◌-◌, ◌*◌, ◌/◌, ◌%◌, ℕ, zero, suc, Bool, true, false, cond, not, ◌&&◌, List, [], ◌∷◌, ◌++◌, All, filter, map}
use Rattle.std.proofs.Common.{nat_le, nat_lt, is_some, Option, Some, None, option_map, unwrap_or, refl, sym, ap, ◌∙◌, subst, inl, inr, arith}
use Rattle.std.proofs.lemmas.Bool.{cases_Bool, cond-true, cond-false, false≢true}
use Rattle.std.proofs.lemmas.List.Elements.{All-cons, All-filter, All-head, All-tail}
use Rattle.std.proofs.lemmas.List.Sums.{sum_by-cons}
use Rattle.std.specs.List.{AllByRecursion}
use Rattle.moka_unsync_model.specs.declared.entry.Entry.{Entry}
use Rattle.moka_unsync_model.specs.declared.entry.Part.{Part}
use Rattle.moka_unsync_model.specs.declared.entry.Part.TheVariants.{Probation, Protected, Window}
use Rattle.moka_unsync_model.specs.Contents.{Contents, InOrder, balanced, demoted, entries_without, entry_at, entry_keys, is_before, is_protected, is_window}
use Rattle.moka_unsync_model.specs.Contents.{main_of, probation_of, protected_of, total_weight, window_of, with_latest}
use Rattle.moka_unsync_model.specs.Lookup.{after_using, used_part}
use Rattle.moka_unsync_model.specs.Shares.{hundredths}
use Rattle.moka_unsync_model.proofs.WindowLemmas.{All-latest, total-latest}

module _ {K V : Type 0} where
  -- what is the same of an entry in any part is the same of all
  pub map-demoted : {X : Type 0} (f : Entry K V → X) → ((e : Entry K V) (part : Part) → f (record e { part = part }) ≡ f e)
      → (weight : ℕ) (es : List (Entry K V)) → map f (demoted weight es) ≡ map f es
  map-demoted f same zero es = refl
  map-demoted f same (suc n) [] = refl
  map-demoted f same (suc n) (e ∷ es) =
      by (is_protected e.part) (map-demoted f same (suc n - e.weight) es) (map-demoted f same (suc n) es)
    where
      by : (b : Bool) → map f (demoted (suc n - e.weight) es) ≡ map f es → map f (demoted (suc n) es) ≡ map f es
          → map f (cond b (record e { part = Probation } ∷ demoted (suc n - e.weight) es) (e ∷ demoted (suc n) es)) ≡ map f (e ∷ es)
      by true fewer all = λ i. same e Probation i ∷ fewer i
      by false fewer all = ap (λ l. f e ∷ l) all

  pub keys-demoted : (weight : ℕ) (es : List (Entry K V)) → entry_keys (demoted weight es) ≡ entry_keys es
  keys-demoted weight es = map-demoted (λ e. e.key) (λ e part. refl) weight es

  -- they weigh as much
  pub total-demoted : (weight : ℕ) (es : List (Entry K V)) → total_weight (demoted weight es) ≡ total_weight es
  total-demoted zero es = refl
  total-demoted (suc n) [] = refl
  total-demoted (suc n) (e ∷ es) = by (is_protected e.part) (total-demoted (suc n - e.weight) es) (total-demoted (suc n) es)
    where
      by : (b : Bool) → total_weight (demoted (suc n - e.weight) es) ≡ total_weight es → total_weight (demoted (suc n) es) ≡ total_weight es
          → total_weight (cond b (record e { part = Probation } ∷ demoted (suc n - e.weight) es) (e ∷ demoted (suc n) es))
          ≡ total_weight (e ∷ es)
      by true fewer all =
          sum_by-cons (λ x. x.weight) (record e { part = Probation }) (demoted (suc n - e.weight) es)
          ∙ (ap (λ m. e.weight + m) fewer ∙ sym (sum_by-cons (λ x. x.weight) e es))
      by false fewer all =
          sum_by-cons (λ x. x.weight) e (demoted (suc n) es) ∙ (ap (λ m. e.weight + m) all ∙ sym (sum_by-cons (λ x. x.weight) e es))

  -- what holds of all entries, in whatever part they are, still does
  pub All-demoted : (P : Entry K V → Type 0) → ((e : Entry K V) → is_protected e.part ≡ true → P e → P (record e { part = Probation }))
      → (weight : ℕ) (es : List (Entry K V)) → All P es → All P (demoted weight es)
  All-demoted P moves zero es all = all
  All-demoted P moves (suc n) [] all = all
  All-demoted P moves (suc n) (e ∷ es) all =
      let rest = All-tail P e es all in
      by (is_protected e.part) refl (All-head P e es all) (All-demoted P moves (suc n - e.weight) es rest) (All-demoted P moves (suc n) es rest)
    where
      by : (b : Bool) → is_protected e.part ≡ b → P e → All P (demoted (suc n - e.weight) es) → All P (demoted (suc n) es)
          → All P (cond b (record e { part = Probation } ∷ demoted (suc n - e.weight) es) (e ∷ demoted (suc n) es))
      by true is here fewer all = All-cons P (record e { part = Probation }) (demoted (suc n - e.weight) es) (moves e is here) fewer
      by false is here fewer all = All-cons P e (demoted (suc n) es) here all

  -- the window is the same
  pub window-demoted : (weight : ℕ) (es : List (Entry K V)) → window_of (demoted weight es) ≡ window_of es
  window-demoted zero es = refl
  window-demoted (suc n) [] = refl
  window-demoted (suc n) (e ∷ es) = by e.part (window-demoted (suc n - e.weight) es) (window-demoted (suc n) es)
    where
      by : (part : Part) → window_of (demoted (suc n - e.weight) es) ≡ window_of es → window_of (demoted (suc n) es) ≡ window_of es
          → window_of (cond (is_protected part) (record e { part = Probation } ∷ demoted (suc n - e.weight) es)
          (record e { part = part } ∷ demoted (suc n) es)) ≡ window_of (record e { part = part } ∷ es)
      by Probation fewer all = all
      by Protected fewer all = fewer
      by Window fewer all = ap (λ l. record e { part = Window } ∷ l) all

  -- protected weighs so much less
  protected-demoted : (weight : ℕ) (es : List (Entry K V))
      → total_weight (protected_of (demoted weight es)) ≤ total_weight (protected_of es) - weight
  protected-demoted zero es = omega arith
  protected-demoted (suc n) [] = omega arith
  protected-demoted (suc n) (e ∷ es) = by e.part (protected-demoted (suc n - e.weight) es) (protected-demoted (suc n) es)
    where
      less : (a w t : ℕ) → a ≤ t - (suc n - w) → a ≤ (w + t) - suc n
      less a w t h = omega arith

      by : (part : Part) → total_weight (protected_of (demoted (suc n - e.weight) es)) ≤ total_weight (protected_of es) - (suc n - e.weight)
          → total_weight (protected_of (demoted (suc n) es)) ≤ total_weight (protected_of es) - suc n
          → total_weight (protected_of (cond (is_protected part) (record e { part = Probation } ∷ demoted (suc n - e.weight) es)
          (record e { part = part } ∷ demoted (suc n) es))) ≤ total_weight (protected_of (record e { part = part } ∷ es)) - suc n
      by Probation fewer all = all
      by Protected fewer all =
          subst (λ m. total_weight (protected_of (demoted (suc n - e.weight) es)) ≤ m - suc n)
          (sym (sum_by-cons (λ (x : Entry K V). x.weight) (record e { part = Protected }) (protected_of es)))
          (less (total_weight (protected_of (demoted (suc n - e.weight) es))) e.weight (total_weight (protected_of es)) fewer)
      by Window fewer all = all

  -- so that it is within its room
  pub protected-balanced : (room : ℕ) (es : List (Entry K V)) → total_weight (protected_of (balanced room es)) ≤ room
  protected-balanced room es =
      let total = total_weight (protected_of es) in
      let less = protected-demoted (total - room) es in
      by (total_weight (protected_of (balanced room es))) total less
    where
      by : (a t : ℕ) → a ≤ t - (t - room) → a ≤ room
      by a t h = omega arith

-- ---- one after another

module _ {K V : Type 0} where
  -- one that isn't in protected stays as it is
  pub demoted-cons : (weight : ℕ) (e : Entry K V) (es : List (Entry K V)) → is_protected e.part ≡ false
      → demoted weight (e ∷ es) ≡ e ∷ demoted weight es
  demoted-cons zero e es free = refl
  demoted-cons (suc n) e es free =
      cond-false (is_protected e.part) (record e { part = Probation } ∷ demoted (suc n - e.weight) es) (e ∷ demoted (suc n) es) free

  -- the first of protected is the first to be demoted
  pub demoted-first : (weight : ℕ) (front : List (Entry K V)) (e : Entry K V) (back : List (Entry K V))
      → AllByRecursion (λ f. is_protected f.part ≡ false) front → is_protected e.part ≡ true
      → demoted (suc weight) (front ++ e ∷ back) ≡ demoted (suc weight - e.weight) (front ++ record e { part = Probation } ∷ back)
  demoted-first n [] e back free is =
      cond-true (is_protected e.part) (record e { part = Probation } ∷ demoted (suc n - e.weight) back) (e ∷ demoted (suc n) back) is
      ∙ sym (demoted-cons (suc n - e.weight) (record e { part = Probation }) back refl)
  demoted-first n (f ∷ fs) e back free is =
      demoted-cons (suc n) f (fs ++ e ∷ back) free.0
      ∙ (ap (λ l. f ∷ l) (demoted-first n fs e back free.1 is)
      ∙ sym (demoted-cons (suc n - e.weight) f (fs ++ record e { part = Probation } ∷ back) free.0))

-- ---- what is found

module _ {K V : Type 0} where
  -- what was found, in another part
  abbrev pub placed : (Part → Part) → Option (Entry K V) → Option (Entry K V)
  placed f o = option_map (λ (e : Entry K V). record e { part = f e.part }) o

  pub placed-same : (o : Option (Entry K V)) → placed (λ part. part) o ≡ o
  placed-same None = refl
  placed-same (Some e) = refl

  pub entry_at-demoted : (eq : K → K → Bool) (key : K) (weight : ℕ) (es : List (Entry K V))
      → (f : Part → Part) × (entry_at eq key (demoted weight es) ≡ placed f (entry_at eq key es))
  entry_at-demoted eq key zero es = (λ part. part, sym (placed-same (entry_at eq key es)))
  entry_at-demoted eq key (suc n) [] = (λ part. part, refl)
  entry_at-demoted eq key (suc n) (e ∷ es) =
      by (is_protected e.part) (entry_at-demoted eq key (suc n - e.weight) es) (entry_at-demoted eq key (suc n) es)
    where
      by : (b : Bool) → (f : Part → Part) × (entry_at eq key (demoted (suc n - e.weight) es) ≡ placed f (entry_at eq key es))
          → (f : Part → Part) × (entry_at eq key (demoted (suc n) es) ≡ placed f (entry_at eq key es))
          → (f : Part → Part)
          × (entry_at eq key (cond b (record e { part = Probation } ∷ demoted (suc n - e.weight) es) (e ∷ demoted (suc n) es))
          ≡ placed f (entry_at eq key (e ∷ es)))
      by true (f, at) all =
          elim (cases_Bool (eq key e.key)) [
            | inl equal ↦ (
              λ part. Probation,
              cond-true (eq key e.key) (Some (record e { part = Probation })) (entry_at eq key (demoted (suc n - e.weight) es)) equal
                  ∙ sym (ap (placed (λ part. Probation)) (cond-true (eq key e.key) (Some e) (entry_at eq key es) equal)),
            )
            | inr differ ↦ (
              f,
              cond-false (eq key e.key) (Some (record e { part = Probation })) (entry_at eq key (demoted (suc n - e.weight) es)) differ
                  ∙ (at ∙ sym (ap (placed f) (cond-false (eq key e.key) (Some e) (entry_at eq key es) differ))),
            )
          ]
      by false fewer (f, at) =
          elim (cases_Bool (eq key e.key)) [
            | inl equal ↦ (
              λ part. part,
              cond-true (eq key e.key) (Some e) (entry_at eq key (demoted (suc n) es)) equal
                  ∙ sym (ap (placed (λ part. part)) (cond-true (eq key e.key) (Some e) (entry_at eq key es) equal)),
            )
            | inr differ ↦ (
              f,
              cond-false (eq key e.key) (Some e) (entry_at eq key (demoted (suc n) es)) differ
                  ∙ (at ∙ sym (ap (placed f) (cond-false (eq key e.key) (Some e) (entry_at eq key es) differ))),
            )
          ]

  -- one that waits in the window was not demoted
  pub waits-demoted : (eq : K → K → Bool) (key : K) (weight : ℕ) (es : List (Entry K V)) (e : Entry K V)
      → entry_at eq key (demoted weight es) ≡ Some e → is_window e.part ≡ true → entry_at eq key es ≡ Some e
  waits-demoted eq key zero es e h waits = h
  waits-demoted eq key (suc n) [] e h waits = h
  waits-demoted eq key (suc n) (x ∷ xs) e h waits =
      by (is_protected x.part) (waits-demoted eq key (suc n - x.weight) xs e) (waits-demoted eq key (suc n) xs e) h
    where
      by : (b : Bool)
          → (entry_at eq key (demoted (suc n - x.weight) xs) ≡ Some e → is_window e.part ≡ true → entry_at eq key xs ≡ Some e)
          → (entry_at eq key (demoted (suc n) xs) ≡ Some e → is_window e.part ≡ true → entry_at eq key xs ≡ Some e)
          → entry_at eq key (cond b (record x { part = Probation } ∷ demoted (suc n - x.weight) xs) (x ∷ demoted (suc n) xs)) ≡ Some e
          → entry_at eq key (x ∷ xs) ≡ Some e
      by true less all h =
          elim (cases_Bool (eq key x.key)) [
            | inl equal ↦
                let is : record x { part = Probation } ≡ e =
                ap (λ o. unwrap_or o e)
                (sym (cond-true (eq key x.key) (Some (record x { part = Probation })) (entry_at eq key (demoted (suc n - x.weight) xs)) equal) ∙ h) in
                absurd (false≢true (ap (λ (e : Entry K V). is_window e.part) is ∙ waits))
            | inr differ ↦
                cond-false (eq key x.key) (Some x) (entry_at eq key xs) differ
                ∙ less
                (sym (cond-false (eq key x.key) (Some (record x { part = Probation })) (entry_at eq key (demoted (suc n - x.weight) xs)) differ) ∙ h)
                waits
          ]
      by false less all h =
          elim (cases_Bool (eq key x.key)) [
            | inl equal ↦
                cond-true (eq key x.key) (Some x) (entry_at eq key xs) equal
                ∙ (sym (cond-true (eq key x.key) (Some x) (entry_at eq key (demoted (suc n) xs)) equal) ∙ h)
            | inr differ ↦
                cond-false (eq key x.key) (Some x) (entry_at eq key xs) differ
                ∙ all (sym (cond-false (eq key x.key) (Some x) (entry_at eq key (demoted (suc n) xs)) differ) ∙ h) waits
          ]

  -- and stays as it is
  pub stays-demoted : (eq : K → K → Bool) (key : K) (weight : ℕ) (es : List (Entry K V)) (e : Entry K V)
      → entry_at eq key es ≡ Some e → is_window e.part ≡ true → entry_at eq key (demoted weight es) ≡ Some e
  stays-demoted eq key zero es e h waits = h
  stays-demoted eq key (suc n) [] e h waits = h
  stays-demoted eq key (suc n) (x ∷ xs) e h waits =
      elim (cases_Bool (eq key x.key)) [
        | inl equal ↦
            let is : x ≡ e = ap (λ o. unwrap_or o e) (sym (cond-true (eq key x.key) (Some x) (entry_at eq key xs) equal) ∙ h) in
            let free : is_protected x.part ≡ false = unprotected x.part (ap (λ (e : Entry K V). is_window e.part) is ∙ waits) in
            ap (entry_at eq key) (cond-false (is_protected x.part) _ (x ∷ demoted (suc n) xs) free)
            ∙ (cond-true (eq key x.key) (Some x) (entry_at eq key (demoted (suc n) xs)) equal ∙ ap Some is)
        | inr differ ↦
            let found = sym (cond-false (eq key x.key) (Some x) (entry_at eq key xs) differ) ∙ h in
            by (is_protected x.part) differ (stays-demoted eq key (suc n - x.weight) xs e found waits) (stays-demoted eq key (suc n) xs e found waits)
      ]
    where
      unprotected : (part : Part) → is_window part ≡ true → is_protected part ≡ false
      unprotected Probation w = refl
      unprotected Protected w = absurd (false≢true w)
      unprotected Window w = refl

      by : (b : Bool) → eq key x.key ≡ false → entry_at eq key (demoted (suc n - x.weight) xs) ≡ Some e → entry_at eq key (demoted (suc n) xs) ≡ Some e
          → entry_at eq key (cond b (record x { part = Probation } ∷ demoted (suc n - x.weight) xs) (x ∷ demoted (suc n) xs)) ≡ Some e
      by true differ less all =
          cond-false (eq key x.key) (Some (record x { part = Probation })) (entry_at eq key (demoted (suc n - x.weight) xs)) differ ∙ less
      by false differ less all = cond-false (eq key x.key) (Some x) (entry_at eq key (demoted (suc n) xs)) differ ∙ all

  -- it is what was there, but for its part
  pub placed-some : (f : Part → Part) (o : Option (Entry K V)) (e : Entry K V) → placed f o ≡ Some e
      → (old : Entry K V) × (o ≡ Some old) × (e ≡ record old { part = e.part })
  placed-some f None e h = absurd (false≢true (ap is_some h))
  placed-some f (Some old) e h =
      let is : record old { part = f old.part } ≡ e = ap (λ o. unwrap_or o old) h in
      (old, refl, sym is ∙ ap (λ (x : Entry K V). record old { part = x.part }) is)

  -- and nothing where there was nothing
  pub placed-none : (f : Part → Part) (o : Option (Entry K V)) → placed f o ≡ None → o ≡ None
  placed-none f None h = refl
  placed-none f (Some old) h = absurd (false≢true (sym (ap is_some h)))

  -- what is the same of an entry in any part is the same of what is found
  pub placed-map : {X : Type 0} (g : Entry K V → X) → ((e : Entry K V) (part : Part) → g (record e { part = part }) ≡ g e)
      → (f : Part → Part) (o : Option (Entry K V)) → option_map g (placed f o) ≡ option_map g o
  placed-map g same f None = refl
  placed-map g same f (Some e) = ap Some (same e (f e.part))

-- ---- an entry that is used

module _ {K V : Type 0} (eq : K → K → Bool) where
  -- it adds its weight to that of the others
  pub total-using : (room : ℕ) (entry : Entry K V) (contents : Contents K V)
      → total_weight (after_using eq room entry contents).entries ≡ total_weight (entries_without eq entry.key contents.entries) + entry.weight
  total-using room entry contents =
      let used = record entry { part = used_part room entry.part entry.weight } in
      let es = with_latest used (entries_without eq entry.key contents.entries) in
      total-demoted (total_weight (protected_of es) - room) es ∙ total-latest used (entries_without eq entry.key contents.entries)

  -- what holds of it, where it is then, and of all others holds of all
  pub All-using : (P : Entry K V → Type 0) → ((e : Entry K V) → is_protected e.part ≡ true → P e → P (record e { part = Probation }))
      → (room : ℕ) (entry : Entry K V) (contents : Contents K V) → P (record entry { part = used_part room entry.part entry.weight })
      → All P contents.entries → All P (after_using eq room entry contents).entries
  All-using P moves room entry contents here all =
      let used = record entry { part = used_part room entry.part entry.weight } in
      let es = with_latest used (entries_without eq entry.key contents.entries) in
      All-demoted P moves (total_weight (protected_of es) - room) es
      (All-latest P used (entries_without eq entry.key contents.entries)
      (All-filter (λ e. not (eq entry.key e.key)) P contents.entries all) here)

  -- protected is within its room then
  pub protected-using : (room : ℕ) (entry : Entry K V) (contents : Contents K V)
      → total_weight (protected_of (after_using eq room entry contents).entries) ≤ room
  protected-using room entry contents =
      protected-balanced room
      (with_latest (record entry { part = used_part room entry.part entry.weight }) (entries_without eq entry.key contents.entries))

-- it is in the window then if it was there
pub window-used : (room : ℕ) (part : Part) (weight : ℕ) → is_window (used_part room part weight) ≡ is_window part
window-used room part weight = by (is_window part) (nat_lt 0 room && nat_le weight room)
  where
    by : (waits fits : Bool) → is_window (cond waits Window (cond fits Protected Probation)) ≡ waits
    by true fits = refl
    by false true = refl
    by false false = refl

-- ---- the order of the parts

-- a part that stands before none of two stands before none of those before them
no_sooner : (x a b : Part) → is_before x a ≡ false → is_before a b ≡ false → is_before x b ≡ false
no_sooner Probation Probation b later last = last
no_sooner Probation Protected b later last = absurd (false≢true (sym later))
no_sooner Probation Window b later last = absurd (false≢true (sym later))
no_sooner Protected a Probation later last = refl
no_sooner Protected a Protected later last = refl
no_sooner Protected Probation Window later last = last
no_sooner Protected Protected Window later last = last
no_sooner Protected Window Window later last = later
no_sooner Window a b later last = refl

-- of two parts one stands before the other
pub one_first : (a b : Part) → is_before a b ≡ true → is_before b a ≡ false
one_first Probation Probation h = refl
one_first Probation Protected h = refl
one_first Probation Window h = refl
one_first Protected Probation h = absurd (false≢true h)
one_first Protected Protected h = refl
one_first Protected Window h = refl
one_first Window b h = absurd (false≢true h)

-- where what was in a part may be once it was demoted
abbrev lowered : Part → Part
lowered Probation = Probation
lowered Protected = Probation
lowered Window = Window

module _ {K V : Type 0} where
  pub order-sooner : (a b : Part) (es : List (Entry K V)) → is_before a b ≡ false → InOrder a es → InOrder b es
  order-sooner a b [] later s = tt
  order-sooner a b (e ∷ es) later s = (no_sooner e.part a b s.0 later, s.1)

  pub order-filter : (test : Entry K V → Bool) (last : Part) (es : List (Entry K V)) → InOrder last es → InOrder last (filter test es)
  order-filter test last [] s = tt
  order-filter test last (e ∷ es) s =
      let rest = order-filter test e.part es s.1 in
      elim (cases_Bool (test e)) [
        | inl passes ↦ subst (InOrder last) (sym (cond-true (test e) (e ∷ filter test es) (filter test es) passes)) (s.0, rest)
        | inr fails ↦
            subst (InOrder last) (sym (cond-false (test e) (e ∷ filter test es) (filter test es) fails))
            (order-sooner e.part last (filter test es) s.0 rest)
      ]

  pub order-latest : (entry : Entry K V) (last : Part) (es : List (Entry K V)) → is_before entry.part last ≡ false → InOrder last es
      → InOrder last (with_latest entry es)
  order-latest entry last [] later s = (later, tt)
  order-latest entry last (e ∷ es) later s =
      elim (cases_Bool (is_before entry.part e.part)) [
        | inl first ↦
            subst (InOrder last) (sym (cond-true (is_before entry.part e.part) (entry ∷ e ∷ es) (e ∷ with_latest entry es) first))
            (later, (one_first entry.part e.part first, s.1))
        | inr behind ↦
            subst (InOrder last) (sym (cond-false (is_before entry.part e.part) (entry ∷ e ∷ es) (e ∷ with_latest entry es) behind))
            (s.0, order-latest entry e.part es behind s.1)
      ]

  order-demoted : (weight : ℕ) (last : Part) (es : List (Entry K V)) → InOrder last es → InOrder (lowered last) (demoted weight es)
  order-demoted zero last es s = order-sooner last (lowered last) es (below last) s
    where
      below : (part : Part) → is_before part (lowered part) ≡ false
      below Probation = refl
      below Protected = refl
      below Window = refl
  order-demoted (suc n) last [] s = tt
  order-demoted (suc n) last (e ∷ es) s =
      by e.part last s.0 (order-demoted (suc n - e.weight) e.part es s.1) (order-demoted (suc n) e.part es s.1)
    where
      by : (part last : Part) → is_before part last ≡ false → InOrder (lowered part) (demoted (suc n - e.weight) es)
          → InOrder (lowered part) (demoted (suc n) es)
          → InOrder (lowered last) (cond (is_protected part) (record e { part = Probation } ∷ demoted (suc n - e.weight) es)
          (record e { part = part } ∷ demoted (suc n) es))
      by Probation Probation later fewer all = (refl, all)
      by Probation Protected later fewer all = (refl, all)
      by Probation Window later fewer all = (later, all)
      by Protected Probation later fewer all = (refl, fewer)
      by Protected Protected later fewer all = (refl, fewer)
      by Protected Window later fewer all = (later, fewer)
      by Window last later fewer all = (refl, all)

  pub order-balanced : (room : ℕ) (es : List (Entry K V)) → InOrder Probation es → InOrder Probation (balanced room es)
  order-balanced room es s = order-demoted (total_weight (protected_of es) - room) Probation es s

  -- behind the first of the window all are in it
  pub record AllWindow (es : List (Entry K V)) : Type 0 where
    pub main : main_of es ≡ []
    pub probation : probation_of es ≡ []
    pub protected : protected_of es ≡ []
    pub window : window_of es ≡ es

  pub order-window : (es : List (Entry K V)) → InOrder Window es → AllWindow es
  order-window [] s = record { main = refl; probation = refl; protected = refl; window = refl }
  order-window (e ∷ es) s = by e.part s.0 s.1 (order-window es)
    where
      by : (part : Part) → is_before part Window ≡ false → InOrder part es → (InOrder Window es → AllWindow es)
          → AllWindow (record e { part = part } ∷ es)
      by Probation first s rest = absurd (false≢true (sym first))
      by Protected first s rest = absurd (false≢true (sym first))
      by Window first s rest =
          let r = rest s in
          record { main = r.main; probation = r.probation; protected = r.protected; window = ap (λ l. record e { part = Window } ∷ l) r.window }

  -- behind the first of protected none is of probation
  pub record NoProbation (es : List (Entry K V)) : Type 0 where
    pub main : main_of es ≡ protected_of es
    pub probation : probation_of es ≡ []
    pub parts : es ≡ protected_of es ++ window_of es

  pub order-protected : (es : List (Entry K V)) → InOrder Protected es → NoProbation es
  order-protected [] s = record { main = refl; probation = refl; parts = refl }
  order-protected (e ∷ es) s = by e.part s.0 s.1 (order-protected es)
    where
      by : (part : Part) → is_before part Protected ≡ false → InOrder part es → (InOrder Protected es → NoProbation es)
          → NoProbation (record e { part = part } ∷ es)
      by Probation first s rest = absurd (false≢true (sym first))
      by Protected first s rest =
          let r = rest s in
          record {
            main = ap (λ l. record e { part = Protected } ∷ l) r.main;
            probation = r.probation;
            parts = ap (λ l. record e { part = Protected } ∷ l) r.parts;
          }
      by Window first s rest =
          let w = order-window es s in
          record {
            main = w.main ∙ sym w.protected;
            probation = w.probation;
            parts = sym (λ i. w.protected i ++ record e { part = Window } ∷ w.window i);
          }

  -- the parts in their order are all
  pub record ArePartsInOrder (es : List (Entry K V)) : Type 0 where
    pub main : main_of es ≡ probation_of es ++ protected_of es
    pub parts : es ≡ probation_of es ++ (protected_of es ++ window_of es)

  pub order-parts : (es : List (Entry K V)) → InOrder Probation es → ArePartsInOrder es
  order-parts [] s = record { main = refl; parts = refl }
  order-parts (e ∷ es) s = by e.part s.1 (order-parts es)
    where
      by : (part : Part) → InOrder part es → (InOrder Probation es → ArePartsInOrder es) → ArePartsInOrder (record e { part = part } ∷ es)
      by Probation s rest =
          let r = rest s in
          record {
            main = ap (λ l. record e { part = Probation } ∷ l) r.main;
            parts = ap (λ l. record e { part = Probation } ∷ l) r.parts;
          }
      by Protected s rest =
          let p = order-protected es s in
          record {
            main = sym (λ i. p.probation i ++ record e { part = Protected } ∷ sym p.main i);
            parts = sym (λ i. p.probation i ++ record e { part = Protected } ∷ sym p.parts i);
          }
      by Window s rest =
          let w = order-window es s in
          record {
            main = w.main ∙ sym (λ i. w.probation i ++ w.protected i);
            parts = sym (λ i. w.probation i ++ (w.protected i ++ record e { part = Window } ∷ w.window i));
          }

-- ---- hundredths

-- a share can be computed with no number above the weight, where it is no more than all
pub hundredths-split : (share weight : ℕ) → hundredths share weight ≡ weight / 100 * share + weight % 100 * share / 100
hundredths-split share weight =
    let whole : weight ≡ 100 * (weight / 100) + weight % 100 = omega arith in
    let product : weight * share ≡ (100 * (weight / 100) + weight % 100) * share = ap (λ n. n * share) whole in
    by (weight / 100 * share) (weight % 100 * share) (weight * share) (omega (arith, product))
  where
    by : (a b c : ℕ) → c ≡ 100 * a + b → c / 100 ≡ a + b / 100
    by a b c h = omega arith
