-- Lemmas on the entries of the window that are candidates for main.
use Rattle.std.proofs.Common.{◌≡◌, ◌⊎◌, ◌≤◌, ◌+◌, ◌-◌, ℕ, zero, suc, Bool, true, false, cond, not, List, [], ◌∷◌, ◌++◌, All, sum_by, nat_le, nat_lt}
use Rattle.std.proofs.Common.{is_some, Option, Some, None, option_map, unwrap_or, append-nil, refl, sym, ap, ◌∙◌, subst, inl, inr, arith}
use Rattle.std.proofs.lemmas.Bool.{cases_Bool, cond-true, cond-false, false≢true, leb-true}
use Rattle.std.proofs.lemmas.List.Elements.{All-cons, All-filter, All-from_recursion, All-head, All-push, All-tail}
use Rattle.std.proofs.lemmas.List.Sums.{sum_by-cons}
use Rattle.moka_common.specs.Admission.{outvoted}
use Rattle.moka_common.specs.Prefix.{shortest_prefix}
use Rattle.moka_common.specs.Settings.{keeps_writes}
use Rattle.moka_common.specs.Sketch.{Table, estimate}
use Rattle.moka_unsync_model.specs.declared.entry.Entry.{Entry}
use Rattle.moka_unsync_model.specs.Contents.{Contents, after_leaving, entry_at, entries_without, entry_keys, main_of, total_weight, window_of, is_window}
use Rattle.moka_unsync_model.specs.Contents.{is_protected}
use Rattle.moka_unsync_model.specs.CacheState.{CacheState}
use Rattle.moka_unsync_model.specs.Cleanup.{least_recent}
use Rattle.moka_unsync_model.specs.Insert.{Refused, after_asking, after_entering, after_entry, after_new, after_turn, after_verdict}
use Rattle.moka_unsync_model.specs.Window.{after_candidacy, after_candidates, candidates, excess, victims_of}
use Rattle.moka_unsync_model.proofs.SharingLemmas.{All-sharing, turned}
use Rattle.moka_unsync_model.proofs.ContentsLemmas.{All-leaving}
use Rattle.moka_unsync_model.proofs.WindowLemmas.{All-latest}
use Rattle.moka_unsync_model.specs.declared.shares.PartLimits.{PartLimits}
use Rattle.moka_unsync_model.specs.Shares.{main_limit}
use Rattle.moka_unsync_model.specs.declared.entry.Part.{Part}
use Rattle.moka_unsync_model.specs.declared.entry.Part.TheVariants.{Probation, Window}

-- a shortest prefix is a beginning, and weighs enough
pub prefix_parts : {X : Type 0} (weight : X → ℕ) (enough : ℕ) (xs prefix : List X) → shortest_prefix weight enough xs ≡ Some prefix
    → (rest : List X) × (xs ≡ prefix ++ rest) × (enough ≤ sum_by weight prefix)
prefix_parts weight zero xs prefix h = let is : [] ≡ prefix = ap (λ o. unwrap_or o []) h in (xs, ap (λ p. p ++ xs) is, grind (arith))
prefix_parts weight (suc n) [] prefix h = absurd (false≢true (ap is_some h))
prefix_parts {X = X} weight (suc n) (x ∷ xs) prefix h =
    by (shortest_prefix weight (suc n - weight x) xs) (prefix_parts weight (suc n - weight x) xs) h
  where
    by : (o : Option (List X)) → ((p : List X) → o ≡ Some p → (rest : List X) × (xs ≡ p ++ rest) × (suc n - weight x ≤ sum_by weight p))
        → option_map (λ p. x ∷ p) o ≡ Some prefix
        → (rest : List X) × (x ∷ xs ≡ prefix ++ rest) × (suc n ≤ sum_by weight prefix)
    by None parts_of h = absurd (false≢true (ap is_some h))
    by (Some p) parts_of h =
        let (rest, parts, enough) = parts_of p refl in
        let is : x ∷ p ≡ prefix = ap (λ o. unwrap_or o []) h in (
          rest,
          ap (λ l. x ∷ l) parts ∙ ap (λ l. l ++ rest) is,
          subst (λ l. suc n ≤ sum_by weight l) is (grind (arith, sum_by-cons weight x p, enough)),
        )

-- the candidates are a beginning that weighs as much as has to leave, or all
pub least_parts : {K V : Type 0} (enough : ℕ) (es : List (Entry K V))
    → (rest : List (Entry K V)) × (es ≡ least_recent enough es ++ rest) × ((enough ≤ total_weight (least_recent enough es)) ⊎ (rest ≡ []))
least_parts {K = K} {V = V} enough es = by (shortest_prefix (λ e. e.weight) enough es) (prefix_parts (λ e. e.weight) enough es)
  where
    by : (o : Option (List (Entry K V))) → ((p : List (Entry K V)) → o ≡ Some p
        → (rest : List (Entry K V)) × (es ≡ p ++ rest) × (enough ≤ total_weight p))
        → (rest : List (Entry K V)) × (es ≡ unwrap_or o es ++ rest) × ((enough ≤ total_weight (unwrap_or o es)) ⊎ (rest ≡ []))
    by None parts_of = ([], sym (append-nil es), inr refl)
    by (Some p) parts_of = let (rest, parts, heavy) = parts_of p refl in (rest, parts, inl heavy)

-- ---- those that give way

module _ {K V : Type 0} where
  weigh_victims : (limit : ℕ) (sketch : Option Table) (new : Entry K V) (entries : List (Entry K V)) (fits allowed : Bool)
      → (fits ≡ true → total_weight entries + new.weight ≤ limit)
      → (gone : List (Entry K V))
      → Some gone ≡ cond fits (Some [])
      (cond allowed (outvoted (λ e. e.weight) (λ e. estimate sketch e.hash) (estimate sketch new.hash)
      (shortest_prefix (λ e. e.weight) new.weight entries)) None)
      → (rest : List (Entry K V)) × (entries ≡ gone ++ rest)
      × ((total_weight entries + new.weight ≤ limit) ⊎ (new.weight ≤ total_weight gone))
  weigh_victims limit sketch new entries true allowed room gone is =
      let none : gone ≡ [] = ap (λ o. unwrap_or o []) is in (entries, ap (λ g. g ++ entries) (sym none), inl (room refl))
  weigh_victims limit sketch new entries false false room gone is = absurd (false≢true (sym (ap is_some is)))
  weigh_victims limit sketch new entries false true room gone is =
      let (rest, parts, enough) = by (shortest_prefix (λ e. e.weight) new.weight entries) (prefix_parts (λ e. e.weight) new.weight entries) is
      in (rest, parts, inr enough)
    where
      by : (o : Option (List (Entry K V))) → ((p : List (Entry K V)) → o ≡ Some p
          → (rest : List (Entry K V)) × (entries ≡ p ++ rest) × (new.weight ≤ total_weight p))
          → Some gone ≡ outvoted (λ e. e.weight) (λ e. estimate sketch e.hash) (estimate sketch new.hash) o
          → (rest : List (Entry K V)) × (entries ≡ gone ++ rest) × (new.weight ≤ total_weight gone)
      by None parts_of is = absurd (false≢true (sym (ap is_some is)))
      by (Some p) parts_of is =
          elim (cases_Bool (nat_lt (sum_by (λ e. estimate sketch e.hash) p) (estimate sketch new.hash))) [
            | inl above ↦
                let same : p ≡ gone =
                ap (λ o. unwrap_or o [])
                (sym (is ∙ cond-true (nat_lt (sum_by (λ e. estimate sketch e.hash) p) (estimate sketch new.hash)) (Some p) None above)) in
                subst (λ g. (rest : List (Entry K V)) × (entries ≡ g ++ rest) × (new.weight ≤ total_weight g)) same
                (parts_of p refl)
            | inr below ↦
                absurd (false≢true (sym
                (ap is_some (is ∙ cond-false (nat_lt (sum_by (λ e. estimate sketch e.hash) p) (estimate sketch new.hash)) (Some p) None
                below))))
          ]

  -- they are a beginning, and weigh as much as the new entry, or there is room for it
  pub victims_weigh : (limit : ℕ) (sketch : Option Table) (new : Entry K V) (entries gone : List (Entry K V))
      → victims_of (Some limit) sketch new entries ≡ Some gone
      → (rest : List (Entry K V)) × (entries ≡ gone ++ rest)
      × ((total_weight entries + new.weight ≤ limit) ⊎ (new.weight ≤ total_weight gone))
  victims_weigh limit sketch new entries gone is =
      weigh_victims limit sketch new entries (nat_le (total_weight entries + new.weight) limit) (nat_le new.weight limit)
      (leb-true (total_weight entries + new.weight) limit) gone (sym is)

-- ---- what holds of all entries

module _ {X : Type 0} (P : X → Type 0) where
  -- what holds of all holds of a beginning
  pub All-front : (xs ys : List X) → All P (xs ++ ys) → All P xs
  All-front [] ys all = All-from_recursion P [] tt
  All-front (x ∷ xs) ys all = All-cons P x xs (All-head P x (xs ++ ys) all) (All-front xs ys (All-tail P x (xs ++ ys) all))

module _ {K V : Type 0} (eq : K → K → Bool) (P : Entry K V → Type 0) (moves : (e : Entry K V) (part : Part) → is_protected part ≡ false → P e
    → P (record e { part = part }))
  where
    -- what holds of all entries, wherever they are, holds of the candidates
    pub All-chosen : (limits : PartLimits) (es : List (Entry K V)) → All P es → All P (candidates limits es)
    All-chosen limits es all =
        let (rest, parts, heavy) = least_parts (excess limits es) (window_of es) in
        All-front P (candidates limits es) rest (subst (All P) parts (All-filter (λ e. is_window e.part) P es all))

    All-candidacy : (e : Entry K V) (gone : Option (List (Entry K V))) (contents : Contents K V) → P e → All P contents.entries
        → All P (after_candidacy eq e gone contents).entries
    All-candidacy e None contents here all = All-leaving eq P (e.key ∷ []) contents all
    All-candidacy e (Some gone) contents here all =
        let left = after_leaving eq (entry_keys gone) contents in
        All-latest P (record e { part = Probation }) (entries_without eq e.key left.entries)
        (All-filter (λ x. not (eq e.key x.key)) P left.entries (All-leaving eq P (entry_keys gone) contents all)) (moves e Probation refl here)

    All-candidates : (limits : PartLimits) (sketch : Option Table) (es : List (Entry K V)) (contents : Contents K V) → All P es → All P contents.entries
        → All P (after_candidates eq limits sketch es contents).entries
    All-candidates limits sketch [] contents here all = all
    All-candidates limits sketch (e ∷ es) contents here all =
        let gone = victims_of (Some (main_limit limits)) sketch e (main_of contents.entries) in
        All-candidates limits sketch es (after_candidacy eq e gone contents) (All-tail P e es here)
        (All-candidacy e gone contents (All-head P e es here) all)

    -- and of what stands once a new one entered the window, of which it holds too
    pub All-entering : (keeps : Bool) (limits : PartLimits) (sketch : Option Table) (new : Entry K V) (contents : Contents K V) → All P contents.entries
        → P new → All P (after_entering eq keeps limits sketch new contents).entries
    All-entering keeps limits sketch new contents all here =
        let entered = after_entry eq keeps (record new { part = Window }) contents in
        let whole = All-push P contents.entries (record new { part = Window }) all (moves new Window refl here) in
        All-candidates limits sketch (candidates limits entered.entries) entered (All-chosen limits entered.entries whole) whole

    -- or was put
    pub All-new : {S W : Type 0} (cache : CacheState K V S W) (limit : Option PartLimits) (new : Entry K V) (refused : Refused) → All P cache.contents.entries
        → P new → All P (after_new eq cache limit new refused).contents.entries
    All-new cache None new refused all here =
        by (victims_of cache.settings.policy.max_capacity cache.sketch new cache.contents.entries)
      where
        by : (gone : Option (List (Entry K V))) → All P (after_verdict eq cache new gone refused).contents.entries
        by None = all
        by (Some gone) = All-latest P new _ (All-leaving eq P (entry_keys gone) cache.contents all) here
    All-new {S = S} {W = W} cache (Some limit) new refused all here =
        let entered = All-entering (keeps_writes cache.settings.policy) limit cache.sketch new cache.contents all here in
        by (is_some (entry_at eq new.key next.contents.entries))
        (turned eq (λ c. All P c.entries) cache cache.memory limit new contents entered
        (λ shared gained. All-sharing eq P moves shared gained contents entered))
      where
        contents : Contents K V
        contents = after_entering eq (keeps_writes cache.settings.policy) limit cache.sketch new cache.contents

        next : CacheState K V S W
        next = after_turn eq cache cache.memory limit new contents

        by : (b : Bool) → All P next.contents.entries → All P (cond b (after_asking eq refused next) next).contents.entries
        by true all = all
        by false all = all
