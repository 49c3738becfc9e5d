-- Lemmas on an index in two tables: in which one an id stands, and what a change of one table leaves of both.
use Rattle.std.proofs.Common.{◌≡◌, ◌∙◌, ◌<◌, ◌≤◌, ◌+◌, ◌-◌, ◌++◌, ◌∷◌, ◌||◌, ◌&&◌, ◌⊎◌, ℕ, Bool, true, false, cond}
use Rattle.std.proofs.Common.{nat_eq, nat_le, nat_lt, filter, List, [], refl, sym, ap, inl, inr, subst, arith}
use Rattle.std.specs.List.{list_any}
use Rattle.std.proofs.lemmas.Bool.{and_from, and_parts, and_right, cases_Bool, eqb-false, eqb-true, false_from_ne_true, false≢true}
use Rattle.std.proofs.lemmas.Bool.{le-leb, leb-true, lt-ltb, ltb-true, or_from, or_left, or_parts, or_right}
use Rattle.std.proofs.lemmas.List.Folds.{list_any-append}
use Rattle.moka_list.specs.HashIndex.{HashIndex, candidates, is_candidate as stands, Adds as TableAdds, Removes as TableRemoves}
use Rattle.moka_list.specs.GrowingIndex.{GrowingIndex, Adds, KeepsAll, Removes}
use Rattle.moka_list.specs.Moving.{IsMoving, Passes, is_smaller}
use Rattle.moka_list.proofs.StandsLemmas.{no_ids}

-- ---- in which table

-- an id of the smaller table is one of those left
pub smaller_parts : (next ids id : ℕ) → is_smaller next ids id ≡ true → (next ≤ id) × (id < ids)
smaller_parts next ids id h = let p = and_parts (nat_le next id) (nat_lt id ids) h in (leb-true next id p.0, ltb-true id ids p.1)

pub smaller_from : (next ids id : ℕ) → next ≤ id → id < ids → is_smaller next ids id ≡ true
smaller_from next ids id from below = and_from (nat_le next id) (nat_lt id ids) (le-leb next id from) (lt-ltb id ids below)

-- one that isn't among them is none
pub not_smaller : (next ids id : ℕ) → (next ≤ id → id < ids → ⊥) → is_smaller next ids id ≡ false
not_smaller next ids id not = false_from_ne_true (is_smaller next ids id) (λ h. let p = smaller_parts next ids id h in not p.0 p.1)

-- what an index shows of its tables
abbrev pub shown_of : HashIndex → HashIndex → ℕ → GrowingIndex
shown_of table smaller next =
    record { table = table; smaller = smaller; ids = table.ids; left = smaller.ids - next; next = next }

-- whether an id is a candidate in the larger table, or in the smaller one among those left
abbrev pub is_any : HashIndex → HashIndex → ℕ → ℕ → ℕ → Bool
is_any table smaller next hash id = list_any (nat_eq id) (candidates table hash ++ filter (nat_le next) (candidates smaller hash))

-- an id is listed among those that pass a test if it passes
listed_filter : (test : ℕ → Bool) (id : ℕ) (ids : List ℕ) → list_any (nat_eq id) (filter test ids) ≡ (test id && list_any (nat_eq id) ids)
listed_filter test id [] = sym (and_right (test id) false refl)
listed_filter test id (i ∷ ids) = by (nat_eq id i) refl (test i) refl (test id) refl (listed_filter test id ids)
  where
    by : (same : Bool) → nat_eq id i ≡ same → (a : Bool) → test i ≡ a → (b : Bool) → test id ≡ b
        → list_any (nat_eq id) (filter test ids) ≡ (test id && list_any (nat_eq id) ids)
        → list_any (nat_eq id) (cond a (i ∷ filter test ids) (filter test ids)) ≡ (b && (same || list_any (nat_eq id) ids))
    by true same true ia true ib rest = ap (λ e. e || list_any (nat_eq id) (filter test ids)) same
    by true same true ia false ib rest = absurd (false≢true (sym ib ∙ (ap test (eqb-true id i same) ∙ ia)))
    by true same false ia true ib rest = absurd (false≢true (sym ia ∙ (ap test (sym (eqb-true id i same)) ∙ ib)))
    by true same false ia false ib rest = rest ∙ ap (λ t. t && list_any (nat_eq id) ids) ib
    by false other true ia b ib rest =
        ap (λ e. e || list_any (nat_eq id) (filter test ids)) other ∙ (rest ∙ ap (λ t. t && list_any (nat_eq id) ids) ib)
    by false other false ia b ib rest = rest ∙ ap (λ t. t && list_any (nat_eq id) ids) ib

pub in_either : (table smaller : HashIndex) (next hash id : ℕ)
    → is_any table smaller next hash id ≡ (stands table hash id || (nat_le next id && stands smaller hash id))
in_either table smaller next hash id =
    list_any-append (nat_eq id) (candidates table hash) (filter (nat_le next) (candidates smaller hash))
    ∙ ap (λ b. stands table hash id || b) (listed_filter (nat_le next) id (candidates smaller hash))

module _ {table smaller : HashIndex} {next : ℕ} (s : IsMoving table smaller next) (id : ℕ) where
  -- its number tells the table
  pub in_smaller : (hash : ℕ) → is_smaller next smaller.ids id ≡ true → is_any table smaller next hash id ≡ stands smaller hash id
  in_smaller hash is =
      in_either table smaller next hash id
      ∙ ap (λ b. b || (nat_le next id && stands smaller hash id))
      (false_from_ne_true (stands table hash id) (λ h. false≢true (sym (s.moved hash id h) ∙ is)))
      ∙ ap (λ b. b && stands smaller hash id) (and_parts (nat_le next id) (nat_lt id smaller.ids) is).0

  -- none of those left is a candidate in the smaller table that doesn't belong there
  pub absent : (hash : ℕ) → is_smaller next smaller.ids id ≡ false → (nat_le next id && stands smaller hash id) ≡ false
  absent hash is =
      false_from_ne_true (nat_le next id && stands smaller hash id) (λ h.
      let p = and_parts (nat_le next id) (stands smaller hash id) h in
      false≢true (sym is ∙ and_from (nat_le next id) (nat_lt id smaller.ids) p.0 (lt-ltb id smaller.ids (s.below hash id p.1))))

  pub in_larger : (hash : ℕ) → is_smaller next smaller.ids id ≡ false → is_any table smaller next hash id ≡ stands table hash id
  in_larger hash is =
      in_either table smaller next hash id ∙ ap (λ b. stands table hash id || b) (absent hash is) ∙ or_none (stands table hash id)
    where
      or_none : (b : Bool) → (b || false) ≡ b
      or_none true = refl
      or_none false = refl

-- ---- one id comes or goes

-- what holds of an id, and of all others
own_or_other : (P : ℕ → Type 0) (id i : ℕ) → P id → (nat_eq id i ≡ false → P i) → P i
own_or_other P id i own others =
    elim (cases_Bool (nat_eq id i)) [
      | inl same ↦ subst P (eqb-true id i same) own
      | inr other ↦ others other
    ]

module _ {table smaller : HashIndex} {next : ℕ} (s : IsMoving table smaller next) (id hash : ℕ) (new : HashIndex) where
  -- an id comes into the smaller table
  pub added_smaller : is_smaller next smaller.ids id ≡ true → TableAdds smaller id hash new
      → IsMoving table new next × Adds (shown_of table smaller next) id hash (shown_of table new next)
  added_smaller is step = (
    record {
      fits = subst (λ n. n ≤ table.ids) (sym step.ids) s.fits;
      begun = subst (λ n. (next < n) ⊎ (n ≡ 0) × (next ≡ 0)) (sym step.ids) s.begun;
      moved = λ h i c. subst (λ n. is_smaller next n i ≡ false) (sym step.ids) (s.moved h i c);
      below = λ h i c.
          subst (λ n. i < n) (sym step.ids)
          (own_or_other (λ j. j < smaller.ids) id i (smaller_parts next smaller.ids id is).1
          (λ other. s.below h i (sym (step.others h i other) ∙ c)));
    },
    record {
      under =
          in_either table new next hash id
          ∙ or_right (stands table hash id) (nat_le next id && stands new hash id)
          (and_from (nat_le next id) (stands new hash id) (and_parts (nat_le next id) (nat_lt id smaller.ids) is).0 step.under);
      others = λ h i other.
          in_either table new next h i ∙ ap (λ b. stands table h i || (nat_le next i && b)) (step.others h i other)
          ∙ sym (in_either table smaller next h i);
      ids = refl;
    },
  )

  -- or into the larger one
  pub added_larger : is_smaller next smaller.ids id ≡ false → TableAdds table id hash new
      → IsMoving new smaller next × Adds (shown_of table smaller next) id hash (shown_of new smaller next)
  added_larger is step = (
    record {
      fits = subst (λ n. smaller.ids ≤ n) (sym step.ids) s.fits;
      begun = s.begun;
      moved = λ h i c.
          own_or_other (λ j. is_smaller next smaller.ids j ≡ false) id i is (λ other. s.moved h i (sym (step.others h i other) ∙ c));
      below = s.below;
    },
    record {
      under =
          in_either new smaller next hash id
          ∙ or_left (stands new hash id) (nat_le next id && stands smaller hash id) step.under;
      others = λ h i other.
          in_either new smaller next h i ∙ ap (λ b. b || (nat_le next i && stands smaller h i)) (step.others h i other)
          ∙ sym (in_either table smaller next h i);
      ids = step.ids;
    },
  )

module _ {table smaller : HashIndex} {next : ℕ} (s : IsMoving table smaller next) (id : ℕ) (new : HashIndex) where
  -- it leaves the smaller table
  pub removed_smaller : is_smaller next smaller.ids id ≡ true → TableRemoves smaller id new
      → IsMoving table new next × Removes (shown_of table smaller next) id (shown_of table new next)
  removed_smaller is step = (
    record {
      fits = subst (λ n. n ≤ table.ids) (sym step.ids) s.fits;
      begun = subst (λ n. (next < n) ⊎ (n ≡ 0) × (next ≡ 0)) (sym step.ids) s.begun;
      moved = λ h i c. subst (λ n. is_smaller next n i ≡ false) (sym step.ids) (s.moved h i c);
      below = λ h i c.
          subst (λ n. i < n) (sym step.ids)
          (own_or_other (λ j. j < smaller.ids) id i (smaller_parts next smaller.ids id is).1
          (λ other. s.below h i (sym (step.others h i other) ∙ c)));
    },
    record {
      gone = λ h.
          in_either table new next h id
          ∙ or_from (stands table h id) (nat_le next id && stands new h id)
          (false_from_ne_true (stands table h id) (λ c. false≢true (sym (s.moved h id c) ∙ is)))
          (and_right (nat_le next id) (stands new h id) (step.gone h));
      others = λ h i other.
          in_either table new next h i ∙ ap (λ b. stands table h i || (nat_le next i && b)) (step.others h i other)
          ∙ sym (in_either table smaller next h i);
      ids = refl;
    },
  )

  -- or the larger one
  pub removed_larger : is_smaller next smaller.ids id ≡ false → TableRemoves table id new
      → IsMoving new smaller next × Removes (shown_of table smaller next) id (shown_of new smaller next)
  removed_larger is step = (
    record {
      fits = subst (λ n. smaller.ids ≤ n) (sym step.ids) s.fits;
      begun = s.begun;
      moved = λ h i c.
          own_or_other (λ j. is_smaller next smaller.ids j ≡ false) id i is (λ other. s.moved h i (sym (step.others h i other) ∙ c));
      below = s.below;
    },
    record {
      gone = λ h.
          in_either new smaller next h id
          ∙ or_from (stands new h id) (nat_le next id && stands smaller h id) (step.gone h) (absent s id h is);
      others = λ h i other.
          in_either new smaller next h i ∙ ap (λ b. b || (nat_le next i && stands smaller h i)) (step.others h i other)
          ∙ sym (in_either table smaller next h i);
      ids = step.ids;
    },
  )

-- ---- growth

-- a table becomes the smaller one of two, once no id is left in the one before, beside one without ids
pub begun_kept : (table smaller larger : HashIndex) (next : ℕ) → IsMoving table smaller next → smaller.ids - next ≡ 0
    → ((hash : ℕ) → candidates larger hash ≡ []) → KeepsAll (shown_of table smaller next) (shown_of larger table 0)
begun_kept table smaller larger next s done empty hash id =
    in_either larger table 0 hash id
    ∙ ap (λ b. b || (nat_le 0 id && stands table hash id)) (ap (list_any (nat_eq id)) (empty hash))
    ∙ ap (λ b. b && stands table hash id) (le-leb 0 id (omega arith))
    ∙ sym
    (in_either table smaller next hash id
    ∙ ap (λ b. stands table hash id || b) (false_from_ne_true (nat_le next id && stands smaller hash id) none) ∙ or_none (stands table hash id))
  where
    none : (nat_le next id && stands smaller hash id) ≡ true → ⊥
    none h =
        let p = and_parts (nat_le next id) (stands smaller hash id) h in
        let from = leb-true next id p.0 in let below = s.below hash id p.1 in omega arith

    or_none : (b : Bool) → (b || false) ≡ b
    or_none true = refl
    or_none false = refl

-- ---- the next id

-- for another id it is the same to be behind a number as to be from it on
after_other : (next i : ℕ) → nat_eq next i ≡ false → nat_le (next + 1) i ≡ nat_le next i
after_other next i other =
    elim (cases_Bool (nat_le next i)) [
      | inl from ↦
          let le = leb-true next i from in let apart = eqb-false next i other in
          le-leb (next + 1) i (omega arith) ∙ sym from
      | inr not ↦
          false_from_ne_true (nat_le (next + 1) i) (λ h.
          let le = leb-true (next + 1) i h in false≢true (sym not ∙ le-leb next i (omega arith))) ∙ sym not
    ]

-- no number is behind itself
not_after : (next : ℕ) → nat_le (next + 1) next ≡ false
not_after next = false_from_ne_true (nat_le (next + 1) next) (λ h. let le = leb-true (next + 1) next h in absurd (omega arith))

module _ {table smaller : HashIndex} {next : ℕ} (s : IsMoving table smaller next) (left : next < smaller.ids) where
  -- an id of the larger table isn't left behind the next one either
  still : (id : ℕ) → is_smaller next smaller.ids id ≡ false → is_smaller (next + 1) smaller.ids id ≡ false
  still id is =
      not_smaller (next + 1) smaller.ids id (λ from below.
      false≢true (sym is ∙ smaller_from next smaller.ids id (omega arith) below))

  -- an id that is no candidate is passed
  pub passed_next : ((hash : ℕ) → is_any table smaller next hash next ≡ false) → (after : ℕ) (left_over : HashIndex)
      → Passes smaller next after left_over → IsMoving table left_over after × KeepsAll (shown_of table smaller next) (shown_of table left_over after)
  passed_next gone after left_over p = (
    record {
      fits = let fewer = p.fits in let fits = s.fits in omega arith;
      begun = p.begun;
      moved = λ h i c. p.places i ∙ still i (s.moved h i c);
      below = p.below;
    },
    λ h i.
        in_either table left_over after h i ∙ ap (λ b. stands table h i || b) (p.kept h i)
        ∙ own_or_other (λ j. (stands table h j || (nat_le (next + 1) j && stands smaller h j)) ≡ is_any table smaller next h j) next i
        (ap (λ b. stands table h next || (b && stands smaller h next)) (not_after next) ∙ or_none (stands table h next) ∙ not_in h ∙ sym (gone h))
        (λ other.
        ap (λ b. stands table h i || (b && stands smaller h i)) (after_other next i other) ∙ sym (in_either table smaller next h i)),
  )
    where
      or_none : (b : Bool) → (b || false) ≡ b
      or_none true = refl
      or_none false = refl

      not_in : (h : ℕ) → stands table h next ≡ false
      not_in h = (or_parts (stands table h next) (nat_le next next && stands smaller h next) (sym (in_either table smaller next h next) ∙ gone h)).0

  -- one that is a candidate has moved to the larger table
  pub moved_next : (hash : ℕ) (larger : HashIndex) → TableAdds table next hash larger → (after : ℕ) (left_over : HashIndex)
      → Passes smaller next after left_over
      → IsMoving larger left_over after × Adds (shown_of table smaller next) next hash (shown_of larger left_over after)
  moved_next hash larger comes after left_over p = (
    record {
      fits = subst (λ n. left_over.ids ≤ n) (sym comes.ids) (let fewer = p.fits in let fits = s.fits in omega arith);
      begun = p.begun;
      moved = λ h i c.
          p.places i
          ∙ own_or_other (λ j. is_smaller (next + 1) smaller.ids j ≡ false) next i
          (not_smaller (next + 1) smaller.ids next (λ from below. absurd (omega arith)))
          (λ other. still i (s.moved h i (sym (comes.others h i other) ∙ c)));
      below = p.below;
    },
    record {
      under =
          in_either larger left_over after hash next
          ∙ or_left (stands larger hash next) (nat_le after next && stands left_over hash next) comes.under;
      others = λ h i other.
          in_either larger left_over after h i ∙ ap (λ b. b || (nat_le after i && stands left_over h i)) (comes.others h i other)
          ∙ ap (λ b. stands table h i || b) (p.kept h i)
          ∙ ap (λ b. stands table h i || (b && stands smaller h i)) (after_other next i other) ∙ sym (in_either table smaller next h i);
      ids = comes.ids;
    },
  )

-- no more ids are passed than there are
pub passed_few : {table smaller : HashIndex} {next : ℕ} → IsMoving table smaller next → next ≤ smaller.ids
passed_few s = elim s.begun [ inl some ↦ omega arith | inr none ↦ let ended = none.1 in omega arith ]

-- ---- a search

-- a table for no ids has no candidates
pub none_left : (smaller : HashIndex) (ids next : ℕ) → ((hash id : ℕ) → stands smaller hash id ≡ true → id < ids) → ids ≡ 0 → (hash : ℕ)
    → filter (nat_le next) (candidates smaller hash) ≡ []
none_left smaller ids next below none hash =
    ap (filter (nat_le next)) (no_ids (candidates smaller hash) (λ id found. let low = below hash id found in absurd (omega arith)))
