-- Lemmas on lists of ids: which are listed after a change, and that they stay distinct.
use Rattle.std.proofs.Common.{◌≡◌, ℕ, Bool, true, false, cond, not, ◌||◌, nat_eq, List, [], ◌∷◌, ◌++◌, filter, Some, refl}
use Rattle.std.proofs.Common.{sym, ap, ◌∙◌, inl, inr, subst}
use Rattle.std.proofs.lemmas.Bool.{cases_Bool, cond-true, cond-false, eqb-true, false≢true, or_right}
use Rattle.std.proofs.lemmas.Cmp.{nat_eq_equiv}
use Rattle.std.proofs.lemmas.Map.Keys.{IsDistinct-cons, IsDistinct-head, IsDistinct-push, IsDistinct-tail}
use Rattle.std.specs.List.{AllByRecursion, IsDistinct}
use Rattle.moka_list.specs.IdList.{first_of, ids_without, is_listed}
use Rattle.moka_list.proofs.IdLemmas.{not_none, some_parts}
use Rattle.moka_list.proofs.ItemLemmas.{nat_eq-same}
use Rattle.moka_list.proofs.ListingLemmas.{gone-without, marked-absent, without-absent}

-- what holds of each listed id holds of all
pub all-listed : (P : ℕ → Type 0) (ids : List ℕ) → ((id : ℕ) → is_listed ids id ≡ true → P id) → AllByRecursion P ids
all-listed P [] each = tt
all-listed P (i ∷ ids) each = (
  each i (head i),
  all-listed P ids (λ id h. each id (or_right (nat_eq id i) (is_listed ids id) h)),
)
  where
    head : (i : ℕ) → is_listed (i ∷ ids) i ≡ true
    head i = rw (nat_eq-same i) refl

-- an id is listed without another where it was
pub listed-without : (id q : ℕ) (ids : List ℕ) → is_listed (ids_without id ids) q ≡ cond (nat_eq id q) false (is_listed ids q)
listed-without id q [] = by (nat_eq id q)
  where
    by : (b : Bool) → false ≡ cond b false false
    by true = refl
    by false = refl
listed-without id q (i ∷ ids) = by (nat_eq id i) refl (nat_eq q i) refl (nat_eq id q) refl (listed-without id q ids)
  where
    by : (a : Bool) → nat_eq id i ≡ a → (b : Bool) → nat_eq q i ≡ b → (c : Bool) → nat_eq id q ≡ c
        → is_listed (ids_without id ids) q ≡ cond (nat_eq id q) false (is_listed ids q)
        → is_listed (cond (not a) (i ∷ ids_without id ids) (ids_without id ids)) q ≡ cond c false (b || is_listed ids q)
    by true ha b hb true hc rest = rest ∙ cond-true (nat_eq id q) false (is_listed ids q) hc
    by true ha true hb false hc rest =
        absurd (false≢true (sym hc ∙ (ap (nat_eq id) (eqb-true q i hb) ∙ ha)))
    by true ha false hb false hc rest = rest ∙ cond-false (nat_eq id q) false (is_listed ids q) hc
    by false ha true hb true hc rest =
        absurd (false≢true (sym ha ∙ (ap (nat_eq id) (sym (eqb-true q i hb)) ∙ hc)))
    by false ha true hb false hc rest = ap (λ b. b || is_listed (ids_without id ids) q) hb
    by false ha false hb c hc rest =
        ap (λ b. b || is_listed (ids_without id ids) q) hb ∙ (rest ∙ ap (λ b. cond b false (is_listed ids q)) hc)

-- or behind others
pub listed-push : (ids : List ℕ) (id q : ℕ) → is_listed (ids ++ id ∷ []) q ≡ cond (nat_eq q id) true (is_listed ids q)
listed-push [] id q = by (nat_eq q id)
  where
    by : (b : Bool) → (b || false) ≡ cond b true false
    by true = refl
    by false = refl
listed-push (i ∷ ids) id q = by (nat_eq q i) (nat_eq q id) (listed-push ids id q)
  where
    by : (a b : Bool) → is_listed (ids ++ id ∷ []) q ≡ cond (nat_eq q id) true (is_listed ids q)
        → (a || is_listed (ids ++ id ∷ []) q) ≡ cond (nat_eq q id) true (a || is_listed ids q)
    by true b rest = first (nat_eq q id)
      where
        first : (c : Bool) → true ≡ cond c true true
        first true = refl
        first false = refl
    by false b rest = rest

-- distinct ids stay so without one
pub distinct-without : (id : ℕ) (ids : List ℕ) → IsDistinct nat_eq ids → IsDistinct nat_eq (ids_without id ids)
distinct-without id [] d = d
distinct-without id (i ∷ ids) d =
    let rest = distinct-without id ids (IsDistinct-tail nat_eq i ids d) in
    elim (cases_Bool (nat_eq id i)) [
      | inl same ↦
          subst (IsDistinct nat_eq) (sym (cond-false (not (nat_eq id i)) (i ∷ ids_without id ids) (ids_without id ids) (ap not same))) rest
      | inr other ↦
          subst (IsDistinct nat_eq) (sym (cond-true (not (nat_eq id i)) (i ∷ ids_without id ids) (ids_without id ids) (ap not other)))
          (IsDistinct-cons nat_eq i (ids_without id ids) (kept ids (IsDistinct-head nat_eq i ids d)) rest)
    ]
  where
    kept : (js : List ℕ) → AllByRecursion (λ k. nat_eq i k ≡ false) js → AllByRecursion (λ k. nat_eq i k ≡ false) (ids_without id js)
    kept [] a = tt
    kept (j ∷ js) a =
        elim (cases_Bool (nat_eq id j)) [
          | inl same ↦
              subst (AllByRecursion (λ k. nat_eq i k ≡ false))
              (sym (cond-false (not (nat_eq id j)) (j ∷ ids_without id js) (ids_without id js) (ap not same))) (kept js a.1)
          | inr other ↦
              subst (AllByRecursion (λ k. nat_eq i k ≡ false))
              (sym (cond-true (not (nat_eq id j)) (j ∷ ids_without id js) (ids_without id js) (ap not other))) (a.0, kept js a.1)
        ]

-- and with a new one
pub distinct-push : (id : ℕ) (ids : List ℕ) → IsDistinct nat_eq ids → is_listed ids id ≡ false → IsDistinct nat_eq (ids ++ id ∷ [])
distinct-push id ids d absent = IsDistinct-push nat_eq_equiv ids id d absent

-- ---- an id that is listed, or isn't

listed_same : (id i : ℕ) (ids : List ℕ) → nat_eq id i ≡ true → is_listed (i ∷ ids) id ≡ true
listed_same id i ids same = rw same refl

listed_other : (id i : ℕ) (ids : List ℕ) → nat_eq id i ≡ false → is_listed (i ∷ ids) id ≡ is_listed ids id
listed_other id i ids other = rw other refl

-- the first id is listed
pub first-listed : (id : ℕ) (ids : List ℕ) → first_of ids ≡ Some id → is_listed ids id ≡ true
first-listed id [] h = not_none id (sym h)
first-listed id (i ∷ ids) h =
    subst (λ k. is_listed (i ∷ ids) k ≡ true) (some_parts i id h) (listed_same i i ids (nat_eq-same i))

-- without an id that isn't listed all others are left
pub without-unlisted : (id : ℕ) (ids : List ℕ) → is_listed ids id ≡ false → ids_without id ids ≡ ids
without-unlisted id ids absent = without-absent id ids (marked-absent ids id absent)

-- and none is left of the id
pub none-listed : (id : ℕ) (ids : List ℕ) → is_listed ids id ≡ false → filter (nat_eq id) ids ≡ []
none-listed id [] absent = refl
none-listed id (i ∷ ids) absent =
    elim (cases_Bool (nat_eq id i)) [
      | inl same ↦ absurd (false≢true (sym absent ∙ listed_same id i ids same))
      | inr other ↦
          cond-false (nat_eq id i) (i ∷ filter (nat_eq id) ids) (filter (nat_eq id) ids) other
          ∙ none-listed id ids (sym (listed_other id i ids other) ∙ absent)
    ]

unlisted_from : (i : ℕ) (ids : List ℕ) → AllByRecursion (λ k. nat_eq i k ≡ false) ids → is_listed ids i ≡ false
unlisted_from i [] a = refl
unlisted_from i (j ∷ ids) a = listed_other i j ids a.0 ∙ unlisted_from i ids a.1

-- an id that is listed is listed once
pub only-listed : (id : ℕ) (ids : List ℕ) → IsDistinct nat_eq ids → is_listed ids id ≡ true → filter (nat_eq id) ids ≡ id ∷ []
only-listed id [] d listed = absurd (false≢true listed)
only-listed id (i ∷ ids) d listed =
    elim (cases_Bool (nat_eq id i)) [
      | inl same ↦
          let absent =
          subst (λ k. is_listed ids k ≡ false) (sym (eqb-true id i same)) (unlisted_from i ids (IsDistinct-head nat_eq i ids d)) in
          cond-true (nat_eq id i) (i ∷ filter (nat_eq id) ids) (filter (nat_eq id) ids) same
          ∙ (λ k. sym (eqb-true id i same) k ∷ none-listed id ids absent k)
      | inr other ↦
          cond-false (nat_eq id i) (i ∷ filter (nat_eq id) ids) (filter (nat_eq id) ids) other
          ∙ only-listed id ids (IsDistinct-tail nat_eq i ids d) (sym (listed_other id i ids other) ∙ listed)
    ]

-- ---- an id goes to the back

-- the same ids are listed
pub listed-moved : (id q : ℕ) (ids : List ℕ) → is_listed ids id ≡ true → is_listed (ids_without id ids ++ id ∷ []) q ≡ is_listed ids q
listed-moved id q ids there =
    listed-push (ids_without id ids) id q
    ∙ (ap (cond (nat_eq q id) true) (listed-without id q ids) ∙ joined (nat_eq q id) refl)
  where
    joined : (b : Bool) → nat_eq q id ≡ b → cond b true (cond (nat_eq id q) false (is_listed ids q)) ≡ is_listed ids q
    joined true h = sym (ap (is_listed ids) (eqb-true q id h) ∙ there)
    joined false h = cond-false (nat_eq id q) false (is_listed ids q) (nat_eq_equiv.symm id q ∙ h)

-- and each once
pub distinct-moved : (id : ℕ) (ids : List ℕ) → IsDistinct nat_eq ids → IsDistinct nat_eq (ids_without id ids ++ id ∷ [])
distinct-moved id ids d = distinct-push id (ids_without id ids) (distinct-without id ids d) (gone-without id ids)
