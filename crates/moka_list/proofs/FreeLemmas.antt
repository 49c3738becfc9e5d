-- That a table with room for one more id has a free slot.
use Rattle.std.proofs.Common.{◌≡◌, ◌≢◌, ◌⊎◌, ℕ, zero, suc, ◌+◌, ◌*◌, ◌/◌, ◌%◌, ◌^◌, ◌<◌, ◌≤◌, Bool, true, false, nat_eq, List, [], ◌∷◌, length}
use Rattle.std.proofs.Common.{refl, sym, ap, subst, ◌∙◌, inl, inr, arith}
use Rattle.std.specs.Int.{bit_at}
use Rattle.std.specs.List.{AllByRecursion, IsDistinct, list_any}
use Rattle.std.specs.Prelude.{if◌then◌else◌}
use Rattle.std.proofs.lemmas.Bool.{cases_Bool, cases_eq, cases_lt, eqb-true, false≢true, false_from_ne_true, or_cases, or_parts}
use Rattle.std.proofs.lemmas.List.{get_or_past}
use Rattle.std.proofs.lemmas.Map.Steps.{length-le_from_distinct_below}
use Rattle.std.proofs.lemmas.Nat.Bits.{bit_at-zero}
use Rattle.moka_list.specs.declared.group.Group.{Group}
use Rattle.moka_list.specs.HashIndex.{group_at, is_candidate, slots_with}
use Rattle.moka_list.specs.Probed.{IsProbed, id_at, is_free, passes, tally}
use Rattle.moka_list.proofs.StandsLemmas.{bit_with, cell_below, shown, under_candidate}
use Rattle.moka_list.proofs.StepLemmas.{bit_of, free_passes}

not_fresh : (id : ℕ) (ids : List ℕ) → list_any (nat_eq id) ids ≡ false → AllByRecursion (λ y. nat_eq id y ≡ false) ids
not_fresh id [] absent = tt
not_fresh id (x ∷ ids) absent = let parts = or_parts (nat_eq id x) (list_any (nat_eq id) ids) absent in (parts.0, not_fresh id ids parts.1)

-- a new id keeps the ids distinct
distinct-cons : (id : ℕ) (ids : List ℕ) → list_any (nat_eq id) ids ≡ false → IsDistinct nat_eq ids → IsDistinct nat_eq (id ∷ ids)
unfolding IsDistinct
distinct-cons id ids absent distinct = (not_fresh id ids absent, distinct)

distinct_none : IsDistinct nat_eq []
unfolding IsDistinct
distinct_none = tt

module _ (groups : List Group) where
  -- the slots below a number have a free one among them, or none
  free_or_taken : (n : ℕ) → ((cell : ℕ) × (cell < n) × (is_free groups cell ≡ true)) ⊎ ((cell : ℕ) → cell < n → is_free groups cell ≡ false)
  free_or_taken zero = inr (λ cell low. absurd (omega arith))
  free_or_taken (suc n) =
      elim (cases_Bool (is_free groups n)) [
        | inl free ↦ inl (n, omega arith, free)
        | inr taken ↦
            elim (free_or_taken n) [
              | inl found ↦ let low : found.0 < n = found.1 in inl (found.0, omega arith, found.2)
              | inr all ↦
                  inr (λ cell low. elim (cases_eq cell n) [
                    | inl last ↦ subst (λ c. is_free groups c ≡ false) (sym last) taken
                    | inr other ↦ all cell (omega (arith, other))
                  ])
            ]
      ]

  -- the ids at the slots below a number
  abbrev ids_below : ℕ → List ℕ
  ids_below zero = []
  ids_below (suc n) = id_at groups n ∷ ids_below n

  length-ids_below : (n : ℕ) → length (ids_below n) ≡ n
  length-ids_below zero = refl
  length-ids_below (suc n) = ap suc (length-ids_below n)

  -- an id among them stands at one of these slots
  among_ids_below : (id n : ℕ) → list_any (nat_eq id) (ids_below n) ≡ true → (cell : ℕ) × (cell < n) × (id ≡ id_at groups cell)
  among_ids_below id zero found = absurd (false≢true found)
  among_ids_below id (suc n) found =
      elim (or_cases (nat_eq id (id_at groups n)) (list_any (nat_eq id) (ids_below n)) found) [
        | inl last ↦ (n, omega arith, eqb-true id (id_at groups n) last)
        | inr earlier ↦
            let there = among_ids_below id n earlier in let low : there.0 < n = there.1 in (there.0, omega arith, there.2)
      ]

  module _ (once : (cell other : ℕ) → is_free groups cell ≡ false → is_free groups other ≡ false → id_at groups cell ≡ id_at groups other
      → cell ≡ other) where
    distinct-ids_below : (n : ℕ) → ((cell : ℕ) → cell < n → is_free groups cell ≡ false) → IsDistinct nat_eq (ids_below n)
    distinct-ids_below zero taken = distinct_none
    distinct-ids_below (suc n) taken =
        distinct-cons (id_at groups n) (ids_below n)
        (false_from_ne_true (list_any (nat_eq (id_at groups n)) (ids_below n)) (λ found.
        let there = among_ids_below (id_at groups n) n found in
        let low : there.0 < n = there.1 in
        let same : n ≡ there.0 = once n there.0 (taken n (omega arith)) (taken there.0 (omega arith)) there.2 in absurd (omega arith)))
        (distinct-ids_below n (λ cell low. taken cell (omega arith)))

    -- where an id below the room doesn't stand, one of as many slots as there is room for is free
    free_below : (ids id : ℕ) → ((cell : ℕ) → is_free groups cell ≡ false → id_at groups cell < ids) → id < ids
        → ((cell : ℕ) → is_free groups cell ≡ false → id ≡ id_at groups cell → ⊥) → (cell : ℕ) × (cell < ids) × (is_free groups cell ≡ true)
    free_below ids id below room absent =
        elim (free_or_taken ids) [
          | inl found ↦ found
          | inr taken ↦
              let all = id ∷ ids_below ids in
              let fits : length all ≤ ids =
              length-le_from_distinct_below all ids
              (distinct-cons id (ids_below ids)
              (false_from_ne_true (list_any (nat_eq id) (ids_below ids)) (λ found.
              let there = among_ids_below id ids found in absent there.0 (taken there.0 there.1) there.2))
              (distinct-ids_below ids taken))
              (λ q found. elim (or_cases (nat_eq q id) (list_any (nat_eq q) (ids_below ids)) found) [
                | inl same ↦ subst (λ x. x < ids) (sym (eqb-true q id same)) room
                | inr earlier ↦
                    let there = among_ids_below q ids earlier in subst (λ x. x < ids) (sym there.2) (below there.0 (taken there.0 there.1))
              ]) in
              let len : length (ids_below ids) ≡ ids = length-ids_below ids in
              absurd (omega arith)
        ]

-- an id that is a candidate of no hash finds a free slot
pub free_cell : (groups : List Group) (ids id : ℕ) (far : Bool) → IsProbed groups ids far → id < ids
    → ((hash : ℕ) → is_candidate (shown groups ids far) hash id ≡ false)
    → (cell : ℕ) × (cell < 10 * length groups) × (is_free groups cell ≡ true)
free_cell groups ids id far probed room absent =
    let found = free_below groups probed.once ids id probed.below room
    (λ cell taken is.
    let hashed = probed.hashed cell taken in
    false≢true (sym (absent hashed.0) ∙ subst (λ i. is_candidate (shown groups ids far) hashed.0 i ≡ true) (sym is)
    (under_candidate groups ids far hashed.0 cell probed hashed.1))) in
    let low : found.0 < ids = found.1 in
    let share : ids ≤ 5 * length groups = probed.room in
    (found.0, omega arith, found.2)

-- and so a group that has one
pub free_some : (groups : List Group) (ids id : ℕ) (far : Bool) → IsProbed groups ids far → id < ids
    → ((hash : ℕ) → is_candidate (shown groups ids far) hash id ≡ false)
    → (at : ℕ) × (at < length groups) × (slots_with (group_at groups at) 0 ≢ 0)
free_some groups ids id far probed room absent =
    let found = free_cell groups ids id far probed room absent in
    let cell = found.0 in let q = cell / 10 in let k = cell % 10 in
    let below : q < length groups = cell_below cell (length groups) found.1 in
    let low : k < 10 = omega arith in (
      q,
      below,
      λ none.
          bits_differ (sym (bit_at-zero k) ∙ ap (λ bits. bit_at bits k) (sym none)
          ∙ bit_with (group_at groups q) (probed.shaped q below).0 0 k low ∙ ap bit_of found.2),
    )
  where
    bits_differ : ◌≡◌ {A = ℕ} 0 1 → ⊥
    bits_differ same = absurd (omega (arith, same))

-- ---- counts fit

tally_most : (test : ℕ → Bool) (n : ℕ) → tally test n ≤ n
tally_most test zero = omega arith
tally_most test (suc n) = let rest : tally test n ≤ n = tally_most test n in one_more (test n) (tally test n) n rest
  where
    one_more : (passed : Bool) (count n : ℕ) → count ≤ n → (if passed then 1 else 0) + count ≤ suc n
    one_more true count n low = omega arith
    one_more false count n low = omega arith

tally_fewer : (test : ℕ → Bool) (at n : ℕ) → at < n → test at ≡ false → tally test n < n
tally_fewer test at zero within fails = absurd (omega arith)
tally_fewer test at (suc n) within fails =
    elim (cases_eq at n) [
      | inl last ↦
          let rest : tally test n ≤ n = tally_most test n in
          not_this (test n) (tally test n) n (subst (λ k. test k ≡ false) last fails) rest
      | inr other ↦ one_more (test n) (tally test n) n (tally_fewer test at n (omega (arith, other)) fails)
    ]
  where
    not_this : (passed : Bool) (count n : ℕ) → passed ≡ false → count ≤ n → (if passed then 1 else 0) + count < suc n
    not_this true count n fails low = absurd (false≢true (sym fails))
    not_this false count n fails low = omega arith

    one_more : (passed : Bool) (count n : ℕ) → count < n → (if passed then 1 else 0) + count < suc n
    one_more true count n low = omega arith
    one_more false count n low = omega arith

-- where a slot is free, each group can count one more
pub passed_fits : (groups : List Group) (ids cell : ℕ) (far : Bool) → IsProbed groups ids far → cell < 10 * length groups
    → is_free groups cell ≡ true → (at : ℕ) → (group_at groups at).passed + 1 < 2 ^ 32
passed_fits groups ids cell far probed inside free at =
    elim (cases_lt at (length groups)) [
      | inl low ↦
          let is : (group_at groups at).passed ≡ tally (passes groups at) (10 * length groups) = probed.counted at low in
          let fewer : tally (passes groups at) (10 * length groups) < 10 * length groups =
          tally_fewer (passes groups at) cell (10 * length groups) inside (free_passes groups at cell free) in
          let most : 10 * length groups < 2 ^ 32 = probed.most in omega (arith, is, fewer, most)
      | inr past ↦
          let none : (group_at groups at).passed ≡ 0 = ap (λ g. g.passed) (get_or_past groups at _ past) in omega (arith, none)
    ]
