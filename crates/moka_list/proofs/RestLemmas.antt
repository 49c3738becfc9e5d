-- What is left of a search, as it goes on.
use Rattle.std.proofs.Common.{◌≡◌, ◌≢◌, ◌⊎◌, ℕ, suc, ◌+◌, ◌-◌, ◌*◌, ◌%◌, ◌^◌, ◌<◌, ◌≤◌, true, false, List, [], ◌∷◌, ◌++◌, length, get_or}
use Rattle.std.proofs.Common.{sym, ap, subst, ◌∙◌, inl, inr, arith}
use Rattle.std.specs.Int.Count.{count_trailing_zeros}
use Rattle.std.specs.Prelude.{Bool, if◌then◌else◌, min}
use Rattle.std.proofs.lemmas.Bool.{cases_Bool, cases_eq, cond-false, cond-true}
use Rattle.moka_list.specs.declared.group.Group.{Group}
use Rattle.std.proofs.lemmas.Nat.{div_below}
use Rattle.std.proofs.Math.Nat.{mod-lt, mul_comm, mul-lt-mul_of_pos_right}
use Rattle.moka_list.specs.declared.constants.TheConstants.{FAR, SPREAD}
use Rattle.moka_list.specs.HashIndex.{home_group, after, chosen, ends_at, group_at, slots_of, rest_of, tagged}
use Rattle.moka_list.proofs.ChosenLemmas.{TakesFirst, bit_small, chosen_none, takes_first}

nowhere : Group
nowhere = record { marks = []; passed = 0; ids = [] }

module _ (groups : List Group) (tag : ℕ) (far : Bool) where
  later_on : ℕ → ℕ → ℕ → List ℕ
  later_on left distance at =
      if ends_at (group_at groups at) far then [] else tagged groups tag far left (distance + 1) (after (length groups) at)

  -- the lowest of the slots that are left comes first
  first_of : (left distance at bits slot : ℕ) (group : Group) → ((d : Group) → group ≡ get_or groups at d)
      → TakesFirst bits group.ids slot
      → rest_of groups tag far left distance at bits ≡ get_or group.ids slot 0 ∷ rest_of groups tag far left distance at (bits - 2 ^ slot)
  unfolding later_on nowhere
  first_of left distance at bits slot group is takes =
      subst (λ g. chosen bits g.ids ++ later_on left distance at
      ≡ get_or group.ids slot 0 ∷ (chosen (bits - 2 ^ slot) g.ids ++ later_on left distance at)) (is nowhere)
      (ap (λ xs. xs ++ later_on left distance at) takes.is)

  -- by its trailing zeros, as the code takes it out
  pub yields : (left distance at bits : ℕ) (group : Group) → ((d : Group) → group ≡ get_or groups at d) → length group.ids ≡ 10 → 0 < bits
      → bits < 1024
      → rest_of groups tag far left distance at bits
      ≡ get_or group.ids (count_trailing_zeros 64 bits) 0
      ∷ rest_of groups tag far left distance at (bits - 1 * 2 ^ count_trailing_zeros 64 bits % 2 ^ 64)
  yields left distance at bits group is len some few =
      let slot = count_trailing_zeros 64 bits in
      let takes = takes_first bits group.ids len some few in
      first_of left distance at bits slot group is takes
      ∙ ap (λ p. get_or group.ids slot 0 ∷ rest_of groups tag far left distance at (bits - p))
      (sym (bit_small (2 ^ slot) bits takes.least (omega (arith, few))))

  -- none is left where there is no slot and the search ends, or the group is the last
  pub none_of : (left distance at : ℕ) → (ends_at (group_at groups at) far ≡ true) ⊎ (left ≡ 0) → rest_of groups tag far left distance at 0 ≡ []
  unfolding later_on
  none_of left distance at end =
      ap (λ xs. xs ++ later_on left distance at) (chosen_none (group_at groups at).ids)
      ∙ (elim end [
        | inl ends ↦ cond-true (ends_at (group_at groups at) far) _ _ ends
        | inr last ↦
            elim (cases_Bool (ends_at (group_at groups at) far)) [
              | inl ends ↦ cond-true (ends_at (group_at groups at) far) _ _ ends
              | inr goes ↦
                  cond-false (ends_at (group_at groups at) far) _ _ goes
                  ∙ ap (λ n. tagged groups tag far n (distance + 1) (after (length groups) at)) last
            ]
      ])

  -- where there is no slot and the search goes on, it does in the group after
  pub next_of : (left distance at : ℕ) → ends_at (group_at groups at) far ≡ false → left ≢ 0
      → rest_of groups tag far (left - 1) (distance + 1) (after (length groups) at)
      (slots_of (group_at groups (after (length groups) at)) tag (min (distance + 1) FAR))
      ≡ rest_of groups tag far left distance at 0
  unfolding later_on
  next_of left distance at goes some =
      sym (ap (λ xs. xs ++ later_on left distance at) (chosen_none (group_at groups at).ids)
      ∙ cond-false (ends_at (group_at groups at) far) _ _ goes
      ∙ ap (λ n. tagged groups tag far n (distance + 1) (after (length groups) at)) whole)
    where
      whole : left ≡ suc (left - 1)
      whole = omega (arith, some)

  -- the rest of a whole search
  pub rest_whole : (at : ℕ) → length groups ≢ 0
      → rest_of groups tag far (length groups - 1) 0 at (slots_of (group_at groups at) tag 0) ≡ tagged groups tag far (length groups) 0 at
  rest_whole at some =
      ap (λ n. tagged groups tag far n 0 at) whole
    where
      whole : suc (length groups - 1) ≡ length groups
      whole = omega (arith, some)

-- each home is in the table
pub home_below : (groups hash : ℕ) → 0 < groups → home_group groups hash < groups
unfolding home_group
home_below groups hash some =
    div_below (hash * SPREAD % 2 ^ 64 * groups) (2 ^ 64) groups (omega arith)
    (below (hash * SPREAD % 2 ^ 64) groups (mod-lt (hash * SPREAD) (omega arith)) some)
  where
    below : (h n : ℕ) → h < 2 ^ 64 → 0 < n → h * n < (n * 2 ^ 64)
    below h n bound some = subst (λ m. h * n < m) (mul_comm (2 ^ 64) n) (mul-lt-mul_of_pos_right bound some)

-- where no home is in the table, it has no groups
pub tagged_nowhere : (groups : List Group) (tag : ℕ) (far : Bool) (at hash : ℕ) → length groups ≤ home_group (length groups) hash
    → tagged groups tag far (length groups) 0 at ≡ []
tagged_nowhere groups tag far at hash past =
    elim (cases_eq (length groups) 0) [
      | inl none ↦ ap (λ n. tagged groups tag far n 0 at) none
      | inr some ↦
          let positive : 0 < length groups = omega (arith, some) in
          let inside : home_group (length groups) hash < length groups = home_below (length groups) hash positive in absurd (omega arith)
    ]

-- and none is left
pub none_left : (groups hash : ℕ) → groups ≤ home_group groups hash → groups - 1 ≡ 0
none_left groups hash past =
    elim (cases_eq groups 0) [
      | inl none ↦ ap (λ n. n - 1) none
      | inr some ↦
          let positive : 0 < groups = omega (arith, some) in
          let inside : home_group groups hash < groups = home_below groups hash positive in absurd (omega arith)
    ]
