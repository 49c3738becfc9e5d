-- How the groups on the way of an id count it.
use Rattle.std.proofs.Common.{◌≡◌, ◌≢◌, ℕ, zero, suc, ◌+◌, ◌-◌, ◌<◌, Bool, List, [], length}
use Rattle.std.proofs.Common.{refl, sym, ap, subst, ◌∙◌, inl, inr, arith}
use Rattle.std.specs.Prelude.{if◌then◌else◌, nat_lt, slice_set}
use Rattle.std.proofs.lemmas.Bool.{cases_eq, cases_lt, le-ltb, lt-ltb}
use Rattle.std.proofs.lemmas.List.{get_or-set_other, get_or-set_same, length-set}
use Rattle.moka_list.specs.declared.group.Group.{Group}
use Rattle.moka_list.specs.HashIndex.{after, group_at}
use Rattle.moka_list.specs.Probed.{CountsWay, steps}
use Rattle.moka_list.proofs.StandsLemmas.{steps_walk, walk, walk_below, walk_steps}

walk_suc : (n at s : ℕ) → walk n at (suc s) ≡ after n (walk n at s)
walk_suc n at zero = refl
walk_suc n at (suc s) = walk_suc n (after n at) s

pub walk_last : (n at s : ℕ) → walk n at (s + 1) ≡ after n (walk n at s)
walk_last n at s = let one : s + 1 ≡ suc s = omega arith in ap (walk n at) one ∙ walk_suc n at s

abbrev bit_of : Bool → ℕ
bit_of test = if test then 1 else 0

pub counts_first : (old : List Group) (home : ℕ) → CountsWay old home 0 old
counts_first old home =
    record {
      len = refl;
      marks = λ at. refl;
      ids = λ at. refl;
      passed = λ at within.
          let none : bit_of (nat_lt (steps (length old) home at) 0) ≡ 0 =
          ap bit_of (le-ltb (steps (length old) home at) 0 (omega arith)) in omega (arith, none);
    }

nowhere : Group
nowhere = record { marks = []; passed = 0; ids = [] }

-- the group that comes next isn't counted yet
pub next_same : (old now : List Group) (home step : ℕ) → home < length old → step < length old → CountsWay old home step now
    → (group_at now (walk (length old) home step)).passed ≡ (group_at old (walk (length old) home step)).passed
next_same old now home step inside near counts =
    let n = length old in let at = walk n home step in
    let led : steps n home at ≡ step - 0 = steps_walk n home 0 step inside near (omega arith) in
    let none : bit_of (nat_lt (steps n home at) step) ≡ 0 = ap bit_of (le-ltb (steps n home at) step (omega arith)) in
    let is = counts.passed at (walk_below n home step inside near) in omega (arith, is, none)

pub counts_on : (old now : List Group) (home step : ℕ) → home < length old → step < length old → CountsWay old home step now
    → (at : ℕ) → at ≡ walk (length old) home step
    → CountsWay old home (step + 1)
    (slice_set now at
    (record { marks = (group_at now at).marks; passed = (group_at now at).passed + 1; ids = (group_at now at).ids }))
unfolding nowhere
counts_on old now home step inside near counts at is_at =
    let n = length old in
    let below : at < n = subst (λ a. a < n) (sym is_at) (walk_below n home step inside near) in
    let within : at < length now = subst (λ l. at < l) (sym counts.len) below in
    let led : steps n home at ≡ step - 0 = ap (steps n home) is_at ∙ steps_walk n home 0 step inside near (omega arith) in
    let put : Group =
    record { marks = (group_at now at).marks; passed = (group_at now at).passed + 1; ids = (group_at now at).ids } in
    record {
      len = length-set now at put ∙ counts.len;
      marks = λ g.
          elim (cases_eq g at) [
            | inl here ↦
                ap (λ k. (group_at (slice_set now at put) k).marks) here ∙ ap (λ h. h.marks) (get_or-set_same now at put nowhere within)
                ∙ counts.marks at ∙ ap (λ k. (group_at old k).marks) (sym here)
            | inr other ↦ ap (λ h. h.marks) (get_or-set_other now at g put nowhere other) ∙ counts.marks g
          ];
      ids = λ g.
          elim (cases_eq g at) [
            | inl here ↦
                ap (λ k. (group_at (slice_set now at put) k).ids) here ∙ ap (λ h. h.ids) (get_or-set_same now at put nowhere within)
                ∙ counts.ids at ∙ ap (λ k. (group_at old k).ids) (sym here)
            | inr other ↦ ap (λ h. h.ids) (get_or-set_other now at g put nowhere other) ∙ counts.ids g
          ];
      passed = λ g low.
          elim (cases_eq g at) [
            | inl here ↦
                subst (λ k. (group_at (slice_set now at put) k).passed ≡ (group_at old k).passed + bit_of (nat_lt (steps n home k) (step + 1)))
                (sym here)
                (let one : bit_of (nat_lt (steps n home at) (step + 1)) ≡ 1 =
                ap bit_of (lt-ltb (steps n home at) (step + 1) (omega arith)) in
                let none : bit_of (nat_lt (steps n home at) step) ≡ 0 = ap bit_of (le-ltb (steps n home at) step (omega arith)) in
                let was = counts.passed at below in
                let set : (group_at (slice_set now at put) at).passed ≡ (group_at now at).passed + 1 =
                ap (λ h. h.passed) (get_or-set_same now at put nowhere within) in omega (arith, one, none, was, set))
            | inr other ↦
                let distance : steps n home g ≢ step =
                λ same. other (sym (walk_steps n home g inside low) ∙ ap (walk n home) same ∙ sym is_at) in
                ap (λ h. h.passed) (get_or-set_other now at g put nowhere other) ∙ counts.passed g low
                ∙ ap (λ b. (group_at old g).passed + bit_of b) (same_below (steps n home g) step distance)
          ];
    }
  where
    same_below : (a b : ℕ) → a ≢ b → nat_lt a b ≡ nat_lt a (b + 1)
    same_below a b other =
        elim (cases_lt a b) [
          | inl low ↦ lt-ltb a b low ∙ sym (lt-ltb a (b + 1) (omega arith))
          | inr high ↦ le-ltb a b high ∙ sym (le-ltb a (b + 1) (omega (arith, other)))
        ]

-- ---- backwards

pub last_same : (old now : List Group) (home step : ℕ) → home < length now → step < length now → CountsWay now home step old
    → (group_at old (walk (length now) home step)).passed ≡ (group_at now (walk (length now) home step)).passed
last_same old now home step inside near counts =
    let n = length now in let at = walk n home step in
    let led : steps n home at ≡ step - 0 = steps_walk n home 0 step inside near (omega arith) in
    let none : bit_of (nat_lt (steps n home at) step) ≡ 0 = ap bit_of (le-ltb (steps n home at) step (omega arith)) in
    let is = counts.passed at (walk_below n home step inside near) in omega (arith, is, none)

pub counts_off : (old now : List Group) (home step : ℕ) → home < length now → step < length now → CountsWay now home step old
    → (at : ℕ) → at ≡ walk (length now) home step → 0 < (group_at now at).passed
    → CountsWay
    (slice_set now at
    (record { marks = (group_at now at).marks; passed = (group_at now at).passed - 1; ids = (group_at now at).ids })) home (step + 1) old
unfolding nowhere
counts_off old now home step inside near counts at is_at some =
    let n = length now in
    let below : at < n = subst (λ a. a < n) (sym is_at) (walk_below n home step inside near) in
    let led : steps n home at ≡ step - 0 = ap (steps n home) is_at ∙ steps_walk n home 0 step inside near (omega arith) in
    let put : Group =
    record { marks = (group_at now at).marks; passed = (group_at now at).passed - 1; ids = (group_at now at).ids } in
    let long : length (slice_set now at put) ≡ n = length-set now at put in
    record {
      len = counts.len ∙ sym long;
      marks = λ g.
          elim (cases_eq g at) [
            | inl here ↦
                sym (ap (λ k. (group_at (slice_set now at put) k).marks) here ∙ ap (λ h. h.marks) (get_or-set_same now at put nowhere below)
                ∙ sym (counts.marks at) ∙ ap (λ k. (group_at old k).marks) (sym here))
            | inr other ↦ sym (ap (λ h. h.marks) (get_or-set_other now at g put nowhere other) ∙ sym (counts.marks g))
          ];
      ids = λ g.
          elim (cases_eq g at) [
            | inl here ↦
                sym (ap (λ k. (group_at (slice_set now at put) k).ids) here ∙ ap (λ h. h.ids) (get_or-set_same now at put nowhere below)
                ∙ sym (counts.ids at) ∙ ap (λ k. (group_at old k).ids) (sym here))
            | inr other ↦ sym (ap (λ h. h.ids) (get_or-set_other now at g put nowhere other) ∙ sym (counts.ids g))
          ];
      passed = λ g low.
          let low_now : g < n = subst (λ m. g < m) long low in
          (elim (cases_eq g at) [
            | inl here ↦
                subst (λ k. (group_at old k).passed ≡ (group_at (slice_set now at put) k).passed + bit_of (nat_lt (steps n home k) (step + 1)))
                (sym here)
                (let one : bit_of (nat_lt (steps n home at) (step + 1)) ≡ 1 =
                ap bit_of (lt-ltb (steps n home at) (step + 1) (omega arith)) in
                let none : bit_of (nat_lt (steps n home at) step) ≡ 0 = ap bit_of (le-ltb (steps n home at) step (omega arith)) in
                let was = counts.passed at below in
                let set : (group_at (slice_set now at put) at).passed ≡ (group_at now at).passed - 1 =
                ap (λ h. h.passed) (get_or-set_same now at put nowhere below) in omega (arith, one, none, was, set, some))
            | inr other ↦
                let distance : steps n home g ≢ step =
                λ same. other (sym (walk_steps n home g inside low_now) ∙ ap (walk n home) same ∙ sym is_at) in
                counts.passed g low_now
                ∙ ap (λ b. (group_at now g).passed + bit_of b) (same_less (steps n home g) step distance)
                ∙ ap (λ h. h.passed + bit_of (nat_lt (steps n home g) (step + 1))) (sym (get_or-set_other now at g put nowhere other))
          ])
          ∙ ap (λ m. (group_at (slice_set now at put) g).passed + bit_of (nat_lt (steps m home g) (step + 1))) (sym long);
    }
  where
    same_less : (a b : ℕ) → a ≢ b → nat_lt a b ≡ nat_lt a (b + 1)
    same_less a b other =
        elim (cases_lt a b) [
          | inl low ↦ lt-ltb a b low ∙ sym (lt-ltb a (b + 1) (omega arith))
          | inr high ↦ le-ltb a b high ∙ sym (le-ltb a (b + 1) (omega (arith, other)))
        ]
