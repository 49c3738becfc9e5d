-- The ids of a group whose bits are set, one after another.
use Rattle.std.proofs.Common.{◌≡◌, ℕ, zero, suc, ◌-◌, ◌*◌, ◌/◌, ◌%◌, ◌^◌, ◌<◌, ◌≤◌, nat_eq, List, [], ◌∷◌, length, get_or, replicate}
use Rattle.std.proofs.Common.{refl, sym, ap, subst, ◌∙◌, inl, inr, arith}
use Rattle.std.specs.Int.Count.{count_trailing_zeros, under}
use Rattle.std.proofs.lemmas.Bool.{cases_eq, cond-false, cond-true, eq-eqb}
use Rattle.std.proofs.lemmas.Nat.Bits.{bit_at_lowest, bit_at-suc, bit_at-trailing_zeros}
use Rattle.std.proofs.Math.Nat.{mod-eq_of_lt}
use Rattle.std.specs.Int.{bit_at}
use mir.Syntax.{w64}
use native.Mathlib.Numerals.{unary_clauses}
use Rattle.moka_list.specs.HashIndex.{chosen}

pub chosen_none : (ids : List ℕ) → chosen 0 ids ≡ []
chosen_none [] = refl
chosen_none (id ∷ ids) = chosen_none ids

pub record IsFirst (t bits : ℕ) (ids : List ℕ) : Type 0 where
  pub within : t < length ids
  pub least : 2 ^ t ≤ bits
  pub is : (d : ℕ) → chosen bits ids ≡ get_or ids t d ∷ chosen (bits - 2 ^ t) ids
  pub rest : (k : ℕ) → bit_at (bits - 2 ^ t) k ≡ 1 → bit_at bits k ≡ 1

-- an even number has no bits but those of another, if its half has none but those of the other's half
half_bits : (n m : ℕ) → n % 2 ≡ 0 → ((k : ℕ) → bit_at (n / 2) k ≡ 1 → bit_at (m / 2) k ≡ 1) → (k : ℕ) → bit_at n k ≡ 1 → bit_at m k ≡ 1
half_bits n m even half zero set = let lowest : n % 2 ≡ 1 = sym (bit_at_lowest n) ∙ set in absurd (omega arith)
half_bits n m even half (suc k) set = bit_at-suc m k ∙ half k (sym (bit_at-suc n k) ∙ set)

chosen_odd : (bits id : ℕ) (ids : List ℕ) → bits % 2 ≡ 1 → chosen bits (id ∷ ids) ≡ id ∷ chosen (bits / 2) ids
chosen_odd bits id ids odd = cond-true (nat_eq (bits % 2) 1) _ _ (eq-eqb (bits % 2) 1 odd)

chosen_even : (bits id : ℕ) (ids : List ℕ) → bits % 2 ≡ 0 → chosen bits (id ∷ ids) ≡ chosen (bits / 2) ids
chosen_even bits id ids even = cond-false (nat_eq (bits % 2) 1) _ _ (ap (λ r. nat_eq r 1) even)

trailing_odd : (k bits : ℕ) → bits % 2 ≡ 1 → count_trailing_zeros (suc k) bits ≡ 0
unfolding count_trailing_zeros
trailing_odd k bits odd = ap (λ r. under r (count_trailing_zeros k (bits / 2))) odd

trailing_even : (k bits : ℕ) → bits % 2 ≡ 0 → count_trailing_zeros (suc k) bits ≡ suc (count_trailing_zeros k (bits / 2))
unfolding count_trailing_zeros
trailing_even k bits even = ap (λ r. under r (count_trailing_zeros k (bits / 2))) even

first_odd : (bits id : ℕ) (ids : List ℕ) → bits % 2 ≡ 1 → IsFirst 0 bits (id ∷ ids)
first_odd bits id ids odd =
    let half : bits / 2 ≡ (bits - 1) / 2 = omega arith in
    let rest : (bits - 1) % 2 ≡ 0 = omega arith in
    record {
      within = omega arith;
      least = omega arith;
      is = λ d.
          chosen_odd bits id ids odd ∙ ap (λ b. id ∷ chosen b ids) half
          ∙ ap (λ xs. id ∷ xs) (sym (chosen_even (bits - 1) id ids rest));
      rest = half_bits (bits - 1) bits rest (λ k set. subst (λ b. bit_at b k ≡ 1) (sym half) set);
    }

-- twice as far
first_even : (t bits id : ℕ) (ids : List ℕ) → bits % 2 ≡ 0 → IsFirst t (bits / 2) ids → IsFirst (suc t) bits (id ∷ ids)
first_even t bits id ids even first =
    let power : 2 ^ suc t ≡ 2 * 2 ^ t = simp unary_clauses (omega arith) in
    let twice : bits - 2 ^ suc t ≡ 2 * (bits / 2 - 2 ^ t) = ap (λ p. bits - p) power ∙ whole bits (2 ^ t) even in
    let within : t < length ids = first.within in
    record {
      within = omega arith;
      least = subst (λ p. p ≤ bits) (sym power) (least bits (2 ^ t) even first.least);
      is = λ d.
          chosen_even bits id ids even ∙ first.is d
          ∙ ap (λ b. get_or ids t d ∷ chosen b ids) (halved (bits - 2 ^ suc t) (bits / 2 - 2 ^ t) twice)
          ∙ ap (λ xs. get_or ids t d ∷ xs)
          (sym (chosen_even (bits - 2 ^ suc t) id ids (even_twice (bits - 2 ^ suc t) (bits / 2 - 2 ^ t) twice)));
      rest = half_bits (bits - 2 ^ suc t) bits (even_twice (bits - 2 ^ suc t) (bits / 2 - 2 ^ t) twice)
          (λ k set. first.rest k (subst (λ b. bit_at b k ≡ 1) (sym (halved (bits - 2 ^ suc t) (bits / 2 - 2 ^ t) twice)) set));
    }
  where
    whole : (n p : ℕ) → n % 2 ≡ 0 → n - 2 * p ≡ 2 * (n / 2 - p)
    whole n p even = omega arith

    least : (n p : ℕ) → n % 2 ≡ 0 → p ≤ n / 2 → 2 * p ≤ n
    least n p even low = omega arith

    halved : (n m : ℕ) → n ≡ 2 * m → m ≡ n / 2
    halved n m is = omega arith

    even_twice : (n m : ℕ) → n ≡ 2 * m → n % 2 ≡ 0
    even_twice n m is = omega arith

pub chosen_first : (k bits : ℕ) (ids : List ℕ) → 0 < bits → bits < 2 ^ length ids → length ids ≤ k
    → IsFirst (count_trailing_zeros k bits) bits ids
chosen_first k bits [] some few long = absurd (omega arith)
chosen_first zero bits (id ∷ ids) some few long = absurd (omega arith)
chosen_first (suc k) bits (id ∷ ids) some few long =
    elim (cases_eq (bits % 2) 1) [
      | inl odd ↦ subst (λ t. IsFirst t bits (id ∷ ids)) (sym (trailing_odd k bits odd)) (first_odd bits id ids odd)
      | inr other ↦
          let even : bits % 2 ≡ 0 = omega arith in
          subst (λ t. IsFirst t bits (id ∷ ids)) (sym (trailing_even k bits even))
          (first_even (count_trailing_zeros k (bits / 2)) bits id ids even
          (chosen_first k (bits / 2) ids (omega arith)
          (below bits (2 ^ length ids) (subst (λ p. bits < p) (simp unary_clauses (omega arith)) few)) (omega arith)))
    ]
  where
    below : (n p : ℕ) → n < 2 * p → n / 2 < p
    below n p few = omega arith

-- a bit of a number below 2 ^ 64 is a number of 64 bits
pub bit_small : (p bits : ℕ) → p ≤ bits → bits < 2 ^ 64 → 1 * p % 2 ^ 64 ≡ p
bit_small p bits least few = ap (λ n. n % 2 ^ 64) (omega arith) ∙ mod-eq_of_lt (omega arith)

-- the lowest of some slots of a group, as bits, and what is left without it
pub record TakesFirst (bits : ℕ) (ids : List ℕ) (slot : ℕ) : Type 0 where
  pub within : slot < 10
  pub least : 2 ^ slot ≤ bits
  pub set : bit_at bits slot ≡ 1
  pub is : chosen bits ids ≡ get_or ids slot 0 ∷ chosen (bits - 2 ^ slot) ids
  pub rest : (other : ℕ) → bit_at (bits - 2 ^ slot) other ≡ 1 → bit_at bits other ≡ 1

-- the trailing zeros of some slots of a group say which is the lowest
pub takes_first : (bits : ℕ) (ids : List ℕ) → length ids ≡ 10 → 0 < bits → bits < 1024 → TakesFirst bits ids (count_trailing_zeros 64 bits)
takes_first bits ids len some few =
    let first = chosen_first 64 bits ids some (subst (λ n. bits < 2 ^ n) (sym len) few) (omega arith) in
    let within : count_trailing_zeros 64 bits < length ids = first.within in
    record {
      within = omega arith;
      least = first.least;
      set = (bit_at-trailing_zeros w64 bits some (omega (arith, few))).1;
      is = first.is 0;
      rest = first.rest;
    }

-- which slots they are tells it, whatever the ids
pub lowest : (bits : ℕ) → 0 < bits → bits < 1024 → TakesFirst bits (replicate 10 0) (count_trailing_zeros 64 bits)
lowest bits some few = takes_first bits (replicate 10 0) refl some few
