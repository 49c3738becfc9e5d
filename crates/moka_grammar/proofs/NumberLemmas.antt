-- A word is read as the number that it spells.
use Rattle.std.proofs.Common.{◌≡◌, ℕ, ◌<◌, ◌^◌, List, length, Bool, true, false, not, ◌&&◌, ◌||◌, cond, ltb, get_or}
use Rattle.std.proofs.Common.{inl, inr, Some, None, Result, Ok, Err, refl, sym, ap, subst, ◌∙◌, arith, rules}
use Rattle.std.specs.Char.{is_ascii_digit}
use Rattle.std.specs.List.{list_all}
use Rattle.std.specs.Str.{IsUtf8}
use Rattle.std.specs.Str.Parse.{ParsesUnsigned, digits_value}
use Rattle.std.proofs.lemmas.Result.{OkIff-at_ok, OkIff-at_err}
use Rattle.std.proofs.lemmas.Bool.Decides.{nat_tests}
use Rattle.std.specs.Fmt.{decimal}
use Rattle.std.proofs.lemmas.Bool.{cases_lt, ltb-true}
use Rattle.std.proofs.lemmas.Fmt.{IsAscii-from_digits, first_decimal, decimal_digit, decimal_nonempty}
use Rattle.std.proofs.lemmas.Fmt.{digits_decimal, digits_value-decimal, decimal-digits_value}
use Rattle.std.proofs.lemmas.Str.{IsUtf8-from_ascii}
use Rattle.std.proofs.lemmas.Str.Parse.{IsNumeralModel, numerals_by_value, parse_digits}
use Rattle.moka_grammar.specs.Reading.{has_leading_zero, number_of}

-- digits and their value, in std's words
pub digits_model : IsNumeralModel (λ ds. list_all is_ascii_digit ds ≡ true) (digits_value 10)
digits_model = numerals_by_value _ (search rules)

-- digits are ASCII, and so text
pub digits_are_text : (word : List ℕ) → list_all is_ascii_digit word ≡ true → IsUtf8 word
digits_are_text word digits = IsUtf8-from_ascii word (IsAscii-from_digits word (digits_model.to word digits))

-- what a digits' test lets through is decided by its length and its value
pub number_of-digits : (word : List ℕ) → has_leading_zero word ≡ false → list_all is_ascii_digit word ≡ true → 0 < length word
    → digits_value 10 word < 2 ^ 64 → number_of word ≡ Some (digits_value 10 word)
unfolding number_of
number_of-digits word lead digits some small = rw (lead, digits) (grind (arith, nat_tests))

-- and so is what it refuses
pub number_of-not_digits : (word : List ℕ) → has_leading_zero word ≡ false → list_all is_ascii_digit word ≡ true
    → ((0 < length word) × (digits_value 10 word < 2 ^ 64) → ⊥) → number_of word ≡ None
unfolding number_of
number_of-not_digits word lead digits fails = rw (lead, digits) (grind (arith, nat_tests))

-- what `parse` gives for digits with no leading zero is their number
pub parsed_ok : {E : Type 0} (word : List ℕ) (r : Result ℕ E) (n : ℕ) → has_leading_zero word ≡ false
    → list_all is_ascii_digit word ≡ true → ParsesUnsigned 64 10 word r → r ≡ Ok n → number_of word ≡ Some n
parsed_ok word r n lead digits parses is =
    let found = OkIff-at_ok r _ _ n (parse_digits digits_model 64 word r parses digits) is in
    number_of-digits word lead digits found.0.0 found.0.1 ∙ ap Some (sym found.1)

-- what it refuses of those is no number
pub parsed_err : {E : Type 0} (word : List ℕ) (r : Result ℕ E) (e : E) → has_leading_zero word ≡ false
    → list_all is_ascii_digit word ≡ true → ParsesUnsigned 64 10 word r → r ≡ Err e → number_of word ≡ None
parsed_err word r e lead digits parses is =
    number_of-not_digits word lead digits (OkIff-at_err r _ _ e (parse_digits digits_model 64 word r parses digits) is)

-- ---- decimal numbers

-- only 0 itself begins with a 0
no_leading_zero-decimal : (n : ℕ) → n < 2 ^ 64 → has_leading_zero (decimal n) ≡ false
no_leading_zero-decimal n small =
    elim (cases_lt 0 n) [
      | inl some ↦ let first = first_decimal n some small in grind (arith, nat_tests)
      | inr none ↦ let zero_is : n ≡ 0 = omega arith in rw (zero_is, decimal_digit 0 (omega arith)) refl
    ]

-- the decimal spelling of a number is read as that number
pub number_of-decimal : (n : ℕ) → n < 2 ^ 64 → number_of (decimal n) ≡ Some n
number_of-decimal n small =
    let value = digits_value-decimal digits_model n small in
    number_of-digits (decimal n) (no_leading_zero-decimal n small) (digits_decimal digits_model n small) (decimal_nonempty n small)
    (rw value small) ∙ ap Some value

-- the test of a number went this way
read_as : (lead digits some small : Bool) (v n : ℕ) → cond (lead || not digits) None (cond (some && small) (Some v) None) ≡ Some n
    → (lead ≡ false) × (digits ≡ true) × (some ≡ true) × (small ≡ true) × (v ≡ n)
read_as true digits some small v n e = absurd cc
read_as false false some small v n e = absurd cc
read_as false true false small v n e = absurd cc
read_as false true true false v n e = absurd cc
read_as false true true true v n e = (refl, refl, refl, refl, cc)

-- a 0 that leads is alone, where no zero leads more
lone_zero : (word : List ℕ) → has_leading_zero word ≡ false → 0 < length word → get_or word 0 0 ≡ 48 → length word ≡ 1
lone_zero word lead some zero = grind (arith, nat_tests)

-- what is read as a number is its decimal spelling
pub number_of-found : (word : List ℕ) (n : ℕ) → number_of word ≡ Some n → (word ≡ decimal n) × (n < 2 ^ 64)
unfolding number_of
number_of-found word n e =
    let (lead, digits, some, small, is) =
    read_as (has_leading_zero word) (list_all is_ascii_digit word) (ltb 0 (length word)) (ltb (digits_value 10 word) (2 ^ 64))
    (digits_value 10 word) n e in
    let is_some = ltb-true 0 (length word) some in
    let is_small = ltb-true (digits_value 10 word) (2 ^ 64) small in (
      sym (decimal-digits_value digits_model word digits is_some (lone_zero word lead is_some) is_small)
          ∙ ap decimal is,
      subst (λ m. m < 2 ^ 64) is is_small,
    )
