-- What a call is given is read as it is spelled.
use Rattle.std.proofs.Common.{◌≡◌, ℕ, ◌<◌, ◌^◌, List, [], ◌∷◌, Bool, true, false, cond}
use Rattle.std.proofs.Common.{ltb, Some, None, refl, ap, ◌∙◌, subst, inl, inr, ◌⊎◌}
use Rattle.std.specs.Fmt.{decimal}
use Rattle.std.proofs.lemmas.Bool.{lt-ltb, ltb-true}
use Rattle.std.proofs.lemmas.Option.{cond_some}
use Rattle.moka_grammar.specs.Text.{IsText, is_text}
use Rattle.moka_grammar.specs.Reading.{number_of, number_below, text_of, no_argument, u64_of, u32_of}
use Rattle.moka_grammar.proofs.CutLemmas.{bind_some}
use Rattle.moka_grammar.proofs.NumberLemmas.{number_of-decimal, number_of-found}

-- which way a test went
pub chosen : {A : Type 0} (b : Bool) (x y z : A) → cond b x y ≡ z → ((b ≡ true) × (x ≡ z)) ⊎ ((b ≡ false) × (y ≡ z))
chosen true x y z e = inl (refl, e)
chosen false x y z e = inr (refl, e)

-- a number that is read below a limit is spelled so, and is below it
pub number_below-found : (limit : ℕ) (word : List ℕ) (n : ℕ) → number_below limit word ≡ Some n → (word ≡ decimal n) × (n < limit)
unfolding number_below
number_below-found limit word n e =
    let (m, was, shown) = bind_some (number_of word) (λ m. cond (ltb m limit) (Some m) None) n e in
    let below = cond_some (ltb m limit) m n shown in
    let number = number_of-found word m was in
    (number.0 ∙ ap decimal below.1, subst (λ k. k < limit) below.1 (ltb-true m limit below.0))

-- a number below a limit is read
pub number_below-decimal : (limit n : ℕ) → n < limit → n < 2 ^ 64 → number_below limit (decimal n) ≡ Some n
unfolding number_below
number_below-decimal limit n below small = rw (number_of-decimal n small, lt-ltb n limit below) refl

-- what is read as a text is that text
pub text_of-found : (word text : List ℕ) → text_of word ≡ Some text → (word ≡ text) × IsText text
text_of-found word text e =
    let found = cond_some (is_text word) word text e in
    (found.1, subst IsText found.1 found.0)

-- a text is read as itself
pub text_of-text : (text : List ℕ) → IsText text → text_of text ≡ Some text
text_of-text text h = rw h refl

-- where no argument is read there is none
pub no_argument-found : (arguments : List (List ℕ)) (nothing : Unit {0}) → no_argument arguments ≡ Some nothing → arguments ≡ []
unfolding no_argument
no_argument-found [] nothing e = refl
no_argument-found (word ∷ words) nothing e = absurd cc

-- what is read as a number of 64 bits is its decimal spelling
pub u64_of-found : (arguments : List (List ℕ)) (k : ℕ) → u64_of arguments ≡ Some k → (arguments ≡ decimal k ∷ []) × (k < 2 ^ 64)
unfolding u64_of
u64_of-found [] k e = absurd cc
u64_of-found (key ∷ []) k e =
    let keys = number_of-found key k e in
    (ap (λ w. w ∷ []) keys.0, keys.1)
u64_of-found (key ∷ next ∷ more) k e = absurd cc

-- what is read as a number of 32 bits is its decimal spelling
pub u32_of-found : (arguments : List (List ℕ)) (cap : ℕ) → u32_of arguments ≡ Some cap → (arguments ≡ decimal cap ∷ []) × (cap < 2 ^ 32)
unfolding u32_of
u32_of-found [] cap e = absurd cc
u32_of-found (word ∷ []) cap e =
    let number = number_below-found (2 ^ 32) word cap e in
    (ap (λ w. w ∷ []) number.0, number.1)
u32_of-found (word ∷ next ∷ more) cap e = absurd cc
