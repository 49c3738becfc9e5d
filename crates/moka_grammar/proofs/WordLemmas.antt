-- Words that a space joins are parted there again.
use Rattle.std.proofs.Common.{◌≡◌, ℕ, ◌<◌, ◌^◌, List, [], ◌∷◌, ◌++◌, Bool, true, false, ◌&&◌, ◌==◌, refl, ap, ◌∙◌, arith}
use Rattle.std.specs.Char.{is_ascii_digit}
use Rattle.std.specs.Fmt.{decimal}
use Rattle.std.specs.List.{AllByRecursion, join_with_byte, list_all, slice_split}
use Rattle.std.proofs.lemmas.Bool.Decides.{nat_tests}
use Rattle.std.proofs.lemmas.Fmt.{digits_decimal}
use Rattle.moka_grammar.specs.Spelling.{line_feed, space}
use Rattle.moka_grammar.specs.Text.{IsText, is_text_byte}
use Rattle.moka_grammar.proofs.NumberLemmas.{digits_model}

-- each byte is above the space, and so above the line feed
abbrev pub IsWord : List ℕ → Type 0
IsWord word = AllByRecursion (λ b. space < b) word

-- each byte is above the line feed
abbrev pub IsInLine : List ℕ → Type 0
IsInLine bytes = AllByRecursion (λ b. line_feed < b) bytes

-- a byte above another is not that one
pub not_equal : (b c : ℕ) → c < b → (b == c) ≡ false
not_equal b c h = grind (arith, nat_tests)

-- a word has no space to be parted at
pub split-word : (word : List ℕ) → IsWord word → slice_split (λ b. b == space) word ≡ word ∷ []
split-word [] h = refl
split-word (x ∷ xs) h = rw (not_equal x space h.0, split-word xs h.1) refl

-- a word is parted from what is behind its space
pub split-more : (word rest : List ℕ) → IsWord word
    → slice_split (λ b. b == space) (word ++ space ∷ rest) ≡ word ∷ slice_split (λ b. b == space) rest
split-more [] rest h = refl
split-more (x ∷ xs) rest h = rw (not_equal x space h.0, split-more xs rest h.1) refl

-- the words that spaces join come apart as they were
pub split-join : (word : List ℕ) (words : List (List ℕ)) → AllByRecursion IsWord (word ∷ words)
    → slice_split (λ b. b == space) (join_with_byte space (word ∷ words)) ≡ word ∷ words
split-join word [] h = split-word word h.0
split-join word (next ∷ words) h = split-more word (join_with_byte space (next ∷ words)) h.0
    ∙ ap (λ l. word ∷ l) (split-join next words h.1)

-- ---- no line feed is in a line

-- two parts with no line feed have none together
pub IsInLine-append : (xs ys : List ℕ) → IsInLine xs → IsInLine ys → IsInLine (xs ++ ys)
IsInLine-append [] ys p q = q
IsInLine-append (x ∷ xs) ys p q = (p.0, IsInLine-append xs ys p.1 q)

-- a word has no line feed
pub IsInLine-word : (word : List ℕ) → IsWord word → IsInLine word
IsInLine-word [] h = tt
IsInLine-word (x ∷ xs) h = (omega (arith, h.0), IsInLine-word xs h.1)

-- words with spaces between them have none
pub IsInLine-join : (words : List (List ℕ)) → AllByRecursion IsWord words → IsInLine (join_with_byte space words)
IsInLine-join [] h = tt
IsInLine-join (word ∷ []) h = IsInLine-word word h.0
IsInLine-join (word ∷ next ∷ words) h =
    IsInLine-append word (space ∷ join_with_byte space (next ∷ words)) (IsInLine-word word h.0)
    (omega arith, IsInLine-join (next ∷ words) h.1)

-- ---- what is a word

-- both parts hold
pub and_parts : (a b : Bool) → (a && b) ≡ true → (a ≡ true) × (b ≡ true)
and_parts true b e = (refl, e)
and_parts false b e = absurd cc

-- a test that lets only bytes above the space through
pub IsWord-tested : (test : ℕ → Bool) → ((b : ℕ) → test b ≡ true → space < b) → (word : List ℕ) → list_all test word ≡ true → IsWord word
IsWord-tested test above [] h = tt
IsWord-tested test above (x ∷ xs) h =
    let parts = and_parts (test x) (list_all test xs) h in
    (above x parts.0, IsWord-tested test above xs parts.1)

-- digits are above the space
digit_above : (b : ℕ) → is_ascii_digit b ≡ true → space < b
digit_above b h = grind (arith, nat_tests)

-- the bytes of texts are above the space
pub text_byte_above : (b : ℕ) → is_text_byte b ≡ true → space < b
text_byte_above b h = grind (arith, nat_tests)

-- a number is spelled as a word
pub IsWord-decimal : (n : ℕ) → n < 2 ^ 64 → IsWord (decimal n)
IsWord-decimal n small = IsWord-tested is_ascii_digit digit_above (decimal n) (digits_decimal digits_model n small)

-- a text is a word
pub IsWord-text : (text : List ℕ) → IsText text → IsWord text
IsWord-text text h = IsWord-tested is_text_byte text_byte_above text (and_parts _ _ h).1

-- two words at once behind each other are one
pub IsWord-append : (xs ys : List ℕ) → IsWord xs → IsWord ys → IsWord (xs ++ ys)
IsWord-append [] ys p q = q
IsWord-append (x ∷ xs) ys p q = (p.0, IsWord-append xs ys p.1 q)

-- the words of two lists are those of both together
pub are_words-append : (xs ys : List (List ℕ)) → AllByRecursion IsWord xs → AllByRecursion IsWord ys → AllByRecursion IsWord (xs ++ ys)
are_words-append [] ys p q = q
are_words-append (x ∷ xs) ys p q = (p.0, are_words-append xs ys p.1 q)

-- the name of a call is a word
pub IsWord-name : (name : List ℕ) → list_all is_text_byte name ≡ true → IsWord name
IsWord-name name h = IsWord-tested is_text_byte text_byte_above name h
