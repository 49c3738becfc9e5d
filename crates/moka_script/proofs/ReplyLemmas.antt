-- Pairs are written one after another.
use Rattle.std.proofs.Common.{◌≡◌, ℕ, List, [], ◌∷◌, ◌++◌, Result, Ok, Err, OnOk, is_ok, if◌then◌else◌, sym, ap, ◌∙◌, append_assoc}
use Rattle.std.proofs.lemmas.List.{append-nil}
use Rattle.std.specs.List.{flat_map}
use Rattle.moka_grammar.specs.Spelling.{line_feed, space}
use Rattle.moka_script.specs.Reply.{pair_words, pairs_words}

-- the words of pairs that come behind others
abbrev pub more_words : List (ℕ × List ℕ) → List ℕ
more_words pairs = flat_map (λ pair. space ∷ pair_words pair) pairs

-- the words of pairs are those of the first, and of the others with a space before each
pairs_words-cons : (pair : ℕ × List ℕ) (pairs : List (ℕ × List ℕ)) → pairs_words (pair ∷ pairs) ≡ pair_words pair ++ more_words pairs
pairs_words-cons pair [] = sym (append-nil (pair_words pair))
pairs_words-cons pair (next ∷ pairs) = ap (λ words. pair_words pair ++ space ∷ words) (pairs_words-cons next pairs)

-- pairs are written where the first is, and then the others and the line's end
pub pairs_written : {X E : Type 0} (result : Result X E) (before first all after : List ℕ) (pair : ℕ × List ℕ)
    (rest pairs : List (ℕ × List ℕ))
    → pairs ≡ pair ∷ rest → first ≡ before ++ pair_words pair → all ≡ first ++ more_words rest
    → after ≡ (if is_ok result then all ++ line_feed ∷ [] else all) → OnOk result (after ≡ before ++ (pairs_words pairs ++ line_feed ∷ []))
pairs_written (Err e) before first all after pair rest pairs pairs_are first_is all_is after_is = tt
pairs_written (Ok x) before first all after pair rest pairs pairs_are first_is all_is after_is =
    let words : pair_words pair ++ more_words rest ≡ pairs_words pairs = sym (pairs_words-cons pair rest)
    ∙ ap pairs_words (sym pairs_are) in
    let text : all ≡ before ++ pairs_words pairs =
    all_is ∙ ap (λ l. l ++ more_words rest) first_is ∙ append_assoc before (pair_words pair) (more_words rest)
    ∙ ap (λ l. before ++ l) words in
    after_is ∙ ap (λ l. l ++ line_feed ∷ []) text ∙ append_assoc before (pairs_words pairs) (line_feed ∷ [])
