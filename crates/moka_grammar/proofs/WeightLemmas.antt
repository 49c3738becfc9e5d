-- The word of a weight is read as that weight, as a script is weighed.
use Rattle.std.proofs.Common.{◌≡◌, ℕ, ◌^◌, List, [], ◌∷◌, ◌++◌, Bool, true, false, Option, Some, None, refl, ap, ◌∙◌, subst, arith}
use Rattle.std.specs.Fmt.{decimal}
use Rattle.std.specs.List.{AllByRecursion}
use Rattle.std.proofs.lemmas.List.{append-nil}
use Rattle.std.proofs.lemmas.Option.{some_pair_parts}
use Rattle.moka_grammar.specs.Lines.{weight_words, WeightFits}
use Rattle.moka_grammar.specs.Reading.{◌>>=◌, number_below, no_argument}
use Rattle.moka_grammar.specs.ReadingLines.{weight_of}
use Rattle.moka_grammar.proofs.CutLemmas.{bind_some}
use Rattle.moka_grammar.proofs.ArgumentLemmas.{number_below-found, number_below-decimal, no_argument-found}
use Rattle.moka_grammar.proofs.WordLemmas.{IsWord, IsWord-decimal}

-- the words are that of the weight, which fits, and these are behind it
abbrev pub IsWeight : Bool → List (List ℕ) → List (List ℕ) → Option ℕ → Type 0
IsWeight weighed words behind weight = (words ≡ weight_words weight ++ behind) × WeightFits weighed weight

-- what is read as a weight is spelled so
pub weight_of-found : (weighed : Bool) (words : List (List ℕ)) (weight : Option ℕ) (behind : List (List ℕ))
    → weight_of weighed words ≡ Some (weight, behind) → IsWeight weighed words behind weight
unfolding weight_of
weight_of-found true [] weight behind e = absurd cc
weight_of-found true (word ∷ words) weight behind e =
    let (w, was, shown) = bind_some (number_below (2 ^ 32) word) (λ w. Some (Some w, words)) (weight, behind) e in
    let same = some_pair_parts (Some w) weight words behind shown in
    let number = number_below-found (2 ^ 32) word w was in
    subst (IsWeight true (word ∷ words) behind) same.0 (ap (λ n. n ∷ words) number.0 ∙ ap (λ l. decimal w ∷ l) same.1, number.1)
weight_of-found false words weight behind e =
    let same = some_pair_parts None weight words behind e in
    subst (IsWeight false words behind) same.0 (same.1, tt)

-- the word of a weight is read as that weight
pub weight_of-again : (weighed : Bool) (weight : Option ℕ) (behind : List (List ℕ)) → WeightFits weighed weight
    → weight_of weighed (weight_words weight ++ behind) ≡ Some (weight, behind)
unfolding weight_of
weight_of-again true (Some w) behind fits = rw (number_below-decimal (2 ^ 32) w fits (omega (arith, fits))) refl
weight_of-again true None behind fits = absurd fits
weight_of-again false (Some w) behind fits = absurd fits
weight_of-again false None behind fits = refl

-- what is read as a weight with nothing behind it is spelled so
pub last_weight-found : (weighed : Bool) (words : List (List ℕ)) (weight : Option ℕ × List (List ℕ)) (nothing : Unit {0})
    → weight_of weighed words ≡ Some weight → no_argument weight.1 ≡ Some nothing → (words ≡ weight_words weight.0) × WeightFits weighed weight.0
last_weight-found weighed words weight nothing e none =
    let found = weight_of-found weighed words weight.0 weight.1 e in
    (found.0 ∙ ap (λ l. weight_words weight.0 ++ l) (no_argument-found weight.1 nothing none) ∙ append-nil (weight_words weight.0), found.1)

-- the word of a weight with nothing behind it is read as that weight
pub last_weight-again : (weighed : Bool) (weight : Option ℕ) → WeightFits weighed weight
    → weight_of weighed (weight_words weight) ≡ Some (weight, [])
last_weight-again weighed weight fits = rw append-nil at (weight_of-again weighed weight [] fits)

-- the word of a weight is a word
pub weight_words_are : (weighed : Bool) (weight : Option ℕ) → WeightFits weighed weight → AllByRecursion IsWord (weight_words weight)
weight_words_are true (Some w) fits = (IsWord-decimal w (omega (arith, fits)), tt)
weight_words_are true None fits = absurd fits
weight_words_are false (Some w) fits = absurd fits
weight_words_are false None fits = tt
