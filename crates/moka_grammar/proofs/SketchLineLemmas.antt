-- The words of sketch lines are read as those lines.
use Rattle.std.proofs.Common.{◌≡◌, ℕ, ◌<◌, ◌^◌, List, [], ◌∷◌, codes, Some, refl, ap, ◌∙◌, subst, inl, inr, arith}
use Rattle.std.specs.Fmt.{decimal}
use Rattle.std.specs.List.{AllByRecursion}
use Rattle.std.specs.Str.{bytes_eq}
use Rattle.std.proofs.lemmas.Option.{same_Some}
use Rattle.std.proofs.lemmas.Slice.Eq.{bytes_eq-Decides}
use Rattle.moka_common.specs.declared.constants.TheConstants.{DEPTHS}
use Rattle.moka_grammar.specs.declared.line.SketchLine.{SketchLine}
use Rattle.moka_grammar.specs.declared.line.SketchLine.TheVariants.{Inc, Freq, Index, Len, Ensure}
use Rattle.moka_grammar.specs.SketchLines.{sketch_words, SketchFits}
use Rattle.moka_grammar.specs.Reading.{◌>>=◌, number_of, number_below, no_argument, u64_of, u32_of}
use Rattle.moka_grammar.specs.ReadingLines.{inc_of, index_at_of, sketch_from_words}
use Rattle.moka_grammar.proofs.CutLemmas.{bind_some}
use Rattle.moka_grammar.proofs.LineLemmas.{IsReading}
use Rattle.moka_grammar.proofs.NumberLemmas.{number_of-decimal, number_of-found}
use Rattle.moka_grammar.proofs.ArgumentLemmas.{chosen, number_below-found, number_below-decimal}
use Rattle.moka_grammar.proofs.ArgumentLemmas.{no_argument-found, u64_of-found, u32_of-found}
use Rattle.moka_grammar.proofs.WordLemmas.{IsWord, IsWord-decimal, IsWord-name}

-- the words are those of the line, which fits
abbrev IsLine : List (List ℕ) → SketchLine → Type 0
IsLine words line = (words ≡ sketch_words line) × SketchFits line

-- a hash, and a number below a limit
hash_and : (limit : ℕ) (hash word : List ℕ) (make : ℕ → ℕ → SketchLine) (line : SketchLine)
    → (number_of hash >>= λ h. number_below limit word >>= λ n. Some (make h n)) ≡ Some line
    → (h : ℕ) × (n : ℕ) × (hash ∷ word ∷ [] ≡ decimal h ∷ decimal n ∷ []) × (h < 2 ^ 64) × (n < limit) × (make h n ≡ line)
hash_and limit hash word make line e =
    let (h, hash_is, more) = bind_some (number_of hash) (λ h. number_below limit word >>= λ n. Some (make h n)) line e in
    let (n, number_is, shown) = bind_some (number_below limit word) (λ n. Some (make h n)) line more in
    let hashes = number_of-found hash h hash_is in
    let numbers = number_below-found limit word n number_is in
    (h, n, ap (λ w. w ∷ word ∷ []) hashes.0 ∙ ap (λ w. decimal h ∷ w ∷ []) numbers.0, hashes.1, numbers.1, same_Some _ _ shown)

-- what is read as a count is spelled so
inc_of-found : (arguments : List (List ℕ)) (line : SketchLine) → inc_of arguments ≡ Some line → IsLine (codes "inc" ∷ arguments) line
unfolding inc_of
inc_of-found [] line e = absurd cc
inc_of-found (hash ∷ []) line e = absurd cc
inc_of-found (hash ∷ times ∷ []) line e =
    let (h, n, spelled, small, below, is) = hash_and (2 ^ 16) hash times (λ h n. Inc h n) line e in
    subst (IsLine (codes "inc" ∷ hash ∷ times ∷ [])) is (ap (λ l. codes "inc" ∷ l) spelled, (small, below))
inc_of-found (hash ∷ times ∷ next ∷ more) line e = absurd cc

-- what is read as an index is spelled so
index_at_of-found : (arguments : List (List ℕ)) (line : SketchLine) → index_at_of arguments ≡ Some line
    → IsLine (codes "index" ∷ arguments) line
unfolding index_at_of
index_at_of-found [] line e = absurd cc
index_at_of-found (hash ∷ []) line e = absurd cc
index_at_of-found (hash ∷ depth ∷ []) line e =
    let (h, n, spelled, small, below, is) = hash_and DEPTHS hash depth (λ h n. Index h n) line e in
    subst (IsLine (codes "index" ∷ hash ∷ depth ∷ [])) is (ap (λ l. codes "index" ∷ l) spelled, (small, below))
index_at_of-found (hash ∷ depth ∷ next ∷ more) line e = absurd cc

-- what is read as a frequency is spelled so
freq-found : (arguments : List (List ℕ)) (line : SketchLine) → (u64_of arguments >>= λ hash. Some (Freq hash)) ≡ Some line
    → IsLine (codes "freq" ∷ arguments) line
freq-found arguments line e =
    let (hash, was, shown) = bind_some (u64_of arguments) (λ hash. Some (Freq hash)) line e in
    let key = u64_of-found arguments hash was in
    subst (IsLine (codes "freq" ∷ arguments)) (same_Some _ _ shown) (ap (λ l. codes "freq" ∷ l) key.0, key.1)

-- what is read as a length is spelled so
len-found : (arguments : List (List ℕ)) (line : SketchLine) → (no_argument arguments >>= λ nothing. Some Len) ≡ Some line
    → IsLine (codes "len" ∷ arguments) line
len-found arguments line e =
    let (nothing, was, shown) = bind_some (no_argument arguments) (λ nothing. Some Len) line e in
    subst (IsLine (codes "len" ∷ arguments)) (same_Some _ _ shown) (ap (λ l. codes "len" ∷ l) (no_argument-found arguments nothing was), tt)

-- what is read as a growth is spelled so
ensure-found : (arguments : List (List ℕ)) (line : SketchLine) → (u32_of arguments >>= λ cap. Some (Ensure cap)) ≡ Some line
    → IsLine (codes "ensure" ∷ arguments) line
ensure-found arguments line e =
    let (cap, was, shown) = bind_some (u32_of arguments) (λ cap. Some (Ensure cap)) line e in
    let found = u32_of-found arguments cap was in
    subst (IsLine (codes "ensure" ∷ arguments)) (same_Some _ _ shown) (ap (λ l. codes "ensure" ∷ l) found.0, found.1)

-- where the name is this one, so is the first word
named : (name known : List ℕ) (arguments : List (List ℕ)) (line : SketchLine) → name ≡ known → IsLine (known ∷ arguments) line
    → IsLine (name ∷ arguments) line
named name known arguments line is found = (ap (λ w. w ∷ arguments) is ∙ found.0, found.1)

-- what words are read as a line are its words
sketch_from_words-found : (words : List (List ℕ)) (line : SketchLine) → sketch_from_words words ≡ Some line → IsLine words line
unfolding sketch_from_words
sketch_from_words-found [] line e = absurd cc
sketch_from_words-found (name ∷ arguments) line e =
    elim (chosen (bytes_eq name (codes "inc")) _ _ _ e) [
      | inl inc ↦ named name (codes "inc") arguments line ((bytes_eq-Decides name (codes "inc")).0 inc.0)
          (inc_of-found arguments line inc.1)
      | inr not_inc ↦ elim (chosen (bytes_eq name (codes "freq")) _ _ _ not_inc.1) [
        | inl freq ↦ named name (codes "freq") arguments line ((bytes_eq-Decides name (codes "freq")).0 freq.0)
            (freq-found arguments line freq.1)
        | inr not_freq ↦ elim (chosen (bytes_eq name (codes "index")) _ _ _ not_freq.1) [
          | inl index ↦ named name (codes "index") arguments line ((bytes_eq-Decides name (codes "index")).0 index.0)
              (index_at_of-found arguments line index.1)
          | inr not_index ↦ elim (chosen (bytes_eq name (codes "len")) _ _ _ not_index.1) [
            | inl len ↦ named name (codes "len") arguments line ((bytes_eq-Decides name (codes "len")).0 len.0)
                (len-found arguments line len.1)
            | inr not_len ↦ elim (chosen (bytes_eq name (codes "ensure")) _ _ _ not_len.1) [
              | inl ensure ↦ named name (codes "ensure") arguments line ((bytes_eq-Decides name (codes "ensure")).0 ensure.0)
                  (ensure-found arguments line ensure.1)
              | inr not_ensure ↦ absurd (let none = not_ensure.1 in cc)
            ]
          ]
        ]
      ]
    ]

-- the words of a line are words
sketch_words_are : (line : SketchLine) → SketchFits line → AllByRecursion IsWord (sketch_words line)
sketch_words_are (Inc hash times) fits =
    (IsWord-name (codes "inc") refl, (IsWord-decimal hash fits.0, (IsWord-decimal times (omega (arith, fits.1)), tt)))
sketch_words_are (Freq hash) fits = (IsWord-name (codes "freq") refl, (IsWord-decimal hash fits, tt))
sketch_words_are (Index hash depth) fits =
    (IsWord-name (codes "index") refl, (IsWord-decimal hash fits.0, (IsWord-decimal depth (omega (arith, fits.1)), tt)))
sketch_words_are Len fits = (IsWord-name (codes "len") refl, tt)
sketch_words_are (Ensure cap) fits = (IsWord-name (codes "ensure") refl, (IsWord-decimal cap (omega (arith, fits)), tt))

-- the words of a line are read as that line
sketch_again : (line : SketchLine) → SketchFits line → sketch_from_words (sketch_words line) ≡ Some line
unfolding sketch_from_words inc_of index_at_of u64_of u32_of no_argument
sketch_again (Inc hash times) fits =
    rw (number_of-decimal hash fits.0, number_below-decimal (2 ^ 16) times fits.1 (omega (arith, fits.1))) refl
sketch_again (Freq hash) fits = rw (number_of-decimal hash fits) refl
sketch_again (Index hash depth) fits =
    rw (number_of-decimal hash fits.0, number_below-decimal DEPTHS depth fits.1 (omega (arith, fits.1))) refl
sketch_again Len fits = refl
sketch_again (Ensure cap) fits = rw (number_below-decimal (2 ^ 32) cap fits (omega (arith, fits))) refl

-- a line has words
some_sketch_words : (line : SketchLine) → sketch_words line ≡ [] → ⊥
some_sketch_words (Inc hash times) e = absurd cc
some_sketch_words (Freq hash) e = absurd cc
some_sketch_words (Index hash depth) e = absurd cc
some_sketch_words Len e = absurd cc
some_sketch_words (Ensure cap) e = absurd cc

-- sketch lines are read as they are spelled
pub reads_sketch : IsReading sketch_words SketchFits sketch_from_words
reads_sketch = record {
  are_words = sketch_words_are;
  some = some_sketch_words;
  found = sketch_from_words-found;
  again = sketch_again;
}
