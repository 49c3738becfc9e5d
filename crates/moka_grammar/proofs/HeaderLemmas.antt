-- The words of headers are read as those headers.
use Rattle.std.proofs.Common.{◌≡◌, ℕ, List, [], ◌∷◌, codes, cond, Some, None, refl, ap, ◌∙◌, subst, inl, inr, ◌^◌, arith}
use Rattle.std.specs.Prelude.{IsTrue, not}
use Rattle.std.specs.List.{AllByRecursion}
use Rattle.std.specs.Str.{bytes_eq}
use Rattle.std.proofs.lemmas.Option.{cond_some, same_Some}
use Rattle.std.proofs.lemmas.Slice.Eq.{bytes_eq-Decides}
use Rattle.moka_grammar.specs.declared.line.CacheHeader.{CacheHeader}
use Rattle.moka_grammar.specs.declared.line.CacheOptions.{CacheOptions}
use Rattle.moka_grammar.specs.declared.line.Header.{Header}
use Rattle.moka_grammar.specs.declared.line.Header.TheVariants.{Cache, Core, Sketch}
use Rattle.moka_grammar.specs.declared.line.Mode.{Mode}
use Rattle.moka_grammar.specs.declared.line.Mode.TheVariants.{Recorded, Sync, Unsync}
use Rattle.moka_grammar.specs.Grammar.{mode_word, header_words, HeaderFits}
use Rattle.moka_grammar.specs.Options.{OptionsFit, can_have, options_words}
use Rattle.moka_grammar.specs.Reading.{◌>>=◌, u32_of}
use Rattle.moka_grammar.specs.ReadingOptions.{options_of}
use Rattle.moka_grammar.specs.ReadingLines.{mode_of, cache_header_of, header_from_words}
use Rattle.moka_grammar.proofs.CutLemmas.{bind_some}
use Rattle.moka_grammar.proofs.LineLemmas.{IsReading}
use Rattle.moka_grammar.proofs.ArgumentLemmas.{chosen, number_below-decimal, u32_of-found}
use Rattle.moka_grammar.proofs.OptionLemmas.{options_of-found, options_again, options_words_are}
use Rattle.moka_grammar.proofs.WordLemmas.{IsWord, IsWord-decimal, IsWord-name}

-- the words are those of the header, which fits
abbrev IsHeader : List (List ℕ) → Header → Type 0
IsHeader words header = (words ≡ header_words header) × HeaderFits header

-- ---- what is read is spelled so

-- what is read as a mode is its name
mode_of-found : (name : List ℕ) (mode : Mode) → mode_of name ≡ Some mode → name ≡ mode_word mode
unfolding mode_of
mode_of-found name mode e =
    elim (chosen (bytes_eq name (codes "recorded")) _ _ _ e) [
      | inl recorded ↦ subst (λ m. name ≡ mode_word m) (same_Some _ _ recorded.1) ((bytes_eq-Decides name (codes "recorded")).0 recorded.0)
      | inr not_recorded ↦ elim (chosen (bytes_eq name (codes "sync")) _ _ _ not_recorded.1) [
        | inl sync ↦ subst (λ m. name ≡ mode_word m) (same_Some _ _ sync.1) ((bytes_eq-Decides name (codes "sync")).0 sync.0)
        | inr not_sync ↦ elim (chosen (bytes_eq name (codes "unsync")) _ _ _ not_sync.1) [
          | inl unsync ↦ subst (λ m. name ≡ mode_word m) (same_Some _ _ unsync.1) ((bytes_eq-Decides name (codes "unsync")).0 unsync.0)
          | inr not_unsync ↦ absurd (let none = not_unsync.1 in cc)
        ]
      ]
    ]

-- what is read as a cache's header is spelled so
cache_header_of-found : (mode : Mode) (arguments : List (List ℕ)) (header : Header) → cache_header_of mode arguments ≡ Some header
    → IsHeader (mode_word mode ∷ arguments) header
unfolding cache_header_of
cache_header_of-found mode arguments header e =
    let behind = λ (options : CacheOptions). cond (can_have mode options) (Some (Cache (record { mode = mode; options = options }))) None in
    let (options, was, rest) = bind_some (options_of arguments) behind header e in
    let found = options_of-found arguments options was in
    let shown = cond_some (can_have mode options) (Cache (record { mode = mode; options = options })) header rest in
    subst (IsHeader (mode_word mode ∷ arguments)) shown.1 (ap (λ l. mode_word mode ∷ l) found.0, (found.1, shown.0))

-- what is read as a core's header is spelled so
core-found : (arguments : List (List ℕ)) (header : Header)
    → (options_of arguments >>= λ options. cond (not options.adaptive) (Some (Core options)) None) ≡ Some header → IsHeader (codes "core" ∷ arguments) header
core-found arguments header e =
    let (options, was, rest) = bind_some (options_of arguments) (λ options. cond (not options.adaptive) (Some (Core options)) None) header e in
    let found = options_of-found arguments options was in
    let shown = cond_some (not options.adaptive) (Core options) header rest in
    subst (IsHeader (codes "core" ∷ arguments)) shown.1 (ap (λ l. codes "core" ∷ l) found.0, (found.1, shown.0))

-- what is read as a sketch's header is spelled so
sketch-found : (arguments : List (List ℕ)) (header : Header) → (u32_of arguments >>= λ cap. Some (Sketch cap)) ≡ Some header
    → IsHeader (codes "sketch" ∷ arguments) header
sketch-found arguments header e =
    let (cap, was, shown) = bind_some (u32_of arguments) (λ cap. Some (Sketch cap)) header e in
    let found = u32_of-found arguments cap was in
    subst (IsHeader (codes "sketch" ∷ arguments)) (same_Some _ _ shown) (ap (λ l. codes "sketch" ∷ l) found.0, found.1)

-- where the name is this one, so is the first word
named : (name known : List ℕ) (arguments : List (List ℕ)) (header : Header) → name ≡ known → IsHeader (known ∷ arguments) header
    → IsHeader (name ∷ arguments) header
named name known arguments header is found = (ap (λ w. w ∷ arguments) is ∙ found.0, found.1)

-- what words are read as a header are its words
header_from_words-found : (words : List (List ℕ)) (header : Header) → header_from_words words ≡ Some header → IsHeader words header
unfolding header_from_words
header_from_words-found [] header e = absurd cc
header_from_words-found (name ∷ arguments) header e =
    elim (chosen (bytes_eq name (codes "sketch")) _ _ _ e) [
      | inl sketch ↦ named name (codes "sketch") arguments header ((bytes_eq-Decides name (codes "sketch")).0 sketch.0)
          (sketch-found arguments header sketch.1)
      | inr not_sketch ↦ elim (chosen (bytes_eq name (codes "core")) _ _ _ not_sketch.1) [
        | inl core ↦ named name (codes "core") arguments header ((bytes_eq-Decides name (codes "core")).0 core.0)
            (core-found arguments header core.1)
        | inr other ↦
            let (mode, mode_is, rest) = bind_some (mode_of name) (λ mode. cache_header_of mode arguments) header other.1 in
            named name (mode_word mode) arguments header (mode_of-found name mode mode_is)
            (cache_header_of-found mode arguments header rest)
      ]
    ]

-- ---- what is spelled is read

-- the name of a mode is a word
mode_word_is : (mode : Mode) → IsWord (mode_word mode)
mode_word_is Recorded = IsWord-name (codes "recorded") refl
mode_word_is Sync = IsWord-name (codes "sync") refl
mode_word_is Unsync = IsWord-name (codes "unsync") refl

-- the words of a header are words
header_words_are : (header : Header) → HeaderFits header → AllByRecursion IsWord (header_words header)
header_words_are (Cache header) fits = (mode_word_is header.mode, options_words_are header.options fits.0)
header_words_are (Core options) fits = (IsWord-name (codes "core") refl, options_words_are options fits.0)
header_words_are (Sketch cap) fits = (IsWord-name (codes "sketch") refl, (IsWord-decimal cap (omega (arith, fits)), tt))

-- the settings of a mode are read behind its name
cache_header_of-again : (header : CacheHeader) → OptionsFit header.options → IsTrue (can_have header.mode header.options)
    → cache_header_of header.mode (options_words header.options) ≡ Some (Cache header)
unfolding cache_header_of
cache_header_of-again header fits can = rw (options_again header.options fits, can) refl

-- the words of a cache's header are read as that header
cache_again : (mode : Mode) (arguments : List (List ℕ)) (header : Header) → cache_header_of mode arguments ≡ Some header
    → header_from_words (mode_word mode ∷ arguments) ≡ Some header
unfolding header_from_words mode_of
cache_again Recorded arguments header e = e
cache_again Sync arguments header e = e
cache_again Unsync arguments header e = e

-- the words of a header are read as that header
header_again : (header : Header) → HeaderFits header → header_from_words (header_words header) ≡ Some header
unfolding header_from_words u32_of
header_again (Cache header) fits = cache_again header.mode (options_words header.options) (Cache header)
    (cache_header_of-again header fits.0 fits.1)
header_again (Core options) fits = rw (options_again options fits.0, fits.1) refl
header_again (Sketch cap) fits = rw (number_below-decimal (2 ^ 32) cap fits (omega (arith, fits))) refl

-- a header has words
some_header_words : (header : Header) → header_words header ≡ [] → ⊥
some_header_words (Cache header) e = absurd cc
some_header_words (Core options) e = absurd cc
some_header_words (Sketch cap) e = absurd cc

-- headers are read as they are spelled
pub reads_header : IsReading header_words HeaderFits header_from_words
reads_header = record {
  are_words = header_words_are;
  some = some_header_words;
  found = header_from_words-found;
  again = header_again;
}
