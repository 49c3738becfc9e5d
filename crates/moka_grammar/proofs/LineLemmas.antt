-- Lines of one kind: what is read is spelled so, and what is spelled so is read.
use Rattle.std.proofs.Common.{◌≡◌, ◌≢◌, ℕ, List, [], ◌∷◌, ◌++◌, ◌==◌, Option, Some, None, refl, sym, ap, ◌∙◌, subst, append_assoc}
use Rattle.std.specs.List.{AllByRecursion, join_with_byte, slice_split}
use Rattle.std.proofs.lemmas.List.Splits.{join_with_byte-slice_split}
use Rattle.std.proofs.lemmas.Option.{some_pair_parts}
use Rattle.moka_grammar.specs.Spelling.{line_feed, space, line_of}
use Rattle.moka_grammar.specs.Reading.{◌>>=◌, line_in, line_at, cut}
use Rattle.moka_grammar.proofs.CutLemmas.{bind_some, cut-line, cut-found}
use Rattle.moka_grammar.proofs.WordLemmas.{IsWord, IsInLine-join, split-join}

-- words are read as a line exactly where they are its words, and it fits
pub record IsReading {L : Type 0} (words : L → List (List ℕ)) (Fits : L → Type 0) (from_words : List (List ℕ) → Option L) : Type 0 where
  pub are_words : (line : L) → Fits line → AllByRecursion IsWord (words line)
  pub some : (line : L) → words line ≢ []
  pub found : (ws : List (List ℕ)) (line : L) → from_words ws ≡ Some line → (ws ≡ words line) × Fits line
  pub again : (line : L) → Fits line → from_words (words line) ≡ Some line

-- words that a space joins come apart as they were, where there are some
split-words : (words : List (List ℕ)) → words ≢ [] → AllByRecursion IsWord words
    → slice_split (λ b. b == space) (join_with_byte space words) ≡ words
split-words [] some are = absurd (some refl)
split-words (word ∷ words) some are = split-join word words are

module _ {L : Type 0} (words : L → List (List ℕ)) (Fits : L → Type 0) (from_words : List (List ℕ) → Option L)
    (reads : IsReading words Fits from_words) where
  -- the spelling of a line is read as that line
  line_in-line : (line : L) → Fits line → line_in from_words (join_with_byte space (words line)) ≡ Some line
  line_in-line line fits = ap from_words (split-words (words line) (reads.some line) (reads.are_words line fits)) ∙ reads.again line fits

  -- a line, and the bytes behind it
  abbrev with_rest : List ℕ → L → Option (L × List ℕ)
  with_rest rest line = Some (line, rest)

  -- the line in front of the cut
  abbrev line_then : List ℕ × List ℕ → Option (L × List ℕ)
  line_then parts = line_in from_words parts.0 >>= with_rest parts.1

  -- no line is in front of nothing
  pub line_at-nothing : line_at from_words [] ≡ None
  unfolding line_at cut
  line_at-nothing = refl

  -- a line in front of any bytes is read
  pub line_at-line : (line : L) (rest : List ℕ) → Fits line → line_at from_words (line_of (words line) ++ rest) ≡ Some (line, rest)
  unfolding line_at
  line_at-line line rest fits =
      let joined = join_with_byte space (words line) in
      ap (λ bytes. cut bytes >>= line_then) (append_assoc joined (line_feed ∷ []) rest)
      ∙ ap (λ o. o >>= line_then) (cut-line joined rest (IsInLine-join (words line) (reads.are_words line fits)))
      ∙ ap (λ o. o >>= with_rest rest) (line_in-line line fits)

  -- bytes that are read as a line are its spelling
  line_in-found : (bytes : List ℕ) (line : L) → line_in from_words bytes ≡ Some line
      → (bytes ≡ join_with_byte space (words line)) × Fits line
  line_in-found bytes line e =
      let found = reads.found (slice_split (λ b. b == space) bytes) line e in
      (sym (join_with_byte-slice_split space bytes) ∙ ap (join_with_byte space) found.0, found.1)

  -- a line that is read from the front is spelled there
  pub line_at-found : (bytes : List ℕ) (line : L) (rest : List ℕ) → line_at from_words bytes ≡ Some (line, rest)
      → (bytes ≡ line_of (words line) ++ rest) × Fits line
  unfolding line_at
  line_at-found bytes line rest e =
      let (parts, cut_is, more) = bind_some (cut bytes) line_then (line, rest) e in
      let (read, read_is, shown) = bind_some (line_in from_words parts.0) (with_rest parts.1) (line, rest) more in
      let same = some_pair_parts _ _ _ _ shown in
      let found = line_in-found parts.0 read read_is in (
        cut-found bytes parts.0 parts.1 cut_is
            ∙ ap (λ l. l ++ line_feed ∷ parts.1) (found.0 ∙ ap (λ l. join_with_byte space (words l)) same.0)
            ∙ ap (λ l. join_with_byte space (words line) ++ line_feed ∷ l) same.1
            ∙ sym (append_assoc (join_with_byte space (words line)) (line_feed ∷ []) rest),
        subst Fits same.0 found.1,
      )
