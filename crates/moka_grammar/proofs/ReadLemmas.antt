-- What one turn of the parser adds.
use Rattle.std.proofs.Common.{◌≡◌, ℕ, ◌<◌, List, [], ◌∷◌, ◌++◌, length, Option, Some, refl, ap, ◌∙◌, arith, length-append}
use Rattle.std.proofs.lemmas.Option.{some_pair_parts}
use Rattle.moka_grammar.specs.Spelling.{line_feed}
use Rattle.moka_grammar.specs.Reading.{◌>>=◌, cut, line_in, line_at, Reads}
use Rattle.moka_grammar.proofs.CutLemmas.{bind_some, cut-found}

module _ {L : Type 0} (from_words : List (List ℕ) → Option L) where
  -- one more line that was read
  pub Reads-push : (bytes : List ℕ) (lines : List L) (rest : List ℕ) (line : L) (behind : List ℕ)
      → Reads from_words bytes lines rest → line_at from_words rest ≡ Some (line, behind)
      → Reads from_words bytes (lines ++ line ∷ []) behind
  Reads-push bytes [] rest line behind same e = (behind, ap (line_at from_words) same ∙ e, refl)
  Reads-push bytes (first ∷ lines) rest line behind (next, at, more) e = (next, at, Reads-push next lines rest line behind more e)

  -- what is behind a line that was read is shorter than the whole
  pub behind_shorter : (bytes : List ℕ) (line : L) (behind : List ℕ) → line_at from_words bytes ≡ Some (line, behind)
      → length behind < length bytes
  unfolding line_at
  behind_shorter bytes line behind e =
      let (parts, cut_is, more) = bind_some (cut bytes) (λ parts. line_in from_words parts.0 >>= λ l. Some (l, parts.1)) (line, behind) e in
      let (read, read_is, shown) = bind_some (line_in from_words parts.0) (λ l. Some (l, parts.1)) (line, behind) more in
      let same = some_pair_parts _ _ _ _ shown in
      let parted = cut-found bytes parts.0 parts.1 cut_is in
      omega (arith, ap length parted, length-append parts.0 (line_feed ∷ parts.1), ap length same.1)
