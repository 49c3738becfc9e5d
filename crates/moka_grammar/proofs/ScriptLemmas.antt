-- The laws of scripts.
use Rattle.std.proofs.Common.{◌≡◌, ℕ, ◌+◌, List, ◌++◌, Some, None, refl, sym, ap, ◌∙◌, subst, inl, inr, ◌⊎◌}
use Rattle.moka_grammar.specs.declared.line.Header.{Header}
use Rattle.moka_grammar.specs.declared.line.Header.TheVariants.{Cache, Core, Sketch}
use Rattle.moka_grammar.specs.Spelling.{line_of}
use Rattle.moka_grammar.specs.Lines.{line_words, LineFits}
use Rattle.moka_grammar.specs.CoreLines.{core_words, CoreFits}
use Rattle.moka_grammar.specs.SketchLines.{sketch_words, SketchFits}
use Rattle.moka_grammar.specs.Grammar.{header_words, HeaderFits, AreLines, Script, CacheScript, CoreScript}
use Rattle.moka_grammar.specs.Grammar.{SketchScript, header_of, IsBody, IsScript, IsBadBehind, IsBadAt}
use Rattle.moka_grammar.specs.Reading.{line_at}
use Rattle.moka_grammar.specs.ReadingLines.{header_from_words, line_from_words, sketch_from_words}
use Rattle.moka_grammar.specs.ReadingCoreLines.{core_from_words}
use Rattle.moka_grammar.proofs.LineLemmas.{line_at-found}
use Rattle.moka_grammar.proofs.LineListLemmas.{one_line, not_bad, same_count, same_lines, outcome_of, lacks_line}
use Rattle.moka_grammar.proofs.HeaderLemmas.{reads_header}
use Rattle.moka_grammar.proofs.RequestLemmas.{reads_line}
use Rattle.moka_grammar.proofs.CoreLineLemmas.{reads_core}
use Rattle.moka_grammar.proofs.SketchLineLemmas.{reads_sketch}

-- how a header is spelled
abbrev header_line : Header → List ℕ
header_line header = line_of (header_words header)

-- two headers begin the same bytes only where they are one
one_header : (a b : Header) (x y : List ℕ) → HeaderFits a → HeaderFits b → header_line a ++ x ≡ header_line b ++ y → (a ≡ b) × (x ≡ y)
one_header = one_line header_words HeaderFits header_from_words reads_header

-- ---- no bad line

-- no line of a body is bad
body_not_bad : (script : Script) (body : List ℕ) (count : ℕ) → IsBody body script → IsBadBehind (header_of script) body count → ⊥
body_not_bad (CacheScript header lines) body count is bad =
    not_bad line_words (LineFits header) (line_from_words header) (reads_line header) body lines count is bad
body_not_bad (CoreScript options lines) body count is bad =
    not_bad core_words (CoreFits options) (core_from_words options) (reads_core options) body lines count is bad
body_not_bad (SketchScript cap lines) body count is bad =
    not_bad sketch_words SketchFits sketch_from_words reads_sketch body lines count is bad

-- a script has no bad line
pub script_not_bad : (bytes : List ℕ) (script : Script) (number : ℕ) → IsScript bytes script → IsBadAt bytes number → ⊥
script_not_bad bytes script number is (inl (first, lacks)) = lacks (header_of script) is.body is.fits is.begins
script_not_bad bytes script number is (inr line) =
    let same = one_header line.header (header_of script) line.body is.body line.fits is.fits (sym line.begins ∙ is.begins) in
    body_not_bad script is.body line.count is.lines
    (subst (λ body. IsBadBehind (header_of script) body line.count) same.1
    (subst (λ header. IsBadBehind header line.body line.count) same.0 line.bad))

-- ---- one bad line

-- behind a header one line is the first bad one
one_behind : (header : Header) (body : List ℕ) (m n : ℕ) → IsBadBehind header body m → IsBadBehind header body n → m ≡ n
one_behind (Cache header) body m n a b = same_count line_words (LineFits header) (line_from_words header) (reads_line header) body m n a b
one_behind (Core options) body m n a b =
    same_count core_words (CoreFits options) (core_from_words options) (reads_core options) body m n a b
one_behind (Sketch cap) body m n a b = same_count sketch_words SketchFits sketch_from_words reads_sketch body m n a b

-- one line is the first bad one
pub one_bad_line : (bytes : List ℕ) (m n : ℕ) → IsBadAt bytes m → IsBadAt bytes n → m ≡ n
one_bad_line bytes m n (inl (first, lacks)) (inl (too, lacks_too)) = first ∙ sym too
one_bad_line bytes m n (inl (first, lacks)) (inr line) = absurd (lacks line.header line.body line.fits line.begins)
one_bad_line bytes m n (inr line) (inl (first, lacks)) = absurd (lacks line.header line.body line.fits line.begins)
one_bad_line bytes m n (inr a) (inr b) =
    let same = one_header a.header b.header a.body b.body a.fits b.fits (sym a.begins ∙ b.begins) in
    let moved = subst (λ body. IsBadBehind b.header body a.count) same.1
    (subst (λ header. IsBadBehind header a.body a.count) same.0 a.bad) in
    a.number_is ∙ ap (λ k. k + 2) (one_behind b.header b.body a.count b.count moved b.bad) ∙ sym b.number_is

-- ---- one script

-- a body is the lines of one script with this header at most
one_body : (a b : Script) (body : List ℕ) → header_of a ≡ header_of b → IsBody body a → IsBody body b → a ≡ b
one_body (CacheScript a xs) (CacheScript b ys) body same p q =
    let headers : a ≡ b = cc in
    let others : AreLines line_words (LineFits a) body ys = subst (λ h. AreLines line_words (LineFits h) body ys) (sym headers) q in
    ap (λ h. CacheScript h xs) headers
    ∙ ap (λ lines. CacheScript b lines)
    (same_lines line_words (LineFits a) (line_from_words a) (reads_line a) xs ys p.0 others.0 (sym p.1 ∙ others.1))
one_body (CoreScript a xs) (CoreScript b ys) body same p q =
    let settings : a ≡ b = cc in
    let others : AreLines core_words (CoreFits a) body ys = subst (λ o. AreLines core_words (CoreFits o) body ys) (sym settings) q in
    ap (λ o. CoreScript o xs) settings
    ∙ ap (λ lines. CoreScript b lines)
    (same_lines core_words (CoreFits a) (core_from_words a) (reads_core a) xs ys p.0 others.0 (sym p.1 ∙ others.1))
one_body (CacheScript header xs) (CoreScript options ys) body same p q = absurd cc
one_body (CacheScript header xs) (SketchScript cap ys) body same p q = absurd cc
one_body (CoreScript options xs) (CacheScript header ys) body same p q = absurd cc
one_body (CoreScript options xs) (SketchScript cap ys) body same p q = absurd cc
one_body (SketchScript cap xs) (CacheScript header ys) body same p q = absurd cc
one_body (SketchScript cap xs) (CoreScript options ys) body same p q = absurd cc
one_body (SketchScript c xs) (SketchScript d ys) body same p q =
    let caps : c ≡ d = cc in
    ap (λ cap. SketchScript cap xs) caps
    ∙ ap (λ lines. SketchScript d lines) (same_lines sketch_words SketchFits sketch_from_words reads_sketch xs ys p.0 q.0 (sym p.1 ∙ q.1))

-- bytes spell one script at most
pub one_script : (bytes : List ℕ) (a b : Script) → IsScript bytes a → IsScript bytes b → a ≡ b
one_script bytes a b p q =
    let same = one_header (header_of a) (header_of b) p.body q.body p.fits q.fits (sym p.begins ∙ q.begins) in
    one_body a b q.body same.0 (subst (λ body. IsBody body a) same.1 p.lines) q.lines

-- ---- a script or a bad line

-- a script, or a first bad line
abbrev Outcome : List ℕ → Type 0
Outcome bytes = ((script : Script) × IsScript bytes script) ⊎ ((number : ℕ) × IsBadAt bytes number)

-- a header begins the bytes
record Begins (bytes : List ℕ) (header : Header) (body : List ℕ) : Type 0 where
  begins : bytes ≡ header_line header ++ body
  fits : HeaderFits header

-- the outcome where all behind the header are lines
all_lines : (bytes : List ℕ) (script : Script) (body : List ℕ) → Begins bytes (header_of script) body → IsBody body script → Outcome bytes
all_lines bytes script body b lines = inl (script, record { fits = b.fits; body = body; begins = b.begins; lines = lines })

-- the outcome where a line is bad
bad_line : (bytes : List ℕ) (header : Header) (body : List ℕ) (count : ℕ) → Begins bytes header body → IsBadBehind header body count
    → Outcome bytes
bad_line bytes header body count b bad =
    inr (
      count + 2,
      inr (record {
        header = header;
        fits = b.fits;
        body = body;
        begins = b.begins;
        count = count;
        number_is = refl;
        bad = bad;
      }),
    )

-- the outcome behind a header
with_body : (bytes : List ℕ) (header : Header) (body : List ℕ) → Begins bytes header body → Outcome bytes
with_body bytes (Cache header) body b =
    elim (outcome_of line_words (LineFits header) (line_from_words header) (reads_line header) body) [
      | inl all ↦ all_lines bytes (CacheScript header all.0) body b all.1
      | inr bad ↦ bad_line bytes (Cache header) body bad.0 b bad.1
    ]
with_body bytes (Core options) body b =
    elim (outcome_of core_words (CoreFits options) (core_from_words options) (reads_core options) body) [
      | inl all ↦ all_lines bytes (CoreScript options all.0) body b all.1
      | inr bad ↦ bad_line bytes (Core options) body bad.0 b bad.1
    ]
with_body bytes (Sketch cap) body b =
    elim (outcome_of sketch_words SketchFits sketch_from_words reads_sketch body) [
      | inl all ↦ all_lines bytes (SketchScript cap all.0) body b all.1
      | inr bad ↦ bad_line bytes (Sketch cap) body bad.0 b bad.1
    ]

-- one of the two is so
pub script_or_bad : (bytes : List ℕ) → Outcome bytes
script_or_bad bytes =
    elim (line_at header_from_words bytes) as (λ o. line_at header_from_words bytes ≡ o → Outcome bytes) [
      | None ↦ λ none. inr (1, inl (refl, lacks_line header_words HeaderFits header_from_words reads_header bytes none))
      | Some p ↦ λ is.
          let found = line_at-found header_words HeaderFits header_from_words reads_header bytes p.0 p.1 is in
          with_body bytes p.0 p.1 (record { begins = found.0; fits = found.1 })
    ] refl

-- ---- what was parsed

-- a header that was read, and the lines behind it
pub script_read : (bytes : List ℕ) (header : Header) (body : List ℕ) (script : Script)
    → line_at header_from_words bytes ≡ Some (header, body) → header ≡ header_of script → IsBody body script → IsScript bytes script
script_read bytes header body script read same lines =
    let found = line_at-found header_words HeaderFits header_from_words reads_header bytes (header_of script) body
    (subst (λ h. line_at header_from_words bytes ≡ Some (h, body)) same read) in
    record { fits = found.1; body = body; begins = found.0; lines = lines }

-- a header that was read, and a bad line behind it
pub bad_line_read : (bytes : List ℕ) (header known : Header) (body : List ℕ) (count number : ℕ)
    → line_at header_from_words bytes ≡ Some (header, body) → header ≡ known → IsBadBehind known body count → number ≡ count + 2
    → IsBadAt bytes number
bad_line_read bytes header known body count number read same bad number_is =
    let found = line_at-found header_words HeaderFits header_from_words reads_header bytes known body
    (subst (λ h. line_at header_from_words bytes ≡ Some (h, body)) same read) in
    inr (record { header = known; fits = found.1; body = body; begins = found.0; count = count; number_is = number_is; bad = bad })

-- where no header is read the first line is bad
pub first_bad : (bytes : List ℕ) → line_at header_from_words bytes ≡ None → IsBadAt bytes 1
first_bad bytes none = inl (refl, lacks_line header_words HeaderFits header_from_words reads_header bytes none)
