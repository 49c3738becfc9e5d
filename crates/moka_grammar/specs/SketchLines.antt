-- What a contract sees of the lines of sketch scripts: a call on the sketch each.
use Rattle.std.specs.Prelude.{ℕ, ◌^◌, ◌<◌, List, [], ◌∷◌, codes}
use Rattle.std.specs.Fmt.{decimal}
use Rattle.moka_common.specs.declared.constants.TheConstants.{DEPTHS}
use Rattle.moka_grammar.specs.declared.line.SketchLine.{SketchLine}
use Rattle.moka_grammar.specs.declared.line.SketchLine.TheVariants.{Inc, Freq, Index, Len, Ensure}

-- the words of a line: the name of the call, and what it is given
abbrev pub sketch_words : SketchLine → List (List ℕ)
sketch_words (Inc hash times) = codes "inc" ∷ decimal hash ∷ decimal times ∷ []
sketch_words (Freq hash) = codes "freq" ∷ decimal hash ∷ []
sketch_words (Index hash depth) = codes "index" ∷ decimal hash ∷ decimal depth ∷ []
sketch_words Len = codes "len" ∷ []
sketch_words (Ensure cap) = codes "ensure" ∷ decimal cap ∷ []

-- the line holds what can be spelled
abbrev pub SketchFits : SketchLine → Type 0
SketchFits (Inc hash times) = (hash < 2 ^ 64) × (times < 2 ^ 16)
SketchFits (Freq hash) = hash < 2 ^ 64
SketchFits (Index hash depth) = (hash < 2 ^ 64) × (depth < DEPTHS)
SketchFits Len = Unit {0}
SketchFits (Ensure cap) = cap < 2 ^ 32
