-- What a contract sees of scripts: which bytes are one, and which line is the first bad one.
use Rattle.std.specs.Prelude.{◌≡◌, ◌≢◌, ℕ, ◌+◌, ◌^◌, ◌<◌, List, [], ◌∷◌, ◌++◌, length, codes, ◌⊎◌, IsTrue, not}
use Rattle.std.specs.List.{flat_map, AllByRecursion}
use Rattle.std.specs.Fmt.{decimal}
use Rattle.moka_grammar.specs.Spelling.{line_of}
use Rattle.moka_grammar.specs.Options.{options_words, OptionsFit, can_have}
use Rattle.moka_grammar.specs.Lines.{line_words, LineFits}
use Rattle.moka_grammar.specs.CoreLines.{core_words, CoreFits}
use Rattle.moka_grammar.specs.SketchLines.{sketch_words, SketchFits}
use Rattle.moka_grammar.specs.declared.line.CacheHeader.{CacheHeader}
use Rattle.moka_grammar.specs.declared.line.CacheOptions.{CacheOptions}
use Rattle.moka_grammar.specs.declared.line.CoreLine.{CoreLine}
use Rattle.moka_grammar.specs.declared.line.Header.{Header}
use Rattle.moka_grammar.specs.declared.line.Header.TheVariants.{Cache, Core, Sketch}
use Rattle.moka_grammar.specs.declared.line.Line.{Line}
use Rattle.moka_grammar.specs.declared.line.Mode.{Mode}
use Rattle.moka_grammar.specs.declared.line.Mode.TheVariants.{Recorded, Sync, Unsync}
use Rattle.moka_grammar.specs.declared.line.SketchLine.{SketchLine}

-- the name of a mode
abbrev pub mode_word : Mode → List ℕ
mode_word Recorded = codes "recorded"
mode_word Sync = codes "sync"
mode_word Unsync = codes "unsync"

-- the words of a header: the name of the mode, and what it is given
abbrev pub header_words : Header → List (List ℕ)
header_words (Cache header) = mode_word header.mode ∷ options_words header.options
header_words (Core options) = codes "core" ∷ options_words options
header_words (Sketch cap) = codes "sketch" ∷ decimal cap ∷ []

-- the header holds what can be spelled, and settings that its mode can have
abbrev pub HeaderFits : Header → Type 0
HeaderFits (Cache header) = OptionsFit header.options × IsTrue (can_have header.mode header.options)
HeaderFits (Core options) = OptionsFit options × IsTrue (not options.adaptive)
HeaderFits (Sketch cap) = cap < 2 ^ 32

-- ---- lines of one kind

module _ {L : Type 0} (words : L → List (List ℕ)) (Fits : L → Type 0) where
  -- the bytes are these lines, one after another, and nothing else
  abbrev pub AreLines : List ℕ → List L → Type 0
  AreLines bytes lines = AllByRecursion Fits lines × (bytes ≡ flat_map (λ line. line_of (words line)) lines)

  -- no line begins the bytes
  abbrev pub LacksLine : List ℕ → Type 0
  LacksLine bytes = (line : L) (rest : List ℕ) → Fits line → bytes ≡ line_of (words line) ++ rest → ⊥

  -- as many good lines as this begin the bytes, and then comes something that no line begins
  pub record IsBadAfter (bytes : List ℕ) (count : ℕ) : Type 0 where
    pub good : List L
    pub rest : List ℕ
    pub each : AllByRecursion Fits good
    pub parts : bytes ≡ flat_map (λ line. line_of (words line)) good ++ rest
    pub number : count ≡ length good
    pub some : rest ≢ []
    pub bad : LacksLine rest

-- ---- scripts

-- a script of calls to a cache, of steps of a core, or of calls to a sketch: what its header gives, and its lines
pub data Script : Type 0 where
  CacheScript : CacheHeader → List (Line (List ℕ)) → Script
  CoreScript : CacheOptions → List (CoreLine (List ℕ)) → Script
  SketchScript : ℕ → List SketchLine → Script

-- the header of a script
abbrev pub header_of : Script → Header
header_of (CacheScript header lines) = Cache header
header_of (CoreScript options lines) = Core options
header_of (SketchScript cap lines) = Sketch cap

-- the bytes are the lines of the script, which are those of its mode
abbrev pub IsBody : List ℕ → Script → Type 0
IsBody bytes (CacheScript header lines) = AreLines line_words (LineFits header) bytes lines
IsBody bytes (CoreScript options lines) = AreLines core_words (CoreFits options) bytes lines
IsBody bytes (SketchScript cap lines) = AreLines sketch_words SketchFits bytes lines

-- the bytes are the header of the script and its lines, and nothing else
pub record IsScript (bytes : List ℕ) (script : Script) : Type 0 where
  pub fits : HeaderFits (header_of script)
  pub body : List ℕ
  pub begins : bytes ≡ line_of (header_words (header_of script)) ++ body
  pub lines : IsBody body script

-- ---- the first bad line

-- as many good lines of the header's mode as this begin the bytes, and then comes something that no line of it begins
abbrev pub IsBadBehind : Header → List ℕ → ℕ → Type 0
IsBadBehind (Cache header) bytes count = IsBadAfter line_words (LineFits header) bytes count
IsBadBehind (Core options) bytes count = IsBadAfter core_words (CoreFits options) bytes count
IsBadBehind (Sketch cap) bytes count = IsBadAfter sketch_words SketchFits bytes count

-- a header begins the bytes, and behind it the line of this number is the first bad one
pub record HasBadLine (bytes : List ℕ) (number : ℕ) : Type 0 where
  pub header : Header
  pub fits : HeaderFits header
  pub body : List ℕ
  pub begins : bytes ≡ line_of (header_words header) ++ body
  pub count : ℕ
  pub number_is : number ≡ count + 2
  pub bad : IsBadBehind header body count

-- the line of this number, counted from 1, is the first bad one
abbrev pub IsBadAt : List ℕ → ℕ → Type 0
IsBadAt bytes number = ((number ≡ 1) × LacksLine header_words HeaderFits bytes) ⊎ HasBadLine bytes number
