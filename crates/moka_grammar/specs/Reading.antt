-- How words are read and lines are cut, as functions on lists. No public clause cites this module.
use Rattle.std.specs.Prelude.{◌≡◌, ◌≢◌, ℕ, ◌||◌, ◌&&◌, ◌==◌, Bool, nat_lt, not, ◌^◌, List, [], ◌∷◌, length}
use Rattle.std.specs.Prelude.{map, Option, Some, None, Result, Ok, Err, if◌then◌else◌, slice_index}
use Rattle.std.specs.Borrow.{Bor}
use Rattle.std.specs.Char.{is_ascii_digit}
use Rattle.std.specs.List.{list_all, slice_split}
use Rattle.std.specs.Str.Parse.{digits_value}
use Rattle.moka_grammar.specs.Text.{is_text}
use Rattle.moka_grammar.specs.Spelling.{line_feed, space}
use Rattle.moka_grammar.specs.declared.words.LineError.{LineError}
use Rattle.moka_grammar.specs.declared.words.LineError.TheVariants.{Bad, OutOfMemory}

-- one step of reading after another, up to the first that finds nothing
infixl 10 ◌>>=◌
abbrev pub ◌>>=◌ : {A B : Type 0} → Option A → (A → Option B) → Option B
None >>= f = None
(Some x) >>= f = f x

-- what a reader returned is what reading gives, unless memory ran out
abbrev pub Gives : {X : Type 0} → Result X LineError → Option X → Type 0
Gives (Ok x) read = read ≡ Some x
Gives (Err Bad) read = read ≡ None
Gives (Err OutOfMemory) read = Unit {0}

-- the same, of a value and the bytes behind it
abbrev pub GivesFirst : {X : Type 0} → Result (X × Bor (List ℕ)) LineError → Option (X × List ℕ) → Type 0
GivesFirst (Ok x) read = read ≡ Some (x.0, x.1.now)
GivesFirst (Err Bad) read = read ≡ None
GivesFirst (Err OutOfMemory) read = Unit {0}

-- the same, of a value and the words that are left
abbrev pub GivesLeft : {X : Type 0} → Result (X × Bor (List (Bor (List ℕ)))) LineError → Option (X × List (List ℕ)) → Type 0
GivesLeft (Ok x) read = read ≡ Some (x.0, map (λ word. word.now) x.1.now)
GivesLeft (Err Bad) read = read ≡ None
GivesLeft (Err OutOfMemory) read = Unit {0}

-- ---- words

-- whether a word is a 0 with more behind it
abbrev pub has_leading_zero : List ℕ → Bool
has_leading_zero word = nat_lt 1 (length word) && slice_index word 0 == 48

-- the number that a word spells
unfoldable pub number_of : List ℕ → Option ℕ
number_of word =
    if has_leading_zero word || not (list_all is_ascii_digit word) then None
    else if nat_lt 0 (length word) && nat_lt (digits_value 10 word) (2 ^ 64) then Some (digits_value 10 word)
    else None

-- the text that a word spells
abbrev pub text_of : List ℕ → Option (List ℕ)
text_of word = if is_text word then Some word else None

-- the number that a word spells, where it is below a limit
unfoldable pub number_below : ℕ → List ℕ → Option ℕ
number_below limit word = do
  n ← number_of word
  if nat_lt n limit then Some n else None

-- ---- arguments

-- no argument
unfoldable pub no_argument : List (List ℕ) → Option (Unit {0})
no_argument [] = Some tt
no_argument (word ∷ words) = None

-- the only argument, a number of 64 bits
unfoldable pub u64_of : List (List ℕ) → Option ℕ
u64_of (word ∷ []) = number_of word
u64_of _ = None

-- the only argument, a number of 32 bits
unfoldable pub u32_of : List (List ℕ) → Option ℕ
u32_of (word ∷ []) = number_below (2 ^ 32) word
u32_of _ = None

-- ---- lines

-- the bytes before the first line feed, and those behind it
unfoldable pub cut : List ℕ → Option (List ℕ × List ℕ)
cut [] = None
cut (b ∷ bytes) = if b == line_feed then Some ([], bytes) else (do
  parts ← cut bytes
  Some (b ∷ parts.0, parts.1))

module _ {L : Type 0} (from_words : List (List ℕ) → Option L) where
  -- the line that the bytes spell, without its end
  abbrev pub line_in : List ℕ → Option L
  line_in bytes = from_words (slice_split (λ b. b == space) bytes)

  -- the first line, and the bytes behind it
  unfoldable pub line_at : List ℕ → Option (L × List ℕ)
  line_at bytes = do
    parts ← cut bytes
    line ← line_in parts.0
    Some (line, parts.1)

  -- from the front of the bytes these lines are read, one after another, and this is the rest
  abbrev pub Reads : List ℕ → List L → List ℕ → Type 0
  Reads bytes [] rest = bytes ≡ rest
  Reads bytes (line ∷ lines) rest = (behind : List ℕ) × (line_at bytes ≡ Some (line, behind)) × Reads behind lines rest

  -- as many lines as this are read, and then no line is
  pub record StopsAfter (bytes : List ℕ) (count : ℕ) : Type 0 where
    pub good : List L
    pub rest : List ℕ
    pub reads : Reads bytes good rest
    pub number : count ≡ length good
    pub some : rest ≢ []
    pub none : line_at rest ≡ None
