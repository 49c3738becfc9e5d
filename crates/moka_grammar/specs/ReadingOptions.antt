-- How the settings of a cache are read from the words of a first line. No public clause cites this module.
use Rattle.std.specs.Prelude.{ℕ, ◌-◌, Bool, true, false, List, [], ◌∷◌, ◌++◌, length, take, codes, Option, Some, None, if◌then◌else◌}
use Rattle.std.specs.Str.{bytes_eq}
use Rattle.moka_grammar.specs.Reading.{◌>>=◌, no_argument, number_of}
use Rattle.moka_grammar.specs.declared.line.Span.{Span}
use Rattle.moka_grammar.specs.declared.line.Span.TheVariants.{Seconds, Nanos}
use Rattle.moka_grammar.specs.declared.line.CacheOptions.{CacheOptions}

-- what is in front of this end of a word
unfoldable pub front_of : List ℕ → List ℕ → Option (List ℕ)
front_of end word =
    if bytes_eq word (take (length word - length end) word ++ end) then Some (take (length word - length end) word) else None

-- the span of what is in front of `ns`, and of what is in front of `s`
abbrev pub span_before : Option (List ℕ) → Option (List ℕ) → Option Span
span_before (Some count) seconds = do
  n ← number_of count
  Some (Nanos n)
span_before None (Some count) = do
  n ← number_of count
  Some (Seconds n)
span_before None None = None

-- the span that a word spells
unfoldable pub span_of : List ℕ → Option Span
span_of word = span_before (front_of (codes "ns") word) (front_of (codes "s") word)

-- the value behind this name, where the name comes first, and the words that are left
unfoldable pub option_of : {X : Type 0} → List ℕ → (List ℕ → Option X) → List (List ℕ) → Option (Option X × List (List ℕ))
option_of name read (first ∷ value ∷ behind) =
    if bytes_eq first name then (do
      x ← read value
      Some (Some x, behind))
    else Some (None, first ∷ value ∷ behind)
option_of name read words = Some (None, words)

-- whether this word comes first, and the words that are left
unfoldable pub flag_of : List ℕ → List (List ℕ) → Bool × List (List ℕ)
flag_of name [] = (false, [])
flag_of name (word ∷ words) = if bytes_eq word name then (true, words) else (false, word ∷ words)

-- the settings that all of the words spell
unfoldable pub options_of : List (List ℕ) → Option CacheOptions
options_of words = do
  max ← option_of (codes "max") number_of words
  live ← option_of (codes "live") span_of max.1
  idle ← option_of (codes "idle") span_of live.1
  tickets ← option_of (codes "tickets") number_of (flag_of (codes "adaptive") (flag_of (codes "weighed") idle.1).1).1
  nothing ← no_argument tickets.1
  Some (record {
    max = max.0;
    live = live.0;
    idle = idle.0;
    weighed = (flag_of (codes "weighed") idle.1).0;
    adaptive = (flag_of (codes "adaptive") (flag_of (codes "weighed") idle.1).1).0;
    tickets = tickets.0;
  })
