-- What the words of a line are read as. No public clause cites this module.
use Rattle.std.specs.Prelude.{ℕ, ◌^◌, Bool, true, false, List, [], ◌∷◌, codes, not, Option, Some, None, if◌then◌else◌}
use Rattle.std.specs.Str.{bytes_eq}
use Rattle.moka_common.specs.declared.constants.TheConstants.{DEPTHS}
use Rattle.moka_grammar.specs.Lines.{allows}
use Rattle.moka_grammar.specs.Options.{can_have}
use Rattle.moka_grammar.specs.Reading.{◌>>=◌, number_of, number_below, text_of, no_argument, u64_of, u32_of}
use Rattle.moka_grammar.specs.ReadingOptions.{span_of, option_of, options_of}
use Rattle.moka_grammar.specs.declared.line.CacheHeader.{CacheHeader}
use Rattle.moka_grammar.specs.declared.line.CacheOptions.{CacheOptions}
use Rattle.moka_grammar.specs.declared.line.Header.{Header}
use Rattle.moka_grammar.specs.declared.line.Header.TheVariants.{Cache, Core, Sketch}
use Rattle.moka_grammar.specs.declared.line.Mode.{Mode}
use Rattle.moka_grammar.specs.declared.line.Mode.TheVariants as mode
use Rattle.moka_grammar.specs.declared.line.Line.{Line}
use Rattle.moka_grammar.specs.declared.line.Request.{Request}
use Rattle.moka_grammar.specs.declared.line.Request.TheVariants.{Insert, Modify, Get, ContainsKey, Invalidate, Remove, InvalidateAll}
use Rattle.moka_grammar.specs.declared.line.Request.TheVariants.{RemoveExpired, InvalidateIf, Sync, Iter, EntryCount, WeightedSize, Policy}
use Rattle.moka_grammar.specs.declared.line.SketchLine.{SketchLine}
use Rattle.moka_grammar.specs.declared.line.SketchLine.TheVariants.{Inc, Freq, Index, Len, Ensure}

-- ---- headers

-- the mode of this name
unfoldable pub mode_of : List ℕ → Option Mode
mode_of name =
    if bytes_eq name (codes "recorded") then Some mode.Recorded
    else if bytes_eq name (codes "sync") then Some mode.Sync
    else if bytes_eq name (codes "unsync") then Some mode.Unsync
    else None

-- the header of a script of calls to a cache of this mode
unfoldable pub cache_header_of : Mode → List (List ℕ) → Option Header
cache_header_of mode arguments = do
  options ← options_of arguments
  if can_have mode options then Some (Cache (record { mode = mode; options = options })) else None

-- the header of these words
unfoldable pub header_from_words : List (List ℕ) → Option Header
header_from_words (name ∷ arguments) =
    if bytes_eq name (codes "sketch") then (do
      cap ← u32_of arguments
      Some (Sketch cap))
    else if bytes_eq name (codes "core") then (do
      options ← options_of arguments
      if not options.adaptive then Some (Core options) else None)
    else (do
      mode ← mode_of name
      cache_header_of mode arguments)
header_from_words [] = None

-- ---- lines of calls to a cache

-- the weight in front of these words, where a script is weighed, and the words that are left
unfoldable pub weight_of : Bool → List (List ℕ) → Option (Option ℕ × List (List ℕ))
weight_of false words = Some (None, words)
weight_of true [] = None
weight_of true (word ∷ words) = do
  weight ← number_below (2 ^ 32) word
  Some (Some weight, words)

-- what an insert is given
unfoldable pub insert_of : CacheOptions → List (List ℕ) → Option (Request (List ℕ))
insert_of options (key ∷ text ∷ behind) = do
  k ← number_of key
  weight ← weight_of options.weighed behind
  live ← option_of (codes "live") span_of weight.1
  nothing ← no_argument live.1
  t ← text_of text
  Some (Insert k t weight.0 live.0)
insert_of options _ = None

-- what a modification is given
unfoldable pub modify_of : CacheOptions → List (List ℕ) → Option (Request (List ℕ))
modify_of options (key ∷ text ∷ behind) = do
  k ← number_of key
  weight ← weight_of options.weighed behind
  nothing ← no_argument weight.1
  t ← text_of text
  Some (Modify k t weight.0)
modify_of options _ = None

-- the only argument, a text
unfoldable pub invalidate_if_of : List (List ℕ) → Option (Request (List ℕ))
invalidate_if_of (text ∷ []) = do
  t ← text_of text
  Some (InvalidateIf t)
invalidate_if_of _ = None

-- the request of this name, which is given nothing
unfoldable pub bare_of : List ℕ → List (List ℕ) → Option (Request (List ℕ))
bare_of call arguments = do
  nothing ← no_argument arguments
  (if bytes_eq call (codes "clear") then Some InvalidateAll
      else if bytes_eq call (codes "expire") then Some RemoveExpired
      else if bytes_eq call (codes "sync") then Some Sync
      else if bytes_eq call (codes "iter") then Some Iter
      else if bytes_eq call (codes "count") then Some EntryCount
      else if bytes_eq call (codes "weight") then Some WeightedSize
      else if bytes_eq call (codes "policy") then Some Policy
      else None)

-- the request of this name with these arguments
unfoldable pub request_of : CacheOptions → List ℕ → List (List ℕ) → Option (Request (List ℕ))
request_of options call arguments =
    if bytes_eq call (codes "insert") then insert_of options arguments
    else if bytes_eq call (codes "get") then (do
      key ← u64_of arguments
      Some (Get key))
    else if bytes_eq call (codes "has") then (do
      key ← u64_of arguments
      Some (ContainsKey key))
    else if bytes_eq call (codes "invalidate") then (do
      key ← u64_of arguments
      Some (Invalidate key))
    else if bytes_eq call (codes "remove") then (do
      key ← u64_of arguments
      Some (Remove key))
    else if bytes_eq call (codes "modify") then modify_of options arguments
    else if bytes_eq call (codes "drop-if") then invalidate_if_of arguments
    else bare_of call arguments

-- the line of these words behind a header
unfoldable pub line_from_words : CacheHeader → List (List ℕ) → Option (Line (List ℕ))
line_from_words header (now ∷ call ∷ arguments) = do
  n ← number_of now
  r ← request_of header.options call arguments
  if allows header.mode r then Some (record { now = n; request = r }) else None
line_from_words header _ = None

-- ---- lines of calls to a sketch

-- what a count is given
unfoldable pub inc_of : List (List ℕ) → Option SketchLine
inc_of (hash ∷ times ∷ []) = do
  h ← number_of hash
  n ← number_below (2 ^ 16) times
  Some (Inc h n)
inc_of _ = None

-- what an index is asked of
unfoldable pub index_at_of : List (List ℕ) → Option SketchLine
index_at_of (hash ∷ depth ∷ []) = do
  h ← number_of hash
  d ← number_below DEPTHS depth
  Some (Index h d)
index_at_of _ = None

-- the line of these words
unfoldable pub sketch_from_words : List (List ℕ) → Option SketchLine
sketch_from_words (name ∷ arguments) =
    if bytes_eq name (codes "inc") then inc_of arguments
    else if bytes_eq name (codes "freq") then (do
      hash ← u64_of arguments
      Some (Freq hash))
    else if bytes_eq name (codes "index") then index_at_of arguments
    else if bytes_eq name (codes "len") then (do
      nothing ← no_argument arguments
      Some Len)
    else if bytes_eq name (codes "ensure") then (do
      cap ← u32_of arguments
      Some (Ensure cap))
    else None
sketch_from_words [] = None
