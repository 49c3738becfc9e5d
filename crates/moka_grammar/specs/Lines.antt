-- What a contract sees of the lines of scripts of calls to a cache: a moment and a request each.
use Rattle.std.specs.Prelude.{ℕ, ◌^◌, ◌<◌, Bool, true, false, List, [], ◌∷◌, ◌++◌, codes, Option, Some, None, IfSome, IsTrue}
use Rattle.std.specs.Fmt.{decimal}
use Rattle.moka_grammar.specs.Text.{IsText}
use Rattle.moka_grammar.specs.Options.{option_words, span_word, SpanFits}
use Rattle.moka_grammar.specs.declared.line.CacheHeader.{CacheHeader}
use Rattle.moka_grammar.specs.declared.line.Mode.{Mode}
use Rattle.moka_grammar.specs.declared.line.Mode.TheVariants as mode
use Rattle.moka_grammar.specs.declared.line.Line.{Line}
use Rattle.moka_grammar.specs.declared.line.Request.{Request}
use Rattle.moka_grammar.specs.declared.line.Request.TheVariants.{Insert, Modify, Get, ContainsKey, Invalidate, Remove, InvalidateAll}
use Rattle.moka_grammar.specs.declared.line.Request.TheVariants.{RemoveExpired, InvalidateIf, Sync, Iter, EntryCount, WeightedSize, Policy}

-- the word of a weight, where there is one
abbrev pub weight_words : Option ℕ → List (List ℕ)
weight_words None = []
weight_words (Some weight) = decimal weight ∷ []

-- the words of a request: the name of the call, and what it is given
abbrev pub request_words : Request (List ℕ) → List (List ℕ)
request_words (Insert key text weight live) =
    codes "insert" ∷ decimal key ∷ text ∷ (weight_words weight ++ option_words (codes "live") span_word live)
request_words (Modify key text weight) = codes "modify" ∷ decimal key ∷ text ∷ weight_words weight
request_words (Get key) = codes "get" ∷ decimal key ∷ []
request_words (ContainsKey key) = codes "has" ∷ decimal key ∷ []
request_words (Invalidate key) = codes "invalidate" ∷ decimal key ∷ []
request_words (Remove key) = codes "remove" ∷ decimal key ∷ []
request_words InvalidateAll = codes "clear" ∷ []
request_words RemoveExpired = codes "expire" ∷ []
request_words (InvalidateIf text) = codes "drop-if" ∷ text ∷ []
request_words Sync = codes "sync" ∷ []
request_words Iter = codes "iter" ∷ []
request_words EntryCount = codes "count" ∷ []
request_words WeightedSize = codes "weight" ∷ []
request_words Policy = codes "policy" ∷ []

-- the words of a line: its moment, and those of its request
abbrev pub line_words : Line (List ℕ) → List (List ℕ)
line_words line = decimal line.now ∷ request_words line.request

-- whether the request is one of a script of this mode
abbrev pub allows : {T : Type 0} → Mode → Request T → Bool
allows mode.Recorded (Insert key text weight (Some live)) = false
allows mode.Recorded (Modify key text weight) = false
allows mode.Recorded RemoveExpired = false
allows mode.Recorded (InvalidateIf text) = false
allows mode.Recorded Iter = false
allows mode.Recorded Policy = false
allows mode.Recorded request = true
allows mode.Sync (Insert key text weight (Some live)) = false
allows mode.Sync (Modify key text weight) = false
allows mode.Sync RemoveExpired = false
allows mode.Sync (InvalidateIf text) = false
allows mode.Sync request = true
allows mode.Unsync Sync = false
allows mode.Unsync request = true

-- the weight can be spelled, and is there exactly where the script is weighed
abbrev pub WeightFits : Bool → Option ℕ → Type 0
WeightFits true (Some weight) = weight < 2 ^ 32
WeightFits true None = ⊥
WeightFits false (Some weight) = ⊥
WeightFits false None = Unit {0}

-- the request holds what can be spelled, where the script is weighed or not
abbrev pub RequestFits : Bool → Request (List ℕ) → Type 0
RequestFits weighed (Insert key text weight live) = (key < 2 ^ 64) × IsText text × WeightFits weighed weight × IfSome live SpanFits
RequestFits weighed (Modify key text weight) = (key < 2 ^ 64) × IsText text × WeightFits weighed weight
RequestFits weighed (Get key) = key < 2 ^ 64
RequestFits weighed (ContainsKey key) = key < 2 ^ 64
RequestFits weighed (Invalidate key) = key < 2 ^ 64
RequestFits weighed (Remove key) = key < 2 ^ 64
RequestFits weighed (InvalidateIf text) = IsText text
RequestFits weighed request = Unit {0}

-- the line is one of a script with this header, and holds what can be spelled
abbrev pub LineFits : CacheHeader → Line (List ℕ) → Type 0
LineFits header line = (line.now < 2 ^ 64) × IsTrue (allows header.mode line.request) × RequestFits header.options.weighed line.request
