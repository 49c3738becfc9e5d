-- What a contract sees of the lines of core scripts: a moment, and a step of a core or what takes several.
use Rattle.std.specs.Prelude.{ℕ, ◌^◌, ◌<◌, List, [], ◌∷◌, codes}
use Rattle.std.specs.Fmt.{decimal}
use Rattle.moka_grammar.specs.Text.{IsText}
use Rattle.moka_grammar.specs.Lines.{weight_words, WeightFits}
use Rattle.moka_grammar.specs.declared.line.CacheOptions.{CacheOptions}
use Rattle.moka_grammar.specs.declared.line.CoreLine.{CoreLine}
use Rattle.moka_grammar.specs.declared.line.CoreRequest.{CoreRequest}
use Rattle.moka_grammar.specs.declared.line.CoreRequest.TheVariants.{Insert, Get, ContainsKey, Invalidate, Remove, InvalidateAll, Push, Forget}
use Rattle.moka_grammar.specs.declared.line.CoreRequest.TheVariants.{Begin, Turn, Rest, Sync, Iter, EntryCount, WeightedSize}

-- the words of a request: the name of the call, and what it is given
abbrev pub core_request_words : CoreRequest (List ℕ) → List (List ℕ)
core_request_words (Insert caller key text weight) = codes "insert" ∷ decimal caller ∷ decimal key ∷ text ∷ weight_words weight
core_request_words (Get caller key) = codes "get" ∷ decimal caller ∷ decimal key ∷ []
core_request_words (ContainsKey key) = codes "has" ∷ decimal key ∷ []
core_request_words (Invalidate caller key) = codes "invalidate" ∷ decimal caller ∷ decimal key ∷ []
core_request_words (Remove caller key) = codes "remove" ∷ decimal caller ∷ decimal key ∷ []
core_request_words InvalidateAll = codes "clear" ∷ []
core_request_words (Push caller) = codes "push" ∷ decimal caller ∷ []
core_request_words (Forget caller) = codes "forget" ∷ decimal caller ∷ []
core_request_words Begin = codes "begin" ∷ []
core_request_words Turn = codes "turn" ∷ []
core_request_words Rest = codes "rest" ∷ []
core_request_words Sync = codes "sync" ∷ []
core_request_words Iter = codes "iter" ∷ []
core_request_words EntryCount = codes "count" ∷ []
core_request_words WeightedSize = codes "weight" ∷ []

-- the words of a line: its moment, and those of its request
abbrev pub core_words : CoreLine (List ℕ) → List (List ℕ)
core_words line = decimal line.now ∷ core_request_words line.request

-- the request holds what can be spelled, where the script has these settings
abbrev pub CoreRequestFits : CacheOptions → CoreRequest (List ℕ) → Type 0
CoreRequestFits options (Insert caller key text weight) =
    (caller < 2 ^ 32) × (key < 2 ^ 64) × IsText text × WeightFits options.weighed weight
CoreRequestFits options (Get caller key) = (caller < 2 ^ 32) × (key < 2 ^ 64)
CoreRequestFits options (ContainsKey key) = key < 2 ^ 64
CoreRequestFits options (Invalidate caller key) = (caller < 2 ^ 32) × (key < 2 ^ 64)
CoreRequestFits options (Remove caller key) = (caller < 2 ^ 32) × (key < 2 ^ 64)
CoreRequestFits options (Push caller) = caller < 2 ^ 32
CoreRequestFits options (Forget caller) = caller < 2 ^ 32
CoreRequestFits options request = Unit {0}

-- the line holds what can be spelled
abbrev pub CoreFits : CacheOptions → CoreLine (List ℕ) → Type 0
CoreFits options line = (line.now < 2 ^ 64) × CoreRequestFits options line.request
