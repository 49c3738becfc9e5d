-- What the words of a line of a core script are read as. No public clause cites this module.
use Rattle.std.specs.Prelude.{ℕ, ◌^◌, List, [], ◌∷◌, codes, Option, Some, None, if◌then◌else◌}
use Rattle.std.specs.Str.{bytes_eq}
use Rattle.moka_grammar.specs.Reading.{◌>>=◌, number_of, number_below, text_of, no_argument, u64_of, u32_of}
use Rattle.moka_grammar.specs.ReadingLines.{weight_of}
use Rattle.moka_grammar.specs.declared.line.CacheOptions.{CacheOptions}
use Rattle.moka_grammar.specs.declared.line.CoreLine.{CoreLine}
use Rattle.moka_grammar.specs.declared.line.CoreRequest.{CoreRequest}
use Rattle.moka_grammar.specs.declared.line.CoreRequest.TheVariants.{Insert, Get, ContainsKey, Invalidate, Remove, InvalidateAll, Push, Forget}
use Rattle.moka_grammar.specs.declared.line.CoreRequest.TheVariants.{Begin, Turn, Rest, Sync, Iter, EntryCount, WeightedSize}

-- a caller, and a key behind it
unfoldable pub caller_and_key_of : List (List ℕ) → Option (ℕ × ℕ)
caller_and_key_of (caller ∷ key ∷ []) = do
  c ← number_below (2 ^ 32) caller
  k ← number_of key
  Some (c, k)
caller_and_key_of _ = None

-- what an insert is given
unfoldable pub insert_of : CacheOptions → List (List ℕ) → Option (CoreRequest (List ℕ))
insert_of options (caller ∷ key ∷ text ∷ behind) = do
  c ← number_below (2 ^ 32) caller
  k ← number_of key
  weight ← weight_of options.weighed behind
  nothing ← no_argument weight.1
  t ← text_of text
  Some (Insert c k t weight.0)
insert_of options _ = None

-- the request of this name, which is given nothing
unfoldable pub bare_of : List ℕ → List (List ℕ) → Option (CoreRequest (List ℕ))
bare_of call arguments = do
  nothing ← no_argument arguments
  (if bytes_eq call (codes "clear") then Some InvalidateAll
      else if bytes_eq call (codes "begin") then Some Begin
      else if bytes_eq call (codes "turn") then Some Turn
      else if bytes_eq call (codes "rest") then Some Rest
      else if bytes_eq call (codes "sync") then Some Sync
      else if bytes_eq call (codes "iter") then Some Iter
      else if bytes_eq call (codes "count") then Some EntryCount
      else if bytes_eq call (codes "weight") then Some WeightedSize
      else None)

-- the request of this name with these arguments
unfoldable pub request_of : CacheOptions → List ℕ → List (List ℕ) → Option (CoreRequest (List ℕ))
request_of options call arguments =
    if bytes_eq call (codes "insert") then insert_of options arguments
    else if bytes_eq call (codes "get") then (do
      named ← caller_and_key_of arguments
      Some (Get named.0 named.1))
    else if bytes_eq call (codes "has") then (do
      key ← u64_of arguments
      Some (ContainsKey key))
    else if bytes_eq call (codes "invalidate") then (do
      named ← caller_and_key_of arguments
      Some (Invalidate named.0 named.1))
    else if bytes_eq call (codes "remove") then (do
      named ← caller_and_key_of arguments
      Some (Remove named.0 named.1))
    else if bytes_eq call (codes "push") then (do
      caller ← u32_of arguments
      Some (Push caller))
    else if bytes_eq call (codes "forget") then (do
      caller ← u32_of arguments
      Some (Forget caller))
    else bare_of call arguments

-- the line of these words behind a header with these settings
unfoldable pub core_from_words : CacheOptions → List (List ℕ) → Option (CoreLine (List ℕ))
core_from_words options (now ∷ call ∷ arguments) = do
  n ← number_of now
  r ← request_of options call arguments
  Some (record { now = n; request = r })
core_from_words options _ = None
