-- What a session's calls make: where each stands in the history of its segment.
use Rattle.std.specs.Prelude.{◌≡◌, ◌≢◌, ◌<◌, ◌≤◌, ◌-◌, ◌^◌, ℕ, length, min, slice_index, slice_index_or, sum, List, [], ◌∷◌, ◌++◌}
use mathlib.Core.Option.{some}
use lib.ListN.{get_elem?}
use Rattle.moka_common.specs.Keys.{Keys}
use Rattle.moka_unsync_model.specs.CacheState.{CacheState}
use Rattle.moka_unsync_model.specs.Step.{Answer, Request, Iterate, Number, Pairs}
use Rattle.moka_unsync_model.specs.History.{Transition}
use Rattle.moka_row.specs.Visits.{at, visits_by}
use Rattle.moka_segments.specs.declared.plan.Plan.{Plan}
use Rattle.moka_segments.specs.Rules.{Rules}
use Rattle.moka_segments.specs.History.{IsAccount, IsLedBy, Knows, Log, Visit, joined}

-- what is known of a segment is the same
abbrev pub SameIn : {K V S W : Type 0} → Knows K V S W → ℕ → Knows K V S W → Type 0
SameIn old j new = (at new.seen j ≡ at old.seen j) × (at new.mine j ≡ at old.mine j)

module _ {K V S W : Type 0} (keys : Keys K S) (weighs : W → K → V → ℕ → W → Type 0) (rules : Rules K V) (plan : Plan S) where
  -- A session's visit to a segment stands behind all that the session had seen there, and behind what others did since. Its calls and those before them are a
  -- history of one cache for one thread, from a new one on: each answers there what that cache answers.
  pub record VisitsIn (old : Knows K V S W) (i : ℕ) (visit : Visit K V S W) (new : Knows K V S W) : Type 0 where
    pub cache : CacheState K V S W
    pub since : Log K V S W
    pub history : IsLedBy keys weighs rules plan i (at new.seen i) cache
    pub seen : at new.seen i ≡ (old.by, visit) ∷ (since ++ at old.seen i)
    pub mine : at new.mine i ≡ visit ∷ at old.mine i
    pub told : visits_by old.by (since ++ at old.seen i) ≡ at old.mine i
    pub same : new.by ≡ old.by

  -- and no other segment is visited
  pub record Visits (old : Knows K V S W) (i : ℕ) (visit : Visit K V S W) (new : Knows K V S W) : Type 0 where
    pub made : VisitsIn old i visit new
    pub others : (j : ℕ) → j ≢ i → SameIn old j new

  -- a visit of one call, with this answer
  pub record MakesIn (old : Knows K V S W) (i : ℕ) (request : Request K V) (answer : Answer K V) (new : Knows K V S W) : Type 0 where
    pub call : Transition K V S W
    pub asked : call.request ≡ request
    pub answered : call.answer ≡ answer
    pub visit : VisitsIn old i (call ∷ []) new

  -- and no other segment is visited
  pub record Makes (old : Knows K V S W) (i : ℕ) (request : Request K V) (answer : Answer K V) (new : Knows K V S W) : Type 0 where
    pub made : MakesIn old i request answer new
    pub others : (j : ℕ) → j ≢ i → SameIn old j new

  -- new caches, each with its part of the plan
  abbrev pub AreCaches : (W → Type 0) → List (CacheState K V S W) → Type 0
  AreCaches ready caches = (i : ℕ) (x : CacheState K V S W) → get_elem? caches i ≡ some x → IsAccount keys weighs rules ready plan i [] x

  -- one call in each segment, one segment after another
  pub record MakesAll (old : Knows K V S W) (count : ℕ) (requests : ℕ → Request K V) (answers : ℕ → Answer K V) (new : Knows K V S W) : Type 0 where
    pub made : (i : ℕ) → i < count → MakesIn old i (requests i) (answers i) new
    pub later : (i : ℕ) → count ≤ i → SameIn old i new
    pub same : new.by ≡ old.by

  -- the numbers that the segments answer, and their sum as far as 64 bits tell
  pub record Sums (old : Knows K V S W) (count : ℕ) (request : Request K V) (result : ℕ) (new : Knows K V S W) : Type 0 where
    pub numbers : List ℕ
    pub whole : length numbers ≡ count
    pub made : MakesAll old count (λ i. request) (λ i. Number (slice_index numbers i)) new
    pub told : result ≡ min (2 ^ 64 - 1) (sum numbers)

  -- the pairs of all segments, each segment's as an iterator gives them
  pub record Copies (old : Knows K V S W) (count : ℕ) (now : ℕ) (pairs : List (K × V)) (new : Knows K V S W) : Type 0 where
    pub parts : List (List (K × V))
    pub whole : length parts ≡ count
    pub made : MakesAll old count (λ i. Iterate now) (λ i. Pairs (slice_index_or parts i [])) new
    pub told : pairs ≡ joined parts
