-- What a contract sees of the laws by which a cache without limits is a plain map, which `src/laws.rt` promises.
use Rattle.std.specs.Prelude.{◌≡◌, ◌≢◌, ℕ, List, [], ◌∷◌, find, is_some, length, Option, Some, None, option_map, if◌then◌else◌}
use Rattle.std.specs.List.{AllByRecursion, IsDistinct, list_any}
use Rattle.std.specs.Map.{keys_of}
use Rattle.moka_common.specs.Keys.{Keys}
use Rattle.moka_common.specs.Policy.{Policy}
use Rattle.moka_unsync_model.specs.CacheState.{CacheState}
use Rattle.moka_unsync_model.specs.Invalidate.{chosen}
use Rattle.moka_unsync_model.specs.Iterate.{pairs_of}
use Rattle.moka_unsync_model.specs.Step.{Answer, IsStep, Request, Runs, Get, Peek, ContainsKey, Miss, Insert, Invalidate, Remove, InvalidateAll}
use Rattle.moka_unsync_model.specs.Step.{InvalidateEntriesIf, Iterate, EntryCount, WeightedSize, Found, Truth, Done, OutOfMemory, Pairs, Number}

-- there is no limit and no duration
abbrev pub IsUnbounded : Policy → Type 0
IsUnbounded policy = (policy.max_capacity ≡ None) × (policy.time_to_live ≡ None) × (policy.time_to_idle ≡ None)

module _ {K V S : Type 0} (keys : Keys K S) where
  -- what a plain map of these pairs has at a key
  abbrev pub value_at : K → List (K × V) → Option V
  value_at key pairs = option_map (λ p. p.1) (find (λ p. keys.eq key p.0) pairs)

  -- what it answers to a call; it has no weight
  abbrev pub IsMapAnswer : List (K × V) → Request K V → Answer K V → Type 0
  IsMapAnswer pairs (Get key now) answer = answer ≡ Found (value_at key pairs)
  IsMapAnswer pairs (Peek key now) answer = answer ≡ Found (value_at key pairs)
  IsMapAnswer pairs (ContainsKey key now) answer = answer ≡ Truth (is_some (value_at key pairs))
  IsMapAnswer pairs (Miss hash now) answer = answer ≡ Found None
  IsMapAnswer pairs (Insert key value own now) answer = answer ≡ Done
  IsMapAnswer pairs (Invalidate key now) answer = answer ≡ Done
  IsMapAnswer pairs (Remove key now) answer = answer ≡ Found (value_at key pairs)
  IsMapAnswer pairs InvalidateAll answer = answer ≡ Done
  IsMapAnswer pairs (InvalidateEntriesIf answers) answer = answer ≡ Done
  IsMapAnswer pairs (Iterate now) answer = answer ≡ Pairs pairs
  IsMapAnswer pairs EntryCount answer = answer ≡ Number (length pairs)
  IsMapAnswer pairs WeightedSize answer = Unit {0}

  -- what it has at a key after the call; a predicate's answers are one for each of the pairs
  abbrev pub value_after : List (K × V) → Request K V → K → Option V
  value_after pairs (Get other now) key = value_at key pairs
  value_after pairs (Peek other now) key = value_at key pairs
  value_after pairs (ContainsKey other now) key = value_at key pairs
  value_after pairs (Miss hash now) key = value_at key pairs
  value_after pairs (Insert other value own now) key = if keys.eq other key then Some value else value_at key pairs
  value_after pairs (Invalidate other now) key = if keys.eq other key then None else value_at key pairs
  value_after pairs (Remove other now) key = if keys.eq other key then None else value_at key pairs
  value_after pairs InvalidateAll key = None
  value_after pairs (InvalidateEntriesIf answers) key =
      if list_any (λ p. keys.eq p.0 key) (chosen answers pairs) then None else value_at key pairs
  value_after pairs (Iterate now) key = value_at key pairs
  value_after pairs EntryCount key = value_at key pairs
  value_after pairs WeightedSize key = value_at key pairs

  -- a plain map of these pairs may answer so, and then has those, in whatever order; no key comes twice if none did
  pub record IsMapStep (old : List (K × V)) (request : Request K V) (answer : Answer K V) (new : List (K × V)) : Type 0 where
    pub answers : IsMapAnswer old request answer
    pub values : (key : K) → value_at key new ≡ value_after old request key
    pub once : IsDistinct keys.eq (keys_of old) → IsDistinct keys.eq (keys_of new)

  -- these calls lead from one plain map to another, with these answers
  abbrev pub MapRuns : List (K × V) → List (Request K V) → List (Answer K V) → List (K × V) → Type 0
  MapRuns old [] answers new = (answers ≡ []) × (new ≡ old)
  MapRuns old (request ∷ requests) answers new =
      (answer : Answer K V) × (rest : List (Answer K V)) × (next : List (K × V))
      × (answers ≡ answer ∷ rest) × IsMapStep old request answer next × MapRuns next requests rest new

module _ {K V S W : Type 0} (keys : Keys K S) (weighs : W → K → V → ℕ → W → Type 0) where
  -- without limit, durations and refusal each call does what it would to a plain map of the pairs in the cache
  abbrev pub StepsAsMap : Type 0
  StepsAsMap =
      (old new : CacheState K V S W) (request : Request K V) (answer : Answer K V) →
      IsUnbounded old.settings.policy → answer ≢ OutOfMemory → IsStep keys weighs old request answer new →
      IsMapStep keys (pairs_of old.contents.entries) request answer (pairs_of new.contents.entries)

  -- so any list of calls does what it would to a plain map
  abbrev pub RunsAsMap : Type 0
  RunsAsMap =
      (old new : CacheState K V S W) (requests : List (Request K V)) (answers : List (Answer K V)) →
      IsUnbounded old.settings.policy → AllByRecursion (λ answer. answer ≢ OutOfMemory) answers →
      Runs keys weighs old requests answers new →
      MapRuns keys (pairs_of old.contents.entries) requests answers (pairs_of new.contents.entries)
