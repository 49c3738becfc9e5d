-- The cache as a machine: what each call replies and leaves, and what a list of calls does.
use Rattle.std.specs.Prelude.{◌≡◌, ◌⊎◌, ℕ, Bool, List, [], ◌∷◌, length, Option, None}
use Rattle.moka_common.specs.Keys.{Keys}
use Rattle.moka_unsync_model.specs.Contents.{weighted_size}
use Rattle.moka_unsync_model.specs.CacheState.{CacheState}
use Rattle.moka_unsync_model.specs.Lookup.{after_get, after_look, after_miss, found_by_get, found_by_peek, is_contained}
use Rattle.moka_unsync_model.specs.Insert.{Puts, IsRefused}
use Rattle.moka_unsync_model.specs.Invalidate.{after_invalidate, after_invalidate_all, after_invalidate_if}
use Rattle.moka_unsync_model.specs.Iterate.{pairs_at}

-- a call, with its moment where it needs one; a look-up by a probe that finds nothing, with its hash where that is counted;
-- an insert with its own time to live before that, if it has one; a conditional invalidation with the answers of its predicate
pub data Request (K V : Type 0) : Type 0 where
  Get : K → ℕ → Request K V
  Peek : K → ℕ → Request K V
  ContainsKey : K → ℕ → Request K V
  Miss : Option ℕ → ℕ → Request K V
  Insert : K → V → Option ℕ → ℕ → Request K V
  Invalidate : K → ℕ → Request K V
  Remove : K → ℕ → Request K V
  InvalidateAll : Request K V
  InvalidateEntriesIf : List Bool → Request K V
  Iterate : ℕ → Request K V
  EntryCount : Request K V
  WeightedSize : Request K V

-- what a call replies
pub data Answer (K V : Type 0) : Type 0 where
  Found : Option V → Answer K V
  Truth : Bool → Answer K V
  Done : Answer K V
  OutOfMemory : Answer K V
  Pairs : List (K × V) → Answer K V
  Number : ℕ → Answer K V

module _ {K V S W : Type 0} (keys : Keys K S) (weighs : W → K → V → ℕ → W → Type 0) where
  -- what a call may answer, and the cache after it: only an insert that finds no room can be refused, and a predicate answers once an entry
  abbrev pub IsStep : CacheState K V S W → Request K V → Answer K V → CacheState K V S W → Type 0
  IsStep old (Get key now) answer new = (answer ≡ Found (found_by_get keys old key now)) × (new ≡ after_get keys old key now)
  IsStep old (Peek key now) answer new = (answer ≡ Found (found_by_peek keys old key now)) × (new ≡ old)
  IsStep old (ContainsKey key now) answer new = (answer ≡ Truth (is_contained keys old key now)) × (new ≡ after_look keys old now)
  IsStep old (Miss hash now) answer new = (answer ≡ Found None) × (new ≡ after_miss keys old hash now)
  IsStep old (Insert key value own now) answer new =
      ((answer ≡ Done) × Puts keys weighs old key value own now new) ⊎ ((answer ≡ OutOfMemory) × IsRefused old new)
  IsStep old (Invalidate key now) answer new = (answer ≡ Done) × (new ≡ after_invalidate keys old key now)
  IsStep old (Remove key now) answer new = (answer ≡ Found (found_by_get keys old key now)) × (new ≡ after_invalidate keys old key now)
  IsStep old InvalidateAll answer new = (answer ≡ Done) × (new ≡ after_invalidate_all old)
  IsStep old (InvalidateEntriesIf answers) answer new =
      ((answer ≡ Done) × (length answers ≡ length old.contents.entries)) × (new ≡ after_invalidate_if keys old answers)
  IsStep old (Iterate now) answer new = (answer ≡ Pairs (pairs_at old now)) × (new ≡ old)
  IsStep old EntryCount answer new = (answer ≡ Number (length old.contents.entries)) × (new ≡ old)
  IsStep old WeightedSize answer new = (answer ≡ Number (weighted_size old.contents.entries)) × (new ≡ old)

  -- these calls lead from one cache to another, with these answers
  abbrev pub Runs : CacheState K V S W → List (Request K V) → List (Answer K V) → CacheState K V S W → Type 0
  Runs old [] answers new = (answers ≡ []) × (new ≡ old)
  Runs old (request ∷ requests) answers new =
      (answer : Answer K V) × (rest : List (Answer K V)) × (next : CacheState K V S W)
      × (answers ≡ answer ∷ rest) × IsStep old request answer next × Runs next requests rest new
