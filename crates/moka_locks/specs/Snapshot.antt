-- A snapshot of a cache, shard by shard.
use Rattle.std.specs.Prelude.{◌≡◌, ◌<◌, ◌++◌, ℕ, zero, suc, List, [], map}
use Rattle.std.specs.List.{All, IsDistinct}
use Rattle.moka_common.specs.Keys.{Keys}
use Rattle.moka_row.specs.Visits.{at}
use Rattle.moka_history.specs.LastWrite.{IsCurrent}
use Rattle.moka_history.specs.Steps.{Copies, acts}
use Rattle.moka_shard.specs.Rule.{PairsMeet}
use Rattle.moka_locks.specs.Cache.{Plan}
use Rattle.moka_locks.specs.History.{Every, Makes, place_of, rest, steps}
use Rattle.moka_locks.specs.Tells.{ByGuest}

module _ {K V S : Type 0} (keys : Keys K S) (plan : Plan S) (now : ℕ) where
  -- what a visit to a shard copies: all its live pairs, each the value last written at its key
  abbrev pub CopiesShard : ℕ → List (K × V) → Type 0
  CopiesShard i part = ByGuest {K = K} {V = V} plan (λ old new. (valid_after : ℕ)
      × Makes keys plan.settings old i (Copies now valid_after part) new
      × Every (λ p. IsCurrent keys.eq plan.settings.policy valid_after now (acts (steps (rest (at new.seen i)))) p.0 p.1) part)

  -- the pairs of the shards below this one, each shard's copied in a visit
  abbrev pub AreCopies : ℕ → List (K × V) → Type 0
  AreCopies zero pairs = pairs ≡ []
  AreCopies (suc i) pairs = (before : List (K × V)) × (part : List (K × V)) × (pairs ≡ before ++ part) × CopiesShard i part × AreCopies i before

  -- each of them meets the rule, and each key comes once
  pub record IsSnapshot (holds : K → V → Type 0) (number : ℕ) (pairs : List (K × V)) : Type 0 where
    pub copies : AreCopies number pairs
    pub ruled : PairsMeet holds pairs
    pub once : IsDistinct keys.eq (map (λ p. p.0) pairs)
    pub below : All (λ p. place_of keys plan.settings p.0 < number) pairs
