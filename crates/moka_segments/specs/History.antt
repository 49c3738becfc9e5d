-- The history of a segment: the visits to it, the last one first, and the calls that each visit made, the last one first too.
use Rattle.std.specs.Prelude.{◌≡◌, ◌==◌, ◌≤◌, ℕ, false, List, [], ◌∷◌, ◌++◌, Option, option_map}
use Rattle.moka_common.specs.Keys.{Keys}
use Rattle.moka_unsync.specs.Builder.{reserved}
use Rattle.moka_unsync_model.specs.CacheState.{CacheState, new_cache}
use Rattle.moka_unsync_model.specs.Step.{Request, Get, Peek, ContainsKey, Insert, Invalidate, Remove}
use Rattle.moka_unsync_model.specs.History.{Exchange, Leads, Transition, chosen_keys, is_invalidated, is_written, last_write}
use Rattle.moka_row.specs.Visits.{Known}
use Rattle.moka_segments.specs.declared.plan.Plan.{Plan}
use Rattle.moka_segments.specs.Plan.{place_of, settings_of, share}
use Rattle.moka_segments.specs.Rules.{IsPermitted, Rules}

-- the calls that a visit made
abbrev pub Visit : Type 0 → Type 0 → Type 0 → Type 0 → Type 0
Visit K V S W = List (Transition K V S W)

-- the visits to a segment, each with the number of its visitor
abbrev pub Log : Type 0 → Type 0 → Type 0 → Type 0 → Type 0
Log K V S W = List (ℕ × Visit K V S W)

-- what a session knows: of each segment a history that it has seen, and its own visits there
abbrev pub Knows : Type 0 → Type 0 → Type 0 → Type 0 → Type 0
Knows K V S W = Known (Visit K V S W) (Plan S)

-- the calls of visits
abbrev pub calls : {C : Type 0} → List (ℕ × List C) → List C
calls [] = []
calls (visit ∷ log) = visit.1 ++ calls log

-- the calls of one's own visits
abbrev pub joined : {C : Type 0} → List (List C) → List C
joined [] = []
joined (visit ∷ visits) = visit ++ joined visits

-- a fact of each
abbrev pub Every : {X : Type 0} → (X → Type 0) → List X → Type 0
Every P [] = Unit {0}
Every P (x ∷ xs) = P x × Every P xs

-- all but the first
abbrev pub rest : {X : Type 0} → List X → List X
rest [] = []
rest (x ∷ xs) = xs

module _ {K V S : Type 0} (keys : Keys K S) where
  -- a request is of no key, or of one of a segment
  abbrev pub IsOfSegment : Plan S → ℕ → Request K V → Type 0
  IsOfSegment plan i (Get key now) = place_of plan keys key ≡ i
  IsOfSegment plan i (Peek key now) = place_of plan keys key ≡ i
  IsOfSegment plan i (ContainsKey key now) = place_of plan keys key ≡ i
  IsOfSegment plan i (Insert key value own now) = place_of plan keys key ≡ i
  IsOfSegment plan i (Invalidate key now) = place_of plan keys key ≡ i
  IsOfSegment plan i (Remove key now) = place_of plan keys key ≡ i
  IsOfSegment plan i request = Unit {0}

  -- the value that was written last at a key, of those that no invalidation or removal has ended
  abbrev pub value_written : K → List (Exchange K V) → Option V
  value_written key past = option_map (λ write. write.value) (last_write keys key past)

  -- a call is no accepted insert at a key, and doesn't invalidate or remove it
  abbrev pub Spares : {W : Type 0} → K → Transition K V S W → Type 0
  Spares key call =
      (is_written keys call.request call.answer key ≡ false)
      × (is_invalidated keys call.request (chosen_keys call.request call.before.contents.entries) key ≡ false)

  -- nobody else wrote, invalidated or removed the key
  abbrev pub OnlyBy : {W : Type 0} → ℕ → K → Log K V S W → Type 0
  OnlyBy by key log = Every (λ visit. (visit.0 == by) ≡ false → Every (Spares key) visit.1) log

module _ {K V S W : Type 0} (keys : Keys K S) (weighs : W → K → V → ℕ → W → Type 0) (rules : Rules K V) where
  -- the calls of a segment lead from a new cache to this one, are of its keys, and keep the rules
  pub record IsLedBy (plan : Plan S) (i : ℕ) (log : Log K V S W) (cache : CacheState K V S W) : Type 0 where
    pub weigher : W
    pub capacity : ℕ
    pub room : reserved (share plan.initial_capacity plan.count i) ≤ capacity
    pub led : Leads keys weighs (new_cache (settings_of plan i) plan.shares weigher capacity) (calls log) cache
    pub own : Every (λ call. IsOfSegment keys plan i call.request) (calls log)
    pub ruled : Every (λ visit. Every (λ call. IsPermitted rules visit.0 call.request) visit.1) log

  -- and its weigher may be asked
  abbrev pub IsAccount : (W → Type 0) → Plan S → ℕ → Log K V S W → CacheState K V S W → Type 0
  IsAccount ready plan i log cache = IsLedBy plan i log cache × ready cache.weigher
