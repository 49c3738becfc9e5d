-- A step whatever its weigher answers and memory refuses, and lists of steps.
use Rattle.std.specs.Prelude.{◌≡◌, ℕ, Bool, List, [], ◌∷◌}
use Rattle.std.specs.List.{AllByRecursion}
use Rattle.moka_common.specs.Keys.{Keys}
use Rattle.moka_sync_model.specs.declared.event.Event.{Event}
use Rattle.moka_sync_model.specs.declared.event.Event.TheVariants.{Insert}
use Rattle.moka_sync_model.specs.declared.event.Reply.TheVariants.{Done}
use Rattle.moka_sync_model.specs.CoreState.{CoreState}
use Rattle.moka_sync_model.specs.Reply.{Reply}
use Rattle.moka_sync_model.specs.Event.{IsStep}

-- the weigher is asked where an insert is accepted, once, and answers so for its pair
abbrev pub IsWeighed : {K V : Type 0} → (K → V → ℕ → Type 0) → Event K V → Reply K V → ℕ → Type 0
IsWeighed weighs (Insert caller key value now) Done weight = weighs key value weight
IsWeighed weighs event reply weight = Unit {0}

module _ {K V S : Type 0} (keys : Keys K S) (weighs : K → V → ℕ → Type 0) where
  -- an event gets its reply and leaves the new core, for an answer that the weigher may give and some word on memory
  pub record Happens (old : CoreState K V S) (event : Event K V) (reply : Reply K V) (new : CoreState K V S) : Type 0 where
    pub weight : ℕ
    pub refused : Bool
    pub weighed : IsWeighed weighs event reply weight
    pub step : IsStep keys old event weight refused reply new

module _ {K V S : Type 0} (keys : Keys K S) (weighs : K → V → ℕ → Type 0) where
  -- these events with these replies lead from one core to another
  abbrev pub RunsTo : CoreState K V S → List (Event K V) → List (Reply K V) → CoreState K V S → Type 0
  RunsTo old [] [] new = new ≡ old
  RunsTo old (event ∷ events) (reply ∷ replies) new =
      (next : CoreState K V S) × Happens keys weighs old event reply next × RunsTo next events replies new
  RunsTo old [] (reply ∷ replies) new = ⊥
  RunsTo old (event ∷ events) [] new = ⊥

-- an event with the weigher's answer, the word on memory and the reply that it got
pub record Happening (K V : Type 0) : Type 0 where
  pub event : Event K V
  pub weight : ℕ
  pub refused : Bool
  pub reply : Reply K V

-- each weight of an accepted insert is an answer of the weigher
abbrev pub AreWeighed : {K V : Type 0} → (K → V → ℕ → Type 0) → List (Happening K V) → Type 0
AreWeighed weighs happenings = AllByRecursion (λ h. IsWeighed weighs h.event h.reply h.weight) happenings

module _ {K V S : Type 0} (keys : Keys K S) where
  -- these happenings lead from one core to another, whatever the weights are
  abbrev pub Runs : CoreState K V S → List (Happening K V) → CoreState K V S → Type 0
  Runs old [] new = new ≡ old
  Runs old (h ∷ hs) new = (next : CoreState K V S) × IsStep keys old h.event h.weight h.refused h.reply next × Runs next hs new
