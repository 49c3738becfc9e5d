-- The moments of the invalidations of all of a cache: what was written or read before the latest is hidden.
use Rattle.std.specs.Prelude.{◌≡◌, ℕ, max, List, [], ◌∷◌, ◌++◌}
use mathlib.Core.Option.{some}
use lib.ListN.{get_elem?}
use Rattle.atomic_table.specs.Table.{Me, State, Step}

-- the latest of these moments, or 0 if there is none
abbrev pub latest : List ℕ → ℕ
latest [] = 0
latest (moment ∷ log) = max (latest log) moment

-- a list goes on from another, with the last one first
abbrev pub GoesOn : List ℕ → List ℕ → Type 0
GoesOn seen log = (since : List ℕ) × (log ≡ since ++ seen)

-- an invalidation's moment comes in front of a list that goes on from what was seen
pub record Appends (seen : List ℕ) (moment : ℕ) (new : List ℕ) : Type 0 where
  pub log : List ℕ
  pub last : new ≡ moment ∷ log
  pub goes_on : GoesOn seen log

-- what is known at a seat: the moments that it has seen, and those that it was told of and has not taken in yet
pub record Known : Type 0 where
  pub seen : List ℕ
  pub heard : List ℕ

-- who has seen these
abbrev pub seeing : List ℕ → Known
seeing log = record { seen = log; heard = [] }

-- who was told of what another has seen
abbrev pub after_telling : Known → Known → Known
after_telling v note = record v { heard = note.seen }

-- there is one list of moments, the word is the latest, and each seat knows ends of the list
pub record IsKept {T : Type 0} (s : State T Known) : Type 0 where
  pub log : List ℕ
  pub word : s.words ≡ latest log ∷ []
  pub seen : (seat : ℕ) (v : Known) → get_elem? s.views seat ≡ some v → GoesOn v.seen log
  pub heard : (seat : ℕ) (v : Known) → get_elem? s.views seat ≡ some v → GoesOn v.heard log

-- what coming tells: all moments so far were seen, and the number that was found is the latest
abbrev pub Came : {T : Type 0} → Step T → Me T Known → ℕ → Me T Known → Type 0
Came st first found new = (new.1 ≡ []) × (new.0.heard ≡ []) × (found ≡ latest new.0.seen)

-- what a look tells
pub record Looked {T : Type 0} (st : Step T) (old : Me T Known) (found : ℕ) (new : Me T Known) : Type 0 where
  pub holds : new.1 ≡ old.1
  pub spent : new.0.heard ≡ []
  pub latest : found ≡ latest new.0.seen
  pub goes_on : GoesOn old.0.seen new.0.seen
  pub learns : GoesOn old.0.heard new.0.seen

-- what an invalidation tells: its moment comes behind all that were seen
pub record Invalidated {T : Type 0} (st : Step T) (old : Me T Known) (found : ℕ) (new : Me T Known) : Type 0 where
  pub holds : new.1 ≡ old.1
  pub spent : new.0.heard ≡ []
  pub seen : Appends old.0.seen st.first new.0.seen
