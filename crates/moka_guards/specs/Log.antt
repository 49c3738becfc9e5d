-- The list of what was published, newest first, and what is known of it.
use Rattle.std.specs.Prelude.{◌≡◌, ℕ, Bool, true, List, [], ◌∷◌, ◌++◌, ◌+◌, ◌-◌, ◌^◌, min}
use mathlib.Core.Option.{some}
use lib.ListN.{get_elem?}
use Rattle.moka_sync_model.specs.Published.{opening}
use Rattle.moka_sync_model.specs.declared.published.Published.{Published}

-- the number of what is published next, which stops at the last of 64 bits
abbrev pub number_after : List Published → ℕ
number_after [] = 0
number_after (newest ∷ older) = min (newest.number + 1) (2 ^ 64 - 1)

-- each has the number behind that of the one before, from the opening one on
abbrev pub IsChain : List Published → Type 0
IsChain [] = ⊥
IsChain (first ∷ []) = first ≡ opening
IsChain (newer ∷ older ∷ log) = (newer.number ≡ number_after (older ∷ log)) × IsChain (older ∷ log)

-- a list with others before it
abbrev pub IsSuffix : List Published → List Published → Type 0
IsSuffix older log = (newer : List Published) × (log ≡ newer ++ older)

-- what a pass knows: the list up to the newest that it has seen, and whether it publishes
pub record Known : Type 0 where
  pub publishes : Bool
  pub seen : List Published

-- there is one list, whose newest is in the cell; each pass has seen an end of it, and who publishes has seen all, and is the only one
pub record IsLog (value : Published) (views : List Known) : Type 0 where
  pub log : List Published
  pub chain : IsChain log
  pub older : List Published
  pub newest : log ≡ value ∷ older
  pub seen : (i : ℕ) (k : Known) → get_elem? views i ≡ some k → IsSuffix k.seen log
  pub whole : (i : ℕ) (k : Known) → get_elem? views i ≡ some k → k.publishes ≡ true → k.seen ≡ log
  pub alone : (i j : ℕ) (k l : Known) → get_elem? views i ≡ some k → get_elem? views j ≡ some l → k.publishes ≡ true
      → l.publishes ≡ true → i ≡ j
