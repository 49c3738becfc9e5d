-- The shortest beginning of a list that weighs enough.
use Rattle.std.specs.Prelude.{ℕ, zero, suc, ◌-◌, List, [], ◌∷◌, Option, Some, None, option_map}

-- the shortest beginning whose weights sum to at least so much, if there is one: the empty one for 0
abbrev pub shortest_prefix : {X : Type 0} → (X → ℕ) → ℕ → List X → Option (List X)
shortest_prefix weight zero items = Some []
shortest_prefix weight (suc enough) [] = None
shortest_prefix weight (suc enough) (item ∷ items) =
    option_map (λ prefix. item ∷ prefix) (shortest_prefix weight (suc enough - weight item) items)
