-- Lemmas on the copy of a shard's pairs.
use Rattle.std.proofs.Common.{◌≡◌, ℕ, ◌+◌, not, List, [], ◌∷◌, map, filter, Option, None, Some, refl, ap}
use Rattle.moka_common.specs.Settings.{Settings}
use Rattle.moka_sync_model.specs.CoreState.{is_expired}
use Rattle.moka_sync_model.specs.Entry.{Entry}
use Rattle.slab.specs.Slab.{entries_from}
use Rattle.moka_shard.specs.Shard.{entries_in}

module _ {K V : Type 0} where
  -- the entries of numbered ones
  abbrev pub of_numbered : List (ℕ × Entry K V) → List (Entry K V)
  of_numbered es = map (λ p. p.1) es

  -- those of a slab's iterator are those in its slots
  pub numbered : (first : ℕ) (slots : List (Option (Entry K V))) → of_numbered (entries_from first slots) ≡ entries_in slots
  numbered first [] = refl
  numbered first (None ∷ rest) = numbered (first + 1) rest
  numbered first (Some e ∷ rest) = ap (λ es. e ∷ es) (numbered (first + 1) rest)

  module _ {S : Type 0} (settings : Settings S) (valid_after now : ℕ) where
    -- the pairs of those that count
    abbrev pub shown : List (Entry K V) → List (K × V)
    shown es = map (λ e. (e.key, e.value)) (filter (λ e. not (is_expired settings valid_after now e)) es)
