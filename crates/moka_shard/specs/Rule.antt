-- What holds of all pairs of a cache whose callers keep a rule.
use Rattle.std.specs.Prelude.{List}
use Rattle.std.specs.List.{All}
use Rattle.moka_sync_model.specs.Entry.{Entry}

module _ {K V : Type 0} (holds : K → V → Type 0) where
  -- the pair of each entry meets the rule
  abbrev pub AllMeet : List (Entry K V) → Type 0
  AllMeet entries = All (λ e. holds e.key e.value) entries

  -- each of the pairs does
  abbrev pub PairsMeet : List (K × V) → Type 0
  PairsMeet pairs = All (λ p. holds p.0 p.1) pairs
