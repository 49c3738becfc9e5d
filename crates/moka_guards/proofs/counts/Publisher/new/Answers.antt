use Rattle.std.proofs.Common.{true, [], ◌∷◌, rules, subst, sym}
use Rattle.moka_sync_model.specs.Published.{opening}
use Rattle.moka_guards.specs.Log.{IsLog}
use Rattle.moka_guards.proofs.LogLemmas.{opens}
use Rattle.moka_guards.proofs.counts.Publisher.new.Goals as goal

pub ruled-requires : goal.ruled-requires
ruled-requires g c = (
  search rules,
  (search rules, subst (λ first. IsLog first (record { publishes = true; seen = opening ∷ [] } ∷ [])) (sym c.opening.ensures) opens),
)
