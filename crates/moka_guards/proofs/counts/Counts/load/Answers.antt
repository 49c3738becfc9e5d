use Rattle.std.proofs.Common.{rules}
use Rattle.moka_guards.proofs.LogLemmas.{sees}
use Rattle.moka_guards.proofs.counts.Counts.load.Goals as goal

pub load_as-requires : goal.load_as-requires
load_as-requires g c = (search rules, (search rules, (search rules, sees _ _)))
