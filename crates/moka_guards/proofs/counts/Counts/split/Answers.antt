use Rattle.std.proofs.Common.{rules}
use Rattle.moka_guards.proofs.LogLemmas.{tells}
use Rattle.moka_guards.proofs.counts.Counts.split.Goals as goal

pub split_pass-requires : goal.split_pass-requires
split_pass-requires g c = (search rules, (search rules, (search rules, tells _ _)))
