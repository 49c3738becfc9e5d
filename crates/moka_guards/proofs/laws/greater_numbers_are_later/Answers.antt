use Rattle.moka_guards.proofs.LogLemmas.{number_is_later}
use Rattle.moka_guards.proofs.laws.greater_numbers_are_later.Goals as goal

pub returns : goal.returns
returns c = number_is_later
