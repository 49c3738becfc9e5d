use Rattle.moka_guards.proofs.LogLemmas.{number_is_place}
use Rattle.moka_guards.proofs.laws.numbers_count_publications.Goals as goal

pub returns : goal.returns
returns c = number_is_place
