use Rattle.moka_grammar.proofs.ScriptLemmas.{one_bad_line}
use Rattle.moka_grammar.proofs.laws.one_line_is_the_first_bad_one.Goals as goal

pub returns : goal.returns
returns c = one_bad_line
