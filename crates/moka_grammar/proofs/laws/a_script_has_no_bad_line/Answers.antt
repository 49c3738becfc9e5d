use Rattle.moka_grammar.proofs.ScriptLemmas.{script_not_bad}
use Rattle.moka_grammar.proofs.laws.a_script_has_no_bad_line.Goals as goal

pub returns : goal.returns
returns c = script_not_bad
