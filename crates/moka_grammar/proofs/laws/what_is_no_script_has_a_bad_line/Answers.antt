use Rattle.moka_grammar.proofs.ScriptLemmas.{script_or_bad}
use Rattle.moka_grammar.proofs.laws.what_is_no_script_has_a_bad_line.Goals as goal

pub returns : goal.returns
returns c = script_or_bad
