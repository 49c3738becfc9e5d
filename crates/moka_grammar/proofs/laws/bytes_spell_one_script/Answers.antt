use Rattle.moka_grammar.proofs.ScriptLemmas.{one_script}
use Rattle.moka_grammar.proofs.laws.bytes_spell_one_script.Goals as goal

pub returns : goal.returns
returns c = one_script
