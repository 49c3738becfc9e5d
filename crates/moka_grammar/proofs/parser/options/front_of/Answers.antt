use Rattle.std.proofs.lemmas.Bool.Decides.{Decides-eqb}
use Rattle.std.proofs.lemmas.Slice.Eq.{strip_suffix_is}
use Rattle.moka_grammar.proofs.OptionLemmas.{front_of-stripped}
use Rattle.moka_grammar.proofs.parser.options.front_of.Goals as goal

pub returns : goal.returns
returns c = front_of-stripped _ _ _ (strip_suffix_is Decides-eqb _ _ _ c.strip_suffix.ensures.cases)
