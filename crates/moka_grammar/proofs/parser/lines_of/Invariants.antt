-- The lines so far were read, and the rest is what they left.
use Rattle.std.proofs.Common.{length}
use Rattle.moka_grammar.specs.Reading.{Reads}
use Rattle.moka_grammar.proofs.parser.lines_of.Given as goal

abbrev pub invariant-loop-rest : goal.invariant-loop-rest
invariant-loop-rest g l = Reads (g.L.FromWords.reading l.context) l.body l.lines.items l.rest

abbrev pub decreases-loop-rest : goal.decreases-loop-rest
decreases-loop-rest g l = length l.rest
