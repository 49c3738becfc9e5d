use Rattle.std.proofs.Common.{◌≡◌, ◌++◌, map}
use Rattle.moka_script.specs.ReplyValue.{pairs_of}
use Rattle.moka_script.proofs.unsync.pairs_of.Given as goal

-- the pairs so far and those to come are all
abbrev pub invariant-loop-key : goal.invariant-loop-key
invariant-loop-key g l =
    pairs_of l.pairs.items ++ map (λ p. (p.0, p.1.text)) l.key-iterator ≡ map (λ p. (p.0, p.1.text)) l.fn.entries
