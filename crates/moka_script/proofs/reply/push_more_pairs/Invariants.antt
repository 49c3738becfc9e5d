use Rattle.std.proofs.Common.{◌≡◌, ◌∷◌, ◌++◌, drop}
use Rattle.std.specs.List.{flat_map}
use Rattle.moka_grammar.specs.Spelling.{space}
use Rattle.moka_script.specs.Reply.{pair_words}
use Rattle.moka_script.specs.ReplyValue.{pairs_of}
use Rattle.moka_script.proofs.reply.push_more_pairs.Given as goal

-- the text so far and the pairs to come make the whole text
abbrev pub invariant-loop-key : goal.invariant-loop-key
invariant-loop-key g l =
    l.text.items ++ flat_map (λ pair. space ∷ pair_words pair) (pairs_of (drop l.key-index l.pairs))
    ≡ l.fn.text.items ++ flat_map (λ pair. space ∷ pair_words pair) (pairs_of l.pairs)
