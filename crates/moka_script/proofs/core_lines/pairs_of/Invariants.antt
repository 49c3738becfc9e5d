use Rattle.std.proofs.Common.{◌≡◌, ◌+◌, ◌++◌, drop}
use Rattle.std.specs.List.{flat_map}
use Rattle.moka_script.specs.CoreRun.{pairs_in}
use Rattle.moka_script.specs.ReplyValue.{pairs_of}
use Rattle.moka_script.proofs.CoreRunLemmas.{texts_of}
use Rattle.moka_script.proofs.core_lines.pairs_of.Given as goal

-- the pairs so far and those of the other copies are all
abbrev pub invariant-loop-reply : goal.invariant-loop-reply
invariant-loop-reply g l = pairs_of l.pairs.items ++ flat_map pairs_in (drop l.reply-index l.replies) ≡ flat_map pairs_in l.replies

-- so they are with the others of this copy
abbrev pub invariant-loop-key : goal.invariant-loop-key
invariant-loop-key g l =
    pairs_of l.pairs.items ++ (texts_of (drop l.key-index l.key-items) ++ flat_map pairs_in (drop (l.reply-index + 1) l.replies))
    ≡ flat_map pairs_in l.replies
