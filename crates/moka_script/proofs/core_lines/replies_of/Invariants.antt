use Rattle.std.proofs.Common.{◌≡◌, ℕ, List, ◌++◌}
use Rattle.std.specs.Vec.Iter.{into_iter_items}
use Rattle.moka_script.specs.CoreRun.{AreReplies}
use Rattle.moka_script.specs.Reply.{Ready, reply_line}
use Rattle.moka_script.proofs.core_lines.replies_of.Given as goal

-- the weigher is the core's and may be asked, and what answers the lines to come makes the text so far answer all lines
abbrev pub invariant-loop-line : goal.invariant-loop-line
invariant-loop-line g l = record {
  ready : g.W.WeighShared.ready l.core.weigher;
  weigher : l.core.weigher ≡ l.fn.core.weigher;
  answered : (rest : List ℕ)
      → AreReplies (g.W.WeighShared.weighs l.fn.core.weigher) l.core.state (into_iter_items l.line-iterator) rest
      → (replies : List ℕ)
      × AreReplies (g.W.WeighShared.weighs l.fn.core.weigher) l.fn.core.state l.fn.lines.items replies
      × (l.text.items ++ rest ≡ reply_line Ready ++ replies);
}
