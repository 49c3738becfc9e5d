use Rattle.std.proofs.Common.{◌≡◌, ℕ, List, ◌++◌}
use Rattle.std.specs.Prelude.{IsTrue}
use Rattle.std.specs.List.{AllByRecursion}
use Rattle.std.specs.Vec.Iter.{into_iter_items}
use Rattle.moka_grammar.specs.declared.line.Mode.TheVariants.{Recorded}
use Rattle.moka_grammar.specs.Lines.{allows}
use Rattle.moka_script.specs.RecordedRun.{AreReplies}
use Rattle.moka_script.specs.Reply.{Ready, reply_line}
use Rattle.moka_script.proofs.recorded.replies_on.Given as goal

-- the weigher is the cache's and may be asked, the lines to come are a record's, and what answers them makes the text so far answer
-- all lines
abbrev pub invariant-loop-line : goal.invariant-loop-line
invariant-loop-line g l = record {
  ready : g.W.WeighShared.ready l.cache.weigher;
  weigher : l.cache.weigher ≡ l.fn.cache.weigher;
  allowed : AllByRecursion (λ line. IsTrue (allows Recorded line.request)) (into_iter_items l.line-iterator);
  answered : (rest : List ℕ)
      → AreReplies g.row.A.Denot (g.W.WeighShared.weighs l.fn.cache.weigher) l.cache.state (into_iter_items l.line-iterator) rest
      → (replies : List ℕ)
      × AreReplies g.row.A.Denot (g.W.WeighShared.weighs l.fn.cache.weigher) l.fn.cache.state l.fn.lines.items replies
      × (l.text.items ++ rest ≡ reply_line Ready ++ replies);
}
