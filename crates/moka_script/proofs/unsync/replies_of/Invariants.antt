use Rattle.std.proofs.Common.{◌≡◌, ℕ, List, ◌++◌}
use Rattle.std.specs.Prelude.{IsTrue}
use Rattle.std.specs.List.{AllByRecursion}
use Rattle.std.specs.Vec.Iter.{into_iter_items}
use Rattle.moka_grammar.specs.declared.line.Mode.TheVariants.{Unsync}
use Rattle.moka_grammar.specs.Lines.{allows}
use Rattle.moka_script.specs.Reply.{Ready, reply_line}
use Rattle.moka_script.specs.ScriptWeighers.{AnswersLine}
use Rattle.moka_script.specs.UnsyncRun.{AreUnsyncReplies}
use Rattle.moka_script.proofs.unsync.replies_of.Given as goal

-- the weigher may be asked and answers the lines to come, which are the cache's,
-- and what answers them makes the text so far answer all lines
abbrev pub invariant-loop-line : goal.invariant-loop-line
invariant-loop-line g l = record {
  ready : g.W.Weigh.ready l.cache.weigher;
  weighs : AllByRecursion (AnswersLine g.W.Weigh.weighs) (into_iter_items l.line-iterator);
  allowed : AllByRecursion (λ line. IsTrue (allows Unsync line.request)) (into_iter_items l.line-iterator);
  answered : (rest : List ℕ) → AreUnsyncReplies l.cache (into_iter_items l.line-iterator) rest
      → (replies : List ℕ) × AreUnsyncReplies l.fn.cache l.fn.lines.items replies × (l.text.items ++ rest ≡ reply_line Ready ++ replies);
}
