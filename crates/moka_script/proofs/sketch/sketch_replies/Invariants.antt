use Rattle.std.proofs.Common.{ℕ, ◌<◌, List, ◌++◌}
use Rattle.std.specs.List.{AllByRecursion}
use Rattle.std.specs.Vec.Iter.{into_iter_items}
use Rattle.moka_common.specs.SketchCapacity.{table_len}
use Rattle.moka_grammar.specs.SketchLines.{SketchFits}
use Rattle.moka_script.specs.SketchRun.{AreSketchReplies, AreSketchReplyLines}
use Rattle.moka_script.proofs.sketch.sketch_replies.Given as goal

-- there is a table, the lines to come fit, and what answers them makes the text so far answer all lines
abbrev pub invariant-loop-line : goal.invariant-loop-line
invariant-loop-line g l = record {
  table : 0 < table_len l.sketch;
  fit : AllByRecursion SketchFits (into_iter_items l.line-iterator);
  answered : (rest : List ℕ) → AreSketchReplies l.sketch (into_iter_items l.line-iterator) rest
      → AreSketchReplyLines l.cap l.fn.lines.items (l.text.items ++ rest);
}
