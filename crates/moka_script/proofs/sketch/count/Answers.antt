use Rattle.std.proofs.Common.{Option, sym, ap, ◌∙◌}
use Rattle.moka_common.specs.Sketch.{Table, after_increment}
use Rattle.moka_common.specs.SketchCapacity.{table_len}
use Rattle.moka_script.proofs.SketchRunLemmas.{iterate-more, table_len-increments}
use Rattle.moka_script.proofs.sketch.count.Goals as goal

pub loop-preserved : goal.loop-preserved
loop-preserved g c =
    let counted = λ (s : Option Table). after_increment s c.args.hash in
    c.increment.ensures.step ∙ ap counted c.loop.invariant ∙ sym (iterate-more counted c.loop.counter c.args.sketch.now)

pub returns-clause-table : goal.returns-clause-table
returns-clause-table g c = ap table_len c.loop.invariant ∙ table_len-increments c.args.hash c.loop.counter c.args.sketch.now
