use Rattle.moka_common.proofs.SketchLemmas.{index_below, place_is}
use Rattle.moka_common.proofs.frequency_sketch.cells.index_of.Goals as goal

pub returns-clause-value : goal.returns-clause-value
returns-clause-value c = place_is c.args.len c.args.hash c.args.depth c.requires.len

pub returns-clause-within : goal.returns-clause-within
returns-clause-within c =
    rw (place_is c.args.len c.args.hash c.args.depth c.requires.len) (index_below c.args.len c.args.hash c.args.depth c.requires.len)
