use Rattle.std.proofs.Common.{subst, Option}
use Rattle.moka_common.specs.Sketch.{IsSketch, Table}
use Rattle.moka_common.proofs.UnpackedLemmas.{unpacked_is}
use Rattle.moka_common.proofs.frequency_sketch.FrequencySketch.table_len.Goals as goal

pub returns-clause-sketch : goal.returns-clause-sketch
returns-clause-sketch g c =
    let P : Option Table → Type 0 = IsSketch in
    subst P c.self.view_is (unpacked_is c.self.inside.table.items c.self.inside.sample_size c.self.inside.size c.self.invariant)
