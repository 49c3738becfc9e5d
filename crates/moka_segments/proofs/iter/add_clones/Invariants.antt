use Rattle.std.proofs.Common.{◌≡◌, ◌++◌, List}
use Rattle.std.specs.List.{AppendsClones}
use Rattle.moka_segments.specs.TellsAll.{IsPairClone}
use Rattle.moka_segments.proofs.iter.add_clones.Given as goal

abbrev pub invariant-loop-key : goal.invariant-loop-key
invariant-loop-key g l =
    (done : List (g.row.K.Denot × g.row.V.Denot)) × (done ++ l.key-iterator ≡ l.fn.entries)
    × AppendsClones (IsPairClone g.K.Clone.is_clone g.V.Clone.is_clone) l.fn.pairs.items l.pairs.items done
