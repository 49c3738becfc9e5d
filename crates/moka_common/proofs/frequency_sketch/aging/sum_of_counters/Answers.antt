use Rattle.std.proofs.Common.{◌∙◌, ap}
use lib.Lanes.{fold_l}
use Rattle.moka_common.proofs.LaneLemmas.{added}
use Rattle.moka_common.proofs.CounterSumLemmas.{sum_of_group_sums, group_sums_of_lanes}
use Rattle.moka_common.proofs.frequency_sketch.aging.sum_of_counters.Goals as goal

pub returns : goal.returns
returns c =
    c.from.ensures
    ∙ ap (fold_l added 0) (group_sums_of_lanes c.args.groups c.fits-groups.0) ∙ sum_of_group_sums c.args.groups c.fits-groups.0
