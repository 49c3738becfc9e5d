use Rattle.std.proofs.Common.{◌∙◌, ◌+◌, ◌*◌, ◌/◌, ◌%◌, sym}
use Rattle.moka_unsync_model.proofs.PartLemmas.{hundredths-split}
use Rattle.moka_unsync.proofs.part_limits.hundredths.Goals as goal

pub returns-clause-value : goal.returns-clause-value
returns-clause-value c =
    (λ i. c.args.weight / 100 * c.from-share.ensures i + c.args.weight % 100 * c.from-share.ensures i / 100)
    ∙ sym (hundredths-split c.args.share c.args.weight)
