use Rattle.std.proofs.Common.{true, false, sym}
use Rattle.moka_script.specs.CoreRun.{AreReplies}
use Rattle.moka_script.specs.FirstCore.{weighs_of}
use Rattle.moka_script.proofs.FirstCoreLemmas.{first_answers}
use Rattle.moka_script.proofs.core_lines.core_replies.Goals as goal

pub returns-in-Ok : goal.returns-in-Ok
returns-in-Ok g c =
    first_answers c.args.options (λ weighed core replies. AreReplies (weighs_of weighed) core c.args.lines.items replies)
    (λ text. text.items) c.replies_of.result true c.in-Ok.core.state (sym c.if-options.true) c.in-Ok.ensures.legal c.in-Ok.ensures.first
    c.replies_of.ensures

pub returns-in-Ok-first_core : goal.returns-in-Ok-first_core
returns-in-Ok-first_core g c =
    let first = c.in-Ok-first_core.ensures in
    first_answers c.args.options (λ weighed core replies. AreReplies (weighs_of weighed) core c.args.lines.items replies)
    (λ text. text.items) c.replies_of-in-Ok-first_core.result false c.in-Ok-first_core.core.state (sym c.if-options.false)
    first.legal first.first c.replies_of-in-Ok-first_core.ensures
