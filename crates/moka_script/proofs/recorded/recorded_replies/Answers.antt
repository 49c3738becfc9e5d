use Rattle.std.proofs.Common.{true, false, sym}
use Rattle.moka_grammar.specs.declared.line.Mode.TheVariants.{Recorded}
use Rattle.moka_record.specs.Record.{new_record}
use Rattle.moka_script.specs.FirstCore.{weighs_of}
use Rattle.moka_script.specs.RecordedRun.{AreReplies}
use Rattle.moka_script.proofs.UnsyncRunLemmas.{each_allowed}
use Rattle.moka_script.proofs.FirstCoreLemmas.{first_answers, first_is_new}
use Rattle.moka_script.proofs.recorded.recorded_replies.Goals as goal

pub replies_of-requires-clause-allowed : goal.replies_of-requires-clause-allowed
replies_of-requires-clause-allowed g c = each_allowed c.args.header Recorded c.requires.mode c.args.lines.items c.requires.lines

pub replies_of-requires-clause-new : goal.replies_of-requires-clause-new
replies_of-requires-clause-new g c = first_is_new c.args.header.options _ c.in-Ok.ensures.first

pub returns-in-Ok : goal.returns-in-Ok
returns-in-Ok g c =
    first_answers c.args.header.options
    (λ weighed core replies. AreReplies g.row.A.Denot (weighs_of weighed) (new_record core) c.args.lines.items replies)
    (λ text. text.items) c.replies_of.result true c.in-Ok.core.state (sym c.if-header.true) c.in-Ok.ensures.legal c.in-Ok.ensures.first
    c.replies_of.ensures

pub replies_of-requires-in-Ok-first_core-clause-allowed : goal.replies_of-requires-in-Ok-first_core-clause-allowed
replies_of-requires-in-Ok-first_core-clause-allowed g c =
    each_allowed c.args.header Recorded c.requires.mode c.args.lines.items c.requires.lines

pub replies_of-requires-in-Ok-first_core-clause-new : goal.replies_of-requires-in-Ok-first_core-clause-new
replies_of-requires-in-Ok-first_core-clause-new g c = first_is_new c.args.header.options _ c.in-Ok-first_core.ensures.first

pub returns-in-Ok-first_core : goal.returns-in-Ok-first_core
returns-in-Ok-first_core g c =
    let first = c.in-Ok-first_core.ensures in
    first_answers c.args.header.options
    (λ weighed core replies. AreReplies g.row.A.Denot (weighs_of weighed) (new_record core) c.args.lines.items replies)
    (λ text. text.items) c.replies_of-in-Ok-first_core.result false c.in-Ok-first_core.core.state (sym c.if-header.false)
    first.legal first.first c.replies_of-in-Ok-first_core.ensures
