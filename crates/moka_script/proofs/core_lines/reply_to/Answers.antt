use Rattle.std.proofs.Common.{refl, sym, ap, ◌∙◌}
use Rattle.moka_script.specs.declared.core_lines.Action.TheVariants.{Count, Weigh}
use Rattle.moka_script.specs.Reply.{Number}
use Rattle.moka_script.proofs.CoreRunLemmas.{told_so}
use Rattle.moka_script.proofs.core_lines.reply_to.Goals as goal

pub returns-in_ok-push_reply-in-Count-clause-step : goal.returns-in_ok-push_reply-in-Count-clause-step
returns-in_ok-push_reply-in-Count-clause-step g c =
    let charged = c.in_ok-count-in-Count in
    told_so (g.W.WeighShared.weighs c.args.core.now.weigher) c.args.core.now.state c.charged.new.core.state _ Count
    (Number charged.count) _ _ (sym c.in-Count.is ∙ c.in_ok-event.ensures)
    (charged.count, charged.field-0-1, charged.ensures.step, refl) c.in_ok-push_reply-in-Count.ensures

pub returns-in_ok-push_reply-in-Weigh-clause-step : goal.returns-in_ok-push_reply-in-Weigh-clause-step
returns-in_ok-push_reply-in-Weigh-clause-step g c =
    let charged = c.in_ok-weight-in-Weigh in
    told_so (g.W.WeighShared.weighs c.args.core.now.weigher) c.args.core.now.state c.charged-in-Weigh.new.core.state _ Weigh
    (Number c.told_weight.result) _ _ (sym c.in-Weigh.is ∙ c.in_ok-event.ensures)
    (charged.field-0-0, charged.weight, charged.ensures.step, ap Number c.told_weight.ensures) c.in_ok-push_reply-in-Weigh.ensures
