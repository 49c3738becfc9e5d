use Rattle.std.proofs.Common.{rules}
use Rattle.moka_script.proofs.CoreRunLemmas.{last_step}
use Rattle.moka_script.proofs.core_lines.step.Goals as goal

pub returns-clause-step : goal.returns-clause-step
returns-clause-step g c =
    last_step _ _ _ _ _ c.args.event _ c.pop.new.self.items c.in-Some.reply c.in_ok-replies.ensures.ok (search rules) (search rules)
