use Rattle.std.proofs.Common.{◌∙◌, rules, sym}
use Rattle.moka_script.proofs.UnsyncRunLemmas.{stored_modified}
use Rattle.moka_script.proofs.unsync.modify.Goals as goal

pub returns-clause-step : goal.returns-clause-step
returns-clause-step g c =
    stored_modified g.W.Weigh.weighs _ c.args.cache.now c.modify.new.self c.args.key c.args.stored c.args.now c.modify.result c.requires.weighs
    (λ before after changed. sym changed.leaves ∙ (search rules)) c.modify.ensures.step
