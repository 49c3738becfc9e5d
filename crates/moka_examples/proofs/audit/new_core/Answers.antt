use Rattle.std.proofs.Common.{ap, sym, ◌∙◌}
use Rattle.mini_moka.specs.Sync.CoreState.{new_core}
use Rattle.moka_examples.proofs.audit.new_core.Goals as goal

pub returns : goal.returns
returns c =
    let is = c.in_ok-new.ensures.ok in
    (0, is ∙ ap (λ settings. new_core settings 0) (sym (ap (λ core. core.settings) is)))
