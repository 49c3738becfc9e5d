use Rattle.std.proofs.Common.{◌≡◌, length, IfOk, subst}
use Rattle.moka_record.specs.Passes.{made_by}
use Rattle.moka_record.proofs.recorded.Recorded.close.Goals as goal

pub returns-clause-made : goal.returns-clause-made
returns-clause-made g c =
    subst (λ passes. IfOk c.close.result (λ kept. length kept.state.calls ≡ made_by passes)) c.deref.ensures.value c.close.ensures.made
