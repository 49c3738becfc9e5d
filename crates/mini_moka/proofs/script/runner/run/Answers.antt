use Rattle.std.proofs.Common.{◌≡◌, subst, ap, ◌∙◌, Err}
use Rattle.std.proofs.lemmas.Result.{err_from_is_err_and}
use Rattle.mini_moka.specs.declared.script.runner.ScriptError.TheVariants.{Write}
use Rattle.mini_moka.specs.ScriptRun.{IsRunOf}
use Rattle.mini_moka.proofs.RunnerLemmas.{run_ends, run_breaks}
use Rattle.mini_moka.proofs.script.runner.run.Goals as goal

pub returns-clause-ends : goal.returns-clause-ends
returns-clause-ends g c =
    run_ends _ _ _ _ c.in_ok-bytes.bytes.items _ _ c.in_ok-bytes.ensures.ok
    (subst (λ b. IsRunOf g.row.A.Denot b c.in_ok-end.end c.in_ok-end.text.items) c.deref.ensures.value c.in_ok-end.ensures)
    (rw c.deref-2.ensures.value at c.in_ok-write_all.ensures.ok)

pub returns-in_err-write_all-clause-ends : goal.returns-in_err-write_all-clause-ends
returns-in_err-write_all-clause-ends g c =
    let residual = c.from_residual-in_err-write_all in
    let p = err_from_is_err_and residual.result residual.ensures.1 in
    let failed : residual.result ≡ Err Write = p.1 ∙ ap Err p.2 in
    rw failed (run_breaks _ _ _ _ c.in_ok-bytes.bytes.items _ _ c.in_ok-bytes.ensures.ok
    (subst (λ b. IsRunOf g.row.A.Denot b c.in_ok-end.end c.in_ok-end.text.items) c.deref.ensures.value c.in_ok-end.ensures)
    (rw c.deref-2.ensures.value at c.in_err-write_all.ensures.err))
