use Rattle.std.proofs.Common.{sym, ◌∙◌, ap, Some}
use Rattle.moka_grammar.proofs.CutLemmas.{cut-some, cut-none}
use Rattle.moka_grammar.proofs.parser.cut.Goals as goal

pub returns-in_err-end : goal.returns-in_err-end
returns-in_err-end c = rw c.from_residual.ensures (sym (cut-none c.args.bytes.now (sym c.in_err-end.ensures)))

pub returns : goal.returns
returns c =
    ap (λ l. Some (c.split_at.result.0.now, l)) c.split_at-2.ensures.back
    ∙ sym (cut-some c.args.bytes.now c.in_ok-end.end _ _ (sym c.in_ok-end.ensures) c.split_at.ensures.front c.split_at.ensures.back)
