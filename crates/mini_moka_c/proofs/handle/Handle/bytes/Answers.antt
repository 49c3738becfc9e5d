use Rattle.std.proofs.Common.{◌≡◌, ◌∙◌, ap, inr, refl, subst, sym}
use Rattle.std.specs.declared.option.Option.TheVariants.{Some}
use Rattle.mini_moka_c.specs.HandleLends.{KeepsNoBytes}
use Rattle.mini_moka_c.proofs.HandleLemmas.{with_kept_same}
use Rattle.mini_moka_c.proofs.handle.Handle.bytes.Goals as goal

pub returns-in-Some-Numbers : goal.returns-in-Some-Numbers
returns-in-Some-Numbers c =
    let lent = c.in-Some-Numbers.field-0 in let is : c.args.self.now.value ≡ Some lent.now = c.in-Some-Numbers.ensures.value in
    let status = subst (λ kept. KeepsNoBytes kept 5) (sym (is ∙ ap Some c.in-Some-Numbers.field-0-is)) refl in
    (ap inr (with_kept_same c.args.self.now lent.now is), record { writes_back = tt; ok = tt; err = status })
