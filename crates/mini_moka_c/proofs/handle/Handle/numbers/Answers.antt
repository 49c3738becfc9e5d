use Rattle.std.proofs.Common.{◌≡◌, ◌∙◌, ap, inr, refl, subst, sym}
use Rattle.std.specs.declared.option.Option.TheVariants.{Some}
use Rattle.mini_moka_c.specs.HandleLends.{KeepsNoNumbers}
use Rattle.mini_moka_c.proofs.HandleLemmas.{with_kept_same}
use Rattle.mini_moka_c.proofs.handle.Handle.numbers.Goals as goal

pub returns-in-Some-Bytes : goal.returns-in-Some-Bytes
returns-in-Some-Bytes c =
    let lent = c.in-Some-Bytes.field-0 in let is : c.args.self.now.value ≡ Some lent.now = c.in-Some-Bytes.ensures.value in
    let status = subst (λ kept. KeepsNoNumbers kept 5) (sym (is ∙ ap Some c.in-Some-Bytes.field-0-is)) refl in
    (ap inr (with_kept_same c.args.self.now lent.now is), record { writes_back = tt; ok = tt; err = status })
