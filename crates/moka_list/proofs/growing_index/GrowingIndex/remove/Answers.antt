use Rattle.std.proofs.Common.{◌≡◌, ◌∙◌, false, true, subst, sym}
use Rattle.moka_list.specs.Moving.{is_smaller}
use Rattle.moka_list.specs.GrowingIndex.{Removes, is_candidate}
use Rattle.moka_list.proofs.GrowingLemmas.{in_larger, in_smaller, removed_larger, removed_smaller, shown_of}
use Rattle.moka_list.proofs.growing_index.GrowingIndex.remove.Goals as goal

pub remove-requires : goal.remove-requires
remove-requires g c =
    let smaller = subst (λ v. is_smaller v.next v.smaller.ids c.args.id ≡ true) (sym c.self.view_is) (sym c.is_smaller.ensures ∙ c.if-is_smaller.true) in
    sym (in_smaller c.self.invariant c.args.id c.args.hash smaller)
    ∙ subst (λ v. is_candidate v c.args.hash c.args.id ≡ true) (sym c.self.view_is) c.requires

pub remove-requires-else-is_smaller : goal.remove-requires-else-is_smaller
remove-requires-else-is_smaller g c =
    let larger = subst (λ v. is_smaller v.next v.smaller.ids c.args.id ≡ false) (sym c.self.view_is) (sym c.is_smaller.ensures ∙ c.if-is_smaller.false) in
    sym (in_larger c.self.invariant c.args.id c.args.hash larger)
    ∙ subst (λ v. is_candidate v c.args.hash c.args.id ≡ true) (sym c.self.view_is) c.requires

pub returns-then-is_smaller : goal.returns-then-is_smaller
returns-then-is_smaller g c =
    let smaller = subst (λ v. is_smaller v.next v.smaller.ids c.args.id ≡ true) (sym c.self.view_is) (sym c.is_smaller.ensures ∙ c.if-is_smaller.true) in
    let it = c.self.inside in
    record {
      step = subst (λ v. Removes v c.args.id (shown_of it.table c.remove.new.self it.next)) c.self.view_is
          (removed_smaller c.self.invariant c.args.id c.remove.new.self smaller c.remove.ensures.step).1;
    }

pub returns-else-is_smaller : goal.returns-else-is_smaller
returns-else-is_smaller g c =
    let larger = subst (λ v. is_smaller v.next v.smaller.ids c.args.id ≡ false) (sym c.self.view_is) (sym c.is_smaller.ensures ∙ c.if-is_smaller.false) in
    let it = c.self.inside in
    record {
      step = subst (λ v. Removes v c.args.id (shown_of c.remove-else-is_smaller.new.self it.smaller it.next)) c.self.view_is
          (removed_larger c.self.invariant c.args.id c.remove-else-is_smaller.new.self larger c.remove-else-is_smaller.ensures.step).1;
    }
