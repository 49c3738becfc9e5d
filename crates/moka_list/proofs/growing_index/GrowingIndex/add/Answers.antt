use Rattle.std.proofs.Common.{◌≡◌, ◌∙◌, false, true, subst, sym}
use Rattle.moka_list.specs.Moving.{is_smaller}
use Rattle.moka_list.specs.GrowingIndex.{Adds, is_candidate}
use Rattle.moka_list.proofs.GrowingLemmas.{added_smaller, in_smaller, shown_of}
use Rattle.moka_list.proofs.growing_index.GrowingIndex.add.Goals as goal

pub add-requires-clause-absent : goal.add-requires-clause-absent
add-requires-clause-absent g c =
    λ other.
    let absent = subst (λ v. is_candidate v other c.args.id ≡ false) (sym c.self.view_is) (c.requires.absent other) in
    let smaller =
    subst (λ v. is_smaller v.next v.smaller.ids c.args.id ≡ true) (sym c.self.view_is) (sym c.is_smaller.ensures ∙ c.if-is_smaller.true) in
    sym (in_smaller c.self.invariant c.args.id other smaller) ∙ absent

pub returns-then-is_smaller : goal.returns-then-is_smaller
returns-then-is_smaller g c =
    let it = c.self.inside in
    let smaller =
    subst (λ v. is_smaller v.next v.smaller.ids c.args.id ≡ true) (sym c.self.view_is) (sym c.is_smaller.ensures ∙ c.if-is_smaller.true) in
    record {
      step = subst (λ v. Adds v c.args.id c.args.hash (shown_of it.table c.add.new.self it.next)) c.self.view_is
          (added_smaller c.self.invariant c.args.id c.args.hash c.add.new.self smaller c.add.ensures.step).1;
    }
