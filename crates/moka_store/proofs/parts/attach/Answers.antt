use Rattle.std.proofs.Common.{◌≡◌, ◌≢◌, ◌∙◌, sym, subst, ap, nat_eq, refl, Option, None, Some, is_some, false, IfSome}
use Rattle.std.proofs.lemmas.Bool.{false≢true}
use Rattle.std.specs.Map.{remove_entry}
use Rattle.moka_list.specs.Nodes.{IsIn}
use Rattle.moka_list.proofs.IdLemmas.{IsDistinct-removed, some_parts}
use Rattle.moka_list.proofs.ItemLemmas.{moved_to_back-last}
use Rattle.moka_list.proofs.InsertedLemmas.{apart_from_distinct}
use Rattle.moka_store.specs.Nodes.{AreMarks, behind, latest_node, moved, with_mark}
use Rattle.moka_store.proofs.MarkLemmas.{behind-first, marks-joined, moved-latest, next_is}
use Rattle.moka_store.proofs.parts.attach.Goals as goal

pub move_before-requires-clause-next : goal.move_before-requires-clause-next
move_before-requires-clause-next g c =
    let (e, stood, is) = c.requires.here in
    let items = c.args.entries.now.items in
    (subst (λ o. IfSome o (λ n. IsIn items n × (c.args.id ≢ n))) c.in-Some.is
    (next_is c.args.id e items c.requires.once stood c.join.result
    (c.join.ensures.next ∙ (ap (λ p. behind p c.args.marks.now) (sym is)
    ∙ behind-first e.part (remove_entry (nat_eq c.args.id) items) c.args.marks.now c.requires.marked)))).0

pub move_before-requires-clause-apart : goal.move_before-requires-clause-apart
move_before-requires-clause-apart g c =
    let (e, stood, is) = c.requires.here in
    let items = c.args.entries.now.items in
    (subst (λ o. IfSome o (λ n. IsIn items n × (c.args.id ≢ n))) c.in-Some.is
    (next_is c.args.id e items c.requires.once stood c.join.result
    (c.join.ensures.next ∙ (ap (λ p. behind p c.args.marks.now) (sym is)
    ∙ behind-first e.part (remove_entry (nat_eq c.args.id) items) c.args.marks.now c.requires.marked)))).1

pub returns-in-Some-clause-items : goal.returns-in-Some-clause-items
returns-in-Some-clause-items g c e stood =
    let (x, at, is) = c.requires.here in
    let same = some_parts e x (sym stood ∙ at) in
    c.move_before.ensures.items ∙ (ap (λ o. moved c.args.id o c.args.entries.now.items) (sym c.in-Some.is)
    ∙ moved-latest c.args.id e c.args.entries.now.items c.requires.once stood c.join.result
    (c.join.ensures.next ∙ (ap (λ p. behind p c.args.marks.now) (sym (ap (λ y. y.part) same ∙ is))
    ∙ behind-first e.part (remove_entry (nat_eq c.args.id) c.args.entries.now.items) c.args.marks.now c.requires.marked)))

pub returns-in-Some-clause-marks : goal.returns-in-Some-clause-marks
returns-in-Some-clause-marks g c =
    let (e, stood, is) = c.requires.here in
    let rest = remove_entry (nat_eq c.args.id) c.args.entries.now.items in
    let apart = apart_from_distinct rest (IsDistinct-removed c.args.id c.args.entries.now.items c.requires.once) in
    subst (λ l. AreMarks l c.join.new.self) (sym (returns-in-Some-clause-items g c e stood))
    (subst (AreMarks (latest_node (c.args.id, e) rest)) (sym (c.join.ensures.marks ∙ ap (λ p. with_mark c.args.id p c.args.marks.now) (sym is)))
    (marks-joined c.args.id e rest c.args.marks.now apart c.requires.marked))

none_is : {X : Type 0} (o : Option X) → is_some o ≡ false → o ≡ None
none_is None h = refl
none_is (Some x) h = absurd (false≢true (sym h))

pub returns-then-is_some-clause-items : goal.returns-then-is_some-clause-items
returns-then-is_some-clause-items g c e stood =
    let (x, at, is) = c.requires.here in
    let same = some_parts e x (sym stood ∙ at) in
    c.move_to_back.ensures.items ∙ (ap (λ o. moved c.args.id o c.args.entries.now.items) (sym c.in-None.is)
    ∙ moved-latest c.args.id e c.args.entries.now.items c.requires.once stood c.join.result
    (c.join.ensures.next ∙ (ap (λ p. behind p c.args.marks.now) (sym (ap (λ y. y.part) same ∙ is))
    ∙ behind-first e.part (remove_entry (nat_eq c.args.id) c.args.entries.now.items) c.args.marks.now c.requires.marked)))

pub returns-then-is_some-clause-marks : goal.returns-then-is_some-clause-marks
returns-then-is_some-clause-marks g c =
    let (e, stood, is) = c.requires.here in
    let rest = remove_entry (nat_eq c.args.id) c.args.entries.now.items in
    let apart = apart_from_distinct rest (IsDistinct-removed c.args.id c.args.entries.now.items c.requires.once) in
    subst (λ l. AreMarks l c.join.new.self) (sym (returns-then-is_some-clause-items g c e stood))
    (subst (AreMarks (latest_node (c.args.id, e) rest)) (sym (c.join.ensures.marks ∙ ap (λ p. with_mark c.args.id p c.args.marks.now) (sym is)))
    (marks-joined c.args.id e rest c.args.marks.now apart c.requires.marked))

pub returns-else-is_some-clause-items : goal.returns-else-is_some-clause-items
returns-else-is_some-clause-items g c e stood =
    let (x, at, is) = c.requires.here in
    let same = some_parts e x (sym stood ∙ at) in
    sym (moved_to_back-last c.args.id c.args.entries.now.items
    (sym c.next.ensures ∙ none_is c.next.result (sym c.is_some.ensures ∙ c.if-is_some.false)))
    ∙ (ap (λ o. moved c.args.id o c.args.entries.now.items) (sym c.in-None.is)
    ∙ moved-latest c.args.id e c.args.entries.now.items c.requires.once stood c.join.result
    (c.join.ensures.next ∙ (ap (λ p. behind p c.args.marks.now) (sym (ap (λ y. y.part) same ∙ is))
    ∙ behind-first e.part (remove_entry (nat_eq c.args.id) c.args.entries.now.items) c.args.marks.now c.requires.marked)))

pub returns-else-is_some-clause-marks : goal.returns-else-is_some-clause-marks
returns-else-is_some-clause-marks g c =
    let (e, stood, is) = c.requires.here in
    let rest = remove_entry (nat_eq c.args.id) c.args.entries.now.items in
    let apart = apart_from_distinct rest (IsDistinct-removed c.args.id c.args.entries.now.items c.requires.once) in
    subst (λ l. AreMarks l c.join.new.self) (sym (returns-else-is_some-clause-items g c e stood))
    (subst (AreMarks (latest_node (c.args.id, e) rest)) (sym (c.join.ensures.marks ∙ ap (λ p. with_mark c.args.id p c.args.marks.now) (sym is)))
    (marks-joined c.args.id e rest c.args.marks.now apart c.requires.marked))
