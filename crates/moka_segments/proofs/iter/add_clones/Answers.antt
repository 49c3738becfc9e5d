use Rattle.std.proofs.Common.{◌≡◌, ◌∙◌, ◌++◌, [], ◌∷◌, ap, sym, subst}
use Rattle.std.proofs.lemmas.List.{append-nil, append_assoc}
use Rattle.std.specs.List.{AllZip}
use Rattle.std.proofs.lemmas.Slice.Zip.{all_zipped_more}
use Rattle.moka_segments.specs.TellsAll.{IsPairClone}
use Rattle.moka_segments.proofs.iter.add_clones.Goals as goal

pub loop-key-init : goal.loop-key-init
loop-key-init g c = ([], c.into_iter-key-iterator.ensures.into_iter_gives, ([], sym (append-nil c.args.pairs.now.items), tt))

pub loop-key-preserved : goal.loop-key-preserved
loop-key-preserved g c =
    let i = c.loop-key.invariant in
    let pair : g.row.K.Denot × g.row.V.Denot = (c.in-Some.key.now, c.in-Some.value.now) in (
      i.0 ++ pair ∷ [],
      append_assoc i.0 (pair ∷ []) c.next.new.self ∙ ap (λ l. i.0 ++ l) (sym c.in-Some.ensures.steps) ∙ i.1,
      (
        i.2.0 ++ (c.in_ok-clone.field-0, c.in_ok-clone-2.field-0) ∷ [],
        c.in_ok-push.ensures.items ∙ ap (λ l. l ++ (c.in_ok-clone.field-0, c.in_ok-clone-2.field-0) ∷ []) i.2.1 ∙ append_assoc c.args.pairs.now.items i.2.0 _,
        all_zipped_more (IsPairClone g.K.Clone.is_clone g.V.Clone.is_clone) i.0 i.2.0 _ _ i.2.2 (c.in_ok-clone.ensures.cases, c.in_ok-clone-2.ensures.cases),
      ),
    )

pub returns : goal.returns
returns g c =
    let i = c.loop-key.invariant in
    let whole : i.0 ≡ c.args.entries = sym (append-nil i.0) ∙ ap (λ l. i.0 ++ l) (sym c.in-None.ensures.steps.0) ∙ i.1 in
    (i.2.0, i.2.1, subst (λ l. AllZip (IsPairClone g.K.Clone.is_clone g.V.Clone.is_clone) l i.2.0) whole i.2.2)
