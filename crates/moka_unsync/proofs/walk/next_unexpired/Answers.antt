use Rattle.std.proofs.Common.{◌≡◌, ◌∙◌, ◌<◌, ◌∷◌, Option, Some, ap, length, not, option_copied, refl, subst, sym}
use Rattle.std.proofs.lemmas.Bool.{cond-false, cond-true}
use Rattle.std.specs.Map.{values_of}
use Rattle.moka_list.specs.Nodes.{next_id}
use Rattle.moka_list.proofs.WalkLemmas.{fewer_behind, from_next, from_node, from_none, next_is_in}
use Rattle.moka_unsync_model.specs.declared.entry.Entry.{Entry}
use Rattle.moka_unsync_model.specs.Iterate.{first_unexpired}
use Rattle.moka_unsync_model.specs.Cleanup.{is_expired}
use Rattle.moka_unsync.proofs.BehindLemmas.{behind_absent, found_behind}
use Rattle.moka_store.specs.Store.{entries_of}
use Rattle.moka_unsync.proofs.walk.next_unexpired.Given.{Over}
use Rattle.moka_unsync.proofs.walk.next_unexpired.Goals.{After-is_expired}
use Rattle.moka_unsync.proofs.walk.next_unexpired.Goals as goal

pub returns-in_err-find : goal.returns-in_err-find
returns-in_err-find g c =
    ap option_copied c.from_residual.ensures
    ∙ sym (ap (first_unexpired c.args.bounds.now c.args.now)
    (behind_absent g.K.PartialEq.eq c.args.key.now (entries_of c.args.store.now) (c.in_err-find.ensures.absent refl)))

pub loop-here-init : goal.loop-here-init
loop-here-init g c =
    let nodes = c.args.store.now.nodes in (
      rw c.next-here.ensures.value (next_is_in c.in_ok-find.field-0 nodes),
      sym (ap (first_unexpired c.args.bounds.now c.args.now)
          (ap (λ o. values_of (from_node o nodes)) c.next-here.ensures.value
          ∙ found_behind g.K.PartialEq.eq g.met.K.Eq.laws c.args.store.now c.args.key.now c.in_ok-find.field-0 c.in_ok-find.ensures.found
          c.next-here.ensures.distinct c.next-here.ensures.once)),
    )

-- the first unexpired entry from here on is the one at hand, or one behind it
at_hand : (g : Over) (c : After-is_expired g)
    → first_unexpired c.args.bounds.now c.args.now (values_of (from_node c.loop-here.here c.args.store.now.nodes))
    ≡ first_unexpired c.args.bounds.now c.args.now
    (c.get-entry.result.now ∷ values_of (from_node (next_id c.in-Some.id c.args.store.now.nodes) c.args.store.now.nodes))
at_hand g c =
    let nodes = c.args.store.now.nodes in
    ap (λ l. first_unexpired c.args.bounds.now c.args.now (values_of l))
    (ap (λ o. from_node o nodes) c.in-Some.is
    ∙ from_next c.in-Some.id c.get-entry.result.now nodes c.next-here.ensures.distinct c.get-entry.ensures)

-- what is first unexpired behind the one at hand
abbrev behind : (g : Over) (c : After-is_expired g) → Option (Entry g.row.K.Denot g.row.V.Denot)
behind g c =
    first_unexpired c.args.bounds.now c.args.now
    (values_of (from_node (next_id c.in-Some.id c.args.store.now.nodes) c.args.store.now.nodes))

pub returns-then-not-is_expired : goal.returns-then-not-is_expired
returns-then-not-is_expired g c =
    let at = (goal.at.returns-then-not-is_expired g c).After-is_expired in
    sym (c.loop-here.invariant.1
    ∙ (at_hand g at
    ∙ cond-true (not (is_expired c.args.bounds.now c.args.now c.get-entry.result.now)) (Some c.get-entry.result.now) (behind g at)
    (ap not (sym c.is_expired.ensures ∙ c.if-not-is_expired.true))))

pub loop-here-smaller : goal.loop-here-smaller
loop-here-smaller g c =
    let nodes = c.args.store.now.nodes in
    subst (λ o. length (from_node o nodes) < length (from_node c.loop-here.here nodes)) (sym c.next-here-in-Some.ensures.value)
    (subst (λ o. length (from_node (next_id c.in-Some.id nodes) nodes) < length (from_node o nodes)) (sym c.in-Some.is)
    (fewer_behind c.in-Some.id c.get-entry.result.now nodes c.next-here.ensures.distinct c.get-entry.ensures))

pub loop-here-preserved : goal.loop-here-preserved
loop-here-preserved g c =
    let nodes = c.args.store.now.nodes in
    let at = (goal.at.loop-here-preserved g c).After-is_expired in (
      rw c.next-here-in-Some.ensures.value (next_is_in c.in-Some.id nodes),
      c.loop-here.invariant.1
          ∙ (at_hand g at
          ∙ (cond-false (not (is_expired c.args.bounds.now c.args.now c.get-entry.result.now)) (Some c.get-entry.result.now) (behind g at)
          (ap not (sym c.is_expired.ensures ∙ c.if-not-is_expired.false))
          ∙ ap (λ o. first_unexpired c.args.bounds.now c.args.now (values_of (from_node o nodes))) (sym c.next-here-in-Some.ensures.value))),
    )

pub returns : goal.returns
returns g c =
    let nodes = c.args.store.now.nodes in
    sym (c.loop-here.invariant.1
    ∙ (ap (λ o. first_unexpired c.args.bounds.now c.args.now (values_of (from_node o nodes))) c.in_default.is
    ∙ ap (λ l. first_unexpired c.args.bounds.now c.args.now (values_of l)) (from_none nodes)))
