use Rattle.std.proofs.Common.{◌≡◌, ◌∙◌, ◌+◌, ◌<◌, arith, length, ap, rules, subst, sym}
use Rattle.std.specs.Prelude.{slice_set}
use Rattle.std.proofs.lemmas.List.{get_or_read}
use Rattle.moka_list.specs.HashIndex.{after, group_at}
use Rattle.moka_list.specs.Probed.{CountsWay}
use Rattle.moka_list.proofs.StandsLemmas.{walk_below}
use Rattle.moka_list.proofs.CountLemmas.{counts_on, next_same, walk_last}
use Rattle.moka_list.proofs.table.count.Goals as goal

pub index_mut-requires : goal.index_mut-requires
index_mut-requires g c =
    let n = length c.args.groups.now.items in
    let near : c.loop-step.step < n = omega (arith, c.loop-step-test.true, c.requires.near) in
    let below : c.loop-step.at < length c.loop-step.groups.items =
    subst (λ m. c.loop-step.at < m) (sym c.loop-step.invariant.2.len)
    (subst (λ a. a < n) (sym c.loop-step.invariant.0) (walk_below n c.args.home c.loop-step.step c.requires.inside near)) in
    search rules

pub overflow_add-index_mut : goal.overflow_add-index_mut
overflow_add-index_mut g c =
    let old = c.args.groups.now.items in let now = c.loop-step.groups.items in let n = length old in let at = c.loop-step.at in
    let near : c.loop-step.step < n = omega (arith, c.loop-step-test.true, c.requires.near) in
    let below : at < length now =
    subst (λ m. at < m) (sym c.loop-step.invariant.2.len)
    (subst (λ a. a < n) (sym c.loop-step.invariant.0) (walk_below n c.args.home c.loop-step.step c.requires.inside near)) in
    let group : c.index_mut.result.now.passed ≡ (group_at now at).passed =
    ap (λ h. h.passed) (get_or_read now at c.index_mut.result.now below c.index_mut.ensures.value _) in
    let same : (group_at now at).passed ≡ (group_at old at).passed =
    subst (λ a. (group_at now a).passed ≡ (group_at old a).passed) (sym c.loop-step.invariant.0)
    (next_same old now c.args.home c.loop-step.step c.requires.inside near c.loop-step.invariant.2) in
    omega (arith, group, same, c.requires.fits at)

pub after-at-requires : goal.after-at-requires
after-at-requires g c =
    let n = length c.args.groups.now.items in
    let near : c.loop-step.step < n = omega (arith, c.loop-step-test.true, c.requires.near) in
    let below : c.loop-step.at < length c.loop-step.groups.items =
    subst (λ m. c.loop-step.at < m) (sym c.loop-step.invariant.2.len)
    (subst (λ a. a < n) (sym c.loop-step.invariant.0) (walk_below n c.args.home c.loop-step.step c.requires.inside near)) in
    search rules

pub loop-step-preserved : goal.loop-step-preserved
loop-step-preserved g c =
    let old = c.args.groups.now.items in let now = c.loop-step.groups.items in let n = length old in let at = c.loop-step.at in
    let home = c.args.home in let step = c.loop-step.step in let counts = c.loop-step.invariant.2 in
    let near : step < n = omega (arith, c.loop-step-test.true, c.requires.near) in
    let below : at < length now =
    subst (λ m. at < m) (sym counts.len) (subst (λ a. a < n) (sym c.loop-step.invariant.0) (walk_below n home step c.requires.inside near)) in
    let is : c.index_mut.result.now ≡ group_at now at = get_or_read now at c.index_mut.result.now below c.index_mut.ensures.value _ in
    let len : c.len.result ≡ length now = search rules in (
      c.after-at.ensures.is ∙ ap (λ m. after m at) (len ∙ counts.len) ∙ ap (after n) c.loop-step.invariant.0 ∙ sym (walk_last n home step),
      omega (arith, c.loop-step-test.true),
      subst (λ h. CountsWay old home (step + 1) (slice_set now at (record { marks = h.marks; passed = h.passed + 1; ids = h.ids }))) (sym is)
          (counts_on old now home step c.requires.inside near counts at c.loop-step.invariant.0),
    )
