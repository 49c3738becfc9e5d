use Rattle.std.proofs.Common.{◌≡◌, ◌∙◌, ◌+◌, ◌-◌, ◌<◌, arith, length, ap, rules, subst, sym}
use Rattle.std.specs.Prelude.{slice_set}
use Rattle.std.proofs.lemmas.List.{get_or_read}
use Rattle.moka_list.specs.HashIndex.{after, group_at}
use Rattle.moka_list.specs.Probed.{CountsWay, steps}
use Rattle.moka_list.proofs.StandsLemmas.{steps_walk, walk, walk_below}
use Rattle.moka_list.proofs.CountLemmas.{counts_off, last_same, walk_last}
use Rattle.moka_list.proofs.table.take_back.Goals as goal

pub index_mut-requires : goal.index_mut-requires
index_mut-requires g c =
    let n = length c.args.groups.now.items in
    let near : c.loop-step.step < n = omega (arith, c.loop-step-test.true, c.requires.near) in
    let below : c.loop-step.at < length c.loop-step.groups.items =
    subst (λ m. c.loop-step.at < m) c.loop-step.invariant.2.len
    (subst (λ a. a < n) (sym c.loop-step.invariant.0) (walk_below n c.args.home c.loop-step.step c.requires.inside near)) in
    search rules

pub after-at-requires : goal.after-at-requires
after-at-requires g c =
    let n = length c.args.groups.now.items in
    let near : c.loop-step.step < n = omega (arith, c.loop-step-test.true, c.requires.near) in
    let below : c.loop-step.at < length c.loop-step.groups.items =
    subst (λ m. c.loop-step.at < m) c.loop-step.invariant.2.len
    (subst (λ a. a < n) (sym c.loop-step.invariant.0) (walk_below n c.args.home c.loop-step.step c.requires.inside near)) in
    search rules

pub overflow_sub-index_mut : goal.overflow_sub-index_mut
overflow_sub-index_mut g c =
    let old = c.args.groups.now.items in let now = c.loop-step.groups.items in let n = length old in let step = c.loop-step.step in
    let home = c.args.home in let at = c.loop-step.at in let counts = c.loop-step.invariant.2 in
    let len : n ≡ length now = counts.len in
    let near : step < n = omega (arith, c.loop-step-test.true, c.requires.near) in
    let below : at < n = subst (λ a. a < n) (sym c.loop-step.invariant.0) (walk_below n home step c.requires.inside near) in
    let group : c.index_mut.result.now.passed ≡ (group_at now at).passed =
    ap (λ h. h.passed)
    (get_or_read now at c.index_mut.result.now (subst (λ m. at < m) len below) c.index_mut.ensures.value _) in
    let at_now : at ≡ walk (length now) home step = c.loop-step.invariant.0 ∙ ap (λ m. walk m home step) len in
    let same : (group_at old at).passed ≡ (group_at now at).passed =
    subst (λ a. (group_at old a).passed ≡ (group_at now a).passed) (sym at_now)
    (last_same old now home step (subst (λ m. home < m) len c.requires.inside) (subst (λ m. step < m) len near) counts) in
    let led : steps n home at ≡ step - 0 =
    ap (steps n home) c.loop-step.invariant.0 ∙ steps_walk n home 0 step c.requires.inside near (omega arith) in
    let some = c.requires.counted at below (omega (arith, led, c.loop-step-test.true)) in omega (arith, group, same, some)

pub loop-step-preserved : goal.loop-step-preserved
loop-step-preserved g c =
    let old = c.args.groups.now.items in let now = c.loop-step.groups.items in let n = length old in let step = c.loop-step.step in
    let home = c.args.home in let at = c.loop-step.at in let counts = c.loop-step.invariant.2 in
    let len : n ≡ length now = counts.len in
    let near : step < n = omega (arith, c.loop-step-test.true, c.requires.near) in
    let below : at < n = subst (λ a. a < n) (sym c.loop-step.invariant.0) (walk_below n home step c.requires.inside near) in
    let is : c.index_mut.result.now ≡ group_at now at =
    get_or_read now at c.index_mut.result.now (subst (λ m. at < m) len below) c.index_mut.ensures.value _ in
    let at_now : at ≡ walk (length now) home step = c.loop-step.invariant.0 ∙ ap (λ m. walk m home step) len in
    let same : (group_at old at).passed ≡ (group_at now at).passed =
    subst (λ a. (group_at old a).passed ≡ (group_at now a).passed) (sym at_now)
    (last_same old now home step (subst (λ m. home < m) len c.requires.inside) (subst (λ m. step < m) len near) counts) in
    let led : steps n home at ≡ step - 0 =
    ap (steps n home) c.loop-step.invariant.0 ∙ steps_walk n home 0 step c.requires.inside near (omega arith) in
    let some = c.requires.counted at below (omega (arith, led, c.loop-step-test.true)) in
    let left : 0 < (group_at now at).passed = omega (arith, same, some) in
    let length_now : c.len.result ≡ length now = search rules in (
      c.after-at.ensures.is ∙ ap (λ m. after m at) (length_now ∙ sym len) ∙ ap (after n) c.loop-step.invariant.0
          ∙ sym (walk_last n home step),
      omega (arith, c.loop-step-test.true),
      subst (λ h. CountsWay (slice_set now at (record { marks = h.marks; passed = h.passed - 1; ids = h.ids })) home (step + 1) old) (sym is)
          (counts_off old now home step (subst (λ m. home < m) len c.requires.inside) (subst (λ m. step < m) len near) counts at at_now left),
    )
