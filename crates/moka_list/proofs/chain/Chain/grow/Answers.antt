use Rattle.std.proofs.Common.{◌+◌, ◌≤◌, ap, arith, refl, rules, ◌∙◌}
use Rattle.std.proofs.lemmas.Result.{on_ok_weaker}
use Rattle.slab.specs.Slab.{slab_len}
use Rattle.moka_list.specs.Links.{reserved}
use Rattle.moka_list.proofs.ChainLemmas.{capacity_is, lengthened-twice, shows-grown}
use Rattle.moka_list.proofs.chain.Chain.grow.Goals as goal

pub invariant_of-self : goal.invariant_of-self
invariant_of-self g c = (shows-grown {links_new = c.reserve.new.self} c.self.invariant refl (omega arith) c.reserve.ensures.step).0

pub returns-in_err-reserve-clause-items : goal.returns-in_err-reserve-clause-items
returns-in_err-reserve-clause-items g c =
    (shows-grown {slots_new = c.self.inside.slots} {links_new = c.reserve.new.self} c.self.invariant refl (omega arith) c.reserve.ensures.step).1
    ∙ ap (λ v. v.items) c.self.view_is

pub invariant_of-self-in_err-reserve_exact : goal.invariant_of-self-in_err-reserve_exact
invariant_of-self-in_err-reserve_exact g c =
    let made = c.reserve_exact.ensures in
    (shows-grown {links_new = c.reserve.new.self} c.self.invariant made.rest_kept made.capacity c.reserve.ensures.step).0

pub returns-in_err-reserve_exact-clause-items : goal.returns-in_err-reserve_exact-clause-items
returns-in_err-reserve_exact-clause-items g c =
    let made = c.reserve_exact.ensures in
    (shows-grown {links_new = c.reserve.new.self} c.self.invariant made.rest_kept made.capacity c.reserve.ensures.step).1
    ∙ ap (λ v. v.items) c.self.view_is

pub invariant_of-self-2 : goal.invariant_of-self-2
invariant_of-self-2 g c =
    let made = c.reserve_exact.ensures in
    let links = lengthened-twice c.self.inside.links c.reserve.new.self c.reserve-2.new.self c.reserve.ensures.step c.reserve-2.ensures.step in
    (shows-grown {links_new = c.reserve-2.new.self} c.self.invariant made.rest_kept made.capacity links).0

pub returns-clause-holds_all : goal.returns-clause-holds_all
returns-clause-holds_all g c =
    let made = c.reserve_exact.ensures in let slots = c.reserve_exact.new.self in let new = c.reserve-2.new.self in
    let links = lengthened-twice c.self.inside.links c.reserve.new.self new c.reserve.ensures.step c.reserve-2.ensures.step in
    let shown = shows-grown {links_new = new} c.self.invariant made.rest_kept made.capacity links in
    let fits : slab_len slots + c.args.additional ≤ slots.capacity = search rules in
    on_ok_weaker c.reserve-2.result
    (λ (linked : c.capacity.result ≤ reserved new).
    let all : slots.capacity ≤ reserved new = omega (arith, linked, c.capacity.ensures.value) in
    omega (arith, capacity_is slots new all, fits, shown.0.len))
    c.reserve-2.ensures.ok

pub returns-clause-items : goal.returns-clause-items
returns-clause-items g c =
    let made = c.reserve_exact.ensures in
    let links = lengthened-twice c.self.inside.links c.reserve.new.self c.reserve-2.new.self c.reserve.ensures.step c.reserve-2.ensures.step in
    (shows-grown {links_new = c.reserve-2.new.self} c.self.invariant made.rest_kept made.capacity links).1 ∙ ap (λ v. v.items) c.self.view_is
