use Rattle.std.proofs.Common.{◌≡◌, ◌∙◌, ◌<◌, ◌-◌, ap, arith, refl, sym}
use Rattle.moka_list.proofs.IdLemmas.{some_parts}
use Rattle.moka_unsync_model.proofs.ToldLemmas.{also_for, then_left, untold}
use Rattle.moka_unsync_model.specs.Memory.{after_note}
use Rattle.moka_unsync.proofs.TurnLemmas.{continued, others_give, others_noted, unmoved}
use Rattle.moka_unsync.proofs.leaving.give_up.Goals as goal

pub loop-shortfall-init : goal.loop-shortfall-init
loop-shortfall-init g c = (refl, refl, unmoved, omega arith, untold)

pub loop-shortfall-preserved : goal.loop-shortfall-preserved
loop-shortfall-preserved g c =
    let eq = g.K.PartialEq.eq in
    let (front, main) = (c.in-Some.ensures {u = tt}).found in
    let own : c.get-entry.result.now ≡ front.entry = some_parts c.get-entry.result.now front.entry (sym c.get-entry.ensures ∙ front.stands) in
    let was = c.loop-shortfall.invariant in
    let test = c.loop-shortfall-test.true in
    let within = was.3 in
    let some : 0 < c.args.enough = omega (arith, test, within) in
    let shortfall : c.saturating_sub-shortfall.result ≡ c.loop-shortfall.shortfall - front.entry.weight =
    c.saturating_sub-shortfall.ensures ∙ ap (λ w. c.loop-shortfall.shortfall - w) (c.from.ensures ∙ ap (λ e. e.weight) own) in
    let noted : c.displace.new.self ≡ record c.loop-shortfall.memory { displaced = after_note c.loop-shortfall.memory.displaced front.entry.hash } =
    c.displace.ensures ∙ ap (λ e. record c.loop-shortfall.memory { displaced = after_note c.loop-shortfall.memory.displaced e.hash }) own in
    rw (shortfall, noted) (
      others_give eq c.loop-shortfall.store c.leave.new.store c.in-Some.id front main c.leave.ensures.step c.loop-shortfall.shortfall test ∙ was.0,
      others_noted eq c.loop-shortfall.store c.leave.new.store c.in-Some.id front main c.leave.ensures.step c.loop-shortfall.shortfall test
          c.loop-shortfall.memory ∙ was.1,
      continued was.2 c.leave.ensures.step.kept,
      omega (arith, within),
      then_left was.4 (also_for (λ e there. some) c.leave.ensures.told),
    )
