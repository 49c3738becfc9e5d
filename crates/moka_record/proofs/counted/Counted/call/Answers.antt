use Rattle.std.proofs.Common.{◌∙◌, ◌+◌, ap, refl, slice_set, sum_by, sym}
use Rattle.moka_record.proofs.WiderLemmas.{applied, one_more}
use Rattle.moka_record.proofs.counted.Counted.call.Goals as goal

pub invariant_of-self-2 : goal.invariant_of-self-2
invariant_of-self-2 g c =
    let step = c.in_ok-answer.ensures.step in
    let kept = c.self.inside.record in
    let done =
    applied _ _ _ (c.requires.ruled kept.weigher) kept.state c.apply.new.self.state c.args.call step.0 c.in_ok-answer.answer
    c.self.invariant.0 step.1
    in
    let own = rw (← c.self.view_is) at (c.if-not-is_own.ensures refl) in
    let raised = ap (λ count. sum_by (λ m. m) (slice_set c.self.inside.made.items c.args.pass.now.place count)) c.in-Some.ensures.1 in
    (done.0, raised ∙ one_more _ _ _ own.0 own.1 ∙ ap (λ n. n + 1) c.self.invariant.1 ∙ sym done.1)
