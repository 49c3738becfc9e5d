use Rattle.std.proofs.Common.{◌≡◌, ◌∙◌, ◌<◌, ◌≤◌, ◌∷◌, ap, arith, sym, unwrap_or}
use Rattle.moka_common.specs.Sketch.{estimate}
use Rattle.moka_store.specs.Store.{entries_of}
use Rattle.moka_unsync.proofs.AdmissionLemmas.{alone_holds, alone_outweighed}
use Rattle.moka_unsync.proofs.victims.victims_outweighed_by.Goals as goal

pub returns-then-candidate-frequency : goal.returns-then-candidate-frequency
returns-then-candidate-frequency g c =
    let all = entries_of c.args.store.now in
    let f = (c.in-Some.ensures {u = tt}).found in
    let victim = c.get-victim.result.now in
    let same : f.entry ≡ victim = ap (λ o. unwrap_or o f.entry) (sym f.stands ∙ c.get-victim.ensures) in
    alone_holds (λ e. estimate c.args.sketch.now e.hash) (estimate c.args.sketch.now c.args.new.now.hash) c.args.new.now.weight victim f.rest all
    (f.first ∙ ap (λ e. e ∷ f.rest) same) c.front.ensures.order c.if-new-gt0.true c.if-new-victim.true
    (sym c.is_windowed.ensures ∙ c.if-not-is_windowed.true)
    (omega (arith, c.if-candidate-frequency.true, c.frequency-candidate.ensures.value, c.frequency.ensures.value))

pub returns-then-not-is_windowed : goal.returns-then-not-is_windowed
returns-then-not-is_windowed g c =
    let all = entries_of c.args.store.now in
    let f = (c.in-Some.ensures {u = tt}).found in
    let victim = c.get-victim.result.now in
    let same : f.entry ≡ victim = ap (λ o. unwrap_or o f.entry) (sym f.stands ∙ c.get-victim.ensures) in
    alone_outweighed (λ e. estimate c.args.sketch.now e.hash) (estimate c.args.sketch.now c.args.new.now.hash) c.args.new.now.weight victim f.rest all
    (f.first ∙ ap (λ e. e ∷ f.rest) same) c.front.ensures.order c.if-new-gt0.true c.if-new-victim.true
    (sym c.is_windowed.ensures ∙ c.if-not-is_windowed.true)
    (omega (arith, c.if-candidate-frequency.false, c.frequency-candidate.ensures.value, c.frequency.ensures.value))
