use Rattle.std.proofs.Common.{◌≡◌, ◌∙◌, Some, ap, arith, option_map, refl, sym}
use Rattle.moka_list.proofs.IdLemmas.{some_parts}
use Rattle.moka_unsync_model.specs.Contents.{entry_at, main_of}
use Rattle.moka_unsync_model.specs.Insert.{after_entering_judged}
use Rattle.moka_unsync_model.specs.Shares.{main_limit}
use Rattle.moka_unsync_model.specs.Window.{after_candidate, after_judging, victims_of}
use Rattle.moka_unsync_model.proofs.EnteringLemmas.{entering_excess, inside}
use Rattle.moka_unsync_model.proofs.JudgementLemmas.{absent-candidate, stands-inside}
use Rattle.moka_unsync_model.proofs.ToldLemmas.{and_moved, untold}
use Rattle.moka_store.specs.Store.{contents_of, entries_of}
use Rattle.moka_unsync.proofs.LeavingLemmas.{entered_among, placed}
use Rattle.moka_unsync.proofs.WindowLemmas.{entered_last, entering_free, entering_last, free_judged, last_judged, remembered_as, remembered_none}
use Rattle.moka_unsync.proofs.admission.insert_into_window.Goals as goal

pub returns-then-enough-eq0-clause-value : goal.returns-then-enough-eq0-clause-value
returns-then-enough-eq0-clause-value g c =
    let keeps = c.args.store.now.keeps_writes in
    let eq = g.K.PartialEq.eq in
    sym (ap (λ s. option_map (λ e. e.part) (entry_at eq c.args.new.key s.entries))
    (entered_last eq keeps c.args.store.now c.push.new.self (inside c.args.new) refl refl c.push.ensures)
    ∙ ap (option_map (λ e. e.part)) (stands-inside eq g.met.K.Eq.laws keeps c.args.new (contents_of c.args.store.now) c.requires.absent))

pub returns-then-enough-eq0-clause-step : goal.returns-then-enough-eq0-clause-step
returns-then-enough-eq0-clause-step g c =
    let keeps = c.args.store.now.keeps_writes in
    entered_last g.K.PartialEq.eq keeps c.args.store.now c.push.new.self (inside c.args.new) refl refl c.push.ensures
    ∙ entering_free g.K.PartialEq.eq g.met.K.Eq.laws keeps c.args.limits.now c.args.sketch.now c.args.new (contents_of c.args.store.now)
    c.requires.absent c.requires.unwritten (sym (c.excess-enough.ensures (inside c.args.new) refl refl) ∙ c.if-enough-eq0.true)

pub returns-in-Some-clause-value : goal.returns-in-Some-clause-value
returns-in-Some-clause-value g c =
    let (f, step, noted) = c.admit_or_evict_last.ensures.step in
    let eq = g.K.PartialEq.eq in
    sym (ap (λ s. option_map (λ e. e.part) (entry_at eq c.args.new.key s.entries)) step
    ∙ ap (option_map (λ e. e.part)) (stands-inside eq g.met.K.Eq.laws c.args.store.now.keeps_writes c.args.new
    (after_candidate eq c.args.limits.now c.args.sketch.now (contents_of c.args.store.now) f.entry)
    (absent-candidate eq g.met.K.Eq.laws c.args.limits.now c.args.sketch.now c.args.new f.entry f.rest
    (contents_of c.args.store.now) c.requires.absent f.first)))

pub returns-in-Some-clause-step : goal.returns-in-Some-clause-step
returns-in-Some-clause-step g c =
    let (f, step, noted) = c.admit_or_evict_last.ensures.step in
    let (front, enough) = c.in-Some.ensures {u = tt} in
    let own = some_parts front.entry f.entry (sym front.stands ∙ f.stands) in
    let is : c.excess-enough.result ≡ entering_excess c.args.limits.now c.args.new (entries_of c.args.store.now) =
    c.excess-enough.ensures (inside c.args.new) refl refl in
    let some = c.if-enough-eq0.false in
    step
    ∙ entering_last g.K.PartialEq.eq g.met.K.Eq.laws c.args.store.now.keeps_writes c.args.limits.now c.args.sketch.now c.args.new
    (contents_of c.args.store.now) c.requires.absent c.requires.unwritten f.entry f.rest f.first (omega (arith, some, is))
    (omega (arith, enough, is, ap (λ e. e.weight) own))

pub returns-then-enough-eq0-clause-told : goal.returns-then-enough-eq0-clause-told
returns-then-enough-eq0-clause-told g c =
    and_moved untold (entered_among g.K.PartialEq.eq c.args.store.now c.push.new.self (inside c.args.new) c.push.ensures)

pub returns-in-Some-clause-told : goal.returns-in-Some-clause-told
returns-in-Some-clause-told g c = placed refl c.admit_or_evict_last.ensures.told

pub returns-then-enough-eq0-clause-memory : goal.returns-then-enough-eq0-clause-memory
returns-then-enough-eq0-clause-memory g c =
    let eq = g.K.PartialEq.eq in
    let keeps = c.args.store.now.keeps_writes in
    remembered_none (after_entering_judged eq keeps c.args.limits.now c.args.sketch.now c.args.new (contents_of c.args.store.now))
    (free_judged eq g.met.K.Eq.laws keeps c.args.limits.now c.args.sketch.now c.args.new (contents_of c.args.store.now) c.requires.absent c.requires.unwritten
    (sym (c.excess-enough.ensures (inside c.args.new) refl refl) ∙ c.if-enough-eq0.true)) c.args.memory.now

pub returns-in-Some-clause-memory : goal.returns-in-Some-clause-memory
returns-in-Some-clause-memory g c =
    let (f, step, noted) = c.admit_or_evict_last.ensures.step in
    let eq = g.K.PartialEq.eq in
    let keeps = c.args.store.now.keeps_writes in
    let (front, enough) = c.in-Some.ensures {u = tt} in
    let own = some_parts front.entry f.entry (sym front.stands ∙ f.stands) in
    let is : c.excess-enough.result ≡ entering_excess c.args.limits.now c.args.new (entries_of c.args.store.now) =
    c.excess-enough.ensures (inside c.args.new) refl refl in
    let some = c.if-enough-eq0.false in
    noted
    ∙ remembered_as (λ m. after_judging m f.entry.hash (victims_of (Some (main_limit c.args.limits.now)) c.args.sketch.now f.entry (main_of
    (entries_of c.args.store.now))))
    (after_entering_judged eq keeps c.args.limits.now c.args.sketch.now c.args.new (contents_of c.args.store.now))
    (last_judged eq g.met.K.Eq.laws keeps c.args.limits.now c.args.sketch.now c.args.new (contents_of c.args.store.now) c.requires.absent c.requires.unwritten
    f.entry f.rest f.first (omega (arith, some, is)) (omega (arith, enough, is, ap (λ e. e.weight) own))) c.args.memory.now
