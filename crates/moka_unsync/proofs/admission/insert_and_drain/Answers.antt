use Rattle.std.proofs.Common.{◌≡◌, ◌∙◌, ◌+◌, ◌-◌, ◌<◌, Bool, List, None, Option, Some, ap, arith, false, is_some, option_map, refl, subst, sym, true}
use Rattle.std.specs.Bool.{then_some}
use Rattle.std.specs.Cmp.{IsEquivalence}
use Rattle.moka_unsync_model.specs.declared.entry.Entry.{Entry}
use Rattle.moka_unsync_model.specs.declared.entry.Part.TheVariants.{Probation}
use Rattle.moka_unsync_model.specs.Contents.{Contents, entry_at, main_of, total_weight, window_of}
use Rattle.moka_unsync_model.specs.Insert.{after_admission, after_entering_judged, after_entry}
use Rattle.moka_unsync_model.specs.Cleanup.{least_recent}
use Rattle.moka_unsync_model.specs.Shares.{main_limit}
use Rattle.moka_unsync_model.specs.Told.{IsAbove, TellsPut, TellsWhatLeft}
use Rattle.moka_unsync_model.specs.declared.listener.Cause.TheVariants.{Size}
use Rattle.moka_unsync_model.specs.Window.{after_candidates, after_judgements, after_judging, victims_of}
use Rattle.moka_unsync_model.proofs.EnteringLemmas.{absent-judged, after_judged, entering-is_judged, entering-is_kept, entering_excess}
use Rattle.moka_unsync_model.proofs.EnteringLemmas.{excess_left, inside, judged_first, outside}
use Rattle.moka_unsync_model.proofs.JudgementLemmas.{judged-kept, judged-last, stands-inside, stands-outside}
use Rattle.moka_unsync_model.proofs.ToldLemmas.{also_for, also_there, and_moved}
use Rattle.moka_store.specs.Store.{contents_of, entries_of}
use Rattle.moka_unsync.proofs.LeavingLemmas.{above_more, entered_among, put_after}
use Rattle.moka_unsync.proofs.WindowLemmas.{entered_last, remembered, remembered_as}
use Rattle.moka_unsync.proofs.admission.insert_and_drain.Given.{Over}
use Rattle.moka_unsync.proofs.admission.insert_and_drain.Goals.{After-admit, After-push, After-drain_window}
use Rattle.moka_unsync.proofs.admission.insert_and_drain.Goals as goal

enough_is : (g : Over) (c : After-drain_window g)
    → c.args.enough ≡ entering_excess c.args.limits.now c.args.new (entries_of c.args.store.now)
enough_is g c = c.requires.enough

-- the window's old entries were judged
judged_is : (g : Over) (c : After-drain_window g) → contents_of c.drain_window.new.store
    ≡ after_judged g.K.PartialEq.eq c.args.limits.now c.args.sketch.now c.args.new (contents_of c.args.store.now)
judged_is g c =
    c.drain_window.ensures.step
    ∙ ap (λ n. after_candidates g.K.PartialEq.eq c.args.limits.now c.args.sketch.now (least_recent n (window_of (entries_of c.args.store.now)))
    (contents_of c.args.store.now)) (enough_is g c)

left_is : (g : Over) (c : After-drain_window g)
    → c.drain_window.result ≡ excess_left c.args.limits.now c.args.new (entries_of c.args.store.now)
left_is g c =
    c.drain_window.ensures.value
    ∙ ap (λ n. n - total_weight (least_recent n (window_of (entries_of c.args.store.now)))) (enough_is g c)

absent : (g : Over) (c : After-drain_window g)
    → entry_at g.K.PartialEq.eq c.args.new.key (entries_of c.drain_window.new.store) ≡ None
absent g c =
    ap (λ s. entry_at g.K.PartialEq.eq c.args.new.key s.entries) (judged_is g c)
    ∙ absent-judged g.K.PartialEq.eq g.met.K.Eq.laws c.args.store.now.keeps_writes c.args.limits.now c.args.sketch.now c.args.new
    (contents_of c.args.store.now) c.requires.absent

pub admit-requires-clause-absent : goal.admit-requires-clause-absent
admit-requires-clause-absent g c = absent g (goal.at.admit-requires-clause-absent g c).After-drain_window

-- the new entry was judged as the last of them
arrived : (g : Over) (c : After-admit g) → contents_of c.admit.new.store ≡ after_admission g.K.PartialEq.eq
    c.drain_window.new.store.keeps_writes (outside c.args.new)
    (victims_of (Some c.main_limit.result) c.args.sketch.now (outside c.args.new) (main_of (entries_of c.drain_window.new.store)))
    (contents_of c.drain_window.new.store)
arrived g c =
    c.admit.ensures.step
    ∙ ap (λ e. after_admission g.K.PartialEq.eq c.drain_window.new.store.keeps_writes e
    (victims_of (Some c.main_limit.result) c.args.sketch.now e (main_of (entries_of c.drain_window.new.store)))
    (contents_of c.drain_window.new.store)) (λ i. record c.args.new { part = c.requires.probation i })

-- where it comes to, if anywhere
placed_by : {K V : Type 0} (eq : K → K → Bool) (laws : IsEquivalence eq) (keeps : Bool) (new : Entry K V) (gone : Option (List (Entry K V)))
    (contents : Contents K V) → entry_at eq new.key contents.entries ≡ None
    → then_some (is_some gone) Probation ≡ option_map (λ e. e.part) (entry_at eq new.key (after_admission eq keeps (outside new) gone contents).entries)
placed_by eq laws keeps new None contents absent = sym (ap (option_map (λ e. e.part)) absent)
placed_by eq laws keeps new (Some gone) contents absent = sym (ap (option_map (λ e. e.part)) (stands-outside eq laws keeps new gone contents absent))

same_then : (b : Bool) → is_some (then_some b Probation) ≡ b
same_then true = refl
same_then false = refl

pub returns-then-drain_window-gt0-clause-value : goal.returns-then-drain_window-gt0-clause-value
returns-then-drain_window-gt0-clause-value g c =
    let at = goal.at.returns-then-drain_window-gt0-clause-value g c in
    let eq = g.K.PartialEq.eq in
    c.then_some.ensures
    ∙ (ap (λ b. then_some b Probation) (c.admit.ensures.value
    ∙ ap (λ e. is_some (victims_of (Some c.main_limit.result) c.args.sketch.now e (main_of (entries_of c.drain_window.new.store))))
    (λ i. record c.args.new { part = c.requires.probation i }))
    ∙ (placed_by eq g.met.K.Eq.laws c.drain_window.new.store.keeps_writes c.args.new
    (victims_of (Some c.main_limit.result) c.args.sketch.now (outside c.args.new) (main_of (entries_of c.drain_window.new.store)))
    (contents_of c.drain_window.new.store) (absent g at.After-drain_window)
    ∙ sym (ap (λ s. option_map (λ e. e.part) (entry_at eq c.args.new.key s.entries)) (arrived g at.After-admit))))

pub returns-then-drain_window-gt0-clause-step : goal.returns-then-drain_window-gt0-clause-step
returns-then-drain_window-gt0-clause-step g c =
    let at = goal.at.returns-then-drain_window-gt0-clause-step g c in
    let eq = g.K.PartialEq.eq in
    arrived g at.After-admit
    ∙ (ap (λ k. after_admission eq k (outside c.args.new) (victims_of (Some c.main_limit.result) c.args.sketch.now (outside c.args.new)
    (main_of (contents_of c.drain_window.new.store).entries)) (contents_of c.drain_window.new.store))
    c.drain_window.ensures.kept.settings.keeps
    ∙ (ap (λ l. after_admission eq c.args.store.now.keeps_writes (outside c.args.new) (victims_of (Some l) c.args.sketch.now
    (outside c.args.new) (main_of (contents_of c.drain_window.new.store).entries)) (contents_of c.drain_window.new.store))
    c.main_limit.ensures
    ∙ (ap (λ s. after_admission eq c.args.store.now.keeps_writes (outside c.args.new) (victims_of (Some (main_limit c.args.limits.now))
    c.args.sketch.now (outside c.args.new) (main_of s.entries)) s) (judged_is g at.After-drain_window)
    ∙ sym (entering-is_judged eq g.met.K.Eq.laws c.args.store.now.keeps_writes c.args.limits.now c.args.sketch.now c.args.new
    (contents_of c.args.store.now) c.requires.absent c.requires.unwritten
    (subst (λ n. 0 < n) (left_is g at.After-drain_window) c.if-drain_window-gt0.true)))))

pub push-requires-clause-absent : goal.push-requires-clause-absent
push-requires-clause-absent g c = absent g (goal.at.push-requires-clause-absent g c).After-drain_window

-- the new entry is in the window
entered : (g : Over) (c : After-push g) → contents_of c.push.new.self
    ≡ after_entry g.K.PartialEq.eq c.args.store.now.keeps_writes (inside c.args.new) (contents_of c.drain_window.new.store)
entered g c =
    entered_last g.K.PartialEq.eq c.args.store.now.keeps_writes c.drain_window.new.store c.push.new.self (inside c.args.new) refl
    c.drain_window.ensures.kept.settings.keeps c.push.ensures

pub returns-clause-value : goal.returns-clause-value
returns-clause-value g c =
    let at = goal.at.returns-clause-value g c in
    let eq = g.K.PartialEq.eq in
    sym (ap (λ s. option_map (λ e. e.part) (entry_at eq c.args.new.key s.entries)) (entered g at.After-push)
    ∙ ap (option_map (λ e. e.part))
    (stands-inside eq g.met.K.Eq.laws c.args.store.now.keeps_writes c.args.new (contents_of c.drain_window.new.store) (absent g at.After-drain_window)))

pub returns-clause-step : goal.returns-clause-step
returns-clause-step g c =
    let at = goal.at.returns-clause-step g c in
    entered g at.After-push
    ∙ (ap (after_entry g.K.PartialEq.eq c.args.store.now.keeps_writes (inside c.args.new)) (judged_is g at.After-drain_window)
    ∙ sym (entering-is_kept g.K.PartialEq.eq g.met.K.Eq.laws c.args.store.now.keeps_writes c.args.limits.now c.args.sketch.now c.args.new
    (contents_of c.args.store.now) c.requires.absent c.requires.unwritten
    (sym (left_is g at.After-drain_window) ∙ grind (arith, c.if-drain_window-gt0.false))))

-- the window's old entries were told of
judged_told : (g : Over) (c : After-drain_window g)
    → TellsWhatLeft g.L.Listener.hears Size (λ e. IsAbove (Some (main_limit c.args.limits.now)) (total_weight
    (entries_of c.args.store.now) + c.args.new.weight))
    (entries_of c.args.store.now) (entries_of c.drain_window.new.store) c.args.listener.now c.drain_window.new.listener
judged_told g c =
    also_for (λ e above. above_more (Some (main_limit c.args.limits.now)) (total_weight (entries_of c.args.store.now)) _ (omega arith) above)
    c.drain_window.ensures.told

pub returns-then-drain_window-gt0-clause-told : goal.returns-then-drain_window-gt0-clause-told
returns-then-drain_window-gt0-clause-told g c =
    let at = goal.at.returns-then-drain_window-gt0-clause-told g c in
    subst (λ b. TellsPut g.L.Listener.hears (Some (main_limit c.args.limits.now)) b c.args.new (entries_of c.args.store.now) (entries_of c.admit.new.store)
    c.args.listener.now c.admit.new.listener) (sym (ap is_some c.then_some.ensures ∙ same_then c.admit.result))
    (put_after (Some (main_limit c.args.limits.now)) c.admit.result c.args.new (entries_of c.args.store.now) (entries_of c.drain_window.new.store)
    (entries_of c.admit.new.store) c.args.listener.now c.drain_window.new.listener c.admit.new.listener (judged_told g at.After-drain_window)
    (subst (λ l. TellsPut g.L.Listener.hears (Some l) c.admit.result c.args.new (entries_of c.drain_window.new.store) (entries_of c.admit.new.store)
    c.drain_window.new.listener c.admit.new.listener) c.main_limit.ensures c.admit.ensures.told))

pub returns-clause-told : goal.returns-clause-told
returns-clause-told g c =
    let at = goal.at.returns-clause-told g c in
    and_moved (also_there c.args.new (judged_told g at.After-drain_window))
    (entered_among g.K.PartialEq.eq c.drain_window.new.store c.push.new.self (inside c.args.new) c.push.ensures)

-- what was remembered of the window's old entries
noted : (g : Over) (c : After-drain_window g) → c.drain_window.new.memory
    ≡ option_map (after_judgements g.K.PartialEq.eq c.args.limits.now c.args.sketch.now (judged_first c.args.limits.now c.args.new
    (entries_of c.args.store.now))
    (contents_of c.args.store.now)) c.args.memory.now
noted g c =
    c.drain_window.ensures.memory
    ∙ ap (λ n. option_map (after_judgements g.K.PartialEq.eq c.args.limits.now c.args.sketch.now (least_recent n (window_of (entries_of c.args.store.now)))
    (contents_of c.args.store.now)) c.args.memory.now) (enough_is g c)

pub returns-then-drain_window-gt0-clause-memory : goal.returns-then-drain_window-gt0-clause-memory
returns-then-drain_window-gt0-clause-memory g c =
    let at = goal.at.returns-then-drain_window-gt0-clause-memory g c in
    let eq = g.K.PartialEq.eq in
    let limits = c.args.limits.now in
    let sketch = c.args.sketch.now in
    let start = contents_of c.args.store.now in
    c.admit.ensures.memory
    ∙ (ap (λ l. option_map (λ m. after_judging m c.args.new.hash (victims_of (Some l) sketch c.args.new (main_of (entries_of c.drain_window.new.store))))
    c.drain_window.new.memory) c.main_limit.ensures
    ∙ (ap (λ s. option_map (λ m. after_judging m c.args.new.hash (victims_of (Some (main_limit limits)) sketch c.args.new (main_of s.entries)))
    c.drain_window.new.memory) (judged_is g at.After-drain_window)
    ∙ (ap (option_map (λ m. after_judging m c.args.new.hash (victims_of (Some (main_limit limits)) sketch c.args.new
    (main_of (after_judged eq limits sketch c.args.new start).entries)))) (noted g at.After-drain_window)
    ∙ remembered (after_judgements eq limits sketch (judged_first limits c.args.new start.entries) start)
    (λ m. after_judging m c.args.new.hash (victims_of (Some (main_limit limits)) sketch c.args.new
    (main_of (after_judged eq limits sketch c.args.new start).entries)))
    (after_entering_judged eq c.args.store.now.keeps_writes limits sketch c.args.new start)
    (λ m. judged-last eq limits sketch g.met.K.Eq.laws c.args.store.now.keeps_writes c.args.new start c.requires.absent c.requires.unwritten m
    (subst (λ n. 0 < n) (left_is g at.After-drain_window) c.if-drain_window-gt0.true)) c.args.memory.now)))

pub returns-clause-memory : goal.returns-clause-memory
returns-clause-memory g c =
    let at = goal.at.returns-clause-memory g c in
    let eq = g.K.PartialEq.eq in
    let limits = c.args.limits.now in
    let sketch = c.args.sketch.now in
    let start = contents_of c.args.store.now in
    noted g at.After-drain_window
    ∙ remembered_as (after_judgements eq limits sketch (judged_first limits c.args.new start.entries) start)
    (after_entering_judged eq c.args.store.now.keeps_writes limits sketch c.args.new start)
    (λ m. judged-kept eq limits sketch g.met.K.Eq.laws c.args.store.now.keeps_writes c.args.new start c.requires.absent c.requires.unwritten m
    (sym (left_is g at.After-drain_window) ∙ grind (arith, c.if-drain_window-gt0.false))) c.args.memory.now
