use Rattle.std.proofs.Common.{◌∙◌, ◌<◌, ◌-◌, ap, arith}
use Rattle.moka_unsync_model.specs.Insert.{after_arrival}
use Rattle.moka_unsync_model.proofs.ToldLemmas.{also_for, also_there, and_moved, then_left, untold}
use Rattle.moka_store.specs.Store.{contents_of}
use Rattle.moka_unsync.specs.Turns.{after_eviction_of}
use Rattle.moka_unsync.proofs.AdmissionLemmas.{absent_evicted, replaced_is}
use Rattle.moka_unsync.proofs.LeavingLemmas.{entered_among, gave_way}
use Rattle.moka_unsync.proofs.TurnLemmas.{then_stand, window_entered, window_replaced}
use Rattle.moka_unsync.proofs.admission.enter_for.Goals as goal

pub replace-key-requires-clause-absent : goal.replace-key-requires-clause-absent
replace-key-requires-clause-absent g c =
    absent_evicted g.K.PartialEq.eq c.args.new.key (contents_of c.args.store.now) (contents_of c.evict.new.store) (c.args.count - 1)
    (c.evict.ensures.step 0) c.requires.absent

pub push-requires-in-None-clause-absent : goal.push-requires-in-None-clause-absent
push-requires-in-None-clause-absent g c =
    absent_evicted g.K.PartialEq.eq c.args.new.key (contents_of c.args.store.now) (contents_of c.evict.new.store) (c.args.count - 1)
    (c.evict.ensures.step 0) c.requires.absent

pub returns-in-Some-clause-step : goal.returns-in-Some-clause-step
returns-in-Some-clause-step g c =
    let (f, main) = (c.in-Some.ensures {u = tt}).found in
    let some = c.if-count-eq0.false in
    replaced_is g.K.PartialEq.eq c.args.new c.args.count (contents_of c.args.store.now) c.evict.new.store c.replace-key.new.self c.in-Some.id f main
    c.replace-key.ensures.step (omega (arith, some)) (c.evict.ensures.step 1)
    ∙ ap (λ k. after_arrival g.K.PartialEq.eq k c.args.new (after_eviction_of g.K.PartialEq.eq c.args.count (contents_of c.args.store.now)))
    c.evict.ensures.kept.settings.keeps

pub returns-then-count-eq0-clause-told : goal.returns-then-count-eq0-clause-told
returns-then-count-eq0-clause-told g c =
    and_moved untold (entered_among g.K.PartialEq.eq c.args.store.now c.push.new.self c.args.new c.push.ensures)

pub returns-in-Some-clause-told : goal.returns-in-Some-clause-told
returns-in-Some-clause-told g c =
    let some : 0 < c.args.count = omega (arith, c.if-count-eq0.false) in
    then_left (also_there c.args.new (also_for (λ e there. some) c.evict.ensures.told))
    (also_for (λ e there. some) (gave_way g.L.Listener.hears g.K.PartialEq.eq c.evict.new.store c.replace-key.new.self c.in-Some.id c.args.new
    c.replace-key.result c.evict.new.listener c.removed.new.self c.replace-key.ensures.step c.replace-key.ensures.value c.removed.ensures))

pub returns-in-None-clause-told : goal.returns-in-None-clause-told
returns-in-None-clause-told g c =
    let some : 0 < c.args.count = omega (arith, c.if-count-eq0.false) in
    and_moved (also_there c.args.new (also_for (λ e there. some) c.evict.ensures.told))
    (entered_among g.K.PartialEq.eq c.evict.new.store c.push-in-None.new.self c.args.new c.push-in-None.ensures)

pub returns-then-count-eq0-clause-stands : goal.returns-then-count-eq0-clause-stands
returns-then-count-eq0-clause-stands g c = window_entered c.push.ensures

pub returns-in-Some-clause-stands : goal.returns-in-Some-clause-stands
returns-in-Some-clause-stands g c =
    let (f, main) = (c.in-Some.ensures {u = tt}).found in
    then_stand c.evict.ensures.stands (window_replaced f main c.replace-key.ensures.step)

pub returns-in-None-clause-stands : goal.returns-in-None-clause-stands
returns-in-None-clause-stands g c = then_stand c.evict.ensures.stands (window_entered c.push-in-None.ensures)
