use Rattle.std.proofs.Common.{◌∙◌, ◌<◌, ◌≤◌, ap, arith, length, subst, sym}
use Rattle.moka_unsync_model.specs.Contents.{main_of}
use Rattle.moka_common.specs.Sketch.{estimate}
use Rattle.moka_store.specs.Store.{entries_of}
use Rattle.moka_unsync.proofs.AdmissionLemmas.{IsMainWalk, main_and_window, main_end, main_next, main_over, main_shorter, main_start, walk_counts, walk_enough}
use Rattle.moka_unsync.proofs.AdmissionLemmas.{walk_lost}
use Rattle.moka_unsync.proofs.AdmissionLemmas.{walk_short, walk_step}
use Rattle.moka_unsync.proofs.victims.several_outweighed_by.Goals as goal

pub loop-victims_frequency-init : goal.loop-victims_frequency-init
loop-victims_frequency-init g c =
    subst (λ rest. IsMainWalk (λ e. estimate c.args.sketch.now e.hash) c.args.new.now.weight (entries_of c.args.store.now) rest
    0 c.args.new.now.weight 0) (sym c.iter-entries.ensures.value)
    (main_start (λ e. estimate c.args.sketch.now e.hash) c.args.new.now.weight (entries_of c.args.store.now) (main_and_window
    (entries_of c.args.store.now) c.iter-entries.ensures.order))

pub returns-then-shortfall-eq0 : goal.returns-then-shortfall-eq0
returns-then-shortfall-eq0 g c =
    walk_enough (λ e. e.weight) (λ e. estimate c.args.sketch.now e.hash) (estimate c.args.sketch.now c.args.new.now.hash)
    c.args.new.now.weight (main_of (entries_of c.args.store.now)) c.loop-victims_frequency.invariant.0 c.loop-victims_frequency.count
    c.loop-victims_frequency.shortfall
    c.loop-victims_frequency.victims_frequency c.loop-victims_frequency.invariant.2 c.if-shortfall-eq0.true
    (subst (λ v. c.loop-victims_frequency.victims_frequency < v) c.requires c.loop-victims_frequency-test.true)

pub returns-in_default : goal.returns-in_default
returns-in_default g c =
    let all = entries_of c.args.store.now in
    walk_short (λ e. e.weight) (λ e. estimate c.args.sketch.now e.hash) (estimate c.args.sketch.now c.args.new.now.hash)
    c.args.new.now.weight (main_of all) c.loop-victims_frequency.count c.loop-victims_frequency.shortfall c.loop-victims_frequency.victims_frequency
    (main_end (λ e. estimate c.args.sketch.now e.hash) c.args.new.now.weight all c.loop-victims_frequency.count c.loop-victims_frequency.shortfall
    c.loop-victims_frequency.victims_frequency
    (subst (λ es. IsMainWalk (λ e. estimate c.args.sketch.now e.hash) c.args.new.now.weight all es c.loop-victims_frequency.count
    c.loop-victims_frequency.shortfall
    c.loop-victims_frequency.victims_frequency) (c.in_default.ensures {u = tt}).steps.0 c.loop-victims_frequency.invariant))
    (grind (arith, c.if-shortfall-eq0.false))

pub returns-then-is_windowed : goal.returns-then-is_windowed
returns-then-is_windowed g c =
    let all = entries_of c.args.store.now in
    walk_short (λ e. e.weight) (λ e. estimate c.args.sketch.now e.hash) (estimate c.args.sketch.now c.args.new.now.hash)
    c.args.new.now.weight (main_of all) c.loop-victims_frequency.count c.loop-victims_frequency.shortfall c.loop-victims_frequency.victims_frequency
    (main_over (λ e. estimate c.args.sketch.now e.hash) c.args.new.now.weight all c.next.new.self c.in-Some.victim.now c.loop-victims_frequency.count
    c.loop-victims_frequency.shortfall c.loop-victims_frequency.victims_frequency
    (subst (λ es. IsMainWalk (λ e. estimate c.args.sketch.now e.hash) c.args.new.now.weight all es c.loop-victims_frequency.count
    c.loop-victims_frequency.shortfall
    c.loop-victims_frequency.victims_frequency) (c.in-Some.ensures {u = tt}).steps c.loop-victims_frequency.invariant) (sym c.is_windowed.ensures
    ∙ c.if-is_windowed.true))
    (grind (arith, c.if-shortfall-eq0.false))

pub returns : goal.returns
returns g c =
    walk_lost (λ e. e.weight) (λ e. estimate c.args.sketch.now e.hash) (estimate c.args.sketch.now c.args.new.now.hash)
    c.args.new.now.weight (main_of (entries_of c.args.store.now)) c.loop-victims_frequency.invariant.0 c.loop-victims_frequency.count
    c.loop-victims_frequency.shortfall
    c.loop-victims_frequency.victims_frequency c.loop-victims_frequency.invariant.2
    (subst (λ v. v ≤ c.loop-victims_frequency.victims_frequency) c.requires c.loop-victims_frequency-test.false)

pub overflow_add-count : goal.overflow_add-count
overflow_add-count g c =
    let all = entries_of c.args.store.now in
    let (ahead, parts, walk) =
    main_next (λ e. estimate c.args.sketch.now e.hash) c.args.new.now.weight all c.next.new.self c.in-Some.victim.now c.loop-victims_frequency.count
    c.loop-victims_frequency.shortfall c.loop-victims_frequency.victims_frequency
    (subst (λ es. IsMainWalk (λ e. estimate c.args.sketch.now e.hash) c.args.new.now.weight all es c.loop-victims_frequency.count
    c.loop-victims_frequency.shortfall
    c.loop-victims_frequency.victims_frequency) (c.in-Some.ensures {u = tt}).steps c.loop-victims_frequency.invariant) (sym c.is_windowed.ensures
    ∙ c.if-is_windowed.false) in
    let counted : c.loop-victims_frequency.count < length (main_of all) =
    walk_counts (λ e. e.weight) (λ e. estimate c.args.sketch.now e.hash) c.args.new.now.weight (main_of all) c.in-Some.victim.now ahead
    c.loop-victims_frequency.count c.loop-victims_frequency.shortfall c.loop-victims_frequency.victims_frequency walk in
    grind (arith, counted, main_shorter all, ap length c.iter-entries.ensures.value, c.iter-entries.ensures.few)

pub loop-victims_frequency-preserved : goal.loop-victims_frequency-preserved
loop-victims_frequency-preserved g c =
    let all = entries_of c.args.store.now in
    let (ahead, parts, walk) =
    main_next (λ e. estimate c.args.sketch.now e.hash) c.args.new.now.weight all c.next.new.self c.in-Some.victim.now c.loop-victims_frequency.count
    c.loop-victims_frequency.shortfall c.loop-victims_frequency.victims_frequency
    (subst (λ es. IsMainWalk (λ e. estimate c.args.sketch.now e.hash) c.args.new.now.weight all es c.loop-victims_frequency.count
    c.loop-victims_frequency.shortfall
    c.loop-victims_frequency.victims_frequency) (c.in-Some.ensures {u = tt}).steps c.loop-victims_frequency.invariant) (sym c.is_windowed.ensures
    ∙ c.if-is_windowed.false) in
    rw (c.saturating_sub-shortfall.ensures, c.frequency-victims_frequency.ensures.value) (
      ahead,
      parts,
      walk_step (λ e. e.weight) (λ e. estimate c.args.sketch.now e.hash) c.args.new.now.weight (main_of all) c.in-Some.victim.now ahead
          c.loop-victims_frequency.count c.loop-victims_frequency.shortfall c.loop-victims_frequency.victims_frequency walk (grind
          (arith, c.if-shortfall-eq0.false)),
    )
