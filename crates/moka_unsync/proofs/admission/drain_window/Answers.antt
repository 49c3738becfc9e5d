use Rattle.std.proofs.Common.{◌≡◌, ◌∙◌, ◌-◌, Some, ap, arith, refl, sym}
use Rattle.moka_list.proofs.IdLemmas.{some_parts}
use Rattle.moka_unsync_model.specs.Cleanup.{least_recent}
use Rattle.moka_unsync_model.specs.Contents.{window_of}
use Rattle.moka_unsync_model.specs.Shares.{main_limit}
use Rattle.moka_unsync_model.proofs.EnteringLemmas.{least_recent-nil, least_recent-none}
use Rattle.moka_store.specs.Store.{contents_of, entries_of}
use Rattle.moka_unsync_model.proofs.ToldLemmas.{also_for, then_left, untold}
use Rattle.moka_unsync.proofs.LeavingLemmas.{above_more, lighter}
use Rattle.moka_unsync.proofs.TurnLemmas.{continued, unmoved}
use Rattle.moka_unsync.proofs.WindowLemmas.{next_candidates, next_memory, next_shortfall, none_judged}
use Rattle.moka_unsync.proofs.admission.drain_window.Goals as goal

pub loop-shortfall-preserved : goal.loop-shortfall-preserved
loop-shortfall-preserved g c =
    let eq = g.K.PartialEq.eq in
    let (front, judged, rest, noted) = c.admit_or_evict.ensures.step in
    let own : c.get.result.now ≡ front.entry = some_parts c.get.result.now front.entry (sym c.get.ensures ∙ front.stands) in
    let shortfall : c.saturating_sub-shortfall.result ≡ c.loop-shortfall.shortfall - front.entry.weight =
    c.saturating_sub-shortfall.ensures ∙ ap (λ w. c.loop-shortfall.shortfall - w) (c.from.ensures ∙ ap (λ e. e.weight) own) in
    let was = c.loop-shortfall.invariant in
    rw shortfall (
      next_candidates eq c.args.limits.now c.args.sketch.now c.loop-shortfall.store c.admit_or_evict.new.store c.in-Some.id c.loop-shortfall.shortfall front
          c.loop-shortfall-test.true judged rest ∙ was.0,
      next_shortfall eq c.args.limits.now c.args.sketch.now c.loop-shortfall.store c.admit_or_evict.new.store c.in-Some.id c.loop-shortfall.shortfall front
          c.loop-shortfall-test.true judged rest ∙ was.1,
      continued was.2 c.admit_or_evict.ensures.kept,
      then_left was.3 (also_for (λ e above. above_more (Some (main_limit c.args.limits.now)) _ _ (lighter was.3) above) c.admit_or_evict.ensures.told),
      next_memory eq c.args.limits.now c.args.sketch.now c.loop-shortfall.store c.admit_or_evict.new.store c.in-Some.id c.loop-shortfall.shortfall front
          c.loop-shortfall-test.true judged rest c.loop-shortfall.memory c.admit_or_evict.new.memory noted ∙ was.4,
    )

pub loop-shortfall-init : goal.loop-shortfall-init
loop-shortfall-init g c = (refl, refl, unmoved, untold, refl)

pub returns-clause-memory : goal.returns-clause-memory
returns-clause-memory g c =
    let l = c.loop-shortfall in
    let below = c.loop-shortfall-test.false in
    let none : l.shortfall ≡ 0 = omega (arith, below) in
    none_judged g.K.PartialEq.eq c.args.limits.now c.args.sketch.now l.shortfall (window_of (entries_of l.store)) (contents_of l.store) l.memory
    (ap (λ n. least_recent n (window_of (entries_of l.store))) none ∙ least_recent-none (window_of (entries_of l.store)))
    ∙ l.invariant.4

pub returns-in_default-clause-memory : goal.returns-in_default-clause-memory
returns-in_default-clause-memory g c =
    let l = c.loop-shortfall in
    none_judged g.K.PartialEq.eq c.args.limits.now c.args.sketch.now l.shortfall (window_of (entries_of l.store)) (contents_of l.store) l.memory
    (ap (least_recent l.shortfall) ((c.in_default.ensures {u = tt}).absent refl) ∙ least_recent-nil l.shortfall)
    ∙ l.invariant.4
