use Rattle.std.proofs.Common.{◌≡◌, Bool, IfSome, false, true, of_calls, refl, subst, sym}
use Rattle.moka_list.specs.Nodes.{IsIn}
use Rattle.moka_unsync_model.specs.Invalidate.{AnswersAt}
use Rattle.moka_unsync_model.proofs.ToldLemmas.{also_for, then_left, untold}
use Rattle.moka_store.specs.Store.{contents_of}
use Rattle.moka_list.proofs.WalkLemmas.{first_is_in, next_is_in}
use Rattle.moka_unsync.proofs.RemovalLemmas.{IsStop, answered, fewer_from, fewer_left, next_remains, remaining_first, remaining_kept}
use Rattle.moka_unsync.proofs.RemovalLemmas.{remaining_left, remaining_none}
use Rattle.moka_unsync.proofs.TurnLemmas.{continued, unmoved}
use Rattle.moka_unsync.proofs.removal.remove_where.Given.{Over}
use Rattle.moka_unsync.proofs.removal.remove_where.Goals.{After-predicate}
use Rattle.moka_unsync.proofs.removal.remove_where.Goals as goal

-- the walk is at the node whose entry the predicate was asked of
at : (g : Over) (c : After-predicate g) → IsStop c.loop-here.store c.loop-here.here c.next-here.result c.in-Some.id c.get-entry.result.now
at g c =
    record {
      distinct = c.next-here.ensures.distinct;
      stands = c.get-entry.ensures;
      here_is = c.in-Some.is;
      after_is = c.next-here.ensures.value;
    }

-- and that is what it answered
told : (g : Over) (c : After-predicate g) (said : Bool) → c.predicate.result ≡ said
    → AnswersAt (goal.F-step g) c.loop-here.predicate c.get-entry.result.now said c.predicate.new.self
told g c said is = answered g.K.PartialEq.eq (goal.F-step g) _ _ _ _ c.predicate.result said _ c.predicate.ensures refl refl is

pub loop-here-init : goal.loop-here-init
loop-here-init g c =
    record {
      callable = c.requires;
      stands =
          subst (λ o. IfSome o (λ id. IsIn c.args.store.now.nodes id)) (sym c.front-here.ensures.first)
          (first_is_in c.args.store.now.nodes);
      kept = unmoved;
      told = untold;
      remaining =
          remaining_first g.K.PartialEq.eq (goal.F-step g) c.args.predicate c.args.store.now c.front-here.result c.front-here.ensures.first;
    }

pub loop-here-smaller-then-predicate : goal.loop-here-smaller-then-predicate
loop-here-smaller-then-predicate g c =
    fewer_left (at g (goal.at.loop-here-smaller-then-predicate g c).After-predicate) g.K.PartialEq.eq c.leave.new.store c.leave.ensures.step

pub loop-here-preserved-then-predicate : goal.loop-here-preserved-then-predicate
loop-here-preserved-then-predicate g c =
    let asked = (goal.at.loop-here-preserved-then-predicate g c).After-predicate in
    let was = c.loop-here.invariant in
    record {
      callable = search of_calls;
      stands = next_remains (at g asked) g.K.PartialEq.eq c.leave.new.store c.leave.ensures.step;
      kept = continued was.kept c.leave.ensures.step.kept;
      told = then_left was.told (also_for (λ e there. tt) c.leave.ensures.told);
      remaining =
          remaining_left g.K.PartialEq.eq (goal.F-step g) _ _ _ _ (at g asked) (told g asked true c.if-predicate.true) c.leave.new.store
          c.leave.ensures.step was.remaining;
    }

pub loop-here-smaller : goal.loop-here-smaller
loop-here-smaller g c = fewer_from (at g (goal.at.loop-here-smaller g c).After-predicate)

pub loop-here-preserved : goal.loop-here-preserved
loop-here-preserved g c =
    let asked = (goal.at.loop-here-preserved g c).After-predicate in
    let was = c.loop-here.invariant in
    record {
      callable = search of_calls;
      stands =
          subst (λ o. IfSome o (λ j. IsIn c.loop-here.store.nodes j)) (sym c.next-here.ensures.value)
          (next_is_in c.in-Some.id c.loop-here.store.nodes);
      kept = was.kept;
      told = was.told;
      remaining =
          remaining_kept g.K.PartialEq.eq (goal.F-step g) _ _ _ _ (at g asked) (told g asked false c.if-predicate.false) was.remaining;
    }

pub returns-clause-step : goal.returns-clause-step
returns-clause-step g c =
    remaining_none g.K.PartialEq.eq (goal.F-step g) c.args.predicate c.loop-here.predicate (contents_of c.args.store.now) c.loop-here.store
    c.loop-here.here c.in_default.is c.loop-here.invariant.remaining
