use Rattle.std.proofs.Common.{◌∙◌, IfSome, subst, sym}
use Rattle.moka_list.specs.Nodes.{IsIn}
use Rattle.moka_unsync_model.specs.Cleanup.{is_expired}
use Rattle.moka_unsync_model.proofs.ToldLemmas.{also_for, then_left, untold}
use Rattle.moka_store.specs.Store.{contents_of}
use Rattle.moka_list.proofs.WalkLemmas.{first_is_in, next_is_in}
use Rattle.moka_unsync.proofs.RemovalLemmas.{IsStop, fewer_from, fewer_left, leaving_first, leaving_kept, leaving_left, leaving_none}
use Rattle.moka_unsync.proofs.RemovalLemmas.{never_expired, next_remains, none_leaves, passes_there}
use Rattle.moka_unsync.proofs.TurnLemmas.{continued, unmoved}
use Rattle.moka_unsync.proofs.removal.remove_expired.Given.{Over}
use Rattle.moka_unsync.proofs.removal.remove_expired.Goals.{After-is_expired}
use Rattle.moka_unsync.proofs.removal.remove_expired.Goals as goal

-- the walk is at the node whose entry was looked at
at : (g : Over) (c : After-is_expired g) → IsStop c.loop-next.store c.loop-next.next c.next-next.result c.in-Some.id c.get.result.now
at g c =
    record {
      distinct = c.next-next.ensures.distinct;
      stands = c.get.ensures;
      here_is = c.in-Some.is;
      after_is = c.next-next.ensures.value;
    }

pub returns-then-not-has_duration-clause-step : goal.returns-then-not-has_duration-clause-step
returns-then-not-has_duration-clause-step g c =
    none_leaves (is_expired c.args.bounds.now c.args.now) g.K.PartialEq.eq
    (never_expired c.args.bounds.now c.args.now (sym c.has_duration.ensures ∙ c.if-not-has_duration.true)) (contents_of c.args.store.now)

pub loop-next-init : goal.loop-next-init
loop-next-init g c =
    record {
      stands =
          subst (λ o. IfSome o (λ id. IsIn c.args.store.now.nodes id)) (sym c.front-next.ensures.first)
          (first_is_in c.args.store.now.nodes);
      kept = unmoved;
      told = untold;
      leaving =
          leaving_first (is_expired c.args.bounds.now c.args.now) g.K.PartialEq.eq c.args.store.now c.front-next.result c.front-next.ensures.first;
    }

pub loop-next-smaller-then-is_expired : goal.loop-next-smaller-then-is_expired
loop-next-smaller-then-is_expired g c =
    fewer_left (at g (goal.at.loop-next-smaller-then-is_expired g c).After-is_expired) g.K.PartialEq.eq c.leave.new.store c.leave.ensures.step

pub loop-next-preserved-then-is_expired : goal.loop-next-preserved-then-is_expired
loop-next-preserved-then-is_expired g c =
    let stop = at g (goal.at.loop-next-preserved-then-is_expired g c).After-is_expired in
    let was = c.loop-next.invariant in
    let expired = sym c.is_expired.ensures ∙ c.if-is_expired.true in
    record {
      stands = next_remains stop g.K.PartialEq.eq c.leave.new.store c.leave.ensures.step;
      kept = continued was.kept c.leave.ensures.step.kept;
      told = then_left was.told (also_for (passes_there (is_expired c.args.bounds.now c.args.now) stop expired) c.leave.ensures.told);
      leaving =
          leaving_left (is_expired c.args.bounds.now c.args.now) g.K.PartialEq.eq (contents_of c.args.store.now) stop was.leaving expired
          c.leave.new.store c.leave.ensures.step;
    }

pub loop-next-smaller : goal.loop-next-smaller
loop-next-smaller g c = fewer_from (at g (goal.at.loop-next-smaller g c).After-is_expired)

pub loop-next-preserved : goal.loop-next-preserved
loop-next-preserved g c =
    let stop = at g (goal.at.loop-next-preserved g c).After-is_expired in
    let was = c.loop-next.invariant in
    record {
      stands =
          subst (λ o. IfSome o (λ j. IsIn c.loop-next.store.nodes j)) (sym c.next-next.ensures.value)
          (next_is_in c.in-Some.id c.loop-next.store.nodes);
      kept = was.kept;
      told = was.told;
      leaving =
          leaving_kept (is_expired c.args.bounds.now c.args.now) g.K.PartialEq.eq (contents_of c.args.store.now) stop was.leaving
          (sym c.is_expired.ensures ∙ c.if-is_expired.false);
    }

pub returns-clause-step : goal.returns-clause-step
returns-clause-step g c =
    leaving_none (is_expired c.args.bounds.now c.args.now) g.K.PartialEq.eq (contents_of c.args.store.now) c.loop-next.store c.loop-next.next
    c.in_default.is c.loop-next.invariant.leaving
