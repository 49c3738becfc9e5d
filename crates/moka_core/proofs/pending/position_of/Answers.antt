use Rattle.std.proofs.Common.{◌≡◌, true, nat_eq, length, take, arith, sym, ◌∙◌, ap}
use Rattle.std.specs.Map.{lookup}
use Rattle.std.proofs.Math.Seq.{take-length}
use Rattle.std.proofs.lemmas.Bool.{false_from_ne_true, eqb-true, eq-eqb}
use Rattle.moka_core.proofs.PendingLemmas.{lookup-at, lookup-take_more, remove-at, remove-none}
use Rattle.moka_core.proofs.pending.position_of.Goals as goal

pub returns-then-pending-caller-clause-found : goal.returns-then-pending-caller-clause-found
returns-then-pending-caller-clause-found c =
    let own : nat_eq c.args.caller c.index-operations-i.result.0 ≡ true =
    eq-eqb c.args.caller c.index-operations-i.result.0 (sym c.if-pending-caller.true) in
    record {
      pending = c.index-operations-i.result;
      below = c.loop-i-test.true;
      there = c.index-operations-i.is;
      value =
          lookup-at (nat_eq c.args.caller) c.args.operations.now c.loop-i.i c.index-operations-i.result c.loop-i-test.true
          c.index-operations-i.is c.loop-i.invariant own;
      rest =
          remove-at (nat_eq c.args.caller) c.args.operations.now c.loop-i.i c.index-operations-i.result c.loop-i-test.true
          c.index-operations-i.is c.loop-i.invariant own;
    }

pub loop-i-preserved : goal.loop-i-preserved
loop-i-preserved c =
    lookup-take_more (nat_eq c.args.caller) c.args.operations.now c.loop-i.i c.index-operations-i.result c.loop-i-test.true
    c.index-operations-i.is c.loop-i.invariant
    (false_from_ne_true (nat_eq c.args.caller c.index-operations-i.result.0)
    (λ same. c.if-pending-caller.false (sym (eqb-true c.args.caller c.index-operations-i.result.0 same))))

pub returns-clause-nothing : goal.returns-clause-nothing
returns-clause-nothing c =
    let all : c.loop-i.i ≡ length c.args.operations.now = omega (arith, c.loop-i-test.false, c.loop-i.auto.i-end) in
    remove-none (nat_eq c.args.caller) c.args.operations.now
    (sym (ap (lookup (nat_eq c.args.caller)) (ap (λ n. take n c.args.operations.now) all ∙ take-length c.args.operations.now))
    ∙ c.loop-i.invariant)
