use Rattle.std.proofs.Common.{◌≡◌, ◌∙◌, [], ◌∷◌, ap, append_assoc, arith, length, refl, subst, sym}
use Rattle.std.proofs.lemmas.List.{append-nil, nil_from_length}
use Rattle.std.specs.Vec.Iter.{into_iter_items}
use Rattle.moka_common.specs.Keys.{Keys, keys_by}
use Rattle.moka_sync_model.specs.Run.{Happens, RunsTo}
use Rattle.moka_core.specs.Machine.{Machine}
use Rattle.moka_core.proofs.machine.Machine.run.Given.{Over}
use Rattle.moka_core.proofs.machine.Machine.run.Goals as goal

-- the keys of the core
abbrev keys : (g : Over) → Keys g.row.K.Denot g.row.S.Denot
keys g = keys_by (record { eq = g.K.PartialEq.eq; hash_input = g.K.Hash.hash_input }) g.S.BuildHasher g.S.Hasher.Hasher

pub returns-in_default-clause-err : goal.returns-in_default-clause-err
returns-in_default-clause-err g c = rw (c.reserve.ensures.unchanged, ← c.self.view_is) refl

pub loop-event-init : goal.loop-event-init
loop-event-init g c =
    let items = c.into_iter-event-iterator.ensures.into_iter_gives.0 in
    let lens = ap length items in
    record {
      weigher = ap (λ (v : Machine g.row.K.Denot g.row.V.Denot g.row.S.Denot g.row.W.Denot). v.weigher) c.self.view_is;
      room = omega (arith, lens, c.len-2.ensures, (c.in-Ok.ensures {u = tt}).ok);
      space = omega (arith, lens, c.len.ensures, (c.in_ok-replies.ensures {u = tt}).len, (c.in_ok-replies.ensures {u = tt}).capacity);
      ran = λ end rest runs.
          rw ((c.in_ok-replies.ensures {u = tt}).items, ← c.self.view_is, ← items)
          (rw (← c.self.view_is, c.reserve.ensures.unchanged) at runs);
    }

pub loop-event-preserved : goal.loop-event-preserved
loop-event-preserved g c =
    let weighs = g.W.WeighShared.weighs c.args.self.now.weigher in
    let invariant = c.loop-event.invariant in
    let items = c.in-Some.ensures.steps.0 in
    let lens = ap length items in
    record {
      weigher = c.step.ensures.kept.weigher ∙ invariant.weigher;
      room = omega (arith, lens, invariant.room, c.step.ensures.kept.room);
      space = rw (c.push_reserved.ensures.len, c.push_reserved.ensures.capacity) (grind (arith, lens, invariant.space));
      ran = λ end rest runs.
          rw (c.push_reserved.ensures.items, append_assoc)
          (invariant.ran end (c.step.result ∷ rest)
          (subst (λ events. RunsTo (keys g) weighs c.loop-event.self.state events (c.step.result ∷ rest) end) (sym items) (
            c.step.new.self.state,
            subst (λ w. Happens (keys g) (g.W.WeighShared.weighs w) c.loop-event.self.state c.in-Some.event c.step.result
                c.step.new.self.state)
                invariant.weigher c.step.ensures.step,
            runs,
          )));
    }

pub returns-clause-ok : goal.returns-clause-ok
returns-clause-ok g c =
    let weighs = g.W.WeighShared.weighs c.args.self.now.weigher in
    let none : into_iter_items c.loop-event.event-iterator ≡ [] =
    nil_from_length (into_iter_items c.loop-event.event-iterator)
    (sym c.loop-event.event-iterator.rest.ok.0 ∙ c.in-None.ensures.steps.0) in
    rw append-nil at
    (c.loop-event.invariant.ran c.loop-event.self.state []
    (subst (λ events. RunsTo (keys g) weighs c.loop-event.self.state events [] c.loop-event.self.state) (sym none) refl))
