use Rattle.std.proofs.Common.{◌≡◌, ◌∙◌, ◌<◌, ap, subst, sym}
use Rattle.moka_common.specs.Keys.{Keys, keys_by}
use Rattle.moka_sync_model.specs.declared.phase.Phase.TheVariants as name
use Rattle.moka_sync_model.specs.Consistent.{IsConsistent}
use Rattle.moka_sync_model.specs.CoreCall.{CoreTurns}
use Rattle.moka_sync_model.specs.Phase.{Idle, name_of}
use Rattle.moka_sync_model.specs.TurnsLeft.{turns_left}
use Rattle.moka_core.proofs.MaintenanceLemmas.{last_turn, next_advance, next_turn, still_busy, turn_keeps, turn_leaves}
use Rattle.moka_core.proofs.machine.Machine.finish.Given.{Over}
use Rattle.moka_core.proofs.machine.Machine.finish.Goals as goal

-- the keys of the core
abbrev keys : (g : Over) → Keys g.row.K.Denot g.row.S.Denot
keys g = keys_by (record { eq = g.K.PartialEq.eq; hash_input = g.K.Hash.hash_input }) g.S.BuildHasher g.S.Hasher.Hasher

pub loop-self-smaller-then-apply_next : goal.loop-self-smaller-then-apply_next
loop-self-smaller-then-apply_next g c =
    let weighs = g.W.WeighShared.weighs c.args.self.now.weigher in
    (next_advance (keys g) g.met.K.Eq.laws weighs c.loop-self.self.state c.apply_next.new.self.state c.if-apply_next.ensures.turns).leave
    c.loop-self.invariant.good

pub loop-self-preserved-then-apply_next : goal.loop-self-preserved-then-apply_next
loop-self-preserved-then-apply_next g c =
    let weighs = g.W.WeighShared.weighs c.args.self.now.weigher in
    let advances =
    next_advance (keys g) g.met.K.Eq.laws weighs c.loop-self.self.state c.apply_next.new.self.state c.if-apply_next.ensures.turns in
    record {
      weigher = c.apply_next.ensures.weigher ∙ c.loop-self.invariant.weigher;
      good = advances.keep c.loop-self.invariant.good;
      busy = advances.busy;
      took = λ end later. c.loop-self.invariant.took end (advances.follow end later);
    }

pub returns-in-Idle-clause-turns : goal.returns-in-Idle-clause-turns
returns-in-Idle-clause-turns g c =
    let weighs = g.W.WeighShared.weighs c.args.self.now.weigher in
    let turn = c.take_turn.ensures.turn in
    let new = c.take_turn.new.self.state in
    let same : c.apply_next.new.self.state ≡ c.loop-self.self.state = c.if-apply_next.ensures.turns.0.0 in
    c.loop-self.invariant.took new
    (subst (λ s. CoreTurns (keys g) weighs s new) same
    (last_turn (keys g) g.met.K.Eq.laws weighs turn.0 c.apply_next.new.self.state new
    (λ idle. c.loop-self.invariant.busy (sym (ap (λ s. s.maintenance.phase) same) ∙ idle)) turn.1
    (rw (← c.self.view_is) (sym c.phase.ensures ∙ c.in-Idle.is))))

pub loop-self-smaller : goal.loop-self-smaller
loop-self-smaller g c =
    let weighs = g.W.WeighShared.weighs c.args.self.now.weigher in
    let turn = c.take_turn.ensures.turn in
    let new = c.take_turn.new.self.state in
    let same : c.apply_next.new.self.state ≡ c.loop-self.self.state = c.if-apply_next.ensures.turns.0.0 in
    subst (λ s. turns_left new < turns_left s) same
    (turn_leaves (keys g) g.met.K.Eq.laws weighs turn.0 c.apply_next.new.self.state new
    (λ idle. c.loop-self.invariant.busy (sym (ap (λ s. s.maintenance.phase) same) ∙ idle)) turn.1
    (subst (IsConsistent (keys g)) (sym same) c.loop-self.invariant.good))

pub loop-self-preserved : goal.loop-self-preserved
loop-self-preserved g c =
    let weighs = g.W.WeighShared.weighs c.args.self.now.weigher in
    let turn = c.take_turn.ensures.turn in
    let new = c.take_turn.new.self.state in
    let same : c.apply_next.new.self.state ≡ c.loop-self.self.state = c.if-apply_next.ensures.turns.0.0 in
    let busy : c.apply_next.new.self.state.maintenance.phase ≡ Idle → ⊥ =
    λ idle. c.loop-self.invariant.busy (sym (ap (λ s. s.maintenance.phase) same) ∙ idle) in
    let more : name_of new.maintenance.phase ≡ name.Idle → ⊥ =
    rw (← c.self.view_is) (λ idle. c.in_default.not-Idle (c.phase.ensures ∙ idle)) in
    record {
      weigher = c.take_turn.ensures.kept.weigher ∙ c.apply_next.ensures.weigher ∙ c.loop-self.invariant.weigher;
      good = turn_keeps (keys g) g.met.K.Eq.laws weighs turn.0 c.apply_next.new.self.state new busy turn.1
          (subst (IsConsistent (keys g)) (sym same) c.loop-self.invariant.good);
      busy = still_busy (keys g) g.met.K.Eq.laws weighs new more;
      took = λ end later.
          c.loop-self.invariant.took end
          (subst (λ s. CoreTurns (keys g) weighs s end) same
          (next_turn (keys g) g.met.K.Eq.laws weighs turn.0 c.apply_next.new.self.state new busy turn.1 more end later));
    }
