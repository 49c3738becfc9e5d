use Rattle.std.proofs.Common.{◌≡◌, ◌∙◌, Some, None, true, ap}
use Rattle.std.specs.Option.{option_map}
use Rattle.moka_common.specs.Keys.{Keys, keys_by}
use Rattle.moka_locks.specs.Locked.{Locked, locked_caller, running}
use Rattle.moka_locks.specs.SameTickets.{AtWork}
use Rattle.moka_sync_model.specs.Steps.{maintaining}
use Rattle.moka_sync_model.proofs.StepsLemmas.{goes_on_elsewhere}
use Rattle.moka_locks.proofs.TurnLemmas.{given_back, kept_elsewhere, turns_allowed}
use Rattle.moka_locks.proofs.locked.LockedSteps.turn.Goals.{In_default-phase}
use Rattle.moka_locks.proofs.locked.LockedSteps.turn.Given.{Over}
use Rattle.moka_locks.proofs.locked.LockedSteps.turn.Goals as goal

-- how the keys are told apart and hashed
abbrev keys_of : (g : Over) → Keys g.row.K.Denot g.row.S.Denot
keys_of g = keys_by (record { eq = g.K.PartialEq.eq; hash_input = g.K.Hash.hash_input }) g.S.BuildHasher g.S.Hasher.Hasher

-- the caller had a maintenance under way
had : (g : Over) (c : In_default-phase g) → c.args.self.now.working ≡ Some c.in-Some.running.working
had g c = rw (← c.self.view_is) (ap (option_map (λ (r : AtWork). r.working)) c.in-Some.is)

pub returns-in_default-phase : goal.returns-in_default-phase
returns-in_default-phase g c = record {
  turns =
      turns_allowed (keys_of g) g.P.PairRule.holds g.W.WeighShared.weighs c.args.self.now c.in-Some.running.working c.turn-phase.new.self.working
      (had g c) c.turn-phase.result
      c.turn-phase.ensures.phase _
      (rw (kept_elsewhere c.turn-phase.new.self.working c.turn-phase.result c.turn-phase.ensures.phase c.in_default-phase.not-Idle)
      (ap (λ (l : Locked g.row.K.Denot g.row.V.Denot g.row.S.Denot g.row.W.Denot). record l { working = Some c.turn-phase.new.self.working }) c.self.view_is))
      (rw (← c.self.view_is) c.turn-phase.ensures.turns);
  caller = rw (goes_on_elsewhere c.turn-phase.result c.in_default-phase.not-Idle)
      (ap (λ (l : Locked g.row.K.Denot g.row.V.Denot g.row.S.Denot g.row.W.Denot). maintaining true (locked_caller l)) c.self.view_is);
}

pub returns-in-Idle-clause-turns : goal.returns-in-Idle-clause-turns
returns-in-Idle-clause-turns g c =
    let next = c.turn-phase.new.self.working in
    let phase = c.turn-phase.ensures.phase in
    turns_allowed (keys_of g) g.P.PairRule.holds g.W.WeighShared.weighs c.args.self.now c.in-Some.running.working next
    (rw (← c.self.view_is) (ap (option_map (λ (r : AtWork). r.working)) c.in-Some.is)) c.turn-phase.result phase _
    (rw (given_back next c.turn-phase.result phase c.in-Idle.is)
    (c.end.ensures ∙ ap (λ (l : Locked g.row.K.Denot g.row.V.Denot g.row.S.Denot g.row.W.Denot). running None l) c.self.view_is))
    (rw (← c.self.view_is) c.turn-phase.ensures.turns)
