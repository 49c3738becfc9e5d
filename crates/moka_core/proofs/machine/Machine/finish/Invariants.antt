use Rattle.std.proofs.Common.{◌≡◌}
use Rattle.moka_common.specs.Keys.{keys_by}
use Rattle.moka_sync_model.specs.Consistent.{IsConsistent}
use Rattle.moka_sync_model.specs.CoreCall.{CoreTurns}
use Rattle.moka_sync_model.specs.Phase.{Idle}
use Rattle.moka_sync_model.specs.TurnsLeft.{turns_left}
use Rattle.moka_core.proofs.machine.Machine.finish.Given as goal

-- a maintenance is under way, and the turns that it takes from here on follow those that it has taken
abbrev pub invariant-loop-self : goal.invariant-loop-self
invariant-loop-self g l = record {
  weigher : l.self.weigher ≡ l.fn.self.weigher;
  good : IsConsistent (keys_by (record { eq = g.K.PartialEq.eq; hash_input = g.K.Hash.hash_input }) g.S.BuildHasher g.S.Hasher.Hasher)
      l.self.state;
  busy : l.self.state.maintenance.phase ≡ Idle → ⊥;
  took : (end : _)
      → CoreTurns (keys_by (record { eq = g.K.PartialEq.eq; hash_input = g.K.Hash.hash_input }) g.S.BuildHasher g.S.Hasher.Hasher)
      (g.W.WeighShared.weighs l.fn.self.weigher) l.self.state end
      → CoreTurns (keys_by (record { eq = g.K.PartialEq.eq; hash_input = g.K.Hash.hash_input }) g.S.BuildHasher g.S.Hasher.Hasher)
      (g.W.WeighShared.weighs l.fn.self.weigher) l.fn.self.state end;
}

abbrev pub decreases-loop-self : goal.decreases-loop-self
decreases-loop-self g l = turns_left l.self.state
