use Rattle.moka_common.specs.Keys.{keys_by}
use Rattle.moka_core.proofs.CallLemmas.{end_keeps_good}
use Rattle.moka_core.proofs.engine.Core.finish.Goals as goal

pub invariant_of-self : goal.invariant_of-self
invariant_of-self g c =
    let keys = keys_by (record { eq = g.K.PartialEq.eq; hash_input = g.K.Hash.hash_input }) g.S.BuildHasher g.S.Hasher.Hasher in
    let old = c.self.inside.machine in
    end_keeps_good keys g.met.K.Eq.laws (g.W.WeighShared.weighs old.weigher) old.state c.end_maintenance.result
    c.end_maintenance.new.self.state
    c.self.invariant c.end_maintenance.ensures.step
