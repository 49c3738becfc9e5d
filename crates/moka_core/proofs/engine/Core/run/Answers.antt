use Rattle.moka_common.specs.Keys.{keys_by}
use Rattle.moka_core.proofs.CallLemmas.{run_or_refusal_keeps}
use Rattle.moka_core.proofs.engine.Core.run.Goals as goal

pub invariant_of-self : goal.invariant_of-self
invariant_of-self g c =
    let keys = keys_by (record { eq = g.K.PartialEq.eq; hash_input = g.K.Hash.hash_input }) g.S.BuildHasher g.S.Hasher.Hasher in
    run_or_refusal_keeps keys g.met.K.Eq.laws (g.W.WeighShared.weighs c.self.inside.machine.weigher) (λ replies. replies.items)
    c.self.inside.machine.state c.run.new.self.state c.args.events.items c.run.result c.self.invariant c.run.ensures.ok c.run.ensures.err
