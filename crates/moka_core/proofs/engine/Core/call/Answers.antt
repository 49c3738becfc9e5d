use Rattle.moka_common.specs.Keys.{Keys, keys_by}
use Rattle.moka_sync_model.proofs.CallLemmas.{call_rests}
use Rattle.moka_core.proofs.engine.Core.call.Given.{Over}
use Rattle.moka_core.proofs.engine.Core.call.Goals as goal

-- the keys of the core
abbrev keys : (g : Over) → Keys g.row.K.Denot g.row.S.Denot
keys g = keys_by (record { eq = g.K.PartialEq.eq; hash_input = g.K.Hash.hash_input }) g.S.BuildHasher g.S.Hasher.Hasher

pub invariant_of-self : goal.invariant_of-self
invariant_of-self g c =
    let old = c.self.inside.machine in
    (call_rests (keys g) g.met.K.Eq.laws (g.W.WeighShared.weighs old.weigher) old.state
    (record { good = c.self.invariant; rest = rw (← c.self.view_is) at c.requires.rest }) c.args.call c.call.result c.call.new.self.state
    c.call.ensures.step).good

pub returns-clause-rest : goal.returns-clause-rest
returns-clause-rest g c =
    let old = c.self.inside.machine in
    (call_rests (keys g) g.met.K.Eq.laws (g.W.WeighShared.weighs old.weigher) old.state
    (record { good = c.self.invariant; rest = rw (← c.self.view_is) at c.requires.rest }) c.args.call c.call.result c.call.new.self.state
    c.call.ensures.step).rest
