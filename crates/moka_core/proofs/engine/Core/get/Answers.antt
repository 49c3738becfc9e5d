use Rattle.moka_common.specs.Keys.{Keys, keys_by}
use Rattle.moka_sync_model.specs.declared.call.Call.TheVariants as call
use Rattle.moka_sync_model.proofs.CallLemmas.{call_rests}
use Rattle.moka_core.proofs.engine.Core.get.Given.{Over}
use Rattle.moka_core.proofs.engine.Core.get.Goals as goal

-- the keys of the core
abbrev keys : (g : Over) → Keys g.row.K.Denot g.row.S.Denot
keys g = keys_by (record { eq = g.K.PartialEq.eq; hash_input = g.K.Hash.hash_input }) g.S.BuildHasher g.S.Hasher.Hasher

pub invariant_of-self : goal.invariant_of-self
invariant_of-self g c =
    let old = c.self.inside.machine in
    (call_rests (keys g) g.met.K.Eq.laws (g.W.WeighShared.weighs old.weigher) old.state
    (record { good = c.self.invariant; rest = rw (← c.self.view_is) at c.requires.rest }) (call.Get c.args.key.now c.args.now)
    c.call_get.result
    c.call_get.new.self.state c.call_get.ensures.step).good

pub returns-clause-rest : goal.returns-clause-rest
returns-clause-rest g c =
    let old = c.self.inside.machine in
    (call_rests (keys g) g.met.K.Eq.laws (g.W.WeighShared.weighs old.weigher) old.state
    (record { good = c.self.invariant; rest = rw (← c.self.view_is) at c.requires.rest }) (call.Get c.args.key.now c.args.now)
    c.call_get.result
    c.call_get.new.self.state c.call_get.ensures.step).rest

pub returns-clause-step : goal.returns-clause-step
returns-clause-step g c = rw (← c.self.view_is) c.call_get.ensures.step
