use Rattle.std.proofs.Common.{subst}
use Rattle.moka_common.specs.Keys.{Keys, keys_by}
use Rattle.moka_sync_model.specs.declared.constants.TheConstants.{CALLER}
use Rattle.moka_sync_model.specs.declared.event.Event.TheVariants.{Push}
use Rattle.moka_sync_model.specs.Run.{Happens}
use Rattle.moka_core.proofs.CallLemmas.{pushes_write}
use Rattle.moka_core.proofs.machine.Machine.push_write.Given.{Over}
use Rattle.moka_core.proofs.machine.Machine.push_write.Goals as goal

-- the keys of the core
abbrev keys : (g : Over) → Keys g.row.K.Denot g.row.S.Denot
keys g = keys_by (record { eq = g.K.PartialEq.eq; hash_input = g.K.Hash.hash_input }) g.S.BuildHasher g.S.Hasher.Hasher

pub returns-clause-step : goal.returns-clause-step
returns-clause-step g c =
    let weighs = g.W.WeighShared.weighs c.args.self.now.weigher in
    let next = c.maintain_if_due.new.self.state in
    pushes_write (keys g) g.met.K.Eq.laws weighs c.args.now c.len-writes.result c.args.self.now.state next c.push.new.self.state
    c.push.result c.requires.pends
    c.maintain_if_due.ensures.step (rw (← c.self.view_is) c.len-writes.ensures.len)
    (subst (λ w. Happens (keys g) (g.W.WeighShared.weighs w) next (Push CALLER) c.push.result c.push.new.self.state)
    c.maintain_if_due.ensures.weigher c.push.ensures.step)
