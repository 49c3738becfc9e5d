use Rattle.std.proofs.Common.{refl, subst}
use Rattle.moka_common.specs.Keys.{Keys, keys_by}
use Rattle.moka_sync_model.specs.declared.constants.TheConstants.{CALLER}
use Rattle.moka_sync_model.specs.declared.event.Reply.TheVariants.{Done}
use Rattle.moka_sync_model.specs.declared.operation.Operation.TheVariants.{Writing}
use Rattle.moka_sync_model.proofs.CallLemmas.{none_pending}
use Rattle.moka_core.proofs.CallLemmas.{accepted_pends, called_insert, refusal_not_done, refused_insert}
use Rattle.moka_core.specs.Calls.{CorePushesWrite, having}
use Rattle.moka_core.specs.Machine.{refusal_reply}
use Rattle.moka_core.proofs.machine.Machine.call_insert.Given.{Over}
use Rattle.moka_core.proofs.machine.Machine.call_insert.Goals as goal

-- the keys of the core
abbrev keys : (g : Over) → Keys g.row.K.Denot g.row.S.Denot
keys g = keys_by (record { eq = g.K.PartialEq.eq; hash_input = g.K.Hash.hash_input }) g.S.BuildHasher g.S.Hasher.Hasher

pub log_write-requires-clause-pends : goal.log_write-requires-clause-pends
log_write-requires-clause-pends g c =
    let weighs = g.W.WeighShared.weighs c.args.self.now.weigher in
    let old = c.args.self.now.state in
    let none = none_pending (keys g) g.met.K.Eq.laws weighs old c.requires.rest.pending in
    accepted_pends (keys g) g.met.K.Eq.laws weighs old (having (Writing c.in-Ok.write) c.insert_into_map.new.self.state) c.requires.good
    c.requires.rest c.args.key c.args.value c.args.now Done refl (c.in-Ok.ensures.inserted CALLER none)

pub returns-in-Ok-clause-step : goal.returns-in-Ok-clause-step
returns-in-Ok-clause-step g c =
    let weighs = g.W.WeighShared.weighs c.args.self.now.weigher in
    let old = c.args.self.now.state in
    let none = none_pending (keys g) g.met.K.Eq.laws weighs old c.requires.rest.pending in
    let next = having (Writing c.in-Ok.write) c.insert_into_map.new.self.state in
    called_insert (keys g) g.met.K.Eq.laws weighs old next c.requires.good c.requires.rest c.args.key c.args.value c.args.now
    c.log_write.new.self.state Done refl (c.in-Ok.ensures.inserted CALLER none)
    (subst (λ w. CorePushesWrite (keys g) (g.W.WeighShared.weighs w) c.args.now next c.log_write.new.self.state)
    c.insert_into_map.ensures.kept.weigher c.log_write.ensures.step)

pub returns-in-Err-clause-step : goal.returns-in-Err-clause-step
returns-in-Err-clause-step g c =
    let weighs = g.W.WeighShared.weighs c.args.self.now.weigher in
    let old = c.args.self.now.state in
    let none = none_pending (keys g) g.met.K.Eq.laws weighs old c.requires.rest.pending in
    rw c.refusal.ensures (
    refused_insert (keys g) g.met.K.Eq.laws weighs old c.insert_into_map.new.self.state c.requires.good c.requires.rest c.args.key
    c.args.value
    c.args.now (refusal_reply c.in-Err.error) (refusal_not_done (keys g) g.met.K.Eq.laws weighs c.in-Err.error)
    (c.in-Err.ensures.refused CALLER none)
    )
