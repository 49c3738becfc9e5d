use Rattle.std.proofs.Common.{refl}
use Rattle.moka_common.specs.Keys.{Keys, keys_by}
use Rattle.moka_sync_model.specs.declared.constants.TheConstants.{CALLER}
use Rattle.moka_sync_model.specs.declared.event.Reply.TheVariants.{Found, OutOfMemory}
use Rattle.moka_sync_model.proofs.CallLemmas.{none_pending}
use Rattle.moka_core.proofs.CallLemmas.{called_get, found_pends, refused_get}
use Rattle.moka_sync_model.specs.declared.operation.Operation.TheVariants.{Reading}
use Rattle.moka_core.specs.Calls.{having}
use Rattle.moka_core.proofs.machine.Machine.call_get.Given.{Over}
use Rattle.moka_core.proofs.machine.Machine.call_get.Goals as goal

-- the keys of the core
abbrev keys : (g : Over) → Keys g.row.K.Denot g.row.S.Denot
keys g = keys_by (record { eq = g.K.PartialEq.eq; hash_input = g.K.Hash.hash_input }) g.S.BuildHasher g.S.Hasher.Hasher

pub returns-in_default-clause-step : goal.returns-in_default-clause-step
returns-in_default-clause-step g c =
    let weighs = g.W.WeighShared.weighs c.args.self.now.weigher in
    let old = c.args.self.now.state in
    let none = none_pending (keys g) g.met.K.Eq.laws weighs old c.requires.rest.pending in
    refused_get (keys g) g.met.K.Eq.laws weighs old old c.requires.good c.requires.rest c.args.key.now c.args.now OutOfMemory
    (λ found is. cc)
    (c.in_default.ensures.refused CALLER none)

pub log_read-requires-clause-pends : goal.log_read-requires-clause-pends
log_read-requires-clause-pends g c =
    let weighs = g.W.WeighShared.weighs c.args.self.now.weigher in
    let old = c.args.self.now.state in
    let none = none_pending (keys g) g.met.K.Eq.laws weighs old c.requires.rest.pending in
    found_pends (keys g) g.met.K.Eq.laws weighs old (having (Reading c.in-Ok.logged.read) old) c.requires.good c.requires.rest
    c.args.key.now c.args.now
    (Found c.in-Ok.found) c.in-Ok.found refl (c.in-Ok.ensures.found CALLER none)

pub returns-clause-step : goal.returns-clause-step
returns-clause-step g c =
    let weighs = g.W.WeighShared.weighs c.args.self.now.weigher in
    let old = c.args.self.now.state in
    let none = none_pending (keys g) g.met.K.Eq.laws weighs old c.requires.rest.pending in
    called_get (keys g) g.met.K.Eq.laws weighs old (having (Reading c.in-Ok.logged.read) old) c.requires.good c.requires.rest
    c.args.key.now c.args.now
    c.log_read.new.self.state c.in-Ok.found (Found c.in-Ok.found) refl (c.in-Ok.ensures.found CALLER none) c.log_read.ensures.step
