use Rattle.std.proofs.Common.{◌∙◌, ap, subst}
use Rattle.moka_common.specs.Keys.{Keys, keys_by}
use Rattle.moka_sync_model.specs.declared.constants.TheConstants.{CALLER}
use Rattle.moka_sync_model.specs.declared.operation.Operation.TheVariants.{Writing}
use Rattle.moka_sync_model.proofs.CallLemmas.{none_pending}
use Rattle.moka_core.proofs.CallLemmas.{called_remove, idle_remove, left_is_pending, removed_pends}
use Rattle.moka_core.specs.Calls.{CorePushesWrite, having}
use Rattle.moka_core.specs.Machine.{RemovesFor}
use Rattle.moka_core.proofs.machine.Machine.call_remove.Given.{Over}
use Rattle.moka_core.proofs.machine.Machine.call_remove.Goals as goal

-- the keys of the core
abbrev keys : (g : Over) → Keys g.row.K.Denot g.row.S.Denot
keys g = keys_by (record { eq = g.K.PartialEq.eq; hash_input = g.K.Hash.hash_input }) g.S.BuildHasher g.S.Hasher.Hasher

pub returns-in_default-clause-step : goal.returns-in_default-clause-step
returns-in_default-clause-step g c =
    let weighs = g.W.WeighShared.weighs c.args.self.now.weigher in
    let old = c.args.self.now.state in
    let new = c.remove_value-found.new.self.state in
    let found = c.remove_value-found.result.0 in
    let none = none_pending (keys g) g.met.K.Eq.laws weighs old c.requires.rest.pending in
    let same = ap (λ s. s.pending) c.remove_value-found.ensures.kept.state in
    let taken = subst (RemovesFor (keys g) weighs old new c.args.key.now c.args.now found) c.in_default.is c.remove_value-found.ensures.taken in
    idle_remove (keys g) g.met.K.Eq.laws weighs old new c.requires.good c.requires.rest c.args.key.now c.args.now found
    (none_pending (keys g) g.met.K.Eq.laws weighs new (same ∙ c.requires.rest.pending)) (taken CALLER none)

pub log_write-requires-clause-pends : goal.log_write-requires-clause-pends
log_write-requires-clause-pends g c =
    let weighs = g.W.WeighShared.weighs c.args.self.now.weigher in
    let old = c.args.self.now.state in
    let new = c.remove_value-found.new.self.state in
    let found = c.remove_value-found.result.0 in
    let none = none_pending (keys g) g.met.K.Eq.laws weighs old c.requires.rest.pending in
    let same = ap (λ s. s.pending) c.remove_value-found.ensures.kept.state in
    let write = Writing c.in-Some.write in
    let taken = subst (RemovesFor (keys g) weighs old new c.args.key.now c.args.now found) c.in-Some.is c.remove_value-found.ensures.taken in
    removed_pends (keys g) g.met.K.Eq.laws weighs old (having write new) c.requires.good c.requires.rest c.args.key.now c.args.now found write
    (left_is_pending (keys g) g.met.K.Eq.laws weighs old new write c.requires.rest.pending same) (taken CALLER none)

pub returns-clause-step : goal.returns-clause-step
returns-clause-step g c =
    let weighs = g.W.WeighShared.weighs c.args.self.now.weigher in
    let old = c.args.self.now.state in
    let new = c.remove_value-found.new.self.state in
    let found = c.remove_value-found.result.0 in
    let none = none_pending (keys g) g.met.K.Eq.laws weighs old c.requires.rest.pending in
    let same = ap (λ s. s.pending) c.remove_value-found.ensures.kept.state in
    let write = Writing c.in-Some.write in
    let taken = subst (RemovesFor (keys g) weighs old new c.args.key.now c.args.now found) c.in-Some.is c.remove_value-found.ensures.taken in
    called_remove (keys g) g.met.K.Eq.laws weighs old (having write new) c.requires.good c.requires.rest c.args.key.now c.args.now
    c.log_write.new.self.state found write (left_is_pending (keys g) g.met.K.Eq.laws weighs old new write c.requires.rest.pending same)
    (taken CALLER none)
    (subst (λ w. CorePushesWrite (keys g) (g.W.WeighShared.weighs w) c.args.now (having write new) c.log_write.new.self.state)
    c.remove_value-found.ensures.kept.weigher c.log_write.ensures.step)
