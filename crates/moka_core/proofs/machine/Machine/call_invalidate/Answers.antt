use Rattle.std.proofs.Common.{◌∙◌, ap, subst}
use Rattle.moka_common.specs.Keys.{Keys, keys_by}
use Rattle.moka_sync_model.specs.declared.constants.TheConstants.{CALLER}
use Rattle.moka_sync_model.specs.declared.event.Reply.TheVariants.{Done}
use Rattle.moka_sync_model.specs.declared.operation.Operation.TheVariants.{Writing}
use Rattle.moka_sync_model.proofs.CallLemmas.{none_pending}
use Rattle.moka_core.proofs.CallLemmas.{called_invalidate, idle_invalidate, left_is_pending, taken_pends}
use Rattle.moka_core.specs.Calls.{CorePushesWrite, having}
use Rattle.moka_core.proofs.machine.Machine.call_invalidate.Given.{Over}
use Rattle.moka_core.proofs.machine.Machine.call_invalidate.Goals as goal

-- the keys of the core
abbrev keys : (g : Over) → Keys g.row.K.Denot g.row.S.Denot
keys g = keys_by (record { eq = g.K.PartialEq.eq; hash_input = g.K.Hash.hash_input }) g.S.BuildHasher g.S.Hasher.Hasher

pub returns-in_default-clause-step : goal.returns-in_default-clause-step
returns-in_default-clause-step g c =
    let weighs = g.W.WeighShared.weighs c.args.self.now.weigher in
    let old = c.args.self.now.state in
    let new = c.remove_from_map.new.self.state in
    let none = none_pending (keys g) g.met.K.Eq.laws weighs old c.requires.rest.pending in
    let same = ap (λ s. s.pending) c.remove_from_map.ensures.kept.state in
    idle_invalidate (keys g) g.met.K.Eq.laws weighs old new c.requires.good c.requires.rest c.args.key.now c.args.now Done
    (none_pending (keys g) g.met.K.Eq.laws weighs new (same ∙ c.requires.rest.pending)) (c.in_default.ensures.taken CALLER c.args.now none)

pub log_write-requires-clause-pends : goal.log_write-requires-clause-pends
log_write-requires-clause-pends g c =
    let weighs = g.W.WeighShared.weighs c.args.self.now.weigher in
    let old = c.args.self.now.state in
    let new = c.remove_from_map.new.self.state in
    let none = none_pending (keys g) g.met.K.Eq.laws weighs old c.requires.rest.pending in
    let same = ap (λ s. s.pending) c.remove_from_map.ensures.kept.state in
    let write = Writing c.in-Some.write in
    taken_pends (keys g) g.met.K.Eq.laws weighs old (having write new) c.requires.good c.requires.rest c.args.key.now c.args.now Done write
    (left_is_pending (keys g) g.met.K.Eq.laws weighs old new write c.requires.rest.pending same)
    (c.in-Some.ensures.taken CALLER c.args.now none)

pub returns-clause-step : goal.returns-clause-step
returns-clause-step g c =
    let weighs = g.W.WeighShared.weighs c.args.self.now.weigher in
    let old = c.args.self.now.state in
    let new = c.remove_from_map.new.self.state in
    let none = none_pending (keys g) g.met.K.Eq.laws weighs old c.requires.rest.pending in
    let same = ap (λ s. s.pending) c.remove_from_map.ensures.kept.state in
    let write = Writing c.in-Some.write in
    called_invalidate (keys g) g.met.K.Eq.laws weighs old (having write new) c.requires.good c.requires.rest c.args.key.now c.args.now
    c.log_write.new.self.state Done write (left_is_pending (keys g) g.met.K.Eq.laws weighs old new write c.requires.rest.pending same)
    (c.in-Some.ensures.taken CALLER c.args.now none)
    (subst (λ w. CorePushesWrite (keys g) (g.W.WeighShared.weighs w) c.args.now (having write new) c.log_write.new.self.state)
    c.remove_from_map.ensures.kept.weigher c.log_write.ensures.step)
