use Rattle.std.proofs.Common.{◌≡◌, ◌∙◌, None, subst, sym}
use Rattle.moka_common.specs.Keys.{Keys, keys_by}
use Rattle.moka_sync_model.specs.CoreState.{pending_of}
use Rattle.moka_core.proofs.StepLemmas.{none_found}
use Rattle.moka_core.specs.Machine.{RemovesFor}
use Rattle.moka_core.proofs.machine.Machine.take.Given.{Over}
use Rattle.moka_core.proofs.machine.Machine.take.Goals as goal

-- the keys of the core
abbrev keys : (g : Over) → Keys g.row.K.Denot g.row.S.Denot
keys g = keys_by (record { eq = g.K.PartialEq.eq; hash_input = g.K.Hash.hash_input }) g.S.BuildHasher g.S.Hasher.Hasher

pub returns-in_default-clause-step : goal.returns-in_default-clause-step
returns-in_default-clause-step g c =
    let weighs = g.W.WeighShared.weighs c.args.self.now.weigher in
    let none : pending_of c.args.caller c.args.self.now.state ≡ None =
    rw (← c.self.view_is) (sym c.of.ensures ∙ none_found c.of.result c.if-is_some.ensures) in
    let taken =
    subst (RemovesFor (keys g) weighs c.args.self.now.state c.remove_value-found.new.self.state c.args.key.now c.args.now
    c.remove_value-found.result.0) c.in_default.is c.remove_value-found.ensures.taken in
    taken c.args.caller none

pub returns-clause-step : goal.returns-clause-step
returns-clause-step g c =
    let weighs = g.W.WeighShared.weighs c.args.self.now.weigher in
    let none : pending_of c.args.caller c.args.self.now.state ≡ None =
    rw (← c.self.view_is) (sym c.of.ensures ∙ none_found c.of.result c.if-is_some.ensures) in
    let taken =
    subst (RemovesFor (keys g) weighs c.args.self.now.state c.remove_value-found.new.self.state c.args.key.now c.args.now
    c.remove_value-found.result.0) c.in-Some.is c.remove_value-found.ensures.taken in
    let step = taken c.args.caller none in
    rw (c.put.ensures.operations) (rw (← c.self-2.view_is) at step)
