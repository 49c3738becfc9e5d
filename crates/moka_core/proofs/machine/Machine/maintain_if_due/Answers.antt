use Rattle.std.proofs.Common.{◌∙◌, sym, subst}
use Rattle.moka_common.specs.Keys.{Keys, keys_by}
use Rattle.moka_sync_model.specs.Consistent.{IsConsistent}
use Rattle.moka_core.proofs.CallLemmas.{maintains_as_due, rests_as_due, scheduled_is_good}
use Rattle.moka_core.specs.Calls.{CoreMaintains}
use Rattle.moka_core.proofs.machine.Machine.maintain_if_due.Given.{Over}
use Rattle.moka_core.proofs.machine.Machine.maintain_if_due.Goals as goal

-- the keys of the core
abbrev keys : (g : Over) → Keys g.row.K.Denot g.row.S.Denot
keys g = keys_by (record { eq = g.K.PartialEq.eq; hash_input = g.K.Hash.hash_input }) g.S.BuildHasher g.S.Hasher.Hasher

pub maintain-requires-clause-good : goal.maintain-requires-clause-good
maintain-requires-clause-good g c =
    let weighs = g.W.WeighShared.weighs c.args.self.now.weigher in
    subst (IsConsistent (keys g)) (sym c.schedule.ensures.state)
    (scheduled_is_good (keys g) g.met.K.Eq.laws weighs c.args.now c.args.self.now.state c.requires.pends.1.good)

pub returns-then-is_due-clause-step : goal.returns-then-is_due-clause-step
returns-then-is_due-clause-step g c =
    let weighs = g.W.WeighShared.weighs c.args.self.now.weigher in
    maintains_as_due (keys g) g.met.K.Eq.laws weighs c.args.now c.args.len c.args.self.now.state c.schedule.new.self.state
    c.maintain.new.self.state (rw (← c.self.view_is) (sym c.is_due.ensures ∙ c.if-is_due.true)) c.schedule.ensures.state
    (subst (λ w. CoreMaintains (keys g) (g.W.WeighShared.weighs w) c.args.now c.schedule.new.self.state c.maintain.new.self.state)
    c.schedule.ensures.weigher c.maintain.ensures.step)

pub returns-else-is_due-clause-step : goal.returns-else-is_due-clause-step
returns-else-is_due-clause-step g c =
    let weighs = g.W.WeighShared.weighs c.args.self.now.weigher in
    rests_as_due (keys g) g.met.K.Eq.laws weighs c.args.now c.args.len c.args.self.now.state
    (rw (← c.self.view_is) (sym c.is_due.ensures ∙ c.if-is_due.false))
