use Rattle.std.proofs.Common.{◌∙◌, Some, ap, subst}
use Rattle.moka_common.specs.Keys.{Keys, keys_by}
use Rattle.moka_sync_model.specs.declared.ticket.Ticket.{Ticket}
use Rattle.moka_history.specs.Steps.{Gets}
use Rattle.moka_locks.specs.Cache.{Cache, Plan}
use Rattle.moka_locks.specs.Locked.{Locked, having_seen, knowing}
use Rattle.moka_locks.specs.Moments.{GoesOn, latest}
use Rattle.moka_locks.proofs.StepLemmas.{does_here, take_refused}
use Rattle.moka_locks.proofs.locked.LockedTakingSteps.take.Given.{Over}
use Rattle.moka_locks.proofs.locked.LockedTakingSteps.take.Goals as goal

-- how the keys are told apart and hashed
abbrev keys_of : (g : Over) → Keys g.row.K.Denot g.row.S.Denot
keys_of g = keys_by (record { eq = g.K.PartialEq.eq; hash_input = g.K.Hash.hash_input }) g.S.BuildHasher g.S.Hasher.Hasher

pub returns-in_err-handed-clause-step : goal.returns-in_err-handed-clause-step
returns-in_err-handed-clause-step g c =
    let refused = (c.in_err-handed.ensures {u = tt}).refused in
    let same = ap (λ (p : Plan g.row.S.Denot). p.settings) c.inner.inside.shards.planned
    ∙ (ap (λ (v : Cache g.row.S.Denot g.row.W.Denot). v.settings) c.inner.view_is
    ∙ ap (λ (l : Locked g.row.K.Denot g.row.V.Denot g.row.S.Denot g.row.W.Denot). l.cache.settings) c.self.view_is) in
    let known = ap (λ (l : Locked g.row.K.Denot g.row.V.Denot g.row.S.Denot g.row.W.Denot). l.knows) c.self.view_is in
    let seen = ap (λ (l : Locked g.row.K.Denot g.row.V.Denot g.row.S.Denot g.row.W.Denot). l.moments) c.self.view_is in
    let after = c.take.new.witness.me.0.seen in
    let gets = does_here {keys = keys_of g} c.args.key.now c.take.new.me.me.0 (λ does. (found : g.row.V.Denot × Ticket)
    × does (Gets c.args.key.now c.args.now (latest after) (Some found)))
    same known refused.0 in
    take_refused (keys_of g) g.P.PairRule.holds g.W.WeighShared.weighs c.args.self.now _ c.args.key.now c.args.now g.V.Clone.is_clone
    g.V.Clone.is_infallible c.from_residual.result c.from_residual.ensures.0
    (gets.0, (gets.1, subst (λ before. GoesOn before after) seen c.take.ensures.moments))
    refused.1
    (ap (λ (l : Locked g.row.K.Denot g.row.V.Denot g.row.S.Denot g.row.W.Denot). having_seen after (knowing c.take.new.me.me.0 l)) c.self.view_is)
