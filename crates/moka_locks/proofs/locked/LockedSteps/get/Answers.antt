use Rattle.std.proofs.Common.{◌∙◌, Some, ap, subst}
use Rattle.moka_common.specs.Keys.{Keys, keys_by}
use Rattle.moka_sync_model.specs.declared.operation.Operation.TheVariants.{Reading}
use Rattle.moka_sync_model.specs.declared.operation.Read.TheVariants.{Miss}
use Rattle.moka_sync_model.specs.declared.ticket.Ticket.{Ticket}
use Rattle.moka_history.specs.Steps.{Gets}
use Rattle.moka_locks.specs.Cache.{Cache, Plan}
use Rattle.moka_locks.specs.Locked.{Locked, having_seen, knowing, leaving}
use Rattle.moka_locks.specs.Moments.{GoesOn, latest}
use Rattle.moka_locks.proofs.StepLemmas.{does_here, get_none, get_refused}
use Rattle.moka_locks.proofs.locked.LockedSteps.get.Given.{Over}
use Rattle.moka_locks.proofs.locked.LockedSteps.get.Goals as goal

-- how the keys are told apart and hashed
abbrev keys_of : (g : Over) → Keys g.row.K.Denot g.row.S.Denot
keys_of g = keys_by (record { eq = g.K.PartialEq.eq; hash_input = g.K.Hash.hash_input }) g.S.BuildHasher g.S.Hasher.Hasher

pub returns-in_err-found-clause-step : goal.returns-in_err-found-clause-step
returns-in_err-found-clause-step g c =
    let same = ap (λ (p : Plan g.row.S.Denot). p.settings) c.inner.inside.shards.planned
    ∙ (ap (λ (v : Cache g.row.S.Denot g.row.W.Denot). v.settings) c.inner.view_is
    ∙ ap (λ (l : Locked g.row.K.Denot g.row.V.Denot g.row.S.Denot g.row.W.Denot). l.cache.settings) c.self.view_is) in
    let known = ap (λ (l : Locked g.row.K.Denot g.row.V.Denot g.row.S.Denot g.row.W.Denot). l.knows) c.self.view_is in
    let seen = ap (λ (l : Locked g.row.K.Denot g.row.V.Denot g.row.S.Denot g.row.W.Denot). l.moments) c.self.view_is in
    let after = c.get.new.witness.me.0.seen in
    let refused = does_here {keys = keys_of g} c.args.key.now c.get.new.me.me.0 (λ does. (found : g.row.V.Denot × Ticket)
    × does (Gets c.args.key.now c.args.now (latest after) (Some found)))
    same known (c.in_err-found.ensures {u = tt}).refused in
    get_refused (keys_of g) g.P.PairRule.holds g.W.WeighShared.weighs c.args.self.now _ c.args.key.now c.args.now c.from_residual.result
    c.from_residual.ensures.0
    (refused.0, (refused.1, subst (λ before. GoesOn before after) seen c.get.ensures.moments))
    (ap (λ (l : Locked g.row.K.Denot g.row.V.Denot g.row.S.Denot g.row.W.Denot). having_seen after (knowing c.get.new.me.me.0 l)) c.self.view_is)

pub returns-in_default-clause-step : goal.returns-in_default-clause-step
returns-in_default-clause-step g c =
    let same = ap (λ (p : Plan g.row.S.Denot). p.settings) c.inner.inside.shards.planned
    ∙ (ap (λ (v : Cache g.row.S.Denot g.row.W.Denot). v.settings) c.inner.view_is
    ∙ ap (λ (l : Locked g.row.K.Denot g.row.V.Denot g.row.S.Denot g.row.W.Denot). l.cache.settings) c.self.view_is) in
    let known = ap (λ (l : Locked g.row.K.Denot g.row.V.Denot g.row.S.Denot g.row.W.Denot). l.knows) c.self.view_is in
    let seen = ap (λ (l : Locked g.row.K.Denot g.row.V.Denot g.row.S.Denot g.row.W.Denot). l.moments) c.self.view_is in
    let after = c.get.new.witness.me.0.seen in
    let hash = c.hash_of-hash.ensures ∙ ap (λ s. (keys_of g).hash_of s.hash_state c.args.key.now)
    (ap (λ (v : Cache g.row.S.Denot g.row.W.Denot). v.settings) c.inner.view_is
    ∙ ap (λ (l : Locked g.row.K.Denot g.row.V.Denot g.row.S.Denot g.row.W.Denot). l.cache.settings) c.self.view_is) in (
      get_none (keys_of g) g.P.PairRule.holds g.W.WeighShared.weighs c.args.self.now
          (having_seen after (knowing c.get.new.me.me.0 c.args.self.now)) c.args.key.now c.args.now c.in_ok-found.found c.in_default.is (
            does_here {keys = keys_of g} c.args.key.now c.get.new.me.me.0 (λ does. does (Gets c.args.key.now c.args.now (latest after) c.in_ok-found.found))
                same known (c.in_ok-found.ensures {u = tt}).made,
            subst (λ before. GoesOn before after) seen c.get.ensures.moments,
          ),
      λ j. leaving (Some (Reading (Miss (hash j)))) (having_seen after (knowing c.get.new.me.me.0 (c.self.view_is j))),
    )
