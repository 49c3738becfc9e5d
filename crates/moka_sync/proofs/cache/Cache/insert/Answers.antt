use Rattle.std.proofs.Common.{◌∙◌, [], ap, inl, refl}
use Rattle.moka_common.specs.Keys.{Keys, keys_by}
use Rattle.moka_locks.specs.Cache.{plan_of}
use Rattle.moka_row.specs.Visits.{guest, newcomer}
use Rattle.moka_locks.specs.Locked.{resting_at}
use Rattle.moka_sync.proofs.CallLemmas.{insert_tells}
use Rattle.moka_sync.proofs.cache.Cache.insert.Given.{Over}
use Rattle.moka_sync.proofs.cache.Cache.insert.Goals as goal

abbrev keys_of : (g : Over) → Keys g.row.K.Denot g.row.S.Denot
keys_of g = keys_by (record { eq = g.K.PartialEq.eq; hash_input = g.K.Hash.hash_input }) g.S.BuildHasher g.S.Hasher.Hasher

pub returns-in_default : goal.returns-in_default
returns-in_default g c =
    let knows = newcomer (plan_of c.args.self.now) (guest 0) in
    let rests = resting_at c.args.self.now knows [] in
    record { call = (0, [], rests, record { next = rests; first = inl refl; follows = refl }); made = (0, knows, inl refl) }

pub returns-clause-call : goal.returns-clause-call
returns-clause-call g c =
    let is = c.new.ensures.2 ∙ ap (λ x. resting_at x (newcomer (plan_of x) (guest c.new.ensures.0)) c.new.ensures.1) (c.get-2.ensures ∙ c.self.view_is) in
    let same = c.in-Some.ensures {u = tt} in
    (c.new.ensures.0, c.new.ensures.1, c.insert.new.steps, rw (← is, ← same.0, ← same.1) c.insert.ensures.call)

pub returns-clause-made : goal.returns-clause-made
returns-clause-made g c =
    let is = c.new.ensures.2 ∙ ap (λ x. resting_at x (newcomer (plan_of x) (guest c.new.ensures.0)) c.new.ensures.1) (c.get-2.ensures ∙ c.self.view_is) in
    let same = c.in-Some.ensures {u = tt} in (
      c.new.ensures.0,
      c.insert.new.steps.knows,
      (insert_tells (keys_of g) g.P.PairRule.holds g.W.WeighShared.weighs g.met.K.Eq.laws c.args.self.now
          (newcomer (plan_of c.args.self.now) (guest c.new.ensures.0)) c.new.ensures.1 _ c.insert.new.steps is c.args.key c.args.now c.args.value
          c.insert.result (rw
          (← same.0, ← same.1) c.insert.ensures.call)).1.0,
    )
