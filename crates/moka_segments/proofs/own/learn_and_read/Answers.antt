use Rattle.std.proofs.Common.{ap, subst}
use Rattle.moka_common.specs.Keys.{keys_by}
use Rattle.moka_segments.specs.Plan.{place_of}
use Rattle.moka_segments.specs.Tells.{Gets}
use Rattle.moka_row.specs.Visits.{at}
use Rattle.moka_segments.proofs.NoteLemmas.{finds_from_note}
use Rattle.moka_segments.proofs.own.learn_and_read.Goals as goal

pub returns-clause-found : goal.returns-clause-found
returns-clause-found g c =
    let keys = keys_by (record { eq = g.K.PartialEq.eq; hash_input = g.K.Hash.hash_input }) g.S.BuildHasher g.S.Hasher.Hasher in
    let plan = c.args.me.now.cache.plan in
    finds_from_note keys g.W.Weighing.weighs g.P.Rule.rules plan g.V.Clone.is_clone c.learn.new.self.knows c.get.new.self.knows c.args.key.now c.args.now
    c.in-Ok.found (at c.args.note.seen (place_of plan keys c.args.key.now)) (c.learn.ensures.told.learns (place_of plan keys c.args.key.now))
    (subst (λ r. Gets keys g.W.Weighing.weighs g.P.Rule.rules plan g.V.Clone.is_clone c.learn.new.self.knows c.args.key.now c.args.now r c.get.new.self.knows)
    c.in-Ok.is
    (subst (λ p. Gets keys g.W.Weighing.weighs g.P.Rule.rules p g.V.Clone.is_clone c.learn.new.self.knows c.args.key.now c.args.now c.get.result
    c.get.new.self.knows)
    (ap (λ k. k.plan) c.learn.ensures.same) c.get.ensures.made))
