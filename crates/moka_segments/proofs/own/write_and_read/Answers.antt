use Rattle.std.proofs.Common.{None, ap, subst}
use Rattle.moka_common.specs.Keys.{keys_by}
use Rattle.moka_unsync_model.specs.Step.{Insert}
use Rattle.moka_segments.specs.Plan.{place_of}
use Rattle.moka_segments.specs.Calls.{Makes}
use Rattle.moka_segments.specs.Tells.{Gets, answer_of}
use Rattle.moka_segments.proofs.LawLemmas.{finds_own}
use Rattle.moka_segments.proofs.own.write_and_read.Goals as goal

pub returns-clause-found : goal.returns-clause-found
returns-clause-found g c =
    let keys = keys_by (record { eq = g.K.PartialEq.eq; hash_input = g.K.Hash.hash_input }) g.S.BuildHasher g.S.Hasher.Hasher in
    let plan = c.args.me.now.cache.plan in
    let v = c.args.me.now.knows in
    finds_own keys g.W.Weighing.weighs g.P.Rule.rules plan g.met.K.Eq.laws g.met.P.Rule.agree g.V.Clone.is_clone v c.insert.new.self.knows c.get.new.self.knows
    c.args.key c.args.value c.args.now c.in-Ok-get.found
    (subst (λ r. Makes keys g.W.Weighing.weighs g.P.Rule.rules plan v (place_of plan keys c.args.key) (Insert c.args.key c.args.value None c.args.now)
    (answer_of r) c.insert.new.self.knows) c.in-Ok.is
    c.insert.ensures.made.made)
    (subst (λ r. Gets keys g.W.Weighing.weighs g.P.Rule.rules plan g.V.Clone.is_clone c.insert.new.self.knows c.args.key c.args.now r c.get.new.self.knows)
    c.in-Ok-get.is
    (subst (λ p. Gets keys g.W.Weighing.weighs g.P.Rule.rules p g.V.Clone.is_clone c.insert.new.self.knows c.args.key c.args.now c.get.result
    c.get.new.self.knows) (ap (λ k. k.plan) c.insert.ensures.same)
    c.get.ensures.made))
