use Rattle.std.proofs.Common.{None, ◌≡◌, ◌∙◌, ap, subst}
use Rattle.moka_common.specs.Keys.{keys_by}
use Rattle.moka_unsync_model.specs.Step.{Insert}
use Rattle.moka_row.specs.Kept.{Hears}
use Rattle.moka_segments.specs.Plan.{place_of}
use Rattle.moka_segments.specs.Calls.{Makes}
use Rattle.moka_segments.specs.Tells.{Gets, answer_of}
use Rattle.moka_segments.proofs.ToldLemmas.{finds_told}
use Rattle.moka_segments.proofs.own.tell_and_read.Goals as goal

pub returns : goal.returns
returns g c =
    let keys = keys_by (record { eq = g.K.PartialEq.eq; hash_input = g.K.Hash.hash_input }) g.S.BuildHasher g.S.Hasher.Hasher in
    let plan = c.args.writer.now.cache.plan in
    let v = c.args.writer.now.knows in
    let same_plan : c.learn.new.self.cache.plan ≡ plan = ap (λ k. k.plan) (c.learn.ensures.same ∙ c.requires.cache) in
    record {
      found = finds_told keys g.W.Weighing.weighs g.P.Rule.rules plan g.met.K.Eq.laws g.V.Clone.is_clone v c.insert.new.self.knows c.args.reader.now.knows
          c.learn.new.self.knows c.get.new.self.knows c.args.key
          c.args.value c.args.now c.in-Ok-get.found
          (subst (λ r. Makes keys g.W.Weighing.weighs g.P.Rule.rules plan v (place_of plan keys c.args.key) (Insert c.args.key c.args.value None c.args.now)
          (answer_of r) c.insert.new.self.knows) c.in-Ok.is
          c.insert.ensures.made.made)
          (subst (λ l. Hears c.args.reader.now.knows l c.learn.new.self.knows) (ap (λ n. n.seen) c.note.ensures.note) c.learn.ensures.told)
          (subst (λ r. Gets keys g.W.Weighing.weighs g.P.Rule.rules plan g.V.Clone.is_clone c.learn.new.self.knows c.args.key c.args.now r
          c.get.new.self.knows) c.in-Ok-get.is
          (subst (λ p. Gets keys g.W.Weighing.weighs g.P.Rule.rules p g.V.Clone.is_clone c.learn.new.self.knows c.args.key c.args.now c.get.result
          c.get.new.self.knows) same_plan c.get.ensures.made));
    }
