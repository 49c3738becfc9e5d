use Rattle.std.proofs.Common.{◌≡◌, ℕ, rules, subst, sym}
use Rattle.moka_common.specs.Keys.{Keys, keys_by}
use Rattle.moka_segments.specs.declared.plan.Plan.{Plan}
use Rattle.moka_segments.specs.History.{Knows}
use Rattle.moka_segments.specs.TellsAll.{SweepsAll}
use Rattle.moka_segments.proofs.session.Session.remove_expired.Given.{Over}
use Rattle.moka_segments.proofs.session.Session.remove_expired.Goals as goal

abbrev keys_of : (g : Over) → Keys g.row.K.Denot g.row.S.Denot
keys_of g = keys_by (record { eq = g.K.PartialEq.eq; hash_input = g.K.Hash.hash_input }) g.S.BuildHasher g.S.Hasher.Hasher

pub returns-clause-made : goal.returns-clause-made
returns-clause-made g c =
    let plan : c.deref.result.now.table.shared.key ≡ c.args.self.now.cache.plan = search rules in
    let knows : c.self.inside.caller.me.0 ≡ c.args.self.now.knows = search rules in
    let count : c.deref.result.now.plan.count ≡ c.args.self.now.cache.plan.count = search rules in
    subst (λ (z : Plan g.row.S.Denot × (Knows g.row.K.Denot g.row.V.Denot g.row.S.Denot g.row.W.Denot × ℕ)).
    SweepsAll (keys_of g) g.W.Weighing.weighs g.P.Rule.rules z.0 c.args.now z.1.0 z.1.1 c.remove_expired.new.me.me.0)
    (λ j. (plan j, (knows j, count j))) c.remove_expired.ensures.made

pub remove_expired-requires-clause-owns : goal.remove_expired-requires-clause-owns
remove_expired-requires-clause-owns g c =
    let knows : c.self.inside.caller.me.0 ≡ c.args.self.now.knows = search rules in
    λ key. subst (λ (k : Knows g.row.K.Denot g.row.V.Denot g.row.S.Denot g.row.W.Denot). g.P.Rule.rules.owns k.by key) (sym knows)
    (c.requires.owns key)
