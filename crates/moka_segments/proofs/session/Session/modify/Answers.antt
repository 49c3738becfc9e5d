use Rattle.std.proofs.Common.{◌≡◌, rules, subst}
use Rattle.std.specs.Fn.{FnOnceReturnsAtMut}
use Rattle.moka_common.specs.Keys.{Keys, keys_by}
use Rattle.moka_segments.specs.declared.plan.Plan.{Plan}
use Rattle.moka_segments.specs.History.{Knows}
use Rattle.moka_segments.specs.Modify.{Modifies}
use Rattle.moka_segments.proofs.session.Session.modify.Given.{Over}
use Rattle.moka_segments.proofs.session.Session.modify.Goals as goal

abbrev keys_of : (g : Over) → Keys g.row.K.Denot g.row.S.Denot
keys_of g = keys_by (record { eq = g.K.PartialEq.eq; hash_input = g.K.Hash.hash_input }) g.S.BuildHasher g.S.Hasher.Hasher

pub returns-clause-made : goal.returns-clause-made
returns-clause-made g c =
    let plan : c.deref.result.now.table.shared.key ≡ c.args.self.now.cache.plan = search rules in
    let knows : c.self.inside.caller.me.0 ≡ c.args.self.now.knows = search rules in
    subst (λ (z : Plan g.row.S.Denot × Knows g.row.K.Denot g.row.V.Denot g.row.S.Denot g.row.W.Denot).
    Modifies (keys_of g) g.W.Weighing.weighs g.P.Rule.rules z.0 (λ before after. FnOnceReturnsAtMut g.F.FnOnce c.args.change before tt after) z.1
    c.args.key.now c.args.now c.modify.result c.modify.new.me.me.0)
    (λ j. (plan j, knows j)) c.modify.ensures.made
