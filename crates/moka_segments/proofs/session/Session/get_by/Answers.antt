use Rattle.std.proofs.Common.{◌≡◌, rules, subst}
use Rattle.moka_common.specs.Keys.{Keys, hash_by, keys_by}
use Rattle.moka_segments.specs.declared.plan.Plan.{Plan}
use Rattle.moka_segments.specs.History.{Knows}
use Rattle.moka_segments.specs.Probes.{GetsBy}
use Rattle.moka_segments.proofs.session.Session.get_by.Given.{Over}
use Rattle.moka_segments.proofs.session.Session.get_by.Goals as goal

abbrev keys_of : (g : Over) → Keys g.row.K.Denot g.row.S.Denot
keys_of g = keys_by (record { eq = g.K.PartialEq.eq; hash_input = g.K.Hash.hash_input }) g.S.BuildHasher g.S.Hasher.Hasher

pub returns-clause-made : goal.returns-clause-made
returns-clause-made g c =
    let plan : c.deref.result.now.table.shared.key ≡ c.args.self.now.cache.plan = search rules in
    let knows : c.self.inside.caller.me.0 ≡ c.args.self.now.knows = search rules in
    subst (λ (z : Plan g.row.S.Denot × Knows g.row.K.Denot g.row.V.Denot g.row.S.Denot g.row.W.Denot).
    GetsBy (keys_of g) g.W.Weighing.weighs g.P.Rule.rules z.0 g.V.Clone.is_clone z.1 (g.Q.Lookup.stands_for c.args.probe)
    (hash_by g.S.BuildHasher g.S.Hasher.Hasher z.0.hash_state (g.Q.Hash.hash_input c.args.probe)) c.args.now c.get_by.result c.get_by.new.me.me.0)
    (λ j. (plan j, knows j)) c.get_by.ensures.made
