use Rattle.std.proofs.Common.{◌∙◌, ap, subst, sym}
use Rattle.moka_common.specs.Keys.{keys_by}
use Rattle.moka_core.specs.Shards.{AreOwn, map_in, states_of}
use Rattle.moka_core.proofs.NewLemmas.{map-started, none-each, started-all_own}
use Rattle.moka_core.proofs.map.Map.start_at.Goals as goal

pub start_all_at-requires : goal.start_all_at-requires
start_all_at-requires g c = none-each c.self.inside.shards.items (rw (← c.self.view_is) at c.requires)

pub invariant_of-self : goal.invariant_of-self
invariant_of-self g c =
    let keys = keys_by (record { eq = g.K.PartialEq.eq; hash_input = g.K.Hash.hash_input }) g.S.BuildHasher g.S.Hasher.Hasher in
    subst (λ shards. AreOwn keys c.self.inside.settings.hash_state (states_of shards)) (sym c.start_all_at.ensures)
    (started-all_own keys _ c.args.first c.self.inside.shards.items (rw (← c.self.view_is) at c.requires) c.self.invariant)

pub returns : goal.returns
returns g c =
    rw (← c.self.view_is)
    (ap (λ shards. map_in c.self.inside.settings (states_of shards)) c.start_all_at.ensures
    ∙ map-started c.self.inside.settings c.args.first c.self.inside.shards.items (c.self.invariant.count)
    (rw (← c.self.view_is) at c.requires))
