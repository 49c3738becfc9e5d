use Rattle.std.proofs.Common.{false}
use Rattle.moka_common.specs.Keys.{Keys, keys_by}
use Rattle.moka_core.proofs.MapTurnLemmas.{still_own, turned_at}
use Rattle.moka_core.proofs.map.Map.turn_of_scan.Given.{Over}
use Rattle.moka_core.proofs.map.Map.turn_of_scan.Goals as goal

-- the keys of the map
abbrev keys : (g : Over) → Keys g.row.K.Denot g.row.S.Denot
keys g = keys_by (record { eq = g.K.PartialEq.eq; hash_input = g.K.Hash.hash_input }) g.S.BuildHasher g.S.Hasher.Hasher

pub invariant_of-self : goal.invariant_of-self
invariant_of-self g c =
    let (valid_after, need) = rw (← c.self.view_is) at c.requires.need in
    still_own (keys g) c.self.inside.settings c.self.inside.shards.items c.self.invariant c.args.ticket _ c.scan.new.self
    c.index_mut-shard.ensures.value c.scan.ensures.valid valid_after false c.args.maintenance.now
    c.scan.new.maintenance
    (c.scan.ensures.shard c.self.inside.settings valid_after need)

pub returns : goal.returns
returns g c =
    rw (← c.self.view_is)
    (λ valid_after need.
    turned_at (keys g) c.self.inside.settings c.self.inside.shards.items c.self.invariant c.args.ticket _ c.scan.new.self
    c.index_mut-shard.ensures.value c.scan.ensures.valid valid_after false c.args.maintenance.now
    c.scan.new.maintenance
    (c.scan.ensures.shard c.self.inside.settings valid_after need))
