use Rattle.moka_common.specs.Keys.{Keys, keys_by}
use Rattle.moka_core.proofs.MapTurnLemmas.{still_own, turned_at}
use Rattle.moka_core.proofs.map.Map.turn.Given.{Over}
use Rattle.moka_core.proofs.map.Map.turn.Goals as goal

-- the keys of the map
abbrev keys : (g : Over) → Keys g.row.K.Denot g.row.S.Denot
keys g = keys_by (record { eq = g.K.PartialEq.eq; hash_input = g.K.Hash.hash_input }) g.S.BuildHasher g.S.Hasher.Hasher

pub invariant_of-self : goal.invariant_of-self
invariant_of-self g c =
    let (refused, step) = c.turn.ensures.shard in
    still_own (keys g) c.self.inside.settings c.self.inside.shards.items c.self.invariant c.args.ticket _ c.turn.new.self
    c.index_mut-shard.ensures.value c.turn.ensures.valid c.args.valid_after refused c.args.maintenance.now
    c.turn.new.maintenance step

pub returns : goal.returns
returns g c =
    let (refused, step) = c.turn.ensures.shard in
    rw (← c.self.view_is) (
      refused,
      turned_at (keys g) c.self.inside.settings c.self.inside.shards.items c.self.invariant c.args.ticket _ c.turn.new.self
          c.index_mut-shard.ensures.value c.turn.ensures.valid c.args.valid_after refused c.args.maintenance.now
          c.turn.new.maintenance step,
    )
