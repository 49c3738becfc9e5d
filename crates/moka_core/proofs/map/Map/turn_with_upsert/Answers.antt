use Rattle.moka_common.specs.Keys.{Keys, keys_by}
use Rattle.moka_sync_model.specs.declared.operation.Write.TheVariants.{Upsert}
use Rattle.moka_maintenance.specs.Taken.{having_taken_write}
use Rattle.moka_core.proofs.MapTurnLemmas.{still_own, turned_at}
use Rattle.moka_core.proofs.map.Map.turn_with_upsert.Given.{Over}
use Rattle.moka_core.proofs.map.Map.turn_with_upsert.Goals as goal

-- the keys of the map
abbrev keys : (g : Over) → Keys g.row.K.Denot g.row.S.Denot
keys g = keys_by (record { eq = g.K.PartialEq.eq; hash_input = g.K.Hash.hash_input }) g.S.BuildHasher g.S.Hasher.Hasher

pub invariant_of-self : goal.invariant_of-self
invariant_of-self g c =
    let (refused, step) = c.apply_upsert.ensures.shard in
    let taken = having_taken_write (Upsert c.args.ticket) c.args.maintenance.now in
    still_own (keys g) c.self.inside.settings c.self.inside.shards.items c.self.invariant c.args.ticket _ c.apply_upsert.new.self
    c.index_mut-shard.ensures.value c.apply_upsert.ensures.valid 0 refused taken
    c.apply_upsert.new.maintenance (step 0)

pub returns : goal.returns
returns g c =
    let (refused, step) = c.apply_upsert.ensures.shard in
    let taken = having_taken_write (Upsert c.args.ticket) c.args.maintenance.now in
    rw (← c.self.view_is) (
      refused,
      λ valid_after. turned_at (keys g) c.self.inside.settings c.self.inside.shards.items c.self.invariant c.args.ticket _ c.apply_upsert.new.self
          c.index_mut-shard.ensures.value c.apply_upsert.ensures.valid valid_after refused taken
          c.apply_upsert.new.maintenance (step valid_after),
    )
