use Rattle.moka_common.specs.Keys.{Keys, keys_by}
use Rattle.moka_sync_model.specs.Entry.{touched}
use Rattle.moka_sync_model.specs.Turn.Plan.{Becomes}
use Rattle.moka_core.proofs.MapTurnLemmas.{changed_at, own_changed}
use Rattle.moka_core.proofs.map.Map.touch_entry.Given.{Over}
use Rattle.moka_core.proofs.map.Map.touch_entry.Goals as goal

-- the keys of the map
abbrev keys : (g : Over) → Keys g.row.K.Denot g.row.S.Denot
keys g = keys_by (record { eq = g.K.PartialEq.eq; hash_input = g.K.Hash.hash_input }) g.S.BuildHasher g.S.Hasher.Hasher

pub invariant_of-self : goal.invariant_of-self
invariant_of-self g c =
    own_changed (keys g) c.self.inside.settings c.self.inside.shards.items c.self.invariant c.args.ticket
    (Becomes (touched c.args.moment)) _
    c.touch.new.self c.index_mut-shard.ensures.value c.touch.ensures.valid c.touch.ensures.step

pub returns : goal.returns
returns g c =
    rw (← c.self.view_is) (
    changed_at (keys g) c.self.inside.settings c.self.inside.shards.items c.self.invariant c.args.ticket (Becomes (touched c.args.moment)) _
    c.touch.new.self c.index_mut-shard.ensures.value c.touch.ensures.valid c.touch.ensures.step
    )
