use Rattle.std.proofs.Common.{◌≡◌, ap}
use Rattle.moka_common.proofs.KeysLemmas.{keys_by-respects}
use Rattle.moka_common.specs.Keys.{Keys, keys_by}
use Rattle.moka_sync_model.specs.Entry.{entry_at}
use Rattle.moka_sync_model.specs.Parts.{entries_of}
use Rattle.moka_sync_model.specs.Ticket.{shard_of}
use Rattle.moka_shard.specs.Shard.{entries_in}
use Rattle.moka_core.specs.Shards.{states_of}
use Rattle.moka_core.proofs.ShardsLemmas.{entry_at-own, here_own, here_state}
use Rattle.moka_core.proofs.map.Map.get.Given.{Over}
use Rattle.moka_core.proofs.map.Map.get.Goals.{After-get, After-index-shard}
use Rattle.moka_core.proofs.map.Map.get.Goals as goal

-- the keys of the map
abbrev keys : (g : Over) → Keys g.row.K.Denot g.row.S.Denot
keys g = keys_by (record { eq = g.K.PartialEq.eq; hash_input = g.K.Hash.hash_input }) g.S.BuildHasher g.S.Hasher.Hasher

-- the hash is the key's, by the hash state of its shard
own_hash : (g : Over) (c : After-index-shard g)
    → c.args.hash ≡ (keys g).hash_of c.index-shard.result.now.hash_state c.args.key.now
own_hash g c =
    let hashed = rw (← c.self.view_is) at c.requires in
    rw (here_own (keys g) _ c.self.inside.shards.items c.self.invariant c.args.hash _ c.index-shard.ensures).shared hashed

-- the entry of the key, among all and in its shard
same_entry : (g : Over) (c : After-get g)
    → entry_at g.K.PartialEq.eq c.args.key.now (entries_in c.index-shard.result.now.slots)
    ≡ entry_at g.K.PartialEq.eq c.args.key.now (entries_of (states_of c.self.inside.shards.items))
same_entry g c =
    let respects =
    keys_by-respects (record { eq = g.K.PartialEq.eq; hash_input = g.K.Hash.hash_input }) g.S.BuildHasher g.S.Hasher.Hasher
    g.met.K.Hash.respects_eq in
    let hashed = rw (← c.self.view_is) at c.requires in
    let shards = c.self.inside.shards.items in
    entry_at-own (keys g) g.met.K.Eq.laws respects _ (states_of shards) (shard_of c.args.hash) _ c.args.key.now c.self.invariant
    (ap shard_of hashed) (here_state (keys g) _ shards c.self.invariant c.args.hash _ c.index-shard.ensures)

pub returns-clause-value : goal.returns-clause-value
returns-clause-value g c =
    let same = same_entry g (goal.at.returns-clause-value g c).After-get in
    rw (← c.self.view_is, ← same) (c.get.ensures.value (own_hash g (goal.at.returns-clause-value g c).After-index-shard))

pub returns-clause-refused : goal.returns-clause-refused
returns-clause-refused g c =
    let same = same_entry g (goal.at.returns-clause-refused g c).After-get in
    rw (← c.self.view_is, ← same) c.get.ensures.refused
