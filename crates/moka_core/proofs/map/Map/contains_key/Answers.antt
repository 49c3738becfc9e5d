use Rattle.std.proofs.Common.{◌≡◌, ◌∙◌, ap, is_some}
use Rattle.moka_common.proofs.KeysLemmas.{keys_by-respects}
use Rattle.moka_common.specs.Keys.{Keys, keys_by}
use Rattle.moka_sync_model.specs.Ticket.{shard_of}
use Rattle.moka_shard.specs.Shard.{unexpired}
use Rattle.moka_core.specs.Shards.{states_of}
use Rattle.moka_core.proofs.ShardsLemmas.{entry_at-own, here_own, here_state}
use Rattle.moka_core.proofs.map.Map.contains_key.Given.{Over}
use Rattle.moka_core.proofs.map.Map.contains_key.Goals as goal

-- the keys of the map
abbrev keys : (g : Over) → Keys g.row.K.Denot g.row.S.Denot
keys g = keys_by (record { eq = g.K.PartialEq.eq; hash_input = g.K.Hash.hash_input }) g.S.BuildHasher g.S.Hasher.Hasher

pub returns : goal.returns
returns g c =
    let respects =
    keys_by-respects (record { eq = g.K.PartialEq.eq; hash_input = g.K.Hash.hash_input }) g.S.BuildHasher g.S.Hasher.Hasher
    g.met.K.Hash.respects_eq in
    let hashed = rw (← c.self.view_is) at c.hash_of-hash.ensures in
    let shards = c.self.inside.shards.items in
    let own : c.hash_of-hash.result ≡ (keys g).hash_of c.index-shard.result.now.hash_state c.args.key.now =
    rw (here_own (keys g) _ shards c.self.invariant c.hash_of-hash.result _ c.index-shard.ensures).shared hashed in
    rw (← c.self.view_is)
    (c.contains_key.ensures.value own
    ∙ ap (λ o. is_some (unexpired c.self.inside.settings c.args.valid_after c.args.now o))
    (entry_at-own (keys g) g.met.K.Eq.laws respects _ (states_of shards) (shard_of c.hash_of-hash.result) _ c.args.key.now c.self.invariant
    (ap shard_of hashed) (here_state (keys g) _ shards c.self.invariant c.hash_of-hash.result _ c.index-shard.ensures)))
