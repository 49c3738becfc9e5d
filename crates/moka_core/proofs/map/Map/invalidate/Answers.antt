use Rattle.std.proofs.Common.{ap, refl, set, subst, sym}
use Rattle.std.proofs.lemmas.List.{map-set}
use Rattle.moka_common.proofs.KeysLemmas.{keys_by-respects}
use Rattle.moka_common.specs.Keys.{Keys, keys_by}
use Rattle.moka_sync_model.specs.Entry.{entry_at}
use Rattle.moka_sync_model.specs.Ticket.{shard_of}
use Rattle.moka_shard.specs.Shard.{entries_in, state_of}
use Rattle.moka_shard.specs.ShardStep.{IsInvalidation}
use Rattle.moka_core.specs.Shards.{AreOwn, map_in, states_of}
use Rattle.moka_core.specs.MapState.{IsInvalidated}
use Rattle.moka_core.proofs.MapLemmas.{invalidated, own_invalidated}
use Rattle.moka_core.proofs.ShardsLemmas.{AreOwn-set, entry_at-own, here_below, here_own, here_state}
use Rattle.moka_core.proofs.map.Map.invalidate.Given.{Over}
use Rattle.moka_core.proofs.map.Map.invalidate.Goals.{After-invalidate}
use Rattle.moka_core.proofs.map.Map.invalidate.Goals as goal

-- the keys of the map
abbrev keys : (g : Over) → Keys g.row.K.Denot g.row.S.Denot
keys g = keys_by (record { eq = g.K.PartialEq.eq; hash_input = g.K.Hash.hash_input }) g.S.BuildHasher g.S.Hasher.Hasher

-- the step, since the hash is the key's by the hash state of its shard
step : (g : Over) (c : After-invalidate g)
    → IsInvalidation (state_of c.index_mut-shard.result.now)
    (entry_at g.K.PartialEq.eq c.args.key.now (entries_in c.index_mut-shard.result.now.slots)) c.invalidate.result
    (state_of c.invalidate.new.self)
step g c =
    let hashed = rw (← c.self.view_is) at c.hash_of-hash.ensures in
    c.invalidate.ensures.step
    (rw (here_own (keys g) _ c.self.inside.shards.items c.self.invariant c.hash_of-hash.result _
    c.index_mut-shard.ensures.value).shared hashed)

pub invariant_of-self : goal.invariant_of-self
invariant_of-self g c =
    let items = c.self.inside.shards.items in
    let i = shard_of c.hash_of-hash.result in
    let was = here_own (keys g) _ items c.self.invariant c.hash_of-hash.result _ c.index_mut-shard.ensures.value in
    let new = c.invalidate.new.self in
    subst (AreOwn (keys g) c.self.inside.settings.hash_state) (sym (map-set state_of items i new))
    (AreOwn-set (keys g) _ (states_of items) i (state_of new) c.self.invariant
    (own_invalidated (keys g) _ i _ (state_of new) was c.invalidate.ensures.valid _ _
    (step g (goal.at.invariant_of-self g c).After-invalidate)))

pub returns : goal.returns
returns g c =
    let respects =
    keys_by-respects (record { eq = g.K.PartialEq.eq; hash_input = g.K.Hash.hash_input }) g.S.BuildHasher g.S.Hasher.Hasher
    g.met.K.Hash.respects_eq in
    let items = c.self.inside.shards.items in
    let settings = c.self.inside.settings in
    let hash = c.hash_of-hash.result in
    let i = shard_of hash in
    let there = c.index_mut-shard.ensures.value in
    let old = c.index_mut-shard.result.now in
    let new = c.invalidate.new.self in
    let answer = c.invalidate.result in
    let was = here_own (keys g) _ items c.self.invariant hash old there in
    let at = here_state (keys g) _ items c.self.invariant hash old there in
    let below = here_below (keys g) _ items c.self.invariant hash old there in
    let hashed = rw (← c.self.view_is) at c.hash_of-hash.ensures in
    let same =
    entry_at-own (keys g) g.met.K.Eq.laws respects _ (states_of items) i (state_of old) c.args.key.now c.self.invariant (ap shard_of hashed)
    at in
    let map = map_in settings (states_of items) in
    let o = entry_at g.K.PartialEq.eq c.args.key.now (entries_in old.slots) in
    let done =
    invalidated (keys g) settings (states_of items) c.self.invariant i (state_of old) below at was hash refl
    (state_of new) c.args.key.now answer
    o refl (step g (goal.at.returns g c).After-invalidate) in
    let whole = subst (λ m. IsInvalidated map o answer (map_in settings m)) (sym (map-set state_of items i new)) done in
    rw (← c.self.view_is)
    (record { step = subst (λ e. IsInvalidated map e answer (map_in settings (states_of (set items i new)))) same whole })
