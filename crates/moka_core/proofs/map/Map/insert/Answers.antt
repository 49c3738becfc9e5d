use Rattle.std.proofs.Common.{ap, refl, set, subst, sym}
use Rattle.std.proofs.lemmas.List.{map-set}
use Rattle.moka_common.proofs.KeysLemmas.{keys_by-respects}
use Rattle.moka_common.specs.Keys.{Keys, keys_by}
use Rattle.moka_sync_model.specs.Entry.{entry_at}
use Rattle.moka_sync_model.specs.Parts.{entries_of}
use Rattle.moka_sync_model.specs.Ticket.{shard_of}
use Rattle.moka_shard.specs.Shard.{entries_in, state_of}
use Rattle.moka_core.specs.Shards.{AreOwn, map_in, states_of}
use Rattle.moka_core.specs.MapState.{IsInserted}
use Rattle.moka_core.proofs.MapLemmas.{inserted, own_inserted}
use Rattle.moka_core.proofs.ShardsLemmas.{AreOwn-set, entry_at-own, here_below, here_own, here_state}
use Rattle.moka_core.proofs.map.Map.insert.Given.{Over}
use Rattle.moka_core.proofs.map.Map.insert.Goals as goal

-- the keys of the map
abbrev keys : (g : Over) → Keys g.row.K.Denot g.row.S.Denot
keys g = keys_by (record { eq = g.K.PartialEq.eq; hash_input = g.K.Hash.hash_input }) g.S.BuildHasher g.S.Hasher.Hasher

pub insert-requires-clause-hashed : goal.insert-requires-clause-hashed
insert-requires-clause-hashed g c =
    let hashed = rw (← c.self.view_is, c.get.ensures) at c.hash_of-hash.ensures in
    rw (here_own (keys g) _ c.self.inside.shards.items c.self.invariant c.hash_of-hash.result _
    c.index_mut-shard.ensures.value).shared hashed

pub insert-requires-clause-here : goal.insert-requires-clause-here
insert-requires-clause-here g c =
    sym (here_own (keys g) _ c.self.inside.shards.items c.self.invariant c.hash_of-hash.result _ c.index_mut-shard.ensures.value).numbered

pub invariant_of-self : goal.invariant_of-self
invariant_of-self g c =
    let items = c.self.inside.shards.items in
    let i = shard_of c.hash_of-hash.result in
    let was = here_own (keys g) _ items c.self.invariant c.hash_of-hash.result _ c.index_mut-shard.ensures.value in
    let (weight, refused, weighed, step) = c.insert.ensures.step in
    let new = c.insert.new.self in
    subst (AreOwn (keys g) c.self.inside.settings.hash_state) (sym (map-set state_of items i new))
    (AreOwn-set (keys g) _ (states_of items) i (state_of new) c.self.invariant
    (own_inserted (keys g) _ i _ (state_of new) was c.insert.ensures.valid c.hash_of-hash.result c.args.key c.args.value weight
    c.args.now refused
    c.insert.result (entry_at g.K.PartialEq.eq c.args.key (entries_in c.index_mut-shard.result.now.slots)) step))

pub returns : goal.returns
returns g c =
    let respects =
    keys_by-respects (record { eq = g.K.PartialEq.eq; hash_input = g.K.Hash.hash_input }) g.S.BuildHasher g.S.Hasher.Hasher
    g.met.K.Hash.respects_eq in
    let items = c.self.inside.shards.items in
    let settings = c.self.inside.settings in
    let hash = c.hash_of-hash.result in
    let i = shard_of hash in
    let there = c.index_mut-shard.ensures.value in
    let old = c.index_mut-shard.result.now in
    let new = c.insert.new.self in
    let answer = c.insert.result in
    let was = here_own (keys g) _ items c.self.invariant hash old there in
    let at = here_state (keys g) _ items c.self.invariant hash old there in
    let below = here_below (keys g) _ items c.self.invariant hash old there in
    let hashed = rw (← c.self.view_is, c.get.ensures) at c.hash_of-hash.ensures in
    let same =
    entry_at-own (keys g) g.met.K.Eq.laws respects _ (states_of items) i (state_of old) c.args.key c.self.invariant
    (ap shard_of hashed) at in
    let (weight, refused, weighed, step) = c.insert.ensures.step in
    let map = map_in settings (states_of items) in
    let o = entry_at g.K.PartialEq.eq c.args.key (entries_in old.slots) in
    let done = inserted (keys g) settings (states_of items) c.self.invariant i (state_of old) below at was hash refl
    (state_of new) c.args.key
    c.args.value weight c.args.now refused answer o refl step in
    let whole = subst (λ m. IsInserted map hash c.args.key c.args.value weight c.args.now refused o answer (map_in settings m))
    (sym (map-set state_of items i new)) done in
    rw (← c.self.view_is)
    (record {
      step = (
        weight,
        refused,
        weighed,
        subst (λ h. IsInserted map h c.args.key c.args.value weight c.args.now refused
            (entry_at g.K.PartialEq.eq c.args.key (entries_of (states_of items))) answer
            (map_in settings (states_of (set items i new)))) hashed
            (subst (λ e. IsInserted map hash c.args.key c.args.value weight c.args.now refused e answer
            (map_in settings (states_of (set items i new)))) same whole),
      );
    })
