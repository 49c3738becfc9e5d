-- A turn at an entry, which a shard has taken, as the map has it.
use Rattle.std.proofs.Common.{◌≡◌, ◌∙◌, ℕ, Bool, List, ap, get_or, set, refl, subst, sym}
use Rattle.std.proofs.lemmas.List.{map-set}
use Rattle.moka_common.specs.Keys.{Keys}
use Rattle.moka_common.specs.Settings.{Settings}
use Rattle.moka_sync_model.specs.declared.ticket.Ticket.{Ticket}
use Rattle.moka_sync_model.specs.Ticket.{shard_of}
use Rattle.moka_sync_model.specs.CoreState.{Maintenance}
use Rattle.moka_sync_model.specs.Parts.{IsValidShard, entries_of}
use Rattle.moka_sync_model.specs.Turn.Plan.{Change, after_change}
use Rattle.moka_shard.specs.Shard.{Shard, entries_in, state_of}
use Rattle.moka_shard.specs.ShardTurn.{TurnsOnShard}
use Rattle.moka_core.specs.MapTurn.{TurnsOnMap}
use Rattle.moka_core.specs.Shards.{AreOwn, map_in, states_of}
use Rattle.moka_core.proofs.MapLemmas.{changed_map, changed_still, own_turned, turned}
use Rattle.moka_core.proofs.ShardsLemmas.{AreOwn-set, here_below, here_own, here_state}

module _ {K V S : Type 0} (keys : Keys K S) (settings : Settings S) (shards : List (Shard K V S))
    (are : AreOwn keys settings.hash_state (states_of shards)) (ticket : Ticket) (old new : Shard K V S)
    (there : old ≡ get_or shards (shard_of ticket.hash) old) (valid : IsValidShard keys (state_of new)) (valid_after : ℕ) (refused : Bool)
    (before after : Maintenance)
    (step : TurnsOnShard settings valid_after refused ticket before after (state_of old) (state_of new)) where
  -- the shards are still those of their numbers
  pub still_own : AreOwn keys settings.hash_state (states_of (set shards (shard_of ticket.hash) new))
  still_own =
      let i = shard_of ticket.hash in
      let was = here_own keys settings.hash_state shards are ticket.hash old there in
      subst (AreOwn keys settings.hash_state) (sym (map-set state_of shards i new))
      (AreOwn-set keys settings.hash_state (states_of shards) i (state_of new) are
      (own_turned keys settings.hash_state i (state_of old) (state_of new) was valid settings valid_after refused ticket before after step))

  -- and the map has taken the turn
  pub turned_at : TurnsOnMap (map_in settings (states_of shards)) (map_in settings (states_of (set shards (shard_of ticket.hash) new)))
      valid_after refused before after
  turned_at =
      let i = shard_of ticket.hash in
      let was = here_own keys settings.hash_state shards are ticket.hash old there in
      let at = here_state keys settings.hash_state shards are ticket.hash old there in
      let below = here_below keys settings.hash_state shards are ticket.hash old there in
      subst (λ m. TurnsOnMap (map_in settings (states_of shards)) (map_in settings m) valid_after refused before after)
      (sym (map-set state_of shards i new))
      (turned keys settings (states_of shards) are i (state_of old) below at was ticket.hash refl (state_of new) valid_after refused ticket
      before after refl step)

module _ {K V S : Type 0} (keys : Keys K S) (settings : Settings S) (shards : List (Shard K V S))
    (are : AreOwn keys settings.hash_state (states_of shards)) (ticket : Ticket) (change : Change K V) (old new : Shard K V S)
    (there : old ≡ get_or shards (shard_of ticket.hash) old) (valid : IsValidShard keys (state_of new))
    (is : state_of new ≡ record (state_of old) { entries = after_change ticket change (entries_in old.slots) }) where
  -- where an entry of its shard is changed, the shards are still those of their numbers
  pub own_changed : AreOwn keys settings.hash_state (states_of (set shards (shard_of ticket.hash) new))
  own_changed =
      let i = shard_of ticket.hash in
      let was = here_own keys settings.hash_state shards are ticket.hash old there in
      subst (AreOwn keys settings.hash_state) (sym (map-set state_of shards i new))
      (AreOwn-set keys settings.hash_state (states_of shards) i (state_of new) are
      (changed_still keys settings.hash_state i (state_of old) (state_of new) was valid _ _ is))

  -- and the map has the change
  pub changed_at : map_in settings (states_of (set shards (shard_of ticket.hash) new))
      ≡ record (map_in settings (states_of shards)) { entries = after_change ticket change (entries_of (states_of shards)) }
  changed_at =
      let i = shard_of ticket.hash in
      let at = here_state keys settings.hash_state shards are ticket.hash old there in
      let below = here_below keys settings.hash_state shards are ticket.hash old there in
      ap (map_in settings) (map-set state_of shards i new)
      ∙ changed_map keys settings (states_of shards) are i (state_of old) below at ticket change (state_of new) refl is
