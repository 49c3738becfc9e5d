use Rattle.std.proofs.Common.{◌∙◌, ap}
use Rattle.moka_unsync_model.specs.Shares.{protected_room, windowed_limits}
use Rattle.moka_store.specs.Store.{entries_of}
use Rattle.moka_unsync.proofs.CachedLemmas.{IsCached-new}
use Rattle.moka_unsync.proofs.cache.Cache.from_parts.Goals as goal

pub invariant_of-result : goal.invariant_of-result
invariant_of-result g c =
    let store = (c.in_ok-store.ensures {u = tt}).empty in
    rw c.new.ensures
    (IsCached-new (ap entries_of store) (ap (λ s. s.keeps_writes) store) (c.requires.window, c.requires.protected)
    (c.windowed_limits.ensures ∙ ap (windowed_limits c.args.parts.shares) c.max_capacity-2.ensures)
    (ap (λ s. s.protected_limit) store
    ∙ (c.protected_room-protected_limit.ensures ∙ ap (protected_room c.args.parts.shares) c.max_capacity.ensures)))
