-- What a cache ends as, once a reference into it has ended.
use Rattle.std.specs.Prelude.{◌≡◌, ⊤}
use Rattle.std.specs.Borrow.{Lends, follows_so, Fml, RattleType, MutBor}
use Rattle.std.specs.HashMap.Lent.{HashMembers}
use Rattle.std.specs.declared.alloc.Allocator.{Ghosts}
use Rattle.std.specs.declared.hash.BuildHasher as builder
use Rattle.std.specs.declared.clone.Clone as clone
use Rattle.std.specs.declared.hash.Hasher as hasher
use mathlib.Core.Option.{none}
use Rattle.moka_unsync_model.specs.CacheState.{CacheState}
use Rattle.moka_unsync.specs.Notifying.{Notifying}
use Rattle.moka_unsync.specs.contracts.cache.Cache.{the_row}
use Rattle.moka_unsync.specs.contracts.notifying_cache.NotifyingCache.{the_row as notifying_row}

module _ (K V S W A H : RattleType) (key : HashMembers K.Denot) (build : builder.Ghosts S.Denot H.Denot) (hash : hasher.Ghosts H.Denot)
    (heap : Ghosts A.Denot) (copies : clone.Ghosts A.Denot) where
  -- it is this cache
  abbrev pub ends_as : MutBor (CacheState K.Denot V.Denot S.Denot W.Denot) → CacheState K.Denot V.Denot S.Denot W.Denot → Fml
  ends_as cache end = follows_so
      (the_row K V S W A H (record { eq = key.eq }) (record { hash_input = key.hash_input }) build hash heap copies)
      (the_row K V S W A H (record { eq = key.eq }) (record { hash_input = key.hash_input }) build hash heap copies)
      cache.ghost_name none (λ _ _. ⊤) (λ n. n ≡ end)

module _ (K V L S W A H : RattleType) (key : HashMembers K.Denot) (build : builder.Ghosts S.Denot H.Denot) (hash : hasher.Ghosts H.Denot)
    (heap : Ghosts A.Denot) (copies : clone.Ghosts A.Denot) where
  -- a cache with a listener is one of which this holds
  abbrev pub notifying_ends_so : MutBor (Notifying K.Denot V.Denot S.Denot W.Denot L.Denot) → (Notifying K.Denot V.Denot S.Denot W.Denot L.Denot → Type 0) → Fml
  notifying_ends_so notifying holds = follows_so
      (notifying_row K V L S W A H (record { eq = key.eq }) (record { hash_input = key.hash_input }) build hash heap copies)
      (notifying_row K V L S W A H (record { eq = key.eq }) (record { hash_input = key.hash_input }) build hash heap copies)
      notifying.ghost_name none (λ _ _. ⊤) holds

  -- what its listener is left as it has
  abbrev pub lends_listener : MutBor (Notifying K.Denot V.Denot S.Denot W.Denot L.Denot) → Notifying K.Denot V.Denot S.Denot W.Denot L.Denot
      → MutBor L.Denot → Fml
  lends_listener notifying start listener = Lends
      (notifying_row K V L S W A H (record { eq = key.eq }) (record { hash_input = key.hash_input }) build hash heap copies) L notifying listener
      (λ left. record start { listener = left })
