-- What a contract sees of why an entry is missing. `src/history.rt` promises the laws.
use Rattle.std.specs.Prelude.{◌≡◌, ◌⊎◌, ◌↔◌, ◌<◌, ℕ, ◌+◌, Bool, true, false, List, [], ◌∷◌, Option, Some, None, if◌then◌else◌}
use Rattle.moka_common.specs.Keys.{Keys}
use Rattle.moka_common.specs.Settings.{Settings, live_nanos}
use Rattle.moka_common.specs.Sketch.{estimate}
use Rattle.moka_unsync_model.specs.declared.entry.Entry.{Entry}
use Rattle.moka_unsync_model.specs.Contents.{entry_at, total_weight, is_window}
use Rattle.moka_unsync_model.specs.CacheState.{CacheState, new_cache}
use Rattle.moka_unsync_model.specs.Cleanup.{is_expired}
use Rattle.moka_unsync_model.specs.Deadline.{end_of, expiry_of}
use Rattle.moka_unsync_model.specs.Lookup.{found_by_get}
use Rattle.moka_unsync_model.specs.Step.{Request, Get, ContainsKey, Miss, Insert, Invalidate, Remove, Done, Found}
use Rattle.moka_unsync_model.specs.History.{LastWrite, Leads, Transition, chosen_keys, exchanges}
use Rattle.moka_unsync_model.specs.History.{is_invalidated, is_over, is_written, last_write}
use Rattle.moka_unsync_model.specs.declared.shares.Shares.{Shares}
use Rattle.moka_unsync_model.specs.Shares.{limits_of, main_limit}

-- the moment of a call that first removes what is expired or above the limit
abbrev pub cleanup_moment : {K V : Type 0} → Request K V → Option ℕ
cleanup_moment (Get key now) = Some now
cleanup_moment (ContainsKey key now) = Some now
cleanup_moment (Miss hash now) = Some now
cleanup_moment (Insert key value own now) = Some now
cleanup_moment (Invalidate key now) = Some now
cleanup_moment (Remove key now) = Some now
cleanup_moment request = None

-- what is known of an entry's write
abbrev pub last_write_of : {K V : Type 0} → Entry K V → LastWrite V
last_write_of e = record { value = e.value; deadline = expiry_of e; used = e.accessed }

-- the entry at a key and those behind it, which leave later: those of its part that were used since, and the later parts
abbrev pub entries_from : {K V : Type 0} → (K → K → Bool) → K → List (Entry K V) → List (Entry K V)
entries_from eq key [] = []
entries_from eq key (e ∷ entries) = if eq key e.key then e ∷ entries else entries_from eq key entries

module _ {K V S W : Type 0} (keys : Keys K S) where
  -- why an entry of the old cache leaves with a call
  pub data RemovalCause (old : CacheState K V S W) (request : Request K V) (new : CacheState K V S W) (e : Entry K V) : Type 0 where
    -- it is invalidated or removed
    Invalidated : is_invalidated keys request (chosen_keys request old.contents.entries) e.key ≡ true
        → RemovalCause old request new e
    -- one of its durations has passed
    Expired : (now : ℕ) → cleanup_moment request ≡ Some now → is_expired old.settings.policy now e ≡ true → RemovalCause old request new e
    -- it and those behind it weigh more than the limit
    AboveLimit : (now limit : ℕ) → cleanup_moment request ≡ Some now → old.settings.policy.max_capacity ≡ Some limit
        → limit < total_weight (entries_from keys.eq e.key old.contents.entries) → RemovalCause old request new e
    -- with an insert, one of another key that is used more stands then, and main has no room for all
    Displaced : (key : K) (value : V) (own : Option ℕ) (now limit : ℕ) (entered : Entry K V) → request ≡ Insert key value own now
        → keys.eq entered.key e.key ≡ false → entry_at keys.eq entered.key new.contents.entries ≡ Some entered
        → estimate old.sketch e.hash < estimate old.sketch entered.hash
        → old.settings.policy.max_capacity ≡ Some limit → main_limit (limits_of old.shares limit) < total_weight old.contents.entries + entered.weight
        → RemovalCause old request new e
    -- with an insert, it was in the window, and main has no room for all
    Rejected : (key : K) (value : V) (own : Option ℕ) (now limit : ℕ) → request ≡ Insert key value own now → is_window e.part ≡ true
        → old.settings.policy.max_capacity ≡ Some limit → main_limit (limits_of old.shares limit) < total_weight old.contents.entries
        → RemovalCause old request new e
    -- with an insert, the window grew for the new entry, which stands in it, and main has no room for all any more
    GivenUp : (key : K) (value : V) (own : Option ℕ) (now limit : ℕ) (entered : Entry K V) → request ≡ Insert key value own now
        → entry_at keys.eq key new.contents.entries ≡ Some entered → is_window entered.part ≡ true
        → old.shares.extra < new.shares.extra
        → old.settings.policy.max_capacity ≡ Some limit → main_limit (limits_of new.shares limit) < total_weight old.contents.entries
        → RemovalCause old request new e

module _ {K V S W : Type 0} (keys : Keys K S) (weighs : W → K → V → ℕ → W → Type 0) where
  -- an accepted insert at an equal key, after which none has an entry: all entries and this one weigh more than main may
  pub record IsRejected (call : Transition K V S W) (key : K) : Type 0 where
    pub other : K
    pub value : V
    pub own : Option ℕ
    pub now : ℕ
    pub weight : ℕ
    pub weigher : W
    pub limit : ℕ
    pub insert : call.request ≡ Insert other value own now
    pub equal : keys.eq other key ≡ true
    pub absent : entry_at keys.eq key call.after.contents.entries ≡ None
    pub weighed : weighs call.before.weigher other value weight weigher
    pub limited : call.before.settings.policy.max_capacity ≡ Some limit
    pub no_room : main_limit (limits_of call.before.shares limit) < total_weight call.before.contents.entries + weight

  -- an entry with the last write of the key leaves with a call, for a cause
  pub record Leaves (call : Transition K V S W) (earlier : List (Transition K V S W)) (key : K) : Type 0 where
    pub entry : Entry K V
    pub stood : entry_at keys.eq key call.before.contents.entries ≡ Some entry
    pub known : last_write keys key (exchanges earlier) ≡ Some (last_write_of entry)
    pub left : entry_at keys.eq key call.after.contents.entries ≡ None
    pub cause : RemovalCause keys call.before call.request call.after entry

  -- why no entry stands at a key, the last call first: its last accepted insert was rejected, its entry left since, or there was none
  abbrev pub IsMissing : List (Transition K V S W) → K → Type 0
  IsMissing [] key = Unit {0}
  IsMissing (call ∷ earlier) key =
      IsRejected call key ⊎ ((is_written keys call.request call.answer key ≡ false) × (Leaves call earlier key ⊎ IsMissing earlier key))

  -- from a new cache, an entry that stands before a call and not after it leaves for a cause
  abbrev pub EntriesLeaveForACause : Type 0
  EntriesLeaveForACause =
      (settings : Settings S) (shares : Shares) (weigher : W) (capacity : ℕ) (past : List (Transition K V S W)) (call : Transition K V S W)
      (cache : CacheState K V S W)
      (key : K) (e : Entry K V) →
      Leads keys weighs (new_cache settings shares weigher capacity) (call ∷ past) cache →
      entry_at keys.eq key call.before.contents.entries ≡ Some e → entry_at keys.eq key cache.contents.entries ≡ None →
      RemovalCause keys call.before call.request cache e

  -- from a new cache, after an accepted insert its value stands at the key, written then, or it was rejected
  abbrev pub InsertsEnterOrAreRejected : Type 0
  InsertsEnterOrAreRejected =
      (settings : Settings S) (shares : Shares) (weigher : W) (capacity : ℕ) (past : List (Transition K V S W)) (call : Transition K V S W)
      (cache : CacheState K V S W)
      (key : K) (value : V) (own : Option ℕ) (now : ℕ) →
      Leads keys weighs (new_cache settings shares weigher capacity) (call ∷ past) cache → call.request ≡ Insert key value own now →
      call.answer ≡ Done →
      ((e : Entry K V) × (entry_at keys.eq key cache.contents.entries ≡ Some e)
      × (last_write_of e ≡ record { value = value; deadline = end_of (live_nanos settings.policy) own now; used = now }))
      ⊎ IsRejected call key

  -- from a new cache, a get finds nothing exactly where the key is missing after it for a reason, or its last write is over
  abbrev pub MissesHaveAReason : Type 0
  MissesHaveAReason =
      (settings : Settings S) (shares : Shares) (weigher : W) (capacity : ℕ) (past : List (Transition K V S W)) (call : Transition K V S W)
      (cache : CacheState K V S W)
      (key : K) (now : ℕ) →
      Leads keys weighs (new_cache settings shares weigher capacity) (call ∷ past) cache → call.request ≡ Get key now →
      (call.answer ≡ Found None)
      ↔ (IsMissing (call ∷ past) key
      ⊎ ((write : LastWrite V) × (last_write keys key (exchanges past) ≡ Some write) × (is_over settings.policy now write ≡ true)))

  -- and so does a look-up by a probe that finds nothing, of each key that it stands for
  abbrev pub ProbesMissForAReason : Type 0
  ProbesMissForAReason =
      (settings : Settings S) (shares : Shares) (weigher : W) (capacity : ℕ) (past : List (Transition K V S W)) (call : Transition K V S W)
      (cache : CacheState K V S W)
      (key : K) (hash : Option ℕ) (now : ℕ) →
      Leads keys weighs (new_cache settings shares weigher capacity) (call ∷ past) cache → call.request ≡ Miss hash now →
      found_by_get keys call.before key now ≡ None →
      IsMissing (call ∷ past) key
      ⊎ ((write : LastWrite V) × (last_write keys key (exchanges past) ≡ Some write) × (is_over settings.policy now write ≡ true))
