-- What a contract sees of the laws of the cache, which `src/laws.rt` promises, but for those of a plain map.
use Rattle.std.specs.Prelude.{◌≡◌, ◌≢◌, ◌⊎◌, ◌<◌, ◌≤◌, ◌+◌, ◌*◌, ◌^◌, ℕ, Bool, true, false, List, [], ◌∷◌, ◌++◌, All, filter, length, map, max, Option, Some}
use Rattle.std.specs.Prelude.{None, IsSome, IsTrue}
use Rattle.std.specs.Prelude.{option_map}
use Rattle.std.specs.List.{AllByRecursion, IsDistinct, find}
use Rattle.moka_common.specs.Keys.{Keys}
use Rattle.moka_unsync_model.specs.Contents.{Contents, entry_at, entry_keys, is_window, main_of, total_weight, window_of, write_of, probation_of, protected_of}
use Rattle.moka_unsync_model.specs.declared.entry.Entry.{Entry}
use Rattle.moka_unsync_model.specs.declared.entry.Part.TheVariants.{Probation, Protected, Window}
use Rattle.moka_unsync_model.specs.CacheState.{CacheState, new_cache, room_of, windowed}
use Rattle.moka_unsync_model.specs.Cleanup.{is_expired, least_recent}
use Rattle.moka_unsync_model.specs.Insert.{IsModified, Puts, Modifies, after_entering, after_entry, after_turn, gained_by}
use Rattle.moka_unsync_model.specs.Window.{after_candidate, candidates, given_up, victims_of}
use Rattle.moka_common.specs.Sketch.{Table}
use Rattle.moka_common.specs.Settings.{Settings, keeps_writes}
use Rattle.moka_unsync_model.specs.Invalidate.{after_invalidate, after_invalidate_where, after_remove_expired, expiries}
use Rattle.moka_unsync_model.specs.Lookup.{after_get, after_get_where, after_look, found_by_get, found_by_peek, found_where, is_contained}
use Rattle.moka_unsync_model.specs.Lookup.{is_contained_where, peeked_where, unexpired_at}
use Rattle.moka_unsync_model.specs.GetOrInsert.{IsGot, IsPutBehind, IsRefusedBehind}
use Rattle.moka_unsync_model.specs.Step.{Answer, IsStep, Done, Found, OutOfMemory, Request, Runs, Get, Peek, ContainsKey, Miss, Insert, Invalidate, Remove}
use Rattle.moka_unsync_model.specs.Step.{InvalidateAll, InvalidateEntriesIf, Iterate, EntryCount, Truth, WeightedSize}
use Rattle.moka_unsync_model.specs.declared.shares.Shares.{Shares}
use Rattle.moka_unsync_model.specs.declared.shares.PartLimits.{PartLimits}
use Rattle.moka_unsync_model.specs.Shares.{hundredths, limits_of, main_limit, protected_room, windowed_limits}
use Rattle.moka_unsync_model.specs.declared.constants.TheConstants.{MOST_WINDOW_SHARE}

-- ---- limits and keys

module _ {K V S W : Type 0} (keys : Keys K S) (weighs : W → K → V → ℕ → W → Type 0) where
  -- from a new cache with a limit, whose weigher weighs each entry 1, no calls lead to more entries than that
  abbrev pub StaysWithinLimit : Type 0
  StaysWithinLimit =
      ((old new : W) (key : K) (value : V) (weight : ℕ) → weighs old key value weight new → weight ≡ 1) →
      (settings : Settings S) (shares : Shares) (weigher : W) (capacity limit : ℕ) (requests : List (Request K V)) (answers : List (Answer K V))
      (cache : CacheState K V S W) →
      settings.policy.max_capacity ≡ Some limit → Runs keys weighs (new_cache settings shares weigher capacity) requests answers cache →
      length cache.contents.entries ≤ limit

  -- from a new cache with a limit below its capacity, whose weigher weighs each entry 1, no call is refused, and the capacity stays
  abbrev pub NeverRefuses : Type 0
  NeverRefuses =
      ((old new : W) (key : K) (value : V) (weight : ℕ) → weighs old key value weight new → weight ≡ 1) →
      (settings : Settings S) (shares : Shares) (weigher : W) (capacity limit : ℕ) (requests : List (Request K V)) (answers : List (Answer K V))
      (cache : CacheState K V S W) →
      settings.policy.max_capacity ≡ Some limit → limit < capacity →
      Runs keys weighs (new_cache settings shares weigher capacity) requests answers cache →
      AllByRecursion (λ answer. answer ≢ OutOfMemory) answers × (cache.capacity ≡ capacity)

  -- the call is an insert at a key that is there when it acts
  abbrev pub IsUpdate : CacheState K V S W → Request K V → Type 0
  IsUpdate old request =
      (key : K) × (value : V) × (own : Option ℕ) × (now : ℕ) × (request ≡ Insert key value own now)
      × IsSome (entry_at keys.eq key (after_look keys old now).contents.entries)

  -- a call that leaves more weight than it found, and more than the limit, is an insert at a key that is there
  abbrev pub OnlyUpdatesOutgrowLimit : Type 0
  OnlyUpdatesOutgrowLimit =
      (old new : CacheState K V S W) (request : Request K V) (answer : Answer K V) (limit : ℕ) →
      old.settings.policy.max_capacity ≡ Some limit → IsStep keys weighs old request answer new →
      total_weight old.contents.entries < total_weight new.contents.entries → limit < total_weight new.contents.entries
      → IsUpdate old request

  -- from a new cache no calls lead to a key with two entries
  abbrev pub KeysStandOnce : Type 0
  KeysStandOnce =
      (settings : Settings S) (shares : Shares) (weigher : W) (capacity : ℕ) (requests : List (Request K V)) (answers : List (Answer K V))
      (cache : CacheState K V S W) →
      Runs keys weighs (new_cache settings shares weigher capacity) requests answers cache → IsDistinct keys.eq (entry_keys cache.contents.entries)

-- ---- main and the window

-- the window's limit has risen by this weight at most, or fallen by twice that
abbrev pub MovesBy : ℕ → ℕ → Shares → Shares → Type 0
MovesBy limit weight old new =
    ((limits_of new limit).window ≤ (limits_of old limit).window + weight)
    × ((limits_of old limit).window ≤ (limits_of new limit).window + 2 * weight)

module _ {K V S W : Type 0} (keys : Keys K S) (weighs : W → K → V → ℕ → W → Type 0) where
  -- from a new cache all calls leave the entries of main first, and behind them those of the window
  abbrev pub WindowStandsBehind : Type 0
  WindowStandsBehind =
      (settings : Settings S) (shares : Shares) (weigher : W) (capacity : ℕ) (requests : List (Request K V)) (answers : List (Answer K V))
      (cache : CacheState K V S W) →
      Runs keys weighs (new_cache settings shares weigher capacity) requests answers cache →
      cache.contents.entries ≡ main_of cache.contents.entries ++ window_of cache.contents.entries

  -- and those of main in two parts, probation first
  abbrev pub PartsStandInOrder : Type 0
  PartsStandInOrder =
      (settings : Settings S) (shares : Shares) (weigher : W) (capacity : ℕ) (requests : List (Request K V)) (answers : List (Answer K V))
      (cache : CacheState K V S W) →
      Runs keys weighs (new_cache settings shares weigher capacity) requests answers cache →
      cache.contents.entries
      ≡ probation_of cache.contents.entries ++ (protected_of cache.contents.entries ++ window_of cache.contents.entries)

  -- from a new cache without a limit, or with one of which the window's share is nothing, no calls lead to an entry in the window
  abbrev pub WindowStaysEmpty : Type 0
  WindowStaysEmpty =
      (settings : Settings S) (shares : Shares) (weigher : W) (capacity : ℕ) (requests : List (Request K V)) (answers : List (Answer K V))
      (cache : CacheState K V S W) →
      windowed_limits shares settings.policy.max_capacity ≡ None →
      Runs keys weighs (new_cache settings shares weigher capacity) requests answers cache → window_of cache.contents.entries ≡ []

  -- from a new cache with a limit all calls leave the window's limit at its share or above, and at most at the larger of that and 80 hundredths
  abbrev pub WindowStaysWithinBounds : Type 0
  WindowStaysWithinBounds =
      (settings : Settings S) (shares : Shares) (weigher : W) (capacity limit : ℕ) (requests : List (Request K V)) (answers : List (Answer K V))
      (cache : CacheState K V S W) →
      settings.policy.max_capacity ≡ Some limit → shares.extra ≡ 0 →
      Runs keys weighs (new_cache settings shares weigher capacity) requests answers cache →
      (hundredths shares.window limit ≤ (limits_of cache.shares limit).window)
      × ((limits_of cache.shares limit).window ≤ max (hundredths shares.window limit) (hundredths MOST_WINDOW_SHARE limit))

  -- an insert that is done moves the window's limit up by its entry's weight at most, or down by twice that
  pub record IsMovedByInsert (limit : ℕ) (old : CacheState K V S W) (request : Request K V) (new : CacheState K V S W) : Type 0 where
    pub key : K
    pub value : V
    pub own : Option ℕ
    pub now : ℕ
    pub is : request ≡ Insert key value own now
    pub inserted : Puts keys weighs old key value own now new
    pub moves : MovesBy limit inserted.weight old.shares new.shares

  -- from a new cache with a limit, no other call moves it
  abbrev pub TurnsAreSmall : Type 0
  TurnsAreSmall =
      (settings : Settings S) (shares : Shares) (weigher : W) (capacity limit : ℕ) (requests : List (Request K V)) (answers : List (Answer K V))
      (old new : CacheState K V S W) (request : Request K V) (answer : Answer K V) →
      settings.policy.max_capacity ≡ Some limit → shares.extra ≡ 0 →
      Runs keys weighs (new_cache settings shares weigher capacity) requests answers old → IsStep keys weighs old request answer new →
      (new.shares ≡ old.shares) ⊎ IsMovedByInsert limit old request new

  -- how little an insert of a new key does where each entry weighs 1: three entries of the window are judged at most, and then main gives up one and
  -- demotes one at most
  pub record IsLittleWork (old : CacheState K V S W) (limits : PartLimits) (new : Entry K V) (kept entered : Contents K V) (turned : CacheState K V S W)
      : Type 0 where
    pub judged : length (candidates limits (kept.entries ++ record new { part = Window } ∷ [])) ≤ 3
    pub given : length (given_up (limits_of turned.shares limits.all)
        (gained_by (entry_at keys.eq new.key entered.entries) old.shares.extra turned.shares.extra) entered.entries) ≤ 1
    pub demoted : total_weight (protected_of entered.entries) ≤ (limits_of turned.shares limits.all).protected + 1

  -- from a new cache whose weigher weighs each entry 1, no insert of a new key does more
  abbrev pub InsertsDoLittle : Type 0
  InsertsDoLittle =
      ((old new : W) (key : K) (value : V) (weight : ℕ) → weighs old key value weight new → weight ≡ 1) →
      (settings : Settings S) (shares : Shares) (weigher : W) (capacity limit : ℕ) (requests : List (Request K V)) (answers : List (Answer K V))
      (old : CacheState K V S W) (limits : PartLimits) (new : Entry K V) (now : ℕ) →
      settings.policy.max_capacity ≡ Some limit → shares.extra ≡ 0 → shares.protected ≤ 100 →
      Runs keys weighs (new_cache settings shares weigher capacity) requests answers old → windowed old ≡ Some limits → new.weight ≡ 1 →
      let kept = (after_look keys old now).contents in
      let entered = after_entering keys.eq (keeps_writes old.settings.policy) limits old.sketch new kept in
      entry_at keys.eq new.key kept.entries ≡ None →
      IsLittleWork old limits new kept entered (after_turn keys.eq (record old { contents = kept }) old.memory limits new entered)

  -- from a new cache that doesn't adapt all calls leave its shares, and it remembers nothing
  abbrev pub FixedSharesStay : Type 0
  FixedSharesStay =
      (settings : Settings S) (shares : Shares) (weigher : W) (capacity : ℕ) (requests : List (Request K V)) (answers : List (Answer K V))
      (cache : CacheState K V S W) →
      shares.adapts ≡ false → Runs keys weighs (new_cache settings shares weigher capacity) requests answers cache →
      (cache.shares ≡ shares) × (cache.memory ≡ None)

  -- from a new cache no calls lead to more weight in protected than its share of what the window leaves to main then
  abbrev pub ProtectedStaysWithinShare : Type 0
  ProtectedStaysWithinShare =
      (settings : Settings S) (shares : Shares) (weigher : W) (capacity : ℕ) (requests : List (Request K V)) (answers : List (Answer K V))
      (cache : CacheState K V S W) →
      Runs keys weighs (new_cache settings shares weigher capacity) requests answers cache →
      total_weight (protected_of cache.contents.entries) ≤ room_of cache

  -- from a new cache of which protected's share is nothing, no calls lead to an entry in protected
  abbrev pub ProtectedStaysEmpty : Type 0
  ProtectedStaysEmpty =
      (settings : Settings S) (shares : Shares) (weigher : W) (capacity : ℕ) (requests : List (Request K V)) (answers : List (Answer K V))
      (cache : CacheState K V S W) →
      protected_room (record shares { extra = 0 }) settings.policy.max_capacity ≡ 0 →
      Runs keys weighs (new_cache settings shares weigher capacity) requests answers cache → protected_of cache.contents.entries ≡ []

  -- from a new cache, a get that finds an entry of main which protected has room for at all leaves it in protected, whatever was there
  abbrev pub HitsAreProtected : Type 0
  HitsAreProtected =
      (settings : Settings S) (shares : Shares) (weigher : W) (capacity : ℕ) (requests : List (Request K V)) (answers : List (Answer K V))
      (cache : CacheState K V S W) →
      Runs keys weighs (new_cache settings shares weigher capacity) requests answers cache → (key : K) (now : ℕ) (e : Entry K V) →
      unexpired_at keys.eq cache.settings.policy now key (after_look keys cache now).contents ≡ Some e → is_window e.part ≡ false →
      0 < room_of cache → e.weight ≤ room_of cache →
      entry_at keys.eq key (after_get keys cache key now).contents.entries ≡ Some (record e { accessed = now; part = Protected })

-- ---- entries and their writes

-- where writes are kept they are those of the entries, each key once; elsewhere there are none
abbrev pub AreWritesOf : {K V : Type 0} → (K → K → Bool) → Bool → Contents K V → Type 0
AreWritesOf {K} eq true contents =
    IsDistinct eq (map (λ w. w.key) contents.written)
    × ((key : K) → find (λ w. eq key w.key) contents.written ≡ option_map write_of (entry_at eq key contents.entries))
AreWritesOf eq false contents = contents.written ≡ []

module _ {K V S W : Type 0} (keys : Keys K S) (weighs : W → K → V → ℕ → W → Type 0) where
  -- from a new cache all calls leave the entries' writes: with a time to live each entry's key and moment, and else none
  abbrev pub WritesFollowEntries : Type 0
  WritesFollowEntries =
      (settings : Settings S) (shares : Shares) (weigher : W) (capacity : ℕ) (requests : List (Request K V)) (answers : List (Answer K V))
      (cache : CacheState K V S W) →
      Runs keys weighs (new_cache settings shares weigher capacity) requests answers cache →
      AreWritesOf keys.eq (keeps_writes cache.settings.policy) cache.contents

  -- from a new cache each entry has its key's hash, and a weight of 32 bits
  abbrev pub EntriesAreOwn : Type 0
  EntriesAreOwn =
      (settings : Settings S) (shares : Shares) (weigher : W) (capacity : ℕ) (requests : List (Request K V)) (answers : List (Answer K V))
      (cache : CacheState K V S W) →
      Runs keys weighs (new_cache settings shares weigher capacity) requests answers cache →
      All (λ e. (e.hash ≡ keys.hash_of cache.settings.hash_state e.key) × (e.weight < 2 ^ 32)) cache.contents.entries

-- ---- looks and invalidations

module _ {K V : Type 0} where
  -- the call asks something, and is no use of an entry
  abbrev pub IsLook : Request K V → Type 0
  IsLook (Get key now) = ⊥
  IsLook (Peek key now) = Unit {0}
  IsLook (ContainsKey key now) = Unit {0}
  IsLook (Miss hash now) = ⊥
  IsLook (Insert key value own now) = ⊥
  IsLook (Invalidate key now) = ⊥
  IsLook (Remove key now) = ⊥
  IsLook InvalidateAll = ⊥
  IsLook (InvalidateEntriesIf answers) = ⊥
  IsLook (Iterate now) = Unit {0}
  IsLook EntryCount = Unit {0}
  IsLook WeightedSize = Unit {0}

  -- the call is an invalidation or a removal
  abbrev pub IsInvalidation : Request K V → Type 0
  IsInvalidation (Get key now) = ⊥
  IsInvalidation (Peek key now) = ⊥
  IsInvalidation (ContainsKey key now) = ⊥
  IsInvalidation (Miss hash now) = ⊥
  IsInvalidation (Insert key value own now) = ⊥
  IsInvalidation (Invalidate key now) = Unit {0}
  IsInvalidation (Remove key now) = Unit {0}
  IsInvalidation InvalidateAll = Unit {0}
  IsInvalidation (InvalidateEntriesIf answers) = Unit {0}
  IsInvalidation (Iterate now) = ⊥
  IsInvalidation EntryCount = ⊥
  IsInvalidation WeightedSize = ⊥

  -- some entries and writes have left, and all others are as they were, in the same order
  pub record Remains (old new : Contents K V) : Type 0 where
    pub stays : K → Bool
    pub entries : new.entries ≡ filter (λ e. stays e.key) old.entries
    pub written : new.written ≡ filter (λ w. stays w.key) old.written

module _ {K V S W : Type 0} (keys : Keys K S) (weighs : W → K → V → ℕ → W → Type 0) where
  -- a look counts nothing, and what remains of it is as it was
  abbrev pub LooksChangeNothing : Type 0
  LooksChangeNothing =
      (old new : CacheState K V S W) (request : Request K V) (answer : Answer K V) → IsLook request →
      IsStep keys weighs old request answer new →
      (new.sketch ≡ old.sketch) × Remains old.contents new.contents

  -- an invalidation or a removal keeps what was counted, and what remains of it is as it was
  abbrev pub InvalidationsKeepCounts : Type 0
  InvalidationsKeepCounts =
      (old new : CacheState K V S W) (request : Request K V) (answer : Answer K V) → IsInvalidation request →
      IsStep keys weighs old request answer new →
      (new.sketch ≡ old.sketch) × Remains old.contents new.contents

  -- a removal of the expired entries is an invalidation by a predicate that chooses just those, and none of what remains is expired
  pub record RemovalsOfExpiredAreInvalidations : Type 0 where
    pub step : (old : CacheState K V S W) (now : ℕ) →
        IsStep keys weighs old (InvalidateEntriesIf (expiries keys old now)) Done (after_remove_expired keys old now)
    pub fresh : (old : CacheState K V S W) (now : ℕ) →
        All (λ e. is_expired old.settings.policy now e ≡ false) (after_remove_expired keys old now).contents.entries

-- ---- what leaves before entries of protected

module _ {K V : Type 0} where
  -- those that give way to an entry of these contents are of probation, if that weighs as much as the entry
  abbrev pub TakesProbationFirst : ℕ → Option Table → Entry K V → Contents K V → Type 0
  TakesProbationFirst limit sketch new contents =
      (gone : List (Entry K V)) → victims_of (Some limit) sketch new (main_of contents.entries) ≡ Some gone →
      new.weight ≤ total_weight (probation_of contents.entries) → All (λ e. e.part ≡ Probation) gone

  -- so it is for each of these candidates, one after another
  abbrev pub TakeProbationFirst : (K → K → Bool) → PartLimits → Option Table → List (Entry K V) → Contents K V → Type 0
  TakeProbationFirst eq limits sketch [] contents = Unit {0}
  TakeProbationFirst eq limits sketch (c ∷ cs) contents =
      TakesProbationFirst (main_limit limits) sketch c contents
      × TakeProbationFirst eq limits sketch cs (after_candidate eq limits sketch contents c)

module _ {K V S W : Type 0} (keys : Keys K S) (weighs : W → K → V → ℕ → W → Type 0) where
  -- of what remains of the contents that calls lead to from a new cache, no entry of protected leaves for want of room where probation suffices: not for
  -- the limit, not for a new entry, and not for a candidate once a new entry entered the window
  pub record ProtectedGivesWayLast : Type 0 where
    pub trim : (settings : Settings S) (shares : Shares) (weigher : W) (capacity : ℕ) (requests : List (Request K V)) (answers : List (Answer K V))
        (cache : CacheState K V S W) → Runs keys weighs (new_cache settings shares weigher capacity) requests answers cache →
        (kept : Contents K V) → Remains cache.contents kept →
        (above : ℕ) → above ≤ total_weight (probation_of kept.entries) → All (λ e. e.part ≡ Probation) (least_recent above kept.entries)
    pub admission : (settings : Settings S) (shares : Shares) (weigher : W) (capacity : ℕ) (requests : List (Request K V))
        (answers : List (Answer K V)) (cache : CacheState K V S W) →
        Runs keys weighs (new_cache settings shares weigher capacity) requests answers cache →
        (kept : Contents K V) → Remains cache.contents kept →
        (limit : ℕ) (sketch : Option Table) (new : Entry K V) → TakesProbationFirst limit sketch new kept
    pub candidates : (settings : Settings S) (shares : Shares) (weigher : W) (capacity : ℕ) (requests : List (Request K V))
        (answers : List (Answer K V)) (cache : CacheState K V S W) →
        Runs keys weighs (new_cache settings shares weigher capacity) requests answers cache →
        (kept : Contents K V) → Remains cache.contents kept →
        (keeps : Bool) (limits : PartLimits) (sketch : Option Table) (new : Entry K V) →
        let entered = after_entry keys.eq keeps (record new { part = Window }) kept in
        TakeProbationFirst keys.eq limits sketch (candidates limits entered.entries) entered

-- ---- gets or inserts

module _ {K V S W : Type 0} (keys : Keys K S) (weighs : W → K → V → ℕ → W → Type 0) where
  -- a get or insert is a run: of a get, or of a get that finds nothing and an insert, which may be refused
  pub record GetsOrInsertsAreRuns : Type 0 where
    pub got : (old new : CacheState K V S W) (key : K) (value : V) (now : ℕ) → IsGot keys old key now value new
        → Runs keys weighs old (Get key now ∷ []) (Found (Some value) ∷ []) new
    pub inserted : (old new : CacheState K V S W) (key : K) (value : V) (now : ℕ) → IsPutBehind keys old key now weighs value new
        → Runs keys weighs old (Get key now ∷ Insert key value None now ∷ []) (Found None ∷ Done ∷ []) new
    pub refused : (old new : CacheState K V S W) (key : K) (value : V) (now : ℕ) → IsRefusedBehind keys old key now new
        → Runs keys weighs old (Get key now ∷ Insert key value None now ∷ []) (Found None ∷ OutOfMemory ∷ []) new

  -- a modification is an insert of what was left there, or it only looks
  pub record ModificationsAreCalls (changes : V → V → Type 0) : Type 0 where
    pub modified : (old new : CacheState K V S W) (key : K) (now : ℕ) (done : IsModified keys weighs changes old key now new)
        → IsStep keys weighs old (Insert key done.value None now) Done new
    pub looked : (old new : CacheState K V S W) (key : K) (now : ℕ) → Modifies keys weighs changes false old key now new
        → IsStep keys weighs old (ContainsKey key now) (Truth false) new

-- ---- probes

module _ {Q K S : Type 0} (V W : Type 0) (keys : Keys K S) (stands_for : Q → K → Bool) (hash_of : S → Q → ℕ) where
  -- a look-up by a probe answers and leaves what that by each key does that the probe stands for
  pub record ProbesActAsKeys : Type 0 where
    pub hash : (state : S) (probe : Q) (key : K) → IsTrue (stands_for probe key) → hash_of state probe ≡ keys.hash_of state key
    pub calls : (probe : Q) (key : K) → IsTrue (stands_for probe key) → (cache : CacheState K V S W) (now : ℕ) →
        (found_where keys cache (stands_for probe) now ≡ found_by_get keys cache key now)
        × (after_get_where keys cache (stands_for probe) (hash_of cache.settings.hash_state probe) now ≡ after_get keys cache key now)
        × (peeked_where cache (stands_for probe) now ≡ found_by_peek keys cache key now)
        × (is_contained_where keys cache (stands_for probe) now ≡ is_contained keys cache key now)
        × (after_invalidate_where keys cache (stands_for probe) now ≡ after_invalidate keys cache key now)
