-- What a contract sees of the calls that were made of a cache, and what they tell of a key. `src/history.rt` promises the laws.
use Rattle.std.specs.Prelude.{◌≡◌, ℕ, Bool, true, false, ◌||◌, All, List, [], ◌∷◌, ◌++◌, map}
use Rattle.std.specs.Prelude.{reverse, is_some, Option, Some, None, option_map, if◌then◌else◌}
use Rattle.std.specs.List.{list_any}
use Rattle.moka_common.specs.Keys.{Keys}
use Rattle.moka_common.specs.Moment.{idle_expired, is_past}
use Rattle.moka_common.specs.Policy.{Policy}
use Rattle.moka_common.specs.Settings.{Settings, idle_nanos, live_nanos}
use Rattle.moka_unsync_model.specs.declared.entry.Entry.{Entry}
use Rattle.moka_unsync_model.specs.Contents.{entry_keys}
use Rattle.moka_unsync_model.specs.CacheState.{CacheState, new_cache}
use Rattle.moka_unsync_model.specs.Deadline.{end_of}
use Rattle.moka_unsync_model.specs.Invalidate.{chosen}
use Rattle.moka_unsync_model.specs.Step.{Answer, IsStep, Request, Runs, Get, Peek, Insert, Invalidate, Remove, InvalidateAll}
use Rattle.moka_unsync_model.specs.Step.{InvalidateEntriesIf, Iterate, ContainsKey, Done, Found, Pairs, Truth}
use Rattle.moka_unsync_model.specs.declared.shares.Shares.{Shares}

-- ---- what the calls tell

-- a call that was made: what it asked, what was answered, the keys that its predicate chose, and the deadline of what it inserts
pub record Exchange (K V : Type 0) : Type 0 where
  pub request : Request K V
  pub answer : Answer K V
  pub chosen : List K
  pub deadline : ℕ

-- the value that was last written at a key, its deadline, and the moment of the last write or hit
pub record LastWrite (V : Type 0) : Type 0 where
  pub value : V
  pub deadline : ℕ
  pub used : ℕ

-- whether its deadline has come, or its time to idle has passed since the last write or hit
abbrev pub is_over : {V : Type 0} → Policy → ℕ → LastWrite V → Bool
is_over policy now write = is_past (live_nanos policy) write.deadline now || idle_expired (idle_nanos policy) write.used now

-- a write that was hit then
abbrev pub used_at : {V : Type 0} → ℕ → LastWrite V → LastWrite V
used_at now write = record write { used = now }

module _ {K V S : Type 0} (keys : Keys K S) where
  -- whether a call invalidates or removes a key, if its predicate chose these
  abbrev pub is_invalidated : Request K V → List K → K → Bool
  is_invalidated (Invalidate other now) chosen key = keys.eq other key
  is_invalidated (Remove other now) chosen key = keys.eq other key
  is_invalidated InvalidateAll chosen key = true
  is_invalidated (InvalidateEntriesIf answers) chosen key = list_any (λ other. keys.eq other key) chosen
  is_invalidated request chosen key = false

  -- whether a call is an accepted insert at a key
  abbrev pub is_written : Request K V → Answer K V → K → Bool
  is_written (Insert other value own now) Done key = keys.eq other key
  is_written request answer key = false

  -- what is known of a key's last write after a call: an accepted insert writes, a hit uses, and an invalidation or a removal ends it
  abbrev pub known_after : Request K V → Answer K V → List K → ℕ → K → Option (LastWrite V) → Option (LastWrite V)
  known_after (Insert other value own now) Done chosen deadline key known =
      if keys.eq other key then Some (record { value = value; deadline = deadline; used = now }) else known
  known_after (Get other now) (Found (Some value)) chosen deadline key known =
      if keys.eq other key then option_map (used_at now) known else known
  known_after request answer chosen deadline key known = if is_invalidated request chosen key then None else known

  -- the last write of a key that no invalidation or removal has ended, by the calls that were made, the last one first
  abbrev pub last_write : K → List (Exchange K V) → Option (LastWrite V)
  last_write key [] = None
  last_write key (call ∷ earlier) = known_after call.request call.answer call.chosen call.deadline key (last_write key earlier)

  -- this value was the last one written at the key, and neither of its durations has passed
  abbrev pub IsCurrent : Policy → ℕ → List (Exchange K V) → K → V → Type 0
  IsCurrent policy now past key value =
      (write : LastWrite V) × (last_write key past ≡ Some write) × (write.value ≡ value) × (is_over policy now write ≡ false)

  -- the last call that concerns a key is this insert at an equal key: none since is an accepted insert at it, or invalidates or removes it
  pub record IsLastInsert (past : List (Exchange K V)) (key : K) (value : V) (deadline : ℕ) : Type 0 where
    pub since : List (Exchange K V)
    pub insert : Exchange K V
    pub earlier : List (Exchange K V)
    pub other : K
    pub own : Option ℕ
    pub now : ℕ
    pub parts : past ≡ since ++ insert ∷ earlier
    pub asked : insert.request ≡ Insert other value own now
    pub accepted : insert.answer ≡ Done
    pub until : insert.deadline ≡ deadline
    pub equal : keys.eq other key ≡ true
    pub unwritten : All (λ call. is_written call.request call.answer key ≡ false) since
    pub valid : All (λ call. is_invalidated call.request call.chosen key ≡ false) since

-- what is known of a key's last write is that of the last call that concerns the key, an insert
abbrev pub LastWritesAreInserts : {K S : Type 0} → Keys K S → Type 0 → Type 0
LastWritesAreInserts {K = K} keys V =
    (past : List (Exchange K V)) (key : K) (write : LastWrite V) → last_write keys key past ≡ Some write →
    IsLastInsert keys past key write.value write.deadline

-- ---- the calls of a cache

-- a call and the caches before and after it
pub record Transition (K V S W : Type 0) : Type 0 where
  pub before : CacheState K V S W
  pub request : Request K V
  pub answer : Answer K V
  pub after : CacheState K V S W

-- the keys that a call's predicate chose among these entries
abbrev pub chosen_keys : {K V : Type 0} → Request K V → List (Entry K V) → List K
chosen_keys (InvalidateEntriesIf answers) entries = entry_keys (chosen answers entries)
chosen_keys request entries = []

-- the deadline of what a call inserts, which is 0 if it is no insert
abbrev pub inserted_deadline : {K V : Type 0} → Policy → Request K V → ℕ
inserted_deadline policy (Insert key value own now) = end_of (live_nanos policy) own now
inserted_deadline policy request = 0

-- what was asked and answered
abbrev pub exchange_of : {K V S W : Type 0} → Transition K V S W → Exchange K V
exchange_of call =
    record {
      request = call.request;
      answer = call.answer;
      chosen = chosen_keys call.request call.before.contents.entries;
      deadline = inserted_deadline call.before.settings.policy call.request;
    }

abbrev pub exchanges : {K V S W : Type 0} → List (Transition K V S W) → List (Exchange K V)
exchanges past = map exchange_of past

module _ {K V S W : Type 0} (keys : Keys K S) (weighs : W → K → V → ℕ → W → Type 0) where
  -- these calls, the last one first, lead from one cache to another
  abbrev pub Leads : CacheState K V S W → List (Transition K V S W) → CacheState K V S W → Type 0
  Leads old [] new = new ≡ old
  Leads old (call ∷ earlier) new =
      (call.after ≡ new) × IsStep keys weighs call.before call.request call.answer call.after × Leads old earlier call.before

  -- each run has a history: its calls with their answers, the last one first
  abbrev pub RunsHaveAHistory : Type 0
  RunsHaveAHistory =
      (old new : CacheState K V S W) (requests : List (Request K V))
      (answers : List (Answer K V)) → Runs keys weighs old requests answers new →
      (past : List (Transition K V S W)) × Leads old past new
      × (map (λ call. call.request) past ≡ reverse requests) × (map (λ call. call.answer) past ≡ reverse answers)

  -- from a new cache, a value that a get finds is the last one written at the key, and is current
  abbrev pub HitsAreCurrent : Type 0
  HitsAreCurrent =
      (settings : Settings S) (shares : Shares) (weigher : W) (capacity : ℕ) (past : List (Transition K V S W)) (cache next : CacheState K V S W)
      (key : K) (now : ℕ)
      (value : V) →
      Leads (new_cache settings shares weigher capacity) past cache → IsStep keys weighs cache (Get key now) (Found (Some value)) next →
      IsCurrent keys settings.policy now (exchanges past) key value

  -- and so is each pair that an iterator gives
  abbrev pub PairsAreCurrent : Type 0
  PairsAreCurrent =
      (settings : Settings S) (shares : Shares) (weigher : W) (capacity : ℕ) (past : List (Transition K V S W)) (cache next : CacheState K V S W) (now : ℕ)
      (pairs : List (K × V)) →
      Leads (new_cache settings shares weigher capacity) past cache → IsStep keys weighs cache (Iterate now) (Pairs pairs) next →
      All (λ p. IsCurrent keys settings.policy now (exchanges past) p.0 p.1) pairs

  -- and so is a value that a peek finds
  abbrev pub PeeksAreCurrent : Type 0
  PeeksAreCurrent =
      (settings : Settings S) (shares : Shares) (weigher : W) (capacity : ℕ) (past : List (Transition K V S W)) (cache next : CacheState K V S W)
      (key : K) (now : ℕ) (value : V) →
      Leads (new_cache settings shares weigher capacity) past cache → IsStep keys weighs cache (Peek key now) (Found (Some value)) next →
      IsCurrent keys settings.policy now (exchanges past) key value

  -- a key is told to be there exactly where a get would find a value
  abbrev pub ContainsAsGet : Type 0
  ContainsAsGet =
      (cache looked got : CacheState K V S W) (key : K) (now : ℕ) (there : Bool) (found : Option V) →
      IsStep keys weighs cache (ContainsKey key now) (Truth there) looked → IsStep keys weighs cache (Get key now) (Found found) got →
      there ≡ is_some found

  -- a value that a get would find a peek finds, which leaves the cache as it is
  abbrev pub PeekAsGet : Type 0
  PeekAsGet =
      (cache got : CacheState K V S W) (key : K) (now : ℕ) (value : V) →
      IsStep keys weighs cache (Get key now) (Found (Some value)) got → IsStep keys weighs cache (Peek key now) (Found (Some value)) cache

  -- a removal answers what a get in its place answers
  abbrev pub RemoveAsGet : Type 0
  RemoveAsGet =
      (cache left : CacheState K V S W) (key : K) (now : ℕ) (answer : Answer K V) → IsStep keys weighs cache (Remove key now) answer left →
      (got : CacheState K V S W) × IsStep keys weighs cache (Get key now) answer got
