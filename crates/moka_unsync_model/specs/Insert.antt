-- What an insert leaves.
use Rattle.std.specs.Prelude.{◌≡◌, ◌<◌, ◌≤◌, ◌-◌, ◌^◌, ℕ, Bool, true, false, List, [], ◌∷◌, ◌++◌, length, is_some, Option, Some, None, if◌then◌else◌}
use Rattle.moka_common.specs.Enabling.{after_enabling}
use Rattle.moka_common.specs.declared.frequency_sketch.enabling.Load.{Load}
use Rattle.moka_common.specs.Keys.{Keys}
use Rattle.moka_common.specs.Moment.{deadline_of}
use Rattle.moka_common.specs.Sketch.{Table}
use Rattle.moka_unsync_model.specs.Deadline.{expiry_of, is_beyond}
use Rattle.moka_unsync_model.specs.declared.entry.Entry.{Entry}
use Rattle.moka_unsync_model.specs.declared.entry.Part.TheVariants.{Probation, Window}
use Rattle.moka_unsync_model.specs.Contents.{Contents, Write, is_window, total_weight, entry_keys, entry_at, writes_without, after_leaving, with_latest}
use Rattle.moka_unsync_model.specs.CacheState.{CacheState, room_of, windowed}
use Rattle.moka_common.specs.Settings.{Settings, keeps_writes, live_nanos}
use Rattle.moka_unsync_model.specs.declared.shares.PartLimits.{PartLimits}
use Rattle.moka_unsync_model.specs.Lookup.{after_look, after_using, is_contained, unexpired_at}
use Rattle.moka_unsync_model.specs.Cleanup.{after_cleanup}
use Rattle.moka_unsync_model.specs.Memory.{Memory, after_coming, after_remembering, demand_after, shares_at}
use Rattle.moka_unsync_model.specs.Shares.{limits_of}
use Rattle.moka_unsync_model.specs.Window.{candidates, victims_of, after_candidates, after_displacing, after_judgements, after_sharing, given_up}

-- the writes with one more, where they are kept
abbrev pub with_write : {K : Type 0} → Bool → List (Write K) → K → ℕ → List (Write K)
with_write true written key deadline = written ++ record { key = key; deadline = deadline } ∷ []
with_write false written key deadline = written

module _ {K V : Type 0} (eq : K → K → Bool) where
  -- the contents once an entry has another's value, weight and moments: it keeps its key, is used, and is the most recent of the writes
  abbrev pub after_update : Bool → ℕ → Entry K V → Entry K V → Contents K V → Contents K V
  after_update keeps room old new contents =
      record (after_using eq room (record new { key = old.key; hash = old.hash; part = old.part }) contents) {
        written = with_write keeps (writes_without eq old.key contents.written) old.key (expiry_of new);
      }

  -- the contents once a new entry is the most recent of its part, and of the writes
  abbrev pub after_arrival : Bool → Entry K V → Contents K V → Contents K V
  after_arrival keeps new contents =
      record { entries = with_latest new contents.entries; written = with_write keeps contents.written new.key (expiry_of new) }

  -- the same for one of the window, which is the most recent of all
  abbrev pub after_entry : Bool → Entry K V → Contents K V → Contents K V
  after_entry keeps new contents =
      record { entries = contents.entries ++ new ∷ []; written = with_write keeps contents.written new.key (expiry_of new) }

  -- the contents once a new entry was admitted in place of these, or was rejected
  abbrev pub after_admission : Bool → Entry K V → Option (List (Entry K V)) → Contents K V → Contents K V
  after_admission keeps new None contents = contents
  after_admission keeps new (Some gone) contents = after_arrival keeps new (after_leaving eq (entry_keys gone) contents)

  -- the contents once a new entry entered the window, and what then has to leave it were candidates for main
  abbrev pub after_entering : Bool → PartLimits → Option Table → Entry K V → Contents K V → Contents K V
  after_entering keeps limits sketch new contents =
      let entered = after_entry keeps (record new { part = Window }) contents in
      after_candidates eq limits sketch (candidates limits entered.entries) entered

  -- what is remembered then
  abbrev pub after_entering_judged : Bool → PartLimits → Option Table → Entry K V → Contents K V → Memory → Memory
  after_entering_judged keeps limits sketch new contents memory =
      let entered = after_entry keeps (record new { part = Window }) contents in
      after_judgements eq limits sketch (candidates limits entered.entries) entered memory

-- what the window has gained, if a new entry stands in it: nothing else of main gives way to a larger window
abbrev pub gained_by : {K V : Type 0} → Option (Entry K V) → ℕ → ℕ → ℕ
gained_by None before after = 0
gained_by (Some e) before after = if is_window e.part then after - before else 0

-- which tables memory refuses, if a cache asks for them: that of the sketch, and those of tags
pub record Refused : Type 0 where
  pub table : Bool
  pub tags : Bool

-- what the cache holds when it asks whether to turn its sketch on
abbrev pub load_of : {K V S : Type 0} → Settings S → Contents K V → Load
load_of settings contents = record {
  is_weighed = settings.is_weighed;
  entries = length contents.entries;
  weight = total_weight contents.entries;
}

module _ {K V S W : Type 0} (eq : K → K → Bool) where
  -- the cache once it has asked whether to turn its sketch on, and made tables of tags beside it if it adapts
  abbrev pub after_asking : Refused → CacheState K V S W → CacheState K V S W
  after_asking refused cache =
      let sketch = after_enabling cache.settings.policy.max_capacity (load_of cache.settings cache.contents) refused.table cache.sketch in
      record cache { sketch = sketch; memory = after_remembering refused.tags cache.sketch sketch cache.memory }

  -- the cache once a new entry was admitted in place of these, or was rejected
  abbrev pub after_verdict : CacheState K V S W → Entry K V → Option (List (Entry K V)) → Refused → CacheState K V S W
  after_verdict cache new None refused = cache
  after_verdict cache new (Some gone) refused =
      after_asking refused (record cache {
        contents = after_admission eq (keeps_writes cache.settings.policy) new (Some gone) cache.contents;
      })

  -- the cache once a new entry entered the window: it asks whether to turn its sketch on if that entry stands
  abbrev pub after_standing : CacheState K V S W → Entry K V → Refused → CacheState K V S W
  after_standing cache new refused =
      if is_some (entry_at eq new.key cache.contents.entries) then after_asking refused cache else cache

  -- what is remembered once a new entry entered the window, what had to leave it was judged, and main gave these up
  abbrev pub memory_after : CacheState K V S W → Memory → PartLimits → Entry K V → List (Entry K V) → Memory
  memory_after cache memory limits new gone =
      let coming = record (after_coming new.hash memory) { demand = demand_after cache.shares limits.all memory new.hash new.weight } in
      after_displacing (after_entering_judged eq (keeps_writes cache.settings.policy) limits cache.sketch new cache.contents coming) gone

  -- the cache once a new entry entered the window, after which its contents were these: if it adapts, it remembers what left, the limits of the parts follow
  -- the demand, and main gives up what it has no room for any more
  abbrev pub after_turn : CacheState K V S W → Option Memory → PartLimits → Entry K V → Contents K V → CacheState K V S W
  after_turn cache None limits new contents = record cache { contents = contents }
  after_turn cache (Some memory) limits new contents =
      let shares = shares_at cache.shares limits.all (demand_after cache.shares limits.all memory new.hash new.weight) in
      let turned = limits_of shares limits.all in
      let gained = gained_by (entry_at eq new.key contents.entries) cache.shares.extra shares.extra in
      record cache {
        shares = shares;
        contents = after_sharing eq turned gained contents;
        memory = Some (memory_after cache memory limits new (given_up turned gained contents.entries));
      }

  -- the cache once a new entry was put, where there is a window or none
  abbrev pub after_new : CacheState K V S W → Option PartLimits → Entry K V → Refused → CacheState K V S W
  after_new cache None new refused =
      after_verdict cache new (victims_of cache.settings.policy.max_capacity cache.sketch new cache.contents.entries) refused
  after_new cache (Some limits) new refused =
      after_standing (after_turn cache cache.memory limits new (after_entering eq (keeps_writes cache.settings.policy) limits cache.sketch new cache.contents))
      new refused

  -- the cache once an entry was put at its key, where one stands or none
  abbrev pub after_put : CacheState K V S W → Option (Entry K V) → Entry K V → Refused → CacheState K V S W
  after_put cache (Some old) new refused =
      record cache { contents = after_update eq (keeps_writes cache.settings.policy) (room_of cache) old new cache.contents }
  after_put cache None new refused = after_new cache (windowed cache) new refused

  -- the cache after an insert that had its room: cleanup, and then the entry is put
  abbrev pub after_insert : CacheState K V S W → Entry K V → ℕ → Refused → CacheState K V S W
  after_insert cache new now refused =
      let kept = after_cleanup eq cache.settings.policy now cache.contents in
      after_put (record cache { contents = kept }) (entry_at eq new.key kept.entries) new refused

-- the entry of a key, as it is written then, with its own time to live if it has one
abbrev pub new_entry : {K V S : Type 0} → Keys K S → Settings S → K → V → ℕ → Option ℕ → ℕ → Entry K V
new_entry keys settings key value weight own now =
    record {
      key = key;
      value = value;
      hash = keys.hash_of settings.hash_state key;
      weight = weight;
      part = Probation;
      accessed = now;
      deadline = deadline_of (live_nanos settings.policy) own now;
      outlasts = is_beyond (live_nanos settings.policy) own now;
    }

module _ {K V S W : Type 0} where
  -- there was no room for one more entry, and all is as it was, but that there may be another room
  pub record IsRefused (old new : CacheState K V S W) : Type 0 where
    pub full : old.capacity ≤ length old.contents.entries
    pub same : new ≡ record old { capacity = new.capacity }

module _ {K V S W : Type 0} (keys : Keys K S) (weighs : W → K → V → ℕ → W → Type 0) where
  -- the weigher was asked once, and the entry is put with its answer, whichever tables memory refuses; a new one had room, or it was made
  pub record Puts (old : CacheState K V S W) (key : K) (value : V) (own : Option ℕ) (now : ℕ) (new : CacheState K V S W) : Type 0 where
    pub weight : ℕ
    pub weigher : W
    pub refused : Refused
    pub capacity : ℕ
    pub room : entry_at keys.eq key (after_cleanup keys.eq old.settings.policy now old.contents).entries ≡ None
        → length old.contents.entries < capacity
    pub kept : length old.contents.entries < old.capacity → capacity ≡ old.capacity
    pub weighed : weighs old.weigher key value weight weigher
    pub small : weight < 2 ^ 32
    pub step : new ≡ after_insert keys.eq (record old { weigher = weigher; capacity = capacity })
        (new_entry keys old.settings key value weight own now) now refused

  -- and so it is if the key has an entry
  pub record IsInserted (old : CacheState K V S W) (key : K) (value : V) (own : Option ℕ) (now : ℕ) (new : CacheState K V S W) : Type 0 where
    pub put : Puts old key value own now new
    pub grown : length old.contents.entries < put.capacity

  -- what a change of an entry's value leaves: that of a key's unexpired entry is put there as it was changed, in room that it has
  pub record IsModified (changes : V → V → Type 0) (old : CacheState K V S W) (key : K) (now : ℕ) (new : CacheState K V S W) : Type 0 where
    pub entry : Entry K V
    pub value : V
    pub found : unexpired_at keys.eq old.settings.policy now key (after_cleanup keys.eq old.settings.policy now old.contents) ≡ Some entry
    pub changed : changes entry.value value
    pub put : Puts old key value None now new
    pub same : put.capacity ≡ old.capacity

  -- where the key has none, the call only looked
  abbrev pub Modifies : (V → V → Type 0) → Bool → CacheState K V S W → K → ℕ → CacheState K V S W → Type 0
  Modifies changes true old key now new = IsModified changes old key now new
  Modifies changes false old key now new = (is_contained keys old key now ≡ false) × (new ≡ after_look keys old now)
