-- What look-ups answer and leave.
use Rattle.std.specs.Prelude.{ℕ, Bool, ◌&&◌, nat_le, nat_lt, is_some, Option, Some, None, option_map, if◌then◌else◌}
use Rattle.moka_common.specs.Keys.{Keys}
use Rattle.moka_common.specs.Policy.{Policy}
use Rattle.moka_common.specs.Sketch.{Table, after_increment}
use Rattle.moka_unsync_model.specs.declared.entry.Entry.{Entry}
use Rattle.moka_unsync_model.specs.declared.entry.Part.{Part}
use Rattle.moka_unsync_model.specs.declared.entry.Part.TheVariants.{Probation, Protected, Window}
use Rattle.moka_unsync_model.specs.Contents.{Contents, after_moving, balanced, entry_where, is_window}
use Rattle.moka_unsync_model.specs.CacheState.{CacheState, room_of}
use Rattle.moka_unsync_model.specs.Cleanup.{after_cleanup, unexpired}

-- where an entry of this part and weight is once it was used: in main it is protected, if that has room for it at all
abbrev pub used_part : ℕ → Part → ℕ → Part
used_part room part weight =
    if is_window part then Window
    else if nat_lt 0 room && nat_le weight room then Protected
    else Probation

module _ {K V : Type 0} where
  -- the first entry whose key passes a test, if it is unexpired
  abbrev pub unexpired_where : Policy → ℕ → (K → Bool) → Contents K V → Option (Entry K V)
  unexpired_where policy now test contents = unexpired policy now (entry_where test contents.entries)

module _ {K V : Type 0} (eq : K → K → Bool) where
  -- the contents once an entry, which may be another than the one at its key, was used: it is the most recent of its part, and protected weighs no
  -- more than this
  abbrev pub after_using : ℕ → Entry K V → Contents K V → Contents K V
  after_using room entry contents =
      let moved = after_moving eq (record entry { part = used_part room entry.part entry.weight }) contents in
      record moved { entries = balanced room moved.entries }

  -- the unexpired entry of a key
  abbrev pub unexpired_at : Policy → ℕ → K → Contents K V → Option (Entry K V)
  unexpired_at policy now key contents = unexpired_where policy now (eq key) contents

  -- the contents once an entry was used then, or none was found
  abbrev pub after_use : ℕ → ℕ → Option (Entry K V) → Contents K V → Contents K V
  after_use room now None contents = contents
  after_use room now (Some used) contents = after_using room (record used { accessed = now }) contents

  -- the contents once a key that passes a test was looked for: its unexpired entry is used
  abbrev pub after_search_where : ℕ → Policy → ℕ → (K → Bool) → Contents K V → Contents K V
  after_search_where room policy now test contents = after_use room now (unexpired_where policy now test contents) contents

  -- the contents once a key was looked for
  abbrev pub after_search : ℕ → Policy → ℕ → K → Contents K V → Contents K V
  after_search room policy now key contents = after_search_where room policy now (eq key) contents

-- what a peek finds of a key that passes a test: the unexpired value as the cache stands
abbrev pub peeked_where : {K V S W : Type 0} → CacheState K V S W → (K → Bool) → ℕ → Option V
peeked_where cache test now = option_map (λ e. e.value) (unexpired_where cache.settings.policy now test cache.contents)

-- the sketch once a hash was counted, if there is one
abbrev pub counted : Option ℕ → Option Table → Option Table
counted None sketch = sketch
counted (Some hash) sketch = after_increment sketch hash

module _ {K V S W : Type 0} (keys : Keys K S) where
  -- the cache after a call that only looks: cleanup
  abbrev pub after_look : CacheState K V S W → ℕ → CacheState K V S W
  after_look cache now = record cache { contents = after_cleanup keys.eq cache.settings.policy now cache.contents }

  -- the cache after a look-up by a probe that finds nothing: cleanup, and the hash is counted, if there is one
  abbrev pub after_miss : CacheState K V S W → Option ℕ → ℕ → CacheState K V S W
  after_miss cache hash now = record (after_look cache now) { sketch = counted hash cache.sketch }

  -- the cache after a get of a key that passes a test: cleanup, then the hash is counted, and the unexpired entry is used
  abbrev pub after_get_where : CacheState K V S W → (K → Bool) → ℕ → ℕ → CacheState K V S W
  after_get_where cache test hash now =
      record cache {
        contents = after_search_where keys.eq (room_of cache) cache.settings.policy now test (after_look cache now).contents;
        sketch = after_increment cache.sketch hash;
      }

  -- the cache after a get of a key
  abbrev pub after_get : CacheState K V S W → K → ℕ → CacheState K V S W
  after_get cache key now = after_get_where cache (keys.eq key) (keys.hash_of cache.settings.hash_state key) now

  -- what a get finds, or a removal, of a key that passes a test
  abbrev pub found_where : CacheState K V S W → (K → Bool) → ℕ → Option V
  found_where cache test now = option_map (λ e. e.value) (unexpired_where cache.settings.policy now test (after_look cache now).contents)

  -- what a get finds of a key, or a removal
  abbrev pub found_by_get : CacheState K V S W → K → ℕ → Option V
  found_by_get cache key now = found_where cache (keys.eq key) now

  -- what a peek finds: the unexpired value as the cache stands
  abbrev pub found_by_peek : CacheState K V S W → K → ℕ → Option V
  found_by_peek cache key now = peeked_where cache (keys.eq key) now

  -- whether a key that passes a test is there, to a call that is no use of it
  abbrev pub is_contained_where : CacheState K V S W → (K → Bool) → ℕ → Bool
  is_contained_where cache test now = is_some (unexpired_where cache.settings.policy now test (after_look cache now).contents)

  -- whether a key is there, to such a call
  abbrev pub is_contained : CacheState K V S W → K → ℕ → Bool
  is_contained cache key now = is_contained_where cache (keys.eq key) now
