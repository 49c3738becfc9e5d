-- What invalidations and removals leave.
use Rattle.std.specs.Prelude.{◌≡◌, ℕ, Bool, true, false, List, [], ◌∷◌, map}
use Rattle.std.specs.Borrow.{Bor}
use Rattle.moka_common.specs.Keys.{Keys}
use Rattle.moka_unsync_model.specs.declared.entry.Entry.{Entry}
use Rattle.moka_unsync_model.specs.Contents.{after_leaving, entry_keys, except, no_contents}
use Rattle.moka_unsync_model.specs.CacheState.{CacheState}
use Rattle.moka_unsync_model.specs.Cleanup.{is_expired}
use Rattle.moka_unsync_model.specs.Lookup.{after_look}

-- the items that are answered true, one answer an item
abbrev pub chosen : {X : Type 0} → List Bool → List X → List X
chosen (true ∷ answers) (item ∷ items) = item ∷ chosen answers items
chosen (false ∷ answers) (item ∷ items) = chosen answers items
chosen [] items = []
chosen answers [] = []

-- the cache once all is invalidated: what was counted stays
abbrev pub after_invalidate_all : {K V S W : Type 0} → CacheState K V S W → CacheState K V S W
after_invalidate_all cache = record cache { contents = no_contents }

module _ {P K V : Type 0} (calls : P → Bor K → Bor V → Bool → P → Type 0) where
  -- a predicate, called at an entry, answers so and is another then
  pub record AnswersAt (predicate : P) (entry : Entry K V) (answer : Bool) (next : P) : Type 0 where
    pub key : Bor K
    pub value : Bor V
    pub shown : (key.now ≡ entry.key) × (value.now ≡ entry.value)
    pub called : calls predicate key value answer next

  -- a predicate is called once at each entry, in their order, and gives these answers
  abbrev pub AnswersInTurn : P → List (Entry K V) → List Bool → Type 0
  AnswersInTurn predicate [] answers = answers ≡ []
  AnswersInTurn predicate (entry ∷ entries) answers =
      (answer : Bool) × (next : P) × (rest : List Bool)
      × (answers ≡ answer ∷ rest) × AnswersAt predicate entry answer next × AnswersInTurn next entries rest

module _ {K V S W : Type 0} (keys : Keys K S) where
  -- the cache once a key that passes a test is invalidated or removed: cleanup, and then its entry leaves
  abbrev pub after_invalidate_where : CacheState K V S W → (K → Bool) → ℕ → CacheState K V S W
  after_invalidate_where cache test now = record cache { contents = except test (after_look keys cache now).contents }

  -- the cache once a key is
  abbrev pub after_invalidate : CacheState K V S W → K → ℕ → CacheState K V S W
  after_invalidate cache key now = after_invalidate_where cache (keys.eq key) now

  -- the cache once a predicate has answered for each entry, in order of use: those that it chose have left
  abbrev pub after_invalidate_if : CacheState K V S W → List Bool → CacheState K V S W
  after_invalidate_if cache answers =
      record cache { contents = after_leaving keys.eq (entry_keys (chosen answers cache.contents.entries)) cache.contents }

  -- whether each entry is expired, in order of use
  abbrev pub expiries : CacheState K V S W → ℕ → List Bool
  expiries cache now = map (is_expired cache.settings.policy now) cache.contents.entries

  -- the cache once all expired entries have left
  abbrev pub after_remove_expired : CacheState K V S W → ℕ → CacheState K V S W
  after_remove_expired cache now = after_invalidate_if cache (expiries cache now)
