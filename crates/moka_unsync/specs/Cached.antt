-- How the parts of a cache are tied. No public clause cites this module.
use Rattle.std.specs.Prelude.{◌≡◌, ◌≤◌, ◌+◌, ◌-◌, ◌^◌, ◌||◌, ◌==◌, ℕ, Bool, true, false, All, is_some, min, unwrap_or, option_map, Option, Some, None}
use Rattle.std.specs.Prelude.{if◌then◌else◌}
use Rattle.moka_common.specs.Keys.{Keys}
use Rattle.moka_common.specs.Policy.{Policy}
use Rattle.moka_common.specs.Settings.{keeps_writes}
use Rattle.moka_common.specs.Sketch.{Table}
use Rattle.moka_unsync_model.specs.declared.entry.Entry.{Entry}
use Rattle.moka_unsync_model.specs.declared.entry.Part.{Part}
use Rattle.moka_unsync_model.specs.declared.shares.PartLimits.{PartLimits}
use Rattle.moka_unsync_model.specs.declared.shares.Shares.{Shares}
use Rattle.moka_unsync_model.specs.CacheState.{CacheState}
use Rattle.moka_unsync_model.specs.Contents.{Contents, entry_at, is_window}
use Rattle.moka_unsync_model.specs.Insert.{after_admission, after_entering}
use Rattle.moka_unsync_model.specs.Memory.{Memory, made_tables, shares_at}
use Rattle.moka_unsync_model.specs.Shares.{limits_of, protected_room, windowed_limits}
use Rattle.moka_unsync_model.specs.Window.{after_displacing, after_sharing, given_up, victims_of}
use Rattle.moka_store.specs.Store.{Store, entries_of}

-- a policy has entries expire or not, and has this limit, or none and then the largest number
pub record IsBounded (policy : Policy) (expires : Bool) (max_weight : ℕ) : Type 0 where
  pub expiring : expires ≡ (is_some policy.time_to_live || is_some policy.time_to_idle)
  pub limited : max_weight ≡ unwrap_or policy.max_capacity (2 ^ 64 - 1)

-- the most entries that a store may have use for: one above the limit, if each weighs 1
abbrev pub most_entries : Policy → Bool → ℕ
most_entries policy true = 2 ^ 64 - 1
most_entries policy false = min (unwrap_or policy.max_capacity (2 ^ 64 - 1) + 1) (2 ^ 64 - 1)

-- each entry has the hash of its key, the writes are kept where there is a time to live, without a window all entries are of main, and what was computed of
-- the shares is right
pub record IsCached {K V S : Type 0} (keys : Keys K S) (state : S) (policy : Policy) (shares : Shares) (limits : Option PartLimits)
    (store : Store K V) : Type 0 where
  pub hashed : All (λ e. e.hash ≡ keys.hash_of state e.key) (entries_of store)
  pub keeps : store.keeps_writes ≡ keeps_writes policy
  pub main : limits ≡ None → All (λ e. is_window e.part ≡ false) (entries_of store)
  pub legal : (shares.window ≤ 100) × (shares.protected ≤ 100)
  pub windowed : limits ≡ windowed_limits shares policy.max_capacity
  pub protected : store.protected_limit ≡ protected_room shares policy.max_capacity

-- the memory once tables were asked for beside a sketch of so many words, if it has any
abbrev pub beside : Bool → ℕ → Option Memory → Option Memory
beside refused words memory = if words == 0 then memory else option_map (made_tables refused words) memory

-- what the window has gained, if a new entry stands in this part
abbrev pub gained_in : Option Part → ℕ → ℕ → ℕ
gained_in None before after = 0
gained_in (Some part) before after = if is_window part then after - before else 0

-- the cache once its limits have followed what it remembers, after a new entry came to this part or was rejected
abbrev pub after_following : {K V S W : Type 0} → (K → K → Bool) → Option Memory → PartLimits → Option Part → CacheState K V S W → CacheState K V S W
after_following eq None limits part cache = cache
after_following eq (Some memory) limits part cache =
    let shares = shares_at cache.shares limits.all memory.demand in
    let turned = limits_of shares limits.all in
    let gained = gained_in part cache.shares.extra shares.extra in
    record cache {
      shares = shares;
      contents = after_sharing eq turned gained cache.contents;
      memory = Some (after_displacing memory (given_up turned gained cache.contents.entries));
    }

-- a new entry was put, by the window where there is one, and whether it stays
abbrev pub IsPut : {K V : Type 0} → (K → K → Bool) → Bool → Option PartLimits → Option ℕ → Option Table → Entry K V → Contents K V → Bool → Contents K V
    → Type 0
IsPut eq keeps None max sketch new old stays put =
    (put ≡ after_admission eq keeps new (victims_of max sketch new old.entries) old) × (stays ≡ is_some (victims_of max sketch new old.entries))
IsPut eq keeps (Some limits) max sketch new old stays put =
    (put ≡ after_entering eq keeps limits sketch new old) × (stays ≡ is_some (entry_at eq new.key put.entries))
