-- What a contract sees of the cache: its settings, its contents, what it has counted and remembers, and its capacity.
use Rattle.std.specs.Prelude.{ℕ, Option, None, option_map, unwrap_or}
use Rattle.moka_common.specs.Settings.{Settings}
use Rattle.moka_common.specs.Sketch.{Table}
use Rattle.moka_unsync_model.specs.declared.shares.Shares.{Shares}
use Rattle.moka_unsync_model.specs.Contents.{Contents, no_contents}
use Rattle.moka_unsync_model.specs.Memory.{Memory, new_memory}
use Rattle.moka_unsync_model.specs.declared.shares.PartLimits.{PartLimits}
use Rattle.moka_unsync_model.specs.Shares.{protected_room, windowed_limits}

-- what a call of the cache finds and leaves: a memory if its window adapts; the capacity is how many entries fit with no allocation
pub record CacheState (K V S W : Type 0) : Type 0 where
  pub settings : Settings S
  pub shares : Shares
  pub weigher : W
  pub contents : Contents K V
  pub sketch : Option Table
  pub memory : Option Memory
  pub capacity : ℕ

-- a cache as it is built
abbrev pub new_cache : {K V S W : Type 0} → Settings S → Shares → W → ℕ → CacheState K V S W
new_cache settings shares weigher capacity =
    record {
      settings = settings;
      shares = shares;
      weigher = weigher;
      contents = no_contents;
      sketch = None;
      memory = new_memory shares;
      capacity = capacity;
    }

-- how much its protected part may weigh
abbrev pub room_of : {K V S W : Type 0} → CacheState K V S W → ℕ
room_of cache = protected_room cache.shares cache.settings.policy.max_capacity

-- its limits, where it has a window
abbrev pub windowed : {K V S W : Type 0} → CacheState K V S W → Option PartLimits
windowed cache = windowed_limits cache.shares cache.settings.policy.max_capacity

-- the weight that the window may have, which is 0 in a cache without one
abbrev pub window_limit : {K V S W : Type 0} → CacheState K V S W → ℕ
window_limit cache = unwrap_or (option_map (λ limits. limits.window) (windowed cache)) 0
