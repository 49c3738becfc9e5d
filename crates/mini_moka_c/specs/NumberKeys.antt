-- The cache that a handle keeps: its keys and values are numbers, and std's default state hashes the keys.
use Rattle.std.specs.Prelude.{◌≡◌, ℕ, nat_eq}
use Rattle.std.specs.Hash.{u64}
use Rattle.std.specs.Hash.BuildHasherDefault.{initial_hasher}
use Rattle.std.specs.Hash.FoldHasher.{write, finish}
use Rattle.std.specs.declared.hash.BuildHasherDefault.{BuildHasherDefault}
use Rattle.std.specs.declared.hash.FoldHasher.{FoldHasher}
use Rattle.moka_common.specs.Keys.{Keys, keys_by}
use Rattle.moka_unsync.specs.CacheState.{CacheState}
use Rattle.mini_moka_c.specs.declared.weight.NumberWeight.{NumberWeight}
use Rattle.mini_moka_c.specs.Weight.{number_weight}

-- the hash state of the cache
abbrev pub FixedState : Type 0
FixedState = BuildHasherDefault FoldHasher

-- the state of the cache
abbrev pub NumberCacheState : Type 0
NumberCacheState = CacheState ℕ ℕ FixedState NumberWeight

-- how the cache tells its keys apart and hashes them
abbrev pub number_keys : Keys ℕ FixedState
number_keys = keys_by (record { eq = nat_eq; hash_input = u64 }) (record { build_hasher = initial_hasher }) (record { write = write; finish = finish })

-- what its weigher answers
abbrev pub number_weighs : NumberWeight → ℕ → ℕ → ℕ → NumberWeight → Type 0
number_weighs old key value weight new = (weight ≡ number_weight old value) × (new ≡ old)
