-- The cache of bytes: how its keys are told apart and hashed, and what weighs its entries.
use Rattle.std.specs.Prelude.{◌≡◌, ℕ, List, [], ◌∷◌, nat_eq}
use Rattle.std.specs.Cmp.Lexicographic.{pointwise}
use Rattle.std.specs.Hash.DefaultHasher.{with_keys, write, finish}
use Rattle.moka_common.specs.Keys.{Keys, keys_by}
use Rattle.moka_unsync.specs.CacheState.{CacheState}
use Rattle.mini_moka_c.specs.declared.seed.Seed.{Seed}
use Rattle.mini_moka_c.specs.declared.weight.ByteWeight.{ByteWeight}
use Rattle.mini_moka_c.specs.Weight.{weight_of}

-- the state of the cache
abbrev pub ByteCacheState : Type 0
ByteCacheState = CacheState (List ℕ) (List ℕ) Seed ByteWeight

-- keys are equal where their bytes are, and hashed as one write
abbrev pub byte_keys : Keys (List ℕ) Seed
byte_keys =
    keys_by (record { eq = pointwise nat_eq; hash_input = λ bytes. bytes ∷ [] }) (record { build_hasher = λ seed. with_keys seed.low seed.high })
    (record { write = write; finish = finish })

-- what the weigher answers, which stays as it is
abbrev pub byte_weighs : ByteWeight → List ℕ → List ℕ → ℕ → ByteWeight → Type 0
byte_weighs old key value weight new = (weight ≡ weight_of old key value) × (new ≡ old)
