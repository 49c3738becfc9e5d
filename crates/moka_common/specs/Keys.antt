-- What a cache needs of its keys: how they are told apart, and what they hash to.
use Rattle.std.specs.Prelude.{ℕ, Bool, List, fold}
use Rattle.std.specs.HashMap.Lent.{HashMembers}
use Rattle.std.specs.declared.hash.BuildHasher as builder
use Rattle.std.specs.declared.hash.Hasher as hasher

-- the keys' equality, and their hash under a hash state
pub record Keys (K S : Type 0) : Type 0 where
  pub eq : K → K → Bool
  pub hash_of : S → K → ℕ

-- the hash under a hash state of what makes these writes
abbrev pub hash_by : {S H : Type 0} → builder.Ghosts S H → hasher.Ghosts H → S → List (List ℕ) → ℕ
hash_by build hash state writes = hash.finish (fold hash.write (build.build_hasher state) writes)

-- the keys of a cache, by what the bounds on its keys and its hash state bring
abbrev pub keys_by : {K S H : Type 0} → HashMembers K → builder.Ghosts S H → hasher.Ghosts H → Keys K S
keys_by key build hash = record { eq = key.eq; hash_of = λ state k. hash_by build hash state (key.hash_input k) }
