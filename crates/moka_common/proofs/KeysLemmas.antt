-- What the bounds of a cache's types bring of its keys.
use Rattle.std.proofs.Common.{◌≡◌, true, fold, ap}
use Rattle.std.specs.HashMap.Lent.{HashMembers}
use Rattle.std.specs.declared.hash.BuildHasher as builder
use Rattle.std.specs.declared.hash.Hasher as hasher
use Rattle.moka_common.specs.Keys.{keys_by}

-- keys that are equal hash alike
pub keys_by-respects : {K S H : Type 0} (key : HashMembers K) (build : builder.Ghosts S H) (hash : hasher.Ghosts H)
    → ((x y : K) → key.eq x y ≡ true → key.hash_input x ≡ key.hash_input y)
    → (s : S) (x y : K) → key.eq x y ≡ true → (keys_by key build hash).hash_of s x ≡ (keys_by key build hash).hash_of s y
keys_by-respects key build hash respects s x y equal =
    ap (λ input. hash.finish (fold hash.write (build.build_hasher s) input)) (respects x y equal)
