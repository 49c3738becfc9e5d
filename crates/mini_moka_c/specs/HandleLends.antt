-- What a handle ends as, once a reference to what it keeps has ended. No public clause cites this module.
use Rattle.std.specs.Prelude.{◌≡◌, ℕ, Option, Some, None, Result}
use Rattle.std.specs.Borrow.{Fml, MutBor, LendsIf, LendsIfOk}
use Rattle.mini_moka_c.specs.declared.cache.ByteCache.{ByteCache}
use Rattle.mini_moka_c.specs.declared.constants.TheConstants.{CLOSED, OTHER_KIND}
use Rattle.mini_moka_c.specs.declared.handle.Handle.{Handle}
use Rattle.mini_moka_c.specs.declared.handle.AnyCache.{AnyCache}
use Rattle.mini_moka_c.specs.declared.handle.AnyCache.TheVariants.{Bytes, Numbers}
use Rattle.mini_moka_c.specs.contracts.cache.ByteCache.{the_row as bytes_row}
use Rattle.mini_moka_c.specs.contracts.handle.Handle.{the_row}
use Rattle.mini_moka_c.specs.contracts.handle.AnyCache.{the_row as kept_row}
use Rattle.mini_moka_c.specs.contracts.number_cache.NumberCache.{the_row as numbers_row}
use Rattle.mini_moka_c.specs.declared.number_cache.NumberCache.{NumberCache}

-- the handle, with this as what it keeps
abbrev pub with_kept : Handle → AnyCache → Handle
with_kept handle kept = record handle { value = Some kept }

-- an open handle keeps the last value written through r, and a closed one stays as it is
abbrev pub lends_kept : MutBor Handle → Option (MutBor AnyCache) → Fml
lends_kept handle r = LendsIf the_row kept_row handle r (with_kept handle.now) handle.now

-- a handle of bytes keeps the last cache written through r, and any other handle stays as it is
abbrev pub lends_bytes : MutBor Handle → Result (MutBor ByteCache) ℕ → Fml
lends_bytes handle r = LendsIfOk the_row bytes_row handle r (λ bytes. with_kept handle.now (Bytes bytes)) handle.now

-- a handle of numbers keeps the last cache written through r, and any other handle stays as it is
abbrev pub lends_numbers : MutBor Handle → Result (MutBor NumberCache) ℕ → Fml
lends_numbers handle r = LendsIfOk the_row numbers_row handle r (λ numbers. with_kept handle.now (Numbers numbers)) handle.now

-- no cache of bytes is kept, and this status says why
abbrev pub KeepsNoBytes : Option AnyCache → ℕ → Type 0
KeepsNoBytes None status = status ≡ CLOSED
KeepsNoBytes (Some (Numbers numbers)) status = status ≡ OTHER_KIND
KeepsNoBytes (Some (Bytes bytes)) status = ⊥

-- no cache of numbers is kept, and this status says why
abbrev pub KeepsNoNumbers : Option AnyCache → ℕ → Type 0
KeepsNoNumbers None status = status ≡ CLOSED
KeepsNoNumbers (Some (Bytes bytes)) status = status ≡ OTHER_KIND
KeepsNoNumbers (Some (Numbers numbers)) status = ⊥
