-- A handle and what it keeps.
use Rattle.std.proofs.Common.{◌≡◌, ap, sym}
use Rattle.std.specs.declared.option.Option.{Option}
use Rattle.std.specs.declared.option.Option.TheVariants.{Some}
use Rattle.mini_moka_c.specs.declared.handle.Handle.{Handle}
use Rattle.mini_moka_c.specs.declared.handle.AnyCache.{AnyCache}
use Rattle.mini_moka_c.specs.HandleLends.{with_kept}

-- a handle with what it keeps already is the same handle
pub with_kept_same : (handle : Handle) (kept : AnyCache) → handle.value ≡ Some kept → with_kept handle kept ≡ handle
with_kept_same handle kept is = ap (λ (value : Option AnyCache). record handle { value = value }) (sym is)
