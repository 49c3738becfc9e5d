-- The whole calls' text over steps that say less than the core's: a cache behind locks, of which each step keeps what its lock's type
-- keeps.
use Rattle.std.proofs.Common.{◌≡◌, ℕ, Bool, Some}
use Rattle.moka_sync_model.specs.declared.event.Event.{Event}
use Rattle.moka_sync_model.specs.Reply.{Reply}
use Rattle.moka_sync_model.specs.declared.event.Event.TheVariants.{Get}
use Rattle.moka_sync_model.specs.declared.event.Reply.TheVariants.{Found}
use Rattle.moka_sync_model.specs.WholeCall.{Log, CallsGet}

module _ {K V : Type 0} (holds : K → V → Type 0) where
  -- what the caller itself knows of the cache: whether it has an operation pending
  pub record Locked : Type 0 where
    pub is_pending : Bool

  -- a get that finds a value tells that the pair meets the rule, and each step may leave whatever else
  abbrev pub Keeps : Locked → Event K V → Reply K V → Locked → Type 0
  Keeps old (Get caller key now) (Found (Some value)) new = holds key value
  Keeps old event reply new = Unit {0}

  -- a look at a log and at the time tells nothing
  abbrev pub Looks : Locked → Log → ℕ → Bool → Locked → Type 0
  Looks old log now runs new = new ≡ old

  -- a whole call of get answers a pair that meets the rule
  pub got_holds : (old new : Locked) (caller : ℕ) (key : K) (now : ℕ) (copied : Bool) (value : V)
      → CallsGet Keeps Looks (λ l. l.is_pending) caller key now copied (Found (Some value)) old new → holds key value
  got_holds old new caller key now copied value call = call.first
