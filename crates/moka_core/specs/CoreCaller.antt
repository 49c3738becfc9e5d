-- The steps of a core as those of its caller of whole calls.
use Rattle.std.specs.Prelude.{◌≡◌, ℕ, Bool, not}
use Rattle.moka_common.specs.Keys.{Keys}
use Rattle.moka_sync_model.specs.declared.constants.TheConstants.{CALLER}
use Rattle.moka_sync_model.specs.declared.event.Event.{Event}
use Rattle.moka_sync_model.specs.CoreCall.{Decides}
use Rattle.moka_sync_model.specs.CoreState.{CoreState, pending_of}
use Rattle.moka_sync_model.specs.Phase.{is_idle}
use Rattle.moka_sync_model.specs.Reply.{Reply}
use Rattle.moka_sync_model.specs.Run.{Happens}
use Rattle.moka_sync_model.specs.WholeCall.{Log}
use Rattle.moka_core.specs.Core.{Core}
use Rattle.moka_sync_model.specs.Steps.{Caller, kind_of}

-- what the caller of whole calls has under way
abbrev pub caller_of : {K V S : Type 0} → CoreState K V S → Caller
caller_of core = record { pending = kind_of (pending_of CALLER core); is_maintaining = not (is_idle core.maintenance.phase) }

module _ {K V S W : Type 0} where
  -- that of a core with its weigher
  abbrev pub core_caller : Core K V S W → Caller
  core_caller core = caller_of core.state

  -- exactly the steps of the definitions, and the weigher stays
  abbrev pub core_allows : Keys K S → (W → K → V → ℕ → Type 0) → Core K V S W → Event K V → Reply K V → Core K V S W → Type 0
  core_allows keys weighs old event reply new =
      Happens keys (weighs old.weigher) old.state event reply new.state × (new.weigher ≡ old.weigher)

  -- exactly what the core decides, and the weigher stays
  abbrev pub core_decides : Core K V S W → Log → ℕ → Bool → Core K V S W → Type 0
  core_decides old log now runs new = Decides old.state log now runs new.state × (new.weigher ≡ old.weigher)
