-- Laws of whole calls over the steps of a core.
use Rattle.std.specs.Prelude.{◌≡◌, ℕ, true}
use Rattle.moka_common.specs.Keys.{Keys}
use Rattle.moka_sync_model.specs.declared.call.Call.TheVariants as call
use Rattle.moka_sync_model.specs.declared.constants.TheConstants.{CALLER}
use Rattle.moka_sync_model.specs.CoreCall.{IsAtRest, IsCall}
use Rattle.moka_sync_model.specs.Reply.{Reply}
use Rattle.moka_sync_model.specs.WholeCall.{CallsGet, CallsInsert, CallsInvalidate, CallsRemove, CallsSync}
use Rattle.moka_core.specs.Core.{Core}
use Rattle.moka_core.specs.CoreCaller.{core_allows, core_caller, core_decides}
use Rattle.moka_sync_model.specs.Steps.{at_rest, pends_by}

-- they are the whole calls of the core, and leave its weigher; a get is one whose value was copied
pub record AreCalls {K V S W : Type 0} (keys : Keys K S) (weighs : W → K → V → ℕ → Type 0) : Type 0 where
  pub insert : (old new : Core K V S W) (key : K) (value : V) (now : ℕ) (reply : Reply K V)
      → CallsInsert (core_allows keys weighs) core_decides (pends_by core_caller) CALLER key value now reply old new
      → IsCall keys (weighs old.weigher) old.state (call.Insert key value now) reply new.state × (new.weigher ≡ old.weigher)
  pub get : (old new : Core K V S W) (key : K) (now : ℕ) (reply : Reply K V)
      → CallsGet (core_allows keys weighs) core_decides (pends_by core_caller) CALLER key now true reply old new
      → IsCall keys (weighs old.weigher) old.state (call.Get key now) reply new.state × (new.weigher ≡ old.weigher)
  pub invalidate : (old new : Core K V S W) (key : K) (now : ℕ) (reply : Reply K V)
      → CallsInvalidate (core_allows keys weighs) core_decides (pends_by core_caller) CALLER key now reply old new
      → IsCall keys (weighs old.weigher) old.state (call.Invalidate key now) reply new.state × (new.weigher ≡ old.weigher)
  pub remove : (old new : Core K V S W) (key : K) (now : ℕ) (reply : Reply K V)
      → CallsRemove (core_allows keys weighs) core_decides (pends_by core_caller) CALLER key now reply old new
      → IsCall keys (weighs old.weigher) old.state (call.Remove key now) reply new.state × (new.weigher ≡ old.weigher)
  pub sync : (old new : Core K V S W) (now : ℕ) (reply : Reply K V)
      → CallsSync (core_allows keys weighs) core_decides (pends_by core_caller) CALLER now reply old new
      → IsCall keys (weighs old.weigher) old.state (call.Sync now) reply new.state × (new.weigher ≡ old.weigher)
  -- where nothing is under way at a core, nothing is of its caller
  pub rest : (core : Core K V S W) → IsAtRest core.state → core_caller core ≡ at_rest
