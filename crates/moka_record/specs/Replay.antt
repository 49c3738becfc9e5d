-- What it means that a list of calls with their replies replays to a core.
use Rattle.std.specs.Prelude.{ℕ, List, map}
use Rattle.moka_common.specs.Keys.{Keys}
use Rattle.moka_sync_model.specs.declared.call.Call.{Call}
use Rattle.moka_sync_model.specs.Reply.{Reply}
use Rattle.moka_sync_model.specs.CoreState.{new_core}
use Rattle.moka_sync_model.specs.CoreCall as core_calls
use Rattle.moka_record.specs.declared.record.Made.{Made}
use Rattle.moka_record.specs.Record.{RecordState}

-- each call with its reply
abbrev pub exchanges : {K V A : Type 0} → List (Made K V A) → List (Call K V × Reply K V)
exchanges calls = map (λ made. (made.call, made.reply)) calls

module _ {K V S A : Type 0} (keys : Keys K S) (weighs : K → V → ℕ → Type 0) where
  -- the record's calls lead from a new core to the record's core
  abbrev pub Replays : RecordState K V S A → Type 0
  Replays record' =
      core_calls.Replays keys weighs (new_core record'.core.settings record'.first_ticket) (exchanges record'.calls) record'.core
