-- How much of each log a maintenance has left to apply, and how many turns its eviction has used, if nobody pushes meanwhile. No public
-- clause cites this module.
use Rattle.std.specs.Prelude.{◌≡◌, ℕ, Option}
use Rattle.moka_sync_model.specs.Orders.{Orders}
use Rattle.moka_sync_model.specs.Phase as phase
use Rattle.moka_sync_model.specs.Phase.{Phase}
use Rattle.moka_sync_model.specs.Consistent.{IsTrimmed}

-- whether a turn between these phases is one that the eviction uses
abbrev pub evicting : Phase → Phase → ℕ
evicting (phase.Evict turns) (phase.Evict next) = 1
evicting before after = 0

-- by the phase, the turns that the eviction has used, and the lengths of the logs; at the end both logs are empty, and the eviction has
-- ended as it should
abbrev pub Empties : Option ℕ → Orders → ℕ → ℕ → ℕ → Phase → Type 0
Empties limit orders used reads writes phase.Idle = (reads ≡ 0) × (writes ≡ 0) × IsTrimmed limit orders used
Empties limit orders used reads writes (phase.ReadCount round) = used ≡ 0
Empties limit orders used reads writes (phase.Reads work) = (used ≡ 0) × (work.left ≡ reads)
Empties limit orders used reads writes (phase.ReadApply work read) = (used ≡ 0) × (work.left ≡ reads)
Empties limit orders used reads writes (phase.WriteCount round) = (used ≡ 0) × (reads ≡ 0)
Empties limit orders used reads writes (phase.Writes work) = (used ≡ 0) × (reads ≡ 0) × (work.left ≡ writes)
Empties limit orders used reads writes (phase.Apply work write) = (used ≡ 0) × (reads ≡ 0) × (work.left ≡ writes)
Empties limit orders used reads writes (phase.Scan work c tally seen) = (used ≡ 0) × (reads ≡ 0) × (work.left ≡ writes)
Empties limit orders used reads writes (phase.Removing work c tally skipped left) = (used ≡ 0) × (reads ≡ 0) × (work.left ≡ writes)
Empties limit orders used reads writes (phase.Enter work c skipped) = (used ≡ 0) × (reads ≡ 0) × (work.left ≡ writes)
Empties limit orders used reads writes (phase.Evict turns) = (used ≡ turns) × (reads ≡ 0) × (writes ≡ 0)
Empties limit orders used reads writes (phase.Publish turns) = (used ≡ turns) × (reads ≡ 0) × (writes ≡ 0)
Empties limit orders used reads writes other = (used ≡ 0) × (reads ≡ 0) × (writes ≡ 0)
