-- Operations that leave their log and are applied at once, with no state between: a write by its two turns,
-- and reads by the turns of all of them.
use Rattle.std.specs.Prelude.{◌≡◌, ◌-◌, ℕ, List, [], ◌∷◌, length, Option, None, Some}
use Rattle.std.specs.List.{fold}
use Rattle.moka_common.specs.Sketch.{Table, after_increment}
use Rattle.moka_sync_model.specs.declared.operation.Read.{Read}
use Rattle.moka_sync_model.specs.declared.operation.Read.TheVariants.{Hit, Miss}
use Rattle.moka_sync_model.specs.declared.operation.Write.{Write}
use Rattle.moka_sync_model.specs.CoreState.{Maintenance}
use Rattle.moka_sync_model.specs.Phase as phase
use Rattle.moka_sync_model.specs.declared.progress.Candidate.{Candidate}
use Rattle.moka_sync_model.specs.declared.progress.Tally.{Tally}
use Rattle.moka_sync_model.specs.declared.progress.Work.{Work}
use Rattle.moka_sync_model.specs.Phase.{Phase, Seen}
use Rattle.moka_sync_model.specs.Orders.{Orders, used}
use Rattle.moka_sync_model.specs.Turn.Plan.{gone_to, reads_or_on}

-- its next turn is to take a read
abbrev pub TakesRead : Maintenance → Type 0
TakesRead m = (work : Work) × (m.phase ≡ phase.Reads work)

-- or a write
abbrev pub TakesWrite : Maintenance → Type 0
TakesWrite m = (work : Work) × (m.phase ≡ phase.Writes work)

-- the phase once it has taken this read
abbrev pub phase_with : Read → Phase → Phase
phase_with read (phase.Reads work) = phase.ReadApply (record work { left = work.left - 1 }) read
phase_with read other = other

-- this write
abbrev pub phase_with_write : Write → Phase → Phase
phase_with_write write (phase.Writes work) = phase.Apply (record work { left = work.left - 1 }) write
phase_with_write write other = other

-- the maintenance then
abbrev pub having_taken : Read → Maintenance → Maintenance
having_taken read m = gone_to (phase_with read m.phase) m

abbrev pub having_taken_write : Write → Maintenance → Maintenance
having_taken_write write m = gone_to (phase_with_write write m.phase) m

-- what has left a log: its first operation, where the next turn is to take one and there is one, and else nothing
abbrev pub IsTaken : {X : Type 0} → Type 0 → Option X → List X → List X → Type 0
IsTaken Takes None old new = (new ≡ old) × (Takes → old ≡ [])
IsTaken Takes (Some operation) old new = Takes × (old ≡ operation ∷ new)

-- a scan is under way
abbrev pub IsScan : Phase → Type 0
IsScan at = (work : Work) × (c : Candidate) × (tally : Tally) × (seen : List Seen) × (at ≡ phase.Scan work c tally seen)

-- how many reads its round is still to take, where its next turn is to take one
abbrev pub reads_left : Phase → ℕ
reads_left (phase.Reads work) = work.left
reads_left other = 0

-- how many writes its round is still to take, whatever it is at with the one that it took last
abbrev pub writes_left : Phase → ℕ
writes_left (phase.Writes work) = work.left
writes_left (phase.Apply work write) = work.left
writes_left (phase.Scan work c tally seen) = work.left
writes_left (phase.Removing work c tally skipped seen) = work.left
writes_left (phase.Enter work c skipped) = work.left
writes_left other = 0

-- the hash that a read counts
abbrev pub hash_of_read : Read → ℕ
hash_of_read (Hit t moment) = t.hash
hash_of_read (Miss hash) = hash

-- the sketch once it is counted
abbrev pub counted : Option Table → Read → Option Table
counted sketch read = after_increment sketch (hash_of_read read)

-- the orders once the node of a hit is the most recently used one
abbrev pub used_by : Orders → Read → Orders
used_by orders (Hit t moment) = used t orders
used_by orders (Miss hash) = orders

-- the maintenance once it has taken these reads and applied them, one after another, where this part of a round was left
abbrev pub having_applied : Work → List Read → Maintenance → Maintenance
having_applied work reads m = record m {
  orders = fold used_by m.orders reads;
  sketch = fold counted m.sketch reads;
  phase = reads_or_on (record work { left = work.left - length reads });
}

-- these are the next reads that it takes, and has applied
abbrev pub AppliesReads : List Read → Maintenance → Maintenance → Type 0
AppliesReads reads old new = (work : Work) × (old.phase ≡ phase.Reads work) × (new ≡ having_applied work reads old)
