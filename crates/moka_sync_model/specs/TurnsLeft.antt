-- How many turns a maintenance has left at most, if nobody pushes meanwhile. No public clause cites this module.
use Rattle.std.specs.Prelude.{ℕ, ◌+◌, ◌-◌, ◌*◌, length}
use Rattle.moka_sync_model.specs.declared.constants.TheConstants.{MAX_ROUNDS, SYNC_BATCH_SIZE}
use Rattle.moka_sync_model.specs.Phase as phase
use Rattle.moka_sync_model.specs.Phase.{Phase, held}
use Rattle.moka_sync_model.specs.CoreState.{CoreState}

-- the turns of the passes, by how many are used
abbrev pub evict_turns : ℕ → ℕ
evict_turns turns = (SYNC_BATCH_SIZE - turns) + 2

-- those of the expiry by use, and what follows it
abbrev pub access_turns : ℕ → ℕ
access_turns turns = (SYNC_BATCH_SIZE - turns) + evict_turns 0 + 1

-- those of the expiry by writing, and what follows it
abbrev pub write_turns : ℕ → ℕ
write_turns turns = (SYNC_BATCH_SIZE - turns) + access_turns 0 + 1

-- the turns after a round, but for the operations in the logs
abbrev pub round_turns : ℕ → ℕ
round_turns round = 7 * (MAX_ROUNDS - round) + write_turns 0

-- the turns at a phase, with so many nodes, and the turns that a write takes
abbrev pub phase_turns : ℕ → ℕ → Phase → ℕ
phase_turns nodes each phase.Idle = 0
phase_turns nodes each (phase.ReadCount round) = round_turns round + 6
phase_turns nodes each (phase.Reads work) = round_turns work.round + 5
phase_turns nodes each (phase.ReadApply work read) = round_turns work.round + 6
phase_turns nodes each (phase.WriteCount round) = round_turns round + 4
phase_turns nodes each (phase.Writes work) = round_turns work.round + 3
phase_turns nodes each (phase.Apply work write) = round_turns work.round + 2 + each
phase_turns nodes each (phase.Scan work c tally seen) = round_turns work.round + 6 + (2 * nodes - length seen)
phase_turns nodes each (phase.Removing work c tally skipped left) = round_turns work.round + 5 + length left
phase_turns nodes each (phase.Enter work c skipped) = round_turns work.round + 4
phase_turns nodes each (phase.Sketch round) = round_turns round + 2
phase_turns nodes each (phase.MoreReads round) = round_turns round + 1
phase_turns nodes each (phase.MoreWrites round) = round_turns round
phase_turns nodes each (phase.ExpireWrite turns) = write_turns turns
phase_turns nodes each (phase.ExpireAccess turns) = access_turns turns
phase_turns nodes each (phase.Evict turns) = evict_turns turns
phase_turns nodes each (phase.Publish turns) = 1

-- the turns that a write takes at most: there are no more nodes than now and writes to come
abbrev pub write_cost : ℕ → ℕ
write_cost nodes = 2 * nodes + 5

-- the nodes that there are or may come
abbrev pub nodes_to_come : ℕ → ℕ → Phase → ℕ
nodes_to_come nodes writes p = nodes + writes + length (held p)

-- all turns, by the lengths of both logs and the number of nodes
abbrev pub turns_with : ℕ → ℕ → ℕ → Phase → ℕ
turns_with reads writes nodes p =
    2 * reads + write_cost (nodes_to_come nodes writes p) * writes + phase_turns nodes (write_cost (nodes_to_come nodes writes p)) p

-- all turns that a core has left
abbrev pub turns_left : {K V S : Type 0} → CoreState K V S → ℕ
turns_left core = turns_with (length core.read_log) (length core.write_log) (length core.maintenance.orders.access) core.maintenance.phase
