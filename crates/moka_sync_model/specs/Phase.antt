-- Where a maintenance is, and what it has at hand there.
use Rattle.std.specs.Prelude.{ℕ, Bool, true, false, List, [], ◌∷◌}
use Rattle.moka_sync_model.specs.declared.progress.Work.{Work}
use Rattle.moka_sync_model.specs.declared.progress.Candidate.{Candidate}
use Rattle.moka_sync_model.specs.declared.progress.Tally.{Tally}
use Rattle.moka_sync_model.specs.declared.operation.Read.{Read}
use Rattle.moka_sync_model.specs.declared.operation.Write.{Write}
use Rattle.moka_sync_model.specs.declared.operation.Write.TheVariants.{Upsert}
use Rattle.moka_sync_model.specs.declared.phase.Phase.{Phase as PhaseName}
use Rattle.moka_sync_model.specs.declared.phase.Phase.TheVariants as name
use Rattle.moka_sync_model.specs.declared.ticket.Ticket.{Ticket}

-- a node that a scan has looked at: its entry stood, or was absent
pub record Seen : Type 0 where
  pub ticket : Ticket
  pub is_present : Bool

-- the phases of a maintenance, each with what it has at hand
pub data Phase : Type 0 where
  Idle : Phase
  ReadCount : ℕ → Phase
  Reads : Work → Phase
  ReadApply : Work → Read → Phase
  WriteCount : ℕ → Phase
  Writes : Work → Phase
  Apply : Work → Write → Phase
  -- the nodes seen so far are the first of the order of use
  Scan : Work → Candidate → Tally → List Seen → Phase
  -- the nodes that are skipped, and after them those still to be removed, are the first of the order of use
  Removing : Work → Candidate → Tally → List Ticket → List Seen → Phase
  Enter : Work → Candidate → List Ticket → Phase
  Sketch : ℕ → Phase
  MoreReads : ℕ → Phase
  MoreWrites : ℕ → Phase
  -- with how many turns were used
  ExpireWrite : ℕ → Phase
  ExpireAccess : ℕ → Phase
  Evict : ℕ → Phase
  Publish : ℕ → Phase

-- the name of a phase, without what it has at hand
abbrev pub name_of : Phase → PhaseName
name_of Idle = name.Idle
name_of (ReadCount round) = name.ReadCount
name_of (Reads work) = name.Reads
name_of (ReadApply work read) = name.ReadApply
name_of (WriteCount round) = name.WriteCount
name_of (Writes work) = name.Writes
name_of (Apply work write) = name.Apply
name_of (Scan work candidate tally seen) = name.Scan
name_of (Removing work candidate tally skipped seen) = name.Removing
name_of (Enter work candidate skipped) = name.Enter
name_of (Sketch round) = name.Sketch
name_of (MoreReads round) = name.MoreReads
name_of (MoreWrites round) = name.MoreWrites
name_of (ExpireWrite turns) = name.ExpireWrite
name_of (ExpireAccess turns) = name.ExpireAccess
name_of (Evict turns) = name.Evict
name_of (Publish turns) = name.Publish

-- whether no maintenance is under way
abbrev pub is_idle : Phase → Bool
is_idle Idle = true
is_idle other = false

-- the write that a phase holds
abbrev pub held : Phase → List Write
held (Apply work write) = write ∷ []
held (Scan work candidate tally seen) = Upsert candidate.ticket ∷ []
held (Removing work candidate tally skipped seen) = Upsert candidate.ticket ∷ []
held (Enter work candidate skipped) = Upsert candidate.ticket ∷ []
held phase = []
