-- What holds of all that is on its way: what is pending, what stands in the logs, and what the maintenance has at hand.
use Rattle.std.specs.Prelude.{◌≡◌, ◌<◌, ◌≤◌, ℕ, ◌+◌, false, cond, nat_eq, List, [], ◌∷◌, count_by, fold, length, sum_by, if◌then◌else◌}
use Rattle.std.specs.List.{AllByRecursion}
use Rattle.std.specs.Map.{values_of}
use Rattle.moka_sync_model.specs.declared.constants.TheConstants.{MAX_ROUNDS, READ_LOG_SIZE, WRITE_LOG_SIZE}
use Rattle.moka_sync_model.specs.declared.operation.Operation.{Operation}
use Rattle.moka_sync_model.specs.declared.operation.Operation.TheVariants.{Reading, Writing}
use Rattle.moka_sync_model.specs.declared.operation.Read.{Read}
use Rattle.moka_sync_model.specs.declared.operation.Read.TheVariants.{Hit, Miss}
use Rattle.moka_sync_model.specs.declared.ticket.Ticket.{Ticket}
use Rattle.moka_sync_model.specs.Ticket.{IsToCome, same_ticket}
use Rattle.moka_sync_model.specs.Phase as phase
use Rattle.moka_sync_model.specs.declared.progress.Tally.{Tally}
use Rattle.moka_sync_model.specs.Phase.{Phase, Seen}
use Rattle.moka_sync_model.specs.CoreState.{CoreState}

-- how often a read is a hit of the ticket
abbrev pub hits_in : Ticket → Read → ℕ
hits_in t (Hit u moment) = cond (same_ticket t u) 1 0
hits_in t (Miss hash) = 0

-- how often a pending operation is one
abbrev pub pending_hits : Ticket → Operation → ℕ
pending_hits t (Reading read) = hits_in t read
pending_hits t (Writing write) = 0

-- the read that a phase holds
abbrev pub held_reads : Phase → List Read
held_reads (phase.ReadApply work read) = read ∷ []
held_reads other = []

-- how many of the nodes seen last, in a row, were absent
abbrev pub last_absent : List Seen → ℕ
last_absent seen = fold (λ (n : ℕ) (s : Seen). if s.is_present then 0 else n + 1) 0 seen

-- what was found is of what was seen: absent ones in a row are counted, and where all were absent nothing weighs and nothing is used
pub record IsTallyOf (tally : Tally) (seen : List Seen) : Type 0 where
  pub absent : tally.absent ≡ last_absent seen
  pub empty : AllByRecursion (λ s. s.is_present ≡ false) seen → (tally.weight ≡ 0) × (tally.estimate ≡ 0)

-- so it is where a scan is under way
abbrev pub IsTallied : Phase → Type 0
IsTallied (phase.Scan work c tally seen) = IsTallyOf tally seen
IsTallied other = Unit {0}

-- the round is one of those that there are
abbrev pub IsRound : Phase → Type 0
IsRound (phase.ReadCount round) = round ≤ MAX_ROUNDS
IsRound (phase.Reads work) = work.round ≤ MAX_ROUNDS
IsRound (phase.ReadApply work read) = work.round ≤ MAX_ROUNDS
IsRound (phase.WriteCount round) = round ≤ MAX_ROUNDS
IsRound (phase.Writes work) = work.round ≤ MAX_ROUNDS
IsRound (phase.Apply work write) = work.round ≤ MAX_ROUNDS
IsRound (phase.Scan work c tally seen) = work.round ≤ MAX_ROUNDS
IsRound (phase.Removing work c tally skipped left) = work.round ≤ MAX_ROUNDS
IsRound (phase.Enter work c skipped) = work.round ≤ MAX_ROUNDS
IsRound (phase.Sketch round) = round ≤ MAX_ROUNDS
IsRound (phase.MoreReads round) = round ≤ MAX_ROUNDS
IsRound (phase.MoreWrites round) = round < MAX_ROUNDS
IsRound other = Unit {0}

module _ {K V S : Type 0} where
  -- how many hits of a ticket are pending, in the log, or held by the phase
  abbrev pub hits_of : Ticket → CoreState K V S → ℕ
  hits_of t core =
      sum_by (pending_hits t) (values_of core.pending) + sum_by (hits_in t) core.read_log
      + sum_by (hits_in t) (held_reads core.maintenance.phase)

  -- a ticket still to be given out has none
  abbrev pub AreHitsGiven : CoreState K V S → Type 0
  AreHitsGiven core = (t : Ticket) → IsToCome core.next_numbers t → hits_of t core ≡ 0

  -- hits are of tickets given out, a caller has one operation pending at most, the logs hold no more than they can, and the phase goes on
  -- from what it has seen
  pub record AreQueuesConsistent (core : CoreState K V S) : Type 0 where
    pub hits : AreHitsGiven core
    pub callers_apart : (caller : ℕ) → count_by (λ p. nat_eq caller p.0) core.pending ≤ 1
    pub read_log : length core.read_log ≤ READ_LOG_SIZE
    pub write_log : length core.write_log ≤ WRITE_LOG_SIZE
    pub round : IsRound core.maintenance.phase
    pub tallied : IsTallied core.maintenance.phase
