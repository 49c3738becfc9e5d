-- A turn behind the lock of the maintenance.
use Rattle.std.proofs.Common.{◌≡◌, ◌∙◌, ◌<◌, ◌≤◌, ◌-◌, ℕ, Bool, false, List, [], ◌∷◌, length}
use Rattle.std.proofs.Common.{Option, Some, None, drop, slice_get, if◌then◌else◌, ap, refl, sym, subst, arith}
use Rattle.moka_common.specs.Keys.{Keys}
use Rattle.moka_common.specs.Settings.{Settings}
use Rattle.moka_sync_model.specs.declared.operation.Read.{Read}
use Rattle.moka_sync_model.specs.declared.operation.Read.TheVariants.{Hit, Miss}
use Rattle.moka_sync_model.specs.declared.operation.Write.{Write}
use Rattle.moka_sync_model.specs.declared.operation.Write.TheVariants.{Remove}
use Rattle.moka_sync_model.specs.declared.ticket.Ticket.{Ticket}
use Rattle.moka_sync_model.specs.declared.phase.Phase.{Phase as PhaseName}
use Rattle.moka_sync_model.specs.declared.phase.Phase.TheVariants as name
use Rattle.moka_sync_model.specs.CoreState.{Maintenance}
use Rattle.moka_sync_model.specs.Parts.{TurnsAlone, TurnsWithReads, TurnsWithWrites}
use Rattle.moka_sync_model.specs.Phase as phase
use Rattle.moka_sync_model.specs.declared.progress.Work.{Work}
use Rattle.moka_sync_model.specs.Phase.{Idle, is_idle, name_of}
use Rattle.moka_sync_model.specs.Turn.Plan.{AtReads, AtWrites, gone_to}
use Rattle.moka_sync_model.specs.Turn.Turn.{after_read_taken, after_write_taken, turn_at}
use Rattle.moka_sync_model.proofs.PhaseLemmas.{busy_by_name, is_idle_name, not_named_idle, same_idle}
use Rattle.moka_maintenance.proofs.TakenLemmas.{applied_later, reads_on}
use Rattle.moka_maintenance.specs.Taken.{TakesRead, TakesWrite, having_applied, having_taken}
use Rattle.moka_maintenance.specs.Taken.{having_taken_write, phase_with, phase_with_write, writes_left}
use Rattle.moka_sync_model.specs.Steps.{TakesTurns}
use Rattle.moka_sync_model.specs.Steps as steps
use Rattle.moka_locks.specs.Locked.{Locked, kept_running, locked_allows, running}
use Rattle.moka_shard.specs.PlannedTurn.{IsPlanned, IsTurn}
use Rattle.moka_locks.specs.MaintenanceTurn.{AreTurns, IsWorkingTurn, MoreTurns}
use Rattle.moka_locks.specs.MaintenanceTurn.{OneTurn, TakesFirst, Working, empty_handed}
use Rattle.moka_locks.proofs.WritesLeftLemmas.{keeps_left}

-- one that looks at nothing
pub alone : (K V : Type 0) {S : Type 0} (settings : Settings S) (valid_after : ℕ) (refused : Bool) (old new : Maintenance)
    → TurnsAlone K V settings valid_after refused old new → IsTurn K V settings old new
alone K V settings valid_after refused old new turn = (valid_after, refused, subst (λ plan. IsPlanned plan new) (sym turn) refl)

-- one that looks at the read log
pub with_reads : {K V S : Type 0} (settings : Settings S) (valid_after : ℕ) (refused : Bool) (old new : Maintenance)
    (old_log new_log : List Read)
    → TurnsWithReads K V settings valid_after refused old new old_log new_log → IsTurn K V settings old new
with_reads settings valid_after refused old new old_log new_log turn = (
  valid_after,
  refused,
  subst (λ plan. IsPlanned plan new) (sym turn.is)
      (old_log, ap (λ (end : Maintenance × List Read). end.0) turn.ends),
)

-- one that looks at the write log
pub with_writes : {K V S : Type 0} (settings : Settings S) (valid_after : ℕ) (refused : Bool) (old new : Maintenance)
    (old_log new_log : List Write) → TurnsWithWrites K V settings valid_after refused old new old_log new_log → IsTurn K V settings old new
with_writes settings valid_after refused old new old_log new_log turn = (
  valid_after,
  refused,
  subst (λ plan. IsPlanned plan new) (sym turn.is)
      (old_log, ap (λ (end : Maintenance × List Write). end.0) turn.ends),
)

-- a maintenance that isn't idle is kept
pub kept_elsewhere : (w : Working) (phase : PhaseName) → phase ≡ name_of w.maintenance.phase → (phase ≡ name.Idle → ⊥)
    → kept_running w ≡ Some w
kept_elsewhere w phase is elsewhere =
    ap (λ b. if b then None else Some w) (busy_by_name w.maintenance.phase (λ idle. elsewhere (is ∙ idle)))

-- one that is idle is given back
pub given_back : (w : Working) (phase : PhaseName) → phase ≡ name_of w.maintenance.phase → phase ≡ name.Idle → kept_running w ≡ None
given_back w phase is idle =
    ap (λ b. if b then None else Some w) (sym (same_idle w.maintenance.phase) ∙ ap is_idle_name (sym is ∙ idle))

-- ---- turns with writes at hand

-- a maintenance with these
abbrev pub holding : List Write → Maintenance → Working
holding batch m = record { maintenance = m; taken = batch }

module _ (K V : Type 0) {S : Type 0} (settings : Settings S) where
  -- a turn that takes no write leaves them
  pub keeping : (batch : List Write) (old new : Maintenance) → (TakesWrite old → ⊥) → length batch ≤ writes_left old.phase
      → IsTurn K V settings old new → IsWorkingTurn K V settings (holding batch old) (holding batch new)
  keeping batch old new other left turn = record {
    turn = turn;
    takes = λ takes. absurd (other takes);
    keeps = λ _. refl;
    within = omega (arith, left, keeps_left K V settings old new other turn);
  }

  -- it may be all
  pub keeping_all : (batch : List Write) (old new : Maintenance) → (TakesWrite old → ⊥) → length batch ≤ writes_left old.phase
      → IsTurn K V settings old new → AreTurns K V settings (holding batch old) (holding batch new)
  keeping_all batch old new other left turn =
      OneTurn (holding batch old) (holding batch new) (keeping batch old new other left turn)

-- this was found first of those at hand, if there are any, and these are left of them
abbrev pub IsFirst : List Write → List Write → Option Write → Type 0
IsFirst batch left found = 0 < length batch → (found ≡ slice_get batch 0) × (left ≡ drop 1 batch)

-- a write that is first at hand is the one that is taken
pub takes_first : (batch left : List Write) (found : Option Write) (write : Write) (old : Maintenance)
    → IsFirst batch left found → found ≡ Some write → TakesFirst batch old (holding left (having_taken_write write old))
takes_first [] left found write old first is = tt
takes_first (next ∷ others) left found write old first is =
    let (there, rest) = first (omega arith) in
    let same : write ≡ next = cc in
    (ap (λ w. having_taken_write w old) same, rest)

-- where none is taken, none was at hand
pub none_first : (batch left : List Write) (found : Option Write) → IsFirst batch left found → found ≡ None → batch ≡ []
none_first [] left found first is = refl
none_first (next ∷ others) left found first is =
    let (there, rest) = first (omega arith) in
    absurd (cc)

-- ---- reads that are taken and applied

module _ (K V : Type 0) {S : Type 0} (settings : Settings S) where
  -- while reads are taken no write is at hand
  abbrev Turns : Maintenance → Maintenance → Type 0
  Turns old new = AreTurns K V settings (empty_handed old) (empty_handed new)

  abbrev Turn : Maintenance → Maintenance → Type 0
  Turn old new = IsWorkingTurn K V settings (empty_handed old) (empty_handed new)

  not_write : (work : Work) (m : Maintenance) → m.phase ≡ phase.Reads work → TakesWrite m → ⊥
  not_write work m at (other, is) = absurd (cc)

  not_write_then : (work : Work) (read : Read) (m : Maintenance) → m.phase ≡ phase.Reads work → TakesWrite (having_taken read m) → ⊥
  not_write_then work read m at (other, is) =
      let taken : phase.ReadApply (record work { left = work.left - 1 }) read ≡ phase.Writes other =
      sym (ap (phase_with read) at) ∙ is in
      absurd (cc)

  taken_turn : (work : Work) (read : Read) (m : Maintenance) → m.phase ≡ phase.Reads work → Turn m (having_taken read m)
  taken_turn work read m at =
      let plan : turn_at {K = K} {V = V} settings 0 false m.phase m ≡ AtReads (after_read_taken work m) =
      ap (λ p. turn_at settings 0 false p m) at in
      let is : having_taken read m ≡ (after_read_taken work m (read ∷ [])).0 = ap (λ p. gone_to (phase_with read p) m) at in
      keeping K V settings [] m (having_taken read m) (not_write work m at) (omega arith)
      (0, false, subst (λ plan. IsPlanned plan (having_taken read m)) (sym plan) (read ∷ [], is))

  taken_busy : (work : Work) (read : Read) (m : Maintenance) → m.phase ≡ phase.Reads work → is_idle (having_taken read m).phase ≡ false
  taken_busy work read m at = ap (λ p. is_idle (phase_with read p)) at

  applied_turn : (work : Work) (read : Read) (m : Maintenance) → m.phase ≡ phase.Reads work
      → Turn (having_taken read m) (having_applied work (read ∷ []) m)
  applied_turn work read m at =
      keeping K V settings [] (having_taken read m) (having_applied work (read ∷ []) m) (not_write_then work read m at) (omega arith)
      (subst (λ p. IsTurn K V settings (gone_to (phase_with read p) m) (having_applied work (read ∷ []) m)) (sym at) (by read))
    where
      by : (read : Read) → IsTurn K V settings (gone_to (phase_with read (phase.Reads work)) m) (having_applied work (read ∷ []) m)
      by (Hit t moment) = (0, false, (None, refl))
      by (Miss hash) = (0, false, refl)

  -- where there is none, nothing changes
  pub takes_nothing : (m : Maintenance) → TakesRead m → Turns m m
  takes_nothing m (work, at) =
      let plan : turn_at {K = K} {V = V} settings 0 false m.phase m ≡ AtReads (after_read_taken work m) =
      ap (λ p. turn_at settings 0 false p m) at in
      keeping_all K V settings [] m m (not_write work m at) (omega arith)
      (0, false, subst (λ plan. IsPlanned plan m) (sym plan) ([], refl))

  -- others take two turns each
  pub reads_turn : (reads : List Read) (work : Work) (m : Maintenance) → m.phase ≡ phase.Reads work → 0 < length reads
      → length reads ≤ work.left → Turns m (having_applied work reads m)
  reads_turn [] work m at some left = absurd (omega (arith, some))
  reads_turn (read ∷ []) work m at some left =
      MoreTurns (empty_handed m) (empty_handed (having_taken read m)) (empty_handed (having_applied work (read ∷ []) m))
      (taken_busy work read m at) (taken_turn work read m at)
      (OneTurn (empty_handed (having_taken read m)) (empty_handed (having_applied work (read ∷ []) m)) (applied_turn work read m at))
  reads_turn (read ∷ (next ∷ reads)) work m at some left =
      let less : Work = record work { left = work.left - 1 } in
      let mid = having_applied work (read ∷ []) m in
      let end = having_applied work (read ∷ (next ∷ reads)) m in
      let on : mid.phase ≡ phase.Reads less = reads_on less (omega (arith, left)) in
      let same : having_applied less (next ∷ reads) mid ≡ end =
      applied_later work read (next ∷ reads) m (omega (arith, left)) in
      MoreTurns (empty_handed m) (empty_handed (having_taken read m)) (empty_handed end) (taken_busy work read m at)
      (taken_turn work read m at)
      (MoreTurns (empty_handed (having_taken read m)) (empty_handed mid) (empty_handed end) (ap is_idle on)
      (applied_turn work read m at) (subst (Turns mid) same (reads_turn (next ∷ reads) less mid on (omega arith) (omega (arith, left)))))

-- ---- a write that is

module _ (K V : Type 0) {S : Type 0} (settings : Settings S) (m : Maintenance) (takes : TakesWrite m) where
  with_write_log : (log : List Write) → IsTurn K V settings m (after_write_taken takes.0 m log).0
  with_write_log log =
      let is : turn_at {K = K} {V = V} settings 0 false m.phase m ≡ AtWrites (after_write_taken takes.0 m) =
      ap (λ p. turn_at settings 0 false p m) takes.1 in
      (0, false, subst (λ plan. IsPlanned plan (after_write_taken takes.0 m log).0) (sym is) (log, refl))

  -- where none is at hand and the log is empty, nothing changes
  pub takes_no_write : AreTurns K V settings (empty_handed m) (empty_handed m)
  takes_no_write =
      OneTurn (empty_handed m) (empty_handed m)
      (record { turn = with_write_log []; takes = λ _. tt; keeps = λ other. absurd (other takes); within = omega arith })

  applies_write : (write : Write) → TakesWrite (having_taken_write write m) → ⊥
  applies_write write (other, is) =
      let taken : phase.Apply (record takes.0 { left = takes.0.left - 1 }) write ≡ phase.Writes other =
      sym (ap (phase_with_write write) takes.1) ∙ is in
      absurd (cc)

  -- two turns, of which the first takes the first of those at hand
  pub written : (batch left : List Write) (found : Option Write) (write : Write) (new : Maintenance) → IsFirst batch left found
      → found ≡ Some write → length left < writes_left m.phase → IsTurn K V settings (having_taken_write write m) new
      → AreTurns K V settings (holding batch m) (holding left new)
  written batch left found write new first taken less applied =
      let is : gone_to (phase_with_write write m.phase) m ≡ (after_write_taken takes.0 m (write ∷ [])).0 =
      ap (λ p. gone_to (phase_with_write write p) m) takes.1 in
      MoreTurns (holding batch m) (holding left (having_taken_write write m)) (holding left new)
      (ap (λ p. is_idle (phase_with_write write p)) takes.1)
      (record {
        turn = subst (IsTurn K V settings m) (sym is) (with_write_log (write ∷ []));
        takes = λ _. takes_first batch left found write m first taken;
        keeps = λ other. absurd (other takes);
        within = within;
      })
      (keeping_all K V settings left (having_taken_write write m) new (applies_write write) within applied)
    where
      within : length left ≤ writes_left (having_taken_write write m).phase
      within = omega (arith, less, ap writes_left takes.1, ap (λ p. writes_left (phase_with_write write p)) takes.1)

  -- of which the second applies a removal
  pub removed : (batch left : List Write) (found : Option Write) (valid_after : ℕ) (t : Ticket) (new : Maintenance)
      → IsFirst batch left found → found ≡ Some (Remove t) → length left < writes_left m.phase
      → TurnsAlone K V settings valid_after false (having_taken_write (Remove t) m) new
      → AreTurns K V settings (holding batch m) (holding left new)
  removed batch left found valid_after t new first taken less turn =
      written batch left found (Remove t) new first taken less
      (alone K V settings valid_after false (having_taken_write (Remove t) m) new turn)

-- ---- turns of a locked cache

module _ {K V S W : Type 0} (keys : Keys K S) (holds : K → V → Type 0) (weighs : W → K → V → ℕ → Type 0) where
  allowed : (settings : Settings S) (w next : Working) → AreTurns K V settings w next → (old : Locked K V S W)
      → old.cache.settings ≡ settings → old.working ≡ Some w → (phase : PhaseName) → phase ≡ name_of next.maintenance.phase
      → (new : Locked K V S W) → new ≡ running (kept_running next) old → TakesTurns (locked_allows keys holds weighs) phase old new
  allowed settings w next (OneTurn _ _ turn) old same had phase at new is =
      steps.OneTurn phase old new (w, next, had, subst (λ s. IsWorkingTurn K V s w next) (sym same) turn, at, is)
  allowed settings w next (MoreTurns _ mid _ more first others) old same had phase at new is =
      let kept : running (Some mid) old ≡ running (kept_running mid) old =
      sym (ap (λ b. running (if b then None else Some mid) old) more) in
      steps.MoreTurns phase (name_of mid.maintenance.phase) old (running (Some mid) old) new (not_named_idle mid.maintenance.phase more)
      (w, mid, had, subst (λ s. IsWorkingTurn K V s w mid) (sym same) first, refl, kept)
      (allowed settings mid next others (running (Some mid) old) same refl phase at new is)

  -- what the maintenance does is allowed
  pub turns_allowed : (old : Locked K V S W) (w next : Working) → old.working ≡ Some w → (phase : PhaseName)
      → phase ≡ name_of next.maintenance.phase → (new : Locked K V S W) → new ≡ running (kept_running next) old
      → AreTurns K V old.cache.settings w next → TakesTurns (locked_allows keys holds weighs) phase old new
  turns_allowed old w next had phase at new is turns = allowed old.cache.settings w next turns old refl had phase at new is
