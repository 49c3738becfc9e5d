-- A maintenance publishes its counts with the turn that ends it, and nothing before.
use Rattle.std.proofs.Common.{◌≡◌, ◌∙◌, ℕ, ◌+◌, nat_lt, Bool, true, false, List, [], ◌∷◌, ◌++◌, length}
use Rattle.std.proofs.Common.{IfSome, Option, None, Some, if◌then◌else◌, ap, eqb, leb, refl, sym, subst}
use Rattle.std.proofs.lemmas.Bool.{cond_both}
use Rattle.moka_common.specs.Admission.{is_within}
use Rattle.moka_common.specs.Settings.{Settings, keeps_writes}
use Rattle.moka_sync_model.specs.declared.constants.TheConstants.{FLUSH_POINT, MAX_ROUNDS}
use Rattle.moka_sync_model.specs.declared.operation.Read.{Read}
use Rattle.moka_sync_model.specs.declared.operation.Read.TheVariants.{Hit, Miss}
use Rattle.moka_sync_model.specs.declared.operation.Write.{Write}
use Rattle.moka_sync_model.specs.declared.operation.Write.TheVariants.{Upsert, Remove}
use Rattle.moka_sync_model.specs.declared.published.Published.{Published}
use Rattle.moka_sync_model.specs.declared.ticket.Ticket.{Ticket}
use Rattle.moka_sync_model.specs.CoreState.{Maintenance, new_maintenance}
use Rattle.moka_sync_model.specs.Entry.{Entry}
use Rattle.moka_sync_model.specs.Orders.{Node, Orders, charge_of, charged_weight, rewritten, used}
use Rattle.moka_sync_model.specs.Phase as phase
use Rattle.moka_sync_model.specs.declared.progress.Candidate.{Candidate}
use Rattle.moka_sync_model.specs.declared.progress.Tally.{Tally}
use Rattle.moka_sync_model.specs.declared.progress.Work.{Work}
use Rattle.moka_sync_model.specs.Phase.{Phase, Seen, is_idle}
use Rattle.moka_sync_model.specs.Turn.Plan.{Plan, Alone, AtReads, AtWrites, AtEntry, Outcome, reads_or_on, writes_or_on}
use Rattle.moka_sync_model.specs.Turn.Apply.{after_present_upsert, after_upsert}
use Rattle.moka_sync_model.specs.Turn.Admission.{after_entering, after_removing, after_scan, after_verdict, after_victim}
use Rattle.moka_sync_model.specs.Turn.Admission.{is_admitted, next_seen, removing_or_enter}
use Rattle.moka_sync_model.specs.Turn.Expiry.{access_front, after_eviction, after_front, after_pass, eviction_front, is_past_tti_or_hidden}
use Rattle.moka_sync_model.specs.Turn.Expiry.{is_past_ttl_or_hidden}
use Rattle.moka_sync_model.specs.Turn.Expiry.{write_front}
use Rattle.moka_sync_model.specs.Turn.Turn.{after_more_reads, after_more_writes, after_read_taken, after_write_taken}
use Rattle.moka_sync_model.specs.Turn.Turn.{next_published, turn_at}
use Rattle.moka_shard.specs.PlannedTurn.{IsPlanned}
use Rattle.moka_sync_model.specs.Published.{opening}
use Rattle.moka_guards.specs.Counts.{Publisher}
use Rattle.moka_locks.specs.Charged.{IsAccounted, IsCharged, IsNewest, published_after}
use Rattle.moka_locks.specs.MaintenanceTurn.{AreTurns, IsWorkingTurn, MoreTurns, OneTurn, Working}

-- the maintenance is not over at this phase
abbrev Busy : Phase → Type 0
Busy p = is_idle p ≡ false

on_reads : (work : Work) → Busy (reads_or_on work)
on_reads work = cond_both (eqb work.left 0) (phase.WriteCount work.round) (phase.Reads work) Busy (λ h. refl) (λ h. refl)

on_writes : (work : Work) → Busy (writes_or_on work)
on_writes work = cond_both (eqb work.left 0) (phase.Sketch work.round) (phase.Writes work) Busy (λ h. refl) (λ h. refl)

on_more_reads : (round len : ℕ) → Busy (after_more_reads round len)
on_more_reads round len =
    cond_both (eqb round MAX_ROUNDS) _ _ Busy (λ h. refl)
    (λ h. cond_both (leb FLUSH_POINT len) (phase.ReadCount (round + 1)) (phase.MoreWrites round) Busy (λ h. refl) (λ h. refl))

on_more_writes : (round len : ℕ) → Busy (after_more_writes round len)
on_more_writes round len =
    cond_both (leb FLUSH_POINT len) (phase.ReadCount (round + 1)) (phase.ExpireWrite 0) Busy (λ h. refl) (λ h. refl)

on_removing : (work : Work) (c : Candidate) (tally : Tally) (skipped : List Ticket) (left : List Seen)
    → Busy (removing_or_enter work c tally skipped left)
on_removing work c tally skipped [] = refl
on_removing work c tally skipped (s ∷ left) = refl

module _ (K V : Type 0) (before : Published) where
  -- the maintenance goes on, and has published nothing since
  abbrev GoesOn : Maintenance → Type 0
  GoesOn m = (m.published ≡ before) × Busy m.phase

  -- so does this plan, whatever it finds
  abbrev GoesOnBy : Plan K V → Type 0
  GoesOnBy (Alone m) = GoesOn m
  GoesOnBy (AtReads looks) = (log : List Read) → GoesOn (looks log).0
  GoesOnBy (AtWrites looks) = (log : List Write) → GoesOn (looks log).0
  GoesOnBy (AtEntry t looks) = (found : Option (Entry K V)) → GoesOn (looks found).maintenance

  abbrev GoesOnEnd : Outcome K V → Type 0
  GoesOnEnd end = GoesOn end.maintenance

  -- it has published what it should
  abbrev Accounts : Maintenance → Type 0
  Accounts m = m.published ≡ published_after before m

  going_on : (m : Maintenance) → GoesOn m → Accounts m
  going_on m (same, busy) = rw busy same

  before_end : (m : Maintenance) (p : Phase) → m.phase ≡ p → Busy p → Accounts m → m.published ≡ before
  before_end m p is busy accounts =
      accounts ∙ ap (λ idle. if idle then next_published (record m { published = before }) else before) (ap is_idle is ∙ busy)

  planned : (plan : Plan K V) (new : Maintenance) → GoesOnBy plan → IsPlanned plan new → Accounts new
  planned (Alone m) new goes is = subst Accounts (sym is) (going_on m goes)
  planned (AtReads looks) new goes (log, is) = subst Accounts (sym is) (going_on (looks log).0 (goes log))
  planned (AtWrites looks) new goes (log, is) = subst Accounts (sym is) (going_on (looks log).0 (goes log))
  planned (AtEntry t looks) new goes (found, is) = subst Accounts (sym is) (going_on (looks found).maintenance (goes found))

  module _ (m : Maintenance) (same : m.published ≡ before) where
    verdict : (work : Work) (c : Candidate) (tally : Tally) (seen : List Seen) (admitted : Bool)
        → GoesOnBy (after_verdict work c tally seen admitted m)
    verdict work c tally seen true = (same, on_removing work c tally [] seen)
    verdict work c tally seen false = λ found. (same, on_writes work)

    scanned : (work : Work) (c : Candidate) (tally : Tally) (seen : List Seen) (next : Option Node)
        → GoesOnBy (after_scan work c tally seen next m)
    scanned work c tally seen None = verdict work c tally seen (is_admitted c tally)
    scanned work c tally seen (Some n) = λ found. (same, refl)

    removed : (work : Work) (c : Candidate) (tally : Tally) (skipped : List Ticket) (left : List Seen)
        → GoesOnBy (after_removing work c tally skipped left m)
    removed work c tally skipped [] = (same, refl)
    removed work c tally skipped (s ∷ left) =
        cond_both s.is_present _ _ GoesOnBy (λ h. by) (λ h. (same, on_removing work c tally (skipped ++ s.ticket ∷ []) left))
      where
        by : (found : Option (Entry K V)) → GoesOn (after_victim work c tally skipped s left m found).maintenance
        by None = (same, on_removing work c tally (skipped ++ s.ticket ∷ []) left)
        by (Some e) = (same, on_removing work c tally skipped left)

    passed : (front : Option Ticket) (done : Phase) (looks : Ticket → Maintenance → Option (Entry K V) → Outcome K V) → Busy done
        → ((t : Ticket) (found : Option (Entry K V)) → GoesOnEnd (looks t m found)) → GoesOnBy (after_pass front done looks m)
    passed None done looks busy goes = (same, busy)
    passed (Some t) done looks busy goes = λ found. goes t found

    at_front : (is_over : Entry K V → Bool) (sends : Ticket → Orders → Orders) (more done : Phase) → Busy more → Busy done → (t : Ticket)
        (found : Option (Entry K V)) → GoesOnEnd (after_front is_over sends more done t m found)
    at_front is_over sends more done later over t None = (same, later)
    at_front is_over sends more done later over t (Some e) =
        cond_both (is_over e) _ _ GoesOnEnd (λ h. (same, later)) (λ h. (same, over))

    evicted : (turns : ℕ) (t : Ticket) (found : Option (Entry K V)) → GoesOnEnd (after_eviction turns t m found)
    evicted turns t None = (same, refl)
    evicted turns t (Some e) = cond_both (nat_lt 0 e.outstanding) _ _ GoesOnEnd (λ h. (same, refl)) (λ h. (same, refl))

    module _ {S : Type 0} (settings : Settings S) where
      present : (refused : Bool) (work : Work) (t : Ticket) (e : Entry K V) (charge : Option ℕ)
          → GoesOnEnd (after_present_upsert settings refused work t e charge m)
      present refused work t e (Some charge) = (same, on_writes work)
      present refused work t e None =
          cond_both refused _ _ GoesOnEnd (λ h. (same, on_writes work)) (λ h.
          cond_both (is_within settings.policy.max_capacity (charged_weight m.orders + e.weight)) _ _ GoesOnEnd
          (λ h. (same, on_writes work)) (λ h.
          cond_both (is_within settings.policy.max_capacity e.weight) _ _ GoesOnEnd (λ h. (same, refl)) (λ h. (same, on_writes work))))

      upserted : (refused : Bool) (work : Work) (t : Ticket) (found : Option (Entry K V))
          → GoesOnEnd (after_upsert settings refused work t m found)
      upserted refused work t None = (same, on_writes work)
      upserted refused work t (Some e) = present refused work t e (charge_of t m.orders)

      entered : (work : Work) (c : Candidate) (skipped : List Ticket) (found : Option (Entry K V))
          → GoesOnEnd (after_entering (keeps_writes settings.policy) work c skipped m found)
      entered work c skipped None = (same, on_writes work)
      entered work c skipped (Some e) = (same, on_writes work)

  module _ {S : Type 0} (settings : Settings S) where
    at_phase : (valid_after : ℕ) (refused : Bool) (p : Phase) (m new : Maintenance) → m.phase ≡ p → Accounts m
        → IsPlanned (turn_at {K = K} {V = V} settings valid_after refused p m) new → Accounts new
    at_phase valid_after refused phase.Idle m new is accounts turn = subst Accounts (sym turn) accounts
    at_phase valid_after refused (phase.Publish turns) m new is accounts turn =
        let same = before_end m (phase.Publish turns) is refl accounts in
        subst Accounts (sym turn) (ap (λ p. next_published (record m { published = p })) same)
    at_phase valid_after refused (phase.ReadCount round) m new is accounts turn =
        let same = before_end m (phase.ReadCount round) is refl accounts in
        planned (turn_at settings valid_after refused (phase.ReadCount round) m) new
        (λ log. (same, on_reads (record { round = round; left = length log }))) turn
    at_phase valid_after refused (phase.Reads work) m new is accounts turn =
        let same = before_end m (phase.Reads work) is refl accounts in
        planned (turn_at settings valid_after refused (phase.Reads work) m) new
        (by same) turn
      where
        by : m.published ≡ before → (log : List Read) → GoesOn (after_read_taken work m log).0
        by same [] = (same, ap is_idle is)
        by same (read ∷ reads) = (same, refl)
    at_phase valid_after refused (phase.ReadApply work (Hit t moment)) m new is accounts turn =
        let same = before_end m (phase.ReadApply work (Hit t moment)) is refl accounts in
        planned (turn_at settings valid_after refused (phase.ReadApply work (Hit t moment)) m) new
        (λ found. (same, on_reads work)) turn
    at_phase valid_after refused (phase.ReadApply work (Miss hash)) m new is accounts turn =
        let same = before_end m (phase.ReadApply work (Miss hash)) is refl accounts in
        planned (turn_at settings valid_after refused (phase.ReadApply work (Miss hash)) m) new
        (same, on_reads work) turn
    at_phase valid_after refused (phase.WriteCount round) m new is accounts turn =
        let same = before_end m (phase.WriteCount round) is refl accounts in
        planned (turn_at settings valid_after refused (phase.WriteCount round) m) new
        (λ log. (same, on_writes (record { round = round; left = length log }))) turn
    at_phase valid_after refused (phase.Writes work) m new is accounts turn =
        let same = before_end m (phase.Writes work) is refl accounts in
        planned (turn_at settings valid_after refused (phase.Writes work) m) new
        (by same) turn
      where
        by : m.published ≡ before → (log : List Write) → GoesOn (after_write_taken work m log).0
        by same [] = (same, ap is_idle is)
        by same (write ∷ writes) = (same, refl)
    at_phase valid_after refused (phase.Apply work (Upsert t)) m new is accounts turn =
        let same = before_end m (phase.Apply work (Upsert t)) is refl accounts in
        planned (turn_at settings valid_after refused (phase.Apply work (Upsert t)) m) new
        (upserted m same settings refused work t) turn
    at_phase valid_after refused (phase.Apply work (Remove t)) m new is accounts turn =
        let same = before_end m (phase.Apply work (Remove t)) is refl accounts in
        planned (turn_at settings valid_after refused (phase.Apply work (Remove t)) m) new
        (same, on_writes work) turn
    at_phase valid_after refused (phase.Scan work c tally seen) m new is accounts turn =
        let same = before_end m (phase.Scan work c tally seen) is refl accounts in
        planned (turn_at settings valid_after refused (phase.Scan work c tally seen) m) new
        (scanned m same work c tally seen (next_seen c tally seen m.orders)) turn
    at_phase valid_after refused (phase.Removing work c tally skipped left) m new is accounts turn =
        let same = before_end m (phase.Removing work c tally skipped left) is refl accounts in
        planned (turn_at settings valid_after refused (phase.Removing work c tally skipped left) m) new
        (removed m same work c tally skipped left) turn
    at_phase valid_after refused (phase.Enter work c skipped) m new is accounts turn =
        let same = before_end m (phase.Enter work c skipped) is refl accounts in
        planned (turn_at settings valid_after refused (phase.Enter work c skipped) m) new
        (entered m same settings work c skipped) turn
    at_phase valid_after refused (phase.Sketch round) m new is accounts turn =
        let same = before_end m (phase.Sketch round) is refl accounts in
        planned (turn_at settings valid_after refused (phase.Sketch round) m) new
        (same, refl) turn
    at_phase valid_after refused (phase.MoreReads round) m new is accounts turn =
        let same = before_end m (phase.MoreReads round) is refl accounts in
        planned (turn_at settings valid_after refused (phase.MoreReads round) m) new
        (λ log. (same, on_more_reads round (length log))) turn
    at_phase valid_after refused (phase.MoreWrites round) m new is accounts turn =
        let same = before_end m (phase.MoreWrites round) is refl accounts in
        planned (turn_at settings valid_after refused (phase.MoreWrites round) m) new
        (λ log. (same, on_more_writes round (length log))) turn
    at_phase valid_after refused (phase.ExpireWrite turns) m new is accounts turn =
        let same = before_end m (phase.ExpireWrite turns) is refl accounts in
        planned (turn_at settings valid_after refused (phase.ExpireWrite turns) m) new
        (passed m same (write_front settings turns m.orders) (phase.ExpireAccess 0)
        (after_front (is_past_ttl_or_hidden settings valid_after m.moment) rewritten (phase.ExpireWrite (turns + 1)) (phase.ExpireAccess 0)) refl
        (at_front m same (is_past_ttl_or_hidden settings valid_after m.moment) rewritten (phase.ExpireWrite (turns + 1))
        (phase.ExpireAccess 0) refl refl)) turn
    at_phase valid_after refused (phase.ExpireAccess turns) m new is accounts turn =
        let same = before_end m (phase.ExpireAccess turns) is refl accounts in
        planned (turn_at settings valid_after refused (phase.ExpireAccess turns) m) new
        (passed m same (access_front settings valid_after turns m.orders) (phase.Evict 0)
        (after_front (is_past_tti_or_hidden settings valid_after m.moment) used (phase.ExpireAccess (turns + 1)) (phase.Evict 0)) refl
        (at_front m same (is_past_tti_or_hidden settings valid_after m.moment) used (phase.ExpireAccess (turns + 1)) (phase.Evict 0) refl refl)) turn
    at_phase valid_after refused (phase.Evict turns) m new is accounts turn =
        let same = before_end m (phase.Evict turns) is refl accounts in
        planned (turn_at settings valid_after refused (phase.Evict turns) m) new
        (passed m same (eviction_front settings turns m.orders) (phase.Publish turns) (after_eviction turns) refl (evicted m same turns)) turn

    one : (old new : Working) → IsWorkingTurn K V settings old new → Accounts old.maintenance → Accounts new.maintenance
    one old new turn accounts =
        let (valid_after, refused, plan) = turn.turn in
        at_phase valid_after refused old.maintenance.phase old.maintenance new.maintenance refl accounts plan

    all : (old new : Working) → AreTurns K V settings old new → Accounts old.maintenance → Accounts new.maintenance
    all old new (OneTurn _ _ turn) accounts = one old new turn accounts
    all old new (MoreTurns _ between _ more turn turns) accounts = all between new turns (one old between turn accounts)

-- turns from a maintenance that has published what it should lead to such a one
pub turns_account : (K V : Type 0) {S : Type 0} (settings : Settings S) (older : List Published) (old new : Working)
    → AreTurns K V settings old new → IsAccounted old.maintenance older → IsAccounted new.maintenance older
turns_account K V settings [] old new turns accounts = accounts
turns_account K V settings (newest ∷ older) old new turns accounts = all K V newest settings old new turns accounts

-- so a publisher's counts are those that it should have, if there is one
pub publisher_accounts : (K V : Type 0) {S : Type 0} (settings : Settings S) (publisher : Option Publisher) (old new : Working)
    → AreTurns K V settings old new → IfSome publisher (λ p. IsAccounted old.maintenance p.published)
    → IfSome publisher (λ p. IsAccounted new.maintenance p.published)
publisher_accounts K V settings None old new turns accounts = tt
publisher_accounts K V settings (Some p) old new turns accounts = turns_account K V settings p.published old new turns accounts

-- before anything is published, the opening counts are those of a new maintenance
pub opening_accounts : (publisher : Option Publisher) → IfSome publisher (λ p. p.published ≡ opening ∷ [])
    → IfSome publisher (λ p. IsNewest new_maintenance p.published × IsCharged new_maintenance p.published)
opening_accounts None opens = tt
opening_accounts (Some p) opens = rw opens (refl, (refl, refl))
