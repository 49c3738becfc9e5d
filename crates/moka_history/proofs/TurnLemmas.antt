-- What a turn makes of the entry of its ticket, and why it takes it.
use Rattle.std.proofs.Common.{◌≡◌, ℕ, ◌+◌, Bool, true, false, not, ◌&&◌, cond, List, [], ◌∷◌, ◌++◌, map, Option, Some, None, refl, sym, ◌∙◌, ap}
use Rattle.std.proofs.Common.{subst, arith, inl, inr, ltb}
use Rattle.std.proofs.lemmas.Bool.{cond_both, ltb-false, and_parts, not-true}
use Rattle.moka_common.specs.Admission.{is_within}
use Rattle.moka_common.specs.Settings.{Settings, keeps_writes}
use Rattle.moka_sync_model.specs.declared.constants.TheConstants.{SYNC_BATCH_SIZE}
use Rattle.moka_sync_model.specs.declared.ticket.Ticket.{Ticket}
use Rattle.moka_sync_model.specs.declared.operation.Read.TheVariants.{Hit, Miss}
use Rattle.moka_sync_model.specs.declared.operation.Write.TheVariants.{Upsert, Remove}
use Rattle.moka_sync_model.specs.declared.progress.Work.{Work}
use Rattle.moka_sync_model.specs.declared.progress.Candidate.{Candidate}
use Rattle.moka_sync_model.specs.declared.progress.Tally.{Tally}
use Rattle.moka_sync_model.specs.CoreState.{Maintenance}
use Rattle.moka_sync_model.specs.Entry.{Entry, touched, with_upsert_done}
use Rattle.moka_sync_model.specs.Orders.{Node, Orders, charge_of, charged_weight, used, rewritten}
use Rattle.moka_sync_model.specs.Phase as phase
use Rattle.moka_sync_model.specs.Phase.{Phase, Seen}
use Rattle.moka_sync_model.specs.RemovalCause.{StandsFirst}
use Rattle.moka_sync_model.specs.Turn.Plan.{Change, Stays, Becomes, Leaves, Outcome, Plan, Alone, AtReads, AtWrites, AtEntry, gone_to}
use Rattle.moka_sync_model.specs.Turn.Apply.{after_upsert, after_present_upsert}
use Rattle.moka_sync_model.specs.Turn.Admission.{is_admitted, next_seen, removing_or_enter, after_verdict, after_scan, after_removing, after_victim}
use Rattle.moka_sync_model.specs.Turn.Admission.{after_entering}
use Rattle.moka_sync_model.specs.Turn.Expiry.{first_if, is_past_ttl_or_hidden, is_past_tti_or_hidden, after_front, after_eviction, after_pass, write_front}
use Rattle.moka_sync_model.specs.Turn.Expiry.{access_front, eviction_front}
use Rattle.moka_sync_model.specs.Turn.Turn.{turn_at}
use Rattle.moka_history.specs.LastWrite.{last_write_of}
use Rattle.moka_history.specs.Cause.{IsVictim, IsRejected, IsTurnedAway, IsEvicted, TurnCause}

module _ {K V : Type 0} where
  -- a change that keeps the key, and what is known of the write
  pub record KeepsWrite (f : Entry K V → Entry K V) : Type 0 where
    pub key : (e : Entry K V) → (f e).key ≡ e.key
    pub write : (e : Entry K V) → last_write_of (f e) ≡ last_write_of e

  abbrev pub IsQuiet : Change K V → Type 0
  IsQuiet Stays = Unit {0}
  IsQuiet (Becomes f) = KeepsWrite f
  IsQuiet Leaves = Unit {0}

  -- what a turn at a phase makes of the entry: a read that is applied touches it, and all others are quiet
  abbrev pub IsFate : Phase → Ticket → (Option (Entry K V) → Outcome K V) → Type 0
  IsFate (phase.ReadApply work (Hit u moment)) t looks = (u ≡ t) × ((found : Option (Entry K V)) → (looks found).change ≡ Becomes (touched moment))
  IsFate p t looks = (found : Option (Entry K V)) → IsQuiet (looks found).change

  abbrev pub LookFate : Phase → Plan K V → Type 0
  LookFate p (AtEntry t looks) = IsFate p t looks
  LookFate p plan = Unit {0}

  abbrev pub QuietLook : Plan K V → Type 0
  QuietLook (AtEntry t looks) = (found : Option (Entry K V)) → IsQuiet (looks found).change
  QuietLook plan = Unit {0}

  as_fate : (p : Phase) → ((t : Ticket) (looks : Option (Entry K V) → Outcome K V) → ((found : Option (Entry K V)) → IsQuiet (looks found).change)
      → IsFate p t looks)
      → (plan : Plan K V) → QuietLook plan → LookFate p plan
  as_fate p lift (Alone m) h = tt
  as_fate p lift (AtReads looks) h = tt
  as_fate p lift (AtWrites looks) h = tt
  as_fate p lift (AtEntry t looks) h = lift t looks h

module _ (K V : Type 0) where
  done_keeps : KeepsWrite {K = K} {V = V} with_upsert_done
  done_keeps = record { key = λ e. refl; write = λ e. refl }

  abbrev IsQuietEnd : Outcome K V → Type 0
  IsQuietEnd end = IsQuiet end.change

  quiet_front : (is_over : Entry K V → Bool) (sends : Ticket → Orders → Orders) (more done : Phase) (m : Maintenance) (front : Option Ticket)
      → QuietLook {K = K} {V = V} (after_pass front done (after_front is_over sends more done) m)
  quiet_front is_over sends more done m None = tt
  quiet_front is_over sends more done m (Some t) = by
    where
      by : (found : Option (Entry K V)) → IsQuiet (after_front is_over sends more done t m found).change
      by None = tt
      by (Some e) = cond_both (is_over e) _ _ IsQuietEnd (λ h. tt) (λ h. tt)

  quiet_eviction : (turns : ℕ) (m : Maintenance) (front : Option Ticket)
      → QuietLook {K = K} {V = V} (after_pass front (phase.Publish turns) (after_eviction turns) m)
  quiet_eviction turns m None = tt
  quiet_eviction turns m (Some t) = by
    where
      by : (found : Option (Entry K V)) → IsQuiet (after_eviction turns t m found).change
      by None = tt
      by (Some e) = cond_both (ltb 0 e.outstanding) _ _ IsQuietEnd (λ h. tt) (λ h. tt)

  quiet_verdict : (work : Work) (c : Candidate) (tally : Tally) (seen : List Seen) (m : Maintenance) (admitted : Bool)
      → QuietLook {K = K} {V = V} (after_verdict work c tally seen admitted m)
  quiet_verdict work c tally seen m true = tt
  quiet_verdict work c tally seen m false = λ found. tt

  quiet_scan : (work : Work) (c : Candidate) (tally : Tally) (seen : List Seen) (m : Maintenance) (next : Option Node)
      → QuietLook {K = K} {V = V} (after_scan work c tally seen next m)
  quiet_scan work c tally seen m None = quiet_verdict work c tally seen m (is_admitted c tally)
  quiet_scan work c tally seen m (Some n) = λ found. tt

  quiet_removing : (work : Work) (c : Candidate) (tally : Tally) (skipped : List Ticket) (m : Maintenance) (left : List Seen)
      → QuietLook {K = K} {V = V} (after_removing work c tally skipped left m)
  quiet_removing work c tally skipped m [] = tt
  quiet_removing work c tally skipped m (s ∷ left) = cond_both s.is_present _ _ (QuietLook) (λ h found. by found) (λ h. tt)
    where
      by : (found : Option (Entry K V)) → IsQuiet (after_victim work c tally skipped s left m found).change
      by None = tt
      by (Some e) = tt

  module _ {S : Type 0} (settings : Settings S) (valid_after : ℕ) where
    quiet_upsert : (refused : Bool) (work : Work) (t : Ticket) (m : Maintenance) (e : Entry K V) (c : Option ℕ)
        → IsQuiet (after_present_upsert settings refused work t e c m).change
    quiet_upsert refused work t m e (Some c) = done_keeps
    quiet_upsert refused work t m e None =
        cond_both refused _ _ IsQuietEnd (λ h. tt) (λ h.
        cond_both (is_within settings.policy.max_capacity (charged_weight m.orders + e.weight)) _ _ IsQuietEnd
        (λ h. done_keeps) (λ h.
        cond_both (is_within settings.policy.max_capacity e.weight) _ _ IsQuietEnd (λ h. tt) (λ h. tt)))

    quiet_write : (refused : Bool) (work : Work) (t : Ticket) (m : Maintenance) (found : Option (Entry K V))
        → IsQuiet (after_upsert settings refused work t m found).change
    quiet_write refused work t m None = tt
    quiet_write refused work t m (Some e) = quiet_upsert refused work t m e (charge_of t m.orders)

    quiet_entering : (work : Work) (c : Candidate) (skipped : List Ticket) (m : Maintenance) (found : Option (Entry K V))
        → IsQuiet (after_entering (keeps_writes settings.policy) work c skipped m found).change
    quiet_entering work c skipped m None = tt
    quiet_entering work c skipped m (Some e) = done_keeps

    pub turn_fate : (refused : Bool) (p : Phase) (m : Maintenance) → LookFate {K = K} {V = V} p (turn_at settings valid_after refused p m)
    turn_fate refused phase.Idle m = tt
    turn_fate refused (phase.ReadCount round) m = tt
    turn_fate refused (phase.Reads work) m = tt
    turn_fate refused (phase.ReadApply work (Hit t moment)) m = (refl, λ found. refl)
    turn_fate refused (phase.ReadApply work (Miss hash)) m = tt
    turn_fate refused (phase.WriteCount round) m = tt
    turn_fate refused (phase.Writes work) m = tt
    turn_fate refused (phase.Apply work (Upsert t)) m = quiet_write refused work t m
    turn_fate refused (phase.Apply work (Remove t)) m = tt
    turn_fate refused (phase.Scan work c tally seen) m =
        as_fate (phase.Scan work c tally seen) (λ t looks h. h) _ (quiet_scan work c tally seen m (next_seen c tally seen m.orders))
    turn_fate refused (phase.Removing work c tally skipped left) m =
        as_fate (phase.Removing work c tally skipped left) (λ t looks h. h) _ (quiet_removing work c tally skipped m left)
    turn_fate refused (phase.Enter work c skipped) m = quiet_entering work c skipped m
    turn_fate refused (phase.Sketch round) m = tt
    turn_fate refused (phase.MoreReads round) m = tt
    turn_fate refused (phase.MoreWrites round) m = tt
    turn_fate refused (phase.ExpireWrite turns) m =
        as_fate (phase.ExpireWrite turns) (λ t looks h. h) _ (quiet_front _ _ _ _ m (write_front settings turns m.orders))
    turn_fate refused (phase.ExpireAccess turns) m =
        as_fate (phase.ExpireAccess turns) (λ t looks h. h) _ (quiet_front _ _ _ _ m (access_front settings valid_after turns m.orders))
    turn_fate refused (phase.Evict turns) m =
        as_fate (phase.Evict turns) (λ t looks h. h) _ (quiet_eviction turns m (eviction_front settings turns m.orders))
    turn_fate refused (phase.Publish turns) m = tt

-- ---- why it takes an entry

-- the first of an order, where there is a turn
first_is : (b : Bool) (ts : List Ticket) (t : Ticket) → first_if b ts ≡ Some t → (b ≡ true) × StandsFirst t ts
first_is false ts t is = absurd (cc)
first_is true [] t is = absurd (cc)
first_is true (u ∷ ts) t is = let same : u ≡ t = cc in (refl, (ts, ap (λ v. v ∷ ts) same))

-- a plan takes this entry
abbrev pub TakesEntry : {K V : Type 0} → Plan K V → Entry K V → Type 0
TakesEntry (AtEntry t looks) e = (t ≡ e.ticket) × ((looks (Some e)).change ≡ Leaves)
TakesEntry plan e = ⊥

module _ {K V S : Type 0} (settings : Settings S) (valid_after : ℕ) (m : Maintenance) (e : Entry K V) where
  upsert_cause : (refused : Bool) (u : Ticket) (work : Work) → u ≡ e.ticket → (c : Option ℕ) → charge_of u m.orders ≡ c
      → (after_present_upsert settings refused work u e c m).change ≡ Leaves → IsTurnedAway settings valid_after m e u refused
  upsert_cause refused u work same (Some c) charge leaves = absurd (cc)
  upsert_cause refused u work same None charge leaves =
      by refused (is_within settings.policy.max_capacity (charged_weight m.orders + e.weight)) (is_within settings.policy.max_capacity e.weight) refl refl refl
    where
      by : (no_memory room light : Bool) → refused ≡ no_memory
          → is_within settings.policy.max_capacity (charged_weight m.orders + e.weight) ≡ room
          → is_within settings.policy.max_capacity e.weight ≡ light → IsTurnedAway settings valid_after m e u refused
      by true room light a b c = record { own = sym same; uncharged = charge; why = inl a }
      by false false false a b c = record { own = sym same; uncharged = charge; why = inr (b, c) }
      by false true light a b c = let stays = rw (a, b) at leaves in absurd (cc stays)
      by false false true a b c = let stays = rw (a, b, c) at leaves in absurd (cc stays)

  scan_cause : (work : Work) (c : Candidate) (tally : Tally) (seen : List Seen) (next : Option Node) → next_seen c tally seen m.orders ≡ next
      → TakesEntry (after_scan work c tally seen next m) e → IsRejected settings valid_after m e c tally seen
  scan_cause work c tally seen (Some n) is takes = let stays = takes.1 in absurd (cc stays)
  scan_cause work c tally seen None is takes = by (is_admitted c tally) refl takes
    where
      by : (admitted : Bool) → is_admitted c tally ≡ admitted → TakesEntry (after_verdict work c tally seen admitted m) e
          → IsRejected settings valid_after m e c tally seen
      by true verdict takes = absurd takes
      by false verdict takes = record { candidate = sym takes.0; ended = is; rejected = verdict }

  removing_cause : (work : Work) (c : Candidate) (tally : Tally) (skipped : List Ticket) (left : List Seen)
      → TakesEntry (after_removing work c tally skipped left m) e → IsVictim settings valid_after m e left
  removing_cause work c tally skipped [] takes = absurd takes
  removing_cause work c tally skipped (s ∷ left) takes = by s.is_present refl takes
    where
      by : (present : Bool) → s.is_present ≡ present
          → TakesEntry (cond present (AtEntry s.ticket (after_victim work c tally skipped s left m))
          (Alone (gone_to (removing_or_enter work c tally (skipped ++ s.ticket ∷ []) left) m))) e
          → IsVictim settings valid_after m e (s ∷ left)
      by true present takes =
          let same : s ≡ record { ticket = e.ticket; is_present = true } =
          ap (λ b. record s { is_present = b }) present ∙ ap (λ (u : Ticket). record { ticket = u; is_present = true }) takes.0 in
          record { rest = left; seen = ap (λ x. x ∷ left) same }
      by false absent takes = absurd takes

  front_cause : (front : Option Ticket) (is_over : Entry K V → Bool) (sends : Ticket → Orders → Orders) (more done : Phase)
      → TakesEntry (after_pass front done (after_front is_over sends more done) m) e → (front ≡ Some e.ticket) × (is_over e ≡ true)
  front_cause None is_over sends more done takes = absurd takes
  front_cause (Some u) is_over sends more done takes = (ap (λ (v : Ticket). Some v) takes.0, over (is_over e) refl takes.1)
    where
      over : (b : Bool) → is_over e ≡ b → (after_front is_over sends more done u m (Some e)).change ≡ Leaves → b ≡ true
      over true is leaves = refl
      over false is leaves = let stays = rw is at leaves in absurd (cc stays)

  evict_cause : (turns : ℕ) (front : Option Ticket) → eviction_front settings turns m.orders ≡ front
      → TakesEntry (after_pass front (phase.Publish turns) (after_eviction turns) m) e → IsEvicted settings valid_after m e
  evict_cause turns None is takes = absurd takes
  evict_cause turns (Some u) is takes =
      let found =
      first_is (not (is_within settings.policy.max_capacity (charged_weight m.orders)) && ltb turns SYNC_BATCH_SIZE)
      (map (λ (n : Node). n.ticket) m.orders.access) u is in
      let both = and_parts (not (is_within settings.policy.max_capacity (charged_weight m.orders))) (ltb turns SYNC_BATCH_SIZE) found.0 in
      record {
        over = not-true (is_within settings.policy.max_capacity (charged_weight m.orders)) both.0;
        first = subst (λ v. StandsFirst v (map (λ (n : Node). n.ticket) m.orders.access)) takes.0 found.1;
        done = done (ltb 0 e.outstanding) refl takes.1;
      }
    where
      done : (waits : Bool) → ltb 0 e.outstanding ≡ waits → (after_eviction turns u m (Some e)).change ≡ Leaves → e.outstanding ≡ 0
      done true is leaves = let stays = rw is at leaves in absurd (cc stays)
      done false is leaves = omega (arith, ltb-false 0 e.outstanding is)

  pub turn_cause : (refused : Bool) (p : Phase) → TakesEntry (turn_at settings valid_after refused p m) e → TurnCause settings valid_after m e refused p
  turn_cause refused phase.Idle takes = absurd takes
  turn_cause refused (phase.ReadCount round) takes = absurd takes
  turn_cause refused (phase.Reads work) takes = absurd takes
  turn_cause refused (phase.ReadApply work (Hit u moment)) takes = let stays = takes.1 in absurd (cc stays)
  turn_cause refused (phase.ReadApply work (Miss hash)) takes = absurd takes
  turn_cause refused (phase.WriteCount round) takes = absurd takes
  turn_cause refused (phase.Writes work) takes = absurd takes
  turn_cause refused (phase.Apply work (Upsert u)) takes = upsert_cause refused u work takes.0 (charge_of u m.orders) refl takes.1
  turn_cause refused (phase.Apply work (Remove u)) takes = absurd takes
  turn_cause refused (phase.Scan work c tally seen) takes = scan_cause work c tally seen (next_seen c tally seen m.orders) refl takes
  turn_cause refused (phase.Removing work c tally skipped left) takes = removing_cause work c tally skipped left takes
  turn_cause refused (phase.Enter work c skipped) takes = let stays = takes.1 in absurd (cc stays)
  turn_cause refused (phase.Sketch round) takes = absurd takes
  turn_cause refused (phase.MoreReads round) takes = absurd takes
  turn_cause refused (phase.MoreWrites round) takes = absurd takes
  turn_cause refused (phase.ExpireWrite turns) takes =
      let both = front_cause (write_front settings turns m.orders) (is_past_ttl_or_hidden settings valid_after m.moment) rewritten (phase.ExpireWrite
      (turns + 1))
      (phase.ExpireAccess 0) takes in
      record { first = (first_is _ m.orders.write e.ticket both.0).1; over = both.1 }
  turn_cause refused (phase.ExpireAccess turns) takes =
      let both = front_cause (access_front settings valid_after turns m.orders) (is_past_tti_or_hidden settings valid_after m.moment) used (phase.ExpireAccess
      (turns + 1))
      (phase.Evict 0) takes in
      record { first = (first_is _ (map (λ (n : Node). n.ticket) m.orders.access) e.ticket both.0).1; over = both.1 }
  turn_cause refused (phase.Evict turns) takes = evict_cause turns (eviction_front settings turns m.orders) refl takes
  turn_cause refused (phase.Publish turns) takes = absurd takes
