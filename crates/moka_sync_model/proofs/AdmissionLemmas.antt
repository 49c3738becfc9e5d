-- The turns of an admission keep the core consistent: the scan, the removals and the entering.
use Rattle.std.proofs.Common.{◌≡◌, ℕ, ◌+◌, Bool, true, false, ◌&&◌, List, [], ◌∷◌, ◌++◌, length, drop, Option, Some, None, refl, sym, ◌∙◌}
use Rattle.std.proofs.Common.{ap, subst, inl, inr}
use Rattle.std.specs.Option.{option_map, is_some}
use Rattle.std.proofs.lemmas.Bool.{cond_both}
use Rattle.std.proofs.lemmas.List.{append-nil, map-append, append_assoc, length-map}
use Rattle.moka_common.specs.Keys.{Keys}
use Rattle.moka_sync_model.specs.declared.ticket.Ticket.{Ticket}
use Rattle.moka_sync_model.specs.Entry.{Entry, entry_of, with_upsert_done}
use Rattle.moka_sync_model.specs.declared.operation.Write.TheVariants.{Upsert, Remove}
use Rattle.moka_sync_model.specs.Orders.{Node, Orders, charge_of, is_written, without_node, with_node, all_used}
use Rattle.moka_sync_model.specs.Phase as phase
use Rattle.moka_sync_model.specs.declared.progress.Work.{Work}
use Rattle.moka_sync_model.specs.declared.progress.Candidate.{Candidate}
use Rattle.moka_sync_model.specs.declared.progress.Tally.{Tally}
use Rattle.moka_sync_model.specs.Phase.{Phase, Seen, held}
use Rattle.moka_sync_model.specs.CoreState.{CoreState}
use Rattle.moka_common.specs.Settings.{keeps_writes}
use Rattle.moka_sync_model.specs.Turn.Plan.{Outcome, after_change, after_plan_at, Plan, after_plan}
use Rattle.moka_sync_model.specs.Turn.Apply.{no_tally}
use Rattle.moka_sync_model.specs.Turn.Admission.{tickets_of, absent_of, is_decided, is_admitted, next_if, next_seen, removing_or_enter}
use Rattle.moka_sync_model.specs.Turn.Admission.{after_seeing, after_rejection, after_victim, after_entering, after_verdict, after_scan}
use Rattle.moka_sync_model.specs.Turn.Admission.{after_removing}
use Rattle.moka_sync_model.specs.Consistent.{AreEntriesConsistent, outstanding, Fits, IsAdmission}
use Rattle.moka_sync_model.proofs.TicketLemmas.{cases_ticket}
use Rattle.moka_sync_model.proofs.OrdersLemmas.{ChangesNode-from, ChangesNode-then, Reorders-none, Reorders-all_used, ChangesNode-without}
use Rattle.moka_sync_model.proofs.OrdersLemmas.{charge_of-without, is_written-without, ChangesNode-with, charge_of-with, is_written-with}
use Rattle.moka_sync_model.proofs.StepLemmas.{consistent_look, consistent_upsert_done}
use Rattle.moka_sync_model.proofs.FrontLemmas.{Begins-without, Begins-more, Begins-same}
use Rattle.moka_sync_model.proofs.ApplyLemmas.{fits_writes, held_writes, and_none, sound_by, sound_without, sound_charged, tied_absent}
use Rattle.moka_sync_model.proofs.ApplyLemmas.{tied_done, tied_at, fits_at, held_at, consistent_move}

-- a ticket without a node stays so where another leaves
uncharged-without : (t u : Ticket) (o : Orders) → charge_of u o ≡ None → charge_of u (without_node t o) ≡ None
uncharged-without t u o none =
    elim (cases_ticket t u) [
      | inl same ↦ subst (λ v. charge_of v (without_node t o) ≡ None) same (charge_of-without t o)
      | inr differ ↦ (ChangesNode-without t o).charges u differ ∙ none
    ]

held_removing : (work : Work) (c : Candidate) (tally : Tally) (skipped : List Ticket) (left : List Seen)
    → held (removing_or_enter work c tally skipped left) ≡ Upsert c.ticket ∷ []
held_removing work c tally skipped [] = refl
held_removing work c tally skipped (s ∷ left) = refl

module _ (limit : Option ℕ) (orders : Orders) (reads writes : ℕ) (work : Work) (c : Candidate) where
  fits_removing : (tally : Tally) (skipped : List Ticket) (left : List Seen) → is_admitted c tally ≡ true
      → IsAdmission limit orders writes work c (skipped ++ tickets_of left)
      → Fits limit orders reads writes (removing_or_enter work c tally skipped left)
  fits_removing tally skipped [] admitted a =
      record {
        limited = a.limited;
        left = a.left;
        outside = a.outside;
        begins =
            Begins-same orders (skipped ++ []) skipped (append-nil skipped) a.begins;
      }
  fits_removing tally skipped (s ∷ left) admitted a = (a, λ none. cc none, admitted)

  -- the same with the front written in another way
  same_front : (front other : List Ticket) → front ≡ other → IsAdmission limit orders writes work c front
      → IsAdmission limit orders writes work c other
  same_front front other same a =
      record { limited = a.limited; left = a.left; outside = a.outside; begins = Begins-same orders front other same a.begins }

module _ {K V S : Type 0} (keys : Keys K S) (core : CoreState K V S) (good : AreEntriesConsistent keys core) (work : Work) (c : Candidate)
    (tally : Tally) where
  abbrev Good : Outcome K V → Ticket → Type 0
  Good end t = AreEntriesConsistent keys (record core { entries = after_change t end.change core.entries; maintenance = end.maintenance })

  abbrev Admits : List Ticket → Type 0
  Admits front = IsAdmission core.settings.policy.max_capacity core.maintenance.orders (length core.write_log) work c front

  module _ (p : Phase) (is : core.maintenance.phase ≡ p) (holds : held p ≡ Upsert c.ticket ∷ []) where
    here : held core.maintenance.phase ≡ Upsert c.ticket ∷ []
    here = held_at keys core good p is ∙ holds

    -- ---- the scan

    seeing : (seen : List Seen) (n : Node) (nodes : List Node) → Admits (tickets_of seen)
        → drop (length seen) core.maintenance.orders.access ≡ n ∷ nodes
        → AreEntriesConsistent keys (after_plan_at n.ticket (after_seeing work c tally seen n.ticket core.maintenance) core)
    seeing seen n nodes a next =
        let o = core.maintenance.orders in
        let s : Seen = record { ticket = n.ticket; is_present = is_some (entry_of n.ticket core.entries) } in
        let dropped : drop (length (tickets_of seen)) o.access ≡ n ∷ nodes = ap (λ k. drop k o.access) (length-map seen (λ s. s.ticket))
        ∙ next in
        consistent_look keys core good n.ticket
        (after_seeing work c tally seen n.ticket core.maintenance (entry_of n.ticket core.entries)) tt
        (ChangesNode-from n.ticket o o (Reorders-none o))
        (record {
          limited = a.limited;
          left = a.left;
          outside = a.outside;
          begins =
              Begins-same o (tickets_of seen ++ n.ticket ∷ []) (tickets_of (seen ++ s ∷ []))
              (sym (map-append (λ s. s.ticket) seen (s ∷ []))) (Begins-more o (tickets_of seen) n nodes a.begins dropped);
        })
        (sym here) (good.stays n.ticket) (λ none. none) (λ none. none)

    rejected : (seen : List Seen) → Admits (tickets_of seen)
        → AreEntriesConsistent keys (after_plan_at c.ticket (after_rejection work seen core.maintenance) core)
    rejected seen a =
        let o = core.maintenance.orders in
        let moved = Reorders-all_used (absent_of seen) o in
        let unwritten : is_written c.ticket o ≡ false = (good.stays c.ticket).written
        ∙ ap (λ x. keeps_writes core.settings.policy && is_some x) a.outside ∙ sym (and_none (keeps_writes core.settings.policy)) in
        consistent_upsert_done keys core good c.ticket (after_rejection work seen core.maintenance (entry_of c.ticket core.entries)) tt
        (ChangesNode-from c.ticket o (all_used (absent_of seen) o) moved)
        (fits_writes core.settings.policy.max_capacity (all_used (absent_of seen) o) (length core.read_log) (length core.write_log) work
        a.left) here (held_writes work)
        (λ n count.
        sound_without (keeps_writes core.settings.policy) _ None refl (moved.charges c.ticket ∙ a.outside)
        (moved.writes c.ticket ∙ unwritten) tt)

    decided : (seen : List Seen) → Admits (tickets_of seen) → (admitted : Bool) → is_admitted c tally ≡ admitted
        → AreEntriesConsistent keys (after_plan (after_verdict work c tally seen admitted core.maintenance) core)
    decided seen a true verdict =
        consistent_move keys core good p (removing_or_enter work c tally [] seen) is (held_removing work c tally [] seen ∙ sym holds)
        (fits_removing core.settings.policy.max_capacity core.maintenance.orders (length core.read_log) (length core.write_log) work c
        tally [] seen verdict a)
    decided seen a false verdict = rejected seen a

    scanned : (seen : List Seen) → Admits (tickets_of seen) → (over : Bool) (nodes : List Node)
        → drop (length seen) core.maintenance.orders.access ≡ nodes
        → AreEntriesConsistent keys (after_plan (after_scan work c tally seen (next_if over nodes) core.maintenance) core)
    scanned seen a true nodes rest = decided seen a (is_admitted c tally) refl
    scanned seen a false [] rest = decided seen a (is_admitted c tally) refl
    scanned seen a false (n ∷ nodes) rest = seeing seen n nodes a rest

    -- ---- the removals

    module _ (skipped : List Ticket) (s : Seen) (left : List Seen) (a : Admits (skipped ++ s.ticket ∷ tickets_of left))
        (admitted : is_admitted c tally ≡ true) where
      fits_skipped : Fits core.settings.policy.max_capacity core.maintenance.orders (length core.read_log) (length core.write_log)
          (removing_or_enter work c tally (skipped ++ s.ticket ∷ []) left)
      fits_skipped =
          fits_removing core.settings.policy.max_capacity core.maintenance.orders (length core.read_log) (length core.write_log) work c
          tally (skipped ++ s.ticket ∷ []) left admitted
          (same_front core.settings.policy.max_capacity core.maintenance.orders (length core.read_log) (length core.write_log) work c
          (skipped ++ s.ticket ∷ tickets_of left) ((skipped ++ s.ticket ∷ []) ++ tickets_of left)
          (sym (append_assoc skipped (s.ticket ∷ []) (tickets_of left))) a)

      victim : (found : Option (Entry K V)) → entry_of s.ticket core.entries ≡ found
          → Good (after_victim work c tally skipped s left core.maintenance found) s.ticket
      victim None gone =
          let o = core.maintenance.orders in
          consistent_look keys core good s.ticket (after_victim work c tally skipped s left core.maintenance None) tt
          (ChangesNode-from s.ticket o o (Reorders-none o)) fits_skipped
          (held_removing work c tally (skipped ++ s.ticket ∷ []) left ∙ sym here) (good.stays s.ticket) (λ none. none) (λ none. none)
      victim (Some e) found =
          let o = core.maintenance.orders in
          consistent_look keys core good s.ticket (after_victim work c tally skipped s left core.maintenance (Some e)) tt
          (ChangesNode-without s.ticket o)
          (fits_removing core.settings.policy.max_capacity (without_node s.ticket o) (length core.read_log) (length core.write_log) work c
          tally skipped left admitted
          (record {
            limited = a.limited;
            left = a.left;
            outside = uncharged-without s.ticket c.ticket o a.outside;
            begins = Begins-without o skipped (tickets_of left) s.ticket good.nodes_apart a.begins;
          }))
          (held_removing work c tally skipped left ∙ sym here)
          (sound_without (keeps_writes core.settings.policy) _ None refl (charge_of-without s.ticket o) (is_written-without s.ticket o) tt)
          (λ none. charge_of-without s.ticket o) (λ none. is_written-without s.ticket o)

      removed : AreEntriesConsistent keys (after_plan (after_removing work c tally skipped (s ∷ left) core.maintenance) core)
      removed =
          cond_both s.is_present _ _ (λ (look : Plan K V). AreEntriesConsistent keys (after_plan look core))
          (λ present. victim (entry_of s.ticket core.entries) refl)
          (λ absent. consistent_move keys core good p (removing_or_enter work c tally (skipped ++ s.ticket ∷ []) left) is
          (held_removing work c tally (skipped ++ s.ticket ∷ []) left ∙ sym holds) fits_skipped)

    -- ---- the entering

    entered : (skipped : List Ticket) → Admits skipped → (found : Option (Entry K V)) → entry_of c.ticket core.entries ≡ found
        → Good (after_entering (keeps_writes core.settings.policy) work c skipped core.maintenance found) c.ticket
    entered skipped a None gone =
        let o = core.maintenance.orders in
        let moved = Reorders-all_used skipped o in
        consistent_upsert_done keys core good c.ticket
        (after_entering (keeps_writes core.settings.policy) work c skipped core.maintenance None) tt
        (ChangesNode-from c.ticket o (all_used skipped o) moved)
        (fits_writes core.settings.policy.max_capacity (all_used skipped o) (length core.read_log) (length core.write_log) work a.left)
        here (held_writes work)
        (λ n count. sound_by (keeps_writes core.settings.policy) _ None (charge_of c.ticket o) gone (moved.charges c.ticket)
        (moved.writes c.ticket ∙ (good.stays c.ticket).written)
        (tied_absent K V (charge_of c.ticket o) (n + 1) n (outstanding core (Remove c.ticket))
        (tied_at keys core good c.ticket None (charge_of c.ticket o) (n + 1) gone refl count)))
    entered skipped a (Some e) found =
        let o = core.maintenance.orders in
        let keeps = keeps_writes core.settings.policy in
        let with = with_node keeps c.ticket e.weight o in
        let moved = Reorders-all_used skipped with in
        let unwritten : is_written c.ticket o ≡ false = (good.stays c.ticket).written
        ∙ ap (λ x. keeps_writes core.settings.policy && is_some x) a.outside ∙ sym (and_none (keeps_writes core.settings.policy)) in
        consistent_upsert_done keys core good c.ticket
        (after_entering (keeps_writes core.settings.policy) work c skipped core.maintenance (Some e))
        (record { ticket = λ e. refl; key = λ e. refl })
        (ChangesNode-then c.ticket o with (all_used skipped with) (ChangesNode-with keeps c.ticket e.weight o a.outside unwritten) moved)
        (fits_writes core.settings.policy.max_capacity (all_used skipped with) (length core.read_log) (length core.write_log) work a.left)
        here (held_writes work)
        (λ n count. sound_charged keeps _ (Some (with_upsert_done e)) e.weight (ap (option_map with_upsert_done) found)
        (moved.charges c.ticket ∙ charge_of-with keeps c.ticket e.weight o a.outside)
        (moved.writes c.ticket ∙ is_written-with keeps c.ticket e.weight o unwritten)
        (tied_done e None n (outstanding core (Remove c.ticket))
        (tied_at keys core good c.ticket (Some e) None (n + 1) found a.outside count)))

  pub consistent_scan : (seen : List Seen) → core.maintenance.phase ≡ phase.Scan work c tally seen
      → AreEntriesConsistent keys
      (after_plan (after_scan work c tally seen (next_seen c tally seen core.maintenance.orders) core.maintenance) core)
  consistent_scan seen is =
      scanned (phase.Scan work c tally seen) is refl seen (fits_at keys core good (phase.Scan work c tally seen) is) (is_decided c tally)
      (drop (length seen) core.maintenance.orders.access) refl

  pub consistent_removing : (skipped : List Ticket) (left : List Seen) → core.maintenance.phase ≡ phase.Removing work c tally skipped left
      → AreEntriesConsistent keys (after_plan (after_removing work c tally skipped left core.maintenance) core)
  consistent_removing skipped [] is = absurd ((fits_at keys core good (phase.Removing work c tally skipped []) is).1 refl)
  consistent_removing skipped (s ∷ left) is =
      let fits = fits_at keys core good (phase.Removing work c tally skipped (s ∷ left)) is in
      removed (phase.Removing work c tally skipped (s ∷ left)) is refl skipped s left fits.0 fits.2

module _ {K V S : Type 0} (keys : Keys K S) (core : CoreState K V S) (good : AreEntriesConsistent keys core) (work : Work) (c : Candidate)
  where
    pub consistent_entering : (skipped : List Ticket) → core.maintenance.phase ≡ phase.Enter work c skipped
        → AreEntriesConsistent keys
        (after_plan_at c.ticket (after_entering (keeps_writes core.settings.policy) work c skipped core.maintenance) core)
    consistent_entering skipped is =
        entered keys core good work c no_tally (phase.Enter work c skipped) is refl skipped
        (fits_at keys core good (phase.Enter work c skipped) is) (entry_of c.ticket core.entries) refl
