-- The turns that take and apply operations keep the core consistent.
use Rattle.std.proofs.Common.{◌≡◌, ◌≢◌, ℕ, ◌+◌, ◌-◌, ◌≤◌, ◌<◌, Bool, true, false, ◌&&◌, List, [], ◌∷◌, map, length, Option, Some, None}
use Rattle.std.proofs.Common.{refl, sym, ◌∙◌, ap, subst, arith, inl, eqb}
use Rattle.std.specs.Option.{option_map, is_some, IsSome}
use Rattle.std.proofs.lemmas.Bool.{cond_both, eqb-false, true≢false}
use Rattle.moka_common.specs.Keys.{Keys}
use Rattle.moka_common.specs.Admission.{is_within}
use Rattle.moka_common.specs.Sketch.{estimate}
use Rattle.moka_sync_model.specs.declared.ticket.Ticket.{Ticket}
use Rattle.moka_sync_model.specs.Entry.{Entry, entry_of, touched, with_upsert_done}
use Rattle.moka_sync_model.specs.declared.operation.Read.{Read}
use Rattle.moka_sync_model.specs.declared.operation.Read.TheVariants.{Hit, Miss}
use Rattle.moka_sync_model.specs.declared.operation.Write.{Write}
use Rattle.moka_sync_model.specs.declared.operation.Write.TheVariants.{Upsert, Remove}
use Rattle.moka_sync_model.specs.Operation.{same_write, count_of, count_pending}
use Rattle.moka_sync_model.specs.Orders.{Orders, charge_of, is_written, charged_weight, without_node, with_node, used, renewed, recharged}
use Rattle.moka_sync_model.specs.Phase as phase
use Rattle.moka_sync_model.specs.declared.progress.Work.{Work}
use Rattle.moka_sync_model.specs.Phase.{Phase, held}
use Rattle.moka_sync_model.specs.CoreState.{CoreState}
use Rattle.moka_common.specs.Settings.{keeps_writes}
use Rattle.moka_sync_model.specs.Turn.Plan.{Stays, Outcome, outcome, moved_on, after_change, after_plan_at, gone_to, after_plan}
use Rattle.moka_sync_model.specs.Turn.Plan.{reads_or_on, writes_or_on}
use Rattle.moka_sync_model.specs.Turn.Apply.{no_tally, after_miss, after_removal, after_hit, after_entry, after_refusal, after_first_upsert}
use Rattle.moka_sync_model.specs.Turn.Apply.{after_present_upsert, after_upsert}
use Rattle.moka_sync_model.specs.Turn.Turn.{after_read_taken, after_write_taken, read_turn, write_turn}
use Rattle.moka_sync_model.specs.Consistent.{AreEntriesConsistent, IsConsistentStay, IsTied, Stay, outstanding, Fits}
use Rattle.moka_sync_model.proofs.ListLemmas.{count-append}
use Rattle.moka_sync_model.proofs.OrdersLemmas.{ChangesNode-from, ChangesNode-then, Reorders-none, Reorders-used, Reorders-renewed}
use Rattle.moka_sync_model.proofs.OrdersLemmas.{ChangesNode-without, charge_of-without, is_written-without, ChangesNode-with, charge_of-with}
use Rattle.moka_sync_model.proofs.OrdersLemmas.{is_written-with, ChangesNode-recharged, charge_of-recharged}
use Rattle.moka_sync_model.proofs.StepLemmas.{consistent_quiet, consistent_look, consistent_upsert_done, consistent_removal_done}

-- ---- the phases between operations

module _ (limit : Option ℕ) (orders : Orders) (reads writes : ℕ) (work : Work) where
  pub fits_reads : work.left ≤ reads → Fits limit orders reads writes (reads_or_on work)
  fits_reads enough =
      cond_both (eqb work.left 0) (phase.WriteCount work.round) (phase.Reads work) (Fits limit orders reads writes) (λ none. tt)
      (λ some. let more : work.left ≢ 0 = eqb-false work.left 0 some in let pos : 0 < work.left = omega (arith, more) in (pos, enough))

  pub fits_writes : work.left ≤ writes → Fits limit orders reads writes (writes_or_on work)
  fits_writes enough =
      cond_both (eqb work.left 0) (phase.Sketch work.round) (phase.Writes work) (Fits limit orders reads writes) (λ none. tt)
      (λ some. let more : work.left ≢ 0 = eqb-false work.left 0 some in let pos : 0 < work.left = omega (arith, more) in (pos, enough))

pub held_reads : (work : Work) → held (reads_or_on work) ≡ []
held_reads work =
    cond_both (eqb work.left 0) (phase.WriteCount work.round) (phase.Reads work) (λ p. held p ≡ []) (λ none. refl) (λ some. refl)

pub held_writes : (work : Work) → held (writes_or_on work) ≡ []
held_writes work =
    cond_both (eqb work.left 0) (phase.Sketch work.round) (phase.Writes work) (λ p. held p ≡ []) (λ none. refl) (λ some. refl)

-- ---- what holds of a ticket

pub and_none : (keeps : Bool) → false ≡ (keeps && false)
and_none true = refl
and_none false = refl

pub and_some : (keeps : Bool) → keeps ≡ (keeps && true)
and_some true = refl
and_some false = refl

-- a node without its entry awaits a removal, whatever upserts there are
pub tied_absent : (K V : Type 0) (c : Option ℕ) (u v r : ℕ) → IsTied {K = K} {V = V} None c u r → IsTied {K = K} {V = V} None c v r
tied_absent K V None u v r h = h
tied_absent K V (Some c) u v r h = h

-- where a weight is not within the limit, there is one
pub limited : (limit : Option ℕ) (weight : ℕ) → is_within limit weight ≡ false → IsSome limit
limited None weight h = absurd (true≢false h)
limited (Some limit) weight h = IsSome-from limit
  where
    IsSome-from : (n : ℕ) → IsSome (Some n)
    IsSome-from n = search

module _ {K V : Type 0} where
  -- by its parts
  pub sound_by : (keeps : Bool) (stay : Stay K V) (o : Option (Entry K V)) (c : Option ℕ) → stay.entry ≡ o → stay.charge ≡ c
      → stay.written ≡ (keeps && is_some c) → IsTied o c stay.upserts stay.removals → IsConsistentStay keeps stay
  sound_by keeps stay o c entry charge written tied = record {
    tied = subst (λ x. IsTied x stay.charge stay.upserts stay.removals) (sym entry)
        (subst (λ x. IsTied o x stay.upserts stay.removals) (sym charge) tied);
    written = written ∙ ap (λ x. keeps && is_some x) (sym charge);
  }

  -- without a node
  pub sound_without : (keeps : Bool) (stay : Stay K V) (o : Option (Entry K V)) → stay.entry ≡ o → stay.charge ≡ None
      → stay.written ≡ false → IsTied o None stay.upserts stay.removals → IsConsistentStay keeps stay
  sound_without keeps stay o entry charge written tied = sound_by keeps stay o None entry charge (written ∙ and_none keeps) tied

  -- with a node that was written where writes are kept
  pub sound_charged : (keeps : Bool) (stay : Stay K V) (o : Option (Entry K V)) (c : ℕ) → stay.entry ≡ o → stay.charge ≡ Some c
      → stay.written ≡ keeps → IsTied o (Some c) stay.upserts stay.removals → IsConsistentStay keeps stay
  sound_charged keeps stay o c entry charge written tied = sound_by keeps stay o (Some c) entry charge (written ∙ and_some keeps) tied

  -- an entry that weighs as much and counts as many upserts is tied as before
  pub tied_touched : (moment : ℕ) (o : Option (Entry K V)) (c : Option ℕ) (u r : ℕ) → IsTied o c u r
      → IsTied (option_map (touched moment) o) c u r
  tied_touched moment None None u r h = h
  tied_touched moment None (Some c) u r h = h
  tied_touched moment (Some e) None u r h = h
  tied_touched moment (Some e) (Some c) u r h = h

  pub tied_done : (e : Entry K V) (c : Option ℕ) (n r : ℕ) → IsTied (Some e) c (n + 1) r
      → IsTied (Some (with_upsert_done e)) (Some e.weight) n r
  tied_done e None n r h = (omega (arith, h.0), inl refl, h.2)
  tied_done e (Some c) n r h = (omega (arith, h.0), inl refl, h.2)

module _ {K V S : Type 0} (keys : Keys K S) (core : CoreState K V S) (good : AreEntriesConsistent keys core) where
  -- what holds of a ticket, at what stands there
  pub tied_at : (t : Ticket) (o : Option (Entry K V)) (c : Option ℕ) (n : ℕ) → entry_of t core.entries ≡ o
      → charge_of t core.maintenance.orders ≡ c → outstanding core (Upsert t) ≡ n
      → IsTied o c n (outstanding core (Remove t))
  tied_at t o c n entry charge count =
      subst (λ x. IsTied x c n (outstanding core (Remove t))) entry
      (subst (λ x. IsTied (entry_of t core.entries) x n (outstanding core (Remove t))) charge
      (subst (λ x. IsTied (entry_of t core.entries) (charge_of t core.maintenance.orders) x (outstanding core (Remove t))) count
      (good.stays t).tied))

  -- where the phase is known
  pub fits_at : (p : Phase) → core.maintenance.phase ≡ p
      → Fits core.settings.policy.max_capacity core.maintenance.orders (length core.read_log) (length core.write_log) p
  fits_at p is =
      subst (Fits core.settings.policy.max_capacity core.maintenance.orders (length core.read_log) (length core.write_log)) is good.fits

  pub held_at : (p : Phase) → core.maintenance.phase ≡ p → held core.maintenance.phase ≡ held p
  held_at p is = ap held is

  -- the phase alone changes, and holds what it held
  pub consistent_move : (p next : Phase) → core.maintenance.phase ≡ p → held next ≡ held p
      → Fits core.settings.policy.max_capacity core.maintenance.orders (length core.read_log) (length core.write_log) next
      → AreEntriesConsistent keys (record core { maintenance = gone_to next core.maintenance })
  consistent_move p next is holds fits =
      consistent_quiet keys core good core.valid_after core.read_log core.write_log core.pending
      (moved_on core.maintenance core.maintenance.orders next) (Reorders-none core.maintenance.orders)
      (λ w. ap (λ ws. count_pending w core.pending + count_of w core.write_log + count_of w ws) (holds ∙ sym (held_at p is))) fits

  -- ---- operations are taken

  pub consistent_read_taken : (work : Work) (log : List Read) → core.maintenance.phase ≡ phase.Reads work → core.read_log ≡ log
      → AreEntriesConsistent keys
      (record core
      { read_log = (after_read_taken work core.maintenance log).1; maintenance = (after_read_taken work core.maintenance log).0 })
  consistent_read_taken work [] is log = subst (λ l. AreEntriesConsistent keys (record core { read_log = l })) log good
  consistent_read_taken work (read ∷ reads) is log =
      consistent_quiet keys core good core.valid_after reads core.write_log core.pending
      (moved_on core.maintenance core.maintenance.orders (phase.ReadApply (record work { left = work.left - 1 }) read))
      (Reorders-none core.maintenance.orders)
      (λ w. ap (λ ws. count_pending w core.pending + count_of w core.write_log + count_of w ws) (sym (held_at (phase.Reads work) is)))
      (omega (arith, ap length log, (fits_at (phase.Reads work) is).1))

  pub consistent_write_taken : (work : Work) (log : List Write) → core.maintenance.phase ≡ phase.Writes work → core.write_log ≡ log
      → AreEntriesConsistent keys
      (record core
      { write_log = (after_write_taken work core.maintenance log).1; maintenance = (after_write_taken work core.maintenance log).0 })
  consistent_write_taken work [] is log = subst (λ l. AreEntriesConsistent keys (record core { write_log = l })) log good
  consistent_write_taken work (write ∷ writes) is log =
      consistent_quiet keys core good core.valid_after core.read_log writes core.pending
      (moved_on core.maintenance core.maintenance.orders (phase.Apply (record work { left = work.left - 1 }) write))
      (Reorders-none core.maintenance.orders)
      counts
      (omega (arith, ap length log, (fits_at (phase.Writes work) is).1))
    where
      counts : (w : Write) → count_pending w core.pending + count_of w writes + count_of w (write ∷ []) ≡ outstanding core w
      counts w =
          let whole : count_of w core.write_log ≡ count_of w (write ∷ []) + count_of w writes = ap (count_of w) log
          ∙ count-append (same_write w) (write ∷ []) writes in
          let none : count_of w (held core.maintenance.phase) ≡ 0 = ap (count_of w) (held_at (phase.Writes work) is) in
          omega (arith, whole, none)

  -- ---- operations are applied

  pub consistent_hit : (work : Work) (t : Ticket) (moment : ℕ) → core.maintenance.phase ≡ phase.ReadApply work (Hit t moment)
      → AreEntriesConsistent keys (after_plan_at t (after_hit work t moment core.maintenance) core)
  consistent_hit work t moment is =
      let m = core.maintenance in
      let end : Outcome K V = after_hit work t moment m (entry_of t core.entries) in
      let kept = Reorders-used t m.orders in
      consistent_look keys core good t end (record { ticket = λ e. refl; key = λ e. refl })
      (ChangesNode-from t m.orders (used t m.orders) kept)
      (fits_reads core.settings.policy.max_capacity (used t m.orders) (length core.read_log) (length core.write_log) work
      (fits_at (phase.ReadApply work (Hit t moment)) is))
      (held_reads work ∙ sym (held_at (phase.ReadApply work (Hit t moment)) is))
      (sound_by (keeps_writes core.settings.policy) _ (option_map (touched moment) (entry_of t core.entries)) (charge_of t m.orders) refl
      (kept.charges t) (kept.writes t ∙ (good.stays t).written)
      (tied_touched moment (entry_of t core.entries) (charge_of t m.orders) (outstanding core (Upsert t)) (outstanding core (Remove t))
      (good.stays t).tied))
      (λ none. kept.charges t ∙ none) (λ none. kept.writes t ∙ none)

  pub consistent_read : (work : Work) (read : Read) → core.maintenance.phase ≡ phase.ReadApply work read
      → AreEntriesConsistent keys (after_plan (read_turn work read core.maintenance) core)
  consistent_read work (Hit t moment) is = consistent_hit work t moment is
  consistent_read work (Miss hash) is =
      consistent_quiet keys core good core.valid_after core.read_log core.write_log core.pending (after_miss work hash core.maintenance)
      (Reorders-none core.maintenance.orders)
      (λ w. ap (λ ws. count_pending w core.pending + count_of w core.write_log + count_of w ws)
      (held_reads work ∙ sym (held_at (phase.ReadApply work (Miss hash)) is)))
      (fits_reads core.settings.policy.max_capacity core.maintenance.orders (length core.read_log) (length core.write_log) work
      (fits_at (phase.ReadApply work (Miss hash)) is))

  pub consistent_removal : (work : Work) (t : Ticket) → core.maintenance.phase ≡ phase.Apply work (Remove t)
      → AreEntriesConsistent keys (record core { maintenance = after_removal work t core.maintenance })
  consistent_removal work t is =
      let m = core.maintenance in
      let p = phase.Apply work (Remove t) in
      consistent_removal_done keys core good t (record { change = Stays; maintenance = after_removal work t m }) tt
      (ChangesNode-without t m.orders)
      (fits_writes core.settings.policy.max_capacity (without_node t m.orders) (length core.read_log) (length core.write_log) work
      (fits_at p is))
      (held_at p is) (held_writes work)
      (λ n count. sound_without (keeps_writes core.settings.policy) _ None (absent n count (entry_of t core.entries) refl)
      (charge_of-without t m.orders) (is_written-without t m.orders) tt)
    where
      absent : (n : ℕ) → outstanding core (Remove t) ≡ n + 1 → (o : Option (Entry K V)) → entry_of t core.entries ≡ o → o ≡ None
      absent n count None found = refl
      absent n count (Some e) found =
          by (charge_of t core.maintenance.orders)
          (tied_at t (Some e) (charge_of t core.maintenance.orders) (outstanding core (Upsert t)) found refl refl)
        where
          by : (c : Option ℕ) → IsTied (Some e) c (outstanding core (Upsert t)) (outstanding core (Remove t)) → Some e ≡ None
          by None h = absurd (omega (arith, h.2, count))
          by (Some c) h = absurd (omega (arith, h.2, count))

  module _ (refused : Bool) (work : Work) (t : Ticket) (is : core.maintenance.phase ≡ phase.Apply work (Upsert t)) where
    abbrev Good : Outcome K V → Type 0
    Good end = AreEntriesConsistent keys (record core { entries = after_change t end.change core.entries; maintenance = end.maintenance })

    fits_next : (orders : Orders)
        → Fits core.settings.policy.max_capacity orders (length core.read_log) (length core.write_log) (writes_or_on work)
    fits_next orders =
        fits_writes core.settings.policy.max_capacity orders (length core.read_log) (length core.write_log) work
        (fits_at (phase.Apply work (Upsert t)) is)

    here : held core.maintenance.phase ≡ Upsert t ∷ []
    here = held_at (phase.Apply work (Upsert t)) is

    module _ (e : Entry K V) (found : entry_of t core.entries ≡ Some e) where
      -- its node is charged with its weight
      upsert_charged : (c : ℕ) → charge_of t core.maintenance.orders ≡ Some c
          → Good (after_present_upsert core.settings refused work t e (Some c) core.maintenance)
      upsert_charged c charge =
          let o = core.maintenance.orders in
          let re = recharged t e.weight o in
          let moved = Reorders-renewed t re in
          consistent_upsert_done keys core good t (after_present_upsert core.settings refused work t e (Some c) core.maintenance)
          (record { ticket = λ e. refl; key = λ e. refl })
          (ChangesNode-then t o re (renewed t re) (ChangesNode-recharged t e.weight o) moved) (fits_next (renewed t re)) here
          (held_writes work)
          (λ n count.
          sound_by (keeps_writes core.settings.policy) _ (Some (with_upsert_done e)) (Some e.weight)
          (ap (option_map with_upsert_done) found)
          (moved.charges t ∙ charge_of-recharged t e.weight c o charge)
          (moved.writes t ∙ (good.stays t).written ∙ ap (λ x. keeps_writes core.settings.policy && is_some x) charge)
          (tied_done e (Some c) n (outstanding core (Remove t)) (tied_at t (Some e) (Some c) (n + 1) found charge count)))

      module _ (charge : charge_of t core.maintenance.orders ≡ None) where
        unwritten : is_written t core.maintenance.orders ≡ false
        unwritten = (good.stays t).written ∙ ap (λ x. keeps_writes core.settings.policy && is_some x) charge
            ∙ sym (and_none (keeps_writes core.settings.policy))

        -- it leaves
        upsert_refused : Good (after_refusal core.settings work core.maintenance)
        upsert_refused =
            let o = core.maintenance.orders in
            consistent_upsert_done keys core good t (after_refusal core.settings work core.maintenance) tt
            (ChangesNode-from t o o (Reorders-none o)) (fits_next o) here (held_writes work)
            (λ n count. sound_without (keeps_writes core.settings.policy) _ None refl charge unwritten tt)

        -- it enters
        upsert_enters : Good (after_entry core.settings work t e core.maintenance)
        upsert_enters =
            let o = core.maintenance.orders in
            let keeps = keeps_writes core.settings.policy in
            consistent_upsert_done keys core good t (after_entry core.settings work t e core.maintenance)
            (record { ticket = λ e. refl; key = λ e. refl })
            (ChangesNode-with keeps t e.weight o charge unwritten) (fits_next (with_node keeps t e.weight o)) here (held_writes work)
            (λ n count.
            sound_charged keeps _ (Some (with_upsert_done e)) e.weight (ap (option_map with_upsert_done) found)
            (charge_of-with keeps t e.weight o charge) (is_written-with keeps t e.weight o unwritten)
            (tied_done e None n (outstanding core (Remove t)) (tied_at t (Some e) None (n + 1) found charge count)))

        -- a scan decides
        upsert_scanned : IsSome core.settings.policy.max_capacity
            → Good (outcome Stays core.maintenance core.maintenance.orders
            (phase.Scan work (record { ticket = t; weight = e.weight; estimate = estimate core.maintenance.sketch t.hash }) no_tally []))
        upsert_scanned some =
            let o = core.maintenance.orders in
            consistent_look keys core good t
            (outcome Stays core.maintenance o
            (phase.Scan work (record { ticket = t; weight = e.weight; estimate = estimate core.maintenance.sketch t.hash }) no_tally
            [])) tt
            (ChangesNode-from t o o (Reorders-none o))
            (record {
              limited = some;
              left = fits_at (phase.Apply work (Upsert t)) is;
              outside = charge;
              begins =
                  record { rest = map (λ n. n.ticket) o.access; is = refl };
            })
            (sym here) (good.stays t) (λ none. none) (λ none. none)

        upsert_first : Good (after_first_upsert core.settings refused work t e core.maintenance)
        upsert_first =
            cond_both refused _ _ Good (λ h. upsert_refused) (λ h.
            cond_both (is_within core.settings.policy.max_capacity (charged_weight core.maintenance.orders + e.weight)) _ _ Good
            (λ h. upsert_enters) (λ over.
            cond_both (is_within core.settings.policy.max_capacity e.weight) _ _ Good
            (λ h. upsert_scanned (limited core.settings.policy.max_capacity (charged_weight core.maintenance.orders + e.weight) over))
            (λ h. upsert_refused)))

      upsert_present : (c : Option ℕ) → charge_of t core.maintenance.orders ≡ c
          → Good (after_present_upsert core.settings refused work t e c core.maintenance)
      upsert_present None charge = upsert_first charge
      upsert_present (Some c) charge = upsert_charged c charge

    upsert_found : (o : Option (Entry K V)) → entry_of t core.entries ≡ o
        → Good (after_upsert core.settings refused work t core.maintenance o)
    upsert_found (Some e) found = upsert_present e found (charge_of t core.maintenance.orders) refl
    upsert_found None found =
        let o = core.maintenance.orders in
        consistent_upsert_done keys core good t (after_upsert core.settings refused work t core.maintenance None) tt
        (ChangesNode-from t o o (Reorders-none o)) (fits_next o) here (held_writes work)
        (λ n count. sound_by (keeps_writes core.settings.policy) _ None (charge_of t o) found refl (good.stays t).written
        (tied_absent K V (charge_of t o) (n + 1) n (outstanding core (Remove t)) (tied_at t None (charge_of t o) (n + 1) found refl count)))

    pub consistent_upsert : AreEntriesConsistent keys (after_plan_at t (after_upsert core.settings refused work t core.maintenance) core)
    consistent_upsert = upsert_found (entry_of t core.entries) refl

  pub consistent_write : (refused : Bool) (work : Work) (write : Write) → core.maintenance.phase ≡ phase.Apply work write
      → AreEntriesConsistent keys (after_plan (write_turn core.settings core.valid_after refused work write core.maintenance) core)
  consistent_write refused work (Upsert t) is = consistent_upsert refused work t is
  consistent_write refused work (Remove t) is = consistent_removal work t is
