-- Every caller's step keeps the core consistent.
use Rattle.std.proofs.Common.{◌≡◌, ℕ, ◌+◌, ◌≤◌, Bool, true, false, List, [], ◌∷◌, ◌++◌, map, length, Option, Some, None, refl, sym, ◌∙◌}
use Rattle.std.proofs.Common.{ap, subst, arith, inl, inr, eqb}
use Rattle.std.specs.Cmp.{IsEquivalence}
use Rattle.std.specs.List.{find, AllByRecursion, count_by, sum_by}
use Rattle.std.specs.Map.{lookup, remove_entry, values_of}
use Rattle.std.specs.Option.{option_map, unwrap_or}
use Rattle.std.proofs.lemmas.Bool.{cases_Bool, false≢true}
use Rattle.std.proofs.lemmas.List.{map-append, length-append}
use Rattle.std.proofs.lemmas.List.Sums.{sum_by-append}
use Rattle.std.proofs.lemmas.Map.Entries.{sum_by-remove_entry}
use Rattle.moka_common.specs.Keys.{Keys}
use Rattle.moka_sync_model.specs.declared.ticket.Ticket.{Ticket}
use Rattle.moka_sync_model.specs.Ticket.{same_ticket, without, changed, AreApart}
use Rattle.moka_sync_model.specs.Entry.{Entry, entry_of, entry_at, updated}
use Rattle.moka_sync_model.specs.declared.operation.Read.{Read}
use Rattle.moka_sync_model.specs.declared.operation.Write.{Write}
use Rattle.moka_sync_model.specs.declared.operation.Write.TheVariants.{Upsert, Remove}
use Rattle.moka_sync_model.specs.declared.operation.Operation.{Operation}
use Rattle.moka_sync_model.specs.declared.operation.Operation.TheVariants.{Reading, Writing}
use Rattle.moka_sync_model.specs.Operation.{same_write, count_of, count_in, count_pending}
use Rattle.moka_sync_model.specs.Orders.{Orders, charge_of}
use Rattle.moka_sync_model.specs.Phase as phase
use Rattle.moka_sync_model.specs.declared.progress.Work.{Work}
use Rattle.moka_sync_model.specs.declared.progress.Candidate.{Candidate}
use Rattle.moka_sync_model.specs.Phase.{Phase, held, is_idle}
use Rattle.moka_sync_model.specs.CoreState.{CoreState, pending_of, with_pending, without_pending}
use Rattle.moka_common.specs.Settings.{keeps_writes}
use Rattle.moka_sync_model.specs.Turn.Plan.{Change, Becomes, Leaves}
use Rattle.moka_sync_model.specs.Consistent.{AreEntriesConsistent, IsTied, stay_of, no_stay, outstanding, Fits, IsAdmission}
use Rattle.moka_sync_model.proofs.ListLemmas.{count-append, count-cons}
use Rattle.moka_sync_model.proofs.TicketLemmas.{same_self, differ_sym}
use Rattle.moka_sync_model.proofs.OrdersLemmas.{ChangesNode-from, Reorders-none}
use Rattle.moka_sync_model.proofs.PlanLemmas.{StepAt, after_step, entry_of-fate, consistent_step}
use Rattle.moka_sync_model.proofs.StepLemmas.{consistent_quiet}
use Rattle.moka_sync_model.proofs.ApplyLemmas.{sound_by, tied_at}

-- ---- what is pending

pub count-with_pending : (w : Write) (pending : List (ℕ × Operation)) (caller : ℕ) (operation : Operation)
    → count_pending w (pending ++ (caller, operation) ∷ []) ≡ count_pending w pending + count_in w operation
count-with_pending w pending caller operation =
    ap (sum_by (count_in w)) (map-append (λ p. p.1) pending ((caller, operation) ∷ []))
    ∙ sum_by-append (count_in w) (values_of pending) (operation ∷ [])
    ∙ ap (λ n. count_pending w pending + n) (omega arith)

pub count-without_pending : (w : Write) (pending : List (ℕ × Operation)) (caller : ℕ) (operation : Operation)
    → lookup (eqb caller) pending ≡ Some operation
    → count_pending w (remove_entry (eqb caller) pending) + count_in w operation ≡ count_pending w pending
count-without_pending w pending caller operation is =
    ap (λ o. count_pending w (remove_entry (eqb caller) pending) + unwrap_or (option_map (count_in w) o) 0) (sym is)
    ∙ sum_by-remove_entry (count_in w) (eqb caller) pending

-- ---- the phase, where the logs grow

fits_admission : (limit : Option ℕ) (orders : Orders) (writes writes' : ℕ) (work : Work) (c : Candidate) (front : List Ticket)
    → writes ≤ writes' → IsAdmission limit orders writes work c front → IsAdmission limit orders writes' work c front
fits_admission limit orders writes writes' work c front more a =
    record { limited = a.limited; left = let left = a.left in omega (arith, left, more); outside = a.outside; begins = a.begins }

pub fits_longer : (limit : Option ℕ) (orders : Orders) (reads writes reads' writes' : ℕ) (p : Phase) → reads ≤ reads' → writes ≤ writes'
    → Fits limit orders reads writes p → Fits limit orders reads' writes' p
fits_longer limit orders reads writes reads' writes' (phase.Reads work) r w h = (h.0, omega (arith, h.1, r))
fits_longer limit orders reads writes reads' writes' (phase.ReadApply work read) r w h = omega (arith, h, r)
fits_longer limit orders reads writes reads' writes' (phase.Writes work) r w h = (h.0, omega (arith, h.1, w))
fits_longer limit orders reads writes reads' writes' (phase.Apply work write) r w h = omega (arith, h, w)
fits_longer limit orders reads writes reads' writes' (phase.Scan work c tally seen) r w h =
    fits_admission limit orders writes writes' work c _ w h
fits_longer limit orders reads writes reads' writes' (phase.Removing work c tally skipped left) r w h =
    (fits_admission limit orders writes writes' work c _ w h.0, h.1, h.2)
fits_longer limit orders reads writes reads' writes' (phase.Enter work c skipped) r w h =
    fits_admission limit orders writes writes' work c skipped w h
fits_longer limit orders reads writes reads' writes' other r w h = h

pub idle_is : (p : Phase) → is_idle p ≡ true → p ≡ phase.Idle
idle_is phase.Idle is = refl
idle_is other is = absurd (false≢true is)

-- ---- the entry of a key, by its ticket

module _ {K V : Type 0} where
  some_count : (p : Entry K V → Bool) (es : List (Entry K V)) (e : Entry K V) → find p es ≡ Some e → (q : Entry K V → Bool) → q e ≡ true
      → 1 ≤ count_by q es
  some_count p [] e found q passes = absurd (cc)
  some_count p (x ∷ es) e found q passes =
      elim (cases_Bool (p x)) [
        | inl first ↦
            let is : Some x ≡ Some e = rw first at found in
            let same : x ≡ e = cc in
            let here : q x ≡ true = ap q same ∙ passes in
            let one : count_by q (x ∷ es) ≡ 1 + count_by q es = count-cons q x es ∙ rw here in
            omega (arith, one)
        | inr later ↦ omega (arith, count-cons q x es, some_count p es e (rw later at found) q passes)
      ]

  -- it is the entry of its ticket
  pub entry_of-found : (p : Entry K V → Bool) (es : List (Entry K V)) (e : Entry K V) → AreApart (λ e. e.ticket) es → find p es ≡ Some e
      → entry_of e.ticket es ≡ Some e
  entry_of-found p [] e once found = absurd (cc)
  entry_of-found p (x ∷ es) e once found =
      elim (cases_Bool (p x)) [
        | inl first ↦
            let is : Some x ≡ Some e = rw first at found in
            let same : x ≡ e = cc in
            subst (λ y. entry_of y.ticket (x ∷ es) ≡ Some y) same (rw (same_self x.ticket))
        | inr later ↦
            let there : find p es ≡ Some e = rw later at found in
            let rest : AreApart (λ e. e.ticket) es =
            λ t. omega (arith, once t, count-cons (λ (e : Entry K V). same_ticket t e.ticket) x es) in
            elim (cases_Bool (same_ticket e.ticket x.ticket)) [
              | inl same ↦
                  let two : count_by (λ (y : Entry K V). same_ticket e.ticket y.ticket) (x ∷ es)
                  ≡ 1 + count_by (λ (y : Entry K V). same_ticket e.ticket y.ticket) es =
                  count-cons (λ (y : Entry K V). same_ticket e.ticket y.ticket) x es ∙ rw same in
                  absurd (omega
                  (arith, once e.ticket, two, some_count p es e there (λ y. same_ticket e.ticket y.ticket) (same_self e.ticket)))
              | inr differ ↦ rw differ (entry_of-found p es e rest there)
            ]
      ]

  module _ (eq : K → K → Bool) where
    -- no entry of a key that is not there
    pub none_of_key : (key : K) (es : List (Entry K V)) → entry_at eq key es ≡ None
        → AllByRecursion (λ y. eq key y ≡ false) (map (λ e. e.key) es)
    none_of_key key [] none = tt
    none_of_key key (x ∷ es) none =
        elim (cases_Bool (eq key x.key)) [
          | inl same ↦ let found : Some x ≡ None = rw same at none in absurd (cc)
          | inr differ ↦ (differ, none_of_key key es (rw differ at none))
        ]

module _ {K V S : Type 0} (keys : Keys K S) (laws : IsEquivalence keys.eq) (core : CoreState K V S)
    (good : AreEntriesConsistent keys core) where
  -- ---- operations are pushed, dropped or made, and the rest stays

  as_before : (pe : List (ℕ × Operation)) (rl : List Read) (wl : List Write)
      → ((w : Write) → count_pending w pe + count_of w wl ≡ count_pending w core.pending + count_of w core.write_log)
      → length core.read_log ≤ length rl → length core.write_log ≤ length wl
      → AreEntriesConsistent keys (record core { read_log = rl; write_log = wl; pending = pe })
  as_before pe rl wl counts r w =
      consistent_quiet keys core good core.valid_after rl wl pe core.maintenance (Reorders-none core.maintenance.orders)
      (λ x. ap (λ n. n + count_of x (held core.maintenance.phase)) (counts x))
      (fits_longer core.settings.policy.max_capacity core.maintenance.orders (length core.read_log) (length core.write_log) (length rl)
      (length wl) core.maintenance.phase r w good.fits)

  pub consistent_read_made : (caller : ℕ) (read : Read)
      → AreEntriesConsistent keys (record core { pending = with_pending caller (Reading read) core })
  consistent_read_made caller read =
      as_before (with_pending caller (Reading read) core) core.read_log core.write_log
      (λ w. ap (λ n. n + count_of w core.write_log) (count-with_pending w core.pending caller (Reading read) ∙ omega arith)) (omega arith)
      (omega arith)

  pub consistent_read_dropped : (caller : ℕ) (read : Read) → pending_of caller core ≡ Some (Reading read)
      → AreEntriesConsistent keys (record core { pending = without_pending caller core })
  consistent_read_dropped caller read is =
      as_before (without_pending caller core) core.read_log core.write_log
      (λ w. ap (λ n. n + count_of w core.write_log) (omega (arith, count-without_pending w core.pending caller (Reading read) is)))
      (omega arith) (omega arith)

  pub consistent_read_pushed : (caller : ℕ) (read : Read) → pending_of caller core ≡ Some (Reading read)
      → AreEntriesConsistent keys (record core { read_log = core.read_log ++ read ∷ []; pending = without_pending caller core })
  consistent_read_pushed caller read is =
      as_before (without_pending caller core) (core.read_log ++ read ∷ []) core.write_log
      (λ w. ap (λ n. n + count_of w core.write_log) (omega (arith, count-without_pending w core.pending caller (Reading read) is)))
      (omega (arith, length-append core.read_log (read ∷ []))) (omega arith)

  pub consistent_write_pushed : (caller : ℕ) (write : Write) → pending_of caller core ≡ Some (Writing write)
      → AreEntriesConsistent keys (record core { write_log = core.write_log ++ write ∷ []; pending = without_pending caller core })
  consistent_write_pushed caller write is =
      as_before (without_pending caller core) core.read_log (core.write_log ++ write ∷ []) counts (omega arith)
      (omega (arith, length-append core.write_log (write ∷ [])))
    where
      counts : (w : Write) → count_pending w (without_pending caller core) + count_of w (core.write_log ++ write ∷ [])
          ≡ count_pending w core.pending + count_of w core.write_log
      counts w =
          let one : count_of w (write ∷ []) ≡ count_in w (Writing write) = omega arith in
          omega (
            arith,
            count-append (same_write w) core.write_log (write ∷ []),
            one,
            count-without_pending w core.pending caller (Writing write) is,
          )

  pub consistent_beginning : (now : ℕ) → is_idle core.maintenance.phase ≡ true
      → AreEntriesConsistent keys (record core { maintenance = record core.maintenance { phase = phase.ReadCount 1; moment = now } })
  consistent_beginning now idle =
      consistent_quiet keys core good core.valid_after core.read_log core.write_log core.pending
      (record core.maintenance { phase = phase.ReadCount 1; moment = now }) (Reorders-none core.maintenance.orders)
      (λ w. ap (λ ws. count_pending w core.pending + count_of w core.write_log + count_of w ws)
      (sym (ap held (idle_is core.maintenance.phase idle)))) tt

  pub consistent_invalidation_of_all : (now : ℕ) → AreEntriesConsistent keys (record core { valid_after = now })
  consistent_invalidation_of_all now =
      consistent_quiet keys core good now core.read_log core.write_log core.pending core.maintenance
      (Reorders-none core.maintenance.orders) (λ w. refl) good.fits

  -- ---- an entry is updated, or leaves

  tied_updated : (value : V) (weight now : ℕ) (e : Entry K V) (c : Option ℕ) (u r : ℕ) → IsTied (Some e) c u r
      → IsTied (Some (updated value weight now e)) c (u + 1) r
  tied_updated value weight now e None u r h = (omega (arith, h.0), omega arith, h.2)
  tied_updated value weight now e (Some c) u r h = (omega (arith, h.0), inr (omega arith), h.2)

  tied_gone : (c : Option ℕ) (u r : ℕ) → IsTied {K = K} {V = V} None c u (r + 1)
  tied_gone None u r = tt
  tied_gone (Some c) u r = omega arith

  module _ (caller : ℕ) (e : Entry K V) (found : entry_of e.ticket core.entries ≡ Some e) where
    abbrev later : Change K V → Write → StepAt K V
    later change write =
        record {
          change = change;
          valid_after = core.valid_after;
          read_log = core.read_log;
          write_log = core.write_log;
          pending =
              with_pending caller (Writing write) core;
          maintenance = core.maintenance;
        }

    more : (w write : Write) (n : ℕ) → count_in w (Writing write) ≡ n
        → count_pending w (with_pending caller (Writing write) core) + count_of w core.write_log
        + count_of w (held core.maintenance.phase) ≡ outstanding core w + n
    more w write n is = omega (arith, count-with_pending w core.pending caller (Writing write), is)

    other_upsert : (s : Ticket) → same_ticket e.ticket s ≡ false → count_in (Upsert s) (Writing (Upsert e.ticket)) ≡ 0
    other_upsert s differ = rw (differ_sym e.ticket s differ)

    other_removal : (s : Ticket) → same_ticket e.ticket s ≡ false → count_in (Remove s) (Writing (Remove e.ticket)) ≡ 0
    other_removal s differ = rw (differ_sym e.ticket s differ)

    own : count_in (Upsert e.ticket) (Writing (Upsert e.ticket)) ≡ 1
    own = rw (same_self e.ticket)

    own_removal : count_in (Remove e.ticket) (Writing (Remove e.ticket)) ≡ 1
    own_removal = rw (same_self e.ticket)

    there : stay_of e.ticket core ≡ no_stay → ⊥
    there none = let gone : Some e ≡ None = sym found ∙ ap (λ s. s.entry) none in absurd (cc)

    pub consistent_update : (value : V) (weight now : ℕ)
        → AreEntriesConsistent keys
        (record core {
          entries = changed (λ x. x.ticket) e.ticket (updated value weight now) core.entries;
          pending =
              with_pending caller (Writing (Upsert e.ticket)) core;
        })
    consistent_update value weight now =
        let t = e.ticket in
        let o = core.maintenance.orders in
        let step = later (Becomes (updated value weight now)) (Upsert t) in
        let ups = more (Upsert t) (Upsert t) 1 own in
        let rems = more (Remove t) (Upsert t) 0 refl in
        consistent_step keys core t step good
        (record {
          change = record { ticket = λ e. refl; key = λ e. refl };
          orders = ChangesNode-from t o o (Reorders-none o);
          upserts = λ s d. more (Upsert s) (Upsert t) 0 (other_upsert s d) ∙ omega arith;
          removals = λ s d. more (Remove s) (Upsert t) 0 refl ∙ omega arith;
          stays = sound_by (keeps_writes core.settings.policy) (stay_of t (after_step core t step)) (Some (updated value weight now e))
              (charge_of t o)
              (entry_of-fate t (Becomes (updated value weight now)) (record { ticket = λ e. refl; key = λ e. refl }) core.entries
              ∙ ap (option_map (updated value weight now)) found) refl (good.stays t).written
              (subst (λ u. IsTied (Some (updated value weight now e)) (charge_of t o) u (outstanding (after_step core t step) (Remove t)))
              (sym ups)
              (subst (λ r. IsTied (Some (updated value weight now e)) (charge_of t o) (outstanding core (Upsert t) + 1) r)
              (sym (rems ∙ omega arith))
              (tied_updated value weight now e (charge_of t o) (outstanding core (Upsert t)) (outstanding core (Remove t))
              (tied_at keys core good t (Some e) (charge_of t o) (outstanding core (Upsert t)) found refl refl))));
          known = λ none. absurd (there none);
          fits = good.fits;
        })

    pub consistent_invalidation : AreEntriesConsistent keys
        (record core
        { entries = without (λ x. x.ticket) e.ticket core.entries; pending = with_pending caller (Writing (Remove e.ticket)) core })
    consistent_invalidation =
        let t = e.ticket in
        let o = core.maintenance.orders in
        let step = later Leaves (Remove t) in
        consistent_step keys core t step good
        (record {
          change = tt;
          orders = ChangesNode-from t o o (Reorders-none o);
          upserts = λ s d. more (Upsert s) (Remove t) 0 refl ∙ omega arith;
          removals = λ s d. more (Remove s) (Remove t) 0 (other_removal s d) ∙ omega arith;
          stays = sound_by (keeps_writes core.settings.policy) (stay_of t (after_step core t step)) None (charge_of t o)
              (entry_of-fate t Leaves tt core.entries) refl (good.stays t).written
              (subst (λ r. IsTied {K = K} {V = V} None (charge_of t o) (outstanding (after_step core t step) (Upsert t)) r)
              (sym (more (Remove t) (Remove t) 1 own_removal))
              (tied_gone (charge_of t o) (outstanding (after_step core t step) (Upsert t)) (outstanding core (Remove t))));
          known = λ none. absurd (there none);
          fits = good.fits;
        })
