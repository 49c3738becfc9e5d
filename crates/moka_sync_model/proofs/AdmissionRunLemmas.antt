-- The turns of an undisturbed admission, one after another.
use Rattle.std.proofs.Common.{◌≡◌, ◌⊎◌, ℕ, suc, zero, ◌+◌, Bool, true, false, cond, List, [], ◌∷◌, ◌++◌, map, length, drop, Option, Some}
use Rattle.std.proofs.Common.{None, refl, sym, ◌∙◌, ap, subst, arith, inl, inr, append_assoc}
use Rattle.std.specs.List.{AllByRecursion}
use Rattle.std.specs.Option.{option_map, option_map_or, is_some, IsSome}
use Rattle.std.proofs.lemmas.Bool.{cases_Bool, false≢true}
use Rattle.std.proofs.lemmas.List.{append-nil, length-map}
use Rattle.moka_sync_model.specs.declared.ticket.Ticket.{Ticket}
use Rattle.moka_sync_model.specs.Ticket.{same_ticket, without}
use Rattle.moka_sync_model.specs.Entry.{Entry, entry_of}
use Rattle.moka_sync_model.specs.Orders.{Node, without_node, all_used}
use Rattle.moka_sync_model.specs.Phase as phase
use Rattle.moka_sync_model.specs.declared.progress.Work.{Work}
use Rattle.moka_sync_model.specs.declared.progress.Candidate.{Candidate}
use Rattle.moka_sync_model.specs.declared.progress.Tally.{Tally}
use Rattle.moka_sync_model.specs.Phase.{Seen}
use Rattle.moka_sync_model.specs.CoreState.{CoreState}
use Rattle.moka_common.specs.Settings.{keeps_writes}
use Rattle.moka_sync_model.specs.Turn.Plan.{after_plan, after_plan_at, writes_or_on}
use Rattle.moka_sync_model.specs.Turn.Admission.{is_decided, is_admitted, next_if, removing_or_enter, absent_of, after_finding, after_victim}
use Rattle.moka_sync_model.specs.Turn.Admission.{after_entering, after_verdict, after_scan}
use Rattle.moka_sync_model.specs.Turn.Turn.{after_turn}
use Rattle.moka_sync_model.specs.Undisturbed.{Comes, weight_of, estimate_of, at_phase, after_victims, after_entry_of, after_decision}
use Rattle.moka_sync_model.proofs.TicketLemmas.{of_ticket-without_other}
use Rattle.moka_sync_model.proofs.UndisturbedLemmas.{chosen_from, with_found, chosen_here, chosen_more}

-- a node that was seen present
abbrev pub seen_present : Node → Seen
seen_present n = record { ticket = n.ticket; is_present = true }

none_absent : (ns : List Node) → absent_of (map seen_present ns) ≡ []
none_absent [] = refl
none_absent (n ∷ ns) = none_absent ns

map-snoc : (ns : List Node) (n : Node) → map seen_present (ns ++ n ∷ []) ≡ map seen_present ns ++ seen_present n ∷ []
map-snoc [] n = refl
map-snoc (x ∷ ns) n = ap (λ ss. seen_present x ∷ ss) (map-snoc ns n)

drop-more : {X : Type 0} (k : ℕ) (xs : List X) (x : X) (rest : List X) → drop k xs ≡ x ∷ rest → drop (k + 1) xs ≡ rest
drop-more k [] x rest is = absurd (none k is)
  where
    none : (k : ℕ) → drop k [] ≡ x ∷ rest → ⊥
    none zero is = cc is
    none (suc k) is = cc is
drop-more zero (y ∷ xs) x rest is = let same : xs ≡ rest = cc in same
drop-more (suc k) (y ∷ xs) x rest is =
    let one : suc k + 1 ≡ suc (k + 1) = omega arith in
    ap (λ j. drop j (y ∷ xs)) one ∙ drop-more k xs x rest is

module _ {K V S : Type 0} where
  -- one turn, and then the others
  pub one_more : (old new : CoreState K V S) → Comes (after_turn false old) new → Comes old new
  one_more old new comes = (suc comes.0, comes.1)

  -- ---- the removals and the entering

  module _ (work : Work) (c : Candidate) (tally : Tally) (e : Entry K V) where
    enters : (core : CoreState K V S) → entry_of c.ticket core.entries ≡ Some e
        → Comes (at_phase (phase.Enter work c []) core) (after_entry_of work c e.weight core)
    enters core found =
        one_more (at_phase (phase.Enter work c []) core) (after_entry_of work c e.weight core) (
          zero,
          ap
              (λ o. after_plan_at c.ticket
              (λ f. after_entering (keeps_writes core.settings.policy) work c [] (record core.maintenance { phase = phase.Enter work c [] })
              o) core) found,
        )

    -- the tickets of these nodes are apart, none is the candidate's, and their entries stand
    abbrev pub StandApart : CoreState K V S → List Node → Type 0
    StandApart core [] = Unit {0}
    StandApart core (n ∷ ns) =
        IsSome (entry_of n.ticket core.entries) × (same_ticket n.ticket c.ticket ≡ false)
        × AllByRecursion (λ x. same_ticket n.ticket x.ticket ≡ false) ns × StandApart core ns

    abbrev without_one : Ticket → CoreState K V S → CoreState K V S
    without_one t core =
        record core {
          entries = without (λ e. e.ticket) t core.entries;
          maintenance =
              record core.maintenance { orders = without_node t core.maintenance.orders };
        }

    stand_apart-without : (core : CoreState K V S) (t : Ticket) (ns : List Node) → AllByRecursion (λ x. same_ticket t x.ticket ≡ false) ns
        → StandApart core ns → StandApart (without_one t core) ns
    stand_apart-without core t [] others apart = tt
    stand_apart-without core t (n ∷ ns) others apart = (
      subst IsSome (sym (of_ticket-without_other (λ (e : Entry K V). e.ticket) t n.ticket others.0 core.entries)) apart.0,
      apart.1,
      apart.2,
      stand_apart-without core t ns others.1 apart.3,
    )

    removes : (ns : List Node) (core : CoreState K V S) → entry_of c.ticket core.entries ≡ Some e → StandApart core ns
        → Comes (at_phase (removing_or_enter work c tally [] (map seen_present ns)) core)
        (after_entry_of work c e.weight (after_victims (map (λ n. n.ticket) ns) core))
    removes [] core found apart = enters core found
    removes (n ∷ ns) core found apart =
        by (entry_of n.ticket core.entries) refl apart.0
        (removes ns (without_one n.ticket core)
        (of_ticket-without_other (λ (x : Entry K V). x.ticket) n.ticket c.ticket apart.1 core.entries ∙ found)
        (stand_apart-without core n.ticket ns apart.2 apart.3))
      where
        by : (o : Option (Entry K V)) → entry_of n.ticket core.entries ≡ o → IsSome o
            → Comes (at_phase (removing_or_enter work c tally [] (map seen_present ns)) (without_one n.ticket core))
            (after_entry_of work c e.weight (after_victims (map (λ n. n.ticket) (n ∷ ns)) core))
            → Comes (at_phase (phase.Removing work c tally [] (map seen_present (n ∷ ns))) core)
            (after_entry_of work c e.weight (after_victims (map (λ n. n.ticket) (n ∷ ns)) core))
        by None is some rest = absurd (false≢true some)
        by (Some x) is some rest =
            let here : CoreState K V S = at_phase (phase.Removing work c tally [] (map seen_present (n ∷ ns))) core in
            let final : CoreState K V S = after_entry_of work c e.weight (after_victims (map (λ n. n.ticket) (n ∷ ns)) core) in
            let turn : after_turn false here
            ≡ at_phase (removing_or_enter work c tally [] (map seen_present ns)) (without_one n.ticket core) =
            ap (λ o. after_plan_at n.ticket (λ f. after_victim work c tally [] (seen_present n) (map seen_present ns) here.maintenance o)
            here) is in
            one_more here final (subst (λ new. Comes new final) (sym turn) rest)

  -- ---- the scan

  module _ (work : Work) (c : Candidate) (e : Entry K V) (core : CoreState K V S) (found : entry_of c.ticket core.entries ≡ Some e) where
    abbrev pub scanning : Tally → List Node → CoreState K V S
    scanning tally done = at_phase (phase.Scan work c tally (map seen_present done)) core

    -- the end, where these nodes were seen before
    abbrev pub final : List Node → Option (List Node) → CoreState K V S
    final done None = after_decision work c e.weight None core
    final done (Some front) = after_decision work c e.weight (Some (done ++ front)) core

    apart-front : (xs ys : List Node) → (P : Node → Type 0) → AllByRecursion P (xs ++ ys) → AllByRecursion P xs
    apart-front [] ys P all = tt
    apart-front (x ∷ xs) ys P all = (all.0, apart-front xs ys P all.1)

    stand-front : (tally : Tally) (xs ys : List Node) → StandApart work c tally e core (xs ++ ys) → StandApart work c tally e core xs
    stand-front tally [] ys all = tt
    stand-front tally (x ∷ xs) ys all =
        (all.0, all.1, apart-front xs ys (λ z. same_ticket x.ticket z.ticket ≡ false) all.2, stand-front tally xs ys all.3)

    stand-at : (tally : Tally) (xs ys : List Node) (n : Node) → StandApart work c tally e core (xs ++ n ∷ ys)
        → IsSome (entry_of n.ticket core.entries)
    stand-at tally [] ys n all = all.0
    stand-at tally (x ∷ xs) ys n all = stand-at tally xs ys n all.3

    drop-past : (xs ys : List Node) → drop (length xs) (xs ++ ys) ≡ ys
    drop-past [] ys = refl
    drop-past (x ∷ xs) ys = drop-past xs ys

    drop-seen : (done rest : List Node) → core.maintenance.orders.access ≡ done ++ rest
        → drop (length (map seen_present done)) core.maintenance.orders.access ≡ rest
    drop-seen done rest is = ap (λ k. drop k core.maintenance.orders.access) (length-map done seen_present) ∙ ap (drop (length done)) is
        ∙ drop-past done rest

    -- the turn at a scan, by what it looks at
    turn_is : (tally : Tally) (done rest : List Node) (over : Bool) → core.maintenance.orders.access ≡ done ++ rest
        → is_decided c tally ≡ over
        → after_turn false (scanning tally done)
        ≡ after_plan (after_scan work c tally (map seen_present done) (next_if over rest) (scanning tally done).maintenance)
        (scanning tally done)
    turn_is tally done rest over is decided =
        ap (λ b.
        after_plan
        (after_scan work c tally (map seen_present done)
        (next_if b (drop (length (map seen_present done)) core.maintenance.orders.access)) (scanning tally done).maintenance)
        (scanning tally done)) decided
        ∙ ap (λ ns. after_plan (after_scan work c tally (map seen_present done) (next_if over ns) (scanning tally done).maintenance)
        (scanning tally done)) (drop-seen done rest is)

    -- the scan has ended
    verdict_comes : (tally : Tally) (done : List Node) → StandApart work c tally e core done → (admitted : Bool)
        → Comes (after_plan (after_verdict work c tally (map seen_present done) admitted (scanning tally done).maintenance)
        (scanning tally done)) (final done (cond admitted (Some []) None))
    verdict_comes tally done apart true =
        subst (λ ns.
        Comes (at_phase (removing_or_enter work c tally [] (map seen_present done)) core)
        (after_entry_of work c e.weight (after_victims (map (λ n. n.ticket) ns) core))) (sym (append-nil done))
        (removes work c tally e done core found apart)
    verdict_comes tally done apart false = (
      zero,
      ap
          (λ ts. record core {
            entries = without (λ (x : Entry K V). x.ticket) c.ticket core.entries;
            maintenance =
                record core.maintenance { orders = all_used ts core.maintenance.orders; phase = writes_or_on work };
          }) (none_absent done),
    )

    abbrev pub chosen_now : Tally → List Node → Option (List Node)
    chosen_now tally rest = chosen_from (weight_of core) (estimate_of core) c tally rest

    ended : (tally : Tally) (done rest : List Node) (over : Bool) → core.maintenance.orders.access ≡ done ++ rest
        → is_decided c tally ≡ over → next_if over rest ≡ None → (is_decided c tally ≡ true) ⊎ (rest ≡ []) → tally.absent ≡ 0
        → StandApart work c tally e core done → Comes (scanning tally done) (final done (chosen_now tally rest))
    ended tally done rest over is decided ends why present apart =
        let turn : after_turn false (scanning tally done)
        ≡ after_plan (after_verdict work c tally (map seen_present done) (is_admitted c tally) (scanning tally done).maintenance)
        (scanning tally done) =
        turn_is tally done rest over is decided
        ∙ ap (λ o.
        after_plan (after_scan work c tally (map seen_present done) o (scanning tally done).maintenance) (scanning tally done)) ends
        in
        let goal : CoreState K V S = final done (chosen_now tally rest) in
        one_more (scanning tally done) goal
        (subst (λ new. Comes new goal) (sym turn)
        (subst (λ o.
        Comes (after_plan (after_verdict work c tally (map seen_present done) (is_admitted c tally) (scanning tally done).maintenance)
        (scanning tally done)) (final done o))
        (sym (chosen_here (weight_of core) (estimate_of core) c tally rest why present))
        (verdict_comes tally done apart (is_admitted c tally))))

    -- a node that stands is found
    found_is : (tally : Tally) (n : Node) (o : Option (Entry K V)) → IsSome o
        → after_finding core.maintenance.sketch n.ticket tally o
        ≡ record {
          weight = tally.weight + option_map_or (λ (x : Entry K V). x.weight) o 0;
          estimate =
              tally.estimate + estimate_of core n;
          absent = 0;
        }
    found_is tally n None some = absurd (false≢true some)
    found_is tally n (Some x) some = refl

    final-more : (done : List Node) (n : Node) (o : Option (List Node)) → final (done ++ n ∷ []) o ≡ final done (option_map (λ f. n ∷ f) o)
    final-more done n None = refl
    final-more done n (Some front) = ap (λ ns. after_decision work c e.weight (Some ns) core) (append_assoc done (n ∷ []) front)

    goes_on : (tally : Tally) (done : List Node) (n : Node) (rest : List Node) → core.maintenance.orders.access ≡ done ++ n ∷ rest
        → is_decided c tally ≡ false → IsSome (entry_of n.ticket core.entries)
        → Comes (scanning (with_found (weight_of core) (estimate_of core) c tally n) (done ++ n ∷ []))
        (final (done ++ n ∷ []) (chosen_now (with_found (weight_of core) (estimate_of core) c tally n) rest))
        → Comes (scanning tally done) (final done (chosen_now tally (n ∷ rest)))
    goes_on tally done n rest is undecided some later =
        let next : Tally = with_found (weight_of core) (estimate_of core) c tally n in
        let looked : after_turn false (scanning tally done) ≡ scanning next (done ++ n ∷ []) =
        turn_is tally done (n ∷ rest) false is undecided
        ∙ ap (λ x.
        at_phase
        (phase.Scan work c x
        (map seen_present done ++ record { ticket = n.ticket; is_present = is_some (entry_of n.ticket core.entries) } ∷ [])) core)
        (found_is tally n (entry_of n.ticket core.entries) some)
        ∙ ap (λ b. at_phase (phase.Scan work c next (map seen_present done ++ record { ticket = n.ticket; is_present = b } ∷ [])) core) some
        ∙ ap (λ ss. at_phase (phase.Scan work c next ss) core) (sym (map-snoc done n)) in
        let goal : CoreState K V S = final done (chosen_now tally (n ∷ rest)) in
        let same : final (done ++ n ∷ []) (chosen_now next rest) ≡ goal =
        final-more done n (chosen_now next rest)
        ∙ ap (final done) (sym (chosen_more (weight_of core) (estimate_of core) c tally n rest undecided)) in
        one_more (scanning tally done) goal
        (subst (λ new. Comes new goal) (sym looked) (subst (Comes (scanning next (done ++ n ∷ []))) same later))

    pub scans : (rest : List Node) (tally : Tally) (done : List Node) → core.maintenance.orders.access ≡ done ++ rest → tally.absent ≡ 0
        → StandApart work c tally e core (done ++ rest)
        → Comes (scanning tally done) (final done (chosen_now tally rest))
    scans [] tally done is present apart = by (is_decided c tally) refl
      where
        by : (over : Bool) → is_decided c tally ≡ over → Comes (scanning tally done) (final done (chosen_now tally []))
        by true decided = ended tally done [] true is decided refl (inr refl) present (stand-front tally done [] apart)
        by false decided = ended tally done [] false is decided refl (inr refl) present (stand-front tally done [] apart)
    scans (n ∷ rest) tally done is present apart =
        elim (cases_Bool (is_decided c tally)) [
          | inl decided ↦ ended tally done (n ∷ rest) true is decided refl (inl decided) present (stand-front tally done (n ∷ rest) apart)
          | inr undecided ↦
              goes_on tally done n rest is undecided (stand-at tally done rest n apart)
              (scans rest (with_found (weight_of core) (estimate_of core) c tally n) (done ++ n ∷ [])
              (is ∙ sym (append_assoc done (n ∷ []) rest)) refl
              (subst (StandApart work c (with_found (weight_of core) (estimate_of core) c tally n) e core)
              (sym (append_assoc done (n ∷ []) rest)) apart))
        ]
