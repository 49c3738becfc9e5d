-- What a turn does to the entries: at most one leaves, and none changes its key, its ticket, its value or its weight.
use Rattle.std.proofs.Common.{◌≡◌, ℕ, ◌+◌, Bool, true, false, not, cond, List, [], ◌∷◌, map, Option, Some, None, refl, sym, ◌∙◌, ap, inl}
use Rattle.std.proofs.Common.{inr, ltb}
use Rattle.std.specs.Cmp.{IsEquivalence}
use Rattle.std.specs.List.{find, filter, IsDistinct, AllByRecursion}
use Rattle.std.specs.Option.{option_map}
use Rattle.std.proofs.lemmas.Bool.{cases_Bool, cond_both}
use Rattle.std.proofs.lemmas.Map.Keys.{IsDistinct-head, IsDistinct-tail}
use Rattle.moka_common.specs.Admission.{is_within}
use Rattle.moka_sync_model.specs.declared.ticket.Ticket.{Ticket}
use Rattle.moka_sync_model.specs.Ticket.{same_ticket}
use Rattle.moka_sync_model.specs.Entry.{Entry, entry_at}
use Rattle.moka_sync_model.specs.declared.operation.Read.TheVariants.{Hit, Miss}
use Rattle.moka_sync_model.specs.declared.operation.Write.TheVariants.{Upsert, Remove}
use Rattle.moka_sync_model.specs.Orders.{Node, Orders, charge_of, charged_weight}
use Rattle.moka_sync_model.specs.Phase as phase
use Rattle.moka_sync_model.specs.declared.progress.Work.{Work}
use Rattle.moka_sync_model.specs.declared.progress.Candidate.{Candidate}
use Rattle.moka_sync_model.specs.declared.progress.Tally.{Tally}
use Rattle.moka_sync_model.specs.Phase.{Phase, Seen}
use Rattle.moka_sync_model.specs.CoreState.{CoreState, Maintenance}
use Rattle.moka_common.specs.Settings.{Settings, keeps_writes}
use Rattle.moka_sync_model.specs.Turn.Plan.{Change, Stays, Becomes, Leaves, Outcome, after_change, Plan, Alone, AtReads, AtWrites, AtEntry}
use Rattle.moka_sync_model.specs.Turn.Plan.{after_plan}
use Rattle.moka_sync_model.specs.Turn.Apply.{after_upsert, after_present_upsert}
use Rattle.moka_sync_model.specs.Turn.Admission.{is_admitted, next_seen, after_verdict, after_scan, after_removing, after_victim}
use Rattle.moka_sync_model.specs.Turn.Admission.{after_entering}
use Rattle.moka_sync_model.specs.Turn.Expiry.{after_front, after_eviction, after_pass, write_front, access_front, eviction_front}
use Rattle.moka_sync_model.specs.Turn.Turn.{turn_at}
use Rattle.moka_sync_model.proofs.ListLemmas.{find-changed}
use Rattle.moka_sync_model.proofs.PlanLemmas.{KeepsNames}

module _ {K V : Type 0} where
  pub record KeepsAll (change : Entry K V → Entry K V) : Type 0 where
    pub names : KeepsNames change
    pub value : (e : Entry K V) → (change e).value ≡ e.value
    pub weight : (e : Entry K V) → (change e).weight ≡ e.weight

  abbrev pub IsMild : Change K V → Type 0
  IsMild Stays = Unit {0}
  IsMild (Becomes change) = KeepsAll change
  IsMild Leaves = Unit {0}

  abbrev pub IsMildLook : Plan K V → Type 0
  IsMildLook (Alone m) = Unit {0}
  IsMildLook (AtReads looks) = Unit {0}
  IsMildLook (AtWrites looks) = Unit {0}
  IsMildLook (AtEntry t looks) = (found : Option (Entry K V)) → IsMild (looks found).change

  keeps_all : (change : Entry K V → Entry K V) → ((e : Entry K V) → (change e).ticket ≡ e.ticket)
      → ((e : Entry K V) → (change e).key ≡ e.key) → ((e : Entry K V) → (change e).value ≡ e.value)
      → ((e : Entry K V) → (change e).weight ≡ e.weight) → KeepsAll change
  keeps_all change ticket key value weight = record { names = record { ticket = ticket; key = key }; value = value; weight = weight }

module _ (K V : Type 0) where
  abbrev IsMildEnd : Outcome K V → Type 0
  IsMildEnd end = IsMild end.change

  mild_front : (is_over : Entry K V → Bool) (sends : Ticket → Orders → Orders) (more done : Phase) (m : Maintenance)
      (front : Option Ticket) → IsMildLook {K = K} {V = V} (after_pass front done (after_front is_over sends more done) m)
  mild_front is_over sends more done m None = tt
  mild_front is_over sends more done m (Some t) = by
    where
      by : (found : Option (Entry K V)) → IsMild (after_front is_over sends more done t m found).change
      by None = tt
      by (Some e) = cond_both (is_over e) _ _ IsMildEnd (λ h. tt) (λ h. tt)

  mild_eviction : (turns : ℕ) (m : Maintenance) (front : Option Ticket)
      → IsMildLook {K = K} {V = V} (after_pass front (phase.Publish turns) (after_eviction turns) m)
  mild_eviction turns m None = tt
  mild_eviction turns m (Some t) = by
    where
      by : (found : Option (Entry K V)) → IsMild (after_eviction turns t m found).change
      by None = tt
      by (Some e) = cond_both (ltb 0 e.outstanding) _ _ IsMildEnd (λ h. tt) (λ h. tt)

  mild_verdict : (work : Work) (c : Candidate) (tally : Tally) (seen : List Seen) (m : Maintenance) (admitted : Bool)
      → IsMildLook {K = K} {V = V} (after_verdict work c tally seen admitted m)
  mild_verdict work c tally seen m true = tt
  mild_verdict work c tally seen m false = λ found. tt

  mild_scan : (work : Work) (c : Candidate) (tally : Tally) (seen : List Seen) (m : Maintenance) (next : Option Node)
      → IsMildLook {K = K} {V = V} (after_scan work c tally seen next m)
  mild_scan work c tally seen m None = mild_verdict work c tally seen m (is_admitted c tally)
  mild_scan work c tally seen m (Some n) = λ found. tt

  mild_removing : (work : Work) (c : Candidate) (tally : Tally) (skipped : List Ticket) (m : Maintenance) (left : List Seen)
      → IsMildLook {K = K} {V = V} (after_removing work c tally skipped left m)
  mild_removing work c tally skipped m [] = tt
  mild_removing work c tally skipped m (s ∷ left) = cond_both s.is_present _ _ (IsMildLook) (λ h found. by found) (λ h. tt)
    where
      by : (found : Option (Entry K V)) → IsMild (after_victim work c tally skipped s left m found).change
      by None = tt
      by (Some e) = tt

  module _ {S : Type 0} (settings : Settings S) (valid_after : ℕ) where
    mild_upsert : (refused : Bool) (work : Work) (t : Ticket) (m : Maintenance) (e : Entry K V) (c : Option ℕ)
        → IsMild (after_present_upsert settings refused work t e c m).change
    mild_upsert refused work t m e (Some c) = keeps_all _ (λ e. refl) (λ e. refl) (λ e. refl) (λ e. refl)
    mild_upsert refused work t m e None =
        cond_both refused _ _ IsMildEnd (λ h. tt) (λ h.
        cond_both (is_within settings.policy.max_capacity (charged_weight m.orders + e.weight)) _ _ IsMildEnd
        (λ h. keeps_all _ (λ e. refl) (λ e. refl) (λ e. refl) (λ e. refl)) (λ h.
        cond_both (is_within settings.policy.max_capacity e.weight) _ _ IsMildEnd (λ h. tt) (λ h. tt)))

    mild_write : (refused : Bool) (work : Work) (t : Ticket) (m : Maintenance) (found : Option (Entry K V))
        → IsMild (after_upsert settings refused work t m found).change
    mild_write refused work t m None = tt
    mild_write refused work t m (Some e) = mild_upsert refused work t m e (charge_of t m.orders)

    mild_entering : (work : Work) (c : Candidate) (skipped : List Ticket) (m : Maintenance) (found : Option (Entry K V))
        → IsMild (after_entering (keeps_writes settings.policy) work c skipped m found).change
    mild_entering work c skipped m None = tt
    mild_entering work c skipped m (Some e) = keeps_all _ (λ e. refl) (λ e. refl) (λ e. refl) (λ e. refl)

    -- every turn is mild
    pub mild_turn : (refused : Bool) (p : Phase) (m : Maintenance) → IsMildLook {K = K} {V = V} (turn_at settings valid_after refused p m)
    mild_turn refused phase.Idle m = tt
    mild_turn refused (phase.ReadCount round) m = tt
    mild_turn refused (phase.Reads work) m = tt
    mild_turn refused (phase.ReadApply work (Hit t moment)) m = λ found. keeps_all _ (λ e. refl) (λ e. refl) (λ e. refl) (λ e. refl)
    mild_turn refused (phase.ReadApply work (Miss hash)) m = tt
    mild_turn refused (phase.WriteCount round) m = tt
    mild_turn refused (phase.Writes work) m = tt
    mild_turn refused (phase.Apply work (Upsert t)) m = mild_write refused work t m
    mild_turn refused (phase.Apply work (Remove t)) m = tt
    mild_turn refused (phase.Scan work c tally seen) m = mild_scan work c tally seen m (next_seen c tally seen m.orders)
    mild_turn refused (phase.Removing work c tally skipped left) m = mild_removing work c tally skipped m left
    mild_turn refused (phase.Enter work c skipped) m = mild_entering work c skipped m
    mild_turn refused (phase.Sketch round) m = tt
    mild_turn refused (phase.MoreReads round) m = tt
    mild_turn refused (phase.MoreWrites round) m = tt
    mild_turn refused (phase.ExpireWrite turns) m = mild_front _ _ _ _ m (write_front settings turns m.orders)
    mild_turn refused (phase.ExpireAccess turns) m = mild_front _ _ _ _ m (access_front settings valid_after turns m.orders)
    mild_turn refused (phase.Evict turns) m = mild_eviction turns m (eviction_front settings turns m.orders)
    mild_turn refused (phase.Publish turns) m = tt

module _ {K V : Type 0} where
  module _ (eq : K → K → Bool) (laws : IsEquivalence eq) where
    -- what is found after some have left was found before
    pub found_before : (q : Entry K V → Bool) (key : K) (es : List (Entry K V)) (e : Entry K V) → IsDistinct eq (map (λ e. e.key) es)
        → entry_at eq key (filter q es) ≡ Some e → entry_at eq key es ≡ Some e
    found_before q key [] e once found = absurd (cc)
    found_before q key (x ∷ es) e once found =
        elim (cases_Bool (q x)) [
          | inl kept ↦
              elim (cases_Bool (eq key x.key)) [
                | inl here ↦ rw here (rw (kept, here) at found)
                | inr there ↦
                    rw there (found_before q key es e (IsDistinct-tail eq x.key (map (λ e. e.key) es) once) (rw (kept, there) at found))
              ]
          | inr gone ↦
              elim (cases_Bool (eq key x.key)) [
                | inl here ↦ absurd (apart es e (IsDistinct-head eq x.key (map (λ e. e.key) es) once) here (rw gone at found))
                | inr there ↦ rw there (found_before q key es e (IsDistinct-tail eq x.key (map (λ e. e.key) es) once) (rw gone at found))
              ]
        ]
      where
        apart : (ys : List (Entry K V)) (e : Entry K V) → AllByRecursion (λ k. eq x.key k ≡ false) (map (λ e. e.key) ys)
            → eq key x.key ≡ true → entry_at eq key (filter q ys) ≡ Some e → ⊥
        apart [] e differ here found = cc found
        apart (y ∷ ys) e differ here found =
            let other : eq key y.key ≡ false = laws.congr key x.key y.key here ∙ differ.0 in
            elim (cases_Bool (q y)) [
              | inl kept ↦ apart ys e differ.1 here (rw (kept, other) at found)
              | inr gone ↦ apart ys e differ.1 here (rw gone at found)
            ]

    -- an entry that stands after a mild change stood before, with its value and its weight
    pub stood_before : (t : Ticket) (change : Change K V) (es : List (Entry K V)) (key : K) (e : Entry K V) → IsMild change
        → IsDistinct eq (map (λ e. e.key) es) → entry_at eq key (after_change t change es) ≡ Some e
        → (was : Entry K V) × (entry_at eq key es ≡ Some was) × (was.value ≡ e.value) × (was.weight ≡ e.weight)
    stood_before t Stays es key e mild once found = (e, found, refl, refl)
    stood_before t (Becomes change) es key e mild once found =
        by (entry_at eq key es) refl
        (sym (find-changed (λ e. eq key e.key) (λ e. same_ticket t e.ticket) change (λ e. ap (eq key) (mild.names.key e)) es) ∙ found)
      where
        by : (o : Option (Entry K V)) → entry_at eq key es ≡ o
            → option_map (λ e. cond (same_ticket t e.ticket) (change e) e) (entry_at eq key es) ≡ Some e
            → (was : Entry K V) × (entry_at eq key es ≡ Some was) × (was.value ≡ e.value) × (was.weight ≡ e.weight)
        by None is now = let both : None ≡ Some e = ap (option_map (λ e. cond (same_ticket t e.ticket) (change e) e)) (sym is)
            ∙ now in absurd (cc)
        by (Some was) is now =
            let both : Some (cond (same_ticket t was.ticket) (change was) was) ≡ Some e =
            ap (option_map (λ e. cond (same_ticket t e.ticket) (change e) e)) (sym is) ∙ now in
            let same : cond (same_ticket t was.ticket) (change was) was ≡ e = cc in (
              was,
              is,
              kept (same_ticket t was.ticket) ∙ ap (λ (x : Entry K V). x.value) same,
              as_heavy (same_ticket t was.ticket)
                  ∙ ap (λ (x : Entry K V). x.weight) same,
            )
          where
            kept : (b : Bool) → was.value ≡ (cond b (change was) was).value
            kept true = sym (mild.value was)
            kept false = refl

            as_heavy : (b : Bool) → was.weight ≡ (cond b (change was) was).weight
            as_heavy true = sym (mild.weight was)
            as_heavy false = refl
    stood_before t Leaves es key e mild once found = (e, found_before (λ x. not (same_ticket t x.ticket)) key es e once found, refl, refl)

    -- the same for a look
    pub stood_before_look : {S : Type 0} (look : Plan K V) (core : CoreState K V S) (key : K) (e : Entry K V) → IsMildLook look
        → IsDistinct eq (map (λ e. e.key) core.entries) → entry_at eq key (after_plan look core).entries ≡ Some e
        → (was : Entry K V) × (entry_at eq key core.entries ≡ Some was) × (was.value ≡ e.value) × (was.weight ≡ e.weight)
    stood_before_look (Alone m) core key e mild once found = (e, found, refl, refl)
    stood_before_look (AtReads looks) core key e mild once found = (e, found, refl, refl)
    stood_before_look (AtWrites looks) core key e mild once found = (e, found, refl, refl)
    stood_before_look (AtEntry t looks) core key e mild once found =
        stood_before t (looks (of core.entries)).change core.entries key e (mild (of core.entries)) once found
      where
        of : List (Entry K V) → Option (Entry K V)
        of es = find (λ x. same_ticket t x.ticket) es
