-- Each entry's weight is an answer of the weigher, for an equal key and its value.
use Rattle.std.proofs.Common.{[], ◌∷◌, subst, ◌≡◌, ℕ, Bool, true, false, not, cond, ◌++◌, Option, Some, None, refl, sym, ◌∙◌, ap, subst}
use Rattle.std.proofs.Common.{inl, inr}
use Rattle.std.specs.Cmp.{IsEquivalence}
use Rattle.std.specs.Option.{option_map}
use Rattle.std.proofs.lemmas.Bool.{cases_Bool}
use Rattle.moka_common.specs.Keys.{Keys}
use Rattle.moka_sync_model.proofs.ConsistentLemmas.{consistent_event}
use Rattle.moka_sync_model.specs.Ticket.{same_ticket, changed}
use Rattle.moka_sync_model.specs.Entry.{Entry, entry_at, updated}
use Rattle.moka_sync_model.specs.CoreState.{CoreState}
use Rattle.moka_sync_model.specs.Turn.Turn.{turn_at}
use Rattle.moka_sync_model.specs.declared.event.Event.{Event}
use Rattle.moka_sync_model.specs.Reply.{Reply}
use Rattle.moka_sync_model.specs.MapStep.{AddsEntry, fresh_entry}
use Rattle.moka_sync_model.specs.declared.event.Event.TheVariants.{Insert}
use Rattle.moka_sync_model.specs.Consistent.{IsConsistent}
use Rattle.moka_sync_model.specs.Run.{IsWeighed}
use Rattle.moka_sync_model.specs.Weights.{AreEntriesWeighed, KeepsWeighed, RunsKeepWeighed}
use Rattle.moka_sync_model.proofs.ListLemmas.{find-changed}
use Rattle.moka_sync_model.proofs.AdditionLemmas.{find-added, find-added_other}
use Rattle.moka_sync_model.proofs.MildLemmas.{found_before, stood_before_look, mild_turn}
use Rattle.moka_sync_model.proofs.ValueLemmas.{same_key, other_ticket}
use Rattle.moka_sync_model.proofs.StepForms.{StepForm, Same, Queued, Updated, Added, Removed, WasAbsent, Invalidated, Begun, Turned}
use Rattle.moka_sync_model.proofs.StepForms.{Queues, Made, Dropped, ReadPushed, WritePushed, step_forms}

module _ {K V S : Type 0} (keys : Keys K S) (weighs : K → V → ℕ → Type 0) (laws : IsEquivalence keys.eq) where
  module _ (old new : CoreState K V S) (good : IsConsistent keys old) (weighed : AreEntriesWeighed keys weighs old) where
    as_before : (meant : CoreState K V S) → new ≡ meant → meant.entries ≡ old.entries → AreEntriesWeighed keys weighs new
    as_before meant is same key e found =
        weighed key e (ap (entry_at keys.eq key) (sym same) ∙ ap (λ c. entry_at keys.eq key c.entries) (sym is) ∙ found)

    -- one entry's value and weight are replaced
    replaced : (k : K) (value : V) (weight now : ℕ) (x : Entry K V) → weighs k value weight → entry_at keys.eq k old.entries ≡ Some x
        → new.entries ≡ changed (λ e. e.ticket) x.ticket (updated value weight now) old.entries → AreEntriesWeighed keys weighs new
    replaced k value weight now x answer here is key e found =
        by (entry_at keys.eq key old.entries) refl
        (sym (find-changed (λ y. keys.eq key y.key) (λ y. same_ticket x.ticket y.ticket) (updated value weight now) (λ y. refl)
        old.entries) ∙ ap (entry_at keys.eq key) (sym is) ∙ found)
      where
        is_now : Entry K V → Entry K V
        is_now y = cond (same_ticket x.ticket y.ticket) (updated value weight now y) y

        one : (y : Entry K V) → entry_at keys.eq key old.entries ≡ Some y → (b : Bool) → same_ticket x.ticket y.ticket ≡ b
            → cond b (updated value weight now y) y ≡ e
            → (l : K) × (keys.eq key l ≡ true) × weighs l e.value e.weight
        one y there false differ same =
            subst (λ (z : Entry K V). (l : K) × (keys.eq key l ≡ true) × weighs l z.value z.weight) same (weighed key y there)
        one y there true own same =
            elim (cases_Bool (keys.eq key k)) [
              | inl equal ↦ subst (λ (z : Entry K V). (l : K) × (keys.eq key l ≡ true) × weighs l z.value z.weight) same (k, equal, answer)
              | inr apart ↦ let both : true ≡ false = sym own ∙ other_ticket keys laws old key k x y good.entries apart here there in
                  absurd (cc)
            ]

        by : (o : Option (Entry K V)) → entry_at keys.eq key old.entries ≡ o
            → option_map is_now (entry_at keys.eq key old.entries) ≡ Some e → (l : K) × (keys.eq key l ≡ true) × weighs l e.value e.weight
        by None none at = let both : None ≡ Some e = ap (option_map is_now) (sym none) ∙ at in absurd (cc)
        by (Some y) there at =
            let both : Some (is_now y) ≡ Some e = ap (option_map is_now) (sym there) ∙ at in
            let same : is_now y ≡ e = cc in
            one y there (same_ticket x.ticket y.ticket) refl same

    -- an entry more
    joined : (x : Entry K V) → weighs x.key x.value x.weight → entry_at keys.eq x.key old.entries ≡ None
        → AddsEntry old.entries x new.entries → AreEntriesWeighed keys weighs new
    joined x answer none adds key e found = by (keys.eq key x.key) refl
      where
        by : (b : Bool) → keys.eq key x.key ≡ b → (l : K) × (keys.eq key l ≡ true) × weighs l e.value e.weight
        by false differ =
            weighed key e
            (ap (entry_at keys.eq key) adds.was ∙ sym (find-added_other (λ y. keys.eq key y.key) adds.before adds.behind x differ)
            ∙ ap (entry_at keys.eq key) (sym adds.is) ∙ found)
        by true equal =
            let absent : entry_at keys.eq key (adds.before ++ adds.behind) ≡ None = ap (entry_at keys.eq key) (sym adds.was)
            ∙ same_key keys laws key x.key old.entries equal ∙ none in
            let both : Some x ≡ Some e = sym (find-added (λ y. keys.eq key y.key) adds.before adds.behind x equal absent)
            ∙ ap (entry_at keys.eq key) (sym adds.is) ∙ found in
            let same : x ≡ e = cc in
            subst (λ (z : Entry K V). (l : K) × (keys.eq key l ≡ true) × weighs l z.value z.weight) same (x.key, equal, answer)

    by_queue : Queues keys old new → AreEntriesWeighed keys weighs new
    by_queue (Made caller free read hit is) = as_before _ is refl
    by_queue (Dropped caller read was is) = as_before _ is refl
    by_queue (ReadPushed caller read room was is) = as_before _ is refl
    by_queue (WritePushed caller write room was is) = as_before _ is refl

    by_form : (event : Event K V) (weight : ℕ) (refused : Bool) (reply : Reply K V) → IsWeighed weighs event reply weight
        → StepForm keys old event weight refused reply new → AreEntriesWeighed keys weighs new
    by_form event weight refused reply w (Same quiet is) = as_before old is refl
    by_form event weight refused reply w (Queued quiet queue) = by_queue queue
    by_form event weight refused reply w (Updated caller free k value now x on word found is) =
        replaced k value weight now x
        (subst (λ r. IsWeighed weighs (Insert caller k value now) r weight) word
        (subst (λ ev. IsWeighed weighs ev reply weight) on w)) found (ap (λ c. c.entries) is)
    by_form event weight refused reply w (Added caller free k value now on word none a) =
        joined (fresh_entry keys old k value weight now)
        (subst (λ r. IsWeighed weighs (Insert caller k value now) r weight) word
        (subst (λ ev. IsWeighed weighs ev reply weight) on w)) none
        (subst (λ es. AddsEntry old.entries (fresh_entry keys old k value weight now) es) (ap (λ c. c.entries) (sym a.3)) a.1)
    by_form event weight refused reply w (Removed caller free k x out found is) = λ key e there.
        weighed key e
        (found_before keys.eq laws (λ y. not (same_ticket x.ticket y.ticket)) key old.entries e good.entries.keys_apart
        (ap (λ c. entry_at keys.eq key c.entries) (sym is) ∙ there))
    by_form event weight refused reply w (WasAbsent caller k out none is) = as_before old is refl
    by_form event weight refused reply w (Invalidated now on is) = as_before _ is refl
    by_form event weight refused reply w (Begun now quiet idle is) = as_before _ is refl
    by_form event weight refused reply w (Turned on busy is) = λ key e there.
        let was =
        stood_before_look keys.eq laws (turn_at old.settings old.valid_after refused old.maintenance.phase old.maintenance) old key e
        (mild_turn K V old.settings old.valid_after refused old.maintenance.phase old.maintenance) good.entries.keys_apart
        (ap (λ c. entry_at keys.eq key c.entries) (sym is) ∙ there) in
        let before = weighed key was.0 was.1 in
        (before.0, before.1, subst (λ v. weighs before.0 v e.weight) was.2 (subst (λ n. weighs before.0 was.0.value n) was.3 before.2))

  pub keeps_weighed : KeepsWeighed keys weighs
  keeps_weighed old new event reply good weighed h =
      by_form old new good weighed event h.weight h.refused reply h.weighed
      (step_forms keys old new reply h.weight h.refused event h.step)

  -- so does a list of steps
  pub runs_keep_weighed : RunsKeepWeighed keys weighs
  runs_keep_weighed old new [] good stands asked run = subst (AreEntriesWeighed keys weighs) (sym run) stands
  runs_keep_weighed old new (h ∷ hs) good stands asked run =
      runs_keep_weighed run.0 new hs (consistent_event keys laws old run.0 good h.reply h.event h.weight h.refused run.1)
      (keeps_weighed old run.0 h.event h.reply good stands
      (record { weight = h.weight; refused = h.refused; weighed = asked.0; step = run.1 })) asked.1 run.2
