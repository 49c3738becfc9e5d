-- The values that stand: what callers' steps and turns make of the value at a key.
use Rattle.std.proofs.Common.{◌≡◌, ◌⊎◌, ℕ, Bool, true, false, not, cond, List, [], ◌∷◌, Option, Some, None, refl, sym, ◌∙◌, ap, subst}
use Rattle.std.proofs.Common.{inl, inr}
use Rattle.std.specs.Cmp.{IsEquivalence}
use Rattle.std.specs.List.{find, filter}
use Rattle.std.specs.Option.{option_map}
use Rattle.std.proofs.lemmas.Bool.{cases_Bool, false≢true, both_ways, false_from_ne_true}
use Rattle.moka_common.specs.Keys.{Keys}
use Rattle.moka_sync_model.specs.Ticket.{same_ticket, changed, without}
use Rattle.moka_sync_model.specs.Entry.{Entry, entry_of, entry_at, updated}
use Rattle.moka_sync_model.specs.CoreState.{CoreState}
use Rattle.moka_sync_model.specs.declared.event.Event.{Event}
use Rattle.moka_sync_model.specs.Reply.{Reply}
use Rattle.moka_sync_model.specs.MapStep.{AddsEntry, fresh_entry}
use Rattle.moka_sync_model.specs.Event.{IsStep}
use Rattle.moka_sync_model.specs.declared.event.Event.TheVariants.{Insert, Invalidate, Take, InvalidateAll, Turn}
use Rattle.moka_sync_model.specs.declared.event.Reply.TheVariants.{Done, Found}
use Rattle.moka_sync_model.specs.Consistent.{AreEntriesConsistent}
use Rattle.moka_sync_model.specs.LastWritten.{mapped_by, value_at}
use Rattle.moka_sync_model.proofs.ListLemmas.{find-changed}
use Rattle.moka_sync_model.proofs.TicketLemmas.{same_is, same_self}
use Rattle.moka_sync_model.proofs.StepForms.{IsSilent, StepForm, Same, Queued, Updated, Added, Removed, WasAbsent, Invalidated, Begun}
use Rattle.moka_sync_model.proofs.StepForms.{AsInvalidated, AsTaken, TakesOut, Turned, Queues, Made, Dropped, ReadPushed, WritePushed, step_forms}
use Rattle.moka_sync_model.proofs.EventLemmas.{entry_of-found}
use Rattle.moka_sync_model.proofs.AdditionLemmas.{find-added, find-added_other}
use Rattle.moka_sync_model.proofs.CauseLemmas.{find-passes}
use Rattle.moka_sync_model.proofs.MildLemmas.{found_before}

module _ {X : Type 0} (p q : X → Bool) where
  -- what is found among those kept was kept
  pub find-kept : (xs : List X) (x : X) → find p (filter q xs) ≡ Some x → q x ≡ true
  find-kept [] x found = absurd (cc)
  find-kept (y ∷ ys) x found =
      elim (cases_Bool (q y)) [
        | inl kept ↦
            elim (cases_Bool (p y)) [
              | inl here ↦ let is : Some y ≡ Some x = rw (kept, here) at found in let same : y ≡ x = cc in ap q (sym same) ∙ kept
              | inr there ↦ find-kept ys x (rw (kept, there) at found)
            ]
        | inr gone ↦ find-kept ys x (rw gone at found)
      ]

  -- what is found and kept is found still
  pub find-still : (xs : List X) (x : X) → find p xs ≡ Some x → q x ≡ true → find p (filter q xs) ≡ Some x
  find-still [] x found kept = absurd (cc)
  find-still (y ∷ ys) x found kept =
      elim (cases_Bool (p y)) [
        | inl here ↦
            let is : Some y ≡ Some x = rw here at found in
            let same : y ≡ x = cc in
            let stays : q y ≡ true = ap q same ∙ kept in
            rw stays (rw here is)
        | inr there ↦
            let ih = find-still ys x (rw there at found) kept in
            elim (cases_Bool (q y)) [
              | inl stays ↦ rw stays (rw there ih)
              | inr gone ↦ rw gone ih
            ]
      ]

module _ {K V S : Type 0} (keys : Keys K S) (laws : IsEquivalence keys.eq) where
  -- equal keys find the same
  pub same_key : (key k : K) (es : List (Entry K V)) → keys.eq key k ≡ true → entry_at keys.eq key es ≡ entry_at keys.eq k es
  same_key key k [] same = refl
  same_key key k (e ∷ es) same = rw (laws.congr key k e.key same) (ap (λ o. cond (keys.eq k e.key) (Some e) o) (same_key key k es same))

  -- keys of which one passes and the other doesn't are two
  other_key : (key k : K) (e : Entry K V) → keys.eq key k ≡ false → keys.eq k e.key ≡ true → keys.eq key e.key ≡ false
  other_key key k e differ here =
      false_from_ne_true (keys.eq key e.key)
      (λ there. both_ways (keys.eq key k) differ (laws.congr key e.key k there ∙ laws.symm e.key k ∙ here))

  -- an entry of another key is another entry, of another ticket
  pub other_ticket : (core : CoreState K V S) (key k : K) (e x : Entry K V) → AreEntriesConsistent keys core → keys.eq key k ≡ false
      → entry_at keys.eq k core.entries ≡ Some e → entry_at keys.eq key core.entries ≡ Some x → same_ticket e.ticket x.ticket ≡ false
  other_ticket core key k e x good differ found there =
      false_from_ne_true (same_ticket e.ticket x.ticket) (λ same.
      let both : Some e ≡ Some x = sym (entry_of-found (λ y. keys.eq k y.key) core.entries e good.entries_apart found)
      ∙ ap (λ u. entry_of u core.entries) (same_is e.ticket x.ticket same)
      ∙ entry_of-found (λ y. keys.eq key y.key) core.entries x good.entries_apart there in
      let is : e ≡ x = cc in
      both_ways (keys.eq key x.key)
      (ap (λ (y : Entry K V). keys.eq key y.key) (sym is)
      ∙ other_key key k e differ (find-passes (λ y. keys.eq k y.key) core.entries e found))
      (find-passes (λ y. keys.eq key y.key) core.entries x there))

  -- ---- what an event leaves at a key

  module _ (core : CoreState K V S) (good : AreEntriesConsistent keys core) (key : K) where
    abbrev value_in : List (Entry K V) → Option V
    value_in es = option_map (λ e. e.value) (entry_at keys.eq key es)

    value_updated : (k : K) (e : Entry K V) (value : V) (weight now : ℕ) → entry_at keys.eq k core.entries ≡ Some e
        → value_in (changed (λ x. x.ticket) e.ticket (updated value weight now) core.entries)
        ≡ cond (keys.eq key k) (Some value) (value_in core.entries)
    value_updated k e value weight now found =
        ap (option_map (λ (x : Entry K V). x.value))
        (find-changed (λ x. keys.eq key x.key) (λ x. same_ticket e.ticket x.ticket) (updated value weight now) (λ x. refl)
        core.entries)
        ∙ by (keys.eq key k) refl
      where
        now_is : Entry K V → Entry K V
        now_is x = cond (same_ticket e.ticket x.ticket) (updated value weight now x) x

        others : (differ : keys.eq key k ≡ false) (o : Option (Entry K V)) → entry_at keys.eq key core.entries ≡ o
            → option_map (λ (x : Entry K V). x.value)
            (option_map (λ x. cond (same_ticket e.ticket x.ticket) (updated value weight now x) x) o)
            ≡ option_map (λ (x : Entry K V). x.value) o
        others differ None there = refl
        others differ (Some x) there = rw (other_ticket core key k e x good differ found there)

        by : (b : Bool) → keys.eq key k ≡ b
            → option_map (λ (x : Entry K V). x.value)
            (option_map (λ x. cond (same_ticket e.ticket x.ticket) (updated value weight now x) x) (entry_at keys.eq key core.entries))
            ≡ cond b (Some value) (value_in core.entries)
        by true same =
            ap (λ o.
            option_map (λ (x : Entry K V). x.value)
            (option_map (λ x. cond (same_ticket e.ticket x.ticket) (updated value weight now x) x) o))
            (same_key key k core.entries same ∙ found) ∙ rw (same_self e.ticket)
        by false differ = others differ (entry_at keys.eq key core.entries) refl

    value_added : (e : Entry K V) (entries : List (Entry K V)) → entry_at keys.eq e.key core.entries ≡ None
        → AddsEntry core.entries e entries → value_in entries ≡ cond (keys.eq key e.key) (Some e.value) (value_in core.entries)
    value_added e entries absent adds = by (keys.eq key e.key) refl
      where
        by : (b : Bool) → keys.eq key e.key ≡ b → value_in entries ≡ cond b (Some e.value) (value_in core.entries)
        by true same =
            ap value_in adds.is
            ∙ ap (option_map (λ (x : Entry K V). x.value)) (find-added (λ x. keys.eq key x.key) adds.before adds.behind e same
            (ap (entry_at keys.eq key) (sym adds.was) ∙ same_key key e.key core.entries same ∙ absent))
        by false differ = ap value_in adds.is
            ∙ ap (option_map (λ (x : Entry K V). x.value)) (find-added_other (λ x. keys.eq key x.key) adds.before adds.behind e differ)
            ∙ ap value_in (sym adds.was)

    value_removed : (k : K) (e : Entry K V) → entry_at keys.eq k core.entries ≡ Some e
        → value_in (without (λ x. x.ticket) e.ticket core.entries) ≡ cond (keys.eq key k) None (value_in core.entries)
    value_removed k e found = by (keys.eq key k) refl
      where
        none : keys.eq key k ≡ true → (o : Option (Entry K V)) → entry_at keys.eq key (without (λ x. x.ticket) e.ticket core.entries) ≡ o
            → o ≡ None
        none same None is = refl
        none same (Some x) is =
            let before : entry_at keys.eq key core.entries ≡ Some x =
            found_before keys.eq laws (λ y. not (same_ticket e.ticket y.ticket)) key core.entries x good.keys_apart is in
            let both : Some x ≡ Some e = sym before ∙ same_key key k core.entries same ∙ found in
            let one : x ≡ e = cc in
            let kept : not (same_ticket e.ticket x.ticket) ≡ true =
            find-kept (λ y. keys.eq key y.key) (λ y. not (same_ticket e.ticket y.ticket)) core.entries x is in
            absurd (false≢true
            (ap not (sym (same_self e.ticket)) ∙ ap (λ (y : Entry K V). not (same_ticket e.ticket y.ticket)) (sym one) ∙ kept))

        others : keys.eq key k ≡ false → (o : Option (Entry K V)) → entry_at keys.eq key core.entries ≡ o
            → entry_at keys.eq key (without (λ x. x.ticket) e.ticket core.entries) ≡ o
        others differ None is = still_none (entry_at keys.eq key (without (λ x. x.ticket) e.ticket core.entries)) refl
          where
            still_none : (o : Option (Entry K V)) → entry_at keys.eq key (without (λ x. x.ticket) e.ticket core.entries) ≡ o
                → entry_at keys.eq key (without (λ x. x.ticket) e.ticket core.entries) ≡ None
            still_none None h = h
            still_none (Some x) h =
                let both : None ≡ Some x =
                sym is ∙ found_before keys.eq laws (λ y. not (same_ticket e.ticket y.ticket)) key core.entries x good.keys_apart h in
                absurd (cc)
        others differ (Some x) is =
            find-still (λ y. keys.eq key y.key) (λ y. not (same_ticket e.ticket y.ticket)) core.entries x is
            (ap not (other_ticket core key k e x good differ found is))

        by : (b : Bool) → keys.eq key k ≡ b → value_in (without (λ x. x.ticket) e.ticket core.entries) ≡ cond b None (value_in core.entries)
        by true same =
            ap (option_map (λ (x : Entry K V). x.value))
            (none same (entry_at keys.eq key (without (λ x. x.ticket) e.ticket core.entries)) refl)
        by false differ = ap (option_map (λ (x : Entry K V). x.value)) (others differ (entry_at keys.eq key core.entries) refl)

  -- ---- a caller's step

  module _ (old new : CoreState K V S) (good : AreEntriesConsistent keys old) (reply : Reply K V) (key : K) where
    -- the value at the key is what a plain map has
    abbrev pub Maps : Event K V → Type 0
    Maps event = value_at keys.eq key new ≡ mapped_by keys.eq key event reply (value_at keys.eq key old)

    same_entries : (meant : CoreState K V S) → new ≡ meant → meant.entries ≡ old.entries
        → value_at keys.eq key new ≡ value_at keys.eq key old
    same_entries meant is entries = ap (value_at keys.eq key) is
        ∙ ap (λ es. option_map (λ (x : Entry K V). x.value) (entry_at keys.eq key es)) entries

    -- a step that wrote nothing
    silent : (event : Event K V) → IsSilent event reply → value_at keys.eq key new ≡ value_at keys.eq key old → Maps event
    silent event quiet kept = kept ∙ sym (nothing event reply quiet (value_at keys.eq key old))
      where
        nothing : (event : Event K V) (reply : Reply K V) → IsSilent event reply → (v : Option V) → mapped_by keys.eq key event reply v ≡ v
        nothing (Insert caller k value now) Done quiet v = absurd quiet
        nothing (Invalidate caller k now) Done quiet v = absurd quiet
        nothing (Take caller k now) (Found found) quiet v = absurd quiet
        nothing (Insert caller k value now) other quiet v = refl
        nothing (Invalidate caller k now) other quiet v = refl
        nothing (Take caller k now) other quiet v = refl
        nothing event reply quiet v = refl

    -- one that is known, with the reply that it got
    replied : (event known : Event K V) (got : Reply K V) → event ≡ known → reply ≡ got
        → value_at keys.eq key new ≡ mapped_by keys.eq key known got (value_at keys.eq key old) → Maps event
    replied event known got on word h = h ∙ ap (λ x. mapped_by keys.eq key known x (value_at keys.eq key old)) (sym word)
        ∙ ap (λ x. mapped_by keys.eq key x reply (value_at keys.eq key old)) (sym on)

    taken_out : (event : Event K V) (caller : ℕ) (k : K) → TakesOut caller k event reply
        → value_at keys.eq key new ≡ cond (keys.eq key k) None (value_at keys.eq key old) → Maps event
    taken_out event caller k (AsInvalidated now on word) h = replied event (Invalidate caller k now) Done on word h
    taken_out event caller k (AsTaken now found on word) h = replied event (Take caller k now) (Found found) on word h

    none_mapped : (k : K) → entry_at keys.eq k old.entries ≡ None
        → value_at keys.eq key old ≡ cond (keys.eq key k) None (value_at keys.eq key old)
    none_mapped k none = by (keys.eq key k) refl
      where
        by : (b : Bool) → keys.eq key k ≡ b → value_at keys.eq key old ≡ cond b None (value_at keys.eq key old)
        by true same = ap (option_map (λ (x : Entry K V). x.value)) (same_key key k old.entries same ∙ none)
        by false differ = refl

    queue_same : Queues keys old new → value_at keys.eq key new ≡ value_at keys.eq key old
    queue_same (Made caller free read own is) = same_entries _ is refl
    queue_same (Dropped caller read was is) = same_entries _ is refl
    queue_same (ReadPushed caller read room was is) = same_entries _ is refl
    queue_same (WritePushed caller write room was is) = same_entries _ is refl

    -- every step but a turn
    abbrev pub IsTurnEvent : Event K V → Type 0
    IsTurnEvent Turn = Unit {0}
    IsTurnEvent other = ⊥

    by_form : (event : Event K V) (weight : ℕ) (refused : Bool) → StepForm keys old event weight refused reply new
        → Maps event ⊎ IsTurnEvent event
    by_form event weight refused (Same quiet is) = inl (silent event quiet (same_entries old is refl))
    by_form event weight refused (Queued quiet queue) = inl (silent event quiet (queue_same queue))
    by_form event weight refused (Updated caller free k value now e on word found is) =
        inl (replied event (Insert caller k value now) Done on word
        (ap (value_at keys.eq key) is ∙ value_updated old good key k e value weight now found))
    by_form event weight refused (Added caller free k value now on word none a) =
        inl (replied event (Insert caller k value now) Done on word
        (ap (value_at keys.eq key) a.3 ∙ value_added old good key (fresh_entry keys old k value weight now) a.0 none a.1))
    by_form event weight refused (Removed caller free k e out found is) =
        inl (taken_out event caller k out (ap (value_at keys.eq key) is ∙ value_removed old good key k e found))
    by_form event weight refused (WasAbsent caller k out none is) =
        inl (taken_out event caller k out (same_entries old is refl ∙ none_mapped k none))
    by_form event weight refused (Invalidated now on is) = inl (replied event (InvalidateAll now) reply on refl (same_entries _ is refl))
    by_form event weight refused (Begun now quiet idle is) = inl (silent event quiet (same_entries _ is refl))
    by_form event weight refused (Turned on busy is) = inr (subst IsTurnEvent (sym on) tt)

    pub event_maps : (event : Event K V) (weight : ℕ) (refused : Bool) → IsStep keys old event weight refused reply new
        → Maps event ⊎ IsTurnEvent event
    event_maps event weight refused h = by_form event weight refused (step_forms keys old new reply weight refused event h)
