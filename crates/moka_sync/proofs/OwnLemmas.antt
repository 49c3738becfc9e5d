-- A step that spares a key leaves the value that was last written there, so one's own write is found behind such steps. What is hidden is not found.
use Rattle.std.proofs.Common.{◌≡◌, ◌≤◌, ℕ, ◌∙◌, ◌||◌, Bool, true, false, List, [], ◌∷◌, ◌++◌, Option, Some, None, IfSome, Result, Ok, append_assoc, ap, refl}
use Rattle.std.proofs.Common.{subst}
use Rattle.std.proofs.Common.{sym}
use Rattle.std.proofs.Common.{arith, if◌then◌else◌, max, nat_lt, ltb-false}
use Rattle.std.specs.Cmp.{IsEquivalence}
use Rattle.std.proofs.lemmas.Bool.{or_parts}
use Rattle.std.specs.Option.{option_map}
use Rattle.moka_common.specs.Keys.{Keys}
use Rattle.moka_common.specs.Settings.{Settings}
use Rattle.moka_common.specs.declared.error.OutOfMemory.{OutOfMemory as MemoryError}
use Rattle.moka_sync_model.specs.declared.operation.Read.TheVariants.{Hit}
use Rattle.moka_sync_model.specs.declared.ticket.Ticket.{Ticket}
use Rattle.moka_sync_model.specs.Phase.{Phase, ReadApply}
use Rattle.moka_sync_model.specs.Ticket.{same_ticket}
use Rattle.moka_row.specs.Visits.{GoesOn, at}
use Rattle.moka_common.specs.Moment.{idle_expired, live_expired}
use Rattle.moka_common.specs.Policy.{Policy}
use Rattle.moka_common.specs.Settings.{idle_nanos, live_nanos}
use Rattle.moka_history.specs.LastWrite.{IsCurrent, LastWrite, is_over, is_removed, is_written, known_after, known_at, last_write, used_if}
use Rattle.moka_history.specs.Steps as act
use Rattle.moka_history.specs.Steps.{Act, Inserts, Invalidates, Step, Takes, Touches, Turns, acts}
use Rattle.moka_locks.specs.History.{Every, HidesMore, HidesUpTo, Knows, Log, MakesIn, moment_of, place_of, rest, steps}
use Rattle.moka_locks.specs.Moments as moments
use Rattle.moka_locks.specs.Moments.{Appends, latest}
use Rattle.moka_locks.proofs.HidingLemmas.{every_visit, latest_since}
use Rattle.moka_locks.specs.Tells as tells
use Rattle.moka_locks.specs.Tells.{TellsClone}
use Rattle.moka_sync.specs.Own.{FindsFromNote, FindsOwn, FindsSince, Spares, StaysHidden}

-- an answer that memory was not refused for
abbrev answered : {V : Type 0} → Option V → Result (Option V) MemoryError
answered f = Ok f

abbrev value_of : {V : Type 0} → Option (LastWrite V) → Option V
value_of known = option_map (λ write. write.value) known

module _ {V : Type 0} where
  used_value : (b : Bool) (write used : LastWrite V) → used.value ≡ write.value → (if b then used else write).value ≡ write.value
  used_value true write used same = same
  used_value false write used same = refl

  value_used : (t : Ticket) (moment : ℕ) (known : Option (LastWrite V)) → value_of (option_map (used_if t moment) known) ≡ value_of known
  value_used t moment None = refl
  value_used t moment (Some write) = ap Some (used_value (same_ticket t write.ticket) write _ refl)

  value_at : (p : Phase) (known : Option (LastWrite V)) → value_of (known_at p known) ≡ value_of known
  value_at (ReadApply work (Hit t moment)) known = value_used t moment known
  value_at p known = refl

-- the latest moment that was seen since an invalidation is no earlier than its
pub since_own : {before : List ℕ} {moment : ℕ} {mid after : List ℕ} → Appends before moment mid → moments.GoesOn mid after → moment ≤ latest after
since_own {moment = moment} {mid = mid} {after = after} own goes_on =
    let grown : latest mid ≤ latest after = latest_since goes_on in
    let first : latest mid ≡ max (latest own.log) moment = ap latest own.last in
    omega (arith, grown, first)

-- what counts still was neither written nor used before the moment that hides
not_hidden : {V : Type 0} (policy : Policy) (valid_after now : ℕ) (write : LastWrite V) → is_over policy valid_after now write ≡ false
    → (valid_after ≤ write.written) × (valid_after ≤ write.used)
not_hidden policy valid_after now write counts =
    let hides = nat_lt write.used valid_after || nat_lt write.written valid_after in
    let parts = or_parts (idle_expired (idle_nanos policy) write.used now || live_expired (live_nanos policy) write.written now) hides counts in
    let both = or_parts (nat_lt write.used valid_after) (nat_lt write.written valid_after) parts.1 in
    (ltb-false write.written valid_after both.1, ltb-false write.used valid_after both.0)

module _ {K V S : Type 0} (keys : Keys K S) where
  spared : (act : Act K V) (key : K) (known : Option (LastWrite V)) → is_written keys.eq act key ≡ false → is_removed keys.eq act key ≡ false
      → value_of (known_after keys.eq act key known) ≡ value_of known
  spared (Inserts other value now (Ok t)) key known unwritten kept =
      ap (λ b. value_of (if b then Some (record { value = value; written = now; used = now; ticket = t }) else known)) unwritten
  spared (Invalidates other left) key known unwritten kept = ap (λ b. value_of (if b then None else known)) kept
  spared (Takes other now valid_after found left) key known unwritten kept = ap (λ b. value_of (if b then None else known)) kept
  spared (Touches t moment) key known unwritten kept = value_used t moment known
  spared (Turns m valid_after t) key known unwritten kept = value_at m.phase known
  spared act key known unwritten kept = refl

  spared_steps : (key : K) (visit past : List (Step K V S)) → Every (Spares keys key) visit
      → value_of (last_write keys.eq key (acts (visit ++ past))) ≡ value_of (last_write keys.eq key (acts past))
  spared_steps key [] past all = refl
  spared_steps key (step ∷ visit) past all =
      spared step.act key (last_write keys.eq key (acts (visit ++ past))) all.0.0 all.0.1 ∙ spared_steps key visit past all.1

  spared_visits : (key : K) (visits log : Log K V S) → Every (λ visit. Every (Spares keys key) visit.1) visits
      → value_of (last_write keys.eq key (acts (steps (visits ++ log)))) ≡ value_of (last_write keys.eq key (acts (steps log)))
  spared_visits key [] log all = refl
  spared_visits key (visit ∷ visits) log all = spared_steps key visit.1 (steps (visits ++ log)) all.0 ∙ spared_visits key visits log all.1

  -- an accepted insert writes
  written : IsEquivalence keys.eq → (key : K) (value : V) (now : ℕ) (t : Ticket) (step : Step K V S) (past : List (Step K V S))
      → step.act ≡ Inserts key value now (Ok t) → value_of (last_write keys.eq key (acts (step ∷ past))) ≡ Some value
  written laws key value now t step past did =
      ap (λ act. value_of (known_after keys.eq act key (last_write keys.eq key (acts past)))) did
      ∙ ap (λ b. value_of (if b then Some (record { value = value; written = now; used = now; ticket = t }) else last_write keys.eq key (acts past)))
      (laws.refl key)

  module _ (settings : Settings S) {is_clone : V → V → Type 0} {w x : Knows K V S} {key : K} {now valid_after : ℕ} where
    -- what is found behind one's own write
    pub finds_own : (laws : IsEquivalence keys.eq) (v : Knows K V S) (weighs : K → V → ℕ → Type 0) (value : V) (found : Option V)
        → tells.Inserts keys settings weighs v key value now (Ok tt) w → tells.Gets keys settings is_clone w key now valid_after (Ok found) x
        → FindsOwn keys settings is_clone v key value found x
    finds_own laws v weighs value found (t, puts, stood) gets =
        let one = puts.made.made in
        let two = gets.made.made in
        let i = place_of keys settings key in
        let earlier = one.since ++ at v.seen i in
        let seen : at x.seen i ≡ (v.by, two.step ∷ []) ∷ (two.since ++ (v.by, one.step ∷ []) ∷ earlier) =
        two.seen ∙ (λ j. (one.same j, two.step ∷ []) ∷ (two.since ++ one.seen j)) in
        record {
          write = one.step ∷ [];
          read = two.step ∷ [];
          between = two.since;
          earlier = earlier;
          seen = seen;
          own = λ copy is all.
              by found gets.told copy is
              (spared_visits key two.since ((v.by, one.step ∷ []) ∷ earlier) all ∙ written laws key value now t one.step (steps earlier) one.did) seen;
        }
      where
        by : (f : Option V) → TellsClone is_clone (option_map (λ g. g.0) gets.found) (answered f) → (copy : V) → f ≡ Some copy
            → {past : Log K V S} {read : ℕ × List (Step K V S)} → value_of (last_write keys.eq key (acts (steps past))) ≡ Some value
            → at x.seen (place_of keys settings key) ≡ read ∷ past → is_clone value copy
        by None told copy is last seen = absurd (cc)
        by (Some c) (y, found_is, clone) copy is {past = past} last seen =
            let same : c ≡ copy = cc in
            let current = subst (λ log. IsCurrent keys.eq settings.policy valid_after now (acts (steps (rest log))) key y) seen (gets.hit y found_is) in
            let both : Some current.0.value ≡ Some value = sym (ap value_of current.1) ∙ last in
            let here : current.0.value ≡ value = cc in
            subst (λ z. is_clone z copy) (sym current.2 ∙ here) (subst (is_clone y) same clone)

    -- what is found once a note was taken in
    pub finds_from_note : {found : Option V} {told : Log K V S} → GoesOn told (at w.seen (place_of keys settings key))
        → tells.Gets keys settings is_clone w key now valid_after (Ok found) x → FindsFromNote keys settings is_clone told key now valid_after found
    finds_from_note {found = found} {told = told} goes_on gets =
        let i = place_of keys settings key in
        let m = gets.made.made in
        let past : rest (at x.seen i) ≡ (m.since ++ goes_on.0) ++ told =
        ap rest m.seen ∙ (ap (λ log. m.since ++ log) goes_on.1 ∙ sym (append_assoc m.since goes_on.0 told)) in
        record { since = m.since ++ goes_on.0; current = λ copy is. by found gets.told copy is past }
      where
        by : (f : Option V) → TellsClone is_clone (option_map (λ g. g.0) gets.found) (answered f) → (copy : V) → f ≡ Some copy
            → {past : Log K V S} → rest (at x.seen (place_of keys settings key)) ≡ past
            → (value : V) × is_clone value copy × IsCurrent keys.eq settings.policy valid_after now (acts (steps past)) key value
        by None told copy is past = absurd (cc)
        by (Some c) (y, found_is, clone) copy is past =
            let same : c ≡ copy = cc in (
              y,
              subst (is_clone y) same clone,
              subst (λ log. IsCurrent keys.eq settings.policy valid_after now (acts (steps log)) key y) past (gets.hit y found_is),
            )

    -- what is found behind one's own invalidation of all
    pub finds_since : {moment : ℕ} {found : Option V} → moment ≤ valid_after → tells.Gets keys settings is_clone w key now valid_after (Ok found) x
        → FindsSince keys settings is_clone moment key found x
    finds_since {moment = moment} {found = found} after gets copy is = by found gets.told is
      where
        by : (f : Option V) → TellsClone is_clone (option_map (λ g. g.0) gets.found) (answered f) → f ≡ Some copy
            → (write : LastWrite V) × (last_write keys.eq key (acts (steps (rest (at x.seen (place_of keys settings key))))) ≡ Some write)
            × is_clone write.value copy × (moment ≤ write.written) × (moment ≤ write.used)
        by None told is = absurd (cc)
        by (Some c) (y, found_is, clone) is =
            let same : c ≡ copy = cc in
            let current = gets.hit y found_is in
            let late = not_hidden settings.policy valid_after now current.0 current.3 in (
              current.0,
              current.1,
              subst (λ z. is_clone z copy) (sym current.2) (subst (is_clone y) same clone),
              omega (arith, after, late.0),
              omega (arith, after, late.1),
            )

  module _ (settings : Settings S) where
    -- what holds of each moment by which a get's visit hides holds of that of a call behind it
    later : {v w old new : Knows K V S} {i moment : ℕ} {did act : Act K V} → MakesIn keys settings v i did w
        → ((m : ℕ) → IfSome (moment_of did) (λ n. n ≤ m) → moment ≤ m) → MakesIn keys settings old i act new → GoesOn (at w.seen i) (rest (at new.seen i))
        → IfSome (moment_of act) (λ m. moment ≤ m)
    later {v = v} {w = w} {old = old} {new = new} {i = i} {moment = moment} {did = did} {act = act} first bounds second on =
        each (moment_of act) (subst (λ (a : Act K V). IfSome (moment_of a) Bounds) second.did whole.0)
      where
        Bounds : ℕ → Type 0
        Bounds m = Every (HidesUpTo m) (steps (second.since ++ at old.seen i))

        whole : HidesMore (second.step ∷ steps (second.since ++ at old.seen i))
        whole = subst (λ (log : Log K V S). HidesMore (steps log)) second.seen second.history.hides

        -- the history before the later call
        past : second.since ++ at old.seen i ≡ on.0 ++ (v.by, first.step ∷ []) ∷ (first.since ++ at v.seen i)
        past = sym (ap rest second.seen) ∙ (on.1 ∙ ap (λ log. on.0 ++ log) first.seen)

        each : (o : Option ℕ) → IfSome o Bounds → IfSome o (λ m. moment ≤ m)
        each None all = tt
        each (Some m) all =
            bounds m
            (subst (λ (a : Act K V). IfSome (moment_of a) (λ n. n ≤ m)) first.did
            (every_visit (HidesUpTo m) on.0 (first.since ++ at v.seen i) v.by first.step
            (subst (λ (log : Log K V S). Every (HidesUpTo m) (steps log)) past all)))

    -- what one's own invalidation of all hides, nobody finds behind one's own get
    pub stays_hidden : {is_clone : V → V → Type 0} {moment : ℕ} {key : K} {now valid_after : ℕ} {result : Result (Option V) MemoryError} {v w : Knows K V S}
        → moment ≤ valid_after → tells.Gets keys settings is_clone v key now valid_after result w
        → StaysHidden keys settings is_clone moment (place_of keys settings key) (at w.seen (place_of keys settings key))
    stays_hidden {is_clone = is_clone} {moment = moment} {key = key} {now = now} {valid_after = valid_after} {v = v} {w = w} after gets = record {
      calls = calls;
      gets = λ old new other when hidden found found_by same on.
          finds_since settings
          (calls old new (tells_act found_by) (subst (λ i. MakesIn keys settings old i (tells_act found_by) new) same found_by.made.made) on) found_by;
    }
      where
        i : ℕ
        i = place_of keys settings key

        calls : (old new : Knows K V S) (act : Act K V) → MakesIn keys settings old i act new → GoesOn (at w.seen i) (rest (at new.seen i))
            → IfSome (moment_of act) (λ m. moment ≤ m)
        calls old new act second on = later gets.made.made (λ m is. omega (arith, after, is)) second on

        tells_act : {old new : Knows K V S} {other : K} {when hidden : ℕ} {found : Option V}
            → tells.Gets keys settings is_clone old other when hidden (Ok found) new → Act K V
        tells_act {other = other} {when = when} {hidden = hidden} found_by = act.Gets other when hidden found_by.found
