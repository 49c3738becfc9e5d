-- What a step on a shard leaves at a key.
use Rattle.std.proofs.Common.{◌≡◌, ℕ, Bool, true, false, cond, Option, Some, None, Result, Ok, Err, refl, sym, ◌∙◌, ap, subst}
use Rattle.std.specs.Cmp.{IsEquivalence}
use Rattle.std.specs.Bool.{MatchBool}
use Rattle.std.specs.Option.{option_map}
use Rattle.moka_common.specs.Keys.{Keys}
use Rattle.moka_common.specs.Settings.{Settings}
use Rattle.moka_common.specs.declared.error.InsertError.{InsertError}
use Rattle.moka_common.specs.declared.error.InsertError.TheVariants.{OutOfMemory, TicketsUsedUp}
use Rattle.moka_sync_model.specs.declared.operation.Read.TheVariants.{Hit}
use Rattle.moka_sync_model.specs.declared.ticket.Ticket.{Ticket}
use Rattle.moka_sync_model.specs.Ticket.{same_ticket, changed}
use Rattle.moka_sync_model.specs.CoreState.{Maintenance}
use Rattle.moka_sync_model.specs.Entry.{Entry, entry_at, entry_of, touched, updated}
use Rattle.moka_sync_model.specs.Parts.{ShardState, IsValidShard}
use Rattle.moka_sync_model.specs.Phase as phase
use Rattle.moka_sync_model.specs.Phase.{Phase}
use Rattle.moka_sync_model.specs.Turn.Plan.{Change, Stays, Becomes, Leaves, Plan, after_change}
use Rattle.moka_sync_model.proofs.ListLemmas.{find-changed}
use Rattle.moka_shard.specs.ShardStep.{IsAddition, IsInsert, IsInvalidation, IsUpdate, OnlyAnswers, fresh_entry}
use Rattle.moka_shard.specs.ShardTurn.{TurnsOnShard}
use Rattle.moka_history.specs.Steps.{Act, Gets, Looks, Copies, Inserts, Invalidates, Takes, Touches, Turns, IsAct}
use Rattle.moka_history.specs.LastWrite.{LastWrite, is_removed, is_written, known_after, known_at, last_write_of, used_if}
use Rattle.moka_history.specs.Cause.{RemovalCause, TurnCause}
use Rattle.moka_history.proofs.EntryLemmas.{same_key, at_updated, at_added, at_removed, still_before, none_before, left_had, of_its_ticket}
use Rattle.moka_history.proofs.TurnLemmas.{IsFate, IsQuiet, LookFate, TakesEntry, turn_cause, turn_fate}

pub by_Bool : {A : Type 0} (b : Bool) (P Q : Type 0) → (P → A) → (Q → A) → MatchBool b P Q → A
by_Bool true P Q p q h = p h
by_Bool false P Q p q h = q h

pub some_none : {X : Type 0} {A : Type 0} (x : X) → Some x ≡ None → A
some_none x is = absurd (cc)

pub some_is : {X : Type 0} (x y : X) → Some x ≡ Some y → x ≡ y
some_is x y is = cc

pub none_some : {X : Type 0} {A : Type 0} (x : X) → None ≡ Some x → A
none_some x is = absurd (cc)

-- a change that keeps the key
abbrev KeepsKey : {K V : Type 0} → Change K V → Type 0
KeepsKey Stays = Unit {0}
KeepsKey {K = K} {V = V} (Becomes f) = (e : Entry K V) → (f e).key ≡ e.key
KeepsKey Leaves = Unit {0}

module _ {K V S : Type 0} (keys : Keys K S) (laws : IsEquivalence keys.eq) where
  -- ---- a change at a ticket

  module _ (shard : ShardState K V S) (valid : IsValidShard keys shard) (t : Ticket) (key : K) where
    -- who stands after a change at a ticket
    changed_at : (f : Entry K V → Entry K V) → ((e : Entry K V) → (f e).key ≡ e.key) → (x : Entry K V)
        → entry_at keys.eq key (changed (λ e. e.ticket) t f shard.entries) ≡ Some x
        → (was : Entry K V) × (entry_at keys.eq key shard.entries ≡ Some was) × (cond (same_ticket t was.ticket) (f was) was ≡ x)
    changed_at f keeps x is =
        by (entry_at keys.eq key shard.entries) refl
        (sym (find-changed (λ e. keys.eq key e.key) (λ e. same_ticket t e.ticket) f (λ e. ap (keys.eq key) (keeps e)) shard.entries) ∙ is)
      where
        by : (o : Option (Entry K V)) → entry_at keys.eq key shard.entries ≡ o
            → option_map (λ e. cond (same_ticket t e.ticket) (f e) e) (entry_at keys.eq key shard.entries) ≡ Some x
            → (was : Entry K V) × (entry_at keys.eq key shard.entries ≡ Some was) × (cond (same_ticket t was.ticket) (f was) was ≡ x)
        by None none now = none_some x (ap (option_map (λ e. cond (same_ticket t e.ticket) (f e) e)) (sym none) ∙ now)
        by (Some was) there now =
            let both : Some (cond (same_ticket t was.ticket) (f was) was) ≡ Some x = ap (option_map (λ e. cond (same_ticket t e.ticket) (f e) e)) (sym there)
            ∙ now in
            (was, there, let same : cond (same_ticket t was.ticket) (f was) was ≡ x = cc in same)

    quiet_at : (change : Change K V) → IsQuiet change → (x : Entry K V) → entry_at keys.eq key (after_change t change shard.entries) ≡ Some x
        → (was : Entry K V) × (entry_at keys.eq key shard.entries ≡ Some was) × (last_write_of was ≡ last_write_of x)
    quiet_at Stays quiet x is = (x, is, refl)
    quiet_at (Becomes f) quiet x is =
        let w = changed_at f quiet.key x is in
        (w.0, w.1, kept w.0 (same_ticket t w.0.ticket) ∙ ap last_write_of w.2)
      where
        kept : (was : Entry K V) (b : Bool) → last_write_of was ≡ last_write_of (cond b (f was) was)
        kept was true = sym (quiet.write was)
        kept was false = refl
    quiet_at Leaves quiet x is = (x, still_before keys.eq laws shard.entries valid.keys_apart valid.tickets_apart t key x is, refl)

    touched_at : (moment : ℕ) (x : Entry K V) → entry_at keys.eq key (after_change t (Becomes (touched moment)) shard.entries) ≡ Some x
        → (was : Entry K V) × (entry_at keys.eq key shard.entries ≡ Some was) × (used_if t moment (last_write_of was) ≡ last_write_of x)
    touched_at moment x is =
        let w = changed_at (touched moment) (λ e. refl) x is in
        (w.0, w.1, kept w.0 (same_ticket t w.0.ticket) ∙ ap last_write_of w.2)
      where
        kept : (was : Entry K V) (b : Bool)
            → cond b (record (last_write_of was) { used = (last_write_of (touched moment was)).used }) (last_write_of was) ≡ last_write_of (cond b
            (touched moment was) was)
        kept was true = refl
        kept was false = refl

    -- who is gone has left, and had the ticket
    gone_at : (change : Change K V) → KeepsKey change → (e : Entry K V) → entry_at keys.eq key shard.entries ≡ Some e
        → entry_at keys.eq key (after_change t change shard.entries) ≡ None → (change ≡ Leaves) × (t ≡ e.ticket)
    gone_at Stays keeps e stood gone = some_none e (sym stood ∙ gone)
    gone_at (Becomes f) keeps e stood gone =
        some_none (cond (same_ticket t e.ticket) (f e) e)
        (ap (option_map (λ e. cond (same_ticket t e.ticket) (f e) e)) (sym stood)
        ∙ sym (find-changed (λ e. keys.eq key e.key) (λ e. same_ticket t e.ticket) f (λ e. ap (keys.eq key) (keeps e)) shard.entries) ∙ gone)
    gone_at Leaves keeps e stood gone = (refl, left_had keys.eq laws shard.entries valid.keys_apart valid.tickets_apart t key e stood gone)

    -- nobody comes
    none_at : (change : Change K V) → KeepsKey change → entry_at keys.eq key shard.entries ≡ None
        → entry_at keys.eq key (after_change t change shard.entries) ≡ None
    none_at Stays keeps none = none
    none_at (Becomes f) keeps none =
        find-changed (λ e. keys.eq key e.key) (λ e. same_ticket t e.ticket) f (λ e. ap (keys.eq key) (keeps e)) shard.entries
        ∙ ap (option_map (λ e. cond (same_ticket t e.ticket) (f e) e)) none
    none_at Leaves keeps none = none_before keys.eq laws shard.entries valid.keys_apart valid.tickets_apart t key none

  -- ---- a step

  module _ (weighs : K → V → ℕ → Type 0) (settings : Settings S) (old new : ShardState K V S) (valid : IsValidShard keys old) (key : K) where
    abbrev at_old : Option (Entry K V)
    at_old = entry_at keys.eq key old.entries

    abbrev at_new : Option (Entry K V)
    at_new = entry_at keys.eq key new.entries

    same_at : new ≡ old → at_new ≡ at_old
    same_at is = ap (λ (s : ShardState K V S). entry_at keys.eq key s.entries) is

    -- what an insert leaves: what stood, and no write was accepted; or the pair, where the key is its own
    inserted : (k : K) (value : V) (now weight : ℕ) (refused : Bool) (answer : Result Ticket InsertError) (o : Option (Entry K V))
        → entry_at keys.eq k old.entries ≡ o → IsInsert old (keys.hash_of old.hash_state k) k value weight now refused o answer new
        → (P : Result Ticket InsertError → Option (Entry K V) → Type 0)
        → ((error : InsertError) → P (Err error) at_old)
        → ((e : Entry K V) → last_write_of e ≡ record { value = value; written = now; used = now; ticket = e.ticket }
        → P (Ok e.ticket) (cond (keys.eq key k) (Some e) at_old))
        → P answer at_new
    inserted k value now weight true answer o present h P refuses accepts =
        subst (λ (z : Result Ticket InsertError × Option (Entry K V)). P z.0 z.1) (λ j. (sym h.0 j, sym (same_at h.1) j)) (refuses OutOfMemory)
    inserted k value now weight false answer (Some e) present h P refuses accepts =
        by_Bool _ (OnlyAnswers old (Err TicketsUsedUp) answer new) (IsUpdate old e value weight now answer new)
        (λ r. subst (λ (z : Result Ticket InsertError × Option (Entry K V)). P z.0 z.1) (λ j. (sym r.0 j, sym (same_at r.1) j)) (refuses TicketsUsedUp))
        (λ u.
        let there = ap (λ (s : ShardState K V S). entry_at keys.eq key s.entries) u.1
        ∙ at_updated keys.eq laws old.entries valid.keys_apart valid.tickets_apart key k e (updated value weight now) (λ x. refl) present in
        subst (λ (z : Result Ticket InsertError × Option (Entry K V)). P z.0 z.1) (λ j. (sym u.0 j, sym there j)) (accepts (updated value weight now e) refl)) h
    inserted k value now weight false answer None present h P refuses accepts =
        by_Bool _ (OnlyAnswers old (Err TicketsUsedUp) answer new) (IsAddition old (fresh_entry old
        (keys.hash_of old.hash_state k) k value weight now) answer new)
        (λ r. subst (λ (z : Result Ticket InsertError × Option (Entry K V)). P z.0 z.1) (λ j. (sym r.0 j, sym (same_at r.1) j)) (refuses TicketsUsedUp))
        (λ a.
        let there = ap (λ (s : ShardState K V S). entry_at keys.eq key s.entries) a.3
        ∙ at_added keys.eq laws old.entries valid.keys_apart valid.tickets_apart key (fresh_entry old
        (keys.hash_of old.hash_state k) k value weight now) a.0 present a.1 in
        subst (λ (z : Result Ticket InsertError × Option (Entry K V)). P z.0 z.1) (λ j. (sym a.2 j, sym there j))
        (accepts (fresh_entry old (keys.hash_of old.hash_state k) k value weight now) refl)) h

    -- what an invalidation leaves: nothing at the key
    invalidated : (k : K) (left : Option Ticket) (o : Option (Entry K V)) → entry_at keys.eq k old.entries ≡ o → IsInvalidation old o left new
        → at_new ≡ cond (keys.eq key k) None at_old
    invalidated k left None present h = same_at h.1 ∙ by (keys.eq key k) refl
      where
        by : (b : Bool) → keys.eq key k ≡ b → at_old ≡ cond b None at_old
        by true same = same_key keys.eq laws key k old.entries same ∙ present
        by false differ = refl
    invalidated k left (Some e) present h =
        ap (λ (s : ShardState K V S). entry_at keys.eq key s.entries) h.1
        ∙ at_removed keys.eq laws old.entries valid.keys_apart valid.tickets_apart key k e present

    -- what a turn leaves
    module _ (m : Maintenance) (valid_after : ℕ) (refused : Bool) (t : Ticket) (next : Maintenance)
        (turn : TurnsOnShard settings valid_after refused t m next old new) where
      abbrev change : Change K V
      change = (turn.looks (entry_of t old.entries)).change

      turned : at_new ≡ entry_at keys.eq key (after_change t change old.entries)
      turned = ap (λ (s : ShardState K V S). entry_at keys.eq key s.entries) turn.shard

      fate : IsFate m.phase t turn.looks
      fate = subst (LookFate m.phase) turn.is (turn_fate K V settings valid_after refused m.phase m)

      keeps_key : (p : Phase) → IsFate p t turn.looks → KeepsKey change
      keeps_key (phase.ReadApply work (Hit u moment)) f = subst KeepsKey (sym (f.1 (entry_of t old.entries))) (λ e. refl)
      keeps_key other f = of_quiet change (f (entry_of t old.entries))
        where
          of_quiet : (c : Change K V) → IsQuiet c → KeepsKey c
          of_quiet Stays q = tt
          of_quiet (Becomes f) q = q.key
          of_quiet Leaves q = tt

      turn_known : (p : Phase) → IsFate p t turn.looks → (known : Option (LastWrite V)) → ((e : Entry K V) → at_old ≡ Some e → known ≡ Some (last_write_of e))
          → (e : Entry K V) → at_new ≡ Some e → known_at p known ≡ Some (last_write_of e)
      turn_known (phase.ReadApply work (Hit u moment)) f known holds e is =
          let w = touched_at old valid t key moment e (ap (λ c. entry_at keys.eq key (after_change t c old.entries)) (sym (f.1 (entry_of t old.entries)))
          ∙ sym turned ∙ is) in
          ap (λ v. option_map (used_if v moment) known) f.0 ∙ (ap (option_map (used_if t moment)) (holds w.0 w.1) ∙ ap Some w.2)
      turn_known other f known holds e is =
          let w = quiet_at old valid t key change (f (entry_of t old.entries)) e (sym turned ∙ is) in holds w.0 w.1 ∙ ap Some w.2

      turn_left : (e : Entry K V) → at_old ≡ Some e → at_new ≡ None → (e.ticket ≡ t) × TurnCause settings valid_after m e refused m.phase
      turn_left e stood gone =
          let left = gone_at old valid t key change (keeps_key m.phase fate) e stood (sym turned ∙ gone) in
          let found : entry_of t old.entries ≡ Some e =
          ap (λ u. entry_of u old.entries) left.1 ∙ of_its_ticket keys.eq laws old.entries valid.keys_apart valid.tickets_apart key e stood in
          let takes : (turn.looks (Some e)).change ≡ Leaves = ap (λ o. (turn.looks o).change) (sym found) ∙ left.0 in
          (sym left.1, turn_cause settings valid_after m e refused m.phase (subst (λ (plan : Plan K V). TakesEntry plan e) (sym turn.is) (left.1, takes)))

      turn_none : at_old ≡ None → at_new ≡ None
      turn_none none = turned ∙ none_at old valid t key change (keeps_key m.phase fate) none

    -- what is known of the key's last write is that of its entry, before a step as after it
    pub step_known : (act : Act K V) → IsAct keys weighs settings old act new → (known : Option (LastWrite V))
        → ((e : Entry K V) → at_old ≡ Some e → known ≡ Some (last_write_of e))
        → (e : Entry K V) → at_new ≡ Some e → known_after keys.eq act key known ≡ Some (last_write_of e)
    step_known (Gets k now va found) h known holds e is = holds e (sym (same_at h.1) ∙ is)
    step_known (Looks k now va there) h known holds e is = holds e (sym (same_at h.1) ∙ is)
    step_known (Copies now va pairs) h known holds e is = holds e (sym (same_at h.1) ∙ is)
    step_known (Inserts k value now answer) h known holds e is =
        inserted k value now h.0 h.1 answer (entry_at keys.eq k old.entries) refl h.3
        (λ answer o. o ≡ Some e → known_after keys.eq (Inserts k value now answer) key known ≡ Some (last_write_of e))
        (λ error is. holds e is)
        (λ x wrote is. by x wrote (keys.eq key k) is) is
      where
        by : (x : Entry K V) → last_write_of x ≡ record { value = value; written = now; used = now; ticket = x.ticket } → (b : Bool)
            → cond b (Some x) at_old ≡ Some e
            → cond b (Some (record { value = value; written = now; used = now; ticket = x.ticket })) known ≡ Some (last_write_of e)
        by x wrote true is = ap Some (sym wrote) ∙ ap (option_map last_write_of) is
        by x wrote false is = holds e is
    step_known (Invalidates k left) h known holds e is = by (keys.eq key k) (sym (invalidated k left (entry_at keys.eq k old.entries) refl h) ∙ is)
      where
        by : (b : Bool) → cond b None at_old ≡ Some e → cond b None known ≡ Some (last_write_of e)
        by true is = none_some e is
        by false is = holds e is
    step_known (Takes k now va found left) h known holds e is = by (keys.eq key k) (sym (invalidated k left (entry_at keys.eq k old.entries) refl h.1) ∙ is)
      where
        by : (b : Bool) → cond b None at_old ≡ Some e → cond b None known ≡ Some (last_write_of e)
        by true is = none_some e is
        by false is = holds e is
    step_known (Touches t moment) h known holds e is =
        let w = touched_at old valid t key moment e (sym (ap (λ (s : ShardState K V S). entry_at keys.eq key s.entries) h) ∙ is) in
        ap (option_map (used_if t moment)) (holds w.0 w.1) ∙ ap Some w.2
    step_known (Turns m va t) h known holds e is = turn_known m va h.0 t h.1 h.2 m.phase (fate m va h.0 t h.1 h.2) known holds e is

    -- who is gone left for a cause
    pub step_left : (act : Act K V) → IsAct keys weighs settings old act new → (e : Entry K V) → at_old ≡ Some e → at_new ≡ None
        → RemovalCause keys settings act key e
    step_left (Gets k now va found) h e stood gone = some_none e (sym stood ∙ sym (same_at h.1) ∙ gone)
    step_left (Looks k now va there) h e stood gone = some_none e (sym stood ∙ sym (same_at h.1) ∙ gone)
    step_left (Copies now va pairs) h e stood gone = some_none e (sym stood ∙ sym (same_at h.1) ∙ gone)
    step_left (Inserts k value now answer) h e stood gone =
        inserted k value now h.0 h.1 answer (entry_at keys.eq k old.entries) refl h.3
        (λ answer o. o ≡ None → is_removed keys.eq (Inserts k value now answer) key ≡ true)
        (λ error none. some_none e (sym stood ∙ none))
        (λ x wrote none. by x (keys.eq key k) none) gone
      where
        by : {A : Type 0} (x : Entry K V) (b : Bool) → cond b (Some x) at_old ≡ None → A
        by x true none = some_none x none
        by x false none = some_none e (sym stood ∙ none)
    step_left (Invalidates k left) h e stood gone = by (keys.eq key k) (sym (invalidated k left (entry_at keys.eq k old.entries) refl h) ∙ gone)
      where
        by : (b : Bool) → cond b None at_old ≡ None → b ≡ true
        by true none = refl
        by false none = some_none e (sym stood ∙ none)
    step_left (Takes k now va found left) h e stood gone = by (keys.eq key k) (sym (invalidated k left (entry_at keys.eq k old.entries) refl h.1) ∙ gone)
      where
        by : (b : Bool) → cond b None at_old ≡ None → b ≡ true
        by true none = refl
        by false none = some_none e (sym stood ∙ none)
    step_left (Touches t moment) h e stood gone =
        let left = gone_at old valid t key (Becomes (touched moment)) (λ e. refl) e stood (sym (ap (λ
        (s : ShardState K V S). entry_at keys.eq key s.entries) h) ∙ gone) in
        let stays = left.0 in absurd (cc stays)
    step_left (Turns m va t) h e stood gone = (let left = turn_left m va h.0 t h.1 h.2 e stood gone in (left.0, (h.0, left.1)))

    -- where nothing is written, nobody comes
    pub step_none : (act : Act K V) → IsAct keys weighs settings old act new → at_old ≡ None → is_written keys.eq act key ≡ false → at_new ≡ None
    step_none (Gets k now va found) h none unwritten = same_at h.1 ∙ none
    step_none (Looks k now va there) h none unwritten = same_at h.1 ∙ none
    step_none (Copies now va pairs) h none unwritten = same_at h.1 ∙ none
    step_none (Inserts k value now answer) h none unwritten =
        inserted k value now h.0 h.1 answer (entry_at keys.eq k old.entries) refl h.3
        (λ answer o. is_written keys.eq (Inserts k value now answer) key ≡ false → o ≡ None)
        (λ error unwritten. none)
        (λ x wrote unwritten. ap (λ b. cond b (Some x) at_old) unwritten ∙ none) unwritten
    step_none (Invalidates k left) h none unwritten = invalidated k left (entry_at keys.eq k old.entries) refl h ∙ by (keys.eq key k)
      where
        by : (b : Bool) → cond b None at_old ≡ None
        by true = refl
        by false = none
    step_none (Takes k now va found left) h none unwritten = invalidated k left (entry_at keys.eq k old.entries) refl h.1 ∙ by (keys.eq key k)
      where
        by : (b : Bool) → cond b None at_old ≡ None
        by true = refl
        by false = none
    step_none (Touches t moment) h none unwritten =
        ap (λ (s : ShardState K V S). entry_at keys.eq key s.entries) h ∙ none_at old valid t key (Becomes (touched moment)) (λ e. refl) none
    step_none (Turns m va t) h none unwritten = turn_none m va h.0 t h.1 h.2 none

    -- an accepted insert's value stands
    pub step_stands : (k : K) (value : V) (now : ℕ) (answer : Result Ticket InsertError)
        → IsAct keys weighs settings old (Inserts k value now answer) new → (t : Ticket) → answer ≡ Ok t → keys.eq key k ≡ true
        → (e : Entry K V) × (at_new ≡ Some e) × (last_write_of e ≡ record { value = value; written = now; used = now; ticket = t })
    step_stands k value now answer h t accepted same =
        inserted k value now h.0 h.1 answer (entry_at keys.eq k old.entries) refl h.3
        (λ answer o. answer ≡ Ok t → (e : Entry K V) × (o ≡ Some e) × (last_write_of e ≡ record { value = value; written = now; used = now; ticket = t }))
        (λ error is. absurd (cc))
        (λ x wrote is.
        let own : x.ticket ≡ t = cc in
        (x, ap (λ b. cond b (Some x) at_old) same, wrote ∙ ap (λ (u : Ticket). record { value = value; written = now; used = now; ticket = u }) own)) accepted

    -- where nobody stands after it, it wrote nothing at the key
    pub step_unwritten : (act : Act K V) → IsAct keys weighs settings old act new → at_new ≡ None → is_written keys.eq act key ≡ false
    step_unwritten (Inserts k value now answer) h none = by answer refl
      where
        by : (a : Result Ticket InsertError) → answer ≡ a → is_written keys.eq (Inserts k value now a) key ≡ false
        by (Err error) is = refl
        by (Ok t) is = of (keys.eq key k) refl
          where
            of : (b : Bool) → keys.eq key k ≡ b → b ≡ false
            of true same = let e = step_stands k value now answer h t is same in some_none e.0 (sym e.1 ∙ none)
            of false differ = refl
    step_unwritten other h none = refl
