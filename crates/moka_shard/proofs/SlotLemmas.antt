-- Lemmas on the slots of a shard: what a search finds, and what each change leaves.
use Rattle.std.proofs.Common.{◌≡◌, ◌≢◌, ◌<◌, ◌+◌, ℕ, Bool, true, false, nat_eq, List, [], ◌∷◌, Option, Some, None, IfSome, IsSome, Result, Ok, Err}
use Rattle.std.proofs.Common.{refl, sym, ap, ◌∙◌, subst, inl, inr, arith, set, length, suc}
use Rattle.std.proofs.lemmas.List.{get_or-set_same, get_or-set_other}
use Rattle.std.specs.Cmp.{IsEquivalence}
use Rattle.std.specs.List.{list_any}
use Rattle.std.proofs.lemmas.Bool.{cases_Bool, cases_eq, false≢true, false_from_ne_true, eqb-true, eq-eqb, ne_eqb}
use Rattle.std.proofs.lemmas.List.Elements.{All-from_recursion}
use Rattle.moka_common.specs.Keys.{Keys}
use Rattle.moka_list.proofs.FindLemmas.{found_passes, none_passes}
use Rattle.moka_list.specs.HashIndex.{HashIndex, candidates, is_candidate, Adds as Lists, FindsFirst, Removes as Unlists}
use Rattle.moka_sync_model.specs.declared.ticket.Ticket.{Ticket}
use Rattle.moka_sync_model.specs.Ticket.{same_ticket, shard_of, changed, without}
use Rattle.moka_sync_model.specs.Entry.{Entry, entry_at, entry_of, updated}
use Rattle.moka_sync_model.specs.Parts.{ShardState, IsValidShard}
use Rattle.moka_sync_model.specs.MapStep.{AddsEntry}
use Rattle.moka_sync_model.proofs.TicketLemmas.{same_is, same_self, of_ticket-is}
use Rattle.moka_common.specs.declared.error.InsertError.{InsertError}
use Rattle.moka_common.specs.declared.error.InsertError.TheVariants.{TicketsUsedUp}
use Rattle.moka_sync_model.specs.declared.constants.TheConstants.{MAX_OUTSTANDING, NO_TICKET}
use Rattle.moka_sync_model.specs.Turn.Plan.{Change, Stays, Becomes, Leaves, after_change}
use Rattle.moka_shard.specs.Rule.{AllMeet}
use Rattle.moka_shard.specs.Shard.{Shard, entry_in, entries_in, state_of}
use Rattle.moka_shard.specs.ShardStep.{IsInsert, IsInvalidation, fresh_entry}
use Rattle.moka_shard.specs.Slots.{Belongs, AreSlots, IsIndexed}
use Rattle.moka_shard.proofs.RuleLemmas.{slots_meet}
use Rattle.moka_shard.proofs.SlotListLemmas.{none_is, adds, each_value, values_apart, find-none, find-is, filter-is}
use Rattle.moka_shard.proofs.SlotListLemmas.{map-is, count-once}

pub some_parts : {X : Type 0} (x y : X) → Some x ≡ Some y → x ≡ y
some_parts x y is = cc

-- slots without entries have none in any place
none_in : {K V : Type 0} (slots : List (Option (Entry K V))) → entries_in slots ≡ [] → (i : ℕ) (e : Entry K V)
    → entry_in slots i ≡ Some e → ⊥
none_in [] none i e here = cc
none_in (None ∷ slots) none Prim.Native.Nat.zero e here = cc
none_in (None ∷ slots) none (suc i) e here = none_in slots none i e here
none_in (Some x ∷ slots) none i e here = cc

module _ {K V S : Type 0} (keys : Keys K S) where
  -- slots without entries are those of a shard that gives out any number next
  pub empty_slots : {state : S} {number next : ℕ} {slots : List (Option (Entry K V))} → AreSlots keys state number next slots
      → entries_in slots ≡ [] → (first : ℕ) → AreSlots keys state number first slots
  empty_slots {slots = slots} s none first = record {
    keys_apart = s.keys_apart;
    tickets_apart = s.tickets_apart;
    belong = λ i e here. absurd (none_in slots none i e here);
  }

  -- slots without entries are those of a shard
  pub no_slots : (state : S) (number next : ℕ) (slots : List (Option (Entry K V))) → entries_in slots ≡ []
      → AreSlots keys state number next slots
  no_slots state number next slots none = record {
    keys_apart = λ i j e f here. absurd (none_in slots none i e here);
    tickets_apart = λ i j e f here. absurd (none_in slots none i e here);
    belong = λ i e here. absurd (none_in slots none i e here);
  }

  module _ {state : S} {number next : ℕ} {slots : List (Option (Entry K V))} (s : AreSlots keys state number next slots) where
    -- what holds of the entries
    pub valid : IsValidShard keys (record { number = number; next_number = next; entries = entries_in slots; hash_state = state })
    valid = record {
      keys_apart = values_apart (λ e. e.key) keys.eq slots s.keys_apart;
      tickets_apart =
          λ t. count-once (λ e. same_ticket t e.ticket) slots
          (λ i j x y a b p q. s.tickets_apart i j x y a b (sym (same_is t x.ticket p) ∙ same_is t y.ticket q));
      belong = All-from_recursion _ (entries_in slots) (each_value _ slots (λ i e h. (s.belong i e h).here));
      hashed = All-from_recursion _ (entries_in slots) (each_value _ slots (λ i e h. (s.belong i e h).hashed));
      given_out = All-from_recursion _ (entries_in slots) (each_value _ slots (λ i e h. (s.belong i e h).given_out));
    }

    -- an entry of a key has the key's hash
    pub has_hash : ((t : S) (x y : K) → keys.eq x y ≡ true → keys.hash_of t x ≡ keys.hash_of t y) → (key : K) (i : ℕ) (e : Entry K V)
        → entry_in slots i ≡ Some e → keys.eq key e.key ≡ true → e.ticket.hash ≡ keys.hash_of state key
    has_hash respects key i e here equal = (s.belong i e here).hashed ∙ sym (respects state key e.key equal)

    module _ (laws : IsEquivalence keys.eq) (key : K) (i : ℕ) (e : Entry K V) (here : entry_in slots i ≡ Some e)
        (equal : keys.eq key e.key ≡ true) where
      -- no other slot has the key
      alone : (j : ℕ) (y : Entry K V) → entry_in slots j ≡ Some y → keys.eq key y.key ≡ true → j ≡ i
      alone j y there same =
          s.keys_apart j i y e there here (sym (laws.congr key y.key e.key same) ∙ equal)

      -- the entry of the key
      pub entry_at-is : entry_at keys.eq key (entries_in slots) ≡ Some e
      entry_at-is = find-is (λ x. keys.eq key x.key) slots i e here equal alone

    -- where no entry has the key, no slot has
    pub absent_in_each : IsEquivalence keys.eq → (key : K) → entry_at keys.eq key (entries_in slots) ≡ None → (j : ℕ) (x : Entry K V)
        → entry_in slots j ≡ Some x → keys.eq key x.key ≡ false
    absent_in_each laws key absent j x here =
        false_from_ne_true (keys.eq key x.key) (λ equal. none_is x (sym absent ∙ entry_at-is laws key j x here equal))

    module _ (i : ℕ) (e : Entry K V) (here : entry_in slots i ≡ Some e) where
      -- no other slot has the ticket
      alone_ticket : (j : ℕ) (y : Entry K V) → entry_in slots j ≡ Some y → same_ticket e.ticket y.ticket ≡ true → j ≡ i
      alone_ticket j y there same = s.tickets_apart j i y e there here (sym (same_is e.ticket y.ticket same))

      -- the entry of the ticket
      pub entry_of-is : entry_of e.ticket (entries_in slots) ≡ Some e
      entry_of-is = find-is (λ x. same_ticket e.ticket x.ticket) slots i e here (same_self e.ticket) alone_ticket

      -- it changes
      pub changed-is : (f : Entry K V → Entry K V)
          → changed (λ x. x.ticket) e.ticket f (entries_in slots) ≡ entries_in (set slots i (Some (f e)))
      changed-is f = map-is (λ x. same_ticket e.ticket x.ticket) f slots i e here (same_self e.ticket) alone_ticket

      -- it leaves
      pub without-is : without (λ x. x.ticket) e.ticket (entries_in slots) ≡ entries_in (set slots i None)
      without-is = filter-is (λ x. same_ticket e.ticket x.ticket) slots i e here (same_self e.ticket) alone_ticket

  -- slots that have what others had, with the same key and ticket
  pub AreSlots-fewer : {state : S} {number next : ℕ} (old new : List (Option (Entry K V)))
      → ((j : ℕ) (x : Entry K V) → entry_in new j ≡ Some x
      → (y : Entry K V) × (entry_in old j ≡ Some y) × (y.key ≡ x.key) × (y.ticket ≡ x.ticket))
      → AreSlots keys state number next old → AreSlots keys state number next new
  AreSlots-fewer {state} {number} {next} old new had s = record {
    keys_apart =
        λ i j x y a b same.
        let (was_x, in_x, key_x, ticket_x) = had i x a in
        let (was_y, in_y, key_y, ticket_y) = had j y b in
        s.keys_apart i j was_x was_y in_x in_y (ap (λ k. keys.eq k was_y.key) key_x ∙ ap (keys.eq x.key) key_y ∙ same);
    tickets_apart =
        λ i j x y a b same.
        let (was_x, in_x, key_x, ticket_x) = had i x a in
        let (was_y, in_y, key_y, ticket_y) = had j y b in
        s.tickets_apart i j was_x was_y in_x in_y (ticket_x ∙ same ∙ sym ticket_y);
    belong =
        λ i x a.
        let (was, in_old, key, ticket) = had i x a in
        let b = s.belong i was in_old in
        record {
          here = ap (λ (t : Ticket). shard_of t.hash) (sym ticket) ∙ b.here;
          hashed = ap (λ (t : Ticket). t.hash) (sym ticket) ∙ b.hashed ∙ ap (keys.hash_of state) key;
          given_out = subst (λ (t : Ticket). t.number < next) ticket b.given_out;
        };
  }

  -- one more, whose key is in no slot, with the next ticket
  pub AreSlots-add : {state : S} {number next : ℕ} (old new : List (Option (Entry K V))) (i : ℕ) (e : Entry K V)
      → IsEquivalence keys.eq
      → AreSlots keys state number next old → entry_in new i ≡ Some e → ((j : ℕ) → j ≢ i → entry_in new j ≡ entry_in old j)
      → shard_of e.ticket.hash ≡ number → e.ticket.hash ≡ keys.hash_of state e.key → e.ticket.number ≡ next
      → ((j : ℕ) (x : Entry K V) → entry_in old j ≡ Some x → keys.eq e.key x.key ≡ false)
      → AreSlots keys state number (next + 1) new
  AreSlots-add {state} {number} {next} old new i e laws s here others own hashed given absent = record {
    keys_apart =
        λ j k x y a b same. elim (cases_eq j i) [
          | inl is ↦ elim (cases_eq k i) [
            | inl also ↦ is ∙ sym also
            | inr other ↦
                let x_is : x ≡ e = new_is j x is a in
                absurd (false≢true (sym (absent k y (sym (others k other) ∙ b))
                ∙ ap (λ (z : Entry K V). keys.eq z.key y.key) (sym x_is) ∙ same))
          ]
          | inr apart ↦ elim (cases_eq k i) [
            | inl is ↦
                let y_is : y ≡ e = new_is k y is b in
                absurd (false≢true (sym (absent j x (sym (others j apart) ∙ a)) ∙ laws.symm e.key x.key
                ∙ ap (λ (z : Entry K V). keys.eq x.key z.key) (sym y_is) ∙ same))
            | inr other ↦ s.keys_apart j k x y (sym (others j apart) ∙ a) (sym (others k other) ∙ b) same
          ]
        ];
    tickets_apart =
        λ j k x y a b same. elim (cases_eq j i) [
          | inl is ↦ elim (cases_eq k i) [
            | inl also ↦ is ∙ sym also
            | inr other ↦
                let x_is : x ≡ e = new_is j x is a in
                let number_is : y.ticket.number ≡ next =
                ap (λ (t : Ticket). t.number) (sym same ∙ ap (λ (z : Entry K V). z.ticket) x_is) ∙ given in
                let below : y.ticket.number < next = (s.belong k y (sym (others k other) ∙ b)).given_out in
                absurd (omega (arith, number_is, below))
          ]
          | inr apart ↦ elim (cases_eq k i) [
            | inl is ↦
                let y_is : y ≡ e = new_is k y is b in
                let number_is : x.ticket.number ≡ next =
                ap (λ (t : Ticket). t.number) (same ∙ ap (λ (z : Entry K V). z.ticket) y_is) ∙ given in
                let below : x.ticket.number < next = (s.belong j x (sym (others j apart) ∙ a)).given_out in
                absurd (omega (arith, number_is, below))
            | inr other ↦ s.tickets_apart j k x y (sym (others j apart) ∙ a) (sym (others k other) ∙ b) same
          ]
        ];
    belong =
        λ j x a. elim (cases_eq j i) [
          | inl is ↦ subst (Belongs keys state number (next + 1)) (sym (new_is j x is a))
              (record { here = own; hashed = hashed; given_out = omega (arith, given) })
          | inr other ↦
              let b = s.belong j x (sym (others j other) ∙ a) in
              let below : x.ticket.number < next = b.given_out in
              record { here = b.here; hashed = b.hashed; given_out = omega (arith, below) }
        ];
  }
    where
      new_is : (j : ℕ) (x : Entry K V) → j ≡ i → entry_in new j ≡ Some x → x ≡ e
      new_is j x is a = some_parts x e (sym a ∙ ap (entry_in new) is ∙ here)

module _ {K V : Type 0} where
  -- a list without any of a ticket stays as it is
  pub entry_of-none_stays : (slots : List (Option (Entry K V))) (t : Ticket)
      → ((i : ℕ) (x : Entry K V) → entry_in slots i ≡ Some x → same_ticket t x.ticket ≡ false)
      → entry_of t (entries_in slots) ≡ None
  entry_of-none_stays slots t absent = find-none (λ x. same_ticket t x.ticket) slots absent

  -- one entry more
  pub adds_entry : (old new : List (Option (Entry K V))) (i : ℕ) (e : Entry K V) → entry_in old i ≡ None → entry_in new i ≡ Some e
      → ((j : ℕ) → j ≢ i → entry_in new j ≡ entry_in old j) → AddsEntry (entries_in old) e (entries_in new)
  adds_entry old new i e free here others =
      let a = adds i old new e free here others in
      record { before = a.before; behind = a.behind; was = a.was; is = a.is }

  -- ---- the index

  -- an index without ids is that of no slots
  pub IsIndexed-none : (slots : List (Option (Entry K V))) (index : HashIndex) → ((i : ℕ) → entry_in slots i ≡ None)
      → ((hash : ℕ) → candidates index hash ≡ []) → IsIndexed slots index
  IsIndexed-none slots index free empty = record {
    listed = λ i e h. absurd (none_is e (sym (free i) ∙ h));
    standing = λ hash i h. absurd (false≢true (sym (ap (list_any (nat_eq i)) (empty hash)) ∙ h));
  }

  -- entries that keep their tickets
  pub IsIndexed-rewrite : (old new : List (Option (Entry K V))) (index : HashIndex) (i : ℕ) (e x : Entry K V) → IsIndexed old index
      → entry_in old i ≡ Some e → entry_in new i ≡ Some x → x.ticket ≡ e.ticket → ((j : ℕ) → j ≢ i → entry_in new j ≡ entry_in old j)
      → IsIndexed new index
  IsIndexed-rewrite old new index i e x s was here same others = record {
    listed =
        λ j y h. elim (cases_eq j i) [
          | inl is ↦
              let y_is : y ≡ x = some_parts y x (sym h ∙ ap (entry_in new) is ∙ here) in
              let e_there : entry_in old j ≡ Some e = ap (entry_in old) is ∙ was in
              subst (λ (t : Ticket). is_candidate index t.hash j ≡ true) (sym same ∙ ap (λ (z : Entry K V). z.ticket) (sym y_is))
              (s.listed j e e_there)
          | inr other ↦ s.listed j y (sym (others j other) ∙ h)
        ];
    standing =
        λ hash j h. elim (cases_eq j i) [
          | inl is ↦ subst (λ o. IsSome o) (sym (ap (entry_in new) is ∙ here)) refl
          | inr other ↦ subst (λ o. IsSome o) (sym (others j other)) (s.standing hash j h)
        ];
  }

  -- one that leaves
  pub IsIndexed-remove : (old new : List (Option (Entry K V))) (index left : HashIndex) (i : ℕ) → IsIndexed old index → Unlists index i left
      → entry_in new i ≡ None → ((j : ℕ) → j ≢ i → entry_in new j ≡ entry_in old j) → IsIndexed new left
  IsIndexed-remove old new index left i s step gone others = record {
    listed =
        λ j y h. elim (cases_eq j i) [
          | inl is ↦ absurd (none_is y (sym gone ∙ ap (entry_in new) (sym is) ∙ h))
          | inr other ↦ step.others y.ticket.hash j (apart j other) ∙ s.listed j y (sym (others j other) ∙ h)
        ];
    standing =
        λ hash j h. elim (cases_eq j i) [
          | inl is ↦ absurd (false≢true (sym (step.gone hash) ∙ ap (is_candidate left hash) (sym is) ∙ h))
          | inr other ↦ subst (λ o. IsSome o) (sym (others j other)) (s.standing hash j (sym (step.others hash j (apart j other)) ∙ h))
        ];
  }
    where
      apart : (j : ℕ) → j ≢ i → nat_eq i j ≡ false
      apart j other = false_from_ne_true (nat_eq i j) (λ same. other (sym (eqb-true i j same)))

  -- one that is added
  pub IsIndexed-add : (old new : List (Option (Entry K V))) (index more : HashIndex) (i : ℕ) (e : Entry K V) → IsIndexed old index
      → Lists index i e.ticket.hash more
      → entry_in new i ≡ Some e → ((j : ℕ) → j ≢ i → entry_in new j ≡ entry_in old j) → IsIndexed new more
  IsIndexed-add old new index more i e s step here others = record {
    listed =
        λ j y h. elim (cases_eq j i) [
          | inl is ↦
              let y_is : y ≡ e = some_parts y e (sym h ∙ ap (entry_in new) is ∙ here) in
              subst (λ n. is_candidate more y.ticket.hash n ≡ true) (sym is)
              (subst (λ (z : Entry K V). is_candidate more z.ticket.hash i ≡ true) (sym y_is) step.under)
          | inr other ↦ step.others y.ticket.hash j (apart j other) ∙ s.listed j y (sym (others j other) ∙ h)
        ];
    standing =
        λ hash j h. elim (cases_eq j i) [
          | inl is ↦ subst (λ o. IsSome o) (sym (ap (entry_in new) is ∙ here)) refl
          | inr other ↦ subst (λ o. IsSome o) (sym (others j other)) (s.standing hash j (sym (step.others hash j (apart j other)) ∙ h))
        ];
  }
    where
      apart : (j : ℕ) → j ≢ i → nat_eq i j ≡ false
      apart j other = false_from_ne_true (nat_eq i j) (λ same. other (sym (eqb-true i j same)))

  -- ---- a search among candidates

  module _ (test : Entry K V → Bool) (slots : List (Option (Entry K V))) where
    -- a search tests this of the entry in a slot
    abbrev pub IsTested : ℕ → Bool → Type 0
    IsTested i answer = IfSome (entry_in slots i) (λ e. answer ≡ test e)

    module _ (index : HashIndex) (hash : ℕ) (s : IsIndexed slots index) where
      -- the entry that is found passes
      pub passes : (i : ℕ) → FindsFirst IsTested (candidates index hash) (Some i)
          → (e : Entry K V) × (entry_in slots i ≡ Some e) × (test e ≡ true)
      passes i found =
          let f = found_passes IsTested (candidates index hash) i found in
          by (entry_in slots i) (s.standing hash i f.0) f.1
        where
          by : (o : Option (Entry K V)) → IsSome o → IfSome o (λ e. true ≡ test e) → (e : Entry K V) × (o ≡ Some e) × (test e ≡ true)
          by None some t = absurd (false≢true some)
          by (Some e) some t = (e, refl, sym t)

      -- where none is found, each entry of the hash fails
      pub fails : FindsFirst IsTested (candidates index hash) None → (i : ℕ) (e : Entry K V) → entry_in slots i ≡ Some e
          → e.ticket.hash ≡ hash → test e ≡ false
      fails none i e here own =
          let listed = subst (λ n. is_candidate index n i ≡ true) own (s.listed i e here) in
          sym (subst (λ o. IfSome o (λ y. false ≡ test y)) here (none_passes IsTested (candidates index hash) none i listed))

  -- where there is an entry there is a slot
  within : (slots : List (Option (Entry K V))) (i : ℕ) (e : Entry K V) → entry_in slots i ≡ Some e → i < length slots
  within [] i e here = absurd (none_is e here)
  within (o ∷ slots) Prim.Native.Nat.zero e here = omega arith
  within (o ∷ slots) (suc i) e here = omega (arith, within slots i e here)

  module _ (slots : List (Option (Entry K V))) (i : ℕ) (e : Entry K V) (here : entry_in slots i ≡ Some e) (o : Option (Entry K V)) where
    -- what a slot has once it was set, and what the others have
    pub set_here : entry_in (set slots i o) i ≡ o
    set_here = get_or-set_same slots i o None (within slots i e here)

    pub set_others : (j : ℕ) → j ≢ i → entry_in (set slots i o) j ≡ entry_in slots j
    set_others j other = get_or-set_other slots i j o None other

module _ {K V S : Type 0} (keys : Keys K S) (holds : K → V → Type 0) {state : S} {number next : ℕ} {slots : List (Option (Entry K V))}
    {index : HashIndex} (s : AreSlots keys state number next slots × IsIndexed slots index
    × AllMeet holds (entries_in slots)) (i : ℕ) (e : Entry K V) (here : entry_in slots i ≡ Some e) where
  -- an entry is rewritten, with its key and its ticket, and a value that meets the rule
  pub rewritten : (x : Entry K V) → x.key ≡ e.key → x.ticket ≡ e.ticket → holds x.key x.value
      → AreSlots keys state number next (set slots i (Some x)) × IsIndexed (set slots i (Some x)) index
      × AllMeet holds (entries_in (set slots i (Some x)))
  rewritten x key ticket meets =
      let there = set_here slots i e here (Some x) in
      let others = set_others slots i e here (Some x) in (
        AreSlots-fewer keys slots (set slots i (Some x)) (λ j y h. elim (cases_eq j i) [
          | inl is ↦
              let y_is : x ≡ y = some_parts x y (sym there ∙ ap (entry_in (set slots i (Some x))) (sym is) ∙ h) in (
                e,
                ap (entry_in slots) is ∙ here,
                sym key ∙ ap (λ (z : Entry K V). z.key) y_is,
                sym ticket
                    ∙ ap (λ (z : Entry K V). z.ticket) y_is,
              )
          | inr other ↦ (y, sym (others j other) ∙ h, refl, refl)
        ]) s.0,
        IsIndexed-rewrite slots (set slots i (Some x)) index i e x s.1 here there ticket others,
        slots_meet holds slots (set slots i (Some x)) i
            (λ y h. subst (λ (z : Entry K V). holds z.key z.value) (some_parts x y (sym there ∙ h)) meets) others s.2,
      )

  -- an entry leaves
  pub removed : (left : HashIndex) → Unlists index i left
      → AreSlots keys state number next (set slots i None) × IsIndexed (set slots i None) left
      × AllMeet holds (entries_in (set slots i None))
  removed left step =
      let gone = set_here slots i e here None in
      let others = set_others slots i e here None in (
        AreSlots-fewer keys slots (set slots i None) (λ j y h. elim (cases_eq j i) [
          | inl is ↦ absurd (none_is y (sym gone ∙ ap (entry_in (set slots i None)) (sym is) ∙ h))
          | inr other ↦ (y, sym (others j other) ∙ h, refl, refl)
        ]) s.0,
        IsIndexed-remove slots (set slots i None) index left i s.1 step gone others,
        slots_meet holds slots (set slots i None) i (λ y h. absurd (none_is y (sym gone ∙ h))) others s.2,
      )

-- the steps that a shard takes at a slot
module _ {K V S : Type 0} (keys : Keys K S) (shard : Shard K V S)
    (s : AreSlots keys shard.hash_state shard.number shard.next_number shard.slots) (i : ℕ) (e : Entry K V)
    (here : entry_in shard.slots i ≡ Some e) where
  -- its entry is taken out
  pub invalidation_at : (ticket : Ticket) (slots : List (Option (Entry K V))) → ticket ≡ e.ticket → slots ≡ set shard.slots i None
      → IsInvalidation (state_of shard) (entry_in shard.slots i) (Some ticket) (state_of (record shard { slots = slots }))
  invalidation_at ticket slots own left =
      subst (λ o. IsInvalidation (state_of shard) o (Some ticket) (state_of (record shard { slots = slots }))) (sym here) (
        ap Some own,
        ap (λ es. record (state_of shard) { entries = es }) (ap entries_in left ∙ sym (without-is keys s i e here)),
      )

  -- its entry has another value
  pub update_at : (hash : ℕ) (key : K) (value : V) (weight now : ℕ) (answer : Result Ticket InsertError) (slots : List (Option (Entry K V)))
      → (e.outstanding ≢ MAX_OUTSTANDING) → answer ≡ Ok e.ticket → slots ≡ set shard.slots i (Some (updated value weight now e))
      → IsInsert (state_of shard) hash key value weight now false (entry_in shard.slots i) answer
      (state_of (record shard { slots = slots }))
  update_at hash key value weight now answer slots few own is =
      subst (λ o. IsInsert (state_of shard) hash key value weight now false o answer (state_of (record shard { slots = slots }))) (sym here)
      (rw (ne_eqb e.outstanding MAX_OUTSTANDING few) (
        own,
        ap (λ es. record (state_of shard) { entries = es }) (ap entries_in is
            ∙ sym (changed-is keys s i e here (updated value weight now))),
      ))

  -- its entry has as many upserts outstanding as can be
  pub update_refused : (hash : ℕ) (key : K) (value : V) (weight now : ℕ) → e.outstanding ≡ MAX_OUTSTANDING
      → IsInsert (state_of shard) hash key value weight now false (entry_in shard.slots i) (Err TicketsUsedUp) (state_of shard)
  update_refused hash key value weight now full =
      subst (λ o. IsInsert (state_of shard) hash key value weight now false o (Err TicketsUsedUp) (state_of shard)) (sym here)
      (rw (eq-eqb e.outstanding MAX_OUTSTANDING full) (refl, refl))

  -- it is changed as a turn says, which names it by its ticket
  pub change_at : (t : Ticket) (change : Change K V) (slots : List (Option (Entry K V)))
      → entry_in shard.slots i ≡ entry_of t (entries_in shard.slots)
      → (entries_in slots ≡ after_change e.ticket change (entries_in shard.slots))
      → state_of (record shard { slots = slots }) ≡ record (state_of shard) { entries = after_change t change (entries_in shard.slots) }
  change_at t change slots found is =
      let own : e.ticket ≡ t = of_ticket-is (λ x. x.ticket) t (entries_in shard.slots) e (sym found ∙ here) in
      ap (λ es. record (state_of shard) { entries = es }) (is ∙ ap (λ u. after_change u change (entries_in shard.slots)) own)

module _ {K V : Type 0} where
  -- where there is no entry of the ticket nothing changes
  pub nothing_changes : (t : Ticket) (change : Change K V) (es : List (Entry K V)) → entry_of t es ≡ None → after_change t change es ≡ es
  nothing_changes t Stays es none = refl
  nothing_changes t (Becomes change) [] none = refl
  nothing_changes t (Becomes change) (e ∷ es) none =
      elim (cases_Bool (same_ticket t e.ticket)) [
        | inl same ↦ let found : Some e ≡ None = rw same at none in absurd (cc)
        | inr differ ↦ rw differ (ap (λ xs. e ∷ xs) (nothing_changes t (Becomes change) es (rw differ at none)))
      ]
  nothing_changes t Leaves [] none = refl
  nothing_changes t Leaves (e ∷ es) none =
      elim (cases_Bool (same_ticket t e.ticket)) [
        | inl same ↦ let found : Some e ≡ None = rw same at none in absurd (cc)
        | inr differ ↦ rw differ (ap (λ xs. e ∷ xs) (nothing_changes t Leaves es (rw differ at none)))
      ]

  -- an entry that is taken out has left, as a turn says
  pub leaves : {S : Type 0} (old new : ShardState K V S) (found : Option (Entry K V)) (ticket t : Ticket) → IsSome found
      → IsInvalidation old found (Some ticket) new → found ≡ entry_of t old.entries
      → new ≡ record old { entries = after_change t Leaves old.entries }
  leaves old new None ticket t some step is = absurd (cc)
  leaves old new (Some e) ticket t some step is =
      step.1 ∙ ap (λ u. record old { entries = after_change u Leaves old.entries }) (of_ticket-is (λ x. x.ticket) t old.entries e (sym is))

  -- the step of an insert that adds an entry
  pub addition : {S : Type 0} (shard : Shard K V S) (hash : ℕ) (key : K) (value : V) (weight now : ℕ)
      (slots : List (Option (Entry K V))) (i : ℕ)
      → (shard.next_number ≢ NO_TICKET) → entry_in shard.slots i ≡ None
      → entry_in slots i ≡ Some (fresh_entry (state_of shard) hash key value weight now)
      → ((j : ℕ) → j ≢ i → entry_in slots j ≡ entry_in shard.slots j)
      → IsInsert (state_of shard) hash key value weight now false None (Ok (record { hash = hash; number = shard.next_number }))
      (state_of (record shard { slots = slots; next_number = shard.next_number + 1 }))
  addition shard hash key value weight now slots i left free here others =
      rw (ne_eqb shard.next_number NO_TICKET left) (
        entries_in slots,
        adds_entry shard.slots slots i (fresh_entry (state_of shard) hash key value weight now) free here others,
        refl,
        refl,
      )
