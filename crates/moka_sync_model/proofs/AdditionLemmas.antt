-- An insert of a key that is not there keeps the core consistent.
use Rattle.std.proofs.Common.{◌≡◌, ◌≢◌, ℕ, ◌+◌, ◌≤◌, ◌<◌, Bool, true, false, ◌&&◌, cond, List, [], ◌∷◌, ◌++◌, map, length, get_or, Some}
use Rattle.std.proofs.Common.{None, refl, sym, ◌∙◌, ap, subst, arith, inl, inr, lit<}
use Rattle.std.proofs.Math.ListN.{set}
use Rattle.std.specs.Cmp.{IsEquivalence}
use Rattle.std.specs.List.{find, count_by}
use Rattle.std.specs.List.Sorted.{IsPermutation}
use Rattle.std.specs.Option.{is_some}
use Rattle.std.proofs.lemmas.Bool.{cases_Bool, cases_eq}
use Rattle.std.proofs.lemmas.Nat.{mod_below}
use Rattle.std.proofs.lemmas.List.{length-set, get_or-set_same, get_or-set_other}
use Rattle.std.proofs.lemmas.List.Elements.{All-cons}
use Rattle.std.proofs.lemmas.List.Sorted.{IsPermutation-middle, IsPermutation-sym, IsPermutation-map, All-permutation}
use Rattle.std.proofs.lemmas.Map.Keys.{IsDistinct-cons, IsDistinct-IsPermutation}
use Rattle.moka_common.specs.Keys.{Keys}
use Rattle.moka_sync_model.specs.declared.constants.TheConstants.{SHARDS}
use Rattle.moka_sync_model.specs.declared.ticket.Ticket.{Ticket}
use Rattle.moka_sync_model.specs.Ticket.{same_ticket, shard_of, IsToCome, AreApart}
use Rattle.moka_sync_model.specs.Entry.{Entry, entry_of, entry_at}
use Rattle.moka_sync_model.specs.declared.operation.Write.{Write}
use Rattle.moka_sync_model.specs.declared.operation.Write.TheVariants.{Upsert, Remove}
use Rattle.moka_sync_model.specs.declared.operation.Operation.TheVariants.{Writing}
use Rattle.moka_sync_model.specs.Operation.{count_in}
use Rattle.moka_sync_model.specs.CoreState.{CoreState, with_pending}
use Rattle.moka_common.specs.Settings.{keeps_writes}
use Rattle.moka_sync_model.specs.MapStep.{AddsEntry, fresh_entry}
use Rattle.moka_sync_model.specs.Consistent.{AreEntriesConsistent, IsConsistentStay, stay_of, no_stay, outstanding}
use Rattle.moka_sync_model.proofs.ListLemmas.{count-append, count-cons, count-none}
use Rattle.moka_sync_model.proofs.TicketLemmas.{same_self, differ_sym, cases_ticket}
use Rattle.moka_sync_model.proofs.PlanLemmas.{same_stay}
use Rattle.moka_sync_model.proofs.ApplyLemmas.{sound_by}
use Rattle.moka_sync_model.proofs.EventLemmas.{count-with_pending, none_of_key}

-- ---- one more somewhere in a list

module _ {X : Type 0} (p : X → Bool) where
  -- it does not pass
  pub find-added_other : (xs ys : List X) (x : X) → p x ≡ false → find p (xs ++ x ∷ ys) ≡ find p (xs ++ ys)
  find-added_other [] ys x fails = rw fails
  find-added_other (z ∷ xs) ys x fails = ap (λ o. cond (p z) (Some z) o) (find-added_other xs ys x fails)

  -- it passes as the only one
  pub find-added : (xs ys : List X) (x : X) → p x ≡ true → find p (xs ++ ys) ≡ None → find p (xs ++ x ∷ ys) ≡ Some x
  find-added [] ys x passes none = rw passes
  find-added (z ∷ xs) ys x passes none =
      elim (cases_Bool (p z)) [
        | inl first ↦ let found : Some z ≡ None = rw first at none in absurd (cc)
        | inr later ↦ rw later (find-added xs ys x passes (rw later at none))
      ]

  pub count-added : (xs ys : List X) (x : X) → count_by p (xs ++ x ∷ ys) ≡ cond (p x) 1 0 + count_by p (xs ++ ys)
  count-added xs ys x = omega (arith, count-append p xs (x ∷ ys), count-cons p x ys, count-append p xs ys)

module _ {K V S : Type 0} (keys : Keys K S) (laws : IsEquivalence keys.eq) (core : CoreState K V S) (good : AreEntriesConsistent keys core)
    (caller : ℕ) (key : K) (value : V) (weight now : ℕ) (absent : entry_at keys.eq key core.entries ≡ None) where
  abbrev fresh : Entry K V
  fresh = fresh_entry keys core key value weight now

  abbrev t : Ticket
  t = fresh.ticket

  none : stay_of t core ≡ no_stay
  none = good.to_come t (omega arith)

  upserts_none : outstanding core (Upsert t) ≡ 0
  upserts_none = ap (λ s. s.upserts) none

  removals_none : outstanding core (Remove t) ≡ 0
  removals_none = ap (λ s. s.removals) none

  entry_none : entry_of t core.entries ≡ None
  entry_none = ap (λ s. s.entry) none

  module _ (entries : List (Entry K V)) (adds : AddsEntry core.entries fresh entries) where
    abbrev then : CoreState K V S
    then = record core {
      entries = entries;
      next_numbers = set core.next_numbers (shard_of t.hash) (t.number + 1);
      pending = with_pending caller (Writing (Upsert t)) core;
    }

    entry_of-other : (s : Ticket) → same_ticket t s ≡ false → entry_of s entries ≡ entry_of s core.entries
    entry_of-other s differ =
        ap (entry_of s) adds.is ∙ find-added_other (λ e. same_ticket s e.ticket) adds.before adds.behind fresh (differ_sym t s differ)
        ∙ ap (entry_of s) (sym adds.was)

    entry_of-own : entry_of t entries ≡ Some fresh
    entry_of-own = ap (entry_of t) adds.is
        ∙ find-added (λ e. same_ticket t e.ticket) adds.before adds.behind fresh (same_self t)
        (ap (entry_of t) (sym adds.was) ∙ entry_none)

    more : (w : Write) (n : ℕ) → count_in w (Writing (Upsert t)) ≡ n → outstanding then w ≡ outstanding core w + n
    more w n is = omega (arith, count-with_pending w core.pending caller (Writing (Upsert t)), is)

    other_stay : (s : Ticket) → same_ticket t s ≡ false → stay_of s then ≡ stay_of s core
    other_stay s differ =
        let none_more : count_in (Upsert s) (Writing (Upsert t)) ≡ 0 = rw (differ_sym t s differ) in
        same_stay (stay_of s then) (stay_of s core) (entry_of-other s differ) refl refl (more (Upsert s) 0 none_more ∙ omega arith)
        (more (Remove s) 0 refl ∙ omega arith)

    own_sound : IsConsistentStay (keeps_writes core.settings.policy) (stay_of t then)
    own_sound =
        let one : count_in (Upsert t) (Writing (Upsert t)) ≡ 1 = rw (same_self t) in
        let ups : outstanding then (Upsert t) ≡ 1 = omega (arith, more (Upsert t) 1 one, upserts_none) in
        let rems : outstanding then (Remove t) ≡ 0 = omega (arith, more (Remove t) 0 refl, removals_none) in
        sound_by (keeps_writes core.settings.policy) (stay_of t then) (Some fresh) None entry_of-own (ap (λ s. s.charge) none)
        ((good.stays t).written ∙ ap (λ c. keeps_writes core.settings.policy && is_some c) (ap (λ s. s.charge) none))
        (sym ups, omega (arith, ups), rems)

    below : shard_of t.hash < length core.next_numbers
    below = rw (good.numbered) (mod_below t.hash SHARDS (lit< tt))

    -- a ticket still to come was to come before
    pub was_to_come : (s : Ticket) → IsToCome then.next_numbers s → IsToCome core.next_numbers s
    was_to_come s coming =
        elim (cases_eq (shard_of s.hash) (shard_of t.hash)) [
          | inl same ↦
              let number : get_or then.next_numbers (shard_of s.hash) 0 ≡ t.number + 1 =
              ap (λ k. get_or then.next_numbers k 0) same ∙ get_or-set_same core.next_numbers (shard_of t.hash) (t.number + 1) 0 below in
              let before : get_or core.next_numbers (shard_of s.hash) 0 ≡ t.number = ap (λ k. get_or core.next_numbers k 0) same in
              omega (arith, number, before, coming)
          | inr other ↦
              let number : get_or then.next_numbers (shard_of s.hash) 0 ≡ get_or core.next_numbers (shard_of s.hash) 0 =
              get_or-set_other core.next_numbers (shard_of t.hash) (shard_of s.hash) (t.number + 1) 0 other in
              omega (arith, number, coming)
        ]

    own_not_to_come : IsToCome then.next_numbers t → ⊥
    own_not_to_come coming = omega (arith, get_or-set_same core.next_numbers (shard_of t.hash) (t.number + 1) 0 below, coming)

    -- no other ticket of the shard has the number
    alone : (s : Ticket) → shard_of t.hash ≡ shard_of s.hash → t.number ≡ s.number → stay_of s then ≢ no_stay → t ≡ s
    alone s shard number some =
        elim (cases_ticket t s) [
          | inl same ↦ same
          | inr differ ↦
              let coming : IsToCome core.next_numbers s =
              subst (λ n. get_or core.next_numbers n 0 ≤ s.number) shard (omega (arith, number)) in
              absurd (some (other_stay s differ ∙ good.to_come s coming))
        ]

    once_given : (s u : Ticket) → shard_of s.hash ≡ shard_of u.hash → s.number ≡ u.number → stay_of s then ≢ no_stay
        → stay_of u then ≢ no_stay → s ≡ u
    once_given s u shard number some_s some_u =
        elim (cases_ticket t s) [
          | inl same ↦ sym same
              ∙ alone u (ap (λ (v : Ticket). shard_of v.hash) same ∙ shard) (ap (λ (v : Ticket). v.number) same ∙ number) some_u
          | inr differ_s ↦
              elim (cases_ticket t u) [
                | inl same ↦
                    sym (alone s (ap (λ (v : Ticket). shard_of v.hash) same ∙ sym shard) (ap (λ (v : Ticket). v.number) same ∙ sym number)
                    some_s) ∙ same
                | inr differ_u ↦
                    good.given_once s u shard number (λ none. some_s (other_stay s differ_s ∙ none))
                    (λ none. some_u (other_stay u differ_u ∙ none))
              ]
        ]

    moved : IsPermutation (fresh ∷ core.entries) entries
    moved = subst (λ es. IsPermutation (fresh ∷ core.entries) es) (sym adds.is)
        (subst (λ es. IsPermutation (fresh ∷ es) (adds.before ++ fresh ∷ adds.behind)) (sym adds.was)
        (IsPermutation-sym _ _ (IsPermutation-middle adds.before fresh adds.behind)))

    once : AreApart (λ e. e.ticket) entries
    once s =
        let whole : count_by (λ (e : Entry K V). same_ticket s e.ticket) entries
        ≡ cond (same_ticket s t) 1 0 + count_by (λ (e : Entry K V). same_ticket s e.ticket) core.entries =
        ap (count_by (λ (e : Entry K V). same_ticket s e.ticket)) adds.is
        ∙ count-added (λ (e : Entry K V). same_ticket s e.ticket) adds.before adds.behind fresh
        ∙ ap (λ es. cond (same_ticket s t) 1 0 + count_by (λ (e : Entry K V). same_ticket s e.ticket) es) (sym adds.was) in
        elim (cases_ticket s t) [
          | inl same ↦
              let zero_before : count_by (λ (e : Entry K V). same_ticket s e.ticket) core.entries ≡ 0 =
              subst (λ u. count_by (λ (e : Entry K V). same_ticket u e.ticket) core.entries ≡ 0) (sym same)
              (count-none (λ (e : Entry K V). same_ticket t e.ticket) core.entries entry_none) in
              let one : cond (same_ticket s t) 1 0 ≤ 1 = at_most (same_ticket s t) in
              omega (arith, whole, zero_before, one)
          | inr differ ↦
              let zero_more : 0 + cond (same_ticket s t) 1 0 ≡ 0 = rw differ in
              omega (arith, whole, zero_more, good.entries_apart s)
        ]
      where
        at_most : (b : Bool) → cond b 1 0 ≤ 1
        at_most true = omega arith
        at_most false = omega arith

    pub consistent_addition : AreEntriesConsistent keys then
    consistent_addition = record {
      stays = λ s.
          elim (cases_ticket t s) [
            | inl same ↦ subst (λ u. IsConsistentStay (keeps_writes core.settings.policy) (stay_of u then)) same own_sound
            | inr differ ↦ subst (IsConsistentStay (keeps_writes core.settings.policy)) (sym (other_stay s differ)) (good.stays s)
          ];
      to_come = λ s coming.
          elim (cases_ticket t s) [
            | inl same ↦ absurd (own_not_to_come (subst (IsToCome then.next_numbers) (sym same) coming))
            | inr differ ↦ other_stay s differ ∙ good.to_come s (was_to_come s coming)
          ];
      given_once = once_given;
      keys_apart =
          IsDistinct-IsPermutation keys.eq laws.symm (map (λ (e : Entry K V). e.key) (fresh ∷ core.entries))
          (map (λ (e : Entry K V). e.key) entries) (IsPermutation-map (λ e. e.key) (fresh ∷ core.entries) entries moved)
          (IsDistinct-cons keys.eq key (map (λ (e : Entry K V). e.key) core.entries) (none_of_key keys.eq key core.entries absent)
          good.keys_apart);
      entries_apart = once;
      nodes_apart = good.nodes_apart;
      writes_apart = good.writes_apart;
      hashed =
          All-permutation (λ e. e.ticket.hash ≡ keys.hash_of core.settings.hash_state e.key) (fresh ∷ core.entries) entries moved
          (All-cons (λ e. e.ticket.hash ≡ keys.hash_of core.settings.hash_state e.key) fresh core.entries refl good.hashed);
      numbered = length-set core.next_numbers (shard_of t.hash) (t.number + 1) ∙ good.numbered;
      fits = good.fits;
    }
