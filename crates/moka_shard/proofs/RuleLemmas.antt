-- A rule that the pair of each entry of a shard meets.
use Rattle.std.proofs.Common.{◌≡◌, ◌≢◌, ℕ, Bool, true, false, not, List, [], ◌∷◌}
use Rattle.std.proofs.Common.{map, filter, Option, Some, None, refl, sym, ◌∙◌, subst}
use Rattle.std.proofs.Common.{All, inl, inr, Result, Ok, Err, IfOk, IfSome}
use Rattle.std.specs.Option.{option_map}
use Rattle.std.specs.Cmp.{IsEquivalence}
use Rattle.std.specs.List.{AllByRecursion, IsDistinct, find}
use Rattle.std.proofs.lemmas.Bool.{cases_Bool}
use Rattle.std.proofs.lemmas.List.Elements.{All-filter, All-map, All-from_recursion, All-head, All-tail, recursion_from_All}
use Rattle.moka_common.specs.Settings.{Settings}
use Rattle.moka_common.specs.declared.error.OutOfMemory.{OutOfMemory as MemoryError}
use Rattle.moka_sync_model.specs.declared.ticket.Ticket.{Ticket}
use Rattle.moka_sync_model.specs.CoreState.{is_expired}
use Rattle.moka_sync_model.specs.Entry.{Entry, entry_at}
use Rattle.moka_sync_model.specs.Parts.{ShardState}
use Rattle.moka_shard.specs.Rule.{AllMeet, PairsMeet}
use Rattle.moka_shard.specs.Shard.{entries_in, entry_found, entry_in, unexpired}
use Rattle.moka_shard.specs.ShardStep.{pairs_at}
use Rattle.moka_shard.proofs.SlotListLemmas.{each_but, in_each}

-- what is found in a list has what all of it have
pub found_has : {X : Type 0} (P : X → Type 0) (p : X → Bool) (xs : List X) (x : X) → All P xs → find p xs ≡ Some x → P x
found_has P p [] x all found = absurd (cc)
found_has P p (y ∷ ys) x all found =
    elim (cases_Bool (p y)) [
      | inl passes ↦
          let is : Some y ≡ Some x = rw passes at found in
          let same : y ≡ x = cc in
          subst P same (All-head P y ys all)
      | inr fails ↦ found_has P p ys x (All-tail P y ys all) (rw fails at found)
    ]

-- what is found passes the test
pub found_passes : {X : Type 0} (p : X → Bool) (xs : List X) (x : X) → find p xs ≡ Some x → p x ≡ true
found_passes p [] x found = absurd (cc)
found_passes p (y ∷ ys) x found =
    elim (cases_Bool (p y)) [
      | inl passes ↦
          let is : Some y ≡ Some x = rw passes at found in
          let same : y ≡ x = cc in
          subst (λ z. p z ≡ true) same passes
      | inr fails ↦ found_passes p ys x (rw fails at found)
    ]

module _ {K V : Type 0} where
  module _ (holds : K → V → Type 0) where
    -- the pair of an entry meets the rule
    abbrev Meets : Entry K V → Type 0
    Meets e = holds e.key e.value

    -- where all do, that of the entry in a slot does
    pub slot_meets : (slots : List (Option (Entry K V))) → AllMeet holds (entries_in slots) → (i : ℕ) (e : Entry K V)
        → entry_in slots i ≡ Some e → holds e.key e.value
    slot_meets slots meet = in_each Meets slots (recursion_from_All Meets (entries_in slots) meet)

    -- so do all still, once one slot has something else that does
    pub slots_meet : (old new : List (Option (Entry K V))) (i : ℕ) → ((e : Entry K V) → entry_in new i ≡ Some e → holds e.key e.value)
        → ((j : ℕ) → j ≢ i → entry_in new j ≡ entry_in old j) → AllMeet holds (entries_in old) → AllMeet holds (entries_in new)
    slots_meet old new i here others meet =
        All-from_recursion Meets (entries_in new) (each_but Meets old new i here others (recursion_from_All Meets (entries_in old) meet))

    -- the value of a pair that meets it does so with the key of the entry that a search for the pair's key finds
    pub entry_agrees : (eq : K → K → Bool) → ((key other : K) (value : V) → eq key other ≡ true → holds key value → holds other value)
        → (key : K) (value : V) (es : List (Entry K V)) (e : Entry K V) → entry_at eq key es ≡ Some e → holds key value
        → holds e.key value
    entry_agrees eq agrees key value es e there good = agrees key e.key value (found_passes (λ x. eq key x.key) es e there) good

    -- what is found counts, and meets the rule with the key that was asked for
    pub found_meets : (eq : K → K → Bool) → IsEquivalence eq
        → ((key other : K) (value : V) → eq key other ≡ true → holds key value → holds other value) → {S : Type 0} (settings : Settings S)
        (valid_after now : ℕ) (key : K) (es : List (Entry K V)) → AllMeet holds es → (answer : Result (Option (V × Ticket)) MemoryError)
        → IfOk answer (λ found. found ≡ option_map (λ e. (e.value, e.ticket)) (unexpired settings valid_after now (entry_at eq key es)))
        → IfOk answer (λ found. IfSome {T = V × Ticket} found (λ f. holds key f.0))
    found_meets eq laws agrees settings valid_after now key es meet (Err error) is = tt
    found_meets eq laws agrees settings valid_after now key es meet (Ok found) is =
        subst (λ o. IfSome {T = V × Ticket} o (λ f. holds key f.0)) (sym is) (shows (entry_at eq key es) refl)
      where
        shows : (o : Option (Entry K V)) → entry_at eq key es ≡ o
            → IfSome {T = V × Ticket} (option_map (λ e. (e.value, e.ticket)) (unexpired settings valid_after now o)) (λ f. holds key f.0)
        shows None there = tt
        shows (Some e) there =
            let same_key = found_passes (λ x. eq key x.key) es e there in
            let good = agrees e.key key e.value (laws.symm e.key key ∙ same_key) (found_has Meets (λ x. eq key x.key) es e meet there) in
            elim (cases_Bool (is_expired settings valid_after now e)) [
              | inl old ↦ rw old tt
              | inr counts ↦ rw counts good
            ]

    -- so does what is found in a slot, if that is the key's
    pub found_in_slot_meets : (eq : K → K → Bool) → IsEquivalence eq
        → ((key other : K) (value : V) → eq key other ≡ true → holds key value → holds other value) → {S : Type 0} (settings : Settings S)
        (valid_after now : ℕ) (key : K) (slots : List (Option (Entry K V))) (slot : Option ℕ)
        → IfSome slot (λ s. entry_in slots s ≡ entry_at eq key (entries_in slots)) → AllMeet holds (entries_in slots)
        → (answer : Result (Option (V × Ticket)) MemoryError)
        → IfOk answer (λ found. found ≡ option_map (λ e. (e.value, e.ticket)) (unexpired settings valid_after now (entry_found slots slot)))
        → IfOk answer (λ found. IfSome {T = V × Ticket} found (λ f. holds key f.0))
    found_in_slot_meets eq laws agrees settings valid_after now key slots None own meet (Err error) is = tt
    found_in_slot_meets eq laws agrees settings valid_after now key slots None own meet (Ok found) is =
        subst (λ o. IfSome {T = V × Ticket} o (λ f. holds key f.0)) (sym is) tt
    found_in_slot_meets eq laws agrees settings valid_after now key slots (Some slot) own meet answer is =
        found_meets eq laws agrees settings valid_after now key (entries_in slots) meet answer
        (subst (λ o. IfOk answer (λ found. found ≡ option_map (λ e. (e.value, e.ticket)) (unexpired settings valid_after now o))) own is)

    -- so does the value that counts
    pub value_meets : (eq : K → K → Bool) → IsEquivalence eq
        → ((key other : K) (value : V) → eq key other ≡ true → holds key value → holds other value) → {S : Type 0} (settings : Settings S)
        (valid_after now : ℕ) (key : K) (es : List (Entry K V)) → AllMeet holds es
        → IfSome (option_map (λ e. e.value) (unexpired settings valid_after now (entry_at eq key es))) (λ value. holds key value)
    value_meets eq laws agrees settings valid_after now key es meet = shows (entry_at eq key es) refl
      where
        shows : (o : Option (Entry K V)) → entry_at eq key es ≡ o
            → IfSome (option_map (λ e. e.value) (unexpired settings valid_after now o)) (λ value. holds key value)
        shows None there = tt
        shows (Some e) there =
            let same_key = found_passes (λ x. eq key x.key) es e there in
            let good = agrees e.key key e.value (laws.symm e.key key ∙ same_key) (found_has Meets (λ x. eq key x.key) es e meet there) in
            elim (cases_Bool (is_expired settings valid_after now e)) [
              | inl old ↦ rw old tt
              | inr counts ↦ rw counts good
            ]

    -- the pairs that count meet it
    pub pairs_meet : {S : Type 0} (settings : Settings S) (valid_after now : ℕ) (shard : ShardState K V S) → AllMeet holds shard.entries
        → PairsMeet holds (pairs_at settings valid_after now shard)
    pairs_meet settings valid_after now shard meet =
        All-map (λ p. holds p.0 p.1) (λ e. (e.key, e.value)) _
        (All-filter (λ e. not (is_expired settings valid_after now e)) Meets shard.entries meet)

  -- the pairs that count come once by their keys
  pub pairs_once : {S : Type 0} (eq : K → K → Bool) (settings : Settings S) (valid_after now : ℕ) (shard : ShardState K V S)
      → IsDistinct eq (map (λ e. e.key) shard.entries) → IsDistinct eq
      (map {A = K × V} (λ p. p.0) (pairs_at settings valid_after now shard))
  unfolding IsDistinct
  pairs_once eq settings valid_after now shard once = kept shard.entries once
    where
      counts : Entry K V → Bool
      counts e = not (is_expired settings valid_after now e)

      shown : List (Entry K V) → List K
      shown es = map {A = K × V} (λ p. p.0) (map (λ (e : Entry K V). (e.key, e.value)) (filter counts es))

      differ : (key : K) (es : List (Entry K V)) → AllByRecursion (λ k. eq key k ≡ false) (map (λ e. e.key) es)
          → AllByRecursion (λ k. eq key k ≡ false) (shown es)
      differ key [] none = tt
      differ key (e ∷ es) (here, rest) =
          elim (cases_Bool (counts e)) [
            | inl stays ↦ rw stays (here, differ key es rest)
            | inr goes ↦ rw goes (differ key es rest)
          ]

      kept : (es : List (Entry K V)) → IsDistinct eq (map (λ e. e.key) es) → IsDistinct eq (shown es)
      kept [] once = tt
      kept (e ∷ es) (here, rest) =
          elim (cases_Bool (counts e)) [
            | inl stays ↦ rw stays (differ e.key es here, kept es rest)
            | inr goes ↦ rw goes (kept es rest)
          ]
