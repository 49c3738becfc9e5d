-- A step on a shard is the step on the map.
use Rattle.std.proofs.Common.{◌≡◌, ℕ, suc, ◌+◌, ◌<◌, ◌==◌, Bool, true, false, List, []}
use Rattle.std.proofs.Common.{◌∷◌, length, map, get_or, Option, Some, None, refl, sym}
use Rattle.std.proofs.Common.{◌∙◌, ap, subst, arith, inl, inr, zero-add, Result, Ok}
use Rattle.std.proofs.Math.ListN.{set}
use Rattle.std.proofs.lemmas.List.{map-set, set-get_or}
use Rattle.std.proofs.lemmas.Bool.{cases_Bool}
use Rattle.moka_common.specs.Keys.{Keys}
use Rattle.moka_common.specs.Settings.{Settings}
use Rattle.moka_common.specs.declared.error.InsertError.{InsertError}
use Rattle.moka_sync_model.specs.declared.constants.TheConstants.{MAX_OUTSTANDING, NO_TICKET}
use Rattle.moka_sync_model.specs.declared.ticket.Ticket.{Ticket}
use Rattle.moka_sync_model.specs.Ticket.{shard_of}
use Rattle.moka_sync_model.specs.CoreState.{Maintenance}
use Rattle.moka_sync_model.specs.Entry.{Entry, entry_at, entry_of, updated}
use Rattle.moka_sync_model.specs.MapStep.{AddsEntry}
use Rattle.moka_sync_model.specs.Parts.{ShardState, IsValidShard, entries_of}
use Rattle.moka_sync_model.specs.Turn.Plan.{Change, Becomes, Leaves, after_change}
use Rattle.moka_sync_model.proofs.PartsLemmas.{entry_of-shards, fate-shards, next_numbers-set, AddsEntry-shards}
use Rattle.moka_shard.specs.ShardStep.{IsInsert, IsInvalidation, fresh_entry}
use Rattle.moka_core.specs.Shards.{IsOwnShard, AreOwn, map_in}
use Rattle.moka_core.specs.MapState.{MapState, IsInserted, IsInvalidated, fresh_entry as fresh_in_map}
use Rattle.moka_shard.specs.ShardTurn.{TurnsOnShard}
use Rattle.moka_core.specs.MapTurn.{TurnsOnMap}
use Rattle.moka_core.proofs.ShardsLemmas.{are_numbered, found_has}

-- a field of the element at a place
get_or-field : {X : Type 0} (f : X → ℕ) (xs : List X) (i : ℕ) (d : X) → i < length xs → get_or (map f xs) i 0 ≡ f (get_or xs i d)
get_or-field f [] i d below = absurd (omega arith)
get_or-field f (x ∷ xs) Prim.Native.Nat.zero d below = refl
get_or-field f (x ∷ xs) (suc i) d below = get_or-field f xs i d (omega arith)

module _ {K V S : Type 0} (keys : Keys K S) (settings : Settings S) (shards : List (ShardState K V S))
    (are : AreOwn keys settings.hash_state shards) (i : ℕ) (old : ShardState K V S) (below : i < length shards)
    (there : old ≡ get_or shards i old) where
  -- the map that shards make up
  abbrev pub the_map : List (ShardState K V S) → MapState K V S
  the_map = map_in settings

  -- where the shard is as it was, so is the map
  same_map : (new : ShardState K V S) → new ≡ old → the_map (set shards i new) ≡ the_map shards
  same_map new is = ap the_map (ap (set shards i) (is ∙ there) ∙ set-get_or shards i old)

  -- where an entry of the shard is changed, it is changed in the map
  pub changed_map : (t : Ticket) (change : Change K V) (new : ShardState K V S) → shard_of t.hash ≡ i
      → new ≡ record old { entries = after_change t change old.entries }
      → the_map (set shards i new) ≡ record (the_map shards) { entries = after_change t change (entries_of shards) }
  changed_map t change new own is =
      let at = get_or shards i old in
      let same : new ≡ record at { entries = after_change t change at.entries } =
      is ∙ ap (λ (s : ShardState K V S). record s { entries = after_change t change s.entries }) there in
      ap (λ s. the_map (set shards i s)) same
      ∙ ap (λ es. record (the_map shards) {
        entries = es;
        next_numbers =
            map (λ (s : ShardState K V S). s.next_number) (set shards i (record at { entries = after_change t change at.entries }));
      })
      (sym (fate-shards t change 0 i shards old (are_numbered keys settings.hash_state 0 shards are.each) (own ∙ sym (zero-add i)) below))
      ∙ ap (λ ns. record (the_map shards) { entries = after_change t change (entries_of shards); next_numbers = ns })
      (next_numbers-set shards i old (after_change t change at.entries) below)

  module _ (was : IsOwnShard keys settings.hash_state i old) (hash : ℕ) (own : i ≡ shard_of hash) where
    -- an entry that stands in the shard belongs to it
    belongs : (key : K) (e : Entry K V) → entry_at keys.eq key old.entries ≡ Some e → shard_of e.ticket.hash ≡ i
    belongs key e found =
        found_has (λ (x : Entry K V). shard_of x.ticket.hash ≡ old.number) (λ x. keys.eq key x.key) old.entries e was.valid.belong found
        ∙ was.numbered

    next : get_or (map (λ (s : ShardState K V S). s.next_number) shards) i 0 ≡ old.next_number
    next = get_or-field (λ (s : ShardState K V S). s.next_number) shards i old below
        ∙ ap (λ (s : ShardState K V S). s.next_number) (sym there)

    same_fresh : (key : K) (value : V) (weight now : ℕ)
        → fresh_entry old hash key value weight now ≡ fresh_in_map (the_map shards) hash key value weight now
    same_fresh key value weight now =
        ap (λ n. record {
          key = key;
          value = value;
          weight = weight;
          accessed = now;
          modified = now;
          ticket = record { hash = hash; number = n };
          outstanding = 1;
        }) (sym next ∙ ap (λ j. get_or (map (λ (s : ShardState K V S). s.next_number) shards) j 0) own)

    -- an insert
    pub inserted : (new : ShardState K V S) (key : K) (value : V) (weight now : ℕ) (refused : Bool) (answer : Result Ticket InsertError)
        (o : Option (Entry K V)) → entry_at keys.eq key old.entries ≡ o → IsInsert old hash key value weight now refused o answer new
        → IsInserted (the_map shards) hash key value weight now refused o answer (the_map (set shards i new))
    inserted new key value weight now true answer o found step = (step.0, same_map new step.1)
    inserted new key value weight now false answer (Some e) found step =
        elim (cases_Bool (e.outstanding == MAX_OUTSTANDING)) [
          | inl full ↦ let ends = rw full at step in rw full (ends.0, same_map new ends.1)
          | inr few ↦
              let ends = rw few at step in
              rw few (ends.0, changed_map e.ticket (Becomes (updated value weight now)) new (belongs key e found) ends.1)
        ]
    inserted new key value weight now false answer None found step =
        let fresh = fresh_in_map (the_map shards) hash key value weight now in
        let same = same_fresh key value weight now in
        let same_number : old.next_number ≡ fresh.ticket.number = ap (λ (e : Entry K V). e.ticket.number) same in
        elim (cases_Bool (fresh.ticket.number == NO_TICKET)) [
          | inl used ↦
              let test : (old.next_number == NO_TICKET) ≡ true = ap (λ n. n == NO_TICKET) same_number ∙ used in
              let ends = rw test at step in
              rw used (ends.0, same_map new ends.1)
          | inr left ↦
              let test : (old.next_number == NO_TICKET) ≡ false = ap (λ n. n == NO_TICKET) same_number ∙ left in
              let ends = rw test at step in
              let is : new ≡ record old { entries = ends.0; next_number = old.next_number + 1 } = ends.3 in
              let adds : AddsEntry (get_or shards i old).entries fresh new.entries =
              subst (λ (s : ShardState K V S). AddsEntry s.entries fresh new.entries) there
              (subst (λ es. AddsEntry old.entries fresh es) (ap (λ (s : ShardState K V S). s.entries) (sym is))
              (subst (λ e. AddsEntry old.entries e ends.0) same ends.1)) in
              let numbers =
              map-set (λ (s : ShardState K V S). s.next_number) shards i new
              ∙ ap (λ j. set (map (λ (s : ShardState K V S). s.next_number) shards) j new.next_number) own
              ∙ ap (λ n. set (map (λ (s : ShardState K V S). s.next_number) shards) (shard_of hash) n)
              (ap (λ (s : ShardState K V S). s.next_number) is ∙ ap (λ n. n + 1) same_number) in
              rw left (
                entries_of (set shards i new),
                AddsEntry-shards shards i old fresh new below adds,
                ends.2 ∙ ap (λ (e : Entry K V). Ok e.ticket) same,
                ap (λ ns. record (the_map shards) { entries = entries_of (set shards i new); next_numbers = ns }) numbers,
              )
        ]

    -- a turn at the entry of a ticket
    pub turned : (new : ShardState K V S) (valid_after : ℕ) (refused : Bool) (ticket : Ticket) (before after : Maintenance)
        → shard_of ticket.hash ≡ i → TurnsOnShard settings valid_after refused ticket before after old new
        → TurnsOnMap (the_map shards) (the_map (set shards i new)) valid_after refused before after
    turned new valid_after refused ticket before after here turns =
        let found : entry_of ticket old.entries ≡ entry_of ticket (entries_of shards) =
        ap (λ (s : ShardState K V S). entry_of ticket s.entries) there
        ∙ sym (entry_of-shards ticket 0 i shards old (are_numbered keys settings.hash_state 0 shards are.each)
        (here ∙ sym (zero-add i)) below) in
        record {
          ticket = ticket;
          looks = turns.looks;
          is = turns.is;
          maintenance = turns.maintenance ∙ ap (λ o. (turns.looks o).maintenance) found;
          map =
              changed_map ticket (turns.looks (entry_of ticket old.entries)).change new here turns.shard
              ∙ ap (λ o. record (the_map shards) { entries = after_change ticket (turns.looks o).change (entries_of shards) }) found;
        }

    -- an invalidation
    pub invalidated : (new : ShardState K V S) (key : K) (answer : Option Ticket) (o : Option (Entry K V))
        → entry_at keys.eq key old.entries ≡ o → IsInvalidation old o answer new
        → IsInvalidated (the_map shards) o answer (the_map (set shards i new))
    invalidated new key answer None found step = (step.0, same_map new step.1)
    invalidated new key answer (Some e) found step =
        (step.0, changed_map e.ticket Leaves new (belongs key e found) step.1)

module _ {K V S : Type 0} (keys : Keys K S) (state : S) (i : ℕ) (old new : ShardState K V S) (was : IsOwnShard keys state i old)
    (valid : IsValidShard keys new) where
  -- a shard with other entries and another next number is still the one of its number
  same_still : new ≡ old → IsOwnShard keys state i new
  same_still is = record {
    numbered = ap (λ (s : ShardState K V S). s.number) is ∙ was.numbered;
    shared = ap (λ (s : ShardState K V S). s.hash_state) is ∙ was.shared;
    valid = valid;
  }

  pub changed_still : (es : List (Entry K V)) (number : ℕ) → new ≡ record old { entries = es; next_number = number }
      → IsOwnShard keys state i new
  changed_still es number is = record {
    numbered = ap (λ (s : ShardState K V S). s.number) is ∙ was.numbered;
    shared = ap (λ (s : ShardState K V S). s.hash_state) is ∙ was.shared;
    valid = valid;
  }

  -- so it is after an insert
  pub own_inserted : (hash : ℕ) (key : K) (value : V) (weight now : ℕ) (refused : Bool) (answer : Result Ticket InsertError)
      (o : Option (Entry K V)) → IsInsert old hash key value weight now refused o answer new → IsOwnShard keys state i new
  own_inserted hash key value weight now true answer o step = same_still step.1
  own_inserted hash key value weight now false answer (Some e) step =
      elim (cases_Bool (e.outstanding == MAX_OUTSTANDING)) [
        | inl full ↦ let ends = rw full at step in same_still ends.1
        | inr few ↦ let ends = rw few at step in changed_still _ _ ends.1
      ]
  own_inserted hash key value weight now false answer None step =
      elim (cases_Bool (old.next_number == NO_TICKET)) [
        | inl used ↦ let ends = rw used at step in same_still ends.1
        | inr left ↦ let ends = rw left at step in changed_still _ _ ends.3
      ]

  -- after a turn
  pub own_turned : (settings : Settings S) (valid_after : ℕ) (refused : Bool) (ticket : Ticket) (before after : Maintenance)
      → TurnsOnShard settings valid_after refused ticket before after old new → IsOwnShard keys state i new
  own_turned settings valid_after refused ticket before after turns = changed_still _ _ turns.shard

  -- and after an invalidation
  pub own_invalidated : (answer : Option Ticket) (o : Option (Entry K V)) → IsInvalidation old o answer new → IsOwnShard keys state i new
  own_invalidated answer None step = same_still step.1
  own_invalidated answer (Some e) step = changed_still _ _ step.1
