-- The shards of the map: each has its number, and a key's entry stands in the shard that its hash belongs to.
use Rattle.std.proofs.Common.{◌≡◌, ◌≢◌, ℕ, suc, ◌+◌, ◌<◌, true, false, List, [], ◌∷◌}
use Rattle.std.proofs.Common.{◌++◌, length, map, get_or, Some, None, refl, sym}
use Rattle.std.proofs.Common.{◌∙◌, ap, subst, arith, inl, inr, add-zero, zero-add, lit<, append_assoc, replicate}
use Rattle.std.proofs.Math.ListN.{set}
use Rattle.std.specs.Cmp.{IsEquivalence}
use Rattle.std.specs.List.{All, find}
use Rattle.std.proofs.lemmas.Bool.{cases_Bool, false_from_ne_true}
use Rattle.std.proofs.lemmas.Nat.{mod_below}
use Rattle.std.proofs.lemmas.List.{append-nil, length-map, length-set, length_push, map_push, replicate_more}
use Rattle.std.proofs.lemmas.List.Elements.{All-head, All-tail}
use Rattle.moka_common.specs.Keys.{Keys}
use Rattle.moka_sync_model.specs.declared.constants.TheConstants.{SHARDS}
use Rattle.moka_sync_model.specs.Entry.{Entry, entry_at}
use Rattle.moka_sync_model.specs.Ticket.{shard_of}
use Rattle.moka_sync_model.specs.Parts.{ShardState, AreShardsFrom, IsValidShard, entries_of}
use Rattle.moka_sync_model.proofs.ListLemmas.{find-append, find-append_none}
use Rattle.moka_shard.specs.Shard.{Shard, state_of}
use Rattle.moka_core.specs.Shards.{IsOwnShard, AreOwnFrom, AreOwn, states_of}

-- what is found in a list has what all of it have
pub found_has : {X : Type 0} (P : X → Type 0) (p : X → Rattle.std.proofs.Common.Bool) (xs : List X) (x : X) → All P xs
    → find p xs ≡ Some x → P x
found_has P p [] x all found = absurd (cc)
found_has P p (y ∷ ys) x all found =
    elim (cases_Bool (p y)) [
      | inl passes ↦
          let is : Some y ≡ Some x = rw passes at found in
          let same : y ≡ x = cc in
          subst P same (All-head P y ys all)
      | inr fails ↦ found_has P p ys x (All-tail P y ys all) (rw fails at found)
    ]

module _ {K V S : Type 0} where
  -- the shard at a place, as the definitions see it
  pub state_there : (shards : List (Shard K V S)) (i : ℕ) (shard : Shard K V S) → i < length shards → shard ≡ get_or shards i shard
      → state_of shard ≡ get_or (states_of shards) i (state_of shard)
  state_there [] i shard below there = absurd (omega arith)
  state_there (s ∷ shards) Prim.Native.Nat.zero shard below there = ap state_of there
  state_there (s ∷ shards) (suc i) shard below there = state_there shards i shard (omega arith) there

module _ {K V S : Type 0} (keys : Keys K S) (state : S) where
  -- the shards are numbered
  pub are_numbered : (number : ℕ) (shards : List (ShardState K V S)) → AreOwnFrom keys state number shards → AreShardsFrom number shards
  are_numbered number [] own = tt
  are_numbered number (s ∷ shards) own = (
    record {
      numbered = own.0.numbered;
      belong = subst (λ n. All (λ e. shard_of e.ticket.hash ≡ n) s.entries) own.0.numbered own.0.valid.belong;
    },
    are_numbered (suc number) shards own.1,
  )

  -- the shard at a place has its number
  pub own_at : (number i : ℕ) (shards : List (ShardState K V S)) (d : ShardState K V S) → AreOwnFrom keys state number shards
      → i < length shards → IsOwnShard keys state (number + i) (get_or shards i d)
  own_at number i [] d are below = absurd (omega arith)
  own_at number Prim.Native.Nat.zero (shard ∷ shards) d are below = rw add-zero are.0
  own_at number (suc i) (shard ∷ shards) d are below =
      let same : suc number + i ≡ number + suc i = omega arith in
      subst (λ n. IsOwnShard keys state n (get_or shards i d)) same (own_at (suc number) i shards d are.1 (omega arith))

  -- another shard in the place of one of its number
  AreOwnFrom-set : (number i : ℕ) (shards : List (ShardState K V S)) (new : ShardState K V S) → AreOwnFrom keys state number shards
      → IsOwnShard keys state (number + i) new → AreOwnFrom keys state number (set shards i new)
  AreOwnFrom-set number i [] new are is = tt
  AreOwnFrom-set number Prim.Native.Nat.zero (shard ∷ shards) new are is = (rw add-zero at is, are.1)
  AreOwnFrom-set number (suc i) (shard ∷ shards) new are is =
      let same : number + suc i ≡ suc number + i = omega arith in
      (are.0, AreOwnFrom-set (suc number) i shards new are.1 (subst (λ n. IsOwnShard keys state n new) same is))

  -- one shard more
  pub AreOwnFrom-push : (number : ℕ) (shards : List (ShardState K V S)) (new : ShardState K V S) → AreOwnFrom keys state number shards
      → IsOwnShard keys state (number + length shards) new → AreOwnFrom keys state number (shards ++ new ∷ [])
  AreOwnFrom-push number [] new are is = (rw add-zero at is, tt)
  AreOwnFrom-push number (shard ∷ shards) new are is =
      let same : number + suc (length shards) ≡ suc number + length shards = omega arith in
      (are.0, AreOwnFrom-push (suc number) shards new are.1 (subst (λ n. IsOwnShard keys state n new) same is))

  -- another shard in the place of one of its number
  pub AreOwn-set : (shards : List (ShardState K V S)) (i : ℕ) (new : ShardState K V S) → AreOwn keys state shards
      → IsOwnShard keys state i new → AreOwn keys state (set shards i new)
  AreOwn-set shards i new are is =
      record { count = length-set shards i new ∙ are.count; each = AreOwnFrom-set 0 i shards new are.each (rw zero-add is) }

  -- the shard of a hash
  pub own_shard : (shards : List (ShardState K V S)) (hash i : ℕ) (shard : ShardState K V S) → AreOwn keys state shards
      → i ≡ shard_of hash → shard ≡ get_or shards i shard → IsOwnShard keys state i shard
  own_shard shards hash i shard are own there =
      let below : i < length shards = rw (are.count, own) (mod_below hash SHARDS (lit< tt)) in
      let at : IsOwnShard keys state i (get_or shards i shard) = rw zero-add at (own_at 0 i shards shard are.each below) in
      subst (IsOwnShard keys state i) (sym there) at

  -- a shard's number is below the number of shards
  pub shard_below : (shards : List (ShardState K V S)) (hash i : ℕ) → AreOwn keys state shards → i ≡ shard_of hash → i < length shards
  shard_below shards hash i are own = rw (are.count, own) (mod_below hash SHARDS (lit< tt))

module _ {K V S : Type 0} (keys : Keys K S) (laws : IsEquivalence keys.eq)
    (respects : (s : S) (x y : K) → keys.eq x y ≡ true → keys.hash_of s x ≡ keys.hash_of s y) (state : S) where
  -- a shard of another number has no entry of the key
  none_in_other : (number : ℕ) (shard : ShardState K V S) (key : K) → IsOwnShard keys state number shard
      → shard_of (keys.hash_of state key) ≢ number → entry_at keys.eq key shard.entries ≡ None
  none_in_other number shard key is elsewhere = among shard.entries is.valid.belong is.valid.hashed
    where
      among : (es : List (Entry K V)) → All (λ e. shard_of e.ticket.hash ≡ shard.number) es
          → All (λ e. e.ticket.hash ≡ keys.hash_of shard.hash_state e.key) es → entry_at keys.eq key es ≡ None
      among [] belong hashed = refl
      among (e ∷ es) belong hashed =
          let here = All-head (λ (x : Entry K V). shard_of x.ticket.hash ≡ shard.number) e es belong in
          let hash = All-head (λ (x : Entry K V). x.ticket.hash ≡ keys.hash_of shard.hash_state x.key) e es hashed in
          let apart : keys.eq key e.key ≡ false =
          false_from_ne_true (keys.eq key e.key)
          (λ equal. elsewhere (ap shard_of (respects state key e.key equal ∙ ap (λ s. keys.hash_of s e.key) (sym is.shared)
          ∙ sym hash) ∙ here
          ∙ is.numbered)) in
          rw apart
          (among es (All-tail (λ (x : Entry K V). shard_of x.ticket.hash ≡ shard.number) e es belong)
          (All-tail (λ (x : Entry K V). x.ticket.hash ≡ keys.hash_of shard.hash_state x.key) e es hashed))

  -- nor have shards of higher numbers
  none_in_higher : (number : ℕ) (shards : List (ShardState K V S)) (key : K) → AreOwnFrom keys state number shards
      → shard_of (keys.hash_of state key) < number → entry_at keys.eq key (entries_of shards) ≡ None
  none_in_higher number [] key are lower = refl
  none_in_higher number (shard ∷ shards) key are lower =
      find-append (λ e. keys.eq key e.key) shard.entries (entries_of shards) (none_in_other number shard key are.0 (omega arith))
      ∙ none_in_higher (suc number) shards key are.1 (omega arith)

  -- the entry of a key among all shards is that in its own
  entry_at-from : (number i : ℕ) (shards : List (ShardState K V S)) (d : ShardState K V S) (key : K) → AreOwnFrom keys state number shards
      → shard_of (keys.hash_of state key) ≡ number + i → i < length shards
      → entry_at keys.eq key (entries_of shards) ≡ entry_at keys.eq key (get_or shards i d).entries
  entry_at-from number i [] d key are at below = absurd (omega arith)
  entry_at-from number Prim.Native.Nat.zero (shard ∷ shards) d key are at below =
      find-append_none (λ e. keys.eq key e.key) shard.entries (entries_of shards)
      (none_in_higher (suc number) shards key are.1 (omega arith))
  entry_at-from number (suc i) (shard ∷ shards) d key are at below =
      find-append (λ e. keys.eq key e.key) shard.entries (entries_of shards) (none_in_other number shard key are.0 (omega arith))
      ∙ entry_at-from (suc number) i shards d key are.1 (omega arith) (omega arith)

  -- a key's entry in the map is that in its own shard
  pub entry_at-own : (shards : List (ShardState K V S)) (i : ℕ) (shard : ShardState K V S) (key : K) → AreOwn keys state shards
      → i ≡ shard_of (keys.hash_of state key) → shard ≡ get_or shards i shard
      → entry_at keys.eq key shard.entries ≡ entry_at keys.eq key (entries_of shards)
  entry_at-own shards i shard key are own there =
      ap (λ (s : ShardState K V S). entry_at keys.eq key s.entries) there
      ∙ sym (entry_at-from 0 i shards shard key are.each (sym own ∙ sym (zero-add i))
      (shard_below keys state shards (keys.hash_of state key) i are own))

-- the shard of a hash, as it stands among the shards
module _ {K V S : Type 0} (keys : Keys K S) (state : S) (shards : List (Shard K V S))
    (are : AreOwn keys state (states_of shards)) (hash : ℕ)
    (shard : Shard K V S) (there : shard ≡ get_or shards (shard_of hash) shard) where
  pub here_below : shard_of hash < length (states_of shards)
  here_below = shard_below keys state (states_of shards) hash (shard_of hash) are refl

  pub here_state : state_of shard ≡ get_or (states_of shards) (shard_of hash) (state_of shard)
  here_state =
      let below : shard_of hash < length shards = omega (arith, here_below, length-map shards state_of) in
      state_there shards (shard_of hash) shard below there

  -- it is the one of its number, and has the hash state of all
  pub here_own : IsOwnShard keys state (shard_of hash) (state_of shard)
  here_own = own_shard keys state (states_of shards) hash (shard_of hash) (state_of shard) are refl here_state

-- shards as they are built
module _ {K V S : Type 0} (keys : Keys K S) (state : S) where
  -- so many shards without entries, which give out the number 0 first
  pub record AreBuilt (number : ℕ) (shards : List (ShardState K V S)) : Type 0 where
    pub own : AreOwnFrom keys state 0 shards
    pub count : length shards ≡ number
    pub empty : entries_of shards ≡ []
    pub numbers : map (λ s. s.next_number) shards ≡ replicate number 0

  -- and one more
  pub AreBuilt-push : (number : ℕ) (shards : List (ShardState K V S)) (new : ShardState K V S) → AreBuilt number shards
      → new ≡ record { number = number; next_number = 0; entries = []; hash_state = state } → IsValidShard keys new
      → AreBuilt (number + 1) (shards ++ new ∷ [])
  AreBuilt-push number shards new built is valid =
      let numbered : new.number ≡ 0 + length shards =
      ap (λ (s : ShardState K V S). s.number) is ∙ sym built.count ∙ sym (zero-add (length shards)) in
      let none : new.entries ≡ [] = ap (λ (s : ShardState K V S). s.entries) is in
      let first : new.next_number ≡ 0 = ap (λ (s : ShardState K V S). s.next_number) is in
      record {
        own =
            AreOwnFrom-push keys state 0 shards new built.own
            (record { numbered = numbered; shared = ap (λ (s : ShardState K V S). s.hash_state) is; valid = valid });
        count = length_push shards new ∙ ap (λ n. n + 1) built.count;
        empty = entries-push shards new ∙ ap (λ es. es ++ new.entries) built.empty ∙ none;
        numbers =
            map_push (λ (s : ShardState K V S). s.next_number) shards new ∙ ap (λ ns. ns ++ new.next_number ∷ []) built.numbers
            ∙ ap (λ n. replicate number 0 ++ n ∷ []) first ∙ replicate_more number 0;
      }
    where
      entries-push : (shards : List (ShardState K V S)) (new : ShardState K V S)
          → entries_of (shards ++ new ∷ []) ≡ entries_of shards ++ new.entries
      entries-push [] new = append-nil new.entries
      entries-push (s ∷ shards) new =
          ap (λ es. s.entries ++ es) (entries-push shards new) ∙ sym (append_assoc s.entries (entries_of shards) new.entries)
