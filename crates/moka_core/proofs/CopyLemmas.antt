-- The copy of a shard is that of the entries of its number.
use Rattle.std.proofs.Common.{◌≡◌, ◌≢◌, ℕ, zero, suc, ◌+◌, ◌<◌, ◌==◌, ◌&&◌, Bool, true, false, cond}
use Rattle.std.proofs.Common.{List, [], ◌∷◌, ◌++◌, length, get_or, refl, ap, ◌∙◌, subst, sym}
use Rattle.std.proofs.Common.{arith, zero-add}
use Rattle.std.specs.List.{All, filter}
use Rattle.std.proofs.lemmas.Bool.{eq-eqb, ne_eqb}
use Rattle.std.proofs.lemmas.List.{append-nil}
use Rattle.std.proofs.lemmas.List.Elements.{All-head, All-tail, filter-append}
use Rattle.moka_common.specs.Keys.{Keys}
use Rattle.moka_sync_model.specs.Entry.{Entry}
use Rattle.moka_sync_model.specs.Ticket.{shard_of}
use Rattle.moka_sync_model.specs.Parts.{ShardState, entries_of}
use Rattle.moka_core.specs.Shards.{IsOwnShard, AreOwnFrom}

module _ {K V : Type 0} (test : Entry K V → Bool) (i : ℕ) where
  -- those of the shard that pass
  abbrev own_passes : Entry K V → Bool
  own_passes e = (shard_of e.ticket.hash == i) && test e

  here : (es : List (Entry K V)) → All (λ e. shard_of e.ticket.hash ≡ i) es → filter own_passes es ≡ filter test es
  here [] belong = refl
  here (e ∷ es) belong =
      let own : (shard_of e.ticket.hash == i) ≡ true =
      eq-eqb (shard_of e.ticket.hash) i (All-head (λ (x : Entry K V). shard_of x.ticket.hash ≡ i) e es belong) in
      rw own (ap (λ xs. cond (test e) (e ∷ xs) xs) (here es (All-tail (λ (x : Entry K V). shard_of x.ticket.hash ≡ i) e es belong)))

  elsewhere : (number : ℕ) → number ≢ i → (es : List (Entry K V)) → All (λ e. shard_of e.ticket.hash ≡ number) es
      → filter own_passes es ≡ []
  elsewhere number other [] belong = refl
  elsewhere number other (e ∷ es) belong =
      let is = All-head (λ (x : Entry K V). shard_of x.ticket.hash ≡ number) e es belong in
      let apart : (shard_of e.ticket.hash == i) ≡ false = ne_eqb (shard_of e.ticket.hash) i (λ same. other (sym is ∙ same)) in
      rw apart (elsewhere number other es (All-tail (λ (x : Entry K V). shard_of x.ticket.hash ≡ number) e es belong))

  module _ {S : Type 0} (keys : Keys K S) (state : S) where
    belong : (number : ℕ) (s : ShardState K V S) → IsOwnShard keys state number s → All (λ e. shard_of e.ticket.hash ≡ number) s.entries
    belong number s own = subst (λ n. All (λ e. shard_of e.ticket.hash ≡ n) s.entries) own.numbered own.valid.belong

    higher : (number : ℕ) (shards : List (ShardState K V S)) → AreOwnFrom keys state number shards → i < number
        → filter own_passes (entries_of shards) ≡ []
    higher number [] own lower = refl
    higher number (s ∷ shards) own lower =
        filter-append own_passes s.entries (entries_of shards)
        ∙ ap (λ xs. xs ++ filter own_passes (entries_of shards)) (elsewhere number (omega arith) s.entries (belong number s own.0))
        ∙ higher (suc number) shards own.1 (omega arith)

    from : (number j : ℕ) (shards : List (ShardState K V S)) (d : ShardState K V S) → AreOwnFrom keys state number shards → i ≡ number + j
        → j < length shards → filter own_passes (entries_of shards) ≡ filter test (get_or shards j d).entries
    from number j [] d own at below = absurd (omega arith)
    from number zero (s ∷ shards) d own at below =
        let same : number ≡ i = omega (arith, at) in
        filter-append own_passes s.entries (entries_of shards)
        ∙ ap (λ xs. xs ++ filter own_passes (entries_of shards))
        (here s.entries (subst (λ n. All (λ e. shard_of e.ticket.hash ≡ n) s.entries) same (belong number s own.0)))
        ∙ ap (λ xs. filter test s.entries ++ xs) (higher (suc number) shards own.1 (omega (arith, at)))
        ∙ append-nil (filter test s.entries)
    from number (suc j) (s ∷ shards) d own at below =
        filter-append own_passes s.entries (entries_of shards)
        ∙ ap (λ xs. xs ++ filter own_passes (entries_of shards)) (elsewhere number (omega (arith, at)) s.entries (belong number s own.0))
        ∙ from (suc number) j shards d own.1 (omega (arith, at)) (omega arith)

    -- those that pass in the shard of a number are those of all shards that pass and belong to it
    pub filter-shard : (shards : List (ShardState K V S)) (d : ShardState K V S) → AreOwnFrom keys state 0 shards → i < length shards
        → filter test (get_or shards i d).entries ≡ filter own_passes (entries_of shards)
    filter-shard shards d own below = sym (from 0 i shards d own (sym (zero-add i)) below)
