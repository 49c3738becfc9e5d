use Rattle.std.proofs.Common.{◌≡◌, ◌∙◌, ◌&&◌, ℕ, Bool, Option, None, Some, IfSome, IsSome, nat_eq, inl, inr, is_some, sym, ap}
use Rattle.std.proofs.lemmas.Bool.{and_from, and_parts, cases_Bool, eq-eqb, false≢true}
use Rattle.moka_list.specs.HashIndex.{candidates, FindsFirst}
use Rattle.moka_common.proofs.KeysLemmas.{keys_by-respects}
use Rattle.moka_common.specs.Keys.{keys_by}
use Rattle.moka_sync_model.specs.Entry.{Entry, entry_at}
use Rattle.moka_shard.specs.Shard.{entries_in, entry_found, entry_in}
use Rattle.moka_shard.proofs.SlotLemmas.{entry_at-is, fails, has_hash, passes, valid, IsTested}
use Rattle.moka_shard.proofs.SlotListLemmas.{find-none}
use Rattle.moka_shard.proofs.shard.Shard.find.Goals.{After-find}
use Rattle.moka_shard.proofs.shard.Shard.find.Goals as goal

module _ (g : _) (c : After-find g) where
  -- what a search tests of an entry
  abbrev test : Entry g.row.K.Denot g.row.V.Denot → Bool
  test e = nat_eq e.ticket.hash c.args.hash && g.K.PartialEq.eq c.args.key.now e.key

  -- a search that answers this
  abbrev Finds : Option ℕ → Type 0
  Finds = FindsFirst (IsTested test c.self.inside.slots.slots) (candidates c.self.inside.index c.args.hash)

  -- what is found is the key's
  found : (i : ℕ) → Finds (Some i)
      → IsSome (entry_in c.self.inside.slots.slots i)
      × (entry_in c.self.inside.slots.slots i ≡ entry_at g.K.PartialEq.eq c.args.key.now (entries_in c.self.inside.slots.slots))
  found i s =
      let p = passes test c.self.inside.slots.slots c.self.inside.index c.args.hash c.self.invariant.1 i s in
      let equal = (and_parts (nat_eq p.0.ticket.hash c.args.hash) (g.K.PartialEq.eq c.args.key.now p.0.key) p.2).1 in (
        ap is_some p.1,
        p.1 ∙ sym (entry_at-is _ c.self.invariant.0 g.met.K.Eq.laws c.args.key.now i p.0 p.1 equal),
      )

  -- so it is for each answer, by the key's own hash
  value : (r : Option ℕ) → Finds r
      → c.args.hash ≡ (keys_by (record { eq = g.K.PartialEq.eq; hash_input = g.K.Hash.hash_input }) g.S.BuildHasher g.S.Hasher.Hasher).hash_of
      c.self.inside.hash_state c.args.key.now
      → entry_found c.self.inside.slots.slots r ≡ entry_at g.K.PartialEq.eq c.args.key.now (entries_in c.self.inside.slots.slots)
  value (Some i) s own = (found i s).1
  value None s own =
      let eq = g.K.PartialEq.eq in
      let key = c.args.key.now in
      let slots = c.self.inside.slots.slots in
      let respects =
      keys_by-respects (record { eq = g.K.PartialEq.eq; hash_input = g.K.Hash.hash_input }) g.S.BuildHasher g.S.Hasher.Hasher
      g.met.K.Hash.respects_eq in
      sym (find-none (λ e. eq key e.key) slots (λ i e here. elim (cases_Bool (eq key e.key)) [
        | inl equal ↦
            let hash = has_hash _ c.self.invariant.0 respects key i e here equal ∙ sym own in
            absurd (false≢true (sym (fails test slots c.self.inside.index c.args.hash c.self.invariant.1 s i e here hash)
            ∙ and_from (nat_eq e.ticket.hash c.args.hash) (eq key e.key) (eq-eqb e.ticket.hash c.args.hash hash) equal))
        | inr other ↦ other
      ]))

  -- and where something is found
  of_found : {P : ℕ → Type 0} (r : Option ℕ) → Finds r → ((i : ℕ) → Finds (Some i) → P i) → IfSome r P
  of_found None s h = tt
  of_found (Some i) s h = h i s

pub returns-clause-value : goal.returns-clause-value
returns-clause-value g c = rw (← c.self.view_is) (value g c c.find.result c.find.ensures)

pub returns-clause-found : goal.returns-clause-found
returns-clause-found g c = rw (← c.self.view_is) (of_found g c c.find.result c.find.ensures (λ i s. (found g c i s).0))

pub returns-clause-same : goal.returns-clause-same
returns-clause-same g c = rw (← c.self.view_is) (of_found g c c.find.result c.find.ensures (λ i s. (found g c i s).1))

pub returns-clause-permitted : goal.returns-clause-permitted
returns-clause-permitted g c = rw (← c.self.view_is) (record { valid = valid _ c.self.invariant.0; ruled = c.self.invariant.2 })
