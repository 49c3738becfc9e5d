use Rattle.std.proofs.Common.{◌≡◌, ◌∙◌, ℕ, Bool, Option, None, Some, IfSome, IsSome, inl, inr, is_some, subst, sym, ap, true}
use Rattle.std.proofs.lemmas.Bool.{cases_Bool, false≢true}
use Rattle.moka_list.specs.HashIndex.{candidates, FindsFirst}
use Rattle.moka_sync_model.specs.declared.ticket.Ticket.{Ticket}
use Rattle.moka_sync_model.specs.Entry.{Entry, entry_of}
use Rattle.moka_sync_model.specs.Ticket.{same_ticket}
use Rattle.moka_sync_model.proofs.TicketLemmas.{same_is, same_self}
use Rattle.moka_shard.specs.Shard.{entries_in, entry_found, entry_in}
use Rattle.moka_shard.proofs.SlotLemmas.{entry_of-is, entry_of-none_stays, fails, passes, valid, IsTested}
use Rattle.moka_shard.proofs.shard.Shard.find_ticket.Goals.{After-find}
use Rattle.moka_shard.proofs.shard.Shard.find_ticket.Goals as goal

module _ (g : _) (c : After-find g) where
  -- what a search tests of an entry
  abbrev test : Entry g.row.K.Denot g.row.V.Denot → Bool
  test e = same_ticket e.ticket c.args.ticket

  -- a search that answers this
  abbrev Finds : Option ℕ → Type 0
  Finds = FindsFirst (IsTested test c.self.inside.slots.slots) (candidates c.self.inside.index c.args.ticket.hash)

  -- what is found is the ticket's, and else it has no entry
  value : (r : Option ℕ) → Finds r
      → entry_found c.self.inside.slots.slots r ≡ entry_of c.args.ticket (entries_in c.self.inside.slots.slots)
  value (Some i) s =
      let slots = c.self.inside.slots.slots in
      let p = passes test slots c.self.inside.index c.args.ticket.hash c.self.invariant.1 i s in
      p.1 ∙ sym (entry_of-is _ c.self.invariant.0 i p.0 p.1)
      ∙ ap (λ (t : Ticket). entry_of t (entries_in slots)) (same_is p.0.ticket c.args.ticket p.2)
  value None s =
      let slots = c.self.inside.slots.slots in
      sym (entry_of-none_stays slots c.args.ticket (λ i e here. elim (cases_Bool (same_ticket c.args.ticket e.ticket)) [
        | inl same ↦
            let is : c.args.ticket ≡ e.ticket = same_is c.args.ticket e.ticket same in
            let hash = ap (λ (t : Ticket). t.hash) (sym is) in
            absurd (false≢true (sym (fails test slots c.self.inside.index c.args.ticket.hash c.self.invariant.1 s i e here hash)
            ∙ subst (λ t. same_ticket t c.args.ticket ≡ true) is (same_self c.args.ticket)))
        | inr other ↦ other
      ]))

  -- what is found is an entry
  found : (r : Option ℕ) → Finds r → IfSome r (λ i. IsSome (entry_in c.self.inside.slots.slots i))
  found None s = tt
  found (Some i) s =
      ap is_some (passes test c.self.inside.slots.slots c.self.inside.index c.args.ticket.hash c.self.invariant.1 i s).1

pub returns-clause-value : goal.returns-clause-value
returns-clause-value g c = rw (← c.self.view_is) (value g c c.find.result c.find.ensures)

pub returns-clause-found : goal.returns-clause-found
returns-clause-found g c = rw (← c.self.view_is) (found g c c.find.result c.find.ensures)

pub returns-clause-valid : goal.returns-clause-valid
returns-clause-valid g c = rw (← c.self.view_is) (valid _ c.self.invariant.0)
