-- What a change of the orders at one ticket leaves of the others.
use Rattle.std.proofs.Common.{◌≡◌, ℕ, Bool, true, false, List, [], ◌∷◌, Option, Some, None, refl, ◌∙◌, ap}
use Rattle.std.specs.Option.{option_map, is_some}
use Rattle.moka_sync_model.specs.declared.ticket.Ticket.{Ticket}
use Rattle.moka_sync_model.specs.Ticket.{same_ticket, of_ticket, AreApart}
use Rattle.moka_sync_model.specs.Orders.{Node, Orders, charge_of, is_written, without_node, with_node, with_write, used, rewritten, renewed}
use Rattle.moka_sync_model.specs.Orders.{recharged, all_used}
use Rattle.moka_sync_model.proofs.TicketLemmas.{of_ticket-without_same, of_ticket-without_other, of_ticket-moved, of_ticket-changed_same}
use Rattle.moka_sync_model.proofs.TicketLemmas.{of_ticket-changed_other, of_ticket-pushed_same, of_ticket-pushed_other, AreApart-without}
use Rattle.moka_sync_model.proofs.TicketLemmas.{AreApart-moved, AreApart-changed, AreApart-pushed}

-- only the ticket's node is another, and no node comes twice
pub record ChangesNode (t : Ticket) (old new : Orders) : Type 0 where
  pub charges : (s : Ticket) → same_ticket t s ≡ false → charge_of s new ≡ charge_of s old
  pub writes : (s : Ticket) → same_ticket t s ≡ false → is_written s new ≡ is_written s old
  pub nodes_apart : AreApart (λ n. n.ticket) old.access → AreApart (λ n. n.ticket) new.access
  pub writes_apart : AreApart (λ u. u) old.write → AreApart (λ u. u) new.write

-- the nodes are the same, in another order
pub record Reorders (old new : Orders) : Type 0 where
  pub charges : (s : Ticket) → charge_of s new ≡ charge_of s old
  pub writes : (s : Ticket) → is_written s new ≡ is_written s old
  pub nodes_apart : AreApart (λ n. n.ticket) old.access → AreApart (λ n. n.ticket) new.access
  pub writes_apart : AreApart (λ u. u) old.write → AreApart (λ u. u) new.write

pub Reorders-none : (o : Orders) → Reorders o o
Reorders-none o = record { charges = λ s. refl; writes = λ s. refl; nodes_apart = λ h. h; writes_apart = λ h. h }

pub Reorders-then : (a b c : Orders) → Reorders a b → Reorders b c → Reorders a c
Reorders-then a b c f g = record {
  charges = λ s. g.charges s ∙ f.charges s;
  writes = λ s. g.writes s ∙ f.writes s;
  nodes_apart = λ h. g.nodes_apart (f.nodes_apart h);
  writes_apart = λ h. g.writes_apart (f.writes_apart h);
}

pub ChangesNode-from : (t : Ticket) (a b : Orders) → Reorders a b → ChangesNode t a b
ChangesNode-from t a b f =
    record { charges = λ s d. f.charges s; writes = λ s d. f.writes s; nodes_apart = f.nodes_apart; writes_apart = f.writes_apart }

pub ChangesNode-then : (t : Ticket) (a b c : Orders) → ChangesNode t a b → Reorders b c → ChangesNode t a c
ChangesNode-then t a b c f g = record {
  charges = λ s d. g.charges s ∙ f.charges s d;
  writes = λ s d. g.writes s ∙ f.writes s d;
  nodes_apart = λ h. g.nodes_apart (f.nodes_apart h);
  writes_apart = λ h. g.writes_apart (f.writes_apart h);
}

-- ---- nodes that go to the back

pub Reorders-used : (t : Ticket) (o : Orders) → Reorders o (used t o)
Reorders-used t o = record {
  charges = λ s. ap (option_map (λ n. n.charge)) (of_ticket-moved (λ n. n.ticket) t s o.access);
  writes = λ s. refl;
  nodes_apart = AreApart-moved (λ n. n.ticket) t o.access;
  writes_apart = λ h. h;
}

pub Reorders-rewritten : (t : Ticket) (o : Orders) → Reorders o (rewritten t o)
Reorders-rewritten t o = record {
  charges = λ s. refl;
  writes = λ s. ap is_some (of_ticket-moved (λ u. u) t s o.write);
  nodes_apart = λ h. h;
  writes_apart = AreApart-moved (λ u. u) t o.write;
}

pub Reorders-renewed : (t : Ticket) (o : Orders) → Reorders o (renewed t o)
Reorders-renewed t o = Reorders-then o (rewritten t o) (renewed t o) (Reorders-rewritten t o) (Reorders-used t (rewritten t o))

pub Reorders-all_used : (ts : List Ticket) (o : Orders) → Reorders o (all_used ts o)
Reorders-all_used [] o = Reorders-none o
Reorders-all_used (t ∷ ts) o = Reorders-then o (used t o) (all_used ts (used t o)) (Reorders-used t o) (Reorders-all_used ts (used t o))

-- ---- the ticket's node

pub ChangesNode-without : (t : Ticket) (o : Orders) → ChangesNode t o (without_node t o)
ChangesNode-without t o = record {
  charges = λ s d. ap (option_map (λ n. n.charge)) (of_ticket-without_other (λ n. n.ticket) t s d o.access);
  writes = λ s d. ap is_some (of_ticket-without_other (λ u. u) t s d o.write);
  nodes_apart = AreApart-without (λ n. n.ticket) t o.access;
  writes_apart = AreApart-without (λ u. u) t o.write;
}

pub charge_of-without : (t : Ticket) (o : Orders) → charge_of t (without_node t o) ≡ None
charge_of-without t o = ap (option_map (λ n. n.charge)) (of_ticket-without_same (λ n. n.ticket) t o.access)

pub is_written-without : (t : Ticket) (o : Orders) → is_written t (without_node t o) ≡ false
is_written-without t o = ap is_some (of_ticket-without_same (λ u. u) t o.write)

none_from_map : {X Y : Type 0} (f : X → Y) (o : Option X) → option_map f o ≡ None → o ≡ None
none_from_map f None h = refl
none_from_map f (Some x) h = absurd (cc)

none_from_is_some : {X : Type 0} (o : Option X) → is_some o ≡ false → o ≡ None
none_from_is_some None h = refl
none_from_is_some (Some x) h = absurd (cc)

pub ChangesNode-with : (keeps : Bool) (t : Ticket) (w : ℕ) (o : Orders) → charge_of t o ≡ None → is_written t o ≡ false
    → ChangesNode t o (with_node keeps t w o)
ChangesNode-with keeps t w o none unwritten = record {
  charges =
      λ s d. ap (option_map (λ n. n.charge))
      (of_ticket-pushed_other (λ n. n.ticket) t s d (record { ticket = t; charge = w }) o.access refl);
  writes = λ s d. ap is_some (other keeps s d);
  nodes_apart = AreApart-pushed (λ n. n.ticket) (record { ticket = t; charge = w }) o.access (none_from_map (λ n. n.charge) _ none);
  writes_apart = once keeps;
}
  where
    other : (keeps : Bool) (s : Ticket) → same_ticket t s ≡ false
        → of_ticket (λ u. u) s (with_write keeps t o.write) ≡ of_ticket (λ u. u) s o.write
    other true s d = of_ticket-pushed_other (λ u. u) t s d t o.write refl
    other false s d = refl

    once : (keeps : Bool) → AreApart (λ u. u) o.write → AreApart (λ u. u) (with_write keeps t o.write)
    once true h = AreApart-pushed (λ u. u) t o.write (none_from_is_some _ unwritten) h
    once false h = h

pub charge_of-with : (keeps : Bool) (t : Ticket) (w : ℕ) (o : Orders) → charge_of t o ≡ None → charge_of t (with_node keeps t w o) ≡ Some w
charge_of-with keeps t w o none =
    ap (option_map (λ n. n.charge))
    (of_ticket-pushed_same (λ n. n.ticket) (record { ticket = t; charge = w }) o.access (none_from_map (λ n. n.charge) _ none))

pub is_written-with : (keeps : Bool) (t : Ticket) (w : ℕ) (o : Orders) → is_written t o ≡ false
    → is_written t (with_node keeps t w o) ≡ keeps
is_written-with true t w o none = ap is_some (of_ticket-pushed_same (λ u. u) t o.write (none_from_is_some _ none))
is_written-with false t w o none = none

pub ChangesNode-recharged : (t : Ticket) (w : ℕ) (o : Orders) → ChangesNode t o (recharged t w o)
ChangesNode-recharged t w o = record {
  charges =
      λ s d. ap (option_map (λ (n : Node). n.charge))
      (of_ticket-changed_other (λ n. n.ticket) t s d (λ n. record n { charge = w }) (λ n. refl) o.access);
  writes = λ s d. refl;
  nodes_apart = AreApart-changed (λ n. n.ticket) t (λ n. record n { charge = w }) (λ n. refl) o.access;
  writes_apart = λ h. h;
}

pub charge_of-recharged : (t : Ticket) (w c : ℕ) (o : Orders) → charge_of t o ≡ Some c → charge_of t (recharged t w o) ≡ Some w
charge_of-recharged t w c o some =
    ap (option_map (λ (n : Node). n.charge))
    (of_ticket-changed_same (λ n. n.ticket) t (λ n. record n { charge = w }) (λ n. refl) o.access)
    ∙ still (of_ticket (λ n. n.ticket) t o.access) some
  where
    still : (x : Option Node) → option_map (λ (n : Node). n.charge) x ≡ Some c
        → option_map (λ (n : Node). n.charge) (option_map (λ (n : Node). record n { charge = w }) x) ≡ Some w
    still None h = absurd (cc)
    still (Some n) h = refl
