use Rattle.std.proofs.Common.{◌≡◌, ◌∙◌, true, ap, subst, sym}
use Rattle.moka_locks.specs.MaintenanceTurn.{AreTurns, Working}
use Rattle.moka_locks.specs.SameTickets.{AtWork, HasSameTickets}
use Rattle.moka_locks.proofs.AccountedLemmas.{publisher_accounts}
use Rattle.moka_locks.proofs.SameTicketsLemmas.{keep_same_tickets}
use Rattle.moka_locks.proofs.running.RunningMaintenance.turn.Given.{Over}
use Rattle.moka_locks.proofs.running.RunningMaintenance.turn.Goals.{After-phase}
use Rattle.moka_locks.proofs.running.RunningMaintenance.turn.Goals as goal

-- the maintenance before its turns, and after them
abbrev before : (g : Over) (c : After-phase g) → Working
before g c = record { maintenance = c.self.inside.working.value.maintenance; taken = c.self.inside.working.value.taken }

abbrev after : (g : Over) (c : After-phase g) → Working
after g c = record { maintenance = c.turn.new.maintenance; taken = c.turn.new.taken }

-- the turns between
turns : (g : Over) (c : After-phase g) → AreTurns g.row.K.Denot g.row.V.Denot c.args.inner.now.settings (before g c) (after g c)
turns g c =
    subst (λ w. AreTurns g.row.K.Denot g.row.V.Denot c.args.inner.now.settings (record { maintenance = w.maintenance; taken = w.taken })
    (after g c)) c.deref_mut-working.ensures.value c.turn.ensures.turns

-- the turns were by settings with a time to live, where the flag says so
ordered : (g : Over) (c : After-phase g) → c.self.inside.keeps_writes ≡ true → HasSameTickets c.turn.new.maintenance.orders
ordered g c keeps =
    keep_same_tickets g.row.K.Denot g.row.V.Denot g.row.S.Denot c.args.inner.now.settings (before g c) (after g c)
    (sym c.requires ∙ sym (ap (λ (w : AtWork). w.keeps_writes) c.self.view_is) ∙ keeps) (turns g c) (c.self.invariant.1 keeps)

pub invariant_of-self : goal.invariant_of-self
invariant_of-self g c =
    let d = c.before in (
      d.turn.ensures.left,
      ordered g d,
      publisher_accounts g.row.K.Denot g.row.V.Denot d.args.inner.now.settings d.self.inside.publisher (before g d) (after g d) (turns g d)
          d.self.invariant.2,
    )

pub returns-clause-ordered : goal.returns-clause-ordered
returns-clause-ordered g c = ordered g c.before
