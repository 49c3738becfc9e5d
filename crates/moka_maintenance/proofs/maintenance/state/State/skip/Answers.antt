use Rattle.std.proofs.Common.{ap, is_some, subst, sym}
use Rattle.moka_sync_model.specs.Turn.Plan.{gone_to}
use Rattle.moka_maintenance.specs.Held.{HoldsIn, IsRemoving, Held, maintenance_of}
use Rattle.moka_maintenance.proofs.ScanLemmas.{next_node, skipped_phase, skipped_holds}
use Rattle.moka_maintenance.proofs.maintenance.state.State.skip.Goals as goal

pub next-requires : goal.next-requires
next-requires g c =
    let s = subst (λ (v : Held). IsRemoving v.orders c.args.removal) (sym c.self.view_is) c.requires.removing in
    ap is_some (next_node c.self.inside.orders c.args.work c.args.removal s.counted.distinct s c.requires.left c.args.id
    c.requires.next).found

pub returns-clause-step : goal.returns-clause-step
returns-clause-step g c =
    let s = subst (λ (v : Held). IsRemoving v.orders c.args.removal) (sym c.self.view_is) c.requires.removing in
    rw (← c.self.view_is, c.removing_or_enter-self-inside.ensures)
    (λ n found.
    ap (λ p. gone_to p (maintenance_of (record {
      orders = c.self.inside.orders;
      sketch = c.self.inside.sketch;
      phase = c.self.inside.phase;
      moment = c.self.inside.moment;
      published = c.self.inside.published;
    })))
    (skipped_phase c.self.inside.orders c.args.work c.args.removal s.counted.distinct s c.requires.left c.args.id
    c.requires.next n found
    c.next.result))

pub returns-clause-holds : goal.returns-clause-holds
returns-clause-holds g c =
    let s = subst (λ (v : Held). IsRemoving v.orders c.args.removal) (sym c.self.view_is) c.requires.removing in
    subst (HoldsIn c.self.inside.orders) (sym c.removing_or_enter-self-inside.ensures)
    (skipped_holds c.self.inside.orders c.args.work c.args.removal s.counted.distinct s c.requires.left c.args.id c.requires.next
    c.requires.round c.next.result c.next.ensures)
