use Rattle.std.proofs.Common.{ap, is_some, subst, sym}
use Rattle.moka_maintenance.specs.Held.{HoldsIn, IsRemoving, Held}
use Rattle.moka_maintenance.proofs.ScanLemmas.{next_node, removed_phase, removed_holds}
use Rattle.moka_maintenance.proofs.maintenance.state.State.remove_next.Goals as goal

pub next-next-requires : goal.next-next-requires
next-next-requires g c =
    let s = subst (λ (v : Held). IsRemoving v.orders c.args.removal) (sym c.self.view_is) c.requires.removing in
    ap is_some (next_node c.self.inside.orders c.args.work c.args.removal s.counted.distinct s c.requires.left c.args.id
    c.requires.next).found

pub remove-requires : goal.remove-requires
remove-requires g c =
    let s = subst (λ (v : Held). IsRemoving v.orders c.args.removal) (sym c.self.view_is) c.requires.removing in
    ap is_some (next_node c.self.inside.orders c.args.work c.args.removal s.counted.distinct s c.requires.left c.args.id
    c.requires.next).found

pub returns-clause-step : goal.returns-clause-step
returns-clause-step g c =
    let s = subst (λ (v : Held). IsRemoving v.orders c.args.removal) (sym c.self.view_is) c.requires.removing in
    rw (← c.self.view_is, c.removing_or_enter-self-inside.ensures)
    (λ n found. λ i. record {
      orders = c.remove.ensures.orders n found i;
      sketch = c.self.inside.sketch;
      phase =
          removed_phase c.self.inside.orders c.args.work c.args.removal s.counted.distinct s c.requires.left c.args.id c.requires.next
          c.remove.new.self c.remove.ensures.nodes c.next-next.result i;
      moment = c.self.inside.moment;
      published = c.self.inside.published;
    })

pub returns-clause-holds : goal.returns-clause-holds
returns-clause-holds g c =
    let s = subst (λ (v : Held). IsRemoving v.orders c.args.removal) (sym c.self.view_is) c.requires.removing in
    subst (HoldsIn c.remove.new.self) (sym c.removing_or_enter-self-inside.ensures)
    (removed_holds c.self.inside.orders c.args.work c.args.removal s.counted.distinct s c.requires.left c.args.id c.requires.next
    c.remove.new.self c.remove.ensures.nodes c.requires.round c.next-next.result c.next-next.ensures c.remove.ensures.room
    c.remove.ensures.orders)
