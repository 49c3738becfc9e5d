use Rattle.std.proofs.Common.{◌≡◌, false, ◌+◌, ap, sym, subst, ◌∙◌}
use Rattle.moka_sync_model.specs.Orders.{used}
use Rattle.moka_sync_model.specs.Parts.{NeedsShard, need_of}
use Rattle.moka_sync_model.specs.Phase.{Evict, ExpireAccess}
use Rattle.moka_sync_model.specs.Turn.Apply.{after_upsert}
use Rattle.moka_sync_model.specs.Turn.Expiry.{access_front, after_front, after_pass, is_past_tti_or_hidden}
use Rattle.moka_sync_model.specs.Turn.Turn.{turn_at, write_turn}
use Rattle.moka_queues.specs.OrdersState.{orders_of}
use Rattle.moka_maintenance.specs.Held.{maintenance_of, phase_of}
use Rattle.moka_maintenance.specs.declared.maintenance.phase.PhaseState.TheVariants as state
use Rattle.moka_maintenance.proofs.PlanLemmas.{front_by_need, need_at, upsert_by_need, write_plan}
use Rattle.moka_maintenance.proofs.maintenance.Maintenance.turn_at_entry.Goals as goal

pub scan-requires-clause-need : goal.scan-requires-clause-need
scan-requires-clause-need g c =
    let K = g.row.K.Denot in
    let V = g.row.V.Denot in
    let is = ap (λ m. m.state.phase) (sym c.self-inside.view_is) ∙ c.in-Scanning.is in
    let need : need_of (turn_at {K = K} {V = V} c.args.settings.now c.args.valid_after false (maintenance_of c.self.inside.state).phase
    (maintenance_of c.self.inside.state)) ≡ NeedsShard c.args.ticket =
    subst (λ m. need_of (turn_at {K = K} {V = V} c.args.settings.now c.args.valid_after false m.phase m) ≡ NeedsShard c.args.ticket)
    (sym c.self.view_is) c.requires in (
      c.args.ticket,
      need_at K V c.args.settings.now c.args.valid_after c.self.inside.state c.args.ticket _ is need,
    )

pub remove-requires-clause-need : goal.remove-requires-clause-need
remove-requires-clause-need g c =
    let K = g.row.K.Denot in
    let V = g.row.V.Denot in
    let is = ap (λ m. m.state.phase) (sym c.self-inside.view_is) ∙ c.in-Removing.is in
    let need : need_of (turn_at {K = K} {V = V} c.args.settings.now c.args.valid_after false (maintenance_of c.self.inside.state).phase
    (maintenance_of c.self.inside.state)) ≡ NeedsShard c.args.ticket =
    subst (λ m. need_of (turn_at {K = K} {V = V} c.args.settings.now c.args.valid_after false m.phase m) ≡ NeedsShard c.args.ticket)
    (sym c.self.view_is) c.requires in (
      c.args.ticket,
      need_at K V c.args.settings.now c.args.valid_after c.self.inside.state c.args.ticket _ is need,
    )

pub returns-in-Apply : goal.returns-in-Apply
returns-in-Apply g c =
    let K = g.row.K.Denot in
    let V = g.row.V.Denot in
    let s = c.apply_upsert.ensures.step in
    let held = c.self.inside.state in
    let is = ap (λ m. m.state.phase) (sym c.self-inside.view_is) ∙ c.in-Apply.is in
    let need : need_of (turn_at {K = K} {V = V} c.args.settings.now c.args.valid_after false (maintenance_of held).phase
    (maintenance_of held)) ≡ NeedsShard c.args.ticket =
    subst (λ m. need_of (turn_at {K = K} {V = V} c.args.settings.now c.args.valid_after false m.phase m) ≡ NeedsShard c.args.ticket)
    (sym c.self.view_is) c.requires in
    let upsert = upsert_by_need K V c.args.settings.now c.args.valid_after held c.args.ticket c.in-Apply.work c.in-Apply.write
    (need_at K V c.args.settings.now c.args.valid_after held c.args.ticket _ is need) in
    rw (← c.self.view_is) (
      s.0,
      record {
        ticket = c.args.ticket;
        looks = after_upsert c.args.settings.now s.0 c.in-Apply.work c.args.ticket (maintenance_of held);
        is =
            write_plan K V c.args.settings.now c.args.valid_after s.0 held c.in-Apply.work c.in-Apply.write is
            ∙ ap (λ w. write_turn c.args.settings.now c.args.valid_after s.0 c.in-Apply.work w (maintenance_of held)) upsert;
        ends = sym s.1;
      },
    )

pub returns-in-ExpireAccess : goal.returns-in-ExpireAccess
returns-in-ExpireAccess g c =
    let K = g.row.K.Denot in
    let V = g.row.V.Denot in
    let held = c.self.inside.state in
    let turns = c.in-ExpireAccess.turns in
    let is = ap (λ m. m.state.phase) (sym c.self-inside.view_is) ∙ c.in-ExpireAccess.is in
    let need : need_of (turn_at {K = K} {V = V} c.args.settings.now c.args.valid_after false (maintenance_of held).phase
    (maintenance_of held)) ≡ NeedsShard c.args.ticket =
    subst (λ m. need_of (turn_at {K = K} {V = V} c.args.settings.now c.args.valid_after false m.phase m) ≡ NeedsShard c.args.ticket)
    (sym c.self.view_is) c.requires in
    let looks = after_front {K = K} {V = V} (is_past_tti_or_hidden c.args.settings.now c.args.valid_after held.moment) used (ExpireAccess (turns + 1))
    (Evict 0) in
    let front = front_by_need K V c.args.ticket (maintenance_of held)
    (access_front c.args.settings.now c.args.valid_after turns (orders_of held.orders)) (Evict 0) looks
    (need_at K V c.args.settings.now c.args.valid_after held c.args.ticket (state.ExpireAccess turns) is need) in
    rw (← c.self.view_is) (
      false,
      record {
        ticket = c.args.ticket;
        looks = looks c.args.ticket (maintenance_of held);
        is =
            ap (λ s. turn_at {K = K} {V = V} c.args.settings.now c.args.valid_after false (phase_of held.orders.nodes s) (maintenance_of held)) is
            ∙ ap (λ o. after_pass o (Evict 0) looks (maintenance_of held)) front;
        ends = sym (c.expire_access.ensures.step c.args.ticket front);
      },
    )
