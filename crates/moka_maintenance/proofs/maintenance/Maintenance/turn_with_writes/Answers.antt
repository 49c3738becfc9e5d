use Rattle.std.proofs.Common.{◌∙◌, ap, false, sym}
use Rattle.moka_sync_model.specs.Turn.Plan.{gone_to, writes_or_on}
use Rattle.moka_sync_model.specs.Turn.Turn.{after_more_writes, turn_at}
use Rattle.moka_maintenance.specs.Held.{maintenance_of, phase_of}
use Rattle.moka_maintenance.proofs.maintenance.Maintenance.turn_with_writes.Goals as goal

pub returns-in-WriteCount : goal.returns-in-WriteCount
returns-in-WriteCount g c =
    let held = c.self.inside.state in
    let is = ap (λ m. m.state.phase) (sym c.self-inside.view_is) ∙ c.in-WriteCount.is in
    rw (← c.self.view_is)
    (λ settings valid_after. record {
      looks = _;
      is =
          ap (λ s. turn_at {K = g.row.K.Denot} {V = g.row.V.Denot} settings valid_after false (phase_of held.orders.nodes s)
          (maintenance_of held)) is;
      ends = ap (λ m. (m, c.args.log.now)) (c.count_writes.ensures.step ∙ ap (λ n. gone_to (writes_or_on (record { round = c.in-WriteCount.round; left = n }))
          (maintenance_of held)) c.len.ensures.len);
    })

pub returns-in-Writes : goal.returns-in-Writes
returns-in-Writes g c =
    let held = c.self.inside.state in
    let is = ap (λ m. m.state.phase) (sym c.self-inside.view_is) ∙ c.in-Writes.is in
    rw (← c.self.view_is)
    (λ settings valid_after. record {
      looks = _;
      is =
          ap (λ s. turn_at {K = g.row.K.Denot} {V = g.row.V.Denot} settings valid_after false (phase_of held.orders.nodes s)
          (maintenance_of held)) is;
      ends = c.take_write.ensures.step;
    })

pub returns-in-MoreWrites : goal.returns-in-MoreWrites
returns-in-MoreWrites g c =
    let held = c.self.inside.state in
    let is = ap (λ m. m.state.phase) (sym c.self-inside.view_is) ∙ c.in-MoreWrites.is in
    rw (← c.self.view_is)
    (λ settings valid_after. record {
      looks = _;
      is =
          ap (λ s. turn_at {K = g.row.K.Denot} {V = g.row.V.Denot} settings valid_after false (phase_of held.orders.nodes s)
          (maintenance_of held)) is;
      ends = ap (λ m. (m, c.args.log.now)) (c.look_for_writes.ensures.step
          ∙ ap (λ n. gone_to (after_more_writes c.in-MoreWrites.round n) (maintenance_of held)) c.len-in-MoreWrites.ensures.len);
    })
