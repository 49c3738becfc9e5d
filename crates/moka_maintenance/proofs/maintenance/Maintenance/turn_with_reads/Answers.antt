use Rattle.std.proofs.Common.{◌∙◌, ap, false, sym}
use Rattle.moka_sync_model.specs.Turn.Plan.{gone_to, reads_or_on}
use Rattle.moka_sync_model.specs.Turn.Turn.{after_more_reads, turn_at}
use Rattle.moka_maintenance.specs.Held.{maintenance_of, phase_of}
use Rattle.moka_maintenance.proofs.maintenance.Maintenance.turn_with_reads.Goals as goal

pub returns-in-ReadCount : goal.returns-in-ReadCount
returns-in-ReadCount g c =
    let held = c.self.inside.state in
    let is = ap (λ m. m.state.phase) (sym c.self-inside.view_is) ∙ c.in-ReadCount.is in
    rw (← c.self.view_is)
    (λ settings valid_after. record {
      looks = _;
      is =
          ap (λ s. turn_at {K = g.row.K.Denot} {V = g.row.V.Denot} settings valid_after false (phase_of held.orders.nodes s)
          (maintenance_of held)) is;
      ends = ap (λ m. (m, c.args.log.now)) (c.count_reads.ensures.step ∙ ap (λ n. gone_to (reads_or_on (record { round = c.in-ReadCount.round; left = n }))
          (maintenance_of held)) c.len.ensures.len);
    })

pub returns-in-Reads : goal.returns-in-Reads
returns-in-Reads g c =
    let held = c.self.inside.state in
    let is = ap (λ m. m.state.phase) (sym c.self-inside.view_is) ∙ c.in-Reads.is in
    rw (← c.self.view_is)
    (λ settings valid_after. record {
      looks = _;
      is =
          ap (λ s. turn_at {K = g.row.K.Denot} {V = g.row.V.Denot} settings valid_after false (phase_of held.orders.nodes s)
          (maintenance_of held)) is;
      ends = c.take_read.ensures.step;
    })

pub returns-in-MoreReads : goal.returns-in-MoreReads
returns-in-MoreReads g c =
    let held = c.self.inside.state in
    let is = ap (λ m. m.state.phase) (sym c.self-inside.view_is) ∙ c.in-MoreReads.is in
    rw (← c.self.view_is)
    (λ settings valid_after. record {
      looks = _;
      is =
          ap (λ s. turn_at {K = g.row.K.Denot} {V = g.row.V.Denot} settings valid_after false (phase_of held.orders.nodes s)
          (maintenance_of held)) is;
      ends = ap (λ m. (m, c.args.log.now)) (c.look_for_reads.ensures.step
          ∙ ap (λ n. gone_to (after_more_reads c.in-MoreReads.round n) (maintenance_of held)) c.len-in-MoreReads.ensures.len);
    })
