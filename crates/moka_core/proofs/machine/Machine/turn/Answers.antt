use Rattle.std.proofs.Common.{◌≡◌, ◌∙◌, ap, false}
use Rattle.moka_sync_model.specs.declared.event.Reply.TheVariants.{At}
use Rattle.moka_sync_model.specs.Phase.{is_idle, name_of}
use Rattle.moka_core.specs.Machine.{Machine}
use Rattle.moka_sync_model.proofs.PhaseLemmas.{busy_by_name}
use Rattle.moka_core.proofs.machine.Machine.turn.Goals as goal

pub returns : goal.returns
returns g c =
    let (refused, is) = c.take_turn.ensures.turn in
    let named = c.phase.ensures
    ∙ ap (λ (v : Machine g.row.K.Denot g.row.V.Denot g.row.S.Denot g.row.W.Denot). name_of v.state.maintenance.phase) c.self.view_is in
    let busy : is_idle c.args.self.now.state.maintenance.phase ≡ false =
    busy_by_name c.args.self.now.state.maintenance.phase (λ same. c.in_default.not-Idle (named ∙ same)) in
    let reply = c.phase-2.ensures
    ∙ ap (λ (v : Machine g.row.K.Denot g.row.V.Denot g.row.S.Denot g.row.W.Denot). name_of v.state.maintenance.phase) c.self-2.view_is in
    record {
      step = record { weight = 0; refused = refused; weighed = tt; step = rw busy (ap At reply, is) };
      kept = c.take_turn.ensures.kept;
    }
