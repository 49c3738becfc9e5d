use Rattle.std.proofs.Common.{◌∙◌}
use Rattle.moka_sync_model.specs.declared.operation.Write.TheVariants.{Upsert}
use Rattle.moka_maintenance.specs.Taken.{having_taken_write}
use Rattle.moka_maintenance.proofs.TakenLemmas.{upsert_needs}
use Rattle.moka_shard.specs.Shard.{state_of}
use Rattle.moka_shard.proofs.ShardTurnLemmas.{at_entry, turns_on_shard}
use Rattle.moka_shard.proofs.shard.Shard.apply_upsert.Goals as goal

pub returns-clause-turn : goal.returns-clause-turn
returns-clause-turn g c =
    let turn = c.turn_with_upsert-change.ensures in
    at_entry c.args.settings.now 0 turn.0 (having_taken_write (Upsert c.args.ticket) c.args.maintenance.now)
    c.turn_with_upsert-change.new.self _ _ (turn.1 0)

pub returns-clause-shard : goal.returns-clause-shard
returns-clause-shard g c =
    let (refused, turn) = c.turn_with_upsert-change.ensures in
    let here = c.find_ticket-slot.ensures.value in (
      refused,
      λ valid_after.
          turns_on_shard c.args.settings.now valid_after refused (having_taken_write (Upsert c.args.ticket) c.args.maintenance.now)
          c.turn_with_upsert-change.new.self c.args.ticket
          (upsert_needs g.row.K.Denot g.row.V.Denot c.args.settings.now valid_after c.args.ticket c.args.maintenance.now c.requires)
          _ c.turn_with_upsert-change.result (turn valid_after) (state_of c.args.self.now) _ (c.entry.ensures ∙ here)
          (c.change.ensures.step c.args.ticket here),
    )
