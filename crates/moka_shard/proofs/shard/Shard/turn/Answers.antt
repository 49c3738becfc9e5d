use Rattle.std.proofs.Common.{◌∙◌}
use Rattle.moka_shard.specs.Shard.{state_of}
use Rattle.moka_shard.proofs.ShardTurnLemmas.{at_entry, turns_on_shard}
use Rattle.moka_shard.proofs.shard.Shard.turn.Goals as goal

pub returns-clause-turn : goal.returns-clause-turn
returns-clause-turn g c =
    let turn = c.turn_at_entry-change.ensures in
    at_entry c.args.settings.now c.args.valid_after turn.0 c.args.maintenance.now c.turn_at_entry-change.new.self _ _ turn.1

pub returns-clause-shard : goal.returns-clause-shard
returns-clause-shard g c =
    let (refused, turn) = c.turn_at_entry-change.ensures in
    let here = c.find_ticket-slot.ensures.value in (
      refused,
      turns_on_shard c.args.settings.now c.args.valid_after refused c.args.maintenance.now c.turn_at_entry-change.new.self c.args.ticket
          c.requires _ c.turn_at_entry-change.result turn (state_of c.args.self.now) _ (c.entry.ensures ∙ here)
          (c.change.ensures.step c.args.ticket here),
    )
