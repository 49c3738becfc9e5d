use Rattle.std.proofs.Common.{◌∙◌, ap, false, option_map, refl, sym}
use Rattle.moka_sync_model.specs.Entry.{entry_of}
use Rattle.moka_shard.specs.Shard.{state_of}
use Rattle.moka_shard.proofs.ShardTurnLemmas.{turns_on_shard}
use Rattle.moka_shard.proofs.shard.Shard.scan.Goals as goal

pub returns-clause-shard : goal.returns-clause-shard
returns-clause-shard g c =
    let shard = state_of c.args.self.now in
    let found = entry_of c.args.ticket shard.entries in
    let here = c.find_ticket-slot.ensures.value in
    λ settings valid_after need.
    turns_on_shard settings valid_after false c.args.maintenance.now c.scan-change.new.self c.args.ticket need found c.scan-change.result
    (c.scan-change.ensures settings valid_after found (sym (c.weight.ensures ∙ ap (option_map (λ e. e.weight)) here)))
    shard (state_of c.change.new.self) refl (c.change.ensures.step c.args.ticket here)
