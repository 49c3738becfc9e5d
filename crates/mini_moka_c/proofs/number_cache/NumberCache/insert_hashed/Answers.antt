use Rattle.std.proofs.Common.{option_map, refl, rules, ◌∙◌}
use Rattle.std.specs.Duration.{as_nanos}
use Rattle.moka_unsync_model.specs.Insert.{IsInserted}
use Rattle.moka_unsync_model.specs.ToldCalls.{TellsInsert}
use Rattle.mini_moka_c.specs.NumberKeys.{number_keys, number_weighs}
use Rattle.mini_moka_c.specs.Removed.{hears_leaving}
use Rattle.mini_moka_c.specs.declared.inserted.Inserted.TheVariants.{Stored}
use Rattle.mini_moka_c.proofs.InsertLemmas.{numbers_answered}
use Rattle.mini_moka_c.proofs.QueueLemmas.{insert_queued}
use Rattle.mini_moka_c.proofs.StatisticsLemmas.{insert_counted}
use Rattle.mini_moka_c.proofs.number_cache.NumberCache.insert_hashed.Goals as goal

pub returns-clause-answer : goal.returns-clause-answer
returns-clause-answer c =
    let old = c.args.self.now in
    let new = c.insert_notifying.new in
    let before = record old.leaving { inserted = Stored } in
    let step : IsInserted number_keys number_weighs old.cache c.args.key c.args.value
    (option_map as_nanos c.args.time_to_live) c.args.now new.self = search rules in
    let told : TellsInsert hears_leaving number_keys old.cache c.args.now c.args.key c.args.value new.self before new.listener = search rules in
    numbers_answered old.cache new.self c.args.key c.args.value (option_map as_nanos c.args.time_to_live) c.args.now before new.listener refl step told

pub returns-clause-step : goal.returns-clause-step
returns-clause-step c =
    let old = c.args.self.now in
    let new = c.insert_notifying.new in
    let before = record old.leaving { inserted = Stored } in
    let told : TellsInsert hears_leaving number_keys old.cache c.args.now c.args.key c.args.value new.self before new.listener = search rules in
    record {
      step = search rules;
      counts = c.count_insert.ensures ∙ insert_counted number_keys old.cache c.args.now before new.listener c.args.key c.args.value new.self told;
      removed = insert_queued number_keys old.cache c.args.now before new.listener c.args.key c.args.value new.self told;
      walk = search rules;
    }
