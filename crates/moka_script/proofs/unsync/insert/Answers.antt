use Rattle.std.proofs.Common.{◌≡◌, None, Some, rules, subst}
use Rattle.moka_grammar.specs.Options.{span_nanos}
use Rattle.moka_unsync.specs.Insert.{IsInserted}
use Rattle.moka_unsync.specs.Step as machine
use Rattle.moka_unsync.specs.Timed.{IsTimedRefused}
use Rattle.moka_script.specs.Reply.{Done, OutOfMemory}
use Rattle.moka_script.specs.ScriptKeys.{script_keys}
use Rattle.moka_script.proofs.UnsyncRunLemmas.{insert_made, insert_refused, tells_timed}
use Rattle.moka_script.proofs.unsync.insert.Goals as goal

pub returns-in-Ok-clause-step : goal.returns-in-Ok-clause-step
returns-in-Ok-clause-step g c =
    let none : c.args.live ≡ None = search rules in
    rw none
    (insert_made c.args.cache.now c.insert.new.self c.args.key c.args.stored None c.args.now g.W.Weigh.weighs c.requires.weighs c.in-Ok.ensures.step)

pub returns-in-Ok-insert_with_time_to_live-clause-step : goal.returns-in-Ok-insert_with_time_to_live-clause-step
returns-in-Ok-insert_with_time_to_live-clause-step g c =
    let old = c.args.cache.now in
    let new = c.insert_with_time_to_live.new.self in
    let own = span_nanos c.in-Some.live in
    let made = subst (λ nanos. IsInserted script_keys g.W.Weigh.weighs old c.args.key c.args.stored (Some nanos) c.args.now new) c.to_duration.ensures
    c.in-Ok-insert_with_time_to_live.ensures.step in
    rw c.in-Some.is
    (tells_timed old new (machine.Insert c.args.key c.args.stored (Some own) c.args.now) Done old.settings.policy.time_to_live
    c.in-Ok-insert_with_time_to_live.ensures.lives
    (insert_made old new c.args.key c.args.stored (Some own) c.args.now g.W.Weigh.weighs c.requires.weighs made))

pub returns-in-Err-OutOfMemory-clause-step : goal.returns-in-Err-OutOfMemory-clause-step
returns-in-Err-OutOfMemory-clause-step g c =
    let old = c.args.cache.now in
    let new = c.insert_with_time_to_live.new.self in
    let own = span_nanos c.in-Some.live in
    let timed = subst (λ e. IsTimedRefused e old new) c.in-Err-OutOfMemory.field-0-is c.in-Err-OutOfMemory.ensures.err in
    rw c.in-Some.is
    (tells_timed old new (machine.Insert c.args.key c.args.stored (Some own) c.args.now) OutOfMemory old.settings.policy.time_to_live timed.0
    (insert_refused old new c.args.key c.args.stored (Some own) c.args.now timed.1))
