use Rattle.std.proofs.Common.{true, false, Ok, refl, ap}
use Rattle.moka_record.proofs.CallLemmas.{IsCall-answer}
use Rattle.moka_record.proofs.RecordLemmas.{Replays-push}
use Rattle.moka_record.proofs.record.Record.apply.Goals as goal

pub returns-then-is_err-clause-step : goal.returns-then-is_err-clause-step
returns-then-is_err-clause-step g c =
    rw (← c.self.view_is, c.reserve.ensures.items) (record { recording = true; answer = false }, (refl, refl))

pub returns-in_default-clause-step : goal.returns-in_default-clause-step
returns-in_default-clause-step g c =
    rw (← c.self.view_is, c.reserve.ensures.items) (record { recording = true; answer = false }, (refl, refl))

pub answer_of-answer-requires : goal.answer_of-answer-requires
answer_of-answer-requires g c = IsCall-answer _ _ _ _ _ _ c.call-reply.ensures.step

pub returns-then-is_err-clause-replays : goal.returns-then-is_err-clause-replays
returns-then-is_err-clause-replays g c = rw (← c.self.view_is, c.reserve.ensures.items) (λ replays. replays)

pub returns-in_default-clause-replays : goal.returns-in_default-clause-replays
returns-in_default-clause-replays g c = rw (← c.self.view_is, c.reserve.ensures.items) (λ replays. replays)

pub returns-clause-replays : goal.returns-clause-replays
returns-clause-replays g c =
    let made = rw c.in-Ok.ensures at c.call-reply.ensures.step in
    let calls = rw c.reserve.ensures.items at c.push_reserved.ensures.items in
    rw (← c.self.view_is, c.call-reply.ensures.weigher) (λ replays.
    Replays-push _ _ _ _ c.args.call c.call-reply.result replays (record { made = made; calls = calls; first_ticket = refl }))

pub returns-clause-step : goal.returns-clause-step
returns-clause-step g c =
    let made = rw c.in-Ok.ensures at c.call-reply.ensures.step in
    let calls = rw c.reserve.ensures.items at c.push_reserved.ensures.items in
    rw (← c.self.view_is) (
      record { recording = false; answer = c.answer_of-answer.ensures.value.0 },
      (c.call-reply.result, record { made = made; calls = calls; first_ticket = refl }, ap Ok c.answer_of-answer.ensures.value.1),
    )
