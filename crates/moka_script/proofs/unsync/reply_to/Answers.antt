use Rattle.std.proofs.Common.{None, Some, rules, ◌≡◌, ◌++◌, OnOk, option_map, refl, ap, ◌∙◌, subst}
use Rattle.std.proofs.lemmas.List.{length-map}
use Rattle.moka_unsync.specs.Insert.{Modifies}
use Rattle.moka_unsync.specs.Invalidate.{after_invalidate_if}
use Rattle.moka_unsync.specs.Lookup.{found_by_get}
use Rattle.moka_unsync.specs.Step as machine
use Rattle.moka_script.specs.Reply.{Done, Found, Truth, Number, Pairs, Limits, reply_line}
use Rattle.moka_script.specs.ReplyValue.{reply_of}
use Rattle.moka_script.specs.ScriptKeys.{script_keys}
use Rattle.moka_script.specs.ScriptWeighers.{AnswersRequest}
use Rattle.moka_script.specs.Stored.{stored_text, stored_weighs}
use Rattle.moka_script.specs.UnsyncRun.{TellsInsert, TellsModified, have_text}
use Rattle.moka_script.proofs.UnsyncRunLemmas.{replied}
use Rattle.moka_script.proofs.unsync.reply_to.Goals as goal

-- what is stored is the text with its weight
pub insert-reply-requires-clause-weighs : goal.insert-reply-requires-clause-weighs
insert-reply-requires-clause-weighs g c =
    let value : c.stored_text-stored.result ≡ stored_text c.in-Insert.value c.in-Insert.weight = search rules in
    rw value (subst (AnswersRequest g.W.Weigh.weighs) c.in-Insert.is c.requires.weighs)

pub returns-in-Insert-clause-step : goal.returns-in-Insert-clause-step
returns-in-Insert-clause-step g c =
    let value : c.stored_text-stored.result ≡ stored_text c.in-Insert.value c.in-Insert.weight = search rules in
    let step : TellsInsert c.args.cache.now c.in-Insert.key (stored_text c.in-Insert.value c.in-Insert.weight) c.in-Insert.live c.from_nanos-now.result
    (reply_of c.insert-reply.result) c.insert-reply.new.cache = search rules in
    replied _ _ _ _ _ _ c.push_reply.result _ _ (reply_of c.insert-reply.result) c.from_nanos-now.ensures c.in-Insert.is
    step c.push_reply.ensures

pub returns-in-ContainsKey-clause-step : goal.returns-in-ContainsKey-clause-step
returns-in-ContainsKey-clause-step g c =
    replied _ _ _ _ _ _ c.push_reply-in-ContainsKey.result _ _ (Truth c.contains_key.result) c.from_nanos-now.ensures c.in-ContainsKey.is
    (machine.Truth c.contains_key.result, (ap machine.Truth c.contains_key.ensures.value, c.contains_key.ensures.step), refl)
    c.push_reply-in-ContainsKey.ensures

pub returns-in-Invalidate-clause-step : goal.returns-in-Invalidate-clause-step
returns-in-Invalidate-clause-step g c =
    replied _ _ _ _ _ _ c.push_reply-in-Invalidate.result _ _ Done c.from_nanos-now.ensures c.in-Invalidate.is
    (machine.Done, (refl, c.invalidate.ensures.step), refl) c.push_reply-in-Invalidate.ensures

pub returns-in-Some-clause-step : goal.returns-in-Some-clause-step
returns-in-Some-clause-step g c =
    replied _ _ _ _ _ _ c.push_reply-in-Some.result _ _ _ c.from_nanos-now.ensures c.in-Remove.is (
      machine.Found (Some c.in-Some.stored),
      (ap machine.Found c.in-Some.ensures.value, c.remove.ensures.step),
      ap (λ t. Found (Some t)) (search rules),
    ) c.push_reply-in-Some.ensures

pub returns-in-None-clause-step : goal.returns-in-None-clause-step
returns-in-None-clause-step g c =
    replied _ _ _ _ _ _ c.push_reply-in-None.result _ _ (Found None) c.from_nanos-now.ensures c.in-Remove.is
    (machine.Found None, (ap machine.Found c.in-None.ensures.value, c.remove.ensures.step), refl) c.push_reply-in-None.ensures

pub returns-in-InvalidateAll-clause-step : goal.returns-in-InvalidateAll-clause-step
returns-in-InvalidateAll-clause-step g c =
    replied _ _ _ _ _ _ c.push_reply-in-InvalidateAll.result _ _ Done c.from_nanos-now.ensures c.in-InvalidateAll.is
    (machine.Done, (refl, c.invalidate_all.ensures.step), refl) c.push_reply-in-InvalidateAll.ensures

pub returns-in-RemoveExpired-clause-step : goal.returns-in-RemoveExpired-clause-step
returns-in-RemoveExpired-clause-step g c =
    let entries = c.args.cache.now.contents.entries in
    replied _ _ _ _ _ _ c.push_reply-in-RemoveExpired.result _ _ Done c.from_nanos-now.ensures c.in-RemoveExpired.is
    (machine.Done, ((refl, length-map entries _), c.remove_expired.ensures.step), refl) c.push_reply-in-RemoveExpired.ensures

pub modify-there-requires-clause-weighs : goal.modify-there-requires-clause-weighs
modify-there-requires-clause-weighs g c =
    let value : c.stored_text-stored-in-Modify.result ≡ stored_text c.in-Modify.value c.in-Modify.weight = search rules in
    rw value (subst (AnswersRequest g.W.Weigh.weighs) c.in-Modify.is c.requires.weighs)

pub returns-in-Modify-clause-step : goal.returns-in-Modify-clause-step
returns-in-Modify-clause-step g c =
    let value : c.stored_text-stored-in-Modify.result ≡ stored_text c.in-Modify.value c.in-Modify.weight = search rules in
    let step : TellsModified c.args.cache.now c.in-Modify.key (stored_text c.in-Modify.value c.in-Modify.weight) c.from_nanos-now.result
    (Truth c.modify-there.result) c.modify-there.new.cache = (
      c.modify-there.result,
      subst (λ s. Modifies script_keys stored_weighs
          (λ before after. after ≡ s) c.modify-there.result c.args.cache.now c.in-Modify.key c.from_nanos-now.result c.modify-there.new.cache) value
          c.modify-there.ensures.step,
      refl,
    ) in
    replied _ _ _ _ _ _ c.push_reply-in-Modify.result _ _ (Truth c.modify-there.result) c.from_nanos-now.ensures c.in-Modify.is
    step c.push_reply-in-Modify.ensures

pub returns-in-InvalidateIf-clause-step : goal.returns-in-InvalidateIf-clause-step
returns-in-InvalidateIf-clause-step g c =
    let entries = c.args.cache.now.contents.entries in
    let step = c.invalidate_if.ensures.step
    ∙ ap (λ text. after_invalidate_if script_keys c.args.cache.now (have_text text entries)) (search rules) in
    replied _ _ _ _ _ _ c.push_reply-in-InvalidateIf.result _ _ Done c.from_nanos-now.ensures c.in-InvalidateIf.is
    (machine.Done, ((refl, length-map entries _), step), refl) c.push_reply-in-InvalidateIf.ensures

pub returns-in_ok-pairs-in-Iter-clause-step : goal.returns-in_ok-pairs-in-Iter-clause-step
returns-in_ok-pairs-in-Iter-clause-step g c =
    replied _ _ _ _ _ _ c.push_reply-in-Iter.result _ _ _ c.from_nanos-now.ensures c.in-Iter.is
    (machine.Pairs _, (ap machine.Pairs c.iter.ensures.value, refl), ap Pairs (search rules)) c.push_reply-in-Iter.ensures

pub returns-in-EntryCount-clause-step : goal.returns-in-EntryCount-clause-step
returns-in-EntryCount-clause-step g c =
    replied _ _ _ _ _ _ c.push_reply-in-EntryCount.result _ _ (Number c.entry_count.result) c.from_nanos-now.ensures c.in-EntryCount.is
    (machine.Number c.entry_count.result, (ap machine.Number c.entry_count.ensures, refl), refl) c.push_reply-in-EntryCount.ensures

pub returns-in-WeightedSize-clause-step : goal.returns-in-WeightedSize-clause-step
returns-in-WeightedSize-clause-step g c =
    replied _ _ _ _ _ _ c.push_reply-in-WeightedSize.result _ _
    (Number c.weighted_size.result) c.from_nanos-now.ensures c.in-WeightedSize.is
    (machine.Number c.weighted_size.result, (ap machine.Number c.weighted_size.ensures, refl), refl) c.push_reply-in-WeightedSize.ensures

pub returns-in-Policy-clause-step : goal.returns-in-Policy-clause-step
returns-in-Policy-clause-step g c =
    replied _ _ _ _ _ _ c.push_reply-in-Policy.result _ _ (Limits c.policy-policy.result) c.from_nanos-now.ensures c.in-Policy.is
    (ap Limits c.policy-policy.ensures, refl) c.push_reply-in-Policy.ensures

pub returns-in-Get-clause-step : goal.returns-in-Get-clause-step
returns-in-Get-clause-step g c =
    let sought = found_by_get script_keys c.args.cache.now c.in-Get.key c.from_nanos-now.result in
    replied _ _ _ _ _ _ c.push_reply-in-Get.result _ _ (Found (option_map (λ s. s.text) sought)) c.from_nanos-now.ensures c.in-Get.is
    (machine.Found sought, (refl, c.get.follows.holds-at-none), refl)
    (subst (λ r. OnOk c.push_reply-in-Get.result (c.push_reply-in-Get.new.text.items ≡ c.args.text.now.items ++ reply_line r))
    (c.found.ensures ∙ ap (λ o. Found (option_map (λ s. s.text) o)) c.get.ensures.value) c.push_reply-in-Get.ensures)
