use Rattle.std.proofs.Common.{◌≡◌, ap, inl, inr, refl, rules, subst}
use Rattle.moka_common.specs.Keys.{Keys, keys_by}
use Rattle.moka_unsync.specs.declared.runs.Call.TheVariants as call
use Rattle.moka_unsync_model.specs.Lookup.{found_by_get, found_by_peek}
use Rattle.moka_unsync_model.specs.CacheState.{CacheState}
use Rattle.moka_unsync.specs.Runs.{TellsFound}
use Rattle.moka_unsync.specs.Timed.{IsTimedRefused}
use Rattle.moka_unsync.specs.declared.error.TimedInsertError.{TimedInsertError}
use Rattle.moka_unsync_model.specs.Step.{Done, Found, Truth, Number, OutOfMemory}
use Rattle.moka_unsync.proofs.RunLemmas.{got, inserted, modified, stepped, swept, timed, unowned, unroomed, untimed}
use Rattle.moka_unsync.proofs.runs.reply_to.Given.{Over}
use Rattle.moka_unsync.proofs.runs.reply_to.Goals as goal

-- the keys of the cache
abbrev keys : (g : Over) → Keys g.row.K.Denot g.row.S.Denot
keys g = keys_by (record { eq = g.K.PartialEq.eq; hash_input = g.K.Hash.hash_input }) g.S.BuildHasher g.S.Hasher.Hasher

pub returns-in-Get-clause-step : goal.returns-in-Get-clause-step
returns-in-Get-clause-step g c =
    stepped (keys g) g.W.Weigh.weighs c.args.cache.now c.get.follows.lender-at-none c.try_clone.result c.args.call
    (call.Get c.in-Get.key c.in-Get.now) (Found (found_by_get (keys g) c.args.cache.now c.in-Get.key c.in-Get.now)) c.in-Get.is
    (refl, c.get.follows.holds-at-none) (_, refl, refl, subst (λ found. TellsFound found c.try_clone.result) c.get.ensures.value c.try_clone.ensures)

pub returns-in-Peek-clause-step : goal.returns-in-Peek-clause-step
returns-in-Peek-clause-step g c =
    stepped (keys g) g.W.Weigh.weighs c.args.cache.now c.args.cache.now c.try_clone-in-Peek.result c.args.call
    (call.Peek c.in-Peek.key c.in-Peek.now) (Found (found_by_peek (keys g) c.args.cache.now c.in-Peek.key c.in-Peek.now)) c.in-Peek.is
    (refl, refl) (_, refl, refl, subst (λ found. TellsFound found c.try_clone-in-Peek.result) c.peek.ensures c.try_clone-in-Peek.ensures)

pub returns-in-Contains-clause-step : goal.returns-in-Contains-clause-step
returns-in-Contains-clause-step g c =
    stepped (keys g) g.W.Weigh.weighs c.args.cache.now c.contains_key.new.self _ c.args.call
    (call.Contains c.in-Contains.key c.in-Contains.now) (Truth c.contains_key.result) c.in-Contains.is
    (ap Truth c.contains_key.ensures.value, c.contains_key.ensures.step) (_, refl, refl, refl)

pub returns-in-Remove-clause-step : goal.returns-in-Remove-clause-step
returns-in-Remove-clause-step g c =
    stepped (keys g) g.W.Weigh.weighs c.args.cache.now c.remove.new.self _ c.args.call (call.Remove c.in-Remove.key c.in-Remove.now)
    (Found c.remove.result) c.in-Remove.is (ap Found c.remove.ensures.value, c.remove.ensures.step) (_, refl, refl, refl)

pub returns-in-EntryCount-clause-step : goal.returns-in-EntryCount-clause-step
returns-in-EntryCount-clause-step g c =
    stepped (keys g) g.W.Weigh.weighs c.args.cache.now c.args.cache.now _ c.args.call call.EntryCount (Number c.entry_count.result)
    c.in-EntryCount.is (ap Number c.entry_count.ensures, refl) (_, refl, refl, refl)

pub returns-in-WeightedSize-clause-step : goal.returns-in-WeightedSize-clause-step
returns-in-WeightedSize-clause-step g c =
    stepped (keys g) g.W.Weigh.weighs c.args.cache.now c.args.cache.now _ c.args.call call.WeightedSize (Number c.weighted_size.result)
    c.in-WeightedSize.is (ap Number c.weighted_size.ensures, refl) (_, refl, refl, refl)

pub returns-in-Ok-clause-step : goal.returns-in-Ok-clause-step
returns-in-Ok-clause-step g c =
    stepped (keys g) g.W.Weigh.weighs c.args.cache.now c.insert.new.self _ c.args.call
    (call.Insert c.in-Insert.key c.in-Insert.value c.in-Insert.now) Done c.in-Insert.is (inl (refl, c.in-Ok.ensures.step.put)) (_, refl, refl, refl)

pub returns-in-Err-clause-step : goal.returns-in-Err-clause-step
returns-in-Err-clause-step g c =
    stepped (keys g) g.W.Weigh.weighs c.args.cache.now c.insert.new.self _ c.args.call
    (call.Insert c.in-Insert.key c.in-Insert.value c.in-Insert.now) OutOfMemory c.in-Insert.is (inr (refl, c.in-Err.ensures.err))
    (_, refl, refl, refl)

pub returns-in-Ok-get_or_insert_with-clause-step : goal.returns-in-Ok-get_or_insert_with-clause-step
returns-in-Ok-get_or_insert_with-clause-step g c =
    let asked = c.in-GetOrInsert in
    let copy = c.in-Ok-get_or_insert_with.copy in
    let (value, same, done) = c.in-Ok-get_or_insert_with.ensures.ok in
    elim done [
      | inl found ↦
          got (keys g) g.W.Weigh.weighs c.args.cache.now c.get_or_insert_with.new.self _ c.args.call asked.key asked.value asked.now asked.is
          value copy refl same found
      | inr (made, put) ↦
          inserted (keys g) g.W.Weigh.weighs c.args.cache.now c.get_or_insert_with.new.self _ c.args.call asked.key asked.value asked.now
          asked.is value copy refl same (search (rules, made)) put
    ]

pub returns-in-Err-get_or_insert_with-clause-step : goal.returns-in-Err-get_or_insert_with-clause-step
returns-in-Err-get_or_insert_with-clause-step g c =
    let asked = c.in-GetOrInsert in
    elim c.in-Err-get_or_insert_with.ensures.err [
      | inl (value, fallible, step) ↦
          unowned (keys g) g.W.Weigh.weighs c.args.cache.now c.get_or_insert_with.new.self _ c.args.call asked.key asked.value asked.now
          asked.is refl step
      | inr refusal ↦
          unroomed (keys g) g.W.Weigh.weighs c.args.cache.now c.get_or_insert_with.new.self _ c.args.call asked.key asked.value asked.now
          asked.is refl refusal
    ]

pub returns-in-Invalidate-clause-step : goal.returns-in-Invalidate-clause-step
returns-in-Invalidate-clause-step g c =
    stepped (keys g) g.W.Weigh.weighs c.args.cache.now c.invalidate.new.self _ c.args.call
    (call.Invalidate c.in-Invalidate.key c.in-Invalidate.now) Done c.in-Invalidate.is (refl, c.invalidate.ensures.step) (_, refl, refl, refl)

pub returns-in-InvalidateAll-clause-step : goal.returns-in-InvalidateAll-clause-step
returns-in-InvalidateAll-clause-step g c =
    stepped (keys g) g.W.Weigh.weighs c.args.cache.now c.invalidate_all.new.self _ c.args.call call.InvalidateAll Done c.in-InvalidateAll.is
    (refl, c.invalidate_all.ensures.step) (_, refl, refl, refl)

-- what is refused for a known reason
refused_of : {K V S W : Type 0} (old new : CacheState K V S W) {error known : TimedInsertError} → error ≡ known → IsTimedRefused error old new
    → IsTimedRefused known old new
refused_of old new is refused = subst (λ e. IsTimedRefused e old new) is refused

pub returns-in-Ok-insert_with_time_to_live-clause-step : goal.returns-in-Ok-insert_with_time_to_live-clause-step
returns-in-Ok-insert_with_time_to_live-clause-step g c =
    let asked = c.in-InsertWithTimeToLive in
    timed (keys g) g.W.Weigh.weighs c.args.cache.now c.insert_with_time_to_live.new.self _ c.args.call asked.key asked.value asked.time_to_live
    asked.now Done asked.is (inl (refl, c.in-Ok-insert_with_time_to_live.ensures.step.put)) refl

pub returns-in-Err-NoTimeToLive-clause-step : goal.returns-in-Err-NoTimeToLive-clause-step
returns-in-Err-NoTimeToLive-clause-step g c =
    let asked = c.in-InsertWithTimeToLive in
    untimed (keys g) g.W.Weigh.weighs c.args.cache.now c.insert_with_time_to_live.new.self _ c.args.call asked.key asked.value asked.time_to_live
    asked.now asked.is refl (refused_of _ _ c.in-Err-NoTimeToLive.field-0-is c.in-Err-NoTimeToLive.ensures.err).1

pub returns-in-Err-OutOfMemory-clause-step : goal.returns-in-Err-OutOfMemory-clause-step
returns-in-Err-OutOfMemory-clause-step g c =
    let asked = c.in-InsertWithTimeToLive in
    timed (keys g) g.W.Weigh.weighs c.args.cache.now c.insert_with_time_to_live.new.self _ c.args.call asked.key asked.value asked.time_to_live
    asked.now OutOfMemory asked.is (inr (
      refl,
      (refused_of _ _ c.in-Err-OutOfMemory.field-0-is c.in-Err-OutOfMemory.ensures.err).1,
    )) refl

pub returns-in-Modify-clause-step : goal.returns-in-Modify-clause-step
returns-in-Modify-clause-step g c =
    let asked = c.in-Modify in
    modified (keys g) g.W.Weigh.weighs c.args.cache.now c.modify.new.self _ c.args.call asked.key asked.value asked.now _ c.modify.result asked.is
    refl (λ before after changed. search (rules, changed)) c.modify.ensures.step

pub returns-in-RemoveExpired-clause-step : goal.returns-in-RemoveExpired-clause-step
returns-in-RemoveExpired-clause-step g c =
    let asked = c.in-RemoveExpired in
    swept (keys g) g.W.Weigh.weighs c.args.cache.now c.remove_expired.new.self _ c.args.call asked.now g.met.K.Eq.laws asked.is refl
    c.remove_expired.ensures.step
