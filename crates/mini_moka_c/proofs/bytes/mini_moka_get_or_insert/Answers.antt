use Rattle.std.proofs.Common.{◌≡◌, ◌∙◌, List, ℕ, None, Option, Some, ap, false, inl, inr, is_some, length, option_map, refl, rules, subst, sym}
use Rattle.std.proofs.lemmas.Bool.{false≢true}
use Rattle.moka_unsync_model.specs.Lookup.{found_by_get}
use Rattle.mini_moka_c.specs.Buffer.{copied_to}
use Rattle.mini_moka_c.specs.ByteCalls.{TellsBytesFound, TellsBytesGotOrInserted}
use Rattle.mini_moka_c.specs.ByteKeys.{byte_keys}
use Rattle.mini_moka_c.specs.Calls.{OnBytes, OnOpen}
use Rattle.mini_moka_c.specs.declared.handle.AnyCache.TheVariants.{Bytes}
use Rattle.mini_moka_c.proofs.bytes.mini_moka_get_or_insert.Goals as goal

-- a value without a length is none
no_value : (found : Option (List ℕ)) → is_some (option_map length found) ≡ false → found ≡ None
no_value None is = refl
no_value (Some value) is = absurd (false≢true (sym is))

pub returns-in-Ok-insert_hashed-clause-step : goal.returns-in-Ok-insert_hashed-clause-step
returns-in-Ok-insert_hashed-clause-step c =
    let old = c.in-Ok.bytes.now in
    let missed = c.get_hashed-found.new.self in
    let new = c.insert_hashed.new.self in
    let key = c.args.key.now in
    let otherwise = c.args.otherwise.now in
    let status = c.tell_copy.result in
    let at = c.from_nanos-now.result in
    let get = c.get_hashed-found.ensures in
    let is : c.args.handle.now.value ≡ Some (Bytes old) = search rules in
    let empty : is_some c.get_hashed-found.result ≡ false = search rules in
    let none = no_value (found_by_get byte_keys old.cache key at) (ap is_some (sym get.value) ∙ empty) in
    let same = subst (λ value. c.get_hashed-found.new.buffer ≡ copied_to c.args.buffer.now value) none get.copied in
    let told = subst (λ given. TellsBytesFound (Some otherwise) given status c.tell_copy.new.buffer c.tell_copy.new.length) same c.tell_copy.ensures.told in
    let gives = λ (now : ℕ). TellsBytesGotOrInserted key otherwise now c.args.buffer.now status c.tell_copy.new.buffer c.tell_copy.new.length in
    subst (λ kept. OnOpen kept status (Some (Bytes new)) (OnBytes status (gives c.args.now))) (sym is)
    (subst (λ now. gives now old new) c.from_nanos-now.ensures
    (inr (missed, none, get.step, inl (told, (c.in-Ok-insert_hashed.ensures {u = tt}).step))))

pub returns-in-Err-insert_hashed-clause-step : goal.returns-in-Err-insert_hashed-clause-step
returns-in-Err-insert_hashed-clause-step c =
    let old = c.in-Ok.bytes.now in
    let missed = c.get_hashed-found.new.self in
    let new = c.insert_hashed.new.self in
    let key = c.args.key.now in
    let get = c.get_hashed-found.ensures in
    let is : c.args.handle.now.value ≡ Some (Bytes old) = search rules in
    let empty : is_some c.get_hashed-found.result ≡ false = search rules in
    let none = no_value (found_by_get byte_keys old.cache key c.from_nanos-now.result) (ap is_some (sym get.value) ∙ empty) in
    let gives = λ (now : ℕ). TellsBytesGotOrInserted key c.args.otherwise.now now c.args.buffer.now 4 c.get_hashed-found.new.buffer c.args.length.now in
    subst (λ kept. OnOpen kept 4 (Some (Bytes new)) (OnBytes 4 (gives c.args.now))) (sym is)
    (subst (λ now. gives now old new) c.from_nanos-now.ensures
    (inr (missed, none, get.step, inr (refl, (c.in-Err-insert_hashed.ensures {u = tt}).refused))))
