-- What a removal from a shard does, and what its result tells of the step.
use Rattle.std.proofs.Common.{◌≡◌, ℕ, true, false, Option, Some, None, Result, Ok, Err, IfOk, IfSome, IsErr, IsSome, OnErr, refl, subst, sym}
use Rattle.std.specs.Option.{option_map}
use Rattle.moka_common.specs.Keys.{Keys}
use Rattle.moka_common.specs.Settings.{Settings}
use Rattle.moka_sync_model.specs.declared.ticket.Ticket.{Ticket}
use Rattle.moka_sync_model.specs.Entry.{Entry, entry_at}
use Rattle.moka_sync_model.specs.Parts.{ShardState}
use Rattle.moka_sync_model.specs.Reply.{IsHanded}
use Rattle.moka_shard.specs.Shard.{unexpired}
use Rattle.moka_shard.specs.ShardTake.{IsTakeBy, counted_value}
use Rattle.moka_history.specs.Steps.{Act, Gets, Takes, IsAct}
use Rattle.moka_locks.specs.History.{AnyWeight, IsOfShard, found_at, moment_of, place_of, take_act}

-- the value of what was found
abbrev pub value_in : {V : Type 0} → Option (V × Ticket) → Option V
value_in {V = V} o = option_map (λ (f : V × Ticket). f.0) o

-- what a removal from a shard does, by what a get in its place finds: it hands that back, or it is a get that found something
pub record TookBy {K V S T E : Type 0} (keys : Keys K S) (holds : K → V → Type 0) (is_taken : V → T → Type 0) (settings : Settings S)
    (old : ShardState K V S) (key : K) (now valid_after : ℕ) (result : Result (Option T × Option Ticket) E) (new : ShardState K V S) : Type 0 where
  pub handed : IfOk result (λ taken. IsHanded is_taken (value_in (found_at keys.eq settings old key now valid_after)) taken.0)
  pub ruled : IfOk result (λ taken. IfSome (value_in (found_at keys.eq settings old key now valid_after)) (λ value. holds key value))
  pub refused : IsErr result → IsSome (found_at keys.eq settings old key now valid_after)
  pub did : IsAct keys AnyWeight settings old (take_act key now valid_after (found_at keys.eq settings old key now valid_after) result) new

-- what follows from a refusal's clause
pub on_err : {T E X Y : Type 0} (answer : Result T E) → OnErr answer X → (X → Y) → OnErr answer Y
on_err (Ok t) holds follows = tt
on_err (Err e) holds follows = follows holds

-- the value and the ticket of an entry
abbrev pair_of : {K V : Type 0} → Option (Entry K V) → Option (V × Ticket)
pair_of o = option_map (λ e. (e.value, e.ticket)) o

module _ {K V : Type 0} where
  values : (o : Option (Entry K V)) → option_map (λ (e : Entry K V). e.value) o ≡ value_in (pair_of o)
  values None = refl
  values (Some e) = refl

  some_found : (o : Option (Entry K V)) (value : V) → option_map (λ (e : Entry K V). e.value) o ≡ Some value → IsSome (pair_of o)
  some_found None value is = absurd (cc)
  some_found (Some e) value is = refl

module _ {K V S T E : Type 0} (keys : Keys K S) (holds : K → V → Type 0) (is_taken : V → T → Type 0) (settings : Settings S)
    (old new : ShardState K V S) (hash : ℕ) (key : K) (now valid_after : ℕ) (hashed : hash ≡ keys.hash_of old.hash_state key) where
  pub take_by : (result : Result (Option T × Option Ticket) E)
      → IfOk result (λ taken. IsTakeBy keys holds is_taken settings valid_after old hash key now taken.0 taken.1 new)
      → OnErr result ((new ≡ old) × ((value : V) × (counted_value settings valid_after now (entry_at keys.eq key old.entries) ≡ Some value)))
      → TookBy keys holds is_taken settings old key now valid_after result new
  take_by (Err error) ok refused =
      let stood = unexpired settings valid_after now (entry_at keys.eq key old.entries) in
      record { handed = tt; ruled = tt; refused = λ _. some_found stood refused.1.0 refused.1.1; did = (refl, refused.0) }
  take_by (Ok (handed, Some ticket)) made refused =
      let stood = unexpired settings valid_after now (entry_at keys.eq key old.entries) in
      record {
        handed = subst (λ f. IsHanded is_taken f handed) (values stood) made.value;
        ruled = subst (λ f. IfSome f (λ value. holds key value)) (values stood) made.ruled;
        refused = λ is. let h : false ≡ true = is in absurd (cc);
        did = (sym (values stood), made.step);
      }
  take_by (Ok (handed, None)) made refused =
      let stood = unexpired settings valid_after now (entry_at keys.eq key old.entries) in
      let absent : entry_at keys.eq key old.entries ≡ None = made.2 hashed in
      record {
        handed = rw (absent, made.0) tt;
        ruled = rw absent tt;
        refused = λ is. let h : false ≡ true = is in absurd (cc);
        did = (sym (values stood), rw absent (refl, made.1));
      }

-- a removal is of the shard of its key
pub take_of_shard : {K V S T E : Type 0} (keys : Keys K S) (settings : Settings S) (i : ℕ) (key : K) (now valid_after : ℕ) (found : Option (V × Ticket))
    (result : Result (T × Option Ticket) E) → place_of keys settings key ≡ i → IsOfShard keys settings i (take_act key now valid_after found result)
take_of_shard keys settings i key now valid_after found (Ok taken) own = own
take_of_shard keys settings i key now valid_after found (Err error) own = own

-- a removal hides by its moment, also if it is a get
pub take_moment : {K V T E : Type 0} (key : K) (now valid_after : ℕ) (found : Option (V × Ticket)) (result : Result (T × Option Ticket) E)
    → moment_of (take_act key now valid_after found result) ≡ Some valid_after
take_moment key now valid_after found (Ok taken) = refl
take_moment key now valid_after found (Err error) = refl

-- what holds of the step holds by its result
module _ {K V T E : Type 0} (holds : V → Type 0) (is_taken : V → T → Type 0) (M : Act K V → Type 0) (key : K) (now valid_after : ℕ) where
  pub take_tells : (found : Option (V × Ticket)) (result : Result (Option T × Option Ticket) E)
      → IfOk result (λ taken. IsHanded is_taken (value_in found) taken.0) → IfOk result (λ taken. IfSome (value_in found) holds)
      → (IsErr result → IsSome found) → M (take_act key now valid_after found result)
      → IfOk result (λ taken. (value : Option V) × IsHanded is_taken value taken.0 × IfSome value holds × M (Takes key now valid_after value taken.1))
      × OnErr result ((f : V × Ticket) × M (Gets key now valid_after (Some f)))
  take_tells found (Ok taken) handed ruled refused m = ((value_in found, handed, ruled, m), tt)
  take_tells None (Err e) handed ruled refused m = let h : false ≡ true = refused refl in absurd (cc)
  take_tells (Some f) (Err e) handed ruled refused m = (tt, (f, m))

pub both_err : {T E : Type 0} (X Y : Type 0) (answer : Result T E) → OnErr answer X → OnErr answer Y → OnErr answer (X × Y)
both_err X Y (Ok t) x y = tt
both_err X Y (Err e) x y = (x, y)
