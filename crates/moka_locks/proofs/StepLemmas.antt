-- A visit as a step of a caller on a cache behind locks.
use Rattle.std.proofs.Common.{◌≡◌, ℕ, Option, Some, None, Result, Ok, Err, IsErr, Bool, true, false, subst}
use Rattle.moka_common.specs.Keys.{Keys}
use Rattle.moka_common.specs.declared.error.OutOfMemory.{OutOfMemory as MemoryError}
use Rattle.moka_sync_model.specs.declared.constants.TheConstants.{CALLER}
use Rattle.moka_sync_model.specs.declared.event.Event.TheVariants.{Get}
use Rattle.moka_sync_model.specs.declared.ticket.Ticket.{Ticket}
use Rattle.moka_sync_model.specs.Steps.{Takes, get_reply, handed_by}
use Rattle.moka_common.specs.Settings.{Settings}
use Rattle.moka_history.specs.Steps as act
use Rattle.moka_history.specs.Steps.{Act}
use Rattle.moka_locks.specs.History.{Knows, Makes, place_of}
use Rattle.moka_locks.specs.Locked.{DoesSeeing, Locked, informed_as, locked_allows, locked_caller, locked_decides}

module _ {K V S W : Type 0} (keys : Keys K S) (holds : K → V → Type 0) (weighs : W → K → V → ℕ → Type 0) (old new : Locked K V S W) (key : K) (now : ℕ) where
  -- a get found something
  abbrev pub FoundSome : Type 0
  FoundSome = (found : V × Ticket) × DoesSeeing keys holds weighs old key (λ valid_after. act.Gets key now valid_after (Some found)) new

  -- a get for which memory was refused
  pub get_refused : (result : Result (Option V) MemoryError) → IsErr result → FoundSome → new ≡ informed_as new old
      → locked_allows keys holds weighs old (Get CALLER key now) (get_reply result) new
  get_refused (Ok found) err did is = let h : false ≡ true = err in absurd (cc)
  get_refused (Err error) err did is = (did, is)

  -- a removal for which it was
  pub take_refused : {T : Type 0} (is_taken : V → T → Type 0) (is_sure : V → Type 0) (result : Result (Option T × Bool) MemoryError) → IsErr result
      → FoundSome → ((value : V) × (¬ (is_sure value))) → new ≡ informed_as new old
      → Takes (locked_allows keys holds weighs) locked_decides locked_caller is_taken is_sure key now (handed_by result) old new
  take_refused is_taken is_sure (Ok taken) err did unsure is = let h : false ≡ true = err in absurd (cc)
  take_refused is_taken is_sure (Err error) err did unsure is = (unsure, (did, is))

  -- a get that found nothing
  pub get_none : (answer : Option (V × Ticket)) → answer ≡ None
      → DoesSeeing keys holds weighs old key (λ valid_after. act.Gets key now valid_after answer) new
      → DoesSeeing keys holds weighs old key (λ valid_after. act.Gets key now valid_after None) new
  get_none answer is did = subst (λ found. DoesSeeing keys holds weighs old key (λ valid_after. act.Gets key now valid_after found) new) is did

-- the same of a visitor and of settings that are these
pub does_here : {K V S : Type 0} {keys : Keys K S} {s settings : Settings S} {u v : Knows K V S} (key : K) (w : Knows K V S) (P : (Act K V → Type 0) → Type 0)
    → s ≡ settings → u ≡ v → P (λ act. Makes keys s u (place_of keys s key) act w) → P (λ act. Makes keys settings v (place_of keys settings key) act w)
does_here {K = K} {V = V} {S = S} {keys = keys} key w P same known =
    subst (λ (z : Settings S × Knows K V S). P (λ act. Makes keys z.0 z.1 (place_of keys z.0 key) act w)) (λ j. (same j, known j))
