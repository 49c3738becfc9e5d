-- What a call tells of the history at its place in it.
use Rattle.std.specs.Prelude.{◌≡◌, ◌⊎◌, ◌↔◌, ℕ, Bool, true, Option, Some, None, Result, Ok, Err, option_map}
use Rattle.moka_common.specs.Keys.{Keys}
use Rattle.moka_common.specs.Settings.{Settings}
use Rattle.moka_common.specs.declared.error.InsertError.{InsertError}
use Rattle.moka_common.specs.declared.error.OutOfMemory as error
use Rattle.moka_sync_model.specs.declared.ticket.Ticket.{Ticket}
use Rattle.moka_sync_model.specs.Entry.{Entry, entry_at}
use Rattle.moka_sync_model.specs.Parts.{ShardState}
use Rattle.moka_sync_model.specs.Reply.{IsHanded}
use Rattle.moka_row.specs.Visits.{at, guest, newcomer}
use Rattle.moka_history.specs.Steps as act
use Rattle.moka_history.specs.LastWrite.{IsCurrent, last_write_of}
use Rattle.moka_history.specs.Laws.{Lacks}
use Rattle.moka_locks.specs.Cache.{Plan}
use Rattle.moka_locks.specs.History.{AnyWeight, Knows, Makes, Puts, place_of, rest, steps}

-- a call of the cache itself is one of a guest that has made no other
abbrev pub ByGuest : {K V S : Type 0} → Plan S → (Knows K V S → Knows K V S → Type 0) → Type 0
ByGuest {K = K} {V = V} {S = S} plan Tells = (seat : ℕ) × (new : Knows K V S) × Tells (newcomer plan (guest seat)) new

-- a clone of what was found, or memory is refused for it
abbrev pub TellsClone : {V E : Type 0} → (V → V → Type 0) → Option V → Result (Option V) E → Type 0
TellsClone is_clone found (Ok None) = found ≡ None
TellsClone {V = V} is_clone found (Ok (Some copy)) = (value : V) × (found ≡ Some value) × is_clone value copy
TellsClone {V = V} is_clone found (Err error) = (value : V) × (found ≡ Some value)

module _ {K V S : Type 0} (keys : Keys K S) (settings : Settings S) where
  -- what is found is current in the history before the call: the last written value, neither invalidated nor removed since, nor expired, nor hidden by an
  -- invalidation of all
  abbrev pub Hits : K → ℕ → ℕ → Option V → Knows K V S → Type 0
  Hits key now valid_after found new =
      (value : V) → found ≡ Some value
      → IsCurrent keys.eq settings.policy valid_after now (act.acts (steps (rest (at new.seen (place_of keys settings key))))) key value

  -- nothing is found exactly for a reason that stands in that history
  abbrev pub Misses : K → ℕ → ℕ → Option V → Knows K V S → Type 0
  Misses key now valid_after found new =
      (found ≡ None) ↔ Lacks V keys AnyWeight settings valid_after now (steps (rest (at new.seen (place_of keys settings key)))) key

  -- the value stands at its key
  abbrev pub Stands : K → V → ℕ → Ticket → ShardState K V S → Type 0
  Stands key value now t shard =
      (e : Entry K V) × (entry_at keys.eq key shard.entries ≡ Some e)
      × (last_write_of e ≡ record { value = value; written = now; used = now; ticket = t })

  -- what a get makes and tells, in the shard of its key, where what was written or used before a moment is hidden
  pub record Gets (is_clone : V → V → Type 0) (old : Knows K V S) (key : K) (now valid_after : ℕ) (result : Result (Option V) error.OutOfMemory)
      (new : Knows K V S) : Type 0 where
    pub found : Option (V × Ticket)
    pub told : TellsClone is_clone (option_map (λ f. f.0) found) result
    pub made : Makes keys settings old (place_of keys settings key) (act.Gets key now valid_after found) new
    pub hit : Hits key now valid_after (option_map (λ f. f.0) found) new
    pub miss : Misses key now valid_after (option_map (λ f. f.0) found) new

  -- what a look makes and tells: where the key is there, some value is current
  pub record Looks (old : Knows K V S) (key : K) (now valid_after : ℕ) (there : Bool) (new : Knows K V S) : Type 0 where
    pub made : Makes keys settings old (place_of keys settings key) (act.Looks key now valid_after there) new
    pub hit : there ≡ true
        → (value : V) × IsCurrent keys.eq settings.policy valid_after now (act.acts (steps (rest (at new.seen (place_of keys settings key))))) key value

  -- what an insert makes and tells: if it is accepted, its value stands at the key behind it. Memory may be refused before the shard is visited.
  abbrev pub Inserts : (K → V → ℕ → Type 0) → Knows K V S → K → V → ℕ → Result (Unit {0}) InsertError → Knows K V S → Type 0
  Inserts weighs old key value now (Ok done) new =
      (t : Ticket) × (puts : Puts keys settings weighs old key value now (Ok t) new) × Stands key value now t puts.made.made.step.after
  Inserts weighs old key value now (Err error) new = (new ≡ old) ⊎ Puts keys settings weighs old key value now (Err error) new

  -- what a removal makes and tells: what it hands back is what a get in its place would find. If memory for that is refused, it is a get.
  abbrev pub Removes : (V → V → Type 0) → Knows K V S → K → ℕ → ℕ → Result (Option V) error.OutOfMemory → Knows K V S → Type 0
  Removes is_clone old key now valid_after (Ok handed) new =
      (found : Option V) × (left : Option Ticket) × IsHanded is_clone found handed
      × Makes keys settings old (place_of keys settings key) (act.Takes key now valid_after found left) new × Hits key now valid_after found new
  Removes is_clone old key now valid_after (Err error) new =
      (found : V × Ticket) × Makes keys settings old (place_of keys settings key) (act.Gets key now valid_after (Some found)) new
