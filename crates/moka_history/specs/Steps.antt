-- The steps on a shard, which its lock puts in one order: the calls of a key, and the turns of maintenances.
use Rattle.std.specs.Prelude.{◌≡◌, ℕ, Bool, is_some, List, [], ◌∷◌, Option, option_map, Result, OnOk}
use Rattle.moka_common.specs.Keys.{Keys}
use Rattle.moka_common.specs.Settings.{Settings}
use Rattle.moka_common.specs.declared.error.InsertError.{InsertError}
use Rattle.moka_sync_model.specs.declared.ticket.Ticket.{Ticket}
use Rattle.moka_sync_model.specs.CoreState.{Maintenance}
use Rattle.moka_sync_model.specs.Entry.{entry_at, touched}
use Rattle.moka_sync_model.specs.Parts.{ShardState, IsValidShard}
use Rattle.moka_sync_model.specs.Turn.Plan.{Becomes, after_change}
use Rattle.moka_shard.specs.Shard.{unexpired}
use Rattle.moka_shard.specs.ShardStep.{IsInsert, IsInvalidation, pairs_at}
use Rattle.moka_shard.specs.ShardTurn.{TurnsOnShard}

-- what was done in a step. A call that tells live entries from others names its moment, and the moment of invalidation that it loaded.
pub data Act (K V : Type 0) : Type 0 where
  -- what a get found, and with which ticket
  Gets : K → ℕ → ℕ → Option (V × Ticket) → Act K V
  -- whether a key was found to be there
  Looks : K → ℕ → ℕ → Bool → Act K V
  -- the pairs that were copied
  Copies : ℕ → ℕ → List (K × V) → Act K V
  -- a pair and its moment, and the answer
  Inserts : K → V → ℕ → Result Ticket InsertError → Act K V
  -- the ticket of what left
  Invalidates : K → Option Ticket → Act K V
  -- the value that was handed back, if it was live, and the ticket of what left
  Takes : K → ℕ → ℕ → Option V → Option Ticket → Act K V
  -- the read of this moment was applied to the entry of the ticket
  Touches : Ticket → ℕ → Act K V
  -- a maintenance that stood so took its turn at the entry of the ticket, with this moment of invalidation
  Turns : Maintenance → ℕ → Ticket → Act K V

-- a step, and the shard before and after it
pub record Step (K V S : Type 0) : Type 0 where
  pub before : ShardState K V S
  pub act : Act K V
  pub after : ShardState K V S

-- a shard as it is built
abbrev pub new_shard : {K V S : Type 0} → Settings S → ℕ → ℕ → ShardState K V S
new_shard settings number first = record { number = number; next_number = first; entries = []; hash_state = settings.hash_state }

-- what was done, the last first
abbrev pub acts : {K V S : Type 0} → List (Step K V S) → List (Act K V)
acts [] = []
acts (step ∷ earlier) = step.act ∷ acts earlier

module _ {K V S : Type 0} (keys : Keys K S) (weighs : K → V → ℕ → Type 0) (settings : Settings S) where
  -- this was done, and left that shard
  abbrev pub IsAct : ShardState K V S → Act K V → ShardState K V S → Type 0
  IsAct old (Gets key now valid_after found) new =
      (found ≡ option_map (λ e. (e.value, e.ticket)) (unexpired settings valid_after now (entry_at keys.eq key old.entries))) × (new ≡ old)
  IsAct old (Looks key now valid_after there) new =
      (there ≡ is_some (unexpired settings valid_after now (entry_at keys.eq key old.entries))) × (new ≡ old)
  IsAct old (Copies now valid_after pairs) new = (pairs ≡ pairs_at settings valid_after now old) × (new ≡ old)
  IsAct old (Inserts key value now answer) new =
      (weight : ℕ) × (refused : Bool) × OnOk answer (weighs key value weight)
      × IsInsert old (keys.hash_of old.hash_state key) key value weight now refused (entry_at keys.eq key old.entries) answer new
  IsAct old (Invalidates key left) new = IsInvalidation old (entry_at keys.eq key old.entries) left new
  IsAct old (Takes key now valid_after found left) new =
      (found ≡ option_map (λ e. e.value) (unexpired settings valid_after now (entry_at keys.eq key old.entries)))
      × IsInvalidation old (entry_at keys.eq key old.entries) left new
  IsAct old (Touches t moment) new = new ≡ record old { entries = after_change t (Becomes (touched moment)) old.entries }
  IsAct old (Turns m valid_after t) new = (refused : Bool) × (next : Maintenance) × TurnsOnShard settings valid_after refused t m next old new

  -- these steps, the last one first, lead from one shard to another
  abbrev pub Leads : ShardState K V S → List (Step K V S) → ShardState K V S → Type 0
  Leads old [] new = new ≡ old
  Leads old (step ∷ earlier) new =
      (step.after ≡ new) × IsAct step.before step.act step.after × IsValidShard keys step.after × Leads old earlier step.before
