-- A removal from a shard by a hash of which nothing is known.
use Rattle.std.specs.Prelude.{◌≡◌, ℕ, Option, None, Some, IfSome, option_map}
use Rattle.moka_common.specs.Keys.{Keys}
use Rattle.moka_common.specs.Settings.{Settings}
use Rattle.moka_sync_model.specs.declared.ticket.Ticket.{Ticket}
use Rattle.moka_sync_model.specs.Entry.{Entry, entry_at}
use Rattle.moka_sync_model.specs.Parts.{ShardState}
use Rattle.moka_sync_model.specs.Reply.{IsHanded}
use Rattle.moka_shard.specs.Shard.{unexpired}
use Rattle.moka_shard.specs.ShardStep.{IsInvalidation}

-- the value of an entry, if it counts at a moment
abbrev pub counted_value : {K V S : Type 0} → Settings S → ℕ → ℕ → Option (Entry K V) → Option V
counted_value settings valid_after now present = option_map (λ e. e.value) (unexpired settings valid_after now present)

module _ {K V S T : Type 0} (keys : Keys K S) (holds : K → V → Type 0) (is_taken : V → T → Type 0) (settings : Settings S)
    (valid_after : ℕ) where
  -- the key's entry is out, and what is handed back is of its value, if that counts
  pub record IsSomeTake (old : ShardState K V S) (key : K) (now : ℕ) (handed : Option T) (ticket : Ticket) (new : ShardState K V S) : Type 0 where
    pub ruled : IfSome (counted_value settings valid_after now (entry_at keys.eq key old.entries)) (λ value. holds key value)
    pub value : IsHanded is_taken (counted_value settings valid_after now (entry_at keys.eq key old.entries)) handed
    pub step : IsInvalidation old (entry_at keys.eq key old.entries) (Some ticket) new

  -- that step; or nothing is done, where there is no entry or the hash is not the key's
  abbrev pub IsTakeBy : ShardState K V S → ℕ → K → ℕ → Option T → Option Ticket → ShardState K V S → Type 0
  IsTakeBy old hash key now handed None new =
      (handed ≡ None) × (new ≡ old) × (hash ≡ keys.hash_of old.hash_state key → entry_at keys.eq key old.entries ≡ None)
  IsTakeBy old hash key now handed (Some ticket) new = IsSomeTake old key now handed ticket new
