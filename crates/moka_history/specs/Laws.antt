-- What a contract sees of the laws over the steps on a shard, which `src/laws.rt` promises.
use Rattle.std.specs.Prelude.{◌≡◌, ◌⊎◌, ◌↔◌, ℕ, true, List, Option, Some, None, option_map, Ok}
use Rattle.moka_common.specs.Keys.{Keys}
use Rattle.moka_common.specs.Settings.{Settings}
use Rattle.moka_sync_model.specs.declared.ticket.Ticket.{Ticket}
use Rattle.moka_sync_model.specs.Entry.{Entry, entry_at}
use Rattle.moka_sync_model.specs.Parts.{ShardState}
use Rattle.moka_history.specs.Steps.{Step, Gets, Inserts, Takes, IsAct, Leads, acts, new_shard}
use Rattle.moka_history.specs.LastWrite.{IsCurrent, LastWrite, is_over, last_write, last_write_of}
use Rattle.moka_history.specs.Cause.{IsMissing}

module _ {K S : Type 0} (V : Type 0) (keys : Keys K S) (weighs : K → V → ℕ → Type 0) (settings : Settings S) where
  -- why a call at a moment finds nothing: the key is missing for a reason, or its last write counts no more
  abbrev pub Lacks : ℕ → ℕ → List (Step K V S) → K → Type 0
  Lacks valid_after now past key =
      IsMissing keys settings past key
      ⊎ ((write : LastWrite V) × (last_write keys.eq key (acts past) ≡ Some write) × (is_over settings.policy valid_after now write ≡ true))

  -- from a new shard, a value that a get finds is the last one written at the key, and is current; it was given that ticket
  abbrev pub HitsAreCurrent : Type 0
  HitsAreCurrent =
      (number first : ℕ) (past : List (Step K V S)) (shard new : ShardState K V S) (key : K) (now valid_after : ℕ) (value : V) (t : Ticket) →
      Leads keys weighs settings (new_shard settings number first) past shard →
      IsAct keys weighs settings shard (Gets key now valid_after (Some (value, t))) new →
      IsCurrent keys.eq settings.policy valid_after now (acts past) key value

  -- and it finds nothing exactly for such a reason
  abbrev pub MissesHaveAReason : Type 0
  MissesHaveAReason =
      (number first : ℕ) (past : List (Step K V S)) (shard new : ShardState K V S) (key : K) (now valid_after : ℕ) (found : Option (V × Ticket)) →
      Leads keys weighs settings (new_shard settings number first) past shard →
      IsAct keys weighs settings shard (Gets key now valid_after found) new →
      (found ≡ None) ↔ Lacks valid_after now past key

  -- a removal hands back what a get in its place would find
  abbrev pub RemoveAsGet : Type 0
  RemoveAsGet =
      (shard left : ShardState K V S) (key : K) (now valid_after : ℕ) (found : Option V) (t : Option Ticket) →
      IsAct keys weighs settings shard (Takes key now valid_after found t) left →
      (got : Option (V × Ticket)) × IsAct keys weighs settings shard (Gets key now valid_after got) shard × (found ≡ option_map (λ g. g.0) got)

  -- from a new shard, the value of an accepted insert stands at its key
  abbrev pub InsertsStand : Type 0
  InsertsStand =
      (number first : ℕ) (past : List (Step K V S)) (shard new : ShardState K V S) (key : K) (value : V) (now : ℕ) (t : Ticket) →
      Leads keys weighs settings (new_shard settings number first) past shard →
      IsAct keys weighs settings shard (Inserts key value now (Ok t)) new →
      (e : Entry K V) × (entry_at keys.eq key new.entries ≡ Some e)
      × (last_write_of e ≡ record { value = value; written = now; used = now; ticket = t })
