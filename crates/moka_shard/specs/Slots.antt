-- How a shard's index goes with its slots. No public clause cites this module.
use Rattle.std.specs.Prelude.{◌≡◌, ◌<◌, ℕ, true, List, Option, Some, IsSome}
use Rattle.moka_common.specs.Keys.{Keys}
use Rattle.moka_list.specs.HashIndex.{HashIndex, is_candidate}
use Rattle.moka_sync_model.specs.Ticket.{shard_of}
use Rattle.moka_sync_model.specs.Entry.{Entry}
use Rattle.moka_shard.specs.Shard.{entry_in}

module _ {K V S : Type 0} (keys : Keys K S) where
  -- the entry belongs to the shard of this number, and its ticket was given out
  pub record Belongs (state : S) (number next_number : ℕ) (e : Entry K V) : Type 0 where
    pub here : shard_of e.ticket.hash ≡ number
    pub hashed : e.ticket.hash ≡ keys.hash_of state e.key
    pub given_out : e.ticket.number < next_number

  -- no two slots have one key or one ticket, and each entry belongs to the shard
  pub record AreSlots (state : S) (number next_number : ℕ) (slots : List (Option (Entry K V))) : Type 0 where
    pub keys_apart : (i j : ℕ) (e f : Entry K V) → entry_in slots i ≡ Some e → entry_in slots j ≡ Some f
        → keys.eq e.key f.key ≡ true → i ≡ j
    pub tickets_apart : (i j : ℕ) (e f : Entry K V) → entry_in slots i ≡ Some e → entry_in slots j ≡ Some f → e.ticket ≡ f.ticket → i ≡ j
    pub belong : (i : ℕ) (e : Entry K V) → entry_in slots i ≡ Some e → Belongs state number next_number e

-- each slot with an entry is a candidate of its hash, and there is no other candidate
pub record IsIndexed {K V : Type 0} (slots : List (Option (Entry K V))) (index : HashIndex) : Type 0 where
  pub listed : (i : ℕ) (e : Entry K V) → entry_in slots i ≡ Some e → is_candidate index e.ticket.hash i ≡ true
  pub standing : (hash i : ℕ) → is_candidate index hash i ≡ true → IsSome (entry_in slots i)

-- the same of the slots before this one
pub record IsIndexedBelow {K V : Type 0} (below : ℕ) (slots : List (Option (Entry K V))) (index : HashIndex) : Type 0 where
  pub listed : (i : ℕ) (e : Entry K V) → i < below → entry_in slots i ≡ Some e → is_candidate index e.ticket.hash i ≡ true
  pub standing : (hash i : ℕ) → is_candidate index hash i ≡ true → (i < below) × IsSome (entry_in slots i)
