-- What a batch of entries leaves that go one after another. No public clause cites this module.
use Rattle.std.specs.Prelude.{◌≡◌, ℕ, suc, Bool, true, false, List, nat_eq, take, Option, Some, option_map}
use Rattle.std.specs.Map.{lookup}
use Rattle.moka_common.specs.Policy.{Policy}
use Rattle.moka_unsync_model.specs.declared.entry.Entry.{Entry}
use Rattle.moka_unsync_model.specs.declared.entry.Part.{Part}
use Rattle.moka_unsync_model.specs.Contents.{Contents, after_leaving, entry_keys, is_window, main_of}
use Rattle.moka_unsync_model.specs.Cleanup.{after_idle}
use Rattle.moka_store.specs.Store.{Store, those_of}

-- one left and the others are up to further turns, or none is left to leave
abbrev pub IsTurn : {X : Type 0} → (ℕ → X → X) → Bool → X → X → Type 0
IsTurn batch true old new = (most : ℕ) → batch (suc most) old ≡ batch most new
IsTurn batch false old new = (new ≡ old) × ((most : ℕ) → batch most old ≡ old)

-- as many entries from the front, where there is a number
abbrev pub counted : {X : Type 0} → List X → Option ℕ → Option (List X)
counted entries count = option_map (λ n. take n entries) count

-- the window's nodes stand as before
pub record WindowStands {K V : Type 0} (old new : Store K V) : Type 0 where
  pub each : (id : ℕ) (e : Entry K V) → lookup (nat_eq id) old.nodes ≡ Some e → is_window e.part ≡ true → lookup (nat_eq id) new.nodes ≡ Some e

module _ {K V : Type 0} (eq : K → K → Bool) where
  -- the contents once so many of main's least recently used entries have left
  abbrev pub after_eviction_of : ℕ → Contents K V → Contents K V
  after_eviction_of count contents = after_leaving eq (entry_keys (take count (main_of contents.entries))) contents

  -- the contents once the longest beginning of a part that was idle too long has left, but at most so many
  abbrev pub after_idle_of : Part → Policy → ℕ → ℕ → Contents K V → Contents K V
  after_idle_of part policy now most contents = after_idle eq policy now most (those_of part contents.entries) contents
