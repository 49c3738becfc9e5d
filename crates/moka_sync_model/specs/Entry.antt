-- What a contract sees of an entry.
use Rattle.std.specs.Prelude.{ℕ, ◌+◌, ◌-◌, max, Bool, List, Option}
use Rattle.std.specs.List.{find}
use Rattle.moka_sync_model.specs.declared.ticket.Ticket.{Ticket}
use Rattle.moka_sync_model.specs.Ticket.{of_ticket}

-- a key with its value and what the cache keeps of them; its hash is the ticket's
pub record Entry (K V : Type 0) : Type 0 where
  pub key : K
  pub value : V
  pub weight : ℕ
  -- the moments of the last read or write, and of the last write
  pub accessed : ℕ
  pub modified : ℕ
  pub ticket : Ticket
  -- how many upserts of its ticket the maintenance has not done
  pub outstanding : ℕ

module _ {K V : Type 0} where
  -- the entry of the ticket
  abbrev pub entry_of : Ticket → List (Entry K V) → Option (Entry K V)
  entry_of t entries = of_ticket (λ e. e.ticket) t entries

  -- the entry that stands at the key
  abbrev pub entry_at : (K → K → Bool) → K → List (Entry K V) → Option (Entry K V)
  entry_at eq key entries = find (λ e. eq key e.key) entries

  -- accessed at a moment, or later
  abbrev pub touched : ℕ → Entry K V → Entry K V
  touched moment e = record e { accessed = max e.accessed moment }

  -- with another value, weight and moment, and one more upsert outstanding
  abbrev pub updated : V → ℕ → ℕ → Entry K V → Entry K V
  updated value weight now e = record e { value = value; weight = weight; accessed = now; modified = now; outstanding = e.outstanding + 1 }

  -- one upsert fewer is outstanding
  abbrev pub with_upsert_done : Entry K V → Entry K V
  with_upsert_done e = record e { outstanding = e.outstanding - 1 }
