-- What is found in a slot is the key's.
use Rattle.std.proofs.Common.{◌≡◌, ◌∙◌, ℕ, Bool, true, false, List, Option, Some, None, IfSome}
use Rattle.std.proofs.Common.{IsSome, is_some, sym, ap, subst}
use Rattle.std.specs.Option.{option_map}
use Rattle.moka_common.specs.Settings.{Settings}
use Rattle.moka_sync_model.specs.declared.ticket.Ticket.{Ticket}
use Rattle.moka_sync_model.specs.Entry.{Entry, entry_at}
use Rattle.moka_shard.specs.Shard.{entries_in, entry_found, entry_in, unexpired}

module _ {K V S : Type 0} (settings : Settings S) (valid_after now : ℕ) (eq : K → K → Bool) (key : K) (slots : List (Option (Entry K V))) where
  -- it counts
  abbrev pub counting : Option (Entry K V) → Option (Entry K V)
  counting found = unexpired settings valid_after now found

  -- its value and its ticket, if it does
  abbrev pub shown : Option (Entry K V) → Option (V × Ticket)
  shown found = option_map (λ e. (e.value, e.ticket)) (counting found)

  -- a slot that was found is the key's
  abbrev pub IsOwn : Option ℕ → Type 0
  IsOwn slot = IfSome slot (λ s. entry_in slots s ≡ entry_at eq key (entries_in slots))

  -- what is found is the key's
  pub found_is : (slot : Option ℕ) → IsOwn slot → (found : Option (V × Ticket)) → found ≡ shown (entry_found slots slot) → IsSome found
      → found ≡ shown (entry_at eq key (entries_in slots))
  found_is None own found is some = let h : false ≡ true = sym (ap is_some is) ∙ some in absurd (cc)
  found_is (Some s) own found is some = is ∙ ap shown own

  -- so is what counts
  pub counts_is : (slot : Option ℕ) → IsOwn slot → IsSome (counting (entry_found slots slot))
      → IsSome (counting (entry_at eq key (entries_in slots)))
  counts_is None own some = let h : false ≡ true = some in absurd (cc)
  counts_is (Some s) own some = subst (λ o. IsSome (counting o)) own some
