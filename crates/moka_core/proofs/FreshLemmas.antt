-- Two ways to say that an entry counts.
use Rattle.std.proofs.Common.{◌≡◌, ℕ, not, false, Option, None, Some, is_some, refl, inl, inr}
use Rattle.std.specs.Option.{option_map_or}
use Rattle.std.proofs.lemmas.Bool.{cases_Bool}
use Rattle.moka_common.specs.Settings.{Settings}
use Rattle.moka_sync_model.specs.CoreState.{is_expired}
use Rattle.moka_sync_model.specs.Entry.{Entry}
use Rattle.moka_shard.specs.Shard.{unexpired}

-- there is an unexpired entry where there is one that isn't expired
pub fresh_is_unexpired : {K V S : Type 0} (settings : Settings S) (valid_after now : ℕ) (o : Option (Entry K V))
    → is_some (unexpired settings valid_after now o) ≡ option_map_or (λ e. not (is_expired settings valid_after now e)) o false
fresh_is_unexpired settings valid_after now None = refl
fresh_is_unexpired settings valid_after now (Some e) =
    elim (cases_Bool (is_expired settings valid_after now e)) [
      | inl over ↦ rw over
      | inr fresh ↦ rw fresh
    ]
